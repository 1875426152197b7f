use Rattle.std.proofs.Common.{rules, ◌<◌, ◌++◌, false, length, refl}
use Rattle.std.proofs.lemmas.List.{nil_from_length}
use Rattle.first_pass_emphasis.specs.Parts.{raw}
use Rattle.first_pass_emphasis.specs.Quotes.{quoted}
use Rattle.first_pass_emphasis.proofs.Pairs.{at_quote, quote_within, quote_written, quoting_ends}
use Rattle.first_pass_emphasis.proofs.quotes.pair_quotes.Goals as goal

pub index_mut-requires : goal.index_mut-requires
index_mut-requires c =
    let outside = c.requires.level.0 in
    let ts = c.requires.level.1 in
    let all = outside ++ raw (quoted false false ts) in
    let less : c.in-Some.placed.now.at < length c.loop-placed.roles.items =
    quote_within all c.loop-placed.double c.loop-placed.single c.in-Some.placed.now c.in-Some.later.now c.loop-placed.roles.items
    (at_quote all c.loop-placed.double c.loop-placed.single c.in-Some.placed.now c.in-Some.later.now c.loop-placed.roles.items c.loop-placed.rest.now
    c.in-Some.ensures.cases.0 (c.loop-placed.invariant outside ts c.requires.level.2)) in
    search (rules, less)

pub loop-placed-preserved : goal.loop-placed-preserved
loop-placed-preserved c = λ outside ts level.
    let all = outside ++ raw (quoted false false ts) in
    quote_written all c.loop-placed.double c.loop-placed.single c.begins_pair-begins.result c.double_after-double.result c.single_after-single.result
    c.in-Some.placed.now c.in-Some.later.now c.loop-placed.roles.items _ c.quote_role.result
    (at_quote all c.loop-placed.double c.loop-placed.single c.in-Some.placed.now c.in-Some.later.now c.loop-placed.roles.items c.loop-placed.rest.now
    c.in-Some.ensures.cases.0 (c.loop-placed.invariant outside ts level)) c.begins_pair-begins.ensures c.quote_role.ensures refl
    c.double_after-double.ensures c.single_after-single.ensures

pub returns : goal.returns
returns c = λ outside ts level.
    quoting_ends (outside ++ raw (quoted false false ts)) c.loop-placed.double c.loop-placed.single c.loop-placed.rest.now c.loop-placed.roles.items
    (c.loop-placed.invariant outside ts level) (nil_from_length c.loop-placed.rest.now c.in_default.ensures.cases)
