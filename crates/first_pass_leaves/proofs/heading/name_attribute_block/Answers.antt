use Rattle.std.proofs.Common.{◌≡◌, ◌+◌, ℕ, List, not, length, None, refl, sym, ap, subst, ◌∙◌}
use Rattle.first_pass_grammar.proofs.Common.{before_attributes, heading_attributes_of, NamesAttributes}
use Rattle.first_pass_leaves.proofs.Common.{names_of, line_end_at, line_from}
use Rattle.first_pass_grammar.proofs.Names.MoreNames.{extends_none}
use Rattle.first_pass_leaves.proofs.AttributeEnds.{no_braces, given_none, block_named, none_named}
use Rattle.first_pass_leaves.proofs.HeadingLemmas.{line_between, place_none, place_some}
use Rattle.first_pass_leaves.proofs.heading.name_attribute_block.Goals as goal
use Rattle.first_pass_leaves.proofs.heading.name_attribute_block.Goals.{In_ok-opening}

pub returns-then-not-contains-clause-place : goal.returns-then-not-contains-clause-place
returns-then-not-contains-clause-place c =
    let options = c.args.source.now.options in
    let text : List ℕ = c.args.source.now.text.now in
    sym (place_none options text c.args.start (no_braces options (line_from text c.args.start) (sym (c.contains.ensures tt) ∙ c.if-not-contains.true)))

pub returns-then-not-contains-clause-more : goal.returns-then-not-contains-clause-more
returns-then-not-contains-clause-more c = record { names = extends_none (names_of c.args.allocs.now); entries = refl }

pub returns-then-not-contains-clause-named : goal.returns-then-not-contains-clause-named
returns-then-not-contains-clause-named c more e =
    let options = c.args.source.now.options in
    let line : List ℕ = line_from c.args.source.now.text.now c.args.start in
    subst (NamesAttributes more None) (sym (given_none options line (no_braces options line (sym (c.contains.ensures tt) ∙ c.if-not-contains.true)))) tt

-- the line that was read ends where it should
line_ends : (c : In_ok-opening) → c.next_line-line_end.result ≡ line_end_at c.args.source.now.text.now c.args.start
line_ends c = c.next_line-line_end.ensures.value ∙ ap (λ t. line_end_at t c.args.start) c.as_bytes.ensures.value

-- and its attributes are named
line_named : (c : In_ok-opening) → NamesAttributes (names_of c.name_attributes.new.allocs) c.in_ok-opening.index
    (heading_attributes_of c.args.source.now.options (line_from c.args.source.now.text.now c.args.start))
line_named c =
    let names = names_of c.name_attributes.new.allocs in
    rw (line_between c.args.source.now.text.now c.args.start c.next_line-line_end.result (line_ends c))
    at (c.in_ok-opening.ensures.named names (extends_none names))

pub returns-then-is_none-clause-place : goal.returns-then-is_none-clause-place
returns-then-is_none-clause-place c =
    let options = c.args.source.now.options in
    let text : List ℕ = c.args.source.now.text.now in
    sym (place_none options text c.args.start
    (none_named options (line_from text c.args.start) (names_of c.name_attributes.new.allocs) c.in_ok-opening.index
    (line_named (goal.at.returns-then-is_none-clause-place c).In_ok-opening) (c.is_none.ensures ∙ ap not c.if-is_none.true)))

pub returns-clause-place : goal.returns-clause-place
returns-clause-place c =
    let options = c.args.source.now.options in
    let text : List ℕ = c.args.source.now.text.now in
    let start : ℕ = c.args.start in
    let found = (goal.at.returns-clause-place c).In_ok-opening in
    let ends = line_ends found in
    let (block, at) = block_named options (line_from text start) (names_of c.name_attributes.new.allocs) c.in_ok-opening.index (line_named found)
    (c.is_none.ensures ∙ ap not c.if-is_none.false) in
    place_some options text start c.in_ok-opening.opening c.next_line-line_end.result block at
    (c.in_ok-opening.ensures.content
    ∙ ap (λ xs. start + length (before_attributes options xs)) (line_between text start c.next_line-line_end.result ends)) ends
