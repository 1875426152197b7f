use Rattle.std.proofs.Common.{◌≡◌, Some, None, refl, sym, ap, ◌∙◌, arith}
use Rattle.first_pass_grammar.proofs.Common.{Place, place_at, offset}
use Rattle.first_pass_containers.proofs.Common.{item_at, marker_where, start_item, start_definition, start_quote, start_none, item_keeps, quote_absent}
use Rattle.first_pass_containers.proofs.Openings.Indented.{no_item, no_definition, no_quote_prefix, is_far, is_indented, definition_found, marker_absent}
use Rattle.first_pass_containers.proofs.Openings.Indented.{quote_here}
use Rattle.first_pass_containers.proofs.Openings.OpenerLemmas.{item_found}
use Rattle.first_pass_containers.proofs.openers.start_at.Goals.{In-Some, In_default-scan_definition}
use Rattle.first_pass_containers.proofs.openers.start_at.Goals as goal

-- no container begins after four columns or more
pub returns-then-columns-ge4 : goal.returns-then-columns-ge4
returns-then-columns-ge4 c = grind (arith, is_far, start_none, no_item, no_definition, no_quote_prefix)

-- what each call reads begins with the indentation
pub scan_item-requires : goal.scan_item-requires
scan_item-requires c = grind (arith, is_indented)

pub scan_definition-requires : goal.scan_definition-requires
scan_definition-requires c = grind (arith, marker_absent, is_indented)

-- neither an item nor a definition was read before the search for a block quote
none_before : (c : In_default-scan_definition) → (c.scan_definition.new.line_start ≡ c.place.inside.rest) × (item_at c.place.inside.rest ≡ None)
    × (marker_where c.args.may_define (place_at c.place.inside.line c.place.inside.rest) ≡ None)
none_before c = grind (arith, marker_absent)

pub scan_quote_mark-requires : goal.scan_quote_mark-requires
scan_quote_mark-requires c = grind (arith, is_indented, none_before)

-- the item that begins there
taken : (c : In-Some)
    → item_at c.place.inside.rest ≡ Some ((c.in-Some.marker.byte, c.in-Some.marker.number, c.in-Some.marker.indent), c.scan_item.new.line_start)
taken c = item_found _ c.scan_item.result c.in-Some.marker c.place.inside.rest c.scan_item.new.line_start c.in-Some.is c.scan_item.ensures

pub scan_after_item-requires-clause-place : goal.scan_after_item-requires-clause-place
scan_after_item-requires-clause-place c =
    (item_keeps c.args.source.now.text.now c.place.inside.line c.place.inside.rest _ c.requires.utf8
    (taken (goal.at.scan_after_item-requires-clause-place c).In-Some) (rw c.place.view_is c.requires.place)).0

pub returns-in-Some : goal.returns-in-Some
returns-in-Some c =
    let p : Place = place_at c.place.inside.line c.place.inside.rest in
    let options = c.args.source.now.options in
    let marker = c.in-Some.marker in
    rw (
      ← c.place.view_is,
      start_item options c.args.may_define p ((marker.byte, marker.number, marker.indent), c.scan_item.new.line_start)
          (taken (goal.at.returns-in-Some c).In-Some),
    ) (
      record { opener = refl; start = c.offset-before.ensures ∙ ap offset (sym c.place.view_is); after = c.scan_after_item.ensures.after },
      c.scan_after_item.ensures.place,
    )

pub returns-in-Some-scan_definition : goal.returns-in-Some-scan_definition
returns-in-Some-scan_definition c = grind (arith, marker_absent, definition_found, start_definition)

-- no definition was read before the search for a block quote
pub returns-in_err-quote : goal.returns-in_err-quote
returns-in_err-quote c = grind (arith, none_before, quote_absent, start_none)

pub returns : goal.returns
returns c = grind (arith, none_before, quote_here, start_quote)
