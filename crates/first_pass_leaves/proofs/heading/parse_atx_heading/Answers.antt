use Rattle.std.proofs.Common.{◌≡◌, ◌≤◌, ℕ, List, length, IfSome, IsUtf8, ap, subst, ◌∙◌, arith}
use Rattle.first_pass_grammar.proofs.Common.{IsHeading, text_upto, Item, Heading, added, block_of, chained, document}
use Rattle.first_pass_leaves.proofs.Common.{names_of, line_end_at, opened_is, just_pushed, still_open, block_closed}
use Rattle.first_pass_grammar.proofs.Names.MoreNames.{extends_both}
use Rattle.first_pass_leaves.proofs.OrderHeading.{heading_fits}
use Rattle.first_pass_leaves.proofs.HeadingLemmas.{heading_read, heading_line_end, place_cut, place_end, place_fits}
use Rattle.first_pass_leaves.proofs.PlainHeadings.{plain_read}
use Rattle.first_pass_leaves.proofs.heading.parse_atx_heading.Goals as goal
use Rattle.first_pass_leaves.proofs.heading.parse_atx_heading.Goals.{After-opening_of}

pub heading_text-requires-clause-opened : goal.heading_text-requires-clause-opened
heading_text-requires-clause-opened c = grind (arith, just_pushed, opened_is)

-- the attribute block and the start of the content are in the text
block_fits : (c : After-opening_of) → IfSome c.opening_of.result (λ e. e ≤ length c.args.source.now.text.now)
    × (c.heading_text_start-header_start.result ≤ length (text_upto c.args.source.now.text.now c.opening_of.result))
block_fits c =
    place_fits c.args.source.now.text.now c.args.source.now.options c.heading_text_start-header_start.result c.in_ok-place.place c.opening_of.result
    c.in_ok-place.ensures.place c.opening_of.ensures
    (subst (λ t. c.heading_text_start-header_start.result ≤ length t) c.as_bytes.ensures.value c.heading_text_start-header_start.ensures.within)

pub heading_text-requires-clause-set : goal.heading_text-requires-clause-set
heading_text-requires-clause-set c = (block_fits (goal.at.heading_text-requires-clause-set c).After-opening_of).0

pub heading_text-requires-clause-within : goal.heading_text-requires-clause-within
heading_text-requires-clause-within c = (block_fits (goal.at.heading_text-requires-clause-within c).After-opening_of).1

pub close_block-requires : goal.close_block-requires
close_block-requires c = grind (arith, opened_is, still_open)

pub returns-clause-block : goal.returns-clause-block
returns-clause-block c =
    let g = c.args.tree.now in
    let x : Item = record { start = c.args.start; «end» = 0; body = Heading c.args.atx_level c.in_ok-place.index } in
    let ix = c.in_ok-heading_ix.heading_ix in
    let at = c.in_ok-heading_ix.ensures.index in
    let opened = opened_is g c.open_block.new.tree x ix at c.in_ok-heading_ix.ensures.tree in
    let text : List ℕ = c.args.source.now.text.now in
    let options = c.args.source.now.options in
    let start : ℕ = c.heading_text_start-header_start.result in
    let place = c.in_ok-place.place in
    let cut = c.opening_of.ensures in
    let next_is = c.in_ok-next.ensures.place ∙ ap (λ o. line_end_at (text_upto text o) start) cut in
    let ends : c.line_end_of-end.result ≡ line_end_at text start =
    c.line_end_of-end.ensures ∙ place_end text options start c.in_ok-next.next place c.in_ok-place.ensures.place next_is in
    let names = names_of c.heading_text.new.allocs in
    let (chain, tree_is, heads) = heading_read (document text options names) start c.in_ok-next.next c.opening_of.result c.in_ok-place.index
    c.open_block.new.tree c.heading_text.new.tree (cut ∙ place_cut text options start place c.in_ok-place.ensures.place) c.in_ok-next.ensures.place
    c.in_ok-next.ensures.line
    (λ more e. c.in_ok-place.ensures.named more
    (extends_both more names (names_of c.name_attribute_block.new.allocs) e c.in_ok-next.ensures.more.names)) in
    let begins = rw c.as_bytes.ensures.value at c.heading_text_start-header_start.ensures.value in
    record {
      index = c.in_ok-place.index;
      chain = chain;
      line = λ more e. subst (λ k. IsHeading (document text options more) k c.in_ok-place.index chain c.line_end_of-end.result) begins
          (heads more e c.line_end_of-end.result ends);
      tree_is = block_closed g c.heading_text.new.tree x chain ix at
          (tree_is ∙ ap (λ f. chained f chain) opened) c.close_block.new.tree c.line_end_of-end.result c.close_block.ensures.tree;
      end_is = ends ∙ ap (line_end_at text) begins ∙ heading_line_end text c.args.start c.args.atx_level c.requires.within c.requires.heading;
    }

pub returns-clause-fits : goal.returns-clause-fits
returns-clause-fits c from following starts =
    heading_fits (returns-clause-block c) (subst IsUtf8 c.as_bytes.ensures.value c.as_bytes.ensures.utf8) starts c.requires.heading from following

pub returns-clause-more : goal.returns-clause-more
returns-clause-more c =
    let text = c.in_ok-next.ensures.more in
    let named = c.in_ok-place.ensures.more in
    record { names = extends_both _ _ _ text.names named.names; entries = text.entries ∙ named.entries }

pub returns-in-Some-clause-block : goal.returns-in-Some-clause-block
returns-in-Some-clause-block c =
    let g = c.args.tree.now in
    let text : List ℕ = c.args.source.now.text.now in
    let options = c.args.source.now.options in
    let start : ℕ = c.heading_text_start-header_start.result in
    let next = c.in-Some.plain.next in
    let item : Item = record { start = c.args.start; «end» = next; body = Heading c.args.atx_level c.in_ok-place.index } in
    let begins = rw c.as_bytes.ensures.value at c.heading_text_start-header_start.ensures.value in
    let (chain, kids_are, ends, heads) = plain_read (document text options (names_of c.name_attribute_block.new.allocs)) start next c.in-Some.plain.text_end
    c.opening_of.result c.in_ok-place.place c.in_ok-place.index c.in_ok-place.ensures.place c.opening_of.ensures c.in-Some.ensures.whole c.in-Some.ensures.plain
    c.in_ok-place.ensures.named in
    record {
      index = c.in_ok-place.index;
      chain = chain;
      line = λ more e. subst (λ k. IsHeading (document text options more) k c.in_ok-place.index chain next) begins (heads more e);
      tree_is = c.in_ok-append_with_text.ensures.ok ∙ ap (λ (kids : List (ℕ × Item)). added g (block_of item kids)) kids_are;
      end_is = ends ∙ ap (line_end_at text) begins ∙ heading_line_end text c.args.start c.args.atx_level c.requires.within c.requires.heading;
    }

pub returns-in-Some-clause-fits : goal.returns-in-Some-clause-fits
returns-in-Some-clause-fits c from following starts =
    heading_fits (returns-in-Some-clause-block c) (subst IsUtf8 c.as_bytes.ensures.value c.as_bytes.ensures.utf8) starts c.requires.heading from following

pub scan_plain_heading-requires-clause-set : goal.scan_plain_heading-requires-clause-set
scan_plain_heading-requires-clause-set c = (block_fits (goal.at.scan_plain_heading-requires-clause-set c).After-opening_of).0

pub scan_plain_heading-requires-clause-within : goal.scan_plain_heading-requires-clause-within
scan_plain_heading-requires-clause-within c = (block_fits (goal.at.scan_plain_heading-requires-clause-within c).After-opening_of).1
