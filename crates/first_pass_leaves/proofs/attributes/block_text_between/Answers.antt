use Rattle.std.proofs.Common.{◌≡◌, ◌+◌, ℕ, List, length, IsUtf8, sym, ap, subst, ◌∙◌, arith, slice_range, option_map}
use Rattle.first_pass_grammar.proofs.Common.{Range, before_attributes}
use Rattle.first_pass_attributes.specs.AttributeBlocks.{inside_block}
use Rattle.first_pass_leaves.proofs.AttributeEnds.{none_between, length_between, no_braces, empty_braces, before_none, given_none, content_before, given_not}
use Rattle.first_pass_leaves.proofs.AttributeEnds.{given_some, brace_boundary}
use Rattle.first_pass_leaves.proofs.attributes.block_text_between.Goals as goal
use Rattle.first_pass_leaves.proofs.attributes.block_text_between.Goals.{After-extract_attribute_block_content_from_header_text-length}

pub returns-then-header_end-header_start-clause-none : goal.returns-then-header_end-header_start-clause-none
returns-then-header_end-header_start-clause-none c = grind (arith, none_between, given_none, empty_braces)

pub returns-then-not-contains-clause-content : goal.returns-then-not-contains-clause-content
returns-then-not-contains-clause-content c =
    let options = c.args.source.now.options in
    let bs : List ℕ = slice_range c.args.source.now.text.now c.args.header_start c.args.header_end in
    let none = no_braces options bs (sym (c.contains.ensures tt) ∙ c.if-not-contains.true) in
    let long = ap length (before_none options bs none) ∙ length_between c.args.source.now.text.now c.args.header_start c.args.header_end c.requires.to in
    let less = c.if-header_end-header_start.false in
    omega arith

pub returns-then-not-contains-clause-none : goal.returns-then-not-contains-clause-none
returns-then-not-contains-clause-none c =
    let options = c.args.source.now.options in
    let bs : List ℕ = slice_range c.args.source.now.text.now c.args.header_start c.args.header_end in
    given_none options bs (no_braces options bs (sym (c.contains.ensures tt) ∙ c.if-not-contains.true))

-- the block was found
pub range-text-requires-clause-start_boundary : goal.range-text-requires-clause-start_boundary
range-text-requires-clause-start_boundary c some =
    let e = c.extract_attribute_block_content_from_header_text-length in
    let text : List ℕ = c.args.source.now.text.now in
    let bs : List ℕ = slice_range c.as_bytes.result.now c.args.header_start c.args.header_end in
    let is : bs ≡ slice_range text c.args.header_start c.args.header_end =
    ap (λ (xs : List ℕ). slice_range xs c.args.header_start c.args.header_end) c.as_bytes.ensures.value in
    let places = rw c.in-Some.is at e.ensures.places in
    let opens = rw c.in-Some.is at e.ensures.opens in
    brace_boundary text bs c.args.header_start c.args.header_end e.result.0 c.in-Some.inside.start
    (subst IsUtf8 c.as_bytes.ensures.value c.as_bytes.ensures.utf8) is c.requires.to
    (omega (arith, places.0, places.1, places.2)) opens places.0

-- the content ends at the block, or with the text
content_end : (c : After-extract_attribute_block_content_from_header_text-length)
    → c.args.header_start + c.extract_attribute_block_content_from_header_text-length.result.0
    ≡ c.args.header_start + length (before_attributes c.args.source.now.options (slice_range c.args.source.now.text.now c.args.header_start c.args.header_end))
content_end c = grind (arith, content_before)

pub returns-in-None-clause-content : goal.returns-in-None-clause-content
returns-in-None-clause-content c = content_end (goal.at.returns-in-None-clause-content c).After-extract_attribute_block_content_from_header_text-length

-- the block that was found is that of the text
inside : (c : After-extract_attribute_block_content_from_header_text-length)
    → option_map (λ (r : Range ℕ). (r.start, r.«end»)) c.extract_attribute_block_content_from_header_text-length.result.1
    ≡ inside_block (slice_range c.args.source.now.text.now c.args.header_start c.args.header_end)
inside c = grind arith

pub returns-in-None-clause-none : goal.returns-in-None-clause-none
returns-in-None-clause-none c = grind (arith, given_not, inside)

pub returns-in-Some-clause-content : goal.returns-in-Some-clause-content
returns-in-Some-clause-content c = content_end (goal.at.returns-in-Some-clause-content c).After-extract_attribute_block_content_from_header_text-length

pub returns-in-Some-clause-some : goal.returns-in-Some-clause-some
returns-in-Some-clause-some c =
    given_some c.args.source.now.options c.args.source.now.text.now c.args.header_start c.args.header_end c.range-text.result.now
    (c.in-Some.inside.start, c.in-Some.inside.«end») (sym (c.contains.ensures tt) ∙ c.if-not-contains.false) c.requires.to
    (ap (option_map (λ (r : Range ℕ). (r.start, r.«end»))) (sym c.in-Some.is)
    ∙ inside (goal.at.returns-in-Some-clause-some c).After-extract_attribute_block_content_from_header_text-length)
    c.range-text.ensures.value
