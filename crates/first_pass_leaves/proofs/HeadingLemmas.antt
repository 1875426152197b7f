-- The text of a heading.
use Rattle.std.proofs.Common.{◌≡◌, ℕ, ◌+◌, ◌-◌, ◌≤◌, ◌==◌, Bool, true, false, List, [], length, take, drop, slice_get, Option, Some, None, refl, sym, inl, inr}
use Rattle.std.proofs.Common.{IfSome, length-drop, length-take, length-take-le, ap, subst, ◌∙◌, arith, true≢false, slice_range, drop-drop, option_map}
use Rattle.std.proofs.Common.{unwrap_or}
use Rattle.first_pass_grammar.proofs.Common.{cases_lt, nat_tests, prefix_len, prefix_len-le-length, prefix_len_passes, prefix_len_stops, Item, HeadingLevel}
use Rattle.first_pass_grammar.proofs.Common.{TreeIndex, Forest, open_place, cut_siblings, is_content, is_white, line_len, level_number, atx_level, line_place}
use Rattle.first_pass_grammar.proofs.Common.{atx_level-signs, bytes_line_end, add_tokens, close_break, cut, Inline, text_upto, chained, AppendsLine}
use Rattle.first_pass_grammar.proofs.Common.{with_tokens-chained, joins_none-fresh, chained-spine, heading_attribute_block, before_attributes}
use Rattle.first_pass_grammar.proofs.Common.{heading_attributes_of, text_before_attributes, CowStr, Names, NamesAttributes, Extends, line_more, MathBraces}
use Rattle.first_pass_grammar.proofs.Common.{no_braces, Document, document, kept_len, heading_chain, heading_text_at, IsHeading, HeadingIndex, Options, Braces}
use Rattle.first_pass_grammar.proofs.Common.{option_map_or}
use Rattle.first_pass_leaves.proofs.Common.{IsJustPushed, line_end_at, with_closed_break, AppendsHeading, attribute_place, childless-chained}
use Rattle.first_pass_leaves.proofs.Common.{cut_siblings-chained, childless, is_number_sign}
use Rattle.first_pass_leaves.proofs.AttributeEnds.{content_read, before_none, length_some, braces_within}
use Rattle.first_pass_leaves.specs.declared.heading.AttributeBlock.{AttributeBlock}
use Rattle.first_pass_leaves.proofs.ParagraphLemmas.{with_closed_break-chained}

pub chain_none : (kept start : ℕ) (chain : List Item) → kept ≡ 0 → heading_chain kept start chain ≡ []
unfolding heading_chain
chain_none kept start chain h = rw h refl

pub chain_kept : (kept start : ℕ) (chain : List Item) → (kept ≡ 0 → ⊥) → heading_chain kept start chain ≡ cut (start + kept) chain
unfolding heading_chain
chain_kept kept start chain h = let t : (kept == 0) ≡ false = grind (arith, nat_tests, h) in rw t refl

module _ {texts : List CowStr} {s : Inline} {old read last : Forest Item} {answer : ℕ × Option Item} {ix : TreeIndex} {after : MathBraces}
    (pushed : IsJustPushed old ix) (line : AppendsLine texts s old read answer after) (last_is : last ≡ with_closed_break read answer.1) where
  -- the chain of the line
  abbrev whole : List Item
  whole = close_break answer.1 (add_tokens [] line.tokens)

  innermost : open_place old.spine + 1 ≡ length old.nodes
  innermost = ap (λ s. open_place s + 1) pushed.innermost ∙ pushed.last

  read_is : last ≡ chained old whole
  read_is =
      let apart = joins_none-fresh old pushed.none in
      let tree : read ≡ chained old (add_tokens [] line.tokens) = line.tree_is ∙ with_tokens-chained old [] line.tokens apart in
      last_is ∙ ap (λ f. with_closed_break f answer.1) tree ∙ with_closed_break-chained old (add_tokens [] line.tokens) answer.1 apart

  pub heading_open : slice_get last.spine 0 ≡ Some ix
  heading_open = ap (λ (f : Forest Item). slice_get f.spine 0) read_is ∙ ap (λ s. slice_get s 0) (chained-spine old whole ∙ pushed.innermost)

  module _ {kept : ℕ} {content : List ℕ} {new : Forest Item} (kept_is : kept ≡ kept_len content) where
    appends : new ≡ chained old (heading_chain kept s.start whole) → AppendsHeading texts s content old new
    appends new_is = grind arith

    -- nothing of the text is kept
    pub heading_empty : new ≡ childless last ix → kept ≡ 0 → AppendsHeading texts s content old new
    heading_empty new_is none = grind (arith, appends, read_is, childless-chained, chain_none)

    -- some of it is kept
    pub heading_cut : new ≡ cut_siblings last (s.start + kept) → (kept ≡ 0 → ⊥) → AppendsHeading texts s content old new
    heading_cut new_is some = grind (arith, appends, read_is, cut_siblings-chained, innermost, chain_kept)

-- the line of a heading whose text begins at an offset
abbrev heading_line : List ℕ → ℕ → List ℕ
heading_line text start = take (line_len (drop start text)) (drop start text)

-- the bytes between the start of a heading's text and the end of its line
pub line_between : (text : List ℕ) (start to : ℕ) → to ≡ start + line_len (drop start text) → slice_range text start to ≡ heading_line text start
line_between text start to e = let size : to - start ≡ line_len (drop start text) = omega arith in ap (λ n. take n (drop start text)) size

-- the start of the attribute block of a heading's line
abbrev cut_by : ℕ → Option Braces → Option ℕ
cut_by start block = option_map (λ (b : Braces). start + b.opening) block

-- the bytes of the line before the block
cut_content : (options : Options) (text : List ℕ) (start next : ℕ) (o : Option Braces) → heading_attribute_block options (heading_line text start) ≡ o
    → next ≡ line_end_at (text_upto text (cut_by start o)) start
    → slice_range text start (unwrap_or (cut_by start o) next) ≡ before_attributes options (heading_line text start)
cut_content options text start next None h e = grind (arith, line_between, before_none)
cut_content options text start next (Some block) h e = grind (arith, content_read, length_some)

-- The chain of an ATX heading's line that was read, up to the attribute block, and the attributes that were found.
pub heading_read : (d : Document) (start next : ℕ) (cut : Option ℕ) (index : Option HeadingIndex) (old new : Forest Item)
    → cut ≡ cut_by start (heading_attribute_block d.options (heading_line d.text start)) → next ≡ line_end_at (text_upto d.text cut) start
    → AppendsHeading d.names.texts
    (record { options = d.options; whole = d.text; text = text_upto d.text cut; start = start; row = false; braces = no_braces })
    (slice_range d.text start (unwrap_or cut next)) old new
    → ((more : Names) → Extends more d.names → NamesAttributes more index (heading_attributes_of d.options (heading_line d.text start)))
    → (chain : List Item) × (new ≡ chained old chain)
    × ((more : Names) → Extends more d.names → (next : ℕ) → next ≡ start + line_len (drop start d.text)
    → IsHeading (document d.text d.options more) start index chain next)
heading_read d start next cut index old new cut_is next_is a named =
    let text : List ℕ = d.text in
    let line : List ℕ = heading_line text start in
    let o : Option Braces = heading_attribute_block d.options line in
    let upto : text_upto text cut ≡ text_upto text (cut_by start o) = ap (text_upto text) cut_is in
    let text_is : text_upto text cut ≡ text_before_attributes d.options text start line = upto
    ∙ elim o as (λ o. text_upto text (cut_by start o) ≡ option_map_or (λ (b : Braces). take (start + b.opening) text) o text) [
      | None ↦ refl
      | Some b ↦ refl
    ] in
    let whole : slice_range text start (unwrap_or cut next) ≡ before_attributes d.options line =
    ap (λ c. slice_range text start (unwrap_or c next)) cut_is
    ∙ cut_content d.options text start next o refl (next_is ∙ ap (λ xs. line_end_at xs start) upto) in (
      heading_chain (kept_len (before_attributes d.options line)) start (close_break a.answer.1 (add_tokens [] a.tokens)),
      a.tree_is ∙ ap (λ xs. chained old (heading_chain (kept_len xs) start (close_break a.answer.1 (add_tokens [] a.tokens)))) whole,
      λ more e next next_is. record {
        tokens = a.tokens;
        answer = a.answer;
        after = a.after;
        line = rw text_is at (line_more (e.more_texts, e.texts) a.line);
        chain_is = refl;
        named = named more e;
        end_is = next_is;
      },
    )

-- the end of a heading's line, from the place of its block or after its content
abbrev place_at : List ℕ → ℕ → Braces → AttributeBlock
place_at text start b = record { opening = start + b.opening; line_end = line_end_at text start }

end_of : (text : List ℕ) (start next : ℕ) (o : Option Braces) → next ≡ line_end_at (text_upto text (cut_by start o)) start
    → option_map_or (λ (p : AttributeBlock). p.line_end) (option_map (place_at text start) o) next ≡ line_end_at text start
end_of text start next None e = e
end_of text start next (Some b) e = refl

pub place_none : (options : Options) (text : List ℕ) (start : ℕ) → heading_attribute_block options (heading_line text start) ≡ None
    → attribute_place options text start ≡ None
place_none options text start h = ap (option_map (place_at text start)) h

pub place_some : (options : Options) (text : List ℕ) (start opening to : ℕ) (block : Braces)
    → heading_attribute_block options (heading_line text start) ≡ Some block
    → opening ≡ start + length (before_attributes options (heading_line text start)) → to ≡ line_end_at text start
    → Some (record { opening = opening; line_end = to }) ≡ attribute_place options text start
place_some options text start opening to block h e f = grind (arith, length_some)

pub place_cut : (text : List ℕ) (options : Options) (start : ℕ) (place : Option AttributeBlock) → place ≡ attribute_place options text start
    → option_map (λ (p : AttributeBlock). p.opening) place
    ≡ option_map (λ (b : Braces). start + b.opening) (heading_attribute_block options (heading_line text start))
place_cut text options start place e = grind arith

fits_by : (text : List ℕ) (options : Options) (start : ℕ) (o : Option Braces) → heading_attribute_block options (heading_line text start) ≡ o
    → start ≤ length text
    → IfSome (cut_by start o) (λ e. e ≤ length text) × (start ≤ length (text_upto text (cut_by start o)))
fits_by text options start None h within = (tt, within)
fits_by text options start (Some block) h within =
    let inside = braces_within options (heading_line text start) block h in
    let most = length-take (line_len (drop start text)) (drop start text) in
    let long = length-drop start text in
    let fits : start + block.opening ≤ length text = omega (arith, inside.0, inside.1) in
    let size = length-take-le (start + block.opening) text fits in
    (fits, omega arith)

-- the content that ends before a block is in the text
pub place_fits : (text : List ℕ) (options : Options) (start : ℕ) (place : Option AttributeBlock) (cut : Option ℕ) → place ≡ attribute_place options text start
    → cut ≡ option_map (λ (p : AttributeBlock). p.opening) place → start ≤ length text
    → IfSome cut (λ e. e ≤ length text) × (start ≤ length (text_upto text cut))
place_fits text options start place cut e f within =
    subst (λ c. IfSome c (λ e. e ≤ length text) × (start ≤ length (text_upto text c))) (sym (f ∙ place_cut text options start place e))
    (fits_by text options start (heading_attribute_block options (heading_line text start)) refl within)

pub place_end : (text : List ℕ) (options : Options) (start next : ℕ) (place : Option AttributeBlock) → place ≡ attribute_place options text start
    → next ≡ line_end_at (text_upto text (option_map (λ (p : AttributeBlock). p.opening) place)) start
    → option_map_or (λ (p : AttributeBlock). p.line_end) place next ≡ line_end_at text start
place_end text options start next place e f = grind (arith, end_of, place_cut)

-- bytes that pass a test, all of which are content
pub prefix_in : (p : ℕ → Bool) → ((b : ℕ) → p b ≡ true → is_content b ≡ true) → (bs : List ℕ) → prefix_len p bs ≤ prefix_len is_content bs
prefix_in p f bs =
    let n : ℕ = prefix_len is_content bs in
    elim (cases_lt n (prefix_len p bs)) [
      | inl past ↦ absurd (true≢false (sym (f _ (prefix_len_passes p bs n 0 past))
          ∙ prefix_len_stops is_content bs 0 (omega (arith, prefix_len-le-length p bs))))
      | inr within ↦ within
    ]

sign_content : (b : ℕ) → is_number_sign b ≡ true → is_content b ≡ true
sign_content b h = grind (arith, nat_tests, h)

white_content : (b : ℕ) → is_white b ≡ true → is_content b ≡ true
white_content b h = grind (arith, nat_tests, h)

-- further on in the content of a line
line_skip : (text : List ℕ) (s k : ℕ) → k ≤ prefix_len is_content (drop s text) → line_end_at text (s + k) ≡ line_end_at text s
line_skip text s k h =
    let e = bytes_line_end k (line_place s (drop s text)) h in
    let d : drop k (drop s text) ≡ drop (s + k) text = drop-drop k s text in
    let l = ap line_len d in
    omega arith

-- A heading's text ends at the end of its line.
pub heading_line_end : (text : List ℕ) (start : ℕ) (level : HeadingLevel) → start ≤ length text → atx_level (drop start text) ≡ Some level
    → line_end_at text (heading_text_at text start (level_number level)) ≡ line_end_at text start
heading_line_end text start level within h =
    let signs = atx_level-signs (drop start text) level h in
    let n : ℕ = level_number level in
    let same : n ≡ prefix_len is_number_sign (drop start text) = signs.0 in
    let first : n ≤ prefix_len is_content (drop start text) = (let i = prefix_in is_number_sign sign_content (drop start text) in omega arith) in
    line_skip text (start + n) (prefix_len is_white (drop (start + n) text)) (prefix_in is_white white_content (drop (start + n) text))
    ∙ line_skip text start n first
