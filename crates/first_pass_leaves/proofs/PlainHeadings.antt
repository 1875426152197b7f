-- The headings that have at most one token, a text.
use Rattle.std.proofs.Common.{◌≡◌, ◌<◌, ◌≤◌, ℕ, ◌+◌, ◌-◌, ◌==◌, min, Bool, true, false, List, [], length, take, slice_index, Option, None, is_some, inl, inr}
use Rattle.std.proofs.Common.{refl, sym, ap, subst, ◌∙◌, arith, slice_range, option_map}
use Rattle.first_pass_grammar.proofs.Common.{cases_Bool, cases_lt, cond-true, cond-false, cond_both, none_is, none_mapped, backslash, CowStr, Item, Options}
use Rattle.first_pass_grammar.proofs.Common.{add_text, add_tokens, close_break, cut, text_end, breaks_by_backslash, line_end_len, AreLineTokens, IsCell, Inline}
use Rattle.first_pass_grammar.proofs.Common.{text_upto, leaves, add_text-some, add_text-none, kept_len, heading_chain, Document, document, IsHeading}
use Rattle.first_pass_grammar.proofs.Common.{heading_attribute_block, before_attributes, heading_attributes_of, text_before_attributes, Names, NamesAttributes}
use Rattle.first_pass_grammar.proofs.Common.{Extends, HeadingIndex, Braces, no_braces, option_map_or}
use Rattle.first_pass_leaves.proofs.Common.{line_end_at, line_from, attribute_place, text_between, eqb-false, end_bounded, ends_line}
use Rattle.first_pass_walk.specs.Walk.{is_special, IsNextMarked, MarksSpecial}
use Rattle.first_pass_tokens.specs.LineTokens.{line_break, backslashes_at_end}
use Rattle.first_pass_leaves.specs.declared.heading.AttributeBlock.{AttributeBlock}
use Rattle.first_pass_leaves.proofs.AttributeEnds.{before_none}
use Rattle.first_pass_leaves.specs.PlainHeadings.{IsPlainHeading}
use Rattle.first_pass_leaves.proofs.HeadingLemmas.{chain_none, chain_kept, line_between, place_cut}

-- a single text is a chain by itself
single : (start to : ℕ) → add_tokens [] (add_text start to false []) ≡ add_text start to false []
single start to = grind (arith, cases_lt, add_text-some, add_text-none)

-- an empty chain stays empty
none_cut : (kept start : ℕ) → heading_chain kept start [] ≡ []
none_cut kept start = elim (cases_lt 0 kept) [ inl some ↦ chain_kept kept start [] (λ h. omega arith) | inr none ↦ chain_none kept start [] (omega arith) ]

-- a chain of at most a text, cut after the kept bytes
text_cut : (start to kept : ℕ) → leaves (heading_chain kept start (add_text start to false [])) ≡ text_between start (min (start + kept) to)
unfolding heading_chain
text_cut start to kept = grind (arith, cases_lt, add_text-some, cond_both, cond-false, eqb-false, cond-true, add_text-none, none_cut)

special_backslash : (options : Options) → is_special options backslash ≡ true
unfolding is_special
special_backslash options = refl

-- no backslash is directly before the first special byte
pub no_backslash : (s : Inline) (lut : List Bool) (end : ℕ) → MarksSpecial lut s.options → IsNextMarked lut s.text s.start end → s.start < end
    → (slice_index s.text (end - 1) == backslash) ≡ false
no_backslash s lut end m first some = grind (arith, cases_Bool, special_backslash)

module _ (s : Inline) (end : ℕ) (some : s.start < end) (within : end ≤ length s.text) (last : (slice_index s.text (end - 1) == backslash) ≡ false) where
  -- no backslash breaks the line
  unbroken : breaks_by_backslash s end ≡ false
  unfolding breaks_by_backslash backslashes_at_end
  unbroken = grind (arith, end_bounded)

  -- so no backslash of a break is text
  closed : (chain : List Item) → close_break (line_break s end) chain ≡ chain
  unfolding line_break
  closed chain = grind (arith, cond_both, unbroken)

  -- the tokens of the same cell are those of the line
  line_of : {texts : List CowStr} {tokens : List Item} → s.row ≡ false
      → IsCell texts s tokens end s.braces → AreLineTokens texts s tokens (end + line_end_len s end, line_break s end) s.braces
  unfolding text_end
  line_of {texts} {tokens} plain cell = grind (arith, cond-false, unbroken)

  -- the heading is plain text
  pub plain_heading : (to kept next text_end : ℕ) → s.row ≡ false
      → ((texts : List CowStr) → IsCell texts s (add_text s.start to false []) end s.braces) → next ≡ end + line_end_len s end
      → kept ≡ kept_len (slice_range s.text s.start next) → text_end ≡ min (s.start + kept) to → IsPlainHeading s text_end next
  plain_heading to kept next text_end plain cell next_is kept_is end_is =
      let tokens : List Item = add_text s.start to false [] in
      let line : (texts : List CowStr) → AreLineTokens texts s tokens (end + line_end_len s end, line_break s end) s.braces =
      λ texts. line_of plain (cell texts) in
      let order : s.start ≤ length s.text = omega (arith, some, within) in
      let whole : close_break (line_break s end) (add_tokens [] tokens) ≡ tokens = closed (add_tokens [] tokens) ∙ single s.start to in
      record {
        tokens = tokens;
        answer = (end + line_end_len s end, line_break s end);
        line = line;
        next_is = next_is ∙ (ends_line order (line [])).place;
        chain_is = ap (λ chain. leaves (heading_chain (kept_len (slice_range s.text s.start next)) s.start chain)) whole
            ∙ ap (λ n. leaves (heading_chain n s.start tokens)) (sym kept_is) ∙ text_cut s.start to kept ∙ ap (text_between s.start) (sym end_is);
      }

-- a content without an end of its own goes up to the end of the text
pub upto_all : (text bytes : List ℕ) (cut : Option ℕ) → is_some cut ≡ false → bytes ≡ text → text_upto text cut ≡ bytes
upto_all text bytes cut none same = ap (text_upto text) (none_is cut none) ∙ sym same

pub upto_within : (text bytes : List ℕ) (at : ℕ) (cut : Option ℕ) → is_some cut ≡ false → bytes ≡ text → at < length (text_upto text cut) → at < length bytes
upto_within text bytes at cut none same within = subst (λ t. at < length t) (upto_all text bytes cut none same) within

-- The heading that has no attribute block is one of the grammar, and its chain is at most a text.
pub plain_read : (d : Document) (start next text_end : ℕ) (cut : Option ℕ) (place : Option AttributeBlock) (index : Option HeadingIndex)
    → place ≡ attribute_place d.options d.text start → cut ≡ option_map (λ (p : AttributeBlock). p.opening) place → cut ≡ None
    → IsPlainHeading (record { options = d.options; whole = d.text; text = text_upto d.text cut; start = start; row = false; braces = no_braces }) text_end next
    → ((more : Names) → Extends more d.names → NamesAttributes more index (heading_attributes_of d.options (line_from d.text start)))
    → (chain : List Item) × (text_between start text_end ≡ leaves chain) × (next ≡ line_end_at d.text start)
    × ((more : Names) → Extends more d.names → IsHeading (document d.text d.options more) start index chain next)
plain_read d start next text_end cut place index place_is cut_is none plain named =
    let text : List ℕ = d.text in
    let line : List ℕ = line_from text start in
    let s : List ℕ → Inline = λ t. record { options = d.options; whole = text; text = t; start = start; row = false; braces = no_braces } in
    let block : heading_attribute_block d.options line ≡ None =
    none_mapped (λ (b : Braces). start + b.opening) (heading_attribute_block d.options line)
    (sym none ∙ cut_is ∙ place_cut text d.options start place place_is) in
    let h : IsPlainHeading (s text) text_end next = subst (λ o. IsPlainHeading (s (text_upto text o)) text_end next) none plain in
    let whole : text_before_attributes d.options text start line ≡ text =
    ap (λ (o : Option Braces). option_map_or (λ b. take (start + b.opening) text) o text) block in
    let content : slice_range text start next ≡ before_attributes d.options line =
    line_between text start next h.next_is ∙ sym (before_none d.options line block) in (
      heading_chain (kept_len (slice_range text start next)) start (close_break h.answer.1 (add_tokens [] h.tokens)),
      sym h.chain_is,
      h.next_is,
      λ more e. record {
        tokens = h.tokens;
        answer = h.answer;
        after = no_braces;
        line = subst (λ t. AreLineTokens more.texts (s t) h.tokens h.answer no_braces) (sym whole) (h.line more.texts);
        chain_is = ap (λ xs. heading_chain (kept_len xs) start (close_break h.answer.1 (add_tokens [] h.tokens))) content;
        named = named more e;
        end_is = h.next_is;
      },
    )
