-- The lines of an HTML block, and its end.
use Rattle.std.proofs.Common.{◌≡◌, ◌⊎◌, inl, inr, ℕ, zero, suc, ◌+◌, ◌-◌, ◌||◌, Bool, true, false, List, [], ◌∷◌, ◌++◌, length, take, drop, if◌then◌else◌, None}
use Rattle.std.proofs.Common.{IsSome, slice_get, refl, sym, ap, subst, ◌∙◌, arith, append_assoc, Decides, MatchBool, slice_range, take-append-drop, append-nil}
use Rattle.first_pass_grammar.proofs.Common.{cond_both, take-append_seam, Item, HtmlBlock, Options, Forest, is_text, appended, BlockEnd, line_len, Place}
use Rattle.first_pass_grammar.proofs.Common.{offset, line_end, IsPlaceOf, place_length, add_token, add_tokens, with_tokens, chained, JoinsNone, chained-append}
use Rattle.first_pass_grammar.proofs.Common.{joins_none-fresh, Names, Extends, Document, document, block_with, AreColumns, range_html, raw_items, IsRawLine}
use Rattle.first_pass_grammar.proofs.Common.{AreRawLines, Extent, with_line, extent_to, GoesOn, IsLast, extent_by, holds_end, tag_judge, blank_judge, IsHtml}
use Rattle.first_pass_grammar.proofs.Common.{lines_from}
use Rattle.first_pass_leaves.proofs.Common.{path_of, closed_by, opened_block, AreIn, with_token-plain, joins_none-appended, still_open, IsPlaceAt, AppendsRaw}
use Rattle.first_pass_leaves.proofs.Common.{AddsRaw, after_line_at, extent_from, html_to_end, html_to_blank, line_of, one_answer, is_empty, owing}
use Rattle.std.specs.Str.Iter.{HasSubslice}
use Rattle.std.specs.Str.Pattern.{FindsText, HasMatch}
use Rattle.std.proofs.lemmas.Bool.Decides.{Decides-like, Decides-or}
use Rattle.std.proofs.lemmas.Slice.Eq.{bytes_eq-Decides}
use Rattle.std.proofs.lemmas.Str.Pattern.{contains_text}
use Rattle.first_pass_html.specs.Ends.{AtRawEndTag, AtText, holds_raw_end_tag}
use Rattle.first_pass_html.specs.Starts.{begins_with}
use Rattle.first_pass_grammar.specs.HtmlBlocks.{holds}
use Rattle.first_pass_names.proofs.NameLemmas.{extends_none, extends_both}
use Rattle.first_pass_leaves.specs.RawBlocks.{AppendsLines}
use Rattle.first_pass_leaves.proofs.IndentedLemmas.{first_at, first_is}
use Rattle.first_pass_leaves.proofs.ExtentLemmas.{LinesSoFar, Filled, lines_start, lines_more, lines_end, lines_path, opened_path, block_done}

-- a text at the start of bytes is part of them
begun : (text bs : List ℕ) → Decides (begins_with text bs) ((b : List ℕ) × (bs ≡ text ++ b))
begun text bs =
    let d = bytes_eq-Decides text (take (length text) bs) in (
      λ e. (drop (length text) bs, sym (take-append-drop (length text) bs) ∙ ap (λ xs. xs ++ drop (length text) bs) (sym (d.0 e))),
      λ s. d.1 (sym (take-append_seam text s.0) ∙ ap (take (length text)) (sym s.1)),
    )

stands_either : (text : List ℕ) (b : ℕ) (bs : List ℕ) → HasSubslice (b ∷ bs) text → ((c : List ℕ) × (b ∷ bs ≡ text ++ c)) ⊎ HasSubslice bs text
stands_either text b bs ([], c, e) = inl (c, e)
stands_either text b bs (a ∷ before, c, e) = inr (before, c, cc)

none_before : (text : List ℕ) → HasSubslice [] text → (c : List ℕ) × ([] ≡ text ++ c)
none_before text ([], c, e) = (c, e)
none_before text (a ∷ before, c, e) = cc

-- a text is somewhere in the bytes exactly if it is a part of them
pub holds-decides : (text bs : List ℕ) → Decides (holds text bs) (HasSubslice bs text)
unfolding holds
holds-decides text [] = Decides-like (begins_with text []) (λ s. ([], s.0, s.1)) (none_before text) (begun text [])
holds-decides text (b ∷ bs) =
    Decides-like (begins_with text (b ∷ bs) || holds text bs)
    (λ s. elim s [ inl first ↦ ([], first.0, first.1) | inr past ↦ (b ∷ past.0, past.1, ap (λ xs. b ∷ xs) past.2) ]) (stands_either text b bs)
    (Decides-or (begins_with text (b ∷ bs)) (holds text bs) (begun text (b ∷ bs)) (holds-decides text bs))

-- the result of a search in a line
pub raw_held : (until : BlockEnd) (line bytes : List ℕ) (found : Bool) → until ≡ AtRawEndTag → bytes ≡ line → found ≡ holds_raw_end_tag bytes
    → found ≡ holds_end until line
unfolding holds_end
raw_held until line bytes found until_is same is = rw until_is (is ∙ ap holds_raw_end_tag same)

pub text_held : (until : BlockEnd) (text line : List ℕ) (found : Bool)
    → until ≡ AtText text → MatchBool found (HasMatch (FindsText text) line) (FindsText text line None) → found ≡ holds_end until line
unfolding holds_end
text_held until text line found until_is m = rw until_is (sym (one_answer (holds text line) found (holds-decides text line) (contains_text found text line m)))

-- whether a line contains the end of a block, read at the place of its rest
pub held_is : (text : List ℕ) (until : BlockEnd) (p : Place) (at next : ℕ) (found : Bool) (piece : List ℕ)
    → IsPlaceAt text at p → next ≡ line_end p → piece ≡ slice_range text at next → found ≡ holds_end until piece → holds_end until (line_of p) ≡ found
held_is text until p at next found piece i next_is piece_is is = grind arith

some_left : (bs : List ℕ) → ¬ (length bs ≡ 0) → is_empty bs ≡ false
some_left [] e = absurd (e refl)
some_left (b ∷ bs) e = refl

-- the verdict on a line for an HTML block of types 1 to 5, if there are bytes at its place
pub tag_here : (text : List ℕ) (until : BlockEnd) (line p : Place) (at next : ℕ) (found : Bool)
    → IsPlaceOf text p → at ≡ offset p → ¬ (at ≡ length text) → next ≡ line_end p → found ≡ holds_end until (slice_range text at next)
    → tag_judge until line p ≡ (if found then IsLast p else GoesOn p)
tag_here text until line p at next found i at_is some next_is m = grind (arith, place_length, some_left, held_is)

-- items that are no texts, so nothing is joined to one
abbrev pub ArePlain : List Item → Type 0
ArePlain [] = Unit
ArePlain (x ∷ xs) = (is_text x.body ≡ false) × ArePlain xs

plain_append : (xs ys : List Item) → ArePlain xs → ArePlain ys → ArePlain (xs ++ ys)
plain_append [] ys h k = k
plain_append (x ∷ xs) ys h k = (h.0, plain_append xs ys h.1 k)

plain_columns : (names : Names) (owed at : ℕ) (items : List Item) → AreColumns names owed at items → ArePlain items
plain_columns names zero at items is = subst ArePlain (sym is) tt
plain_columns names (suc n) at items is = subst ArePlain (sym is.2) (refl, tt)

plain_html : (text : List ℕ) (from to : ℕ) → ArePlain (raw_items range_html text from to)
unfolding raw_items
plain_html text from to = grind (arith, cond_both)

plain_line : (d : Document) (owed from to : ℕ) (items : List Item) → IsRawLine range_html d owed from to items → ArePlain items
plain_line d owed from to items (columns, are, is) = grind (arith, plain_append, plain_columns, plain_html)

plain_token : (chain : List Item) (x : Item) → is_text x.body ≡ false → add_token chain x ≡ chain ++ x ∷ []
plain_token [] x plain = refl
plain_token (y ∷ []) x plain = rw plain
plain_token (y ∷ z ∷ zs) x plain = ap (λ c. y ∷ c) (plain_token (z ∷ zs) x plain)

plain_tokens : (xs chain : List Item) → ArePlain xs → add_tokens chain xs ≡ chain ++ xs
plain_tokens [] chain h = sym (append-nil chain)
plain_tokens (x ∷ xs) chain h = ap (λ c. add_tokens c xs) (plain_token chain x h.0) ∙ plain_tokens xs (chain ++ x ∷ []) h.1 ∙ append_assoc chain (x ∷ []) xs

plain_apart : (f : Forest Item) (xs : List Item) → JoinsNone f → ArePlain xs → JoinsNone (with_tokens f xs)
plain_apart f [] apart h = apart
plain_apart f (x ∷ xs) apart h = grind (arith, with_token-plain, joins_none-appended, plain_apart (appended f x) xs (joins_none-appended f x h.0) h.1)

-- more raw lines of HTML before these
html_after : (d : Document) (before chain : List Item) (ps : List Place) (whole : List Item)
    → AreRawLines range_html d chain ps whole → AreRawLines range_html d (before ++ chain) ps (before ++ whole)
unfolding AreRawLines
html_after d before chain [] whole is = ap (λ c. before ++ c) is
html_after d before chain (p ∷ ps) whole (line, is, further) =
    let plain = plain_line d p.rest.owed (offset p) (line_end p) line is in
    let same : add_tokens (before ++ chain) line ≡ before ++ add_tokens chain line =
    plain_tokens line (before ++ chain) plain ∙ append_assoc before chain line ∙ ap (λ c. before ++ c) (sym (plain_tokens line chain plain)) in
    (line, is, subst (λ c. AreRawLines range_html d c ps (before ++ whole)) (sym same) (html_after d before (add_tokens chain line) ps whole further))

-- The first line of an HTML block, with columns owed at its start, is appended to a tree in which the block is open.
module _ {text : List ℕ} {named : Names} {start columns next : ℕ} {one : Forest Item} (options : Options) (g : Forest Item)
    (first : AppendsRaw range_html text named columns start next (opened_block g start HtmlBlock) one) (next_is : next ≡ after_line_at text start) where
  abbrev opened : Forest Item
  opened = opened_block g start HtmlBlock

  apart : JoinsNone opened
  apart = joins_none-fresh opened refl

  -- the following tokens are not joined to it
  pub first_apart : JoinsNone one
  first_apart = subst JoinsNone (sym first.tree_is) (plain_apart opened first.items apart
      (plain_line (document text options named) columns start next first.items (first.are options named (extends_none named))))

  module _ (p : Place) (i : IsPlaceAt text start p) where
    -- the next line begins at its end
    next_at : next ≡ after_line_at text (offset p)
    next_at = next_is ∙ ap (after_line_at text) (sym i.offset_is)

    pub first_end : next ≡ line_end p
    first_end = next_at ∙ ap (λ bs. offset p + line_len bs) (ap (λ k. drop k text) i.offset_is ∙ sym i.left_is)

    first_read : (further : Extent) → LinesSoFar range_html (document text options named) (with_line (owing columns p) further) further opened one
    first_read further =
        lines_more (lines_start range_html (document text options named) (with_line (owing columns p) further) opened) further (owing columns p) apart refl
        (record {
          new = one;
          named = named;
          owed = columns;
          from = start;
          to = next;
          extends = extends_none named;
          line = first;
          owed_is = refl;
          from_is = sym i.offset_is;
          to_is = first_end;
        })

    -- the block with its lines, closed
    whole_added : (names : Names) (e further : Extent) (two new : Forest Item) (stop left : ℕ)
        → e ≡ with_line p further → AppendsLines range_html (document text options names) (with_line (owing columns p) further) opened two stop left
        → new ≡ closed_by two stop two.spine → AddsRaw (document text options names) (λ d. IsHtml d start columns e.places e.«end») e.left g new left
    whole_added names e further two new stop left e_is lines new_is =
        let filled : Filled range_html (document text options names) (with_line (owing columns p) further) g start HtmlBlock =
        record { opened = opened; filled = two; stop = stop; next = left; is = refl; lines = lines } in
        subst (λ (x : Extent). AddsRaw (document text options names) (λ d. IsHtml d start columns x.places x.«end») x.left g new left) (sym e_is)
        (record {
          items = block_with start further.«end» HtmlBlock lines.chain;
          tree_is = block_done filled new new_is;
          are = λ more f. record { chain = lines.chain; lines = lines.lines more f; items_are = refl };
          left_is = lines.left_is;
        })

    -- the block has one line, which contains its end
    pub html_one : (until : BlockEnd) (new : Forest Item) → holds_end until (line_of p) ≡ true → new ≡ closed_by one next one.spine
        → (
        let e = html_to_end text (path_of options g) until p in
        AddsRaw (document text options named) (λ d. IsHtml d start columns e.places e.«end») e.left g new next)
    html_one until new held new_is =
        let further : Extent = extent_to next (lines_from text next) in
        whole_added named (html_to_end text (path_of options g) until p) further one new next next
        (ap (λ t. extent_by (if t then IsLast p else GoesOn p) p (lines_from text (after_line_at text (offset p)))
        (extent_from text (path_of options g) (tag_judge until) (after_line_at text (offset p)))) held
        ∙ ap (λ k. with_line p (extent_to k (lines_from text (after_line_at text (offset p))))) (sym first_end)
        ∙ ap (λ k. with_line p (extent_to next (lines_from text k))) (sym next_at))
        (lines_end (first_read further) next next refl) new_is

    -- the first line does not contain the end of the block, or none is looked for
    pub tag_extent : (until : BlockEnd)
        → holds_end until (line_of p) ≡ false
        → html_to_end text (path_of options g) until p ≡ with_line p (extent_from text (path_of options g) (tag_judge until) next)
    tag_extent until held = grind (arith, next_at)

    pub blank_extent : html_to_blank text (path_of options g) p ≡ with_line p (extent_from text (path_of options g) blank_judge next)
    blank_extent = ap (λ k. with_line p (extent_from text (path_of options g) blank_judge k)) (sym next_at)

    -- the block has more lines after the first
    module _ {names : Names} {further : Extent} {two : Forest Item} {stop left : ℕ} (extends : Extends names named)
        (lines : AppendsLines range_html (document text options names) further one two stop left) where
      more_read : AppendsLines range_html (document text options names) (with_line (owing columns p) further) opened two stop left
      more_read =
          let s = first_read further in
          record {
            chain = s.chain ++ lines.chain;
            tree_is = lines.tree_is ∙ ap (λ f. chained f lines.chain) s.tree_is ∙ chained-append opened s.chain lines.chain;
            lines = λ more f. s.continues more (s.chain ++ lines.chain) (extends_both more names named f extends)
                (subst (λ c. AreRawLines range_html (document text options more) c further.places (s.chain ++ lines.chain)) (append-nil s.chain)
                (html_after (document text options more) s.chain [] further.places lines.chain (lines.lines more f)));
            end_is = lines.end_is ∙ sym s.end_is;
            left_is = lines.left_is ∙ sym s.left_is;
          }

      pub html_more : (e : Extent) (new : Forest Item) → e ≡ with_line p further → new ≡ closed_by two stop two.spine
          → AddsRaw (document text options names) (λ d. IsHtml d start columns e.places e.«end») e.left g new left
      html_more e new e_is new_is = whole_added names e further two new stop left e_is more_read new_is

  -- it is still open after its first line, and after the others
  open_with : {d : Document} {whole : Extent} {two : Forest Item} {stop left : ℕ} → AppendsLines range_html d whole opened two stop left
      → IsSome (slice_get two.spine 0)
  open_with {d} {whole} {two} {stop} {left} lines = grind (arith, still_open)

  pub one_open : IsSome (slice_get one.spine 0)
  one_open =
      open_with (lines_end (first_read (first_at text start 0) (first_is text start 0) (extent_to next (lines_from text next))) next next refl)

  pub more_open : {names : Names} {further : Extent} {two : Forest Item} {stop left : ℕ}
      → Extends names named → AppendsLines range_html (document text options names) further one two stop left → IsSome (slice_get two.spine 0)
  more_open extends lines = open_with (more_read (first_at text start 0) (first_is text start 0) extends lines)

  -- the containers around the block are those around its lines
  pub first_path : AreIn (length g.nodes) g.spine → AreIn (length opened.nodes) opened.spine → path_of options one ≡ path_of options g
  first_path there in_opened =
      lines_path (first_read (first_at text start 0) (first_is text start 0) (extent_to next [])) in_opened
      ∙ opened_path options g opened start HtmlBlock refl refl there
