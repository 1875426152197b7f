-- Whole lines of code that no container is around: together they are one text.
use Rattle.std.proofs.Common.{◌≡◌, ◌⊎◌, inl, inr, ℕ, zero, suc, ◌<◌, ◌≤◌, Bool, true, false, List, [], ◌∷◌, length, drop, reverse, slice_index_or, Some, IsUtf8}
use Rattle.std.proofs.Common.{IsCharBoundary, if◌then◌else◌, nat_lt, refl, sym, ap, subst, ◌∙◌, arith}
use Rattle.first_pass_grammar.proofs.Common.{cases_lt, Item, CowIndex, FencedCodeBlock, Options, TreeIndex, Forest, item_at, Place, line_place, line_rest}
use Rattle.first_pass_grammar.proofs.Common.{JoinsNone, with_tokens, chained, text_token, add_text, add_token, add_tokens, add_text-none, with_tokens-chained}
use Rattle.first_pass_grammar.proofs.Common.{after, Document, Verdict, range_text}
use Rattle.first_pass_leaves.proofs.Common.{path_of, AreIn, add_text-joined, with_text-chained, with_text-none, range_of, IsWhole, after_line_at}
use Rattle.first_pass_leaves.proofs.Common.{reverse-reverse, with_text, container_is, line_start_end}
use Rattle.first_pass_names.proofs.NameLemmas.{extends_none}
use Rattle.first_pass_leaves.specs.declared.verdict.Verdict.TheVariants.{GoesOn}
use Rattle.first_pass_leaves.specs.RawBlocks.{AreWhole}
use Rattle.first_pass_leaves.specs.declared.raw_line.RawKind.{RawKind}
use Rattle.first_pass_leaves.proofs.ExtentLemmas.{ReadSoFar, LineAppended, LineJudged, lines_path, lines_start, line_read, read_more}
use Rattle.first_pass_leaves.proofs.RawLineLemmas.{raw_one}

-- no lines
pub none_whole : (kind : RawKind) (judge : Place → Place → Verdict) (text : List ℕ) (at : ℕ) → (lines : ℕ) × AreWhole kind judge text lines at at
unfolding AreWhole
none_whole kind judge text at = (0, refl)

-- a single open node
pub only_open : (spine outwards : List TreeIndex) (none : TreeIndex)
    → outwards ≡ reverse spine → 1 ≤ length outwards → length outwards < 2 → spine ≡ slice_index_or outwards 0 none ∷ []
only_open spine [] none is some one = absurd (omega arith)
only_open spine (x ∷ y ∷ xs) none is some one = absurd (omega arith)
only_open spine (x ∷ []) none is some one = sym (reverse-reverse spine) ∙ sym (ap reverse is)

-- no container is open if the only open node is a fenced code block
pub code_path : (options : Options) (f : Forest Item) (ix : TreeIndex) (code : Item) (info : CowIndex)
    → f.spine ≡ ix ∷ [] → item_at f ix ≡ Some code → code.body ≡ FencedCodeBlock info → path_of options f ≡ []
code_path options f ix code info alone is leaf = grind (arith, container_is)

added_if : (chain : List Item) (x : Item) (t : Bool) → add_tokens chain (if t then x ∷ [] else []) ≡ if t then add_token chain x else chain
added_if chain x true = refl
added_if chain x false = refl

-- a range added to a chain
range_added : (chain : List Item) (from to : ℕ) → add_tokens chain (range_text from to) ≡ add_text from to false chain
range_added chain from to = added_if chain (text_token from to false) (nat_lt from to)

module _ (kind : RawKind) (d : Document) (judge : Place → Place → Verdict) (first : ℕ) (old : Forest Item)
    (u : IsUtf8 d.text) (apart : JoinsNone old) (there : AreIn (length old.nodes) old.spine) where
  -- the tree with the text of the lines up to an offset
  abbrev text_to : ℕ → Forest Item
  text_to at = with_text old first at false

  text_joined : (at next : ℕ) → first ≤ at → at ≤ next → text_to next ≡ with_tokens (text_to at) (range_text at next)
  text_joined at next order later =
      let chain : List Item = add_text first at false [] in
      let joined : add_text at next false chain ≡ add_text first next false [] = elim (cases_lt first at) [
        | inl some ↦ add_text-joined first at next false [] some later
        | inr empty ↦ ap (add_text at next false) (add_text-none first at false [] empty) ∙ ap (λ k. add_text k next false []) (omega arith)
      ] in
      with_text-chained old [] first next false apart (omega arith) ∙ ap (chained old) (sym joined ∙ sym (range_added chain at next))
      ∙ sym (with_tokens-chained old chain (range_text at next) apart)
      ∙ ap (λ f. with_tokens f (range_text at next)) (sym (with_text-chained old [] first at false apart order))

  -- The lines from the first offset up to another are read, and their text is appended.
  abbrev pub TextTo : ℕ → Type 0
  TextTo at = (first ≤ at) × IsCharBoundary d.text at × ReadSoFar (range_of kind) d judge first at old (text_to at)

  one_more : path_of d.options old ≡ [] → (at : ℕ) → TextTo at → IsWhole kind judge d.text at → TextTo (after_line_at d.text at)
  unfolding after
  one_more none at (order, here, read) whole =
      let next : ℕ = after_line_at d.text at in
      let line = line_read d.text d.text at next u here whole.within refl refl in
      let judged : LineJudged (range_of kind) d judge first at old (text_to at) = record {
        next = next;
        before = line_rest (drop at d.text);
        following = line_rest (drop at d.text);
        answer = GoesOn;
        so_far = read;
        there = there;
        line = line;
        taken = sym (ap (λ path. after path (line_rest (drop at d.text))) (lines_path read there ∙ none));
        is = whole.goes_on;
      } in
      let appended : LineAppended (range_of kind) d (line_place at (drop at d.text)) (text_to at) = record {
        new = text_to next;
        named = d.names;
        owed = 0;
        from = at;
        to = next;
        extends = extends_none d.names;
        line = record {
          items = range_text at next;
          tree_is = text_joined at next order (omega (arith, line.later));
          are = λ options more e. ([], refl, sym (raw_one (range_of kind) d.text at next whole.not_both ∙ ap (λ k. range_of k at next) whole.code));
        };
        owed_is = refl;
        from_is = omega arith;
        to_is = sym (line_start_end d.text at);
      } in
      (omega (arith, line.later), line.boundary, read_more judged apart appended refl)

  more_whole : path_of d.options old ≡ [] → (lines at to : ℕ) → TextTo at → AreWhole kind judge d.text lines at to → TextTo to
  unfolding AreWhole
  more_whole none zero at to read same = subst TextTo same read
  more_whole none (suc lines) at to read (whole, further) = more_whole none lines (after_line_at d.text at) to (one_more none at read whole) further

  text_start : IsCharBoundary d.text first → TextTo first
  text_start here = grind (arith, lines_start, with_text-none)

  -- whole lines from the first offset on, if no container is around them
  pub whole_start : IsCharBoundary d.text first → (bytes : List ℕ) (to : ℕ) → bytes ≡ d.text → (lines : ℕ) × AreWhole kind judge bytes lines first to
      → (to ≡ first) ⊎ ((options : Options) → path_of options old ≡ []) → TextTo to
  whole_start here bytes to same (lines, whole) (inl none) = subst TextTo (sym none) (text_start here)
  whole_start here bytes to same (lines, whole) (inr none) = grind (arith, more_whole, text_start)
