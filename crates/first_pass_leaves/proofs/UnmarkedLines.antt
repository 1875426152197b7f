-- Lines without the byte of a fence and without `\r` are whole lines of the fenced code block.
use Rattle.std.proofs.Common.{◌≡◌, inl, inr, ℕ, zero, suc, ◌+◌, ◌-◌, ◌<◌, ◌≤◌, ◌&&◌, Bool, true, false, List, ◌∷◌, length, drop, get_or, Option, Some, None}
use Rattle.std.proofs.Common.{if◌then◌else◌, refl, sym, ap, ◌∙◌, arith, get_or-drop, length-drop, drop-drop, option_map, true≢false}
use Rattle.first_pass_grammar.proofs.Common.{prefix_len, cases_lt, nat_tests, drop_more, prefix_len_passes, prefix_len_stops, line_feed, is_content, eol_len}
use Rattle.first_pass_grammar.proofs.Common.{Rest, indent, after_columns, line_place, line_rest, offset, all_taken, unindented, ends_with_both, fence_judge}
use Rattle.first_pass_leaves.proofs.Common.{is_unmarked, IsWhole, after_line_at, columns_hold, closing_fence_end, line_len-content_end}
use Rattle.first_pass_leaves.specs.declared.raw_line.RawKind.TheVariants.{Code}
use Rattle.first_pass_leaves.specs.RawBlocks.{AreWhole}
use Rattle.first_pass_leaves.proofs.FencedLemmas.{no_run}

-- The columns at the start of a line end at its `\n` or before it.
module _ (bs : List ℕ) (n : ℕ) (feed : get_or bs n 0 ≡ line_feed) where
  -- a rest of the line that begins at its `\n` or before it
  abbrev IsInLine : Rest → Type 0
  IsInLine r = (r.left ≡ drop r.taken bs) × (r.taken ≤ n)

  columns_taken : (k : ℕ) (r : Rest) → IsInLine r → IsInLine (after_columns k r)
  columns_taken = columns_hold IsInLine (λ o r inside. inside) (λ b r s small plain left taken inside.
      let first : b ≡ get_or bs r.taken 0 =
      ap (λ xs. get_or xs 0 0) (left ∙ inside.0) ∙ get_or-drop r.taken bs 0 0 ∙ ap (λ k. get_or bs k 0) (omega arith) in
      let before : ¬ (r.taken ≡ n) = λ e. absurd (true≢false (sym plain ∙ ap is_content (first ∙ ap (λ k. get_or bs k 0) e ∙ feed))) in
      (ap (drop 1) (left ∙ inside.0) ∙ drop-drop 1 r.taken bs ∙ ap (λ k. drop k bs) (sym taken), omega (arith, taken, before, inside.1)))

no_fence_if : (few : Bool) (f : ℕ → ℕ) (o : Option ℕ) → o ≡ None → (if few then option_map f o else None) ≡ None
no_fence_if true f o none = ap (option_map f) none
no_fence_if false f o none = refl

feed_ends : (b : ℕ) (bs : List ℕ) → b ≡ line_feed → eol_len (b ∷ bs) ≡ Some 1
feed_ends b bs e = grind (arith, nat_tests, e)

apart_if : (a b c : Bool) → (a ≡ true → b ≡ false) → (a && b && c) ≡ false
apart_if true b c differs = ap (λ t. t && c) (differs refl)
apart_if false b c differs = refl

module _ (text : List ℕ) (byte count to : ℕ) (many : 0 < count) (within : to ≤ length text) (ends : get_or text (to - 1) 0 ≡ line_feed) where
  -- each byte from an offset up to the end is unmarked
  abbrev AreUnmarked : ℕ → Type 0
  AreUnmarked from = (k : ℕ) → from ≤ k → k < to → is_unmarked byte (get_or text k 0) ≡ true

  module _ (at : ℕ) (some : at < to) (unmarked : AreUnmarked at) where
    abbrev line : List ℕ
    line = drop at text

    abbrev content : ℕ
    content = prefix_len is_content line

    byte_in : (k : ℕ) → get_or line k 0 ≡ get_or text (at + k) 0
    byte_in k = get_or-drop at text k 0

    -- the line has its `\n` before the end
    content_within : at + content < to
    content_within = elim (cases_lt (at + content) to) [
      | inl before ↦ before
      | inr past ↦ (
          let passes = prefix_len_passes is_content line (to - 1 - at) 0 (omega arith) in
          let last : get_or line (to - 1 - at) 0 ≡ line_feed = byte_in (to - 1 - at) ∙ ap (λ k. get_or text k 0) (omega arith) ∙ ends in
          absurd (true≢false (sym passes ∙ ap is_content last)))
    ]

    content_fits : content < length line
    content_fits = omega (arith, content_within, length-drop at text)

    content_ends : get_or line content 0 ≡ line_feed
    content_ends = grind (arith, prefix_len_stops, content_fits, content_within, byte_in, nat_tests)

    next_is : after_line_at text at ≡ at + content + 1
    next_is = grind (arith, drop_more, content_fits, feed_ends, content_ends, line_len-content_end)

    -- it is no closing fence
    no_end : closing_fence_end byte count (line_place at line) ≡ None
    no_end =
        let r : Rest = all_taken (line_rest line) in
        let inside = columns_taken line content content_ends (indent (line_rest line)) (line_rest line) (refl, omega arith) in
        let filled : 1 ≤ length r.left = omega (arith, ap length inside.0, length-drop r.taken line, content_fits, inside.1) in
        let first : get_or r.left 0 0 ≡ get_or text (at + r.taken) 0 =
        ap (λ bs. get_or bs 0 0) inside.0 ∙ get_or-drop r.taken line 0 0 ∙ ap (λ k. get_or line k 0) (omega arith) ∙ byte_in r.taken in
        let plain = unmarked (at + r.taken) (omega arith) (omega (arith, inside.1, content_within)) in
        no_fence_if _ (λ n. offset (unindented (line_place at line)) + n) _
        (no_run r.left byte count filled (λ e. grind (arith, nat_tests, first, plain, e)) many)

    apart : ends_with_both text at (after_line_at text at) ≡ false
    apart = grind (arith, apart_if, nat_tests, next_is, content_within)

    is_whole : IsWhole Code (fence_judge 0 byte count) text at
    is_whole = grind (arith, no_end, apart)

    later : (at < after_line_at text at) × (after_line_at text at ≤ to)
    later = (omega (arith, next_is), omega (arith, next_is, content_within))

  -- up to the `\n` before the end, each line is whole
  pub are_whole : (room at : ℕ) → to ≤ at + room → at ≤ to → AreUnmarked at → (lines : ℕ) × AreWhole Code (fence_judge 0 byte count) text lines at to
  unfolding AreWhole
  are_whole zero at room order unmarked = (0, omega arith)
  are_whole (suc n) at room order unmarked = elim (cases_lt at to) [
    | inl some ↦ (
        let l = later at some unmarked in
        let further = are_whole n (after_line_at text at) (omega (arith, l.0)) l.1 (λ k from. unmarked k (omega (arith, l.0))) in
        (suc further.0, (is_whole at some unmarked, further.1)))
    | inr none ↦ (0, omega arith)
  ]
