-- The closing fence, the info string and the lines of a fenced code block.
use Rattle.std.proofs.Common.{◌≡◌, ℕ, ◌+◌, ◌-◌, ◌<◌, ◌≤◌, ◌==◌, not, Bool, nat_le, true, false, List, length, take, drop, Option, Some, None, is_some}
use Rattle.std.proofs.Common.{slice_index_or, not-suc-le-zero, ◌∷◌, [], IsUtf8, IsCharBoundary, if◌then◌else◌, refl, sym, ap, subst, ◌∙◌, arith, length-drop}
use Rattle.std.proofs.Common.{length-take-le, drop-drop, option_map, eqb-true, leb-false, lt-ltb, take-take}
use Rattle.first_pass_grammar.proofs.Common.{prefix_len, suffix_len, cond_both, cond-true, lt-leb, none-some, cond_some, ascii_end, CowIndex, Item}
use Rattle.first_pass_grammar.proofs.Common.{FencedCodeBlock, Forest, is_content, is_white, is_white_or_line_end, line_len, run_len, code_fence}
use Rattle.first_pass_grammar.proofs.Common.{closing_fence_len, Rest, indent, next_column, after_columns, line_place, place_at, offset, IsPlaceOf}
use Rattle.first_pass_grammar.proofs.Common.{line_len-fits, all_columns_up_to, line_is_place, white_keeps, Names, Extends, unindented, Document, block_with}
use Rattle.first_pass_grammar.proofs.Common.{fence_judge, trimmed, info_string, NamesInfo, IsFencedCode, Extent, range_text}
use Rattle.first_pass_leaves.proofs.Common.{path_of, closed_by, AddsRaw, fenced_after, prefix_keeps, trimmed_boundary, all_keep, closing_fence_end}
use Rattle.first_pass_leaves.proofs.ExtentLemmas.{Filled, OpenedAt, lines_of, block_done}
use Rattle.first_pass_open.proofs.PlainLemmas.{none_few, none_all}

-- a place after the columns of a line: fewer than four are all taken when up to four are
pub indented_place : (text : List ℕ) (start n : ℕ) (r s : Rest) (four : Bool) → IsUtf8 text → IsPlaceOf text (place_at start r)
    → four ≡ false → four ≡ nat_le 4 (indent r) → s ≡ after_columns 4 r → n ≡ s.taken
    → (indent r < 4) × (start + n ≡ offset (unindented (place_at start r))) × IsPlaceOf text (unindented (place_at start r))
indented_place text start n r s four u i less value after is =
    let few : indent r < 4 = omega (arith, leb-false 4 (indent r) (sym value ∙ less)) in
    let taken = is ∙ ap (λ (t : Rest). t.taken) (after ∙ all_columns_up_to 4 r (omega (arith, few))) in
    (few, ap (λ k. start + k) taken, all_keep text start r u i)

-- a line that begins with another byte than the fence is no closing fence
pub no_run : (bs : List ℕ) (byte count : ℕ) → 1 ≤ length bs → (slice_index_or bs 0 0 ≡ byte → ⊥) → 0 < count → closing_fence_len byte count bs ≡ None
unfolding closing_fence_len
no_run [] byte count filled other many = absurd (not-suc-le-zero filled)
no_run (b ∷ bs) byte count filled other many = grind (arith, lt-leb)

pub no_fence : (r : Rest) (byte count start : ℕ) → true ≡ not (is_some (next_column r)) → 1 ≤ length r.left → (slice_index_or r.left 0 0 ≡ byte → ⊥) → 0 < count
    → closing_fence_end byte count (place_at start r) ≡ None
no_fence r byte count start none filled other many = grind (arith, none_few, none_all, no_run)

-- the result of a search for a closing fence in the rest after the columns
pub closing_end : (text : List ℕ) (start n byte count : ℕ) (r : Rest) (o : Option ℕ)
    → (indent r < 4) × (start + n ≡ offset (unindented (place_at start r))) × IsPlaceOf text (unindented (place_at start r))
    → o ≡ closing_fence_len byte count (drop (start + n) text)
    → closing_fence_end byte count (place_at start r) ≡ option_map (λ k. start + n + k) o
closing_end text start n byte count r o (few, same, p) k = rw (k, same, ← p.left) (cond-true _ _ _ (lt-ltb (indent r) 4 few))

-- an info string after an offset: the white space before it, the end of its line, and the white space before that end
pub record IsInfo (text : List ℕ) (start from next white : ℕ) : Type 0 where
  pub from_is : from ≡ start + prefix_len is_white (drop start text)
  pub next_is : next ≡ from + line_len (drop from text)
  pub white_is : white ≡ suffix_len is_white_or_line_end (take (next - from) (drop from text))

pub info_read : (text bytes : List ℕ) (start n next white : ℕ)
    → bytes ≡ text → n ≡ prefix_len is_white (drop start bytes) → next ≡ start + n + line_len (drop (start + n) bytes)
    → white ≡ suffix_len is_white_or_line_end (take (next - (start + n)) (drop (start + n) bytes)) → IsInfo text start (start + n) next white
info_read text bytes start n next white e g j k = rw (← e) (record { from_is = ap (λ m. start + m) g; next_is = j; white_is = k })

module _ (text : List ℕ) (start from next white : ℕ) (info : IsInfo text start from next white) (u : IsUtf8 text) (b : IsCharBoundary text start) where
  -- its start is between characters
  pub info_from : IsCharBoundary text from
  info_from =
      let e : start + (0 + prefix_len is_white (drop start text)) ≡ from = omega (arith, info.from_is) in
      subst (IsCharBoundary text) e (white_keeps text (line_place start (drop start text)) u (line_is_place text start b)).boundary

  info_line : (length (take (next - from) (drop from text)) ≡ next - from) × (from ≤ next) × (next ≤ length text)
  info_line =
      let l = length-drop from text in
      let fits = line_len-fits (drop from text) in
      let w : from ≤ length text = info_from.0 in
      let n = info.next_is in
      (length-take-le (next - from) (drop from text) (omega arith), omega arith, omega arith)

  -- its end is between characters
  pub info_end : IsCharBoundary text (next - white)
  info_end =
      let line : List ℕ = drop from text in
      let size : next - from ≡ line_len line = omega (arith, info.next_is) in
      let same = info.white_is ∙ ap (λ n. suffix_len is_white_or_line_end (take n line)) size in
      let e : from + line_len line - suffix_len is_white_or_line_end (take (line_len line) line) ≡ next - white = omega (arith, info.next_is, same) in
      subst (IsCharBoundary text) e (trimmed_boundary text from u info_from)

  -- its bytes
  pub info_is : take (next - white - from) (drop from text) ≡ info_string (drop start text)
  unfolding info_string
  info_is =
      let k : ℕ = next - from in
      let l = info_line in
      let same = info.white_is in
      let n : k ≡ line_len (drop from text) = omega (arith, info.next_is) in
      let cut : next - white - from ≡ length (take k (drop from text)) - suffix_len is_white_or_line_end (take k (drop from text)) = omega (arith, l.0) in
      let inside : next - white - from ≤ k = omega arith in
      sym (take-take (next - white - from) k (drop from text) inside) ∙ ap (λ m. take m (take k (drop from text))) cut
      ∙ ap (λ m. trimmed (take m (drop from text))) n
      ∙ ap (λ bs. trimmed (take (line_len bs) bs)) (ap (λ m. drop m text) info.from_is ∙ sym (drop-drop (prefix_len is_white (drop start text)) start text))

-- a fence if a test passes
abbrev fence_if : Bool → ℕ × ℕ → Option (ℕ × ℕ)
fence_if t fence = if t then Some fence else None

-- a code fence is a run of its byte, which is ASCII and none of a line ending
abbrev IsFence : List ℕ → ℕ × ℕ → Type 0
IsFence bs fence = (fence.0 ≡ run_len fence.1 bs) × (fence.1 < ascii_end) × (is_content fence.1 ≡ true)

fence_by : (t : Bool) (byte : ℕ) (bs : List ℕ) (fence : ℕ × ℕ)
    → byte < ascii_end → is_content byte ≡ true → fence_if t (run_len byte bs, byte) ≡ Some fence → IsFence bs fence
fence_by t byte bs fence small plain h = subst (IsFence bs) (cond_some t (run_len byte bs, byte) fence h).1 (refl, small, plain)

fence_run : (bs : List ℕ) (fence : ℕ × ℕ) → code_fence bs ≡ Some fence → IsFence bs fence
unfolding code_fence
fence_run bs fence h = grind (arith, cond_both, fence_by, none-some)

pub fence_plain : (bs : List ℕ) (fence : ℕ × ℕ) → code_fence bs ≡ Some fence → is_content fence.1 ≡ true
fence_plain bs fence h = (fence_run bs fence h).2

-- The end of a fence is between characters.
pub fence_end : (text : List ℕ) (start n c : ℕ)
    → IsUtf8 text → IsCharBoundary text start → code_fence (drop start text) ≡ Some (n, c) → IsCharBoundary text (start + n)
fence_end text start n c u b h =
    let f = fence_run (drop start text) (n, c) h in
    let ascii : (k : ℕ) → (k == c) ≡ true → k < ascii_end = λ k g. let e = eqb-true k c g in let small = f.1 in omega arith in
    let e : start + (0 + run_len c (drop start text)) ≡ start + n = omega (arith, f.0) in
    subst (IsCharBoundary text) e (prefix_keeps (λ k. k == c) ascii text (line_place start (drop start text)) u (line_is_place text start b)).boundary

-- A fenced code block with its info string and its lines is added.
pub fenced_added : (d : Document) (g new : Forest Item) (start columns byte count : ℕ) (info : CowIndex)
    (b : OpenedAt range_text d (fence_judge columns byte count) g start (FencedCodeBlock info))
    → ((more : Names) → Extends more d.names → NamesInfo more info (info_string (drop (start + count) d.text)))
    → new ≡ closed_by b.filled b.stop b.filled.spine
    → (
    let x = fenced_after d.text (path_of d.options g) columns byte count start in
    AddsRaw d (λ e. IsFencedCode e start count x.places x.«end») x.left g new b.next)
fenced_added d g new start columns byte count info b names_info new_is =
    let x : Extent = fenced_after d.text (path_of d.options g) columns byte count start in
    let all : Filled range_text d x g start (FencedCodeBlock info) = lines_of b in
    record {
      items = block_with start x.«end» (FencedCodeBlock info) all.lines.chain;
      tree_is = block_done all new new_is;
      are = λ more f. record {
        chain = all.lines.chain;
        info = info;
        names = names_info more f;
        lines = all.lines.lines more f;
        items_are = refl;
      };
      left_is = all.lines.left_is;
    }
