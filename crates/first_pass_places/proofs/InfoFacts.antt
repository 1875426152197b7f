-- The range of an info string has its bytes.
use Rattle.std.proofs.Common.{◌≡◌, ℕ, ◌+◌, ◌-◌, ◌<◌, Bool, true, List, length, take, drop, slice_index, Option, Some, None, sym, ap, ◌∙◌, arith}
use Rattle.std.proofs.Common.{if◌then◌else◌, slice_range, take-take, drop-drop, length-take-le}
use Rattle.first_pass_grammar.proofs.Common.{cond_both, prefix_len, suffix_len, suffix_len-le-length, none-some, same_Some, backquote, tilde, ascii_end, Item}
use Rattle.first_pass_grammar.proofs.Common.{is_white, is_white_or_line_end, begins, first_byte, line_len, line_len-fits, run_len, code_fence, trimmed}
use Rattle.first_pass_grammar.proofs.Common.{info_string, IsFencedCode, Document, Place, some_if}
use Rattle.first_pass_places.specs.AttributePlaces.{range_of}
use Rattle.first_pass_places.specs.InfoStrings.{bytes_in, fence_end, info_start, info_range}
use Rattle.first_pass_places.specs.NamePlaces.{FirstIsReadFromText}

-- the length of an info string
pub trimmed_length : (bs : List ℕ) → length (trimmed (take (line_len bs) bs)) ≡ line_len bs - suffix_len is_white_or_line_end (take (line_len bs) bs)
trimmed_length bs =
    let line : List ℕ = take (line_len bs) bs in
    let whole : length line ≡ line_len bs = length-take-le (line_len bs) bs (line_len-fits bs) in
    length-take-le (length line - suffix_len is_white_or_line_end line) line (omega arith) ∙ ap (λ n. n - suffix_len is_white_or_line_end line) whole

-- the range of an info string has its bytes
pub info_bytes : (text : List ℕ) (start : ℕ) → bytes_in text (info_range text start) ≡ info_string (drop (fence_end text start) text)
unfolding info_string info_range
info_bytes text start =
    let e : ℕ = fence_end text start in
    let n : ℕ = prefix_len is_white (drop e text) in
    let rest : List ℕ = drop n (drop e text) in
    let line : List ℕ = take (line_len rest) rest in
    let info : List ℕ = trimmed line in
    let kept : ℕ = length line - suffix_len is_white_or_line_end line in
    let whole : length line ≡ line_len rest = length-take-le (line_len rest) rest (line_len-fits rest) in
    let size : length info ≡ kept = omega (arith, trimmed_length rest, whole) in
    let long : e + n + length info - (e + n) ≡ length info = omega arith in
    ap (λ k. take k (drop (e + n) text)) long
    ∙ ap (take (length info)) (sym (drop-drop n e text)) ∙ ap (λ k. take k rest) size ∙ sym (take-take kept (line_len rest) rest (omega (arith, whole)))

-- the range that is read
pub info_found : (text : List ℕ) (start run white next trailing : ℕ) → run ≡ run_len (slice_index (drop start text) 0) (drop start text)
    → white ≡ prefix_len is_white (drop (start + run) text) → next ≡ start + run + white + line_len (drop (start + run + white) text)
    → trailing ≡ suffix_len is_white_or_line_end (slice_range text (start + run + white) next)
    → range_of (start + run + white) (next - trailing) ≡ info_range text start
unfolding info_range info_string
info_found text start run white next trailing run_is white_is next_is trailing_is =
    let fence : ℕ = fence_end text start in
    let from : ℕ = info_start text start in
    let rest : List ℕ = drop from text in
    let line : List ℕ = take (line_len rest) rest in
    let size : from + line_len rest - from ≡ line_len rest = omega arith in
    let fits = suffix_len-le-length is_white_or_line_end line in
    let whole : length line ≡ line_len rest = length-take-le (line_len rest) rest (line_len-fits rest) in
    let long : from + line_len rest - suffix_len is_white_or_line_end line ≡ from + length (trimmed line) = omega (arith, trimmed_length rest, fits, whole) in
    let there : rest ≡ drop (prefix_len is_white (drop fence text)) (drop fence text) = sym (drop-drop (prefix_len is_white (drop fence text)) fence text) in
    rw (trailing_is, next_is, white_is, run_is, size)
    (ap (range_of from) long ∙ ap (λ bs. range_of from (from + length (trimmed (take (line_len bs) bs)))) there)

-- a code fence is the run of its first byte, which is ASCII
pub record IsFence (bs : List ℕ) (n : ℕ) : Type 0 where
  pub run : n ≡ run_len (slice_index bs 0) bs
  pub ascii : slice_index bs 0 < ascii_end

fence_of : (c : ℕ) (bs : List ℕ) (t : Bool) (fence : ℕ × ℕ) → c < ascii_end → begins c bs ≡ true → (if t then Some (run_len c bs, c) else None) ≡ Some fence
    → IsFence bs fence.0
fence_of c bs t fence small begun h =
    let first = sym (first_byte c bs 0 begun).1 in
    let size = ap (λ (p : ℕ × ℕ). p.0) (same_Some (run_len c bs, c) fence (some_if t (Some (run_len c bs, c)) fence h).1) in
    record { run = sym size ∙ ap (λ k. run_len k bs) first; ascii = omega (arith, first, small) }

pub fence_is : (bs : List ℕ) (fence : ℕ × ℕ) → code_fence bs ≡ Some fence → IsFence bs fence.0
unfolding code_fence
fence_is bs fence =
    let P : Option (ℕ × ℕ) → Type 0 = λ o. o ≡ Some fence → IsFence bs fence.0 in
    cond_both (begins backquote bs) _ _ P (λ begun. fence_of backquote bs _ fence (omega arith) begun)
    (λ _. cond_both (begins tilde bs) _ _ P (λ begun. fence_of tilde bs _ fence (omega arith) begun) (λ _ h. absurd (none-some fence h)))

-- the info string that a fenced code block names is that of its range
pub fenced_is_read : (d : Document) (start count byte : ℕ) (places : List Place) (e : ℕ) (items : List (ℕ × Item))
    → code_fence (drop start d.text) ≡ Some (count, byte) → IsFencedCode d start count places e items → FirstIsReadFromText d items
fenced_is_read d start count byte places e items fence is = grind (arith, fence_is, info_bytes)
