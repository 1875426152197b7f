-- An underscore between two ASCII letters or digits.
use Rattle.std.proofs.Common.{◌≡◌, ℕ, ◌+◌, ◌-◌, ◌<◌, ◌==◌, true, false, length, take, Some, IsUtf8, nat_lt, slice_index, refl, sym, ap, ◌∙◌, arith, eqb-true}
use Rattle.std.proofs.Common.{ltb-true, lt-ltb}
use Rattle.first_pass_tokens.proofs.Common.{and_parts, underscore, Left, nat_tests, Ready, Inline, run_piece, is_inside_word, IsReadyAt, is_ascii_alphanumeric}
use Rattle.first_pass_tokens.proofs.Common.{DelimiterRun, can_open, can_close}
use Rattle.first_pass_walk.proofs.WordFacts.{word_underscore, opens_not, closes_not, last_word, first_word, no_pipe}
use Rattle.first_pass_tokens.specs.Pieces.{special_found, special_piece, delimiter_piece, run_size, run_in, char_before}
use Rattle.first_pass_tokens.proofs.PieceFacts.{at_byte}
use Rattle.first_pass_tokens.proofs.QuickPieces.{run_one}
use Rattle.first_pass_tokens.proofs.RunPlaces.{front_byte}

-- a run that neither opens nor closes is plain text
stays_plain : (r : DelimiterRun) → can_open r ≡ false → can_close r ≡ false → run_piece r ≡ Left r.size
stays_plain r a b = rw (a, b) refl

-- an underscore inside a word is plain text
inside_word_piece : (z : Inline) (at : ℕ) → IsUtf8 z.whole → z.text ≡ take (length z.text) z.whole → slice_index z.text at ≡ underscore → z.start < at
    → is_ascii_alphanumeric (slice_index z.text (at - 1)) ≡ true → is_ascii_alphanumeric (slice_index z.text (at + 1)) ≡ true → delimiter_piece z at ≡ Left 1
unfolding delimiter_piece run_in run_size char_before
inside_word_piece z at utf8 front here some before after =
    let p = slice_index z.text (at - 1) in
    let n = slice_index z.text (at + 1) in
    let next : at + 1 < length z.text = at_byte z.text (at + 1) (grind (arith, nat_tests, after)) in
    let seen : (k : ℕ) → k < length z.text → slice_index z.text k ≡ slice_index z.whole k = λ k l. (front_byte z.whole z.text k front l).0 in
    let fits = (front_byte z.whole z.text (at + 1) front next).1 in
    let low : slice_index z.whole at < 128 = omega (arith, here, seen at (omega arith)) in
    let p_is = seen (at - 1) (omega arith) in
    let n_is = seen (at + 1) next in
    let last : char_before z at ≡ Some p = rw (lt-ltb z.start at some)
    (last_word z.whole at utf8 (omega arith) (omega arith) low (ap is_ascii_alphanumeric (sym p_is) ∙ before) ∙ ap Some (sym p_is)) in
    let first = first_word z.whole at utf8 (omega arith) low (ap is_ascii_alphanumeric (sym n_is) ∙ after) ∙ ap Some (sym n_is) in
    let one : run_size z.text at ≡ 1 = rw here (run_one z.text at underscore (omega arith) here (word_underscore n after)) in
    let r : DelimiterRun = run_in z at 1 in
    let no_pipe_is = no_pipe z.text z.start at some (omega arith) before in
    ap (λ k. run_piece (run_in z at k)) one
    ∙ stays_plain r
    (opens_not r.in_row r p n refl here no_pipe_is before after last first)
    (closes_not r.in_row r p n refl here no_pipe_is before after last first)

pub inside_word_ready : (z : Inline) (at : ℕ) → IsUtf8 z.whole → z.text ≡ take (length z.text) z.whole → is_inside_word z.text z.start at ≡ true
    → IsReadyAt z at (Left 1)
unfolding special_found special_piece
inside_word_ready z at utf8 front h =
    let (is_mark, beside) = and_parts (slice_index z.text at == underscore) _ h in
    let (less, words) = and_parts (nat_lt z.start at) _ beside in
    let (before, after) = and_parts (is_ascii_alphanumeric (slice_index z.text (at - 1))) _ words in
    let here : slice_index z.text at ≡ underscore = eqb-true (slice_index z.text at) underscore is_mark in
    rw here (ap Ready (inside_word_piece z at utf8 front here (ltb-true z.start at less) before after))
