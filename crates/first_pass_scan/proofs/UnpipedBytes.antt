-- A line has a pipe exactly if one follows the bytes before its first pipe or line ending.
use Rattle.std.proofs.Common.{◌≡◌, ℕ, suc, ◌+◌, ◌<◌, ◌≤◌, ◌==◌, ◌||◌, Bool, true, false, List, [], ◌∷◌, length, get_or, take, drop, refl, sym, ap, ◌∙◌, arith}
use Rattle.std.proofs.Common.{take_while, drop-drop}
use Rattle.std.specs.List.{prefix_len, list_any}
use Rattle.std.proofs.lemmas.Bool.Decides.{nat_tests}
use Rattle.std.proofs.lemmas.List.{drop_more, drop_all}
use Rattle.std.proofs.lemmas.List.Sums.{prefix_len_is}
use Rattle.first_pass_items.specs.Bytes.{pipe}
use Rattle.first_pass_lines.specs.Lines.{is_line_end, is_content, begins}
use Rattle.first_pass_lines.proofs.LaneLemmas.{after_passed}
use Rattle.first_pass_scan.specs.TableHead.{is_pipe}
use Rattle.first_pass_scan.specs.Pipes.{is_unpiped}

end_no_pipe : (b : ℕ) → is_line_end b ≡ true → is_pipe b ≡ false
end_no_pipe b h = grind (arith, nat_tests, h)

one_more : (n : ℕ) → 1 + n ≡ suc n
one_more n = omega arith

abbrev IsPipeAfter : List ℕ → Type 0
IsPipeAfter bs = begins pipe (drop (prefix_len is_unpiped bs) bs) ≡ list_any is_pipe (take_while is_content bs)

by_first : (b : ℕ) (bs : List ℕ) (ending piped : Bool) → is_line_end b ≡ ending → is_pipe b ≡ piped → IsPipeAfter bs → IsPipeAfter (b ∷ bs)
by_first b bs true piped e p later = rw e (end_no_pipe b e)
by_first b bs false true e p later =
    let here = ap (λ t. t || list_any is_pipe (take_while is_content bs)) p in
    rw (e, p) (p ∙ sym (ap (λ n. list_any is_pipe (take n (b ∷ bs))) (one_more (prefix_len is_content bs)) ∙ here))
by_first b bs false false e p later =
    let not_here = ap (λ t. t || list_any is_pipe (take_while is_content bs)) p in
    rw (e, p) (ap (λ n. begins pipe (drop n (b ∷ bs))) (one_more (prefix_len is_unpiped bs)) ∙ later
    ∙ sym (ap (λ n. list_any is_pipe (take n (b ∷ bs))) (one_more (prefix_len is_content bs)) ∙ not_here))

pipe_after_unpiped : (bs : List ℕ) → IsPipeAfter bs
pipe_after_unpiped [] = refl
pipe_after_unpiped (b ∷ bs) = by_first b bs (is_line_end b) (is_pipe b) refl refl (pipe_after_unpiped bs)

-- the first byte that is a pipe or in a line ending decides
pub pipe_at : (bs : List ℕ) (n : ℕ) → n < length bs → ((k : ℕ) → k < n → is_unpiped (get_or bs k 0) ≡ true) → is_unpiped (get_or bs n 0) ≡ false
    → (get_or bs n 0 == pipe) ≡ list_any is_pipe (take_while is_content bs)
pipe_at bs n l before at =
    let len = prefix_len_is is_unpiped bs n 0 (omega arith) before (λ _. at) in
    sym (ap (begins pipe) (drop_more bs n 0 l)) ∙ sym (ap (λ k. begins pipe (drop k bs)) len) ∙ pipe_after_unpiped bs

-- without such a byte there is no pipe
pub no_pipe_in : (bs : List ℕ) → ((k : ℕ) → k < length bs → is_unpiped (get_or bs k 0) ≡ true) → false ≡ list_any is_pipe (take_while is_content bs)
no_pipe_in bs all =
    let len = prefix_len_is is_unpiped bs (length bs) 0 (omega arith) all (λ l. absurd (omega arith)) in
    sym (ap (begins pipe) (drop_all (length bs) bs (omega arith))) ∙ sym (ap (λ k. begins pipe (drop k bs)) len) ∙ pipe_after_unpiped bs

-- bytes before it don't count
pub past_unpiped : (bs : List ℕ) (i : ℕ) → i ≤ length bs → ((k : ℕ) → k < i → is_unpiped (get_or bs k 0) ≡ true)
    → list_any is_pipe (take_while is_content (drop i bs)) ≡ list_any is_pipe (take_while is_content bs)
past_unpiped bs i l before =
    let rest = prefix_len is_unpiped (drop i bs) in
    sym (pipe_after_unpiped (drop i bs)) ∙ ap (begins pipe) (drop-drop rest i bs)
    ∙ ap (λ k. begins pipe (drop k bs)) (after_passed is_unpiped bs i l before) ∙ pipe_after_unpiped bs
