-- A line with a plain byte directly after its prefixes and indentation is one more line of the paragraph text before
-- it.
use Rattle.std.proofs.Common.{◌≡◌, ℕ, ◌+◌, nat_lt, Bool, true, false, List, Option, None, refl, sym, ap, ◌∙◌, arith}
use Rattle.first_pass_grammar.proofs.Common.{and-false, cond_both, hyphen, colon, equals_sign, left_bracket, pipe, is_plain, begins_plain, Rest, indent}
use Rattle.first_pass_grammar.proofs.Common.{setext_underline, plain_begins, footnote_head, Context, front, Continued, continued, all_taken, interrupts}
use Rattle.first_pass_grammar.proofs.Common.{underline_of}
use Rattle.first_pass_kinds.proofs.Common.{plain_eol, Container, interrupts_in, colon_ends, More, next_line_of}
use Rattle.first_pass_kinds.proofs.PlainKinds.{plain_interrupts}

plain_setext : (bs : List ℕ) → begins_plain bs ≡ true → setext_underline bs ≡ None
unfolding setext_underline is_plain
plain_setext bs h = rw (plain_begins equals_sign bs h refl, plain_begins hyphen bs h refl) refl

plain_footnote : (prefix : List ℕ → Option ℕ) (in_table : Bool) (bs : List ℕ) → begins_plain bs ≡ true → footnote_head prefix in_table bs ≡ None
unfolding footnote_head is_plain
plain_footnote prefix in_table bs h = rw (plain_begins left_bracket bs h refl) refl

plain_in : (around : Context) (c : Continued) (bs : List ℕ) → begins_plain bs ≡ true → interrupts_in around c bs ≡ false
unfolding is_plain
plain_in around c bs h =
    rw (plain_interrupts c.whole bs h, plain_footnote (λ further. None) false bs h)
    (simp (plain_begins colon bs h refl, plain_begins pipe bs h refl, and-false) refl)

plain_ends : (around : Context) (c : Continued) (r : Rest) → begins_plain (all_taken r).left ≡ true → interrupts around c r ≡ false
unfolding interrupts
plain_ends around c r h =
    rw (plain_in around c (all_taken r).left h, plain_eol (all_taken r).left h)
    (cond_both (nat_lt (indent r) 4) false false (λ t. t ≡ false) (λ _. refl) (λ _. refl))

pub no_underline : (path : List Container) (r : Rest) → setext_underline (all_taken (front path r)).left ≡ None → underline_of path r ≡ None
unfolding underline_of
no_underline path r e = grind (arith, cond_both)

plain_underline : (path : List Container) (r : Rest) → begins_plain (all_taken (front path r)).left ≡ true → underline_of path r ≡ None
plain_underline path r h = no_underline path r (plain_setext (all_taken (front path r)).left h)

plain_colon : (around : Context) (r : Rest) → begins_plain (all_taken (front around.path r)).left ≡ true → colon_ends around r ≡ false
unfolding is_plain
plain_colon around r h =
    simp (plain_begins colon (all_taken (front around.path r)).left h refl, and-false) refl

pub plain_more : (around : Context) (start : ℕ) (r q : Rest) → q ≡ all_taken (front around.path r) → begins_plain q.left ≡ true →
    More (start + q.taken) ≡ next_line_of around start r
plain_more around start r q e h =
    let plain : begins_plain (all_taken (front around.path r)).left ≡ true = sym (ap (λ (s : Rest). begins_plain s.left) e) ∙ h in
    rw (plain_underline around.path r plain, plain_ends around (continued around.path r) (front around.path r) plain, plain_colon around r plain)
    (ap (λ (s : Rest). More (start + s.taken)) e)
