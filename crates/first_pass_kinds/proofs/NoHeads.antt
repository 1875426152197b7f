-- If the first byte of the next line rules out a delimiter row, the line before it heads no table. A line without a pipe heads none either.
use Rattle.std.proofs.Common.{◌≡◌, ℕ, nat_le, ◌&&◌, ◌||◌, not, Bool, true, false, List, [], ◌∷◌, length, drop, Option, Some, None, if◌then◌else◌, refl, sym, ap}
use Rattle.std.proofs.Common.{◌∙◌, arith, option_and_then, take_while, ne_eqb}
use Rattle.first_pass_grammar.proofs.Common.{list_any, and_parts, cond_both, not-true, or_parts, nat_tests, hyphen, colon, pipe, Alignment, is_content, begins}
use Rattle.first_pass_grammar.proofs.Common.{line_len, line_rest, Rest, after_columns, inert_indent, head_columns, Context, after, if_as_many, table_at}
use Rattle.first_pass_grammar.proofs.Common.{headed_table}
use Rattle.first_pass_kinds.proofs.Common.{inert_after, Container}
use Rattle.first_pass_lines.specs.Plain.{begins_inert, is_inert}
use Rattle.first_pass_scan.specs.TableHead.{is_pipe, delimiter_row_of}
use Rattle.first_pass_scan.proofs.DelimiterRows.{row_of-refused, row_of-some}
use Rattle.first_pass_scan.proofs.HeaderRows.{head-unpiped}
use Rattle.first_pass_open.proofs.PlainLemmas.{inert_path}

no_hyphen : (bs : List ℕ) → begins_inert bs ≡ true → begins hyphen bs ≡ false
unfolding is_inert
no_hyphen [] h = refl
no_hyphen (b ∷ bs) h = grind (arith, nat_tests, h)

row_none : (r : Rest) → r.owed ≡ 0 → begins_inert r.left ≡ true → begins pipe r.left ≡ false → begins colon r.left ≡ false → None ≡ delimiter_row_of r
row_none r owed inert no_pipe no_colon =
    let look = ap (λ (q : Rest). begins pipe q.left || begins hyphen q.left || begins colon q.left) (inert_after 4 r owed inert)
    ∙ rw (no_pipe, no_hyphen r.left inert, no_colon) refl in
    row_of-refused r (after_columns 4 r) refl (ap (λ n. nat_le 4 n) (inert_indent r owed inert)) look

row_by : (o : Option Rest) (r : Rest) → ((q : Rest) → o ≡ Some q → q ≡ r) → None ≡ delimiter_row_of r → option_and_then delimiter_row_of o ≡ None
row_by None r same none = refl
row_by (Some q) r same none = ap delimiter_row_of (same q refl) ∙ sym none

pub no_head : (path : List Container) (bs next : List ℕ) → next ≡ drop (line_len bs) bs
    → (begins_inert next && not (begins pipe next || begins colon next)) ≡ true
    → table_at path bs ≡ None
unfolding table_at
no_head path bs next is h = grind (arith, and_parts, or_parts, not-true, row_by, inert_path, row_none)

-- a line without a pipe heads no table either
no_columns : (o : Option Rest) (columns : ℕ) → columns ≡ 0 → option_and_then (if_as_many columns) (option_and_then delimiter_row_of o) ≡ None
no_columns None columns h = refl
no_columns (Some r) columns h = by (delimiter_row_of r) refl
  where
    by : (o : Option (List Alignment)) → delimiter_row_of r ≡ o → option_and_then (if_as_many columns) o ≡ None
    by None e = refl
    by (Some xs) e =
        let long = row_of-some r xs e in
        ap (λ (t : Bool). if t then Some xs else None) (ne_eqb (length xs) columns (λ same. omega arith))

no_pipe : (path : List Container) (bs : List ℕ) → list_any is_pipe (take_while is_content bs) ≡ false → table_at path bs ≡ None
unfolding table_at
no_pipe path bs h = no_columns (after path (line_rest (drop (line_len bs) bs))) (head_columns bs) (head-unpiped bs h)

pub no_headed : (around : Context) (bs : List ℕ) → list_any is_pipe (take_while is_content bs) ≡ false → headed_table around bs ≡ None
unfolding headed_table
no_headed around bs h = grind (arith, cond_both, no_pipe)
