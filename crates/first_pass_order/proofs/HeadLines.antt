-- A line that heads a table has another line after it, the delimiter row.
use Rattle.std.proofs.Common.{◌≡◌, inl, inr, ℕ, ◌+◌, ◌<◌, ◌&&◌, not, List, [], length, drop, Some, None, refl, ap, arith, length-drop, option_and_then}
use Rattle.first_pass_grammar.proofs.Common.{cases_lt, drop_all, none-some, has, tables, Alignment, line_len, Place, line_rest, offset, IsPlaceOf, some_if}
use Rattle.first_pass_grammar.proofs.Common.{Context, after, table_at, ends_in_backslash, headed_table}
use Rattle.first_pass_order.proofs.Common.{after-end, Container}
use Rattle.first_pass_scan.specs.TableHead.{stripped, delimiter_row, delimiter_row_of}

-- At the end of the text, no delimiter row follows the prefixes of a path.
row_after : (path : List Container) → option_and_then delimiter_row_of (after path (line_rest [])) ≡ None
unfolding delimiter_row_of delimiter_row stripped
row_after path = elim (after-end path) [ inl none ↦ rw none refl | inr some ↦ rw some refl ]

no_table : (path : List Container) (bs : List ℕ) → drop (line_len bs) bs ≡ [] → table_at path bs ≡ None
unfolding table_at
no_table path bs none = rw (none, row_after path) refl

-- A line that heads a table ends before the text does.
pub table_has_line : (path : List Container) (bs : List ℕ) (alignments : List Alignment) → table_at path bs ≡ Some alignments → line_len bs < length bs
table_has_line path bs alignments h = grind (arith, cases_lt, none-some, no_table, drop_all)

-- The line of a text that heads a table ends before the text does.
pub headed_has_line : (text : List ℕ) (around : Context) (p : Place) (alignments : List Alignment) → IsPlaceOf text p
    → headed_table around p.rest.left ≡ Some alignments → offset p + line_len (drop (offset p) text) < length text
unfolding headed_table
headed_has_line text around p alignments place h =
    let at = (some_if (has around.options tables && not (ends_in_backslash p.rest.left)) (table_at around.path p.rest.left) alignments h).1 in
    let more = table_has_line around.path p.rest.left alignments at in
    let line = ap (λ (bs : List ℕ). line_len bs) place.left in
    let size = ap (λ (bs : List ℕ). length bs) place.left in
    omega (arith, length-drop (offset p) text)
