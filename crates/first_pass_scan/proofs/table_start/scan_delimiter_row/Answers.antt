use Rattle.std.proofs.Common.{◌≡◌, ◌||◌, false, nat_le, sym, ap, ◌∙◌}
use Rattle.first_pass_items.specs.Bytes.{hyphen, colon, pipe}
use Rattle.first_pass_lines.specs.Lines.{begins}
use Rattle.first_pass_lines.specs.Rest.{Rest, indent, after_columns}
use Rattle.first_pass_scan.specs.TableHead.{delimiter_row}
use Rattle.first_pass_scan.proofs.DelimiterRows.{row_of-bound, row_of-refused}
use Rattle.first_pass_scan.proofs.table_start.scan_delimiter_row.Goals as goal

pub returns-then-not-can_begin_delimiters : goal.returns-then-not-can_begin_delimiters
returns-then-not-can_begin_delimiters c =
    let r : Rest = c.args.line.now in
    let s : Rest = c.scan_space.new.self in
    let here = c.copy-row.ensures in
    let bound : nat_le 4 (indent r) ≡ false = ap (λ q. nat_le 4 (indent q)) (sym here) ∙ sym c.scan_space.ensures.value ∙ c.if-scan_space.false in
    let look = ap (λ bs. begins pipe bs || begins hyphen bs || begins colon bs) (sym c.left.ensures) ∙ sym c.can_begin_delimiters.ensures
    ∙ c.if-not-can_begin_delimiters.true in
    row_of-refused r s (c.scan_space.ensures.rest ∙ ap (after_columns 4) here) bound look

pub returns : goal.returns
returns c =
    let r : Rest = c.args.line.now in
    let s : Rest = c.scan_space.new.self in
    let here = c.copy-row.ensures in
    let bound : nat_le 4 (indent r) ≡ false = ap (λ q. nat_le 4 (indent q)) (sym here) ∙ sym c.scan_space.ensures.value ∙ c.if-scan_space.false in
    let read = c.in_ok-columns.ensures ∙ ap delimiter_row c.left-2.ensures in
    read ∙ sym (row_of-bound r s (c.scan_space.ensures.rest ∙ ap (after_columns 4) here) bound)
