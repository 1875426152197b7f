-- Facts on the part of a line that a marker takes: bytes of its content, the last of them ASCII, and columns.
use Rattle.std.proofs.Common.{◌≡◌, inl, inr, ℕ, zero, suc, ◌+◌, ◌-◌, ◌<◌, ◌≤◌, nat_le, Bool, true, false, ◌==◌, ◌&&◌, ◌||◌, List, ◌∷◌, length, []}
use Rattle.std.proofs.Common.{take, drop, get_or, slice_index, Option, Some, None, is_some, IsUtf8, refl, sym, ap, subst, ◌∙◌, arith, length-drop}
use Rattle.std.proofs.Common.{get_or-drop, if◌then◌else◌, option_map, eqb-true}
use Rattle.std.specs.List.{prefix_len}
use Rattle.std.specs.Char.{is_ascii_digit}
use Rattle.std.proofs.lemmas.List.{get_or_past}
use Rattle.std.proofs.lemmas.List.Sums.{prefix_len_passes, prefix_len_stops, prefix_len-le-length}
use Rattle.std.proofs.lemmas.Bool.{cases_lt, cond_both, and_parts, both_ways, false≢true}
use Rattle.std.proofs.lemmas.Bool.Decides.{nat_tests}
use Rattle.std.proofs.lemmas.Option.{cond_some, none-some}
use Rattle.first_pass_items.specs.Bytes.{right_parenthesis, full_stop, colon, left_bracket, right_bracket, ascii_end}
use Rattle.first_pass_lines.proofs.OptionFacts.{some_if, some_mapped}
use Rattle.first_pass_lines.specs.Lines.{is_content, is_white, is_white_or_line_end, begins, blank_len, at_line_end}
use Rattle.first_pass_lines.specs.Rest.{Rest, past_bytes, after_columns, indent}
use Rattle.first_pass_lines.specs.Places.{place_at, line_end, moved_bytes, IsPlaceOf}
use Rattle.first_pass_scan.specs.Markers.{number_from, bullet_marker, delimited, ordered_marker, list_marker, content_indent, after_marker}
use Rattle.first_pass_scan.specs.Markers.{after_colon, item_by, item_of, definition_of, is_checked, task_box, task_of}
use Rattle.first_pass_lines.proofs.PlaceFacts.{ascii_keeps, columns_keep, bytes_line_end, columns_line_end}

-- between the two rests are a marker of at least one byte and the columns after it
pub record IsMarked (r : Rest) (s : Rest) : Type 0 where
  pub width : ℕ
  pub first : ℕ
  pub further : ℕ
  pub some : 0 < width
  pub within : width ≤ prefix_len is_content r.left
  pub ascii : slice_index r.left (width - 1) < ascii_end
  pub none_owed : r.owed ≡ 0
  pub same : s ≡ after_columns further (after_columns first (past_bytes width r))

-- n bytes that are all content are part of the line's content
content_front : (bs : List ℕ) (n : ℕ) → n ≤ length bs → ((k : ℕ) → k < n → is_content (get_or bs k 0) ≡ true) → n ≤ prefix_len is_content bs
content_front bs n l f =
    elim (cases_lt (prefix_len is_content bs) n) as (λ _. n ≤ prefix_len is_content bs) [
      | inl less ↦ absurd (both_ways _ (prefix_len_stops is_content bs 0 (omega arith)) (f (prefix_len is_content bs) less))
      | inr more ↦ more
    ]

within_by : (bs : List ℕ) (k : ℕ) → 0 < get_or bs k 0 → k < length bs
within_by bs k h = elim (cases_lt k (length bs)) as (λ _. k < length bs) [ inl less ↦ less | inr past ↦ absurd (omega (arith, get_or_past bs k 0 past)) ]

pub marked-keeps : (text : List ℕ) (line : ℕ) (r s : Rest) → IsUtf8 text → IsMarked r s → IsPlaceOf text (place_at line r) → IsPlaceOf text (place_at line s)
marked-keeps text line r s u m i =
    let fits = prefix_len-le-length is_content r.left in
    let some = m.some in
    let within = m.within in
    let w : m.width - 1 + 1 ≡ m.width = omega arith in
    let a : IsPlaceOf text (moved_bytes (m.width - 1 + 1) (place_at line r)) = ascii_keeps text (place_at line r) (m.width - 1) u i (omega arith) m.ascii in
    let b : IsPlaceOf text (place_at line (past_bytes m.width r)) = subst (λ (n : ℕ). IsPlaceOf text (moved_bytes n (place_at line r))) w a in
    subst (λ (q : Rest). IsPlaceOf text (place_at line q)) (sym m.same) (columns_keep text m.further _ u (columns_keep text m.first _ u b))

pub marked-line_end : (line : ℕ) (r s : Rest) → IsMarked r s → line_end (place_at line s) ≡ line_end (place_at line r)
marked-line_end line r s m =
    ap (λ (q : Rest). line_end (place_at line q)) m.same ∙ columns_line_end m.further (place_at line (after_columns m.first (past_bytes m.width r)))
    ∙ columns_line_end m.first (place_at line (past_bytes m.width r)) ∙ bytes_line_end m.width (place_at line r) m.within

-- the first n bytes are content of the line, and the last of them is ASCII
pub record IsFrontOf (bs : List ℕ) (n : ℕ) : Type 0 where
  pub some : 0 < n
  pub within : n ≤ prefix_len is_content bs
  pub ascii : slice_index bs (n - 1) < ascii_end

marked_by : (r s : Rest) (n j k : ℕ) → IsFrontOf r.left n → r.owed ≡ 0 → s ≡ after_columns k (after_columns j (past_bytes n r)) → IsMarked r s
marked_by r s n j k f o e = record { width = n; first = j; further = k; some = f.some; within = f.within; ascii = f.ascii; none_owed = o; same = e }

-- the first byte
first_front : (c : ℕ) (bs : List ℕ) → c < ascii_end → is_content c ≡ true → begins c bs ≡ true → IsFrontOf bs 1
first_front c [] l e h = absurd (false≢true h)
first_front c (b ∷ bs) l e h = grind arith

-- list markers
bullet_front : (bs : List ℕ) (m : ℕ × ℕ × ℕ) → bullet_marker bs ≡ Some m → IsFrontOf bs m.0
bullet_front [] m h = absurd (none-some m h)
bullet_front (b ∷ bs) m h = grind (arith, cond_some, nat_tests)

digit_content : (b : ℕ) → is_ascii_digit b ≡ true → is_content b ≡ true
digit_content b h = grind (arith, nat_tests, h)

each_content : (bs : List ℕ) (n k d : ℕ)
    → n ≡ prefix_len is_ascii_digit bs → get_or bs n 0 ≡ d → is_content d ≡ true → k < n + 1 → is_content (get_or bs k 0) ≡ true
each_content bs n k d e at c h = grind (arith, cases_lt, digit_content, prefix_len_passes)

delimited_front : (bs : List ℕ) (n number : ℕ) (rest : List ℕ) (m : ℕ × ℕ × ℕ)
    → rest ≡ drop n bs → n ≡ prefix_len is_ascii_digit bs → delimited n number rest ≡ Some m → IsFrontOf bs m.0
delimited_front bs n number [] m e same h = absurd (none-some m h)
delimited_front bs n number (d ∷ ds) m e same h =
    let p = cond_some ((d == full_stop) || (d == right_parenthesis)) (n + 1, d, number) m h in
    let w : m.0 ≡ n + 1 = sym (ap (λ (x : ℕ × ℕ × ℕ). x.0) p.1) in
    let content : is_content d ≡ true = grind (arith, nat_tests, p.0) in
    let small : d < ascii_end = grind (arith, nat_tests, p.0) in
    let z : n + 0 ≡ n = omega arith in
    let at : get_or bs n 0 ≡ d = sym (ap (λ j. get_or bs j 0) z) ∙ sym (get_or-drop n bs 0 0) ∙ sym (ap (λ xs. get_or xs 0 0) e) in
    let l : suc (length ds) ≡ length bs - n = ap length e ∙ length-drop n bs in
    let last : n + 1 - 1 ≡ n = omega arith in
    rw w (record {
      some = omega arith;
      within = content_front bs (n + 1) (omega arith) (λ k g. each_content bs n k d same at content g);
      ascii = rw last (rw at small);
    })

ordered_front : (bs : List ℕ) (m : ℕ × ℕ × ℕ) → ordered_marker bs ≡ Some m → IsFrontOf bs m.0
ordered_front bs m h =
    let n : ℕ = prefix_len is_ascii_digit bs in
    let p = some_if (nat_le 1 n && nat_le n 9) (delimited n (number_from 0 (take n bs)) (drop n bs)) m h in
    delimited_front bs n (number_from 0 (take n bs)) (drop n bs) m refl refl p.1

marker_front : (bs : List ℕ) (m : ℕ × ℕ × ℕ) → list_marker bs ≡ Some m → IsFrontOf bs m.0
unfolding list_marker
marker_front bs m h =
    cond_both (is_some (bullet_marker bs)) (bullet_marker bs) (ordered_marker bs) (λ o. o ≡ Some m → IsFrontOf bs m.0)
    (λ _. bullet_front bs m) (λ _. ordered_front bs m) h

content_columns : (n : ℕ) (s : Rest) → (k : ℕ) × ((content_indent n s).1 ≡ after_columns k s)
unfolding content_indent
content_columns n s = by (is_some (blank_len s.left)) (nat_le 4 (indent s))
  where
    by : (t u : Bool)
        → let c : ℕ × Rest = if t then (n, s) else (if u then (n, s) else (n + indent s, after_columns (indent s) s)) in (k : ℕ) × (c.1 ≡ after_columns k s)
    by true u = (0, refl)
    by false true = (0, refl)
    by false false = (indent s, refl)

past_columns : (n : ℕ) (q : Rest) (content : ℕ × Rest) → after_marker n q ≡ Some content → (k : ℕ) × (content.1 ≡ after_columns k (after_columns 1 q))
unfolding after_marker
past_columns n q content h =
    let p = cond_some (nat_le 1 (indent q) || at_line_end q.left) (content_indent (n + 1) (after_columns 1 q)) content h in
    let k = content_columns (n + 1) (after_columns 1 q) in
    (k.0, sym (ap (λ (x : ℕ × Rest). x.1) p.1) ∙ k.1)

item_marked : (outer : ℕ) (r : Rest) (o : Option (ℕ × ℕ × ℕ)) (item : (ℕ × ℕ × ℕ) × Rest)
    → list_marker r.left ≡ o → r.owed ≡ 0 → item_by outer r o ≡ Some item → IsMarked r item.1
item_marked outer r None item e o h = absurd (none-some item h)
item_marked outer r (Some m) item e o h =
    let parts = some_mapped _ (after_marker (outer + m.0) (past_bytes m.0 r)) item h in
    let k = past_columns (outer + m.0) (past_bytes m.0 r) parts.0 parts.1 in
    marked_by r item.1 m.0 1 k.0 (marker_front r.left m e) o (sym (ap (λ (x : (ℕ × ℕ × ℕ) × Rest). x.1) parts.2) ∙ k.1)

pub item-marked : (outer : ℕ) (r : Rest) (item : (ℕ × ℕ × ℕ) × Rest) → item_of outer r ≡ Some item → IsMarked r item.1
unfolding item_of
item-marked outer r item h = grind (arith, some_if, item_marked, and_parts)

-- the marker of a definition
colon_by : (t : Bool) (n : ℕ) (q : Rest)
    → let c : ℕ × Rest = if t then content_indent (n + 1) (after_columns 1 q) else (n, q) in (j : ℕ) × (k : ℕ) × (c.1 ≡ after_columns k (after_columns j q))
colon_by true n q = let k = content_columns (n + 1) (after_columns 1 q) in (1, k.0, k.1)
colon_by false n q = (0, 0, refl)

pub definition-marked : (outer : ℕ) (r : Rest) (definition : ℕ × Rest) → definition_of outer r ≡ Some definition → IsMarked r definition.1
unfolding definition_of
definition-marked outer r definition h =
    let q : Rest = past_bytes 1 r in
    let p = cond_some ((r.owed == 0) && begins colon r.left) (after_colon (outer + 1) q) definition h in
    let a = and_parts (r.owed == 0) (begins colon r.left) p.0 in
    let c = colon_by (nat_le 1 (indent q)) (outer + 1) q in
    marked_by r definition.1 1 c.0 c.1 (first_front colon r.left (omega arith) refl a.1) (eqb-true r.owed 0 a.0) (sym (ap (λ (x : ℕ × Rest). x.1) p.1) ∙ c.2)

-- a task list item marker
mark_content : (b : ℕ) → (is_white b || is_checked b) ≡ true → is_content b ≡ true
mark_content b h = grind (arith, nat_tests, h)

three_content : (bs : List ℕ) → is_content (get_or bs 0 0) ≡ true → is_content (get_or bs 1 0) ≡ true → is_content (get_or bs 2 0) ≡ true → (k : ℕ) → k < 3
    → is_content (get_or bs k 0) ≡ true
three_content bs a b c zero h = a
three_content bs a b c (suc zero) h = b
three_content bs a b c (suc (suc zero)) h = c
three_content bs a b c (suc (suc (suc k))) h = absurd (omega arith)

box_front : (bs : List ℕ) (checked : Bool) → task_box bs ≡ Some checked → IsFrontOf bs 3
unfolding task_box
box_front bs checked h =
    let mark : ℕ = slice_index bs 1 in
    let p = cond_some
    ((slice_index bs 0 == left_bracket) && (is_white mark || is_checked mark) && (slice_index bs 2 == right_bracket) && is_white_or_line_end (slice_index bs 3))
    (is_checked mark) checked h in
    let three =
    and_parts ((slice_index bs 0 == left_bracket) && (is_white mark || is_checked mark) && (slice_index bs 2 == right_bracket))
    (is_white_or_line_end (slice_index bs 3)) p.0 in
    let two = and_parts ((slice_index bs 0 == left_bracket) && (is_white mark || is_checked mark)) (slice_index bs 2 == right_bracket) three.0 in
    let one = and_parts (slice_index bs 0 == left_bracket) (is_white mark || is_checked mark) two.0 in
    let front : slice_index bs 0 ≡ left_bracket = eqb-true (slice_index bs 0) left_bracket one.0 in
    let last : slice_index bs 2 ≡ right_bracket = eqb-true (slice_index bs 2) right_bracket two.1 in
    let l : 2 < length bs = within_by bs 2 (omega arith) in
    record {
      some = omega arith;
      within = content_front bs 3 (omega arith) (three_content bs (ap is_content front) (mark_content mark one.1) (ap is_content last));
      ascii = omega arith;
    }

pub task-marked : (r : Rest) (task : Bool × Rest) → task_of r ≡ Some task → IsMarked (after_columns 3 r) task.1
unfolding task_of
task-marked r task h =
    let box : Rest = after_columns 3 r in
    let p = some_if (box.owed == 0) (option_map (λ (checked : Bool). (checked, past_bytes 3 box)) (task_box box.left)) task h in
    let parts = some_mapped (λ (checked : Bool). (checked, past_bytes 3 box)) (task_box box.left) task p.1 in
    marked_by box task.1 3 0 0 (box_front box.left parts.0 parts.1) (eqb-true box.owed 0 p.0) (sym (ap (λ (x : Bool × Rest). x.1) parts.2))
