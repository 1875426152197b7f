-- A header row has at least as many cells as its table has columns: each pipe without a backslash directly before it
-- ends a cell, except a pipe at the start of the line.
use Rattle.std.proofs.Common.{◌≡◌, inl, inr, ℕ, zero, suc, ◌+◌, ◌-◌, ◌<◌, ◌≤◌, ◌==◌, ◌&&◌, not, Bool, true, false, List, ◌∷◌, length, take, drop, slice_index}
use Rattle.std.proofs.Common.{Option, Some, None, is_some, refl, sym, ap, subst, ◌∙◌, arith, add-one, drop-drop, if◌then◌else◌, option_map, take_while}
use Rattle.std.proofs.Common.{true≢false, []}
use Rattle.first_pass_grammar.proofs.Common.{option_map_or, prefix_len, cases_lt, nat_tests, at_drop_all, at_drop_more, get_or_past, none-some, same_Some}
use Rattle.first_pass_grammar.proofs.Common.{line_feed, carriage_return, backslash, pipe, has, tables, Item, is_content, is_white, begins, eol_len}
use Rattle.first_pass_grammar.proofs.Common.{is_blank_line, head_columns, MathBraces, Spot, spot, IsCell, Document, cell_content, cell_start, cell_text}
use Rattle.first_pass_grammar.proofs.Common.{AreCells}
use Rattle.std.proofs.lemmas.List.Sums.{take_while-cons}
use Rattle.first_pass_grammar.proofs.Order.RowEnds.{pipe_inside}
use Rattle.first_pass_scan.specs.TableHead.{is_pipe, pipes_after, header_columns, last_pipe_after}
use Rattle.first_pass_tokens.specs.MarkupBytes.{PipesAreEscaped}
use Rattle.first_pass_tokens.proofs.CellPipes.{cell_pipes}
use Rattle.first_pass_tokens.proofs.LineLemmas.{pieces_reach}

-- one more element
take_next : (n c : ℕ) (cs : List ℕ) → take (n + 1) (c ∷ cs) ≡ c ∷ take n cs
take_next n c cs = rw add-one

drop_next : (n c : ℕ) (cs : List ℕ) → drop (n + 1) (c ∷ cs) ≡ drop n cs
drop_next n c cs = rw add-one

-- the least number of cells that a line's content has from its next byte on: one for each pipe, and one for anything
-- else after the last pipe
abbrev step : Bool → Bool → Bool → ℕ → ℕ
step content ends white more = if content then (if ends then suc more else (if white then more else suc (more - 1))) else 0

unfoldable cells_of : ℕ → List ℕ → ℕ
cells_of b [] = 0
cells_of b (c ∷ cs) = step (is_content c) (is_pipe c && not (b == backslash)) (is_white c) (cells_of c cs)

step_most : (t u w : Bool) (m : ℕ) → step t u w m ≤ suc m
step_most t u w m = grind arith

step_least : (u w : Bool) (m : ℕ) → m ≤ step true u w m
step_least u w m = grind arith

step_other : (t w : Bool) (m n : ℕ) → m ≤ suc n → step t false w m ≤ suc n
step_other t w m n h = grind arith

-- no fewer if no backslash comes before
cells_unescaped : (b : ℕ) (bs : List ℕ) → cells_of b bs ≤ cells_of 0 bs
unfolding cells_of
cells_unescaped b [] = omega arith
cells_unescaped b (c ∷ cs) = grind arith

-- white space at the front adds none
white_other : (c : ℕ) → is_white c ≡ true → is_pipe c ≡ false
white_other c w = grind (arith, nat_tests, w)

cells_white_by : (t : Bool) (b c : ℕ) (cs : List ℕ) → is_white c ≡ t → cells_of c cs ≤ cells_of 0 (drop (prefix_len is_white cs) cs)
    → cells_of b (c ∷ cs) ≤ cells_of 0 (drop (prefix_len is_white (c ∷ cs)) (c ∷ cs))
unfolding cells_of
cells_white_by t b c cs h more = grind (arith, white_other)

cells_white : (b : ℕ) (bs : List ℕ) → cells_of b bs ≤ cells_of 0 (drop (prefix_len is_white bs) bs)
unfolding cells_of
cells_white b [] = omega arith
cells_white b (c ∷ cs) = cells_white_by (is_white c) b c cs refl (cells_white c cs)

-- a byte that begins a line ending is no content
no_content : (c : ℕ) (cs : List ℕ) (n : ℕ) → eol_len (c ∷ cs) ≡ Some n → is_content c ≡ false
no_content c cs n e = grind (arith, nat_tests, e)

-- there are no cells if the line ends
cells_end : (b : ℕ) (bs : List ℕ) (n : ℕ) → eol_len bs ≡ Some n → cells_of b bs ≡ 0
unfolding cells_of
cells_end b bs n e = grind (arith, no_content)

-- after a pipe, or where there is none
first_by : (text : List ℕ) (at : ℕ) (t : Bool) → (slice_index text at == pipe) ≡ t
    → cells_of 0 (drop at text) ≤ (if t then 1 else 0) + cells_of 0 (drop (cell_start text at) text)
unfolding cells_of
first_by text at true here =
    let c = slice_index text at in
    let cs = drop (at + 1) text in
    let read = at_drop_more (cells_of 0) text at 0 (pipe_inside text at here) in grind (arith, step_most, cells_unescaped)
first_by text at false here = rw here (omega arith)

-- up to the content of the cell there
to_text : (text : List ℕ) (at : ℕ) → cells_of 0 (drop at text) ≤ (if slice_index text at == pipe then 1 else 0) + cells_of 0 (drop (cell_text text at) text)
to_text text at = grind (arith, first_by, cells_white, drop-drop)

-- the content of a cell adds one
escaped_pipe : (b c : ℕ) → (c ≡ pipe → b ≡ backslash) → (is_pipe c && not (b == backslash)) ≡ false
escaped_pipe b c h = grind (arith, nat_tests)

through : (text : List ℕ) (n at b stop : ℕ) → at + n ≡ stop → (at < stop → slice_index text at ≡ pipe → b ≡ backslash)
    → ((k : ℕ) → at < k → k < stop → slice_index text k ≡ pipe → slice_index text (k - 1) ≡ backslash)
    → cells_of b (drop at text) ≤ suc (cells_of 0 (drop stop text) - 1)
unfolding cells_of
through text zero at b stop same here escaped = grind (arith, cells_unescaped)
through text (suc n) at b stop same here escaped =
    elim (cases_lt at (length text)) [
      | inl inside ↦
          let c = slice_index text at in
          let cs = drop (at + 1) text in
          let read = at_drop_more (cells_of b) text at 0 inside in
          let none = escaped_pipe b c (here (omega arith)) in
          let step_is = ap (λ (u : Bool). step (is_content c) u (is_white c) (cells_of c cs)) none in
          let back : at + 1 - 1 ≡ at = omega arith in
          let rest = through text n (at + 1) c stop (omega arith)
          (λ low stands. sym (ap (slice_index text) back) ∙ escaped (at + 1) (omega arith) low stands)
          (λ k low high stands. escaped k (omega arith) high stands) in grind (arith, step_other)
      | inr past ↦ let none = at_drop_all (cells_of b) text at past in omega arith
    ]

one_cell : {after : MathBraces} (d : Document) (at : ℕ) (before : MathBraces) (tokens : List Item) (stop : ℕ) → has d.options tables ≡ true
    → IsCell d.names.texts (cell_content d (spot at before)) tokens stop after → cells_of 0 (drop at d.text) ≤ suc (cells_of 0 (drop stop d.text) - 1)
one_cell {after} d at before tokens stop on is =
    let escaped : PipesAreEscaped d.text at stop = cell_pipes (cell_content d (spot at before)) refl on is in
    let reach = pieces_reach d.names.texts (cell_content d (spot at before)) at before is.pieces (spot stop after) is.division.divided in
    through d.text (stop - at) at 0 stop (omega arith) (λ low stands. absurd (let first = (escaped at (omega arith) low stands).0 in omega arith))
    (λ k low high stands. (escaped k (omega arith) high stands).1)

-- a row has this many cells, apart from the pipe at its start
at_most_one : (t : Bool) → (if t then 1 else 0) ≤ 1
at_most_one t = grind arith

cells_least : (d : Document) (p : Spot) (cells : List (List (ℕ × Item))) (to : Spot) → has d.options tables ≡ true → AreCells d p cells to
    → cells_of 0 (drop p.at d.text) ≤ (if slice_index d.text p.at == pipe then 1 else 0) + length cells
unfolding AreCells
cells_least d p [] to on (n, e, is) = grind (arith, to_text, cells_end)
cells_least d p (cell ∷ cells) to on (line, tokens, stop, is, same, more) =
    let first = to_text d.text p.at in
    let here = one_cell d (cell_text d.text p.at) p.braces tokens stop.at on is in
    let rest = cells_least d stop cells to on more in
    let one = at_most_one (slice_index d.text stop.at == pipe) in
    omega arith

-- there is one cell if anything precedes the line ending
end_blank : (b : ℕ) (bs : List ℕ) (t u : Bool) → (b == line_feed) ≡ t → (b == carriage_return) ≡ u → is_content b ≡ false → is_blank_line (b ∷ bs) ≡ true
end_blank b bs t u h k is = grind (arith, true≢false)

some_mapped : {A B : Type 0} (f : A → B) (o : Option A) → is_some (option_map f o) ≡ is_some o
some_mapped f o = grind arith

white_blank : (b : ℕ) (bs : List ℕ) → is_white b ≡ true → is_blank_line (b ∷ bs) ≡ is_blank_line bs
white_blank b bs h = grind (arith, drop_next, some_mapped)

step_some : (u : Bool) (m : ℕ) → 1 ≤ step true u false m
step_some u m = grind arith

some_by : (t w : Bool) (b c : ℕ) (cs : List ℕ) → is_content c ≡ t → is_white c ≡ w → is_blank_line (c ∷ cs) ≡ false
    → (is_blank_line cs ≡ false → 1 ≤ cells_of c cs) → 1 ≤ cells_of b (c ∷ cs)
unfolding cells_of
some_by t w b c cs h k blank more = grind (arith, true≢false, end_blank, white_blank, step_least, step_some)

some_left : (b : ℕ) (bs : List ℕ) → is_blank_line bs ≡ false → 1 ≤ cells_of b bs
some_left b [] blank = absurd (true≢false blank)
some_left b (c ∷ cs) blank = some_by (is_content c) (is_white c) b c cs refl refl blank (some_left c cs)

tail_by : (t : Bool) (bs : List ℕ) (b : ℕ) → is_blank_line bs ≡ t → (if is_blank_line bs then 0 else 1) ≤ cells_of b bs
tail_by t bs b h = grind (arith, some_left)

-- up to the last pipe there is one cell for each pipe, and one more if anything follows the last pipe
abbrev UpTo : ℕ → List ℕ → ℕ → Type 0
UpTo b bs last = pipes_after b (take (last + 1) bs) + (if is_blank_line (drop (last + 1) bs) then 0 else 1) ≤ cells_of b bs

step_counted : (u w : Bool) (m : ℕ) → (if u then 1 else 0) + m ≤ step true u w m
step_counted u w m = grind arith

further_up : (b c : ℕ) (cs : List ℕ) (k : ℕ) → is_content c ≡ true → UpTo c cs k → UpTo b (c ∷ cs) (k + 1)
unfolding cells_of
further_up b c cs k h more = rw (take_next (k + 1) c cs, drop_next (k + 1) c cs, h) (grind arith)

last_up : (b c : ℕ) (cs : List ℕ) → is_content c ≡ true → (is_pipe c && not (b == backslash)) ≡ true → UpTo b (c ∷ cs) 0
unfolding cells_of
last_up b c cs h p = grind (arith, tail_by, step_counted)

up_by : (u : Bool) (o : Option ℕ) (b c : ℕ) (cs : List ℕ) (last : ℕ) → is_content c ≡ true → (is_pipe c && not (b == backslash)) ≡ u
    → ((k : ℕ) → o ≡ Some k → UpTo c cs k) → option_map_or (λ k. Some (k + 1)) o (if u then Some 0 else None) ≡ Some last → UpTo b (c ∷ cs) last
up_by u (Some k) b c cs last h p more e = subst (UpTo b (c ∷ cs)) (same_Some (k + 1) last e) (further_up b c cs k h (more k refl))
up_by true None b c cs last h p more e = subst (UpTo b (c ∷ cs)) (same_Some 0 last e) (last_up b c cs h p)
up_by false None b c cs last h p more e = absurd (none-some last e)

up_if : (t : Bool) (b c : ℕ) (cs : List ℕ) (last : ℕ) → is_content c ≡ t → ((k : ℕ) → last_pipe_after c (take_while is_content cs) ≡ Some k → UpTo c cs k)
    → last_pipe_after b (if t then c ∷ take_while is_content cs else []) ≡ Some last → UpTo b (c ∷ cs) last
up_if true b c cs last h more e = up_by (is_pipe c && not (b == backslash)) (last_pipe_after c (take_while is_content cs)) b c cs last h refl more e
up_if false b c cs last h more e = absurd (none-some last e)

up_to_last : (b : ℕ) (bs : List ℕ) (last : ℕ) → last_pipe_after b (take_while is_content bs) ≡ Some last → UpTo b bs last
up_to_last b [] last e = absurd (none-some last e)
up_to_last b (c ∷ cs) last e = up_if (is_content c) b c cs last refl (up_to_last c cs) (ap (last_pipe_after b) (sym (take_while-cons is_content c cs)) ∙ e)

-- so a header row has no more columns than that, without the pipe at its start
less_first : (pipes tail most : ℕ) (t : Bool) → pipes + tail ≤ most → pipes - (if t then 1 else 0) + tail ≤ most
less_first pipes tail most t h = grind arith

leads_by : (t : Bool) (c : ℕ) (cs : List ℕ) (last n : ℕ) → is_pipe c ≡ t → UpTo 0 (c ∷ cs) last → cells_of 0 (c ∷ cs) ≤ (if t then 1 else 0) + n
    → header_columns (c ∷ cs) last ≤ n
leads_by t c cs last n p up most = grind (arith, take_next, less_first)

columns_by : (bs : List ℕ) (o : Option ℕ) (n : ℕ) → last_pipe_after 0 (take_while is_content bs) ≡ o → cells_of 0 bs ≤ (if begins pipe bs then 1 else 0) + n
    → option_map_or (header_columns bs) o 0 ≤ n
columns_by bs o n e most = grind (arith, none-some, leads_by, up_to_last)

columns_most : (bs : List ℕ) (n : ℕ) → cells_of 0 bs ≤ (if begins pipe bs then 1 else 0) + n → head_columns bs ≤ n
unfolding head_columns
columns_most bs n most = columns_by bs (last_pipe_after 0 (take_while is_content bs)) n refl most

begins_there : (text : List ℕ) (at : ℕ) → begins pipe (drop at text) ≡ (slice_index text at == pipe)
begins_there text at =
    elim (cases_lt at (length text)) [
      | inl inside ↦ at_drop_more (begins pipe) text at 0 inside
      | inr past ↦ at_drop_all (begins pipe) text at past ∙ sym (ap (λ (b : ℕ). b == pipe) (get_or_past text at 0 past))
    ]

-- The row that begins at a place has at least as many cells as its line has columns when read as a header row.
pub head_has_cells : (d : Document) (p : Spot) (cells : List (List (ℕ × Item))) (to : Spot) → has d.options tables ≡ true → AreCells d p cells to
    → head_columns (drop p.at d.text) ≤ length cells
head_has_cells d p cells to on are = grind (arith, cells_least, begins_there, columns_most)
