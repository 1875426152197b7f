-- A row ends where its line does, and each of its cells takes at least one byte.
use Rattle.std.proofs.Common.{◌≡◌, inl, inr, ℕ, ◌+◌, ◌-◌, ◌<◌, ◌≤◌, ◌==◌, Bool, true, false, true≢false, List, ◌∷◌, length, drop, slice_index, sym, ap, subst}
use Rattle.std.proofs.Common.{◌∙◌, arith, length-drop, drop-drop, []}
use Rattle.first_pass_grammar.proofs.Common.{prefix_len, cases_lt, and_parts, nat_tests, get_or_past, at_drop_all, at_drop_more, pipe, has, tables, Item}
use Rattle.first_pass_grammar.proofs.Common.{is_line_end, is_content, is_white, at_line_end, line_len, Place, line_place, offset, line_end, IsPlaceOf}
use Rattle.first_pass_grammar.proofs.Common.{line_len-eol, line_len-fits, bytes_line_end, MathBraces, Inline, Spot, spot, IsCell, cell_ends, Document}
use Rattle.first_pass_grammar.proofs.Common.{cell_content, cell_start, cell_text, AreCells}
use Rattle.first_pass_tokens.proofs.LineLemmas.{ended_by}

-- after content of a line, the end of the line is the same
along : (text : List ℕ) (at n : ℕ) → n ≤ prefix_len is_content (drop at text) → at + n + line_len (drop (at + n) text) ≡ at + line_len (drop at text)
along text at n within = grind (arith, bytes_line_end n (line_place at (drop at text)) within, drop-drop)

-- white space is content
white_step : (b : ℕ) (bs : List ℕ) → prefix_len is_white bs ≤ prefix_len is_content bs → prefix_len is_white (b ∷ bs) ≤ prefix_len is_content (b ∷ bs)
white_step b bs less = grind (arith, nat_tests)

pub white_content : (bs : List ℕ) → prefix_len is_white bs ≤ prefix_len is_content bs
white_content [] = omega arith
white_content (b ∷ bs) = white_step b bs (white_content bs)

-- a pipe is inside the text, and is content
pub pipe_inside : (text : List ℕ) (at : ℕ) → (slice_index text at == pipe) ≡ true → at < length text
pipe_inside text at here = grind (arith, cases_lt, get_or_past)

pipe_content : (b : ℕ) (bs : List ℕ) → b ≡ pipe → 1 ≤ prefix_len is_content (b ∷ bs)
pipe_content b bs h = grind (arith, nat_tests)

start_along : (text : List ℕ) (at : ℕ) (t : Bool) → (slice_index text at == pipe) ≡ t
    → cell_start text at + line_len (drop (cell_start text at) text) ≡ at + line_len (drop at text)
start_along text at true here =
    let read = at_drop_more (prefix_len is_content) text at 0 (pipe_inside text at here) in grind (arith, pipe_content, along)
start_along text at false here = rw here

-- the content of a cell begins in the line in which it is looked for
text_along : (text : List ℕ) (at : ℕ) → cell_text text at + line_len (drop (cell_text text at) text) ≡ at + line_len (drop at text)
text_along text at = grind (arith, along, white_content, start_along)

-- It begins in the text, and not before that place.
pub text_after : (text : List ℕ) (at : ℕ) (t : Bool) → (slice_index text at == pipe) ≡ t → at ≤ cell_text text at
text_after text at t here = grind arith

pub text_within : (text : List ℕ) (at : ℕ) → at ≤ length text → (at ≤ cell_text text at) × (cell_text text at ≤ length text)
text_within text at within = grind (arith, text_along, line_len-fits, length-drop, text_after)

-- The row whose cells begin at a place ends after the line ending there: its line has the same end.
pub row_ends_its_line : (d : Document) (p : Spot) (cells : List (List (ℕ × Item))) (to : Spot) → p.at ≤ length d.text → AreCells d p cells to
    → to.at ≡ p.at + line_len (drop p.at d.text)
unfolding AreCells
row_ends_its_line d p [] to within (n, h, is) = grind (arith, text_along, line_len-eol)
row_ends_its_line d p (cell ∷ cells) to within (on, tokens, next, is, same, more) =
    let start = text_within d.text p.at within in
    let ends = cell_ends start.1 is in
    grind (
      arith,
      text_along d.text p.at,
      along d.text (cell_text d.text p.at) (next.at - cell_text d.text p.at) (omega arith),
      row_ends_its_line d next cells to ends.within more,
    )

-- the same of a row that begins at a place of the text
pub row_ends_at_place : (d : Document) (p : Place) (before : MathBraces) (cells : List (List (ℕ × Item))) (to : Spot) → IsPlaceOf d.text p
    → AreCells d (spot (offset p) before) cells to → to.at ≡ line_end p
row_ends_at_place d p before cells to place are = grind (arith, row_ends_its_line)

-- a line ends at a line ending
end_byte : (b : ℕ) (bs : List ℕ) → is_line_end b ≡ true → at_line_end (b ∷ bs) ≡ true
end_byte b bs is = grind (arith, nat_tests, is)

-- the content of a cell ends only at the end of a line or at a pipe
goes_further : {after : MathBraces} (d : Document) (at : ℕ) (before : MathBraces) (tokens : List Item) → at_line_end (drop at d.text) ≡ false
    → (slice_index d.text at == pipe) ≡ false → IsCell d.names.texts (cell_content d (spot at before)) tokens at after → ⊥
goes_further d at before tokens on other cell =
    elim (cases_lt at (length d.text)) [
      | inl inside ↦ elim (ended_by (cell_content d (spot at before)) at cell.division.ended) [
        | inl past ↦ absurd (omega arith)
        | inr byte ↦ elim byte [
          | inl line ↦
              let b = slice_index d.text at in
              true≢false (sym (end_byte b (drop (at + 1) d.text) line)
              ∙ sym (at_drop_more (λ (bs : List ℕ). at_line_end bs) d.text at 0 inside) ∙ on)
          | inr stands ↦ true≢false (sym (and_parts (has d.options tables) (slice_index d.text at == pipe) (and_parts true _ stands).1).1 ∙ other)
        ]
      ]
      | inr past ↦ true≢false (sym (at_drop_all (λ (bs : List ℕ). at_line_end bs) d.text at past) ∙ on)
    ]

-- the content of the cell that begins at a place
abbrev pub begun_there : Document → Spot → Inline
begun_there d p = cell_content d (spot (cell_text d.text p.at) p.braces)

-- The cell after a cell of a row starts later than that one.
same_start : (text : List ℕ) (at stop : ℕ) → cell_text text at ≤ stop → cell_start text stop ≤ cell_start text at
    → (cell_text text at ≡ stop) × ((slice_index text stop == pipe) ≡ false)
same_start text at stop from least = grind arith

pub next_starts_later : {after : MathBraces} (d : Document) (p : Spot) (tokens : List Item) (stop : ℕ)
    → at_line_end (drop (cell_text d.text p.at) d.text) ≡ false → cell_text d.text p.at ≤ stop → IsCell d.names.texts (begun_there d p) tokens stop after
    → cell_start d.text p.at < cell_start d.text stop
next_starts_later {after} d p tokens stop on from cell =
    elim (cases_lt (cell_start d.text p.at) (cell_start d.text stop)) [
      | inl more ↦ more
      | inr least ↦
          let (same, other) = same_start d.text p.at stop from least in
          absurd (goes_further d stop p.braces tokens (ap (λ (k : ℕ). at_line_end (drop k d.text)) (sym same) ∙ on) other
          (subst (λ (k : ℕ). IsCell d.names.texts (cell_content d (spot k p.braces)) tokens stop after) same cell))
    ]

-- A cell of a row ends after the place where it is looked for.
later_start : (text : List ℕ) (at stop : ℕ) → cell_start text at < cell_start text stop → at < stop
later_start text at stop less = grind arith

pub cell_takes_a_byte : {after : MathBraces} (d : Document) (p : Spot) (tokens : List Item) (stop : ℕ) → p.at ≤ length d.text
    → at_line_end (drop (cell_text d.text p.at) d.text) ≡ false → IsCell d.names.texts (begun_there d p) tokens stop after → p.at < stop
cell_takes_a_byte d p tokens stop within on cell =
    let ends = cell_ends (text_within d.text p.at within).1 cell in
    later_start d.text p.at stop (next_starts_later d p tokens stop on ends.from cell)
