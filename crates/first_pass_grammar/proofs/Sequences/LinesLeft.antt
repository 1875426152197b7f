-- The lines of a text are places of it, and so are the lines that paragraphs, runs of definitions, tables and other
-- blocks leave.
use Rattle.std.proofs.Common.{◌≡◌, inl, inr, ℕ, ◌+◌, nat_lt, Bool, List, ◌∷◌, drop, drop-drop, Option, Some, None, MatchOption, refl, sym, ap, ◌∙◌, subst}
use Rattle.std.proofs.Common.{arith, []}
use Rattle.first_pass_grammar.proofs.Common.{cond_both, Item, Alignment, Place, line_place, lines_at, offset, Context, at_rest, front, unindented, Document}
use Rattle.first_pass_grammar.proofs.Common.{around, add_break, TextLines, AreTextLines, Spot, spot, add_tokens, LinkEntry, lines_beyond, Beyond, Ended}
use Rattle.first_pass_grammar.proofs.Common.{FlowsOn, IsRun, headed_table, Taken, TableSoFar, IsTable, lines_from, IsPlainText, IsText, IsUnderlined}
use Rattle.first_pass_grammar.proofs.Common.{plain_text, HeadingLevel, past_head}
use Rattle.first_pass_lines.specs.Places.{lines_after}
use Rattle.first_pass_grammar.specs.declared.kind.Container.{Container}
use Rattle.first_pass_grammar.proofs.Count.RowsWithRoom.{with_row, RowsWithRoom, counted}
use Rattle.first_pass_grammar.proofs.Sequences.PlacesKept.{IsAt, AreAt, IsKeptLater, at_front, IsKeptBelow}

-- the lines of a text from an offset on
place_is_at : (text : List ℕ) (start : ℕ) (bs : List ℕ) → drop start text ≡ bs → IsAt text (line_place start bs)
place_is_at text start bs h = (let same : start ≡ start + 0 = omega arith in sym h ∙ ap (λ (k : ℕ). drop k text) same)

past_at : (text : List ℕ) (b start : ℕ) (bs : List ℕ) → drop start text ≡ bs → AreAt text (lines_after b start bs)
unfolding lines_after
past_at text b start [] h = tt
past_at text b start (c ∷ cs) h =
    let next : drop (start + 1) text ≡ cs = sym (drop-drop 1 start text) ∙ ap (drop 1) h in
    grind (arith, cond_both, place_is_at, past_at text c (start + 1) cs next)

lines_by : (text : List ℕ) (start : ℕ) (bs : List ℕ) → drop start text ≡ bs → AreAt text (lines_at start bs)
unfolding lines_at
lines_by text start [] h = tt
lines_by text start (b ∷ bs) h =
    let next : drop (start + 1) text ≡ bs = sym (drop-drop 1 start text) ∙ ap (drop 1) h in
    (place_is_at text start (b ∷ bs) h, past_at text b (start + 1) bs next)

pub lines_from_at : (text : List ℕ) (start : ℕ) → AreAt text (lines_from text start)
lines_from_at text start = lines_by text start (drop start text) refl

pub lines_are_at : (text : List ℕ) → AreAt text (lines_at 0 text)
lines_are_at text = lines_from_at text 0

-- the lines after an offset keep a property
pub beyond_left : (L : List Place → Type 0) → IsKeptBelow L → (e : ℕ) (lines : List Place) → L lines → L (lines_beyond e lines)
unfolding lines_beyond
beyond_left L further e [] h = h
beyond_left L further e (line ∷ lines) h = cond_both (nat_lt line.line e) _ _ L (λ b. beyond_left L further e lines (further line lines h)) (λ b. h)

module _ (At : Place → Type 0) (kept : IsKeptLater At) (L : List Place → Type 0) (first : (line : Place) (lines : List Place) → L (line ∷ lines) → At line)
    (further : IsKeptBelow L) where
  -- where blocks continue after the head of a footnote definition
  abbrev IsThere : Place × List Place → Type 0
  IsThere there = At there.0 × L there.1

  pub head_left : (gfm : Bool) (q : Place) (lines : List Place) → At q → L lines → IsThere (past_head gfm q lines)
  head_left gfm q lines i h = grind (arith, cond_both)

  -- what follows a run of definitions
  abbrev pub IsBeyond : Beyond → Type 0
  IsBeyond (Ended p left) = L left
  IsBeyond (FlowsOn p lines) = At p × L lines

  pub run_left : (around : Context) (p : Place) (lines : List Place) (xs : List LinkEntry) (b : Beyond) → At p → L lines
      → IsRun around p lines xs b → IsBeyond b
  unfolding IsRun
  run_left around p lines [] b i h (none, e) = subst IsBeyond (sym e) (i, h)
  run_left around p lines (x ∷ xs) b i h (at, inl (stops, last, e)) = subst IsBeyond (sym e) (beyond_left L further x.«end» lines h)
  run_left around p lines (x ∷ xs) b i h (at, inr (line, left, is, on, more)) =
      let following : L (line ∷ left) = subst L is (beyond_left L further x.«end» lines h) in
      run_left around (unindented (at_rest line (front around.path line.rest))) left xs b (at_front At kept around.path line (first line left following))
      (further line left following) more

module _ (L : List Place → Type 0) (further : IsKeptBelow L) where
  -- the lines after the lines of a text
  lines_left : (d : Document) (path : List Container) (p : Spot) (chain : List Item) (lines : List Place) (t : TextLines)
      → L lines → AreTextLines d path p chain lines t → L t.left
  unfolding AreTextLines
  lines_left d path p chain [] t h (k, a, after, i, e) = subst (λ (z : TextLines). L z.left) (sym e) h
  lines_left d path p chain (line ∷ lines) t h (k, a, after, i, inl (ends, e)) = subst (λ (z : TextLines). L z.left) (sym e) h
  lines_left d path p chain (line ∷ lines) t h (k, a, after, i, inr (goes, more)) =
      lines_left d path (spot (offset (unindented (at_rest line (front path line.rest)))) after) (add_break a.1 (add_tokens chain k)) lines t
      (further line lines h) more

  -- the lines after rows
  abbrev LeavesHeld : Taken → Type 0
  LeavesHeld t = L t.left

  rows_left : (d : Document) (path : List Container) (table : TableSoFar) (lines : List Place) (t : Taken) → L lines
      → RowsWithRoom d path table lines t → LeavesHeld t
  unfolding RowsWithRoom
  rows_left d path table [] t h e = subst LeavesHeld (sym e) h
  rows_left d path table (line ∷ lines) t h (inl (none, e)) = subst LeavesHeld (sym e) h
  rows_left d path table (line ∷ lines) t h (inr (row, has, inl (stops, e))) = subst LeavesHeld (sym e) h
  rows_left d path table (line ∷ lines) t h (inr (row, has, inr (is, more, rest, e))) =
      subst LeavesHeld (sym e) (rows_left d path (with_row table row) lines more (further line lines h) rest)

  first_left : (lines : List Place) → L lines → L (drop 1 lines)
  first_left lines h = grind arith

  -- the lines after a paragraph, a setext heading or a table
  ended_left : (d : Document) (path : List Container) (start : ℕ) (marker : Option Item) (l : TextLines) (t : Taken) (o : Option (ℕ × HeadingLevel))
      → L l.left → MatchOption o (t ≡ plain_text d start marker l) (λ underline. IsUnderlined d start marker l underline.1 t) → LeavesHeld t
  ended_left d path start marker l t o h e = grind (arith, first_left)

  text_left_by : (d : Document) (path : List Container) (p : Place) (marker : Option Item) (lines : List Place) (t : Taken) (o : Option (List Alignment))
      → L lines → MatchOption o (IsPlainText d path (offset p) marker lines t) (λ alignments. IsTable d path p alignments lines t) → LeavesHeld t
  text_left_by d path p marker lines t None h (l, are, is) = grind (arith, ended_left, lines_left)
  text_left_by d path p marker lines t (Some alignments) h table =
      rows_left d path _ (drop 1 lines) _ (first_left lines h) (counted _ _ _ _ _ table.are_rows)

  pub text_left : (d : Document) (path : List Container) (p : Place) (marker : Option Item) (lines : List Place) (t : Taken) → L lines
      → IsText d path p marker lines t → LeavesHeld t
  unfolding IsText
  text_left d path p marker lines t h is = text_left_by d path p marker lines t (headed_table (around d path) p.rest.left) h is
