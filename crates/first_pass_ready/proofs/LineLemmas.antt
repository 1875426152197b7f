-- A line is read: containers are closed, and the line is entered.
use Rattle.std.proofs.Common.{◌≡◌, ℕ, ◌+◌, ◌<◌, ◌≤◌, true, false, List, ◌∷◌, length, drop, Some, None, is_some, IsUtf8, IsCharBoundary, ◌∙◌, arith}
use Rattle.first_pass_grammar.proofs.Common.{Item, TreeIndex, Forest, blank_len, line_len, Rest, Place, line_rest, line_place, place_at, line_end, start_of}
use Rattle.first_pass_grammar.proofs.Common.{IsPlaceOf, lines_at-line, line_is_place, after, Document, Inside, Tables, lines_from, Options}
use Rattle.first_pass_lists.specs.Closing.{empty_item_closed, blank_read, footnote_ended}
use Rattle.first_pass_lists.specs.declared.state.PassState.{PassState}
use Rattle.first_pass_open.specs.Path.{path_in, path_of, outer}
use Rattle.first_pass_ready.specs.State.{NoMore, Ready, ReadyAt}
use Rattle.first_pass_open.proofs.PlaceLemmas.{after_keeps, line_start_end}
use Rattle.first_pass_ready.proofs.EnterLemmas.{ready_blank_line, ready_line}
use Rattle.first_pass_ready.proofs.OldFootnotes.{ends_here, ended_path, ended_ready}

-- a line and those after it, after the containers that it does not continue are closed
pub record IsAtLine (d : Document) (defined : Tables) (old new : PassState) (start : ℕ) (r : Rest) : Type 0 where
  pub goes : after (path_of d.options new.tree) (line_rest (drop start d.text)) ≡ Some r
  pub ready : Ready d defined old (lines_from d.text start)
      → Ready d defined new (line_place start (drop start d.text) ∷ lines_from d.text (start + line_len (drop start d.text)))

-- The open nodes except the outermost `kept` were closed before the line at an offset.
pub record ClosesBefore (old new : PassState) (start kept : ℕ) : Type 0 where
  pub spine : new.tree.spine ≡ outer kept old.tree.spine
  pub paths : (options : Options) (s : List TreeIndex) → path_in options new.tree.nodes s ≡ path_in options old.tree.nodes s
  pub ready : (d : Document) (defined : Tables) (lines : List Place) → start_of (length d.text) lines ≡ start → NoMore d.options old.tree kept lines
      → Ready d defined old lines → Ready d defined new lines

pub at_line : (d : Document) (defined : Tables) (old new : PassState) (start kept : ℕ) (r : Rest) → start < length d.text → ClosesBefore old new start kept
    → after (path_in d.options old.tree.nodes (outer kept old.tree.spine)) (line_rest (drop start d.text)) ≡ Some r
    → ((m : ℕ) → kept < m → m ≤ length old.tree.spine
    → after (path_in d.options old.tree.nodes (outer m old.tree.spine)) (line_rest (drop start d.text)) ≡ None)
    → IsAtLine d defined old new start r
at_line d defined old new start kept r within closes taken stops = grind (arith, lines_at-line)

-- the same after a footnote definition in the old form ended there, if one does: the innermost open node then does
-- not end
pub record IsSettled (d : Document) (defined : Tables) (old new : PassState) (start : ℕ) (r : Rest) : Type 0 where
  pub goes : after (path_of d.options new.tree) (line_rest (drop start d.text)) ≡ Some r
  pub ready : Ready d defined old (lines_from d.text start)
      → Ready d defined new (line_place start (drop start d.text) ∷ lines_from d.text (start + line_len (drop start d.text)))
      × (ends_here d.options new.tree new.blank ≡ false)

pub settled : (d : Document) (defined : Tables) (old new : PassState) (start : ℕ) (r : Rest) → IsAtLine d defined old new start r
    → IsSettled d defined old (footnote_ended d.options start new) start r
settled d defined old new start r line = grind (arith, ended_path, ended_ready)

-- a blank line is read
pub blank_line_read : (d : Document) (defined : Tables) (old new : PassState) (start : ℕ) (r : Rest)
    → IsSettled d defined old new start r → is_some (blank_len r.left) ≡ true → Ready d defined old (lines_from d.text start)
    → Ready d defined (blank_read new) (lines_from d.text (start + line_len (drop start d.text)))
blank_line_read d defined old new start r line blank ready =
    let now = line.ready ready in
    ready_blank_line d defined new (line_place start (drop start d.text)) (lines_from d.text (start + line_len (drop start d.text))) r line.goes
    now.1 blank now.0

-- a line that is not blank
pub line_entered : (d : Document) (defined : Tables) (old new : PassState) (start : ℕ) (r : Rest)
    → IsSettled d defined old new start r → is_some (blank_len r.left) ≡ false → Ready d defined old (lines_from d.text start)
    → ReadyAt d defined (empty_item_closed new).tree (empty_item_closed new).blank (Inside (place_at start r))
    (lines_from d.text (start + line_len (drop start d.text)))
line_entered d defined old new start r line blank ready =
    let now = line.ready ready in
    ready_line d defined new (line_place start (drop start d.text)) (lines_from d.text (start + line_len (drop start d.text))) r line.goes
    now.1 blank now.0

-- the rest of a line, after the prefixes of the containers that it continues
pub line_kept : (options : Options) (text : List ℕ) (start kept : ℕ) (f : Forest Item) (r : Rest) → IsUtf8 text → IsCharBoundary text start
    → after (path_in options f.nodes (outer kept f.spine)) (line_rest (drop start text)) ≡ Some r
    → IsPlaceOf text (place_at start r) × (line_end (place_at start r) ≡ start + line_len (drop start text))
line_kept options text start kept f r utf8 boundary taken =
    let k =
    after_keeps text start (path_in options f.nodes (outer kept f.spine)) (line_rest (drop start text)) r utf8 taken (line_is_place text start boundary) in
    (k.0, k.1 ∙ line_start_end text start)
