-- Each pipe in the content of a cell is directly after a backslash.
use Rattle.std.proofs.Common.{◌≡◌, ℕ, ◌+◌, ◌-◌, ◌≤◌, ◌<◌, true, false, List, ◌∷◌, slice_index, ap, inl, inr, arith, ◌==◌, []}
use Rattle.first_pass_tokens.proofs.Common.{CowStr, Item, cases_lt, false≢true, backslash, pipe, Piece, MathBraces, braces_after, Inline, found_at, size}
use Rattle.first_pass_tokens.proofs.Common.{MakesPiece, Spot, spot, content_ends_at, ArePieces, IsCell, PipesAreEscaped, has, tables}
use Rattle.first_pass_tokens.proofs.PieceFacts.{IsPieceAt, mark_facts}
use Rattle.first_pass_tokens.proofs.LineLemmas.{piece_of, not_ended_pipe}

-- a pipe in a piece, after the first byte of the piece
pipe_inside : (text : List ℕ) (at : ℕ) (p : Piece) (k : ℕ) → IsPieceAt text at p → (slice_index text at == pipe) ≡ false → at < k → k < at + size p
    → slice_index text k ≡ pipe → slice_index text (k - 1) ≡ backslash
pipe_inside text at p k facts other low high is_pipe = grind (arith, false≢true, mark_facts, cases_lt)

module _ (s : Inline) (row : s.row ≡ true) (on : has s.options tables ≡ true) where
  pipe_in : (texts : List CowStr) (b : MathBraces) (at : ℕ) (p : Piece)
      → content_ends_at s at ≡ false → MakesPiece texts b (found_at s at) p → (k : ℕ) → at ≤ k → k < at + size p → slice_index s.text k ≡ pipe
      → (at < k) × (slice_index s.text (k - 1) ≡ backslash)
  pipe_in texts b at p runs is k low high is_pipe = grind (arith, cases_lt, pipe_inside, piece_of, not_ended_pipe, false≢true)

  pipes_from : (texts : List CowStr) (at : ℕ) (b : MathBraces) (ps : List Piece) (to : Spot) → ArePieces texts s at b ps to → PipesAreEscaped s.text at to.at
  pipes_from texts at b [] to is k low high is_pipe = (let same : at ≡ to.at = ap (λ (t : Spot). t.at) is in absurd (omega arith))
  pipes_from texts at b (p ∷ ps) to are k low high is_pipe =
      elim (cases_lt k (at + size p)) [
        | inl inside ↦ pipe_in texts b at p are.0 are.1 k low inside is_pipe
        | inr following ↦
            let rest = pipes_from texts (at + size p) (braces_after (found_at s at) b) ps to are.2 k following high is_pipe in (omega (arith, rest.0), rest.1)
      ]

  -- the pipes of a cell
  pub cell_pipes : {texts : List CowStr} {tokens : List Item} {end : ℕ} {after : MathBraces}
      → IsCell texts s tokens end after → PipesAreEscaped s.text s.start end
  cell_pipes {texts} {tokens} {end} {after} cell = pipes_from texts s.start s.braces cell.pieces (spot end after) cell.division.divided
