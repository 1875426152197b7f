-- The pending text between two pieces of a content: it began earlier, and may continue. Only contracts of private
-- functions cite this.
use Rattle.std.specs.Prelude.{◌≡◌, ℕ, ◌+◌, ◌-◌, ◌≤◌, false, List, []}
use Rattle.first_pass_items.specs.declared.cow_str.CowStr.{CowStr}
use Rattle.first_pass_items.specs.declared.item.Item.{Item}
use Rattle.first_pass_tree.specs.Forest.{Forest, appended, with_text}
use Rattle.first_pass_tokens.specs.declared.pieces.Piece.{Piece}
use Rattle.first_pass_tokens.specs.declared.pieces.Piece.TheVariants.{Left, Begins, Token, Run}
use Rattle.first_pass_tokens.specs.declared.line.HeldText.{HeldText}
use Rattle.first_pass_tokens.specs.Pieces.{Inline}
use Rattle.first_pass_tokens.specs.LineTokens.{Spot, IsInPieces, add_pieces, text_end, blanks_at_end}
use Rattle.first_pass_tokens.specs.TreeTokens.{with_tokens}
use Rattle.first_pass_tokens.specs.Chains.{token, run_tokens}

-- the pending text after a piece: plain text continues it, a piece that begins a text replaces it, and after a token
-- a new one begins (this project)
abbrev pub held_after : ℕ → Piece → HeldText → HeldText
held_after at (Left n) p = p
held_after at (Begins dropped escaped) p = record { begin = at + dropped; escaped = escaped }
held_after at (Token dropped n body) p = record { begin = at + dropped + n; escaped = false }
held_after at (Run n opens closes) p = record { begin = at + n; escaped = false }

-- the tree after a piece: a piece that begins a text ends the pending text, and so does a token (this project)
abbrev pub tree_after : ℕ → Piece → HeldText → Forest Item → Forest Item
tree_after at (Left n) p f = f
tree_after at (Begins dropped escaped) p f = with_text f p.begin at p.escaped
tree_after at (Token dropped n body) p f = appended (with_text f p.begin at p.escaped) (token (at + dropped) n body)
tree_after at (Run n opens closes) p f = with_tokens (with_text f p.begin at p.escaped) (run_tokens at n opens closes)

-- A content is read up to its end, with a text pending. If that text is ended at any offset, the tree has the tokens
-- of the content up to there. The text begins before the white space at the end of the content, and before a
-- backslash that breaks the line there (this project).
pub record IsHeldTo (texts : List CowStr) (s : Inline) (old new : Forest Item) (to : Spot) (p : HeldText) : Type 0 where
  pub pieces : List Piece
  pub division : IsInPieces texts s pieces to
  pub before_break : p.begin ≤ text_end s to.at
  pub before_white : p.begin ≤ to.at - blanks_at_end s to.at
  pub appended : (stop : ℕ) → p.begin ≤ stop → stop ≤ to.at
      → with_text new p.begin stop p.escaped ≡ with_tokens old (add_pieces stop s.start pieces [])
