-- Headings that have at most one token, a text.
use Rattle.std.specs.Prelude.{◌≡◌, ℕ, List, [], Option}
use Rattle.std.specs.List.{slice_range}
use Rattle.first_pass_items.specs.declared.cow_str.CowStr.{CowStr}
use Rattle.first_pass_items.specs.declared.item.Item.{Item}
use Rattle.first_pass_tree.specs.Forest.{text_between}
use Rattle.first_pass_tokens.specs.Chains.{add_tokens, close_break}
use Rattle.first_pass_tokens.specs.LineTokens.{AreLineTokens}
use Rattle.first_pass_tokens.specs.Pieces.{Inline}
use Rattle.first_pass_tokens.specs.TreeTokens.{leaves}
use Rattle.first_pass_grammar.specs.Leaves.{kept_len, heading_chain}
use Rattle.first_pass_open.specs.Between.{line_end_at}

-- The line of a heading has these tokens up to an offset, and they name no text. The heading's chain is at most a text
-- that ends at another offset.
pub record IsPlainHeading (s : Inline) (text_end next : ℕ) : Type 0 where
  pub tokens : List Item
  pub answer : ℕ × Option Item
  pub line : (texts : List CowStr) → AreLineTokens texts s tokens answer s.braces
  pub next_is : next ≡ line_end_at s.text s.start
  pub chain_is : leaves (heading_chain (kept_len (slice_range s.text s.start next)) s.start (close_break answer.1 (add_tokens [] tokens)))
      ≡ text_between s.start text_end
