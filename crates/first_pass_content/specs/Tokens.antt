-- The tokens of a chain, and their places: offsets into the content of the chain.
use Rattle.std.specs.Prelude.{ℕ, ◌+◌, ◌&&◌, List, [], ◌∷◌, length, nat_lt, if◌then◌else◌, IsCharBoundary}
use Rattle.first_pass_items.specs.declared.item.Item.{Item}
use Rattle.first_pass_reports.specs.Pairs.{whole_start}
use Rattle.first_pass_content.specs.Content.{gap_content, token_content}
use Rattle.first_pass_content.specs.declared.tokens.PlacedToken.{PlacedToken}

-- The place of the own bytes of a token whose content has these places: after the backslash that was dropped before the
-- token, if one was (CommonMark 2.4).
abbrev pub own_start : Item → ℕ → ℕ → ℕ
own_start token whole past = if nat_lt (whole_start token) token.start && nat_lt whole past then whole + 1 else whole

-- a token whose content has the places from one up to another
abbrev pub token_between : Item → ℕ → ℕ → PlacedToken
token_between token whole past = record { body = token.body; whole = whole; start = own_start token whole past; «end» = past }

-- The tokens of a chain whose content begins at a place. The content of each begins after that of the token before it,
-- and what is content between the two (this project).
unfoldable pub placed_tokens : List ℕ → ℕ → List (ℕ × Item) → List PlacedToken
placed_tokens text place [] = []
placed_tokens text place (token ∷ tokens) =
    let past = place + length (token_content text token.1) in
    token_between token.1 place past ∷ placed_tokens text (past + length (gap_content text token.1 tokens)) tokens

-- a token begins and ends between characters of the content
abbrev pub IsWholeToken : List ℕ → PlacedToken → Type 0
IsWholeToken bytes t = IsCharBoundary bytes t.start × IsCharBoundary bytes t.«end»
