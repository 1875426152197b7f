-- The levels of a chain.
use Rattle.std.specs.Prelude.{◌≡◌, ℕ, zero, suc, false, List, [], ◌∷◌, ◌++◌}
use Rattle.first_pass_items.specs.declared.option_set.Options.{Options}
use Rattle.first_pass_inline.specs.declared.mark.Mark.{Mark}
use Rattle.first_pass_emphasis.specs.declared.role.Role.{Role}
use Rattle.first_pass_emphasis.specs.declared.role.Role.TheVariants.{Text}
use Rattle.first_pass_emphasis.specs.declared.token.Side.{Side}
use Rattle.first_pass_emphasis.specs.declared.token.Side.TheVariants.{Before, After, Within}
use Rattle.first_pass_emphasis.specs.declared.token.Token.{Token}
use Rattle.first_pass_emphasis.specs.declared.token.Token.TheVariants.{Delimiter, Quotation as QuotationToken, Other as OtherToken}
use Rattle.first_pass_emphasis.specs.Parts.{Part, Delimiters, Quotation, Other}
use Rattle.first_pass_emphasis.specs.Pieces.{reduced, roles}
use Rattle.first_pass_emphasis.specs.Quotes.{quoted}
use Rattle.first_pass_emphasis.specs.Tokens.{more_of, side_of, token_of}

-- Marks with their levels: none; a mark, and those after it; the mark of a bracket, the marks of the level between it and
-- the other one, the mark of that, and those after it.
pub data Nested : Type 0 where
  Nothing : Nested
  Single : Mark → Nested → Nested
  Inner : Mark → Nested → Mark → Nested → Nested

-- the marks in order
abbrev pub flat : Nested → List Mark
flat Nothing = []
flat (Single m r) = m ∷ flat r
flat (Inner opens inside closes r) = opens ∷ (flat inside ++ closes ∷ flat r)

-- each level is between two brackets, and no other mark is one
abbrev pub IsNested : Nested → Type 0
IsNested Nothing = Unit {0}
IsNested (Single m r) = (side_of m.kind ≡ Within) × IsNested r
IsNested (Inner opens inside closes r) =
    ((from : ℕ) × (side_of opens.kind ≡ Before from)) × IsNested inside × (side_of closes.kind ≡ After) × IsNested r

-- these are the levels of marks
abbrev pub IsNestingOf : List Mark → Nested → Type 0
IsNestingOf ms n = IsNested n × (ms ≡ flat n)

-- the place at which the level after a bracket begins, or before it
abbrev pub level_from : Side → ℕ
level_from (Before from) = from
level_from _ = 0

-- the part that a token of a level begins
abbrev pub part_of : Token → Part
part_of (Delimiter run) = Delimiters run
part_of (QuotationToken quote) = Quotation quote
part_of OtherToken = Other (Text ∷ [])

-- the roles of the parts of a level: those of quotation marks, and what is reduced
abbrev pub level_roles : List Part → List Role
level_roles ts = roles (reduced (quoted false false ts))

-- The parts of a level that begins at a place, of which so many marks belong to a run that has begun. A link or an image is
-- one part: its brackets and the level between them.
abbrev pub parts : List ℕ → Options → ℕ → ℕ → Nested → List Part
parts content options from more Nothing = []
parts content options from zero (Single m r) =
    part_of (token_of content options from m (flat r)) ∷ parts content options from (more_of (token_of content options from m (flat r))) r
parts content options from (suc more) (Single m r) = parts content options from more r
parts content options from more (Inner opens inside closes r) =
    Other (Text ∷ (level_roles (parts content options (level_from (side_of opens.kind)) 0 inside) ++ Text ∷ []))
    ∷ parts content options from 0 r

-- the roles of the marks of a chain with this content
abbrev pub chain_roles : List ℕ → Options → Nested → List Role
chain_roles content options n = level_roles (parts content options 0 0 n)
