-- The state of the walk over the marks of a chain. Only contracts of private functions cite this.
use Rattle.std.specs.Prelude.{◌≡◌, ℕ, List, [], ◌∷◌, ◌++◌, length}
use Rattle.first_pass_items.specs.declared.option_set.Options.{Options}
use Rattle.first_pass_inline.specs.declared.mark.Mark.{Mark}
use Rattle.first_pass_emphasis.specs.declared.levels.Level.{Level}
use Rattle.first_pass_emphasis.specs.declared.levels.Walk.{Walk}
use Rattle.first_pass_emphasis.specs.declared.quotes.PlacedQuote.{PlacedQuote}
use Rattle.first_pass_emphasis.specs.declared.role.Role.{Role}
use Rattle.first_pass_emphasis.specs.declared.role.Role.TheVariants.{Text}
use Rattle.first_pass_emphasis.specs.declared.run.PlacedRun.{PlacedRun}
use Rattle.first_pass_emphasis.specs.declared.token.Side.TheVariants.{After}
use Rattle.first_pass_emphasis.specs.Levels.{IsNested, Nested, flat, level_roles, parts}
use Rattle.first_pass_emphasis.specs.Parts.{Part, Other, placed_quotes, placed_runs, raw}
use Rattle.first_pass_emphasis.specs.Tokens.{side_of}

-- What is around a level: nothing; or what is around the next one, the parts of that one before the bracket, the bracket
-- after the level, the marks of that one after it, and where that one begins.
pub data Around : Type 0 where
  Whole : Around
  Within : Around → List Part → Mark → Nested → ℕ → Around

-- the roles before a level
abbrev pub outside : Around → List Role
outside Whole = []
outside (Within o us closes r from) = outside o ++ (raw us ++ Text ∷ [])

-- the marks after a level
abbrev pub after : Around → List Mark
after Whole = []
after (Within o us closes r from) = closes ∷ (flat r ++ after o)

-- the runs before a level, and its quotation marks
abbrev pub runs_before : Around → List PlacedRun
runs_before Whole = []
runs_before (Within o us closes r from) = runs_before o ++ placed_runs (length (outside o)) us

abbrev pub quotes_before : Around → List PlacedQuote
quotes_before Whole = []
quotes_before (Within o us closes r from) = quotes_before o ++ placed_quotes (length (outside o)) us

-- the state has a level so
abbrev pub level_in : Around → ℕ → Level
level_in o from = record { runs = length (runs_before o); quotes = length (quotes_before o); from = from }

-- the state has the levels around a level so
abbrev pub levels_around : Around → List Level
levels_around Whole = []
levels_around (Within o us closes r from) = levels_around o ++ level_in o from ∷ []

-- each level is before the second one of two brackets
abbrev pub IsAround : Around → Type 0
IsAround Whole = Unit {0}
IsAround (Within o us closes r from) = (side_of closes.kind ≡ After) × IsNested r × IsAround o

-- the part that a link with these parts is
abbrev pub inner : List Part → Part
inner ts = Other (Text ∷ (level_roles ts ++ Text ∷ []))

-- the roles of the chain, given the parts of its innermost level
abbrev pub whole : List ℕ → Options → Around → List Part → List Role
whole content options Whole ts = level_roles ts
whole content options (Within o us closes r from) ts = whole content options o (us ++ inner ts ∷ parts content options from 0 r)

-- the state of the walk, except for the roles
pub record Keeps (o : Around) (from : ℕ) (ts : List Part) (s : Walk) : Type 0 where
  pub runs : s.runs.items ≡ runs_before o ++ placed_runs (length (outside o)) ts
  pub quotes : s.quotes.items ≡ quotes_before o ++ placed_quotes (length (outside o)) ts
  pub outer : s.outer.items ≡ levels_around o
  pub level : s.level ≡ level_in o from

-- the state of the walk after these parts of a level, which begins at a place
pub record Holds (o : Around) (from : ℕ) (ts : List Part) (s : Walk) : Type 0 where
  pub roles : s.pass.roles.items ≡ outside o ++ raw ts
  pub keeps : Keeps o from ts s

-- the state of the walk after the level has its roles
pub record IsSettled (o : Around) (from : ℕ) (ts : List Part) (s : Walk) : Type 0 where
  pub roles : s.pass.roles.items ≡ outside o ++ level_roles ts
  pub keeps : Keeps o from ts s

-- the state of the walk after the level and the bracket after it
abbrev pub IsReadLevel : Around → ℕ → List Part → Walk → Walk → Type 0
IsReadLevel Whole from ts s t = Unit {0}
IsReadLevel (Within o us closes r outer) from ts s t = Holds (Within o us closes r outer) from ts s → Holds o outer (us ++ inner ts ∷ []) t

-- the state of the walk before these marks, after which the roles of the chain are the goal
pub record IsWalkBefore (content : List ℕ) (options : Options) (goal : List Role) (ms : List Mark) (s : Walk) : Type 0 where
  pub o : Around
  pub from : ℕ
  pub ts : List Part
  pub n : Nested
  pub holds : Holds o from ts s
  pub around : IsAround o
  pub nested : IsNested n
  pub rest : ms ≡ flat n ++ after o
  pub leads : whole content options o (ts ++ parts content options from 0 n) ≡ goal
