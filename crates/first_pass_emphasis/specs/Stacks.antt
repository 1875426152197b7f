-- The state of the pass over a level. Only contracts of private functions cite this.
use Rattle.std.specs.Prelude.{◌≡◌, ℕ, ◌+◌, ◌-◌, replicate, ◌<◌, ◌≤◌, if◌then◌else◌, Bool, true, false, List, [], ◌∷◌, ◌++◌, length, slice_get, Option}
use Rattle.std.specs.Prelude.{Some, MatchOption}
use Rattle.first_pass_emphasis.specs.declared.run.Run.{Run}
use Rattle.first_pass_emphasis.specs.declared.run.PlacedRun.{PlacedRun}
use Rattle.first_pass_emphasis.specs.declared.quotes.PlacedQuote.{PlacedQuote}
use Rattle.first_pass_emphasis.specs.declared.role.Role.{Role}
use Rattle.first_pass_emphasis.specs.declared.role.Role.TheVariants.{Text}
use Rattle.first_pass_emphasis.specs.declared.reduce.Entry.{Entry}
use Rattle.first_pass_emphasis.specs.declared.reduce.Pass.{Pass}
use Rattle.first_pass_emphasis.specs.Bottoms.{AreBottoms}
use Rattle.first_pass_emphasis.specs.Parts.{Part, placed_quotes, placed_runs, raw}
use Rattle.first_pass_emphasis.specs.Quotes.{is_single_edge}
use Rattle.first_pass_emphasis.specs.Runs.{fits, width}
use Rattle.first_pass_emphasis.specs.Pieces.{Pieces, Begin, Plain, Runs, Formatted, opener, paired, closed, followed_by, roles}

-- the runs of a level that are in no emphasis, and where what is left of each ends among the roles
abbrev pub entries : Pieces → List Entry
entries Begin = []
entries (Plain p ms) = entries p
entries (Runs p r n) = entries p ++ record { run = r; left = n; «end» = length (roles p) + n } ∷ []
entries (Formatted p f w x) = entries p

-- The state of the pass where what was read is reduced to these pieces: their roles stand before those of the rest.
pub record Stands (p : Pieces) (rest : List Role) (s : Pass) : Type 0 where
  pub roles : s.roles.items ≡ roles p ++ rest
  pub stack : s.stack.items ≡ entries p
  pub bottoms : AreBottoms s.stack.items s.bottoms.items

-- the state before a run, or what is left of it: its delimiters are text, and the first of them is at an index
pub record IsAt (p : Pieces) (more : ℕ) (rest : List Role) (at : ℕ) (s : Pass) : Type 0 where
  pub stands : Stands p (replicate more Text ++ rest) s
  pub place : at ≡ length (roles p)

-- the same for some pieces
abbrev pub IsReady : ℕ → ℕ → Pass → Type 0
IsReady more at s = (p : Pieces) × (rest : List Role) × IsAt p more rest at s

-- a run of the stack can be the opener of a closer
abbrev pub Fits : Entry → Run → ℕ → Bool
Fits e c more = fits e.run e.left c more

-- The index of the last run of a stack that can be the opener.
abbrev pub IsNearest : List Entry → Run → ℕ → Option ℕ → Type 0
IsNearest es c more r = MatchOption r
    ((k : ℕ) (e : Entry) → slice_get es k ≡ Some e → Fits e c more ≡ false)
    (λ j. ((e : Entry) × (slice_get es j ≡ Some e) × (Fits e c more ≡ true)) × ((k : ℕ) (e : Entry) → j < k → slice_get es k ≡ Some e → Fits e c more ≡ false))

-- the state after a closer has been tried once, which took so many delimiters: none, if there is no opener
abbrev pub IsTried : Pieces → List Role → ℕ → Run → ℕ → ℕ → Pass → Type 0
IsTried p rest at c more w s = MatchOption (opener p c more)
    ((w ≡ 0) × IsAt p more rest at s)
    (λ o. (w ≡ width o.run o.left more) × (0 < w) × (w ≤ more) × IsAt (paired o w) (more - w) rest (at + w) s)

-- the state after a run has closed what it can, and so many of its delimiters are left
abbrev pub IsClosed : Pieces → List Role → Run → ℕ → Pass → Type 0
IsClosed p rest c more s = (q : Pieces) × Stands q (replicate more Text ++ rest) s × (closed c.size p c c.size ≡ Runs q c more)
    × (length (roles q) + more ≡ length (roles p) + c.size)

-- the state after a run was read
pub record IsRead (p : Pieces) (rest : List Role) (c : Run) (s : Pass) : Type 0 where
  pub stands : Stands (closed c.size p c c.size) rest s
  pub place : length (roles (closed c.size p c c.size)) ≡ length (roles p) + c.size

-- the state of the pass before some runs, after which the level is reduced to certain pieces
pub record IsBefore (goal : Pieces) (rs : List PlacedRun) (s : Pass) : Type 0 where
  pub p : Pieces
  pub ts : List Part
  pub stands : Stands p (raw ts) s
  pub runs : rs ≡ placed_runs (length (roles p)) ts
  pub leads : followed_by p ts ≡ goal

-- the roles of a level with its runs as text, after others, and its runs
pub record IsLevel (outside : List Role) (ts : List Part) (ms : List Role) (rs : List PlacedRun) : Type 0 where
  pub roles : ms ≡ outside ++ raw ts
  pub runs : rs ≡ placed_runs (length outside) ts

-- the same with its quotation marks, each of which is text
pub record IsQuotedLevel (outside : List Role) (ts : List Part) (ms : List Role) (qs : List PlacedQuote) : Type 0 where
  pub roles : ms ≡ outside ++ raw ts
  pub quotes : qs ≡ placed_quotes (length outside) ts

-- the first single one of these quotation marks that can open or close can close
abbrev pub next_closes : List PlacedQuote → Bool
next_closes [] = false
next_closes (q ∷ qs) = if is_single_edge q.quote then q.quote.closes else next_closes qs
