-- The rewriting step of emphasis: the first closer that has an opener, with the last such opener (CommonMark 6.2).
use Rattle.std.specs.Prelude.{◌≡◌, ℕ, zero, suc, ◌-◌, List, [], ◌∷◌, Option, Some, None}
use Rattle.std.specs.Option.{option_map}
use Rattle.first_pass_emphasis.specs.declared.run.Run.{Run}
use Rattle.first_pass_emphasis.specs.Runs.{width}
use Rattle.first_pass_emphasis.specs.declared.role.Role.TheVariants.{Text}
use Rattle.first_pass_emphasis.specs.Parts.{Part, Delimiters, Quotation, Other}
use Rattle.first_pass_emphasis.specs.Pieces.{Pieces, Begin, Plain, Runs, Formatted, Opener, opener, paired}

-- the pieces of parts as they are read
abbrev pub read_after : Pieces → List Part → Pieces
read_after p [] = p
read_after p (Delimiters r ∷ ts) = read_after (Runs p r r.size) ts
read_after p (Quotation q ∷ ts) = read_after (Plain p (Text ∷ [])) ts
read_after p (Other rs ∷ ts) = read_after (Plain p rs) ts

abbrev pub read : List Part → Pieces
read ts = read_after Begin ts

abbrev pub or_else : Option Pieces → Option Pieces → Option Pieces
or_else (Some p) q = Some p
or_else None q = q

-- a closer and its opener have lost some delimiters, and what is between is emphasis
abbrev pub rewritten : Run → ℕ → Opener → Pieces
rewritten c more o = Runs (paired o (width o.run o.left more)) c (more - width o.run o.left more)

-- the step, if there is one
abbrev pub redex : Pieces → Option Pieces
redex Begin = None
redex (Plain p ms) = option_map (λ (q : Pieces). Plain q ms) (redex p)
redex (Runs p c more) = or_else (option_map (λ (q : Pieces). Runs q c more) (redex p)) (option_map (rewritten c more) (opener p c more))
redex (Formatted p f w x) = option_map (λ (q : Pieces). Formatted q f w x) (redex p)

-- pieces become others by so many steps
abbrev pub Becomes : ℕ → Pieces → Pieces → Type 0
Becomes zero p q = p ≡ q
Becomes (suc n) p q = (r : Pieces) × (redex p ≡ Some r) × Becomes n r q

-- pieces become others that have no redex
abbrev pub IsNormalForm : Pieces → Pieces → Type 0
IsNormalForm p q = ((n : ℕ) × Becomes n p q) × (redex q ≡ None)
