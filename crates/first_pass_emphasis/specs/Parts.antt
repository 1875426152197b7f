-- Parts of a level, as they are read.
use Rattle.std.specs.Prelude.{ℕ, ◌+◌, List, [], ◌∷◌, ◌++◌, length, replicate}
use Rattle.first_pass_emphasis.specs.declared.quotes.PlacedQuote.{PlacedQuote}
use Rattle.first_pass_emphasis.specs.declared.quotes.Quote.{Quote}
use Rattle.first_pass_emphasis.specs.declared.role.Role.{Role}
use Rattle.first_pass_emphasis.specs.declared.role.Role.TheVariants.{Text}
use Rattle.first_pass_emphasis.specs.declared.run.PlacedRun.{PlacedRun}
use Rattle.first_pass_emphasis.specs.declared.run.Run.{Run}

-- A part of a level: a delimiter run, a quotation mark, or anything else, by its roles. A link or an image is one part.
pub data Part : Type 0 where
  Delimiters : Run → Part
  Quotation : Quote → Part
  Other : List Role → Part

-- the roles of parts as they are read: runs and quotation marks are text
abbrev pub raw : List Part → List Role
raw [] = []
raw (Delimiters r ∷ ts) = replicate r.size Text ++ raw ts
raw (Quotation q ∷ ts) = Text ∷ raw ts
raw (Other rs ∷ ts) = rs ++ raw ts

-- the runs of parts, of which the first begins at a role
abbrev pub placed_runs : ℕ → List Part → List PlacedRun
placed_runs n [] = []
placed_runs n (Delimiters r ∷ ts) = record { run = r; at = n } ∷ placed_runs (n + r.size) ts
placed_runs n (Quotation q ∷ ts) = placed_runs (n + 1) ts
placed_runs n (Other rs ∷ ts) = placed_runs (n + length rs) ts

-- the quotation marks of parts, of which the first begins at a role
abbrev pub placed_quotes : ℕ → List Part → List PlacedQuote
placed_quotes n [] = []
placed_quotes n (Delimiters r ∷ ts) = placed_quotes (n + r.size) ts
placed_quotes n (Quotation q ∷ ts) = record { quote = q; at = n } ∷ placed_quotes (n + 1) ts
placed_quotes n (Other rs ∷ ts) = placed_quotes (n + length rs) ts
