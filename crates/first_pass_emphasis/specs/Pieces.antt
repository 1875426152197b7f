-- Pieces of a level, and what they are reduced to.
use Rattle.std.specs.Prelude.{ℕ, zero, suc, ◌-◌, List, [], ◌∷◌, ◌++◌, replicate, Option, Some, None, if◌then◌else◌}
use Rattle.std.specs.Option.{option_map, option_map_or}
use Rattle.first_pass_emphasis.specs.declared.role.Format.{Format}
use Rattle.first_pass_emphasis.specs.declared.role.Role.{Role}
use Rattle.first_pass_emphasis.specs.declared.role.Role.TheVariants.{Text, Opens, Closes}
use Rattle.first_pass_emphasis.specs.declared.run.Run.{Run}
use Rattle.first_pass_emphasis.specs.Parts.{Part, Delimiters, Quotation, Other}
use Rattle.first_pass_emphasis.specs.Runs.{fits, format, width}

-- Pieces, the last one outermost: none; a piece that is no run, by its roles, after others; a run and how many of its
-- delimiters are left, after others; a text with a format, the number of its delimiters on each side and the pieces in it,
-- after others.
pub data Pieces : Type 0 where
  Begin : Pieces
  Plain : Pieces → List Role → Pieces
  Runs : Pieces → Run → ℕ → Pieces
  Formatted : Pieces → Format → ℕ → Pieces → Pieces

-- an opener among pieces: the pieces before it, the run, how many of its delimiters are left, and the pieces after it
pub record Opener : Type 0 where
  pub before : Pieces
  pub run : Run
  pub left : ℕ
  pub after : Pieces

-- one more piece after the opener
abbrev pub then_plain : List Role → Opener → Opener
then_plain ms o = record { before = o.before; run = o.run; left = o.left; after = Plain o.after ms }

abbrev pub then_run : Run → ℕ → Opener → Opener
then_run r n o = record { before = o.before; run = o.run; left = o.left; after = Runs o.after r n }

abbrev pub then_formatted : Format → ℕ → Pieces → Opener → Opener
then_formatted f w x o = record { before = o.before; run = o.run; left = o.left; after = Formatted o.after f w x }

-- the last run that can be the opener of a closer, of which so many delimiters are left (CommonMark 6.2)
abbrev pub opener : Pieces → Run → ℕ → Option Opener
opener Begin c more = None
opener (Plain p ms) c more = option_map (then_plain ms) (opener p c more)
opener (Runs p r n) c more =
    if fits r n c more then Some (record { before = p; run = r; left = n; after = Begin }) else option_map (then_run r n) (opener p c more)
opener (Formatted p f w x) c more = option_map (then_formatted f w x) (opener p c more)

-- the pieces once the opener has lost some delimiters: what was after it has a format (CommonMark 6.2)
abbrev pub paired : Opener → ℕ → Pieces
paired o w = Formatted (Runs o.before o.run (o.left - w)) (format o.run w) w o.after

-- The pieces after a run, of which so many delimiters are left, has closed what it can: at most `steps` times.
abbrev pub closed : ℕ → Pieces → Run → ℕ → Pieces
closed zero p c more = Runs p c more
closed (suc steps) p c more =
    option_map_or (λ (o : Opener). closed steps (paired o (width o.run o.left more)) c (more - width o.run o.left more)) (opener p c more) (Runs p c more)

-- one more part
abbrev pub followed : Pieces → Part → Pieces
followed p (Delimiters r) = closed r.size p r r.size
followed p (Quotation q) = Plain p (Text ∷ [])
followed p (Other rs) = Plain p rs

-- more parts
abbrev pub followed_by : Pieces → List Part → Pieces
followed_by p [] = p
followed_by p (t ∷ ts) = followed_by (followed p t) ts

-- what the parts of a level are reduced to
abbrev pub reduced : List Part → Pieces
reduced ts = followed_by Begin ts

-- The roles of pieces: those of each piece that is no run, and one for each delimiter. That of a delimiter which isn't text
-- has the format, and how many delimiters are on that side.
abbrev pub roles : Pieces → List Role
roles Begin = []
roles (Plain p ms) = roles p ++ ms
roles (Runs p r n) = roles p ++ replicate n Text
roles (Formatted p f w x) = roles p ++ (replicate w (Opens f w) ++ (roles x ++ replicate w (Closes f w)))
