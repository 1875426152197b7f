-- Texts in which characters replace the backslash escapes and references.
use Rattle.std.specs.Prelude.{ℕ, zero, suc, ◌-◌, ◌==◌, ◌&&◌, Bool, List, [], ◌∷◌, ◌++◌, slice_index, encode_utf8, Option, Some, if◌then◌else◌}
use Rattle.std.specs.Option.{option_map_or}
use Rattle.std.specs.Char.{is_ascii_punctuation}
use Rattle.first_pass_items.specs.Bytes.{backslash, pipe}
use Rattle.first_pass_lines.specs.Lines.{begins}
use Rattle.first_pass_entities.specs.Entities.{entity_at}

-- the bytes begin with a backslash escape: a backslash and then ASCII punctuation (CommonMark 2.4)
abbrev pub begins_escape : List ℕ → Bool
begins_escape bs = begins backslash bs && is_ascii_punctuation (slice_index bs 1)

-- the backslash escape or reference at the start of these bytes: its length, and its character (CommonMark 2.4, 2.5)
unfoldable pub replaced_at : List ℕ → Option (ℕ × ℕ)
replaced_at bs = if begins_escape bs then Some (2, slice_index bs 1) else entity_at bs

-- the bytes after the first n, with each escape and reference replaced by its character (CommonMark 2.4, 2.5)
unfoldable pub unescaped_after : ℕ → List ℕ → List ℕ
unescaped_after n [] = []
unescaped_after (suc n) (b ∷ bs) = unescaped_after n bs
unescaped_after zero (b ∷ bs) =
    option_map_or (λ r. encode_utf8 r.1 ++ unescaped_after (r.0 - 1) bs) (replaced_at (b ∷ bs)) (b ∷ unescaped_after 0 bs)

-- the text of a cell: a backslash directly before a pipe is dropped (GFM 4.10)
unfoldable pub without_pipe_escapes : List ℕ → List ℕ
without_pipe_escapes [] = []
without_pipe_escapes (b ∷ bs) = if b == backslash && begins pipe bs then without_pipe_escapes bs else b ∷ without_pipe_escapes bs

-- the text as it is read: in a table, without each backslash directly before a pipe (GFM 4.10)
abbrev pub read_in : Bool → List ℕ → List ℕ
read_in in_table text = if in_table then without_pipe_escapes text else text

-- a text with each escape and reference replaced by its character; in a table, each backslash directly before a pipe is
-- dropped first (CommonMark 2.4, 2.5, GFM 4.10)
abbrev pub unescaped : Bool → List ℕ → List ℕ
unescaped in_table text = unescaped_after 0 (read_in in_table text)
