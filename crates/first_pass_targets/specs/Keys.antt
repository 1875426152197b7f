-- Labels as they are compared, and the definition that a label names (CommonMark 4.7, 6.3).
use Rattle.std.specs.Prelude.{ℕ, ◌+◌, ◌-◌, List, [], ◌∷◌, length, take, drop, nat_eq, nat_lt, not, Bool, Option, Some, None, if◌then◌else◌}
use Rattle.std.specs.Cmp.Lexicographic.{pointwise}
use Rattle.std.specs.List.{list_any}
use Rattle.std.specs.Option.{option_map}
use Rattle.first_pass_items.specs.Bytes.{space}
use Rattle.first_pass_items.specs.declared.cow_str.CowStr.{CowStr}
use Rattle.first_pass_items.specs.CowText.{text_of}
use Rattle.first_pass_lines.specs.Lines.{begins, ends, is_white_or_line_end}
use Rattle.first_pass_links.specs.Labels.{single_spaced}
use Rattle.first_pass_labels.specs.Foldings.{folded}
use Rattle.first_pass_labels.specs.declared.label_table.LinkDef.{LinkDef}

-- a byte that is neither white space nor part of a line ending
abbrev pub is_solid : ℕ → Bool
is_solid b = not (is_white_or_line_end b)

-- a text without a space at its start
abbrev pub without_first_space : List ℕ → List ℕ
without_first_space bs = if begins space bs then drop 1 bs else bs

-- a text without a space at its end
abbrev pub without_last_space : List ℕ → List ℕ
without_last_space bs = if ends space bs then take (length bs - 1) bs else bs

-- The key of a label: each run of white space and line endings is one space, white space at both ends is left out, and
-- the case is folded. Labels match if their keys are equal (CommonMark 4.7, 6.3).
abbrev pub label_key : List ℕ → List ℕ
label_key label = folded (without_last_space (without_first_space (single_spaced label)))

-- a label has a key (CommonMark 6.3)
abbrev pub has_key : List ℕ → CowStr → Bool
has_key key label = pointwise nat_eq (label_key (text_of label)) key

-- a label of the table has the key of this one (CommonMark 6.3; for footnotes this project)
abbrev pub has_label : {X : Type 0} → List (CowStr × X) → List ℕ → Bool
has_label table label = list_any (λ e. has_key (label_key label) e.0) table

-- of two definitions with their indices, if they are given, the one that begins first; the former if both begin at the
-- same offset (CommonMark 4.7)
abbrev pub earlier : Option (ℕ × LinkDef) → Option (ℕ × LinkDef) → Option (ℕ × LinkDef)
earlier None other = other
earlier (Some d) None = Some d
earlier (Some d) (Some e) = if nat_lt e.1.span.start d.1.span.start then Some e else Some d

-- the definition with a key that begins first in the text, if there is one, and its index, given the index of the first
-- of these (CommonMark 4.7)
unfoldable pub first_with_key : List ℕ → ℕ → List (CowStr × LinkDef) → Option (ℕ × LinkDef)
first_with_key key index [] = None
first_with_key key index (d ∷ ds) =
    if has_key key d.0 then earlier (Some (index, d.1)) (first_with_key key (index + 1) ds) else first_with_key key (index + 1) ds

-- the definition that a label names: of those in the table whose label has the same key, the one that begins first in
-- the text (CommonMark 4.7, 6.3)
abbrev pub definition_of : List (CowStr × LinkDef) → List ℕ → Option LinkDef
definition_of table label = option_map (λ f. f.1) (first_with_key (label_key label) 0 table)

-- its index in the table (this project)
abbrev pub definition_index : List (CowStr × LinkDef) → List ℕ → Option ℕ
definition_index table label = option_map (λ f. f.0) (first_with_key (label_key label) 0 table)
