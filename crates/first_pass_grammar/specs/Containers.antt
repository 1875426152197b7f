-- Which lines continue the open containers (CommonMark 5).
use Rattle.std.specs.Prelude.{ℕ, nat_le, ◌==◌, Bool, true, false, not, ◌||◌, ◌&&◌, Option, Some, None, List, [], ◌∷◌, is_some, if◌then◌else◌}
use Rattle.std.specs.Option.{option_map, option_and_then}
use Rattle.first_pass_items.specs.declared.option_set.Options.{Options}
use Rattle.first_pass_items.specs.OptionWords.{gfm_footnotes}
use Rattle.first_pass_lines.specs.Lines.{at_line_end}
use Rattle.first_pass_lines.specs.Rest.{Rest, indent, after_columns, past_quote}
use Rattle.first_pass_lines.specs.Places.{Place}
use Rattle.first_pass_grammar.specs.declared.kind.Container.{Container}
use Rattle.first_pass_grammar.specs.declared.kind.Container.TheVariants.{BlockQuote, ListItem, FootnoteDefinition, Definition}

-- the context of a line: the options, and the path of open containers, innermost first
pub record Context : Type 0 where
  pub options : Options
  pub path : List Container

abbrev pub context : Options → List Container → Context
context options path = record { options = options; path = path }

-- a place in the same line, with this rest
abbrev pub at_rest : Place → Rest → Place
at_rest p r = record { line = p.line; rest = r }

-- at least n columns, or fewer and then the end of the line (CommonMark 5.2)
abbrev pub has_columns : ℕ → Rest → Bool
has_columns n r = nat_le n (indent r) || at_line_end (after_columns n r).left

-- the columns that a line needs to continue a footnote definition: four in GitHub's form, none in the old form (this
-- project)
abbrev pub footnote_columns : Options → ℕ
footnote_columns options = if gfm_footnotes options then 4 else 0

-- The rest of a line after the prefix of a container, or `None` if the line does not continue the container.
-- A block quote: up to three columns, a `>` before which no column is owed, and one column if there is one (CommonMark
-- 5.1).
-- A list item or a definition: the columns of its indent, or fewer and then the end of the line (CommonMark 5.2, and
-- this project).
-- A footnote definition: four columns in GitHub's form, or fewer and then the end of the line; none in the old form
-- (this project).
unfoldable pub prefix : Container → Rest → Option Rest
prefix (BlockQuote kind) r = option_map (after_columns 1) (past_quote (after_columns 3 r))
prefix (ListItem n) r = if has_columns n r then Some (after_columns n r) else None
prefix (FootnoteDefinition n) r = if has_columns n r then Some (after_columns n r) else None
prefix (Definition n) r = if has_columns n r then Some (after_columns n r) else None

-- the same for a path of containers, innermost first: their prefixes in turn, that of the outermost first
unfoldable pub after : List Container → Rest → Option Rest
after [] r = Some r
after (c ∷ path) r = option_and_then (prefix c) (after path r)

abbrev pub or_shorter : Option Rest → Rest → Rest
or_shorter (Some q) r = q
or_shorter None r = r

-- the rest of a line after the prefixes of as many containers of the path as it continues, from the outermost on
unfoldable pub front : List Container → Rest → Rest
front [] r = r
front (c ∷ path) r = or_shorter (after (c ∷ path) r) (front path r)

-- the place in a line after the prefixes of the path, if the line continues the whole path
abbrev pub taken : List Container → Place → Option Place
taken path line = option_map (at_rest line) (after path line.rest)

-- the line that begins at a place continues the whole path
abbrev pub continues : List Container → Place → Bool
continues path line = is_some (after path line.rest)

-- there is a next line, and it continues the whole path
abbrev pub next_goes_on : List Container → List Place → Bool
next_goes_on path [] = false
next_goes_on path (line ∷ lines) = continues path line

-- a container is a block quote
abbrev pub is_quote : Container → Bool
is_quote (BlockQuote kind) = true
is_quote (ListItem columns) = false
is_quote (FootnoteDefinition columns) = false
is_quote (Definition columns) = false

-- a container is a footnote definition (this project)
abbrev pub is_footnote : Container → Bool
is_footnote (BlockQuote kind) = false
is_footnote (ListItem columns) = false
is_footnote (FootnoteDefinition columns) = true
is_footnote (Definition columns) = false

-- a container is a footnote definition in the old form, whose lines need no columns (this project)
abbrev pub is_old_footnote : Container → Bool
is_old_footnote (BlockQuote kind) = false
is_old_footnote (ListItem columns) = false
is_old_footnote (FootnoteDefinition columns) = columns == 0
is_old_footnote (Definition columns) = false

-- a container is a definition of a definition list (this project)
abbrev pub is_definition : Container → Bool
is_definition (BlockQuote kind) = false
is_definition (ListItem columns) = false
is_definition (FootnoteDefinition columns) = false
is_definition (Definition columns) = true

-- the outermost container of a path that a line does not continue is a definition (this project)
unfoldable pub at_definition : List Container → Rest → Bool
at_definition [] r = false
at_definition (c ∷ path) r = if is_some (after path r) then is_definition c && not (is_some (after (c ∷ path) r)) else at_definition path r

-- the innermost container of a path is a block quote; the next definitions: a footnote definition, and one in the old
-- form
abbrev pub in_quote : List Container → Bool
in_quote [] = false
in_quote (c ∷ path) = is_quote c

abbrev pub in_footnote : List Container → Bool
in_footnote [] = false
in_footnote (c ∷ path) = is_footnote c

abbrev pub in_old_footnote : List Container → Bool
in_old_footnote [] = false
in_old_footnote (c ∷ path) = is_old_footnote c
