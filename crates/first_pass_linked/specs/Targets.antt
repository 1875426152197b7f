-- The parts of a content, and what a link or an image leads to, as lines have them.
use Rattle.std.specs.Prelude.{ℕ, ◌+◌, ◌-◌, List, [], ◌++◌, codes, decimal, false, slice_get, Option, None}
use Rattle.std.specs.List.{slice_range}
use Rattle.std.specs.Option.{option_and_then, option_map, option_map_or}
use Rattle.std.specs.declared.ops.Range.{Range}
use Rattle.first_pass_links.specs.Escapes.{unescaped}
use Rattle.first_pass_grammar.specs.LinkTables.{LinkEntry}
use Rattle.first_pass_reports.specs.Printed.{quoted_title, visible}
use Rattle.first_pass_content.specs.Content.{ContentByte, bytes_of}
use Rattle.first_pass_atoms.specs.declared.autolinks.AutolinkForm.{AutolinkForm}
use Rattle.first_pass_atoms.specs.declared.autolinks.AutolinkForm.TheVariants.{Uri, Email}
use Rattle.first_pass_inline.specs.declared.mark.ReferenceForm.TheVariants.{Full, Collapsed, Shortcut}
use Rattle.first_pass_inline.specs.declared.mark.Span.{Span}
use Rattle.first_pass_inline.specs.declared.mark.Target.{Target}
use Rattle.first_pass_inline.specs.declared.mark.Target.TheVariants.{Definition, Inline, Name}
use Rattle.first_pass_inline.specs.Look.{span}

-- the bytes of a part of a content
abbrev pub bytes_in : List ContentByte → Span → List ℕ
bytes_in c s = slice_range (bytes_of c) s.start s.«end»

-- a range after a space
abbrev pub spaced_range : Range ℕ → List ℕ
spaced_range r = codes " " ++ decimal r.start ++ codes ".." ++ decimal r.«end»

-- what is between the `<` and the `>` of an autolink (CommonMark 6.5)
abbrev pub address_of : Span → Span
address_of part = span (part.start + 1) (part.«end» - 1)

-- the form of an autolink (CommonMark 6.5)
abbrev pub form_word : AutolinkForm → List ℕ
form_word Uri = codes "uri"
form_word Email = codes "email"

-- the form of a link or an image (CommonMark 6.3; wikilinks: this project)
abbrev pub form_name : Target → List ℕ
form_name (Inline dest title) = codes "inline"
form_name (Definition Full label index) = codes "full"
form_name (Definition Collapsed label index) = codes "collapsed"
form_name (Definition Shortcut label index) = codes "shortcut"
form_name (Name n) = codes "wikilink"

-- a part of a content with each backslash escape and each reference replaced by its character (CommonMark 2.4, 2.5)
abbrev pub unescaped_in : List ContentByte → Span → List ℕ
unescaped_in c s = unescaped false (bytes_in c s)

-- The destination of a link or an image: what it is written as, unescaped; that of its definition (CommonMark 6.3); or
-- the name of a wikilink, as it is written (this project).
abbrev pub destination : List ContentByte → List LinkEntry → Target → List ℕ
destination c links (Inline dest title) = unescaped_in c dest
destination c links (Definition form label index) = option_map_or (λ (l : LinkEntry). l.dest) (slice_get links index) []
destination c links (Name n) = bytes_in c n.name

-- the title of a link or an image, if it has one: the same way (CommonMark 6.3); a wikilink has none (this project)
abbrev pub title_in : List ContentByte → List LinkEntry → Target → Option (List ℕ)
title_in c links (Inline dest title) = option_map (unescaped_in c) title
title_in c links (Definition form label index) = option_and_then (λ (l : LinkEntry). l.title) (slice_get links index)
title_in c links (Name n) = None

-- a form, a destination, and a title in quotation marks, if there is one (this project)
abbrev pub target_text : List ContentByte → List LinkEntry → Target → List ℕ
target_text c links t = form_name t ++ codes " " ++ visible (destination c links t) ++ quoted_title (title_in c links t)
