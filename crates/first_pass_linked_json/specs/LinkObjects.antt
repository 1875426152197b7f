-- The lines of links in JSON: an object for each (this project).
use Rattle.std.specs.Prelude.{ℕ, Bool, true, false, List, ◌++◌, codes, decimal, drop}
use Rattle.std.specs.declared.ops.Range.{Range}
use Rattle.first_pass_links.specs.Labels.{single_spaced}
use Rattle.first_pass_grammar.specs.LinkTables.{LinkEntry}
use Rattle.first_pass_content.specs.Content.{ContentByte, range_in}
use Rattle.first_pass_atoms.specs.declared.autolinks.AutolinkForm.{AutolinkForm}
use Rattle.first_pass_inline.specs.declared.mark.Link.{Link}
use Rattle.first_pass_inline.specs.declared.mark.Span.{Span}
use Rattle.first_pass_inline.specs.declared.mark.Undefined.{Undefined}
use Rattle.first_pass_linked.specs.Forms.{LineForms}
use Rattle.first_pass_linked.specs.Targets.{address_of, bytes_in, destination, form_name, form_word, title_in}
use Rattle.first_pass_json.specs.JsonLines.{definition_line, range_members, target_members}
use Rattle.first_pass_json.specs.JsonValues.{json_string, word}

-- the members of a range, and the end of a line
abbrev pub range_end : Range ℕ → List ℕ
range_end r = range_members r.start r.«end» ++ codes "}\n"

-- the members of the range of what is shown
unfoldable pub text_members : Range ℕ → List ℕ
text_members shown = codes ",\"text_start\":" ++ decimal shown.start ++ codes ",\"text_end\":" ++ decimal shown.«end»

-- the members of a range and of that of what is shown, and the end of a line
abbrev pub shown_end : Range ℕ → Range ℕ → List ℕ
shown_end r shown = range_members r.start r.«end» ++ text_members shown ++ codes "}\n"

-- the line of a footnote definition: its label as it is spelled, and its range
abbrev pub footnote_line : List ℕ → Range ℕ → List ℕ
footnote_line label range = codes "{\"footnote\":" ++ json_string label ++ range_end range

abbrev pub link_name : Bool → List ℕ
link_name true = codes "{\"image\":"
link_name false = codes "{\"link\":"

-- The line of a link or an image that begins at a place: its form, its destination and its title, its range, and that of
-- what is between its brackets, or of what is shown of a wikilink (CommonMark 6.3, 6.4; wikilinks: this project).
abbrev pub link_line : List ContentByte → List LinkEntry → ℕ → Link → List ℕ
link_line c links start l =
    link_name l.is_image ++ word (form_name l.target) ++ target_members (destination c links l.target) (title_in c links l.target)
    ++ shown_end (range_in c start l.«end») (range_in c l.shown.start l.shown.«end»)

-- the form and the address of an autolink (CommonMark 6.5)
unfoldable pub autolink_members : List ContentByte → Span → AutolinkForm → List ℕ
autolink_members c part form = codes "{\"autolink\":" ++ word (form_word form) ++ codes ",\"destination\":" ++ json_string (bytes_in c (address_of part))

-- the line of an autolink: its form, its address, its range, and that of the address (CommonMark 6.5)
abbrev pub autolink_line : List ContentByte → Span → AutolinkForm → List ℕ
autolink_line c part form =
    autolink_members c part form
    ++ shown_end (range_in c part.start part.«end») (range_in c (address_of part).start (address_of part).«end»)

-- a label as a string, with each run of white space as one space (CommonMark 6.3)
abbrev pub label_string : List ℕ → List ℕ
label_string label = json_string (single_spaced label)

-- the line of a footnote reference: its label after the `^`, and its range (this project)
abbrev pub footnote_reference_line : List ContentByte → Span → Span → List ℕ
footnote_reference_line c part label =
    codes "{\"footnote_reference\":" ++ label_string (drop 1 (bytes_in c label)) ++ range_end (range_in c part.start part.«end»)

-- the line of an undefined reference that begins at a place: its label, and its range (this project)
abbrev pub undefined_line : List ContentByte → ℕ → Undefined → List ℕ
undefined_line c start u = codes "{\"undefined\":" ++ label_string (bytes_in c u.label) ++ range_end (range_in c start u.«end»)

-- these lines; that of a link definition as `tree` writes it
abbrev pub json_forms : LineForms
json_forms = record {
  definition = definition_line range_members;
  footnote = footnote_line;
  link = link_line;
  autolink = autolink_line;
  footnote_reference = footnote_reference_line;
  undefined = undefined_line;
}
