-- The lines of links as text (this project).
use Rattle.std.specs.Prelude.{ℕ, Bool, true, false, List, ◌++◌, codes, drop}
use Rattle.std.specs.declared.ops.Range.{Range}
use Rattle.first_pass_links.specs.Labels.{single_spaced}
use Rattle.first_pass_grammar.specs.LinkTables.{LinkEntry}
use Rattle.first_pass_reports.specs.Printed.{visible, written_range}
use Rattle.first_pass_reports.specs.ReferenceLines.{definition_line}
use Rattle.first_pass_content.specs.Content.{ContentByte, range_in}
use Rattle.first_pass_atoms.specs.declared.autolinks.AutolinkForm.{AutolinkForm}
use Rattle.first_pass_inline.specs.declared.mark.Link.{Link}
use Rattle.first_pass_inline.specs.declared.mark.Span.{Span}
use Rattle.first_pass_inline.specs.declared.mark.Undefined.{Undefined}
use Rattle.first_pass_linked.specs.Forms.{LineForms}
use Rattle.first_pass_linked.specs.Targets.{address_of, bytes_in, form_word, spaced_range, target_text}

-- a range after a space, and a newline
abbrev pub last_range : Range ℕ → List ℕ
last_range r = written_range r.start r.«end»

-- the line of a footnote definition: its label as it is spelled, and its range
abbrev pub footnote_line : List ℕ → Range ℕ → List ℕ
footnote_line label range = codes "footnote [^" ++ label ++ codes "]" ++ last_range range

abbrev pub link_word : Bool → List ℕ
link_word true = codes "image "
link_word false = codes "link "

-- The line of a link or an image that begins at a place: its target, its range, and that of what is between its
-- brackets, or of what is shown of a wikilink (CommonMark 6.3, 6.4; wikilinks: this project).
abbrev pub link_line : List ContentByte → List LinkEntry → ℕ → Link → List ℕ
link_line c links start l =
    link_word l.is_image ++ target_text c links l.target ++ spaced_range (range_in c start l.«end») ++ last_range (range_in c l.shown.start l.shown.«end»)

-- the line of an autolink: its form, its address, its range, and that of the address (CommonMark 6.5)
abbrev pub autolink_line : List ContentByte → Span → AutolinkForm → List ℕ
autolink_line c part form =
    codes "autolink " ++ form_word form ++ codes " " ++ visible (bytes_in c (address_of part)) ++ spaced_range (range_in c part.start part.«end»)
    ++ last_range (range_in c (address_of part).start (address_of part).«end»)

-- a label with each run of white space as one space, and the `]` that ends it (CommonMark 6.3)
abbrev pub ended_label : List ℕ → List ℕ
ended_label label = single_spaced label ++ codes "]"

-- the line of a footnote reference: its label after the `^`, and its range (this project)
abbrev pub footnote_reference_line : List ContentByte → Span → Span → List ℕ
footnote_reference_line c part label =
    codes "footnote-reference [^" ++ ended_label (drop 1 (bytes_in c label)) ++ last_range (range_in c part.start part.«end»)

-- the line of an undefined reference that begins at a place: its label, and its range (this project)
abbrev pub undefined_line : List ContentByte → ℕ → Undefined → List ℕ
undefined_line c start u = codes "undefined [" ++ ended_label (bytes_in c u.label) ++ last_range (range_in c start u.«end»)

-- these lines
abbrev pub plain_forms : LineForms
plain_forms = record {
  definition = definition_line;
  footnote = footnote_line;
  link = link_line;
  autolink = autolink_line;
  footnote_reference = footnote_reference_line;
  undefined = undefined_line;
}
