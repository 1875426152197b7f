-- Lines of links in any form: which marks of a chain have a line, and in which order (this project).
use Rattle.std.specs.Prelude.{ℕ, zero, suc, max, Bool, true, false, nat_lt, List, [], ◌∷◌, ◌++◌, slice_get, if◌then◌else◌}
use Rattle.std.specs.Option.{option_map_or}
use Rattle.std.specs.declared.ops.Range.{Range}
use Rattle.first_pass_items.specs.declared.item.Item.{Item}
use Rattle.first_pass_items.specs.declared.item.ItemBody.{ItemBody}
use Rattle.first_pass_items.specs.declared.item.ItemBody.TheVariants.{FootnoteDefinition}
use Rattle.first_pass_grammar.specs.Names.{Names, text_named}
use Rattle.first_pass_grammar.specs.LinkTables.{LinkEntry}
use Rattle.first_pass_content.specs.Content.{ContentByte}
use Rattle.first_pass_atoms.specs.declared.autolinks.AutolinkForm.{AutolinkForm}
use Rattle.first_pass_inline.specs.declared.mark.Link.{Link}
use Rattle.first_pass_inline.specs.declared.mark.Mark.{Mark}
use Rattle.first_pass_inline.specs.declared.mark.MarkKind.{MarkKind}
use Rattle.first_pass_inline.specs.declared.mark.MarkKind.TheVariants.{Autolink, FootnoteReference, Link as LinkMark, Name as NameMark, Undefined as UndefinedMark}
use Rattle.first_pass_inline.specs.declared.mark.Span.{Span}
use Rattle.first_pass_inline.specs.declared.mark.Undefined.{Undefined}

-- A form of lines: what is written for a link definition; for a footnote definition with a label and a range; and, of a
-- content, for a link or an image that begins at a place, an autolink, a footnote reference with its label, and an
-- undefined reference that begins at a place.
pub record LineForms : Type 0 where
  pub definition : LinkEntry → List ℕ
  pub footnote : List ℕ → Range ℕ → List ℕ
  pub link : List ContentByte → List LinkEntry → ℕ → Link → List ℕ
  pub autolink : List ContentByte → Span → AutolinkForm → List ℕ
  pub footnote_reference : List ContentByte → Span → Span → List ℕ
  pub undefined : List ContentByte → ℕ → Undefined → List ℕ

-- the line of a footnote definition, with its label as it is spelled and its range; nothing for another node
abbrev pub footnote_text : LineForms → Names → ItemBody → Range ℕ → List ℕ
footnote_text forms names (FootnoteDefinition ix) range = forms.footnote (text_named names ix) range
footnote_text forms names _ range = []

-- the line of a node, if it is a footnote definition
abbrev pub footnote_line : LineForms → Names → Item → List ℕ
footnote_line forms names node = footnote_text forms names node.body record { start = node.start; «end» = node.«end» }

-- the opening bracket of a link or an image
abbrev pub is_link_kind : MarkKind → Bool
is_link_kind (LinkMark l) = true
is_link_kind _ = false

-- An undefined reference waits for this number of marks: what would be its label begins with the last of them. That mark
-- is of a link or an image. If the number is 0, it waits for none.
abbrev pub waits_for_link : List Mark → ℕ → Bool
waits_for_link ms zero = false
waits_for_link ms (suc n) = option_map_or (λ (m : Mark). is_link_kind m.kind) (slice_get ms n) false

-- the line of a mark with this part, before other marks; most marks have none
abbrev pub kind_line : LineForms → List ContentByte → List LinkEntry → Span → MarkKind → List Mark → List ℕ
kind_line forms c links part (LinkMark l) ms = forms.link c links part.start l
kind_line forms c links part (Autolink form) ms = forms.autolink c part form
kind_line forms c links part (FootnoteReference label) ms = forms.footnote_reference c part label
kind_line forms c links part (UndefinedMark u) ms = if waits_for_link ms u.wait then [] else forms.undefined c part.start u
kind_line forms c links part _ ms = []

-- After a mark of this kind nothing is listed that begins before this place. After the name of a wikilink that is where
-- what is shown instead of the name begins, or where the name ends (this project).
abbrev pub listed_from : MarkKind → ℕ
listed_from (NameMark n) = option_map_or (λ (s : Span). s.start) n.shown n.name.«end»
listed_from _ = 0

-- the line of the first of these marks, if it does not begin before a place
abbrev pub first_line : LineForms → List ContentByte → List LinkEntry → ℕ → List Mark → List ℕ
first_line forms c links place [] = []
first_line forms c links place (m ∷ ms) = if nat_lt m.part.start place then [] else kind_line forms c links m.part m.kind ms

-- the lines of marks, of which nothing is listed that begins before a place
unfoldable pub mark_lines : LineForms → List ContentByte → List LinkEntry → ℕ → List Mark → List ℕ
mark_lines forms c links place [] = []
mark_lines forms c links place (m ∷ ms) =
    first_line forms c links place (m ∷ ms) ++ mark_lines forms c links (max place (listed_from m.kind)) ms
