-- The lines of the links of a text, in a form of lines (this project).
use Rattle.std.specs.Prelude.{◌≡◌, ℕ, List, [], ◌∷◌, ◌++◌, map}
use Rattle.std.specs.List.{flat_map}
use Rattle.first_pass_items.specs.declared.item.Item.{Item}
use Rattle.first_pass_items.specs.declared.option_set.Options.{Options}
use Rattle.first_pass_grammar.specs.Names.{Names}
use Rattle.first_pass_grammar.specs.Leaves.{document}
use Rattle.first_pass_grammar.specs.Derivation.{Derives}
use Rattle.first_pass_grammar.specs.LinkTables.{LinkEntry}
use Rattle.first_pass_names.specs.TableEntries.{Entries, footdefs_of, link_entry, names_of, refdefs_of, tables_in}
use Rattle.first_pass_names.specs.declared.items.Allocations.{Allocations}
use Rattle.first_pass_content.specs.Chains.{chain_after}
use Rattle.first_pass_content.specs.Content.{content}
use Rattle.first_pass_inline.specs.declared.mark.Mark.{Mark}
use Rattle.first_pass_inline.specs.Inlines.{chain_of}
use Rattle.first_pass_inline.specs.Labels.{TextLabels, text_labels}
use Rattle.first_pass_inline.specs.Marks.{AreMarks}
use Rattle.first_pass_linked.specs.declared.report.TextSource.{TextSource}
use Rattle.first_pass_linked.specs.Forms.{LineForms, footnote_line, mark_lines}

-- what the lines of nodes are made of: a form of lines, the text, its names, and what labels name in it
pub record Source : Type 0 where
  pub forms : LineForms
  pub text : List ℕ
  pub names : Names
  pub labels : TextLabels

-- the link definitions in the order of their table
abbrev pub links_of : TextLabels → List LinkEntry
links_of labels = map link_entry labels.definitions

-- the lines of a node, given the nodes after it and the marks of its chain: that of a footnote definition, then those of
-- the links of the chain
abbrev pub block_lines : Source → ℕ × Item → List (ℕ × Item) → List Mark → List ℕ
block_lines s n nodes ms = footnote_line s.forms s.names n.1 ++ mark_lines s.forms (content s.text (chain_after n nodes)) (links_of s.labels) 0 ms

-- these are the lines of nodes in reading order
abbrev pub AreNodeLines : Source → List (ℕ × Item) → List ℕ → Type 0
AreNodeLines s [] lines = lines ≡ []
AreNodeLines s (n ∷ nodes) lines =
    (ms : List Mark) × (more : List ℕ) × AreMarks (chain_of s.text (chain_after n nodes) s.labels) ms × AreNodeLines s nodes more
    × (lines ≡ block_lines s n nodes ms ++ more)

-- the lines of the first of these nodes are added to others
abbrev pub AddsFirst : Source → List (ℕ × Item) → List ℕ → List ℕ → Type 0
AddsFirst s [] old new = new ≡ old
AddsFirst s (n ∷ nodes) old new =
    (ms : List Mark) → AreMarks (chain_of s.text (chain_after n nodes) s.labels) ms → new ≡ old ++ block_lines s n nodes ms

abbrev pub source_of : LineForms → TextSource → Source
source_of forms s = record { forms = forms; text = s.text.now; names = names_of s.allocs.now; labels = s.labels.now }

-- the same, from the tables of a text
abbrev pub source_in : LineForms → List ℕ → Options → Allocations → Source
source_in forms text options allocs =
    record { forms = forms; text = text; names = names_of allocs; labels = text_labels options (refdefs_of allocs) (footdefs_of allocs) }

-- The whole output for a text under options, in a form of lines: a line for each link definition that the grammar derives, in the order of
-- their table, then the lines of the nodes that it derives.
pub record AreLinkLines (forms : LineForms) (options : Options) (text output : List ℕ) : Type 0 where
  pub names : Names
  pub nodes : List (ℕ × Item)
  pub entries : Entries
  pub derived : Derives (document text options names) nodes (tables_in entries)
  pub found : List ℕ
  pub are_found : AreNodeLines (record { forms = forms; text = text; names = names; labels = text_labels options entries.links entries.footnotes }) nodes found
  pub written : output ≡ flat_map forms.definition (tables_in entries).links ++ found
