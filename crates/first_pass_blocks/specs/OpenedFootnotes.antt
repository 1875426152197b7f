-- The footnote definition that a head opens (the only public call that cites this is `parse_footnote`).
use Rattle.std.specs.Prelude.{◌≡◌, ℕ, ◌+◌, ◌<◌, ◌≤◌, Bool, true, false, List, length, drop, Option, None, MatchOption, IsSomeAnd}
use Rattle.first_pass_items.specs.declared.item.CowIndex.{CowIndex}
use Rattle.first_pass_items.specs.OptionWords.{gfm_footnotes}
use Rattle.first_pass_tree.specs.Forest.{in_table}
use Rattle.first_pass_lines.specs.Places.{Place}
use Rattle.first_pass_entities.specs.Texts.{Borrows}
use Rattle.first_pass_grammar.specs.Names.{with_named}
use Rattle.first_pass_items.specs.declared.cow_str.CowStr.{CowStr}
use Rattle.first_pass_items.specs.CowText.{text_of}
use Rattle.first_pass_grammar.specs.Derivation.{with_footnote_label}
use Rattle.first_pass_grammar.specs.Footnotes.{footnote_at, footnote_head_at, label_bytes}
use Rattle.first_pass_names.specs.TableEntries.{entries, AddsFootnote, tables_of, names_of, refdefs_of}
use Rattle.first_pass_lists.specs.Closing.{footnote_begun}
use Rattle.first_pass_blocks.specs.declared.state.BlockPass.{BlockPass}
use Rattle.first_pass_containers.specs.Positions.{InLine, IsNotBefore}
use Rattle.first_pass_blocks.specs.Progress.{PassesTo}
use Rattle.first_pass_blocks.specs.Views.{allocs_of, context_in, front_of, state_of, source_of, source_text, tree_of}
use Rattle.first_pass_containers.specs.FootnoteHeads.{head_read}
use Rattle.first_pass_containers.specs.Starts.{FinishesNothing}

-- two passes have the same source, state, names, tables and front of the next line (this project)
abbrev pub StaysSame : BlockPass → BlockPass → Type 0
StaysSame old new =
    (source_of new ≡ source_of old) × (state_of new ≡ state_of old) × (allocs_of new ≡ allocs_of old) × (front_of new ≡ front_of old)

-- A footnote definition with this head is open, and starts at an offset. Its label is defined, and an index names it.
-- The label is borrowed from the text if nothing in it changes (this project).
pub record OpenedFootnote (start : ℕ) (head : ℕ × List ℕ) (old new : BlockPass) : Type 0 where
  pub index : CowIndex
  pub text : CowStr
  pub opened : state_of new ≡ footnote_begun start index (state_of old)
  pub last : index.0 ≡ length (names_of (allocs_of old)).texts
  pub names : names_of (allocs_of new) ≡ with_named (names_of (allocs_of old)) text
  pub label : text_of text ≡ head.1
  pub borrowed : text_of text ≡ label_bytes head.0 (drop start (source_text old)) → Borrows (label_bytes head.0 (drop start (source_text old))) text
  pub tells : AddsFootnote (entries (allocs_of old)) (entries (allocs_of new)) text
  pub added : tables_of (allocs_of new) ≡ with_footnote_label (tables_of (allocs_of old)) head.1
  pub links : refdefs_of (allocs_of new) ≡ refdefs_of (allocs_of old)

-- The search for the head of a footnote definition at an offset, with the length that it returns. If none begins
-- there, nothing changes. Otherwise its definition is open (this project).
abbrev pub ReadsFootnote : BlockPass → BlockPass → ℕ → Option ℕ → Type 0
ReadsFootnote old new start size =
    MatchOption (footnote_at (in_table (tree_of old).nodes (tree_of old).spine) (context_in old) (drop start (source_text old)))
    ((size ≡ None) × StaysSame old new)
    (λ head. IsSomeAnd size (λ n.
    (n ≡ head_read (gfm_footnotes (source_of old).options) head.0 (drop (start + head.0) (source_text old))) × OpenedFootnote start head old new))

-- unless a table is open, no footnote definition begins at a place (this project)
abbrev pub NoHead : BlockPass → Place → Type 0
NoHead pass p = in_table (tree_of pass).nodes (tree_of pass).spine ≡ false → footnote_head_at (context_in pass) p ≡ None

-- If a footnote definition begins at a place, it is open, and the front is as before. Otherwise nothing changed (this
-- project).
abbrev pub TriesFootnote : BlockPass → BlockPass → Place → Place → Bool → Type 0
TriesFootnote old new p q false = StaysSame old new × (q ≡ p) × NoHead old p
TriesFootnote old new p q true =
    IsNotBefore (source_text old) p q × (length q.rest.left < length p.rest.left) × (front_of new ≡ front_of old) × FinishesNothing (state_of new)
    × ((line : ℕ) → line ≤ p.line → PassesTo (source_of old) line old new (InLine p) (InLine q))
