-- Link reference definitions that are read (only private functions cite this).
use Rattle.std.specs.Prelude.{◌≡◌, ◌⊎◌, ◌≤◌, ℕ, Bool, false, List, IsCharBoundary}
use Rattle.first_pass_lines.specs.Places.{Place, offset, line_end, IsPlaceOf}
use Rattle.first_pass_grammar.specs.Containers.{Context}
use Rattle.first_pass_grammar.specs.Derivation.{Tables, with_definitions}
use Rattle.first_pass_grammar.specs.LinkTables.{LinkEntry}
use Rattle.first_pass_grammar.specs.LinkRuns.{Beyond, Ended, FlowsOn, IsRun}
use Rattle.first_pass_grammar.specs.Completion.{lines_from}
use Rattle.first_pass_blocks.specs.declared.definition.RunEnd.{RunEnd}
use Rattle.first_pass_blocks.specs.declared.definition.RunEnd.TheVariants.{NextLine, Paragraph}
use Rattle.first_pass_tree.specs.Forest.{in_table}
use Rattle.first_pass_names.specs.declared.items.Allocations.{Allocations}
use Rattle.first_pass_names.specs.TableEntries.{footdefs_of, names_of, tables_of}
use Rattle.first_pass_open.specs.declared.source.Source.{Source}
use Rattle.first_pass_kinds.specs.declared.next_front.NextFront.{NextFront}
use Rattle.first_pass_lists.specs.declared.state.PassState.{PassState}
use Rattle.first_pass_blocks.specs.Written.{TablesAreWritten}
use Rattle.first_pass_blocks.specs.declared.state.BlockPass.{BlockPass}
use Rattle.first_pass_blocks.specs.Views.{allocs_of, context_in, front_of, state_of, source_of, source_text, tree_of}

-- a place is not before another in the same line, or is in a later line (this project)
abbrev pub IsLater : List ℕ → Place → Place → Type 0
IsLater text p q = ((q.line ≡ p.line) × (offset p ≤ offset q)) ⊎ ((line_end p ≤ q.line) × IsCharBoundary text q.line)

-- what follows the definitions, given the place of the last of them or of the paragraph text after them (CommonMark 4.7)
abbrev pub beyond_of : List ℕ → Place → RunEnd → Beyond
beyond_of text q (NextLine line next) = Ended q (lines_from text next)
beyond_of text q (Paragraph at) = FlowsOn q (lines_from text (line_end q))

-- the call returns the start of the last definition's line and of the next line; or the start of the paragraph text
-- (CommonMark 4.7)
abbrev pub IsRunEnd : List ℕ → Place → RunEnd → Type 0
IsRunEnd text q (NextLine line next) = (line ≡ q.line) × (line_end q ≤ next) × IsCharBoundary text next
IsRunEnd text q (Paragraph at) = at ≡ offset q

-- All link reference definitions from a place on are read, and the tables have what they define (CommonMark 4.7).
pub record ReadsRun (text : List ℕ) (around : Context) (nested : Bool) (p : Place) (before now : Tables) (following : RunEnd) : Type 0 where
  pub place : Place
  pub stands : IsPlaceOf text place
  pub later : IsLater text p place
  pub ends : line_end p ≤ line_end place
  pub says : IsRunEnd text place following
  pub definitions : List LinkEntry
  pub defined : nested ≡ false → now ≡ with_definitions before definitions
  pub run : nested ≡ false → IsRun around p (lines_from text (line_end p)) definitions (beyond_of text place following)

-- a pass without the results of its searches for metadata: its source, front of the next line, state and tables (this
-- project)
pub record PassParts : Type 0 where
  pub source : Source
  pub front : NextFront
  pub state : PassState
  pub allocs : Allocations

-- Link reference definitions were put into the table of links, and nothing else changed. If the entries of the tables
-- were written in the text, they still are (this project).
pub record PutsParts (old new : PassParts) : Type 0 where
  pub source : new.source ≡ old.source
  pub front : new.front ≡ old.front
  pub state : new.state ≡ old.state
  pub names : names_of new.allocs ≡ names_of old.allocs
  pub footnotes : footdefs_of new.allocs ≡ footdefs_of old.allocs
  pub written : TablesAreWritten old.source.text.now old.allocs → TablesAreWritten old.source.text.now new.allocs

-- the same for two passes (this project)
abbrev pub PutsDefinitions : BlockPass → BlockPass → Type 0
PutsDefinitions old new =
    let parts : BlockPass → PassParts = λ p. record { source = source_of p; front = front_of p; state = state_of p; allocs = allocs_of p } in
    PutsParts (parts old) (parts new)

-- All link reference definitions from the offset `at` on, in the line at `line`, are read and put into the pass's table
-- (CommonMark 4.7).
pub record ReadsDefinitions (old new : BlockPass) (line at : ℕ) (following : RunEnd) : Type 0 where
  pub kept : PutsDefinitions old new
  pub run : (p : Place) → p.line ≡ line → offset p ≡ at → IsPlaceOf (source_text old) p
      → ReadsRun (source_text old) (context_in old) (in_table (tree_of old).nodes (tree_of old).spine) p (tables_of (allocs_of old)) (tables_of (allocs_of new))
      following
