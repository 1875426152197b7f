-- What reading one line, or one cell of a table row, adds to a pass.
use Rattle.std.specs.Prelude.{◌≡◌, ℕ, ◌+◌, ◌≤◌, Bool, true, false, List, length, drop, Option, Some, None, IfSome, MatchOption, IsUtf8}
use Rattle.std.specs.List.{prefix_len}
use Rattle.first_pass_items.specs.declared.item.Alignment.{Alignment}
use Rattle.first_pass_items.specs.declared.item.AlignmentIndex.{AlignmentIndex}
use Rattle.first_pass_items.specs.declared.item.Item.{Item}
use Rattle.first_pass_items.specs.declared.item.ItemBody.TheVariants.{Table}
use Rattle.first_pass_lines.specs.Lines.{is_content}
use Rattle.first_pass_tokens.specs.Pieces.{Inline, text_upto}
use Rattle.first_pass_tokens.specs.LineTokens.{EndsLine, EndsCell}
use Rattle.first_pass_tokens.specs.TreeTokens.{AppendsLine, AppendsCell}
use Rattle.first_pass_grammar.specs.TableHeads.{headed_table}
use Rattle.first_pass_walk.specs.declared.flank.TableParseMode.{TableParseMode}
use Rattle.first_pass_walk.specs.declared.flank.TableParseMode.TheVariants.{Scan, Active, Disabled}
use Rattle.first_pass_names.specs.TableEntries.{names_of, with_alignments, AddsTexts}
use Rattle.first_pass_open.specs.Between.{line_end_at}
use Rattle.first_pass.specs.declared.state.FirstPass.{FirstPass}
use Rattle.first_pass.specs.Views.{allocs_of, braces_of, context_in, source_options, source_text, tree_of}

-- content may begin at `start`, of a text that is cut at `end` (this project)
abbrev pub CanBeRead : List ℕ → ℕ → Option ℕ → Type 0
CanBeRead text start end = (start ≤ length text) × IfSome end (λ e. (start ≤ e) × (e ≤ length text))

-- the content of a line or cell from `start`, of a text that is cut at `end`, under the brace contexts of the pass
abbrev pub content_upto : FirstPass → ℕ → Option ℕ → Bool → Inline
content_upto pass start end row = record {
  options = source_options pass;
  whole = source_text pass;
  text = text_upto (source_text pass) end;
  start = start;
  row = row;
  braces = braces_of pass;
}

-- the tokens of the line are appended and the texts that they name are added; the call returns the end of the line and
-- its line break (CommonMark 2.4, 2.5, 6.7, 6.8)
pub record ReadsLine (old new : FirstPass) (start : ℕ) (end : Option ℕ) (answer : ℕ × Option Item) : Type 0 where
  pub line : AppendsLine (names_of (allocs_of new)).texts (content_upto old start end false) (tree_of old) (tree_of new) answer (braces_of new)
  pub ends : EndsLine (content_upto old start end false) answer
  pub names : AddsTexts (names_of (allocs_of new)) (names_of (allocs_of old))

-- the text is UTF-8, and content from `start` to `stop` is within it, also if it is cut at `end` (this project)
pub record ContentReachesTo (text : List ℕ) (start : ℕ) (end : Option ℕ) (stop : ℕ) : Type 0 where
  pub utf8 : IsUtf8 text
  pub later : start ≤ stop
  pub within : stop ≤ length (text_upto text end)

-- the tokens of the cell are appended and the texts that they name are added; the call returns the end of the cell's
-- content (GFM 4.10)
pub record ReadsCell (old new : FirstPass) (start : ℕ) (end : Option ℕ) (stop : ℕ) : Type 0 where
  pub cell : AppendsCell (names_of (allocs_of new)).texts (content_upto old start end true) (tree_of old) (tree_of new) stop (braces_of new)
  pub ends : EndsCell (content_upto old start end true) stop
  pub names : AddsTexts (names_of (allocs_of new)) (names_of (allocs_of old))

-- a table's node, from the end of the header row's content to the end of the delimiter row (GFM 4.10)
abbrev pub table_between : List ℕ → ℕ → AlignmentIndex → Item
table_between text start ix =
    record { start = start + prefix_len is_content (drop start text); «end» = line_end_at text (line_end_at text start); body = Table ix }

-- The tokens of a table's header row are appended like those of a line. The alignments of its columns and the texts of
-- its tokens are named. The call returns the end of the delimiter row, and the table (GFM 4.10).
pub record ReadsHead (old new : FirstPass) (start : ℕ) (end : Option ℕ) (alignments : List Alignment) (answer : ℕ × Option Item) : Type 0 where
  pub index : AlignmentIndex
  pub index_is : index.0 ≡ length (names_of (allocs_of old)).alignments
  pub names : AddsTexts (names_of (allocs_of new)) (with_alignments (names_of (allocs_of old)) alignments)
  pub line_answer : ℕ × Option Item
  pub line : AppendsLine (names_of (allocs_of new)).texts (content_upto old start end false) (tree_of old) (tree_of new) line_answer (braces_of new)
  pub answer_is : answer
      ≡ ((table_between (text_upto (source_text old) end) start index).«end», Some (table_between (text_upto (source_text old) end) start index))

-- a line is read; it may be the header row of a table (GFM 4.10)
abbrev pub ReadsPossibleHead : FirstPass → FirstPass → ℕ → Option ℕ → ℕ × Option Item → Type 0
ReadsPossibleHead old new start end answer =
    MatchOption (headed_table (context_in old) (drop start (text_upto (source_text old) end)))
    (ReadsLine old new start end answer) (λ alignments. ReadsHead old new start end alignments answer)

-- A line, a cell of a row, or a possible header row is read, depending on the mode (CommonMark 2.4, GFM 4.10).
abbrev pub ReadsInMode : TableParseMode → FirstPass → FirstPass → ℕ → Option ℕ → ℕ × Option Item → Type 0
ReadsInMode Disabled old new start end answer = ReadsLine old new start end answer
ReadsInMode Active old new start end answer = ReadsCell old new start end answer.0 × (answer.1 ≡ None)
ReadsInMode Scan old new start end answer = ReadsPossibleHead old new start end answer
