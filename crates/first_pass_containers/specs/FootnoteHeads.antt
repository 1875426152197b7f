-- The mark of a footnote definition at a place, and where blocks continue after its head.
use Rattle.std.specs.Prelude.{◌≡◌, ℕ, ◌+◌, ◌≤◌, ◌&&◌, nat_lt, Bool, true, false, List, length, drop, Option, Some, None, IsCharBoundary, if◌then◌else◌}
use Rattle.std.specs.List.{prefix_len}
use Rattle.std.specs.Option.{unwrap_or}
use Rattle.first_pass_items.specs.declared.option_set.Options.{Options}
use Rattle.first_pass_items.specs.OptionWords.{has, footnotes, gfm_footnotes}
use Rattle.first_pass_lines.specs.Lines.{is_white, blank_len}
use Rattle.first_pass_lines.specs.Rest.{indent}
use Rattle.first_pass_lines.specs.Places.{Place, offset, line_place, line_end, IsPlaceOf}
use Rattle.first_pass_links.specs.Footnotes.{begins_footnote_mark}
use Rattle.first_pass_grammar.specs.Kinds.{unindented}
use Rattle.first_pass_grammar.specs.Completion.{lines_from}
use Rattle.first_pass_grammar.specs.Footnotes.{past_head}
use Rattle.first_pass_open.specs.declared.source.Source.{Source}

-- the offset of `[^` at a place, if the indentation is under four columns and the options include footnotes
-- (this project)
abbrev pub footnote_mark_at : Options → Place → Option ℕ
footnote_mark_at options p =
    if has options footnotes && (nat_lt (indent p.rest) 4 && begins_footnote_mark (unindented p).rest.left) then Some (offset (unindented p)) else None

-- the length of a head, given its length up to after the colon and the bytes after that; in GitHub's form it includes
-- the white space there (this project)
abbrev pub head_read : Bool → ℕ → List ℕ → ℕ
head_read true n bs = n + prefix_len is_white bs
head_read false n bs = n

-- the length of a blank rest after a head, with its line ending, if anything follows it; otherwise 0 (this project)
abbrev pub blank_before_more : List ℕ → ℕ
blank_before_more bs = if nat_lt (unwrap_or (blank_len bs) 0) (length bs) then unwrap_or (blank_len bs) 0 else 0

-- the place at the end of a head (this project)
abbrev pub head_end : List ℕ → ℕ → Place
head_end text «end» = line_place «end» (drop «end» text)

-- the place where blocks continue after a head that ends at an offset, and the lines after that place (this project)
abbrev pub after_head : Bool → List ℕ → ℕ → Place × List Place
after_head true text «end» = (head_end text «end», lines_from text (line_end (head_end text «end»)))
after_head false text «end» = past_head false (head_end text «end») (lines_from text (line_end (head_end text «end»)))

-- Blocks continue at a place after a head that ends at an offset in a source. The line of that place does not begin
-- before the end of the head (this project).
pub record IsAfterHead (over : Source) («end» : ℕ) (q : Place) : Type 0 where
  pub place : IsPlaceOf over.text.now q
  pub boundary : IsCharBoundary over.text.now q.line
  pub later : «end» ≤ q.line
  pub ends : line_end (head_end over.text.now «end») ≤ line_end q
  pub there : (q, lines_from over.text.now (line_end q)) ≡ after_head (gfm_footnotes over.options) over.text.now «end»
