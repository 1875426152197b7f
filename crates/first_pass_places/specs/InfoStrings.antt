-- Where the info string of a fenced code block is written (CommonMark 4.5).
use Rattle.std.specs.Prelude.{ℕ, ◌+◌, List, length, drop, slice_index}
use Rattle.std.specs.List.{prefix_len, slice_range}
use Rattle.std.specs.declared.ops.Range.{Range}
use Rattle.first_pass_lines.specs.Lines.{is_white}
use Rattle.first_pass_scan.specs.LeafLines.{run_len}
use Rattle.first_pass_grammar.specs.CodeBlocks.{info_string}

-- the bytes of a text in a range (this project)
abbrev pub bytes_in : List ℕ → Range ℕ → List ℕ
bytes_in text range = slice_range text range.start range.«end»

-- the end of the code fence that begins at an offset: the fence is the run of the byte there (CommonMark 4.5)
abbrev pub fence_end : List ℕ → ℕ → ℕ
fence_end text start = start + run_len (slice_index (drop start text) 0) (drop start text)

-- the start of the info string of that fence, after the white space (CommonMark 4.5)
abbrev pub info_start : List ℕ → ℕ → ℕ
info_start text start = fence_end text start + prefix_len is_white (drop (fence_end text start) text)

-- the range of the info string of the code fence that begins at an offset (CommonMark 4.5)
unfoldable pub info_range : List ℕ → ℕ → Range ℕ
info_range text start = record {
  start = info_start text start;
  «end» = info_start text start + length (info_string (drop (fence_end text start) text));
}
