-- The delimiter row of a table, and the number of columns of its header row (GFM 4.10).
use Rattle.std.specs.Prelude.{ℕ, ◌+◌, ◌-◌, ◌==◌, ◌&&◌, not, Bool, true, false, nat_le, nat_lt, List, [], ◌∷◌, length, map, take, drop, Option, Some, None}
use Rattle.std.specs.Prelude.{if◌then◌else◌}
use Rattle.std.specs.Option.{option_map, option_map_or}
use Rattle.std.specs.List.{prefix_len, suffix_len, take_while, list_any, slice_split}
use Rattle.first_pass_items.specs.Bytes.{hyphen, colon, backslash, pipe}
use Rattle.first_pass_items.specs.declared.item.Alignment.{Alignment}
use Rattle.first_pass_items.specs.declared.item.Alignment.TheVariants.{None as Unaligned, Left, Center, Right}
use Rattle.first_pass_lines.specs.Lines.{is_content, is_white, is_space_or_tab, begins, is_blank_line, line_len, ends}
use Rattle.first_pass_scan.specs.LeafLines.{run_len}
use Rattle.first_pass_lines.specs.Rest.{Rest, indent, after_columns, columns_of}

-- a pipe (GFM 4.10)
abbrev pub is_pipe : ℕ → Bool
is_pipe b = b == pipe

-- the bytes without leading and trailing spaces and tabs (CommonMark 2.1)
unfoldable pub stripped : List ℕ → List ℕ
stripped bs = let s = drop (prefix_len is_space_or_tab bs) bs in take (length s - suffix_len is_space_or_tab s) s

-- the bytes without the first one, if that is c, which is not 0 (this project)
abbrev pub without_first : ℕ → List ℕ → List ℕ
without_first c bs = if begins c bs then drop 1 bs else bs

-- the bytes without the last one, if that is c, which is not 0 (this project)
abbrev pub without_last : ℕ → List ℕ → List ℕ
without_last c bs = if ends c bs then take (length bs - 1) bs else bs

-- the alignment of a column, from the colons before and after its hyphens (GFM 4.10)
abbrev pub alignment_by : Bool → Bool → Alignment
alignment_by false false = Unaligned
alignment_by true false = Left
alignment_by true true = Center
alignment_by false true = Right

-- one or more hyphens, and nothing else (GFM 4.10)
abbrev pub is_hyphens : List ℕ → Bool
is_hyphens bs = nat_le 1 (length bs) && (run_len hyphen bs == length bs)

-- the alignment of a delimiter cell: hyphens with an optional colon at each end, between optional spaces and tabs
-- (GFM 4.10)
unfoldable pub delimiter_cell : List ℕ → Option Alignment
delimiter_cell bs =
    let cell = stripped bs in
    let tail = without_first colon cell in
    if is_hyphens (without_last colon tail) then Some (alignment_by (begins colon cell) (ends colon tail)) else None

-- all the values, if none is missing (this project)
abbrev pub each_of : List (Option Alignment) → Option (List Alignment)
each_of [] = Some []
each_of (None ∷ os) = None
each_of (Some x ∷ os) = option_map (λ xs. x ∷ xs) (each_of os)

-- the alignments of the cells between the pipes of these bytes, if each is a delimiter cell (GFM 4.10)
unfoldable pub delimiter_cells : List ℕ → Option (List Alignment)
delimiter_cells bs = each_of (map delimiter_cell (slice_split is_pipe bs))

-- The alignments of the line that begins here, if it is a delimiter row. Such a row contains a pipe, and its
-- indentation is at most three columns. One pipe at each end is optional (GFM 4.10).
unfoldable pub delimiter_row : List ℕ → Option (List Alignment)
delimiter_row bs =
    let row = stripped (take_while is_content bs) in
    if nat_le (columns_of bs 0) 3 && list_any is_pipe row then delimiter_cells (without_last pipe (without_first pipe row)) else None

-- the length of the delimiter row that begins here, with its line ending, and its alignments; 0 and none if there is
-- no such row (GFM 4.10)
unfoldable pub table_head : List ℕ → ℕ × List Alignment
table_head bs = option_map_or (λ columns. (line_len bs, columns)) (delimiter_row bs) (0, [])

-- the number of pipes not directly after a backslash in bytes that follow the byte b (GFM 4.10)
abbrev pub pipes_after : ℕ → List ℕ → ℕ
pipes_after b [] = 0
pipes_after b (c ∷ cs) = (if is_pipe c && not (b == backslash) then 1 else 0) + pipes_after c cs

-- the number of pipes not directly after a backslash (GFM 4.10)
abbrev pub pipes_of : List ℕ → ℕ
pipes_of bs = pipes_after 0 bs

-- The number of columns of a header row, given the number of its pipes and the offset of the last one. A pipe that
-- begins the row after white space does not count. If the rest of the line after the last pipe is not blank, it is one
-- more column (GFM 4.10).
abbrev pub columns_by_pipes : ℕ → List ℕ → ℕ → ℕ
columns_by_pipes pipes bs last =
    pipes - (if begins pipe (drop (prefix_len is_white bs) bs) then 1 else 0) + (if is_blank_line (drop (last + 1) bs) then 0 else 1)

-- the number of columns of a header row, given the offset of its last pipe (GFM 4.10)
abbrev pub header_columns : List ℕ → ℕ → ℕ
header_columns bs last = columns_by_pipes (pipes_of (take (last + 1) bs)) bs last

-- the offset of the last pipe not directly after a backslash in bytes that follow the byte b, if there is one (GFM
-- 4.10)
abbrev pub last_pipe_after : ℕ → List ℕ → Option ℕ
last_pipe_after b [] = None
last_pipe_after b (c ∷ cs) =
    option_map_or (λ k. Some (k + 1)) (last_pipe_after c cs) (if is_pipe c && not (b == backslash) then Some 0 else None)

-- the number of columns of the line that begins here, as a header row; 0 if it has no pipe except after backslashes
-- (GFM 4.10)
unfoldable pub head_columns : List ℕ → ℕ
head_columns bs = option_map_or (header_columns bs) (last_pipe_after 0 (take_while is_content bs)) 0

-- the alignments of the rest of a line, if it is a delimiter row after an indentation of at most three columns
-- (GFM 4.10)
unfoldable pub delimiter_row_of : Rest → Option (List Alignment)
delimiter_row_of r = if nat_lt (indent r) 4 then delimiter_row (after_columns (indent r) r).left else None
