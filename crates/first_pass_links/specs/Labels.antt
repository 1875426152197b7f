-- Link labels (CommonMark 6.3). Here an argument `text` has the bytes from an offset up to the end of the text;
-- `label_at` takes those after a `[`.
use Rattle.std.specs.Prelude.{◌≡◌, ◌≢◌, ◌⊎◌, ℕ, zero, suc, ◌+◌, ◌==◌, ◌&&◌, ◌||◌, not, Bool, List, [], ◌∷◌, ◌++◌, map, take, drop, slice_index, Option, Some, None}
use Rattle.std.specs.Prelude.{Ok, Err, Result, length, true, ◌<◌, IsUtf8, nat_lt, nat_le, if◌then◌else◌, IsSomeAnd, MatchOption}
use Rattle.std.specs.Option.{option_map_or}
use Rattle.std.specs.List.{list_any, count_by}
use Rattle.std.specs.Borrow.{Bor}
use Rattle.std.specs.Str.{IsCharBoundary}
use Rattle.std.specs.declared.alloc.AllocError.{AllocError}
use Rattle.first_pass_items.specs.declared.cow_str.CowStr.{CowStr}
use Rattle.first_pass_items.specs.CowText.{text_of}
use Rattle.first_pass_items.specs.Bytes.{space, left_bracket, right_bracket, ascii_end, least_lead}
use Rattle.first_pass_lines.specs.Lines.{begins, is_white_or_line_end, is_line_end, ends_line}
use Rattle.first_pass_links.specs.Escapes.{read_in}
use Rattle.first_pass_links.specs.Destinations.{unescaped_upto}

-- On the bytes from any character of the text on, the handler of line endings fails, or returns what `prefix` gives for
-- them. That is the length of the next line's prefix, or `None` if the label may not continue there (this project).
abbrev pub AnswersWith : List ℕ → (List ℕ → Option ℕ) → (Bor (List ℕ) → Result (Option ℕ) AllocError → Type 0) → Type 0
AnswersWith text prefix post =
    (following : Bor (List ℕ)) (answer : Option ℕ) (at : ℕ) → IsCharBoundary text at → following.now ≡ drop at text → post following (Ok answer)
    → prefix following.now ≡ answer

-- a prefix that the handler returns is within the rest of the text, and ends between characters (this project)
abbrev pub AnswersPlaces : List ℕ → (Bor (List ℕ) → Result (Option ℕ) AllocError → Type 0) → Type 0
AnswersPlaces text post =
    (following : Bor (List ℕ)) (n at : ℕ) → IsCharBoundary text at → following.now ≡ drop at text → post following (Ok (Some n)) → IsUtf8 following.now
    → IsCharBoundary following.now n

-- an opening or closing square bracket (CommonMark 6.3)
abbrev pub is_bracket : ℕ → Bool
is_bracket b = b == left_bracket || b == right_bracket

-- the first byte of a character in UTF-8 (this project)
abbrev pub begins_character : ℕ → Bool
begins_character b = nat_lt b ascii_end || nat_le least_lead b

-- The text from the offset `at` on, with its lines joined: each byte with its offset, without the first n bytes and
-- without the prefixes of lines. It ends at a line ending after which the label may not continue (CommonMark 6.3).
unfoldable pub joined : (List ℕ → Option ℕ) → ℕ → ℕ → List ℕ → List (ℕ × ℕ)
joined prefix at n [] = []
joined prefix at (suc n) (b ∷ bs) = joined prefix (at + 1) n bs
joined prefix at zero (b ∷ bs) =
    if ends_line b bs
    then option_map_or (λ n. (at, b) ∷ joined prefix (at + 1) n bs) (prefix bs) []
    else (at, b) ∷ joined prefix (at + 1) 0 bs

-- the bytes without their offsets (this project)
abbrev pub bytes_of : List (ℕ × ℕ) → List ℕ
bytes_of cs = map (λ c. c.1) cs

-- the offsets of the bytes (this project)
abbrev pub offsets_of : List (ℕ × ℕ) → List ℕ
offsets_of cs = map (λ c. c.0) cs

-- a byte that ends a label without a line ending: a bracket, or a byte of a line ending (CommonMark 6.3)
abbrev pub ends_line_label : ℕ → Bool
ends_line_label b = is_bracket b || is_line_end b

-- the number of bytes before the first bracket that is not escaped (CommonMark 6.3)
abbrev pub label_len : List ℕ → ℕ
label_len bs = unescaped_upto is_bracket 0 bs

-- each run of white space and line endings as one space (CommonMark 6.3), at both ends too (this project; CommonMark
-- 6.3 drops it there)
unfoldable pub single_spaced : List ℕ → List ℕ
single_spaced [] = []
single_spaced (b ∷ bs) =
    if is_white_or_line_end b then (if is_white_or_line_end (slice_index bs 0) then single_spaced bs else space ∷ single_spaced bs) else b ∷ single_spaced bs

-- a label as it is read: each run of white space and line endings is one space; in a table, backslashes before pipes
-- are dropped (CommonMark 6.3, GFM 4.10)
abbrev pub as_read : Bool → List ℕ → List ℕ
as_read in_table bs = single_spaced (read_in in_table bs)

-- a label has at most 999 characters, and at least one of them is neither white space nor part of a line ending
-- (CommonMark 6.3)
abbrev pub is_label : List ℕ → Bool
is_label bs = nat_le (count_by begins_character bs) 999 && list_any (λ b. not (is_white_or_line_end b)) bs

-- The label after a `[`: the joined text before the first unescaped bracket, if that bracket is a `]` and `is_label`
-- holds for this text. The result is the offset after the `]`, and the label as it is read (CommonMark 6.3).
unfoldable pub label_at : (List ℕ → Option ℕ) → Bool → List ℕ → Option (ℕ × List ℕ)
label_at prefix in_table text =
    let whole = joined prefix 0 0 text in
    let n = label_len (bytes_of whole) in
    let label = take n (bytes_of whole) in
    if begins right_bracket (drop n (bytes_of whole)) && is_label label
    then Some (slice_index (offsets_of whole) n + 1, as_read in_table label)
    else None

-- the source of a label: the joined text before the first bracket that is not escaped, or all of it if there is none
-- (CommonMark 6.3)
abbrev pub before_bracket : (List ℕ → Option ℕ) → List ℕ → List ℕ
before_bracket prefix text = let bs = bytes_of (joined prefix 0 0 text) in take (label_len bs) bs

-- The label as it is read differs from its source. The source has a line ending, white space other than single spaces,
-- or in a table a backslash before a pipe (CommonMark 6.3).
abbrev pub IsRewritten : (List ℕ → Option ℕ) → Bool → List ℕ → Type 0
IsRewritten prefix in_table text = as_read in_table (before_bracket prefix text) ≢ before_bracket prefix text

-- the joined text has no unescaped bracket (CommonMark 6.3)
abbrev pub HasNoBracket : (List ℕ → Option ℕ) → List ℕ → Type 0
HasNoBracket prefix text = let bs = bytes_of (joined prefix 0 0 text) in label_len bs ≡ length bs

-- the byte at the offset `at` ends a line, and the handler may return this result for the bytes after it (this project)
pub record ReturnsAfter (text : List ℕ) (at : ℕ) (result : Result (Option ℕ) AllocError) (post : Bor (List ℕ) → Result (Option ℕ) AllocError → Type 0)
    : Type 0 where
  pub within : at < length text
  pub line_end : ends_line (slice_index text at) (drop (at + 1) text) ≡ true
  pub boundary : IsCharBoundary text (at + 1)
  pub following : Bor (List ℕ)
  pub past_is : following.now ≡ drop (at + 1) text
  pub returns : post following result

-- the byte at the offset `at` ends a line, and the handler may fail on the bytes after it (this project)
abbrev pub ErrsAfter : List ℕ → ℕ → (Bor (List ℕ) → Result (Option ℕ) AllocError → Type 0) → Type 0
ErrsAfter text at post = (error : AllocError) × ReturnsAfter text at (Err error) post

-- the prefixes of lines if the label continues directly after the line ending at `at` (this project)
abbrev pub continuing_at : List ℕ → ℕ → (List ℕ → Option ℕ) → List ℕ → Option ℕ
continuing_at text at prefix bs = if length bs == length (drop (at + 1) text) then Some 0 else prefix bs

-- The label extends up to a line ending after which the handler may fail: if the label continues there, the joined text
-- has some bytes, and then this line ending and what is joined after it (this project).
pub record ErrsInLabel (prefix : List ℕ → Option ℕ) (text : List ℕ) (post : Bor (List ℕ) → Result (Option ℕ) AllocError → Type 0) : Type 0 where
  pub at : ℕ
  pub before : List (ℕ × ℕ)
  pub joins : joined (continuing_at text at prefix) 0 0 text ≡ before ++ joined (continuing_at text at prefix) at 0 (drop at text)
  pub errs : ErrsAfter text at post

-- Reading a label may fail in two cases. Its source changes as it is read; or the joined text has no unescaped bracket,
-- and the handler may fail after a line ending to which the label extends (this project).
abbrev pub CanErr : (List ℕ → Option ℕ) → Bool → List ℕ → (Bor (List ℕ) → Result (Option ℕ) AllocError → Type 0) → Type 0
CanErr prefix in_table text post = IsRewritten prefix in_table text ⊎ (HasNoBracket prefix text × ErrsInLabel prefix text post)

-- The result is the label under these prefixes, with the offset after its `]`. It is none exactly if there is no label
-- under them (CommonMark 6.3).
abbrev pub IsLabelUnder : (List ℕ → Option ℕ) → Bool → List ℕ → Option (ℕ × CowStr) → Type 0
IsLabelUnder prefix in_table text answer =
    MatchOption (label_at prefix in_table text) (answer ≡ None) (λ label. IsSomeAnd answer (λ found. (found.0 ≡ label.0) × (text_of found.1 ≡ label.1)))

-- The result is the label under answers that the handler may give, which need not be the same for the same bytes.
-- `asked` holds at some line endings, and `prefix` gives what the handler may return after each of these. They decide
-- the label: each other prefix with these answers gives the same one (this project).
pub record ReadsLabel (text : List ℕ) (in_table : Bool) (post : Bor (List ℕ) → Result (Option ℕ) AllocError → Type 0) (answer : Option (ℕ × CowStr))
    : Type 0 where
  pub asked : ℕ → Bool
  pub prefix : List ℕ → Option ℕ
  pub allowed : (at : ℕ) → asked at ≡ true → ReturnsAfter text at (Ok (prefix (drop (at + 1) text))) post
  pub label : IsLabelUnder prefix in_table text answer
  pub enough : (other : List ℕ → Option ℕ) → ((at : ℕ) → asked at ≡ true → other (drop (at + 1) text) ≡ prefix (drop (at + 1) text))
      → label_at other in_table text ≡ label_at prefix in_table text

-- Reading a label may fail under answers that the handler may give, which need not be the same for the same bytes.
-- `asked` holds at some line endings, and `prefix` gives what the handler may return after each of these. They decide
-- that it may fail: it may under each other prefix with these answers (this project).
pub record FailsOnLabel (text : List ℕ) (in_table : Bool) (post : Bor (List ℕ) → Result (Option ℕ) AllocError → Type 0) : Type 0 where
  pub asked : ℕ → Bool
  pub prefix : List ℕ → Option ℕ
  pub allowed : (at : ℕ) → asked at ≡ true → ReturnsAfter text at (Ok (prefix (drop (at + 1) text))) post
  pub fails : (other : List ℕ → Option ℕ) → ((at : ℕ) → asked at ≡ true → other (drop (at + 1) text) ≡ prefix (drop (at + 1) text))
      → CanErr other in_table text post
