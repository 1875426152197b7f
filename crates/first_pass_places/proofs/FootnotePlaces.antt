-- The label of a footnote definition ends at the first bracket of the text that is not escaped: the prefixes of lines
-- have no bracket and no backslash. The label that the definition names is read from its range.
use Rattle.std.proofs.Common.{◌≡◌, ℕ, zero, suc, ◌+◌, ◌==◌, ◌&&◌, Bool, true, false, List, [], ◌∷◌, length, take, drop, slice_index, Option, Some, None, refl}
use Rattle.std.proofs.Common.{sym, ap, subst, ◌∙◌, arith, true≢false, ◌-◌, ◌≤◌, nat_lt, min, drop-drop, option_and_then, length-drop}
use Rattle.first_pass_grammar.proofs.Common.{option_map_or, and_left, and_parts, and_right, cond_both, nat_tests, same_Some, take-append_seam, backslash}
use Rattle.first_pass_grammar.proofs.Common.{right_bracket, begins, ends_line, Rest, after_columns, line_rest, some_if, some_unless, some_mapped}
use Rattle.first_pass_grammar.proofs.Common.{begins_escape, is_bracket, joined, bytes_of, offsets_of, label_len, label_at, Context, front, crossed}
use Rattle.first_pass_grammar.proofs.Common.{prefix_crossed, none-some, left_bracket, circumflex, colon, has, footnotes, gfm_footnotes, CowIndex, Place}
use Rattle.first_pass_grammar.proofs.Common.{offset, indent, begins_footnote_mark, head_after, footnote_head, footnote_prefix, footnote_at, footnote_head_at}
use Rattle.first_pass_grammar.proofs.Common.{label_bytes, NamesLabel, unindented, Document, around}
use Rattle.std.specs.List.{list_all}
use Rattle.std.specs.Char.{is_ascii_punctuation}
use Rattle.first_pass_links.specs.Labels.{is_label, as_read}
use Rattle.first_pass_links.proofs.Destinations.{by_units, upto-nil, upto-stop, upto-byte, upto-escape}
use Rattle.first_pass_links.proofs.Labels.{joined_fails}
use Rattle.first_pass_grammar.proofs.Sequences.PrefixBytes.{is_prefix_byte, Skips, line_skips}
use Rattle.std.proofs.Math.Nat.{min-eq_right}
use Rattle.first_pass_grammar.specs.declared.kind.Container.{Container}
use Rattle.first_pass_places.specs.AttributePlaces.{range_of}
use Rattle.first_pass_places.specs.FootnoteLabels.{label_range}
use Rattle.first_pass_places.specs.NamePlaces.{NamesLabelAt}

-- a prefix that is left out of a label has only prefix bytes
abbrev pub IsPlainPrefix : (List ℕ → Option ℕ) → Type 0
IsPlainPrefix prefix = (bs : List ℕ) (n : ℕ) → prefix bs ≡ Some n → list_all is_prefix_byte (take n bs) ≡ true

-- the place of a bracket that ends a label, among the bytes of the joined text
abbrev IsEndAt : ℕ → List (ℕ × ℕ) → ℕ → Type 0
IsEndAt at whole n =
    let i : ℕ = label_len (bytes_of whole) in begins right_bracket (drop i (bytes_of whole)) ≡ true → slice_index (offsets_of whole) i ≡ at + n

-- a byte further
further : (at b : ℕ) (bs : List ℕ) (whole : List (ℕ × ℕ)) → begins_escape (b ∷ bs) ≡ false → begins_escape (b ∷ bytes_of whole) ≡ false
    → is_bracket b ≡ false → IsEndAt (at + 1) whole (label_len bs) → IsEndAt at ((at, b) ∷ whole) (label_len (b ∷ bs))
further at b bs whole e f s is ends =
    let i : ℕ = label_len (bytes_of whole) in
    let past : label_len (bytes_of ((at, b) ∷ whole)) ≡ suc i = upto-byte is_bracket b (bytes_of whole) f s ∙ omega arith in
    let same = upto-byte is_bracket b bs e s in
    ap (slice_index (offsets_of ((at, b) ∷ whole))) past
    ∙ is (ap (λ k. begins right_bracket (drop k (bytes_of ((at, b) ∷ whole)))) (sym past) ∙ ends) ∙ omega (arith, same)

-- the joined text is empty
nowhere : (at n : ℕ) → IsEndAt at [] n
nowhere at n ends = absurd (true≢false (sym (rw (upto-nil is_bracket) at ends)))

-- a byte of a container's prefix is no bracket
prefix_byte : (b : ℕ) → is_prefix_byte b ≡ true → is_bracket b ≡ false
prefix_byte b h = grind (arith, nat_tests, h)

-- a byte that ends a line is no backslash and no bracket
line_byte : (b : ℕ) (bs : List ℕ) → ends_line b bs ≡ true → ((b == backslash) ≡ false) × (is_bracket b ≡ false)
line_byte b bs h = (grind (arith, nat_tests, h), grind (arith, nat_tests, h))

-- a bracket is no backslash
pub bracket_byte : (b : ℕ) → is_bracket b ≡ true → (b == backslash) ≡ false
bracket_byte b h = grind (arith, nat_tests, h)

-- the bytes of an escape end no line, and its backslash is no byte of a prefix
escape_byte : (b c : ℕ) (bs : List ℕ) → begins_escape (b ∷ c ∷ bs) ≡ true
    → (ends_line b (c ∷ bs) ≡ false) × (ends_line c bs ≡ false) × (is_prefix_byte b ≡ false)
escape_byte b c bs h = (grind (arith, nat_tests, h), grind (arith, nat_tests, h), grind (arith, nat_tests, h))

module _ (prefix : List ℕ → Option ℕ) (plain : IsPlainPrefix prefix) where
  -- no escape begins in the joined text where none begins in the text
  same_escape : (b at : ℕ) (bs : List ℕ) → begins_escape (b ∷ bs) ≡ false → begins_escape (b ∷ bytes_of (joined prefix at 0 bs)) ≡ false
  same_escape b at bs h = joined_fails (λ c. (b == backslash) && is_ascii_punctuation c) (and_right (b == backslash) false refl) prefix at bs h

  -- `label_len` finds the end of a label in the joined bytes from an offset on
  abbrev EndsBeyond : ℕ → List ℕ → Type 0
  EndsBeyond at bs = (n : ℕ) → list_all is_prefix_byte (take n bs) ≡ true → IsEndAt at (joined prefix at n bs) (label_len bs)

  -- so does it with an escape before them
  ends_escape : (at b c : ℕ) (bs : List ℕ) → begins_escape (b ∷ c ∷ bs) ≡ true → EndsBeyond (at + 1 + 1) bs → EndsBeyond at (b ∷ c ∷ bs)
  unfolding joined
  ends_escape at b c bs h beyond (suc n) k =
      absurd (true≢false (sym (and_parts (is_prefix_byte b) (list_all is_prefix_byte (take n (c ∷ bs))) k).0 ∙ (escape_byte b c bs h).2))
  ends_escape at b c bs h beyond zero k =
      let whole : List (ℕ × ℕ) = joined prefix (at + 1 + 1) 0 bs in
      let two : label_len (bytes_of ((at, b) ∷ (at + 1, c) ∷ whole)) ≡ suc (suc (label_len (bytes_of whole))) =
      upto-escape is_bracket b c (bytes_of whole) h ∙ omega arith in
      let size : label_len (b ∷ c ∷ bs) ≡ 2 + label_len bs = upto-escape is_bracket b c bs h in
      let lines = escape_byte b c bs h in
      rw (lines.0, lines.1) (λ ends. ap (slice_index (offsets_of ((at, b) ∷ (at + 1, c) ∷ whole))) two
      ∙ beyond 0 refl (ap (λ k. begins right_bracket (drop k (bytes_of ((at, b) ∷ (at + 1, c) ∷ whole)))) (sym two) ∙ ends) ∙ omega (arith, size))

  line_by : (o : Option ℕ) (at b : ℕ) (bs : List ℕ) → prefix bs ≡ o → ends_line b bs ≡ true → EndsBeyond (at + 1) bs
      → IsEndAt at (option_map_or (λ n. (at, b) ∷ joined prefix (at + 1) n bs) o []) (label_len (b ∷ bs))
  line_by None at b bs e h beyond = nowhere at (label_len (b ∷ bs))
  line_by (Some n) at b bs e h beyond =
      let byte = line_byte b bs h in
      further at b bs (joined prefix (at + 1) n bs) (and_left _ _ byte.0) (and_left _ _ byte.0) byte.1
      (beyond n (plain bs n e))

  other_by : (t : Bool) (at b : ℕ) (bs : List ℕ) → is_bracket b ≡ t → begins_escape (b ∷ bs) ≡ false → EndsBeyond (at + 1) bs
      → IsEndAt at ((at, b) ∷ joined prefix (at + 1) 0 bs) (label_len (b ∷ bs))
  other_by true at b bs e h beyond =
      let whole : List (ℕ × ℕ) = joined prefix (at + 1) 0 bs in
      let here : IsEndAt at ((at, b) ∷ whole) 0 =
      (λ ends. ap (slice_index (offsets_of ((at, b) ∷ whole))) (upto-stop is_bracket b (bytes_of whole) (same_escape b (at + 1) bs h) e) ∙ omega arith) in
      subst (IsEndAt at ((at, b) ∷ whole)) (sym (upto-stop is_bracket b bs h e)) here
  other_by false at b bs e h beyond = further at b bs (joined prefix (at + 1) 0 bs) h (same_escape b (at + 1) bs h) e (beyond 0 refl)

  -- and with another byte before them, which may end a line
  ends_byte : (at b : ℕ) (bs : List ℕ) → begins_escape (b ∷ bs) ≡ false → EndsBeyond (at + 1) bs → EndsBeyond at (b ∷ bs)
  unfolding joined
  ends_byte at b bs e beyond zero h =
      cond_both (ends_line b bs) _ _ (λ cs. IsEndAt at cs (label_len (b ∷ bs))) (λ t. line_by (prefix bs) at b bs refl t beyond)
      (λ _. other_by (is_bracket b) at b bs refl e beyond)
  ends_byte at b bs e beyond (suc n) h =
      let both = and_parts (is_prefix_byte b) (list_all is_prefix_byte (take n bs)) h in
      let size = upto-byte is_bracket b bs e (prefix_byte b both.0) in
      λ ends. beyond n both.1 ends ∙ omega (arith, size)

  ends_nil : (at : ℕ) → EndsBeyond at []
  unfolding joined
  ends_nil at n h = nowhere at (label_len [])

-- the label that is found ends at the first bracket
pub label_ends : (prefix : List ℕ → Option ℕ) → IsPlainPrefix prefix → (in_table : Bool) (bs : List ℕ) (found : ℕ × List ℕ)
    → label_at prefix in_table bs ≡ Some found → found.0 ≡ label_len bs + 1
unfolding label_at
label_ends prefix plain in_table bs found e =
    let whole : List (ℕ × ℕ) = joined prefix 0 0 bs in
    let n : ℕ = label_len (bytes_of whole) in
    let label : List ℕ = take n (bytes_of whole) in
    let is = some_if (begins right_bracket (drop n (bytes_of whole)) && is_label label)
    (Some (slice_index (offsets_of whole) n + 1, as_read in_table label)) found e in
    let end : slice_index (offsets_of whole) n + 1 ≡ found.0 = ap (λ (p : ℕ × List ℕ). p.0) (same_Some _ found is.1) in
    let place = by_units (EndsBeyond prefix plain) (ends_nil prefix plain) (ends_escape prefix plain) (ends_byte prefix plain) 0 bs 0 refl
    (and_parts (begins right_bracket (drop n (bytes_of whole))) (is_label label) is.0).0 in
    omega (arith, end, place)

-- the prefixes of lines have only prefix bytes
pub plain_prefix : (in_label : Bool) (around : Context) → IsPlainPrefix (prefix_crossed in_label around)
unfolding crossed
plain_prefix in_label around bs n e =
    let found = some_mapped (λ (r : Rest). r.taken) (crossed in_label around (line_rest bs)) n e in
    let s : Rest = found.0 in
    let end : Rest = after_columns 4 (front around.path (line_rest bs)) in
    let same = same_Some end s (some_unless _ (Some end) s found.1).1 in
    let skips : Skips (line_rest bs) s = subst (Skips (line_rest bs)) same (line_skips around.path 4 (line_rest bs)) in
    let size : n ≡ length skips.bytes = sym found.2 ∙ skips.taken ∙ omega arith in
    ap (λ k. list_all is_prefix_byte (take k bs)) size ∙ ap (λ l. list_all is_prefix_byte (take (length skips.bytes) l)) skips.left
    ∙ ap (list_all is_prefix_byte) (take-append_seam skips.bytes s.left) ∙ skips.plain

footnote_plain : (around : Context) → IsPlainPrefix (footnote_prefix around)
footnote_plain around bs n e = plain_prefix true around bs n (some_unless (gfm_footnotes around.options) (prefix_crossed true around bs) n e).1

-- the label of a head
label_of_head : (bs : List ℕ) (o : Option (ℕ × List ℕ)) (head : ℕ × List ℕ) → option_and_then (head_after bs) o ≡ Some head
    → (found : ℕ × List ℕ) × (o ≡ Some found) × (found.1 ≡ head.1)
label_of_head bs None head e = absurd (none-some head e)
label_of_head bs (Some found) head e =
    let same = (some_if (begins colon (drop found.0 bs)) (Some (found.0 + 3, found.1)) head e).1 in
    (found, refl, ap (λ (p : ℕ × List ℕ). p.1) (same_Some (found.0 + 3, found.1) head same))

head_label : (prefix : List ℕ → Option ℕ) (bs : List ℕ) (head : ℕ × List ℕ) → footnote_head prefix false bs ≡ Some head
    → (found : ℕ × List ℕ) × (label_at prefix false (drop 2 bs) ≡ Some found) × (found.1 ≡ head.1)
unfolding footnote_head
head_label prefix bs head e = label_of_head (drop 2 bs) (label_at prefix false (drop 2 bs)) head (some_if (begins_footnote_mark bs) _ head e).1

-- a head has two bytes or more
two_bytes : (bs : List ℕ) → begins_footnote_mark bs ≡ true → 2 ≤ length bs
two_bytes [] h = absurd (true≢false (sym h))
two_bytes (b ∷ []) h = absurd (true≢false (sym (and_parts (begins left_bracket (b ∷ [])) (begins circumflex []) h).1))
two_bytes (b ∷ c ∷ bs) h = omega arith

pub head_begins : (prefix : List ℕ → Option ℕ) (bs : List ℕ) (head : ℕ × List ℕ) → footnote_head prefix false bs ≡ Some head → begins_footnote_mark bs ≡ true
unfolding footnote_head
head_begins prefix bs head e = (some_if (begins_footnote_mark bs) _ head e).0

pub head_here : (around : Context) (p : Place) (head : ℕ × List ℕ) → footnote_head_at around p ≡ Some head
    → footnote_head (footnote_prefix around) false (unindented p).rest.left ≡ Some head
unfolding footnote_head_at
head_here around p head e = (some_if (has around.options footnotes && nat_lt (indent p.rest) 4) (footnote_at false around (unindented p).rest.left) head e).1

pub footnote_is_read : (d : Document) (path : List Container) (p : Place) (index : CowIndex) (head : ℕ × List ℕ)
    → (unindented p).rest.left ≡ drop (offset (unindented p)) d.text → footnote_head_at (around d path) p ≡ Some head
    → NamesLabel d.names index (label_bytes head.0 (unindented p).rest.left) head.1
    → NamesLabelAt d.names (footnote_prefix (around d path)) index d.text (label_range d.text (offset (unindented p)))
unfolding label_range
footnote_is_read d path p index head at is named =
    let start : ℕ = offset (unindented p) in
    let prefix : List ℕ → Option ℕ = footnote_prefix (around d path) in
    let rest : List ℕ = drop (start + 2) d.text in
    let begins_here : footnote_head prefix false (unindented p).rest.left ≡ Some head = head_here (around d path) p head is in
    let found = head_label prefix (unindented p).rest.left head begins_here in
    let long = two_bytes (unindented p).rest.left (head_begins prefix (unindented p).rest.left head begins_here) in
    let fits : start + 2 ≤ length d.text = (let left = length-drop start d.text in omega (arith, long, ap length at, left)) in
    let from : min (length d.text) (start + 2) ≡ start + 2 = min-eq_right fits in
    let there : drop 2 (unindented p).rest.left ≡ rest = ap (drop 2) at ∙ drop-drop 2 start d.text in
    let reads : label_at prefix false rest ≡ Some found.0 = ap (label_at prefix false) (sym there) ∙ found.1 in
    let size : found.0.0 ≡ label_len rest + 1 = label_ends prefix (footnote_plain (around d path)) false rest found.0 reads in
    let whole : found.0.0 ≡ start + 2 + label_len rest + 1 - (start + 2) = omega (arith, size) in
    let read : NamesLabelAt d.names prefix index d.text (range_of (start + 2) (start + 2 + label_len rest)) =
    record {
      label = head.1;
      reads = reads ∙ ap (λ n. Some (n, found.0.1)) whole ∙ ap (λ l. Some (start + 2 + label_len rest + 1 - (start + 2), l)) found.2;
      named = (named.named, named.at, named.text);
    } in
    subst (λ (n : ℕ). NamesLabelAt d.names prefix index d.text (range_of n (n + label_len (drop n d.text)))) (sym from) read
