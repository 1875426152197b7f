-- The units of a label.
use Rattle.std.proofs.Common.{◌≡◌, ◌⊎◌, inl, inr, ℕ, zero, suc, ◌+◌, ◌-◌, ◌<◌, ◌≤◌, ◌==◌, ◌&&◌, ◌||◌, not, Bool, true, false, List, ◌∷◌, ◌++◌, [], length}
use Rattle.std.proofs.Common.{take, drop, get_or, slice_index, Option, Some, None, refl, sym, ap, subst, ◌∙◌, arith, append_assoc, length-append, length-drop}
use Rattle.std.proofs.Common.{IsUtf8, if◌then◌else◌, count_by, IsCharBoundary, eqb-true, le-leb, drop-drop, get_or-drop, get_or-take, get_or-append-add}
use Rattle.std.proofs.Common.{length-take-le, append-nil, nat_le}
use Rattle.std.specs.List.{list_any, list_all}
use Rattle.std.specs.Char.{is_ascii_punctuation}
use Rattle.std.specs.Option.{option_map_or}
use Rattle.std.proofs.lemmas.Bool.{and_parts, and_left, and_right, cases_lt, cond_both, cond-false, lt-leb}
use Rattle.std.proofs.lemmas.Bool.Decides.{nat_tests}
use Rattle.std.proofs.lemmas.Grind.{common_steps}
use Rattle.std.proofs.lemmas.Str.{IsCharBoundary-after_ascii, IsCharBoundary-start}
use Rattle.std.proofs.lemmas.List.{drop_more, drop_all, get_or_past, map-append, length-map}
use Rattle.std.proofs.lemmas.List.Folds.{list_any-append, list_all-append}
use Rattle.std.proofs.Math.Seq.{take-append-add, drop-append-add}
use Rattle.first_pass_items.specs.Bytes.{space, backslash, right_bracket, pipe, ascii_end}
use Rattle.first_pass_lines.specs.Lines.{begins, ends_line, is_white_or_line_end}
use Rattle.first_pass_links.specs.declared.label.Unit.{Unit}
use Rattle.first_pass_links.specs.Escapes.{begins_escape, without_pipe_escapes}
use Rattle.first_pass_links.specs.Changes.{begins_pipe_escape}
use Rattle.first_pass_links.specs.Labels.{is_bracket, begins_character, joined, bytes_of, offsets_of, label_len, single_spaced, as_read, label_at}
use Rattle.first_pass_links.specs.Units.{part, read_of, left_at, kept_unit, space_unit, dropped_unit, backslash_unit, IsUnit, Reads, IsWhiteRun, IsBlankRest}
use Rattle.first_pass_links.specs.Units.{EndsWhiteRun, weight}
use Rattle.first_pass_links.proofs.PipeEscapes.{cell-nil, cell-other, cell-same, cell-dropped, cell_cases, pipe_after}
use Rattle.first_pass_links.proofs.Destinations.{upto-nil, upto-stop, upto-byte, upto-escape, first_byte, first-drop}
use Rattle.first_pass_links.proofs.Parts.{part-none, part-one, part-two, weight-length, weight-nil, weight-space, weight-other}

-- the joined text of a label, byte by byte
pub joined_after : (h : List ℕ → Option ℕ) (at n : ℕ) (bs : List ℕ) → joined h at n bs ≡ joined h (at + n) 0 (drop n bs)
unfolding joined
joined_after h at zero bs = let e : at + zero ≡ at = omega arith in rw e
joined_after h at (suc n) [] = refl
joined_after h at (suc n) (b ∷ bs) = let e : at + suc n ≡ at + 1 + n = omega arith in rw e (joined_after h (at + 1) n bs)

pub joined-byte : (h : List ℕ → Option ℕ) (at b : ℕ) (bs : List ℕ) → ends_line b bs ≡ false → joined h at 0 (b ∷ bs) ≡ (at, b) ∷ joined h (at + 1) 0 bs
unfolding joined
joined-byte h at b bs e = rw e

pub joined-stop : (h : List ℕ → Option ℕ) (at b : ℕ) (bs : List ℕ) → ends_line b bs ≡ true → h bs ≡ None → joined h at 0 (b ∷ bs) ≡ []
unfolding joined
joined-stop h at b bs e f = rw (e, f)

pub joined-nil : (h : List ℕ → Option ℕ) (at : ℕ) → joined h at 0 [] ≡ []
unfolding joined
joined-nil h at = refl

pub left-byte : (h : List ℕ → Option ℕ) (text : List ℕ) (at : ℕ)
    → at < length text → ends_line (get_or text at 0) (drop (at + 1) text) ≡ false → left_at h text at ≡ (at, get_or text at 0) ∷ left_at h text (at + 1)
left-byte h text at l e = ap (joined h at 0) (drop_more text at 0 l) ∙ joined-byte h at (get_or text at 0) (drop (at + 1) text) e

pub left-end : (h : List ℕ → Option ℕ) (text : List ℕ) (at n : ℕ) → at < length text → ends_line (get_or text at 0) (drop (at + 1) text) ≡ true
    → h (drop (at + 1) text) ≡ Some n → left_at h text at ≡ (at, get_or text at 0) ∷ left_at h text (at + 1 + n)
unfolding joined
left-end h text at n l e f = rw (drop_more text at 0 l, e, f, joined_after h (at + 1) n (drop (at + 1) text), drop-drop n (at + 1) text)

pub left-stop : (h : List ℕ → Option ℕ) (text : List ℕ) (at : ℕ)
    → at < length text → ends_line (get_or text at 0) (drop (at + 1) text) ≡ true → h (drop (at + 1) text) ≡ None → left_at h text at ≡ []
left-stop h text at l e f = ap (joined h at 0) (drop_more text at 0 l) ∙ joined-stop h at (get_or text at 0) (drop (at + 1) text) e f

-- a property of the joined bytes, by whether a prefix is there
pub joined_by : (P : List (ℕ × ℕ) → Type 0) (f : ℕ → List (ℕ × ℕ)) (o : Option ℕ) → ((n : ℕ) → P (f n)) → P [] → P (option_map_or f o [])
joined_by P f (Some n) some none = some n
joined_by P f None some none = none

-- if 0 and the first byte of a text fail a test, the first joined byte fails it too
pub joined_fails : (p : ℕ → Bool) → p 0 ≡ false → (h : List ℕ → Option ℕ) (at : ℕ) (bs : List ℕ) → p (slice_index bs 0) ≡ false
    → p (slice_index (bytes_of (joined h at 0 bs)) 0) ≡ false
unfolding joined
joined_fails p z h at [] e = z
joined_fails p z h at (b ∷ bs) e = grind (arith, cond_both, joined_by)

first_fails : (p : ℕ → Bool) → p 0 ≡ false → (h : List ℕ → Option ℕ) (text : List ℕ) (at : ℕ) → p (get_or text at 0) ≡ false
    → p (slice_index (bytes_of (left_at h text at)) 0) ≡ false
first_fails p z h text at e = joined_fails p z h at (drop at text) (ap p (first-drop at text) ∙ e)

taken_fails : (p : ℕ → Bool) → p 0 ≡ false → (n : ℕ) (bs : List ℕ) → p (slice_index bs 0) ≡ false → p (slice_index (take n bs) 0) ≡ false
taken_fails p z zero bs e = z
taken_fails p z (suc n) [] e = z
taken_fails p z (suc n) (b ∷ bs) e = e

pub begins-first : (k : ℕ) → (0 == k) ≡ false → (bs : List ℕ) → begins k bs ≡ (slice_index bs 0 == k)
begins-first k z [] = sym z
begins-first k z (b ∷ bs) = refl

begins_at : (k : ℕ) → (0 == k) ≡ false → (text : List ℕ) (at n : ℕ) → begins k (drop n (drop at text)) ≡ (get_or text (at + n) 0 == k)
begins_at k z text at n =
    ap (begins k) (drop-drop n at text) ∙ begins-first k z (drop (at + n) text) ∙ ap (λ b. b == k) (first-drop (at + n) text)

-- what is known of a label before the remaining bytes: its number of characters, whether one is not white space, and the
-- text read so far
pub record Known : Type 0 where
  pub characters : ℕ
  pub solid : Bool
  pub bytes : List ℕ

abbrev pub known_as : ℕ → Bool → List ℕ → Known
known_as characters solid bytes = record { characters = characters; solid = solid; bytes = bytes }

abbrev is_solid : ℕ → Bool
is_solid b = not (is_white_or_line_end b)

-- The text from one offset up to another is read: what is known of it alone. No bracket in it ends the label, and what is
-- read of it comes before what is read of the bytes after it.
pub record IsRead (h : List ℕ → Option ℕ) (t : Bool) (text : List ℕ) (at next : ℕ) (known : Known) : Type 0 where
  pub run : List (ℕ × ℕ)
  pub joins : left_at h text at ≡ run ++ left_at h text next
  pub count : count_by begins_character (bytes_of run) ≡ known.characters
  pub something : list_any is_solid (bytes_of run) ≡ known.solid
  pub passed : label_len (bytes_of run ++ bytes_of (left_at h text next)) ≡ length run + label_len (bytes_of (left_at h text next))
  pub reads : (n : ℕ) → as_read t (bytes_of run ++ take n (bytes_of (left_at h text next)))
      ≡ known.bytes ++ as_read t (take n (bytes_of (left_at h text next)))

pub read_nothing : (h : List ℕ → Option ℕ) (t : Bool) (text : List ℕ) (at : ℕ) → IsRead h t text at at (known_as 0 false [])
read_nothing h t text at = record { run = []; joins = refl; count = refl; something = refl; passed = omega arith; reads = λ n. refl }

pub count-append : (xs ys : List ℕ) → count_by begins_character (xs ++ ys) ≡ count_by begins_character xs + count_by begins_character ys
count-append xs ys = grind (arith, common_steps)

pub bytes-append : (us cs : List (ℕ × ℕ)) → bytes_of (us ++ cs) ≡ bytes_of us ++ bytes_of cs
bytes-append us cs = map-append (λ (c : ℕ × ℕ). c.1) us cs

pub bytes-length : (us : List (ℕ × ℕ)) → length us ≡ length (bytes_of us)
bytes-length us = sym (length-map us (λ (c : ℕ × ℕ). c.1))

-- the bytes from an offset on, if a part of them is read
pub read_whole : (h : List ℕ → Option ℕ) (t : Bool) (text : List ℕ) (at next : ℕ) (k : Known) (r : IsRead h t text at next k)
    → bytes_of (left_at h text at) ≡ bytes_of r.run ++ bytes_of (left_at h text next)
read_whole h t text at next k r = ap bytes_of r.joins ∙ bytes-append r.run (left_at h text next)

abbrev pub known_both : Known → Known → Known
known_both k l = known_as (k.characters + l.characters) (k.solid || l.solid) (k.bytes ++ l.bytes)

-- two parts that are read, one after the other
unfoldable pub read_both : (h : List ℕ → Option ℕ) (t : Bool) (text : List ℕ) (at m n : ℕ) (k l : Known) → IsRead h t text at m k → IsRead h t text m n l
    → IsRead h t text at n (known_both k l)
read_both h t text at m n k l one two =
    let X = bytes_of (left_at h text n) in
    let us = bytes_of one.run in
    let vs = bytes_of two.run in
    let both = bytes-append one.run two.run in
    let later = read_whole h t text m n l two in
    record {
      run = one.run ++ two.run;
      joins = one.joins ∙ ap (λ cs. one.run ++ cs) two.joins ∙ sym (append_assoc one.run two.run (left_at h text n));
      count = ap (count_by begins_character) both ∙ count-append us vs ∙ omega (arith, one.count, two.count);
      something = ap (list_any is_solid) both ∙ list_any-append is_solid us vs ∙ rw (one.something, two.something);
      passed = ap (λ bs. label_len (bs ++ X)) both ∙ ap label_len (append_assoc us vs X) ∙ ap (λ bs. label_len (us ++ bs)) (sym later) ∙ one.passed
          ∙ omega (arith, ap label_len later, two.passed, length-append one.run two.run);
      reads = λ i.
          let cut = ap (take (length vs + i)) later ∙ take-append-add vs X i in
          ap (λ bs. as_read t (bs ++ take i X)) both ∙ ap (as_read t) (append_assoc us vs (take i X)) ∙ ap (λ bs. as_read t (us ++ bs)) (sym cut)
          ∙ one.reads (length vs + i) ∙ ap (λ bs. k.bytes ++ as_read t bs) cut ∙ ap (λ bs. k.bytes ++ bs) (two.reads i)
          ∙ sym (append_assoc k.bytes l.bytes (as_read t (take i X)));
    }

-- the label, given what is known and the joined bytes after it, each with its offset
pub label_after : Bool → Known → List (ℕ × ℕ) → Option (ℕ × List ℕ)
label_after t k cs =
    let bs = bytes_of cs in
    let n = label_len bs in
    if begins right_bracket (drop n bs)
    && (nat_le (k.characters + count_by begins_character (take n bs)) 999 && (k.solid || list_any is_solid (take n bs)))
    then Some (slice_index (offsets_of cs) n + 1, k.bytes ++ as_read t (take n bs))
    else None

pub label_read : (h : List ℕ → Option ℕ) (t : Bool) (text : List ℕ) (at : ℕ) (k : Known) → IsRead h t text 0 at k
    → label_at h t text ≡ label_after t k (left_at h text at)
unfolding label_after label_at
label_read h t text at k r =
    let cs = left_at h text at in
    let us = bytes_of r.run in
    let X = bytes_of cs in
    let n = label_len X in
    let whole = read_whole h t text 0 at k r in
    let len : label_len (us ++ X) ≡ length us + n = r.passed ∙ ap (λ m. m + n) (bytes-length r.run) in
    let offset : slice_index (offsets_of (left_at h text 0)) (length us + n) ≡ slice_index (offsets_of cs) n =
    ap (λ ds. slice_index (offsets_of ds) (length us + n)) r.joins ∙ ap (λ xs. slice_index xs (length us + n)) (map-append (λ (c : ℕ × ℕ). c.0) r.run cs)
    ∙ ap (λ m. slice_index (offsets_of r.run ++ offsets_of cs) (m + n)) (length-map r.run (λ (c : ℕ × ℕ). c.1) ∙ sym (length-map r.run (λ (c : ℕ × ℕ). c.0)))
    ∙ get_or-append-add (offsets_of r.run) (offsets_of cs) n 0 in
    rw (
      whole,
      len,
      drop-append-add us X n,
      take-append-add us X n,
      offset,
      count-append us (take n X),
      list_any-append is_solid us (take n X),
      r.count,
      r.something,
      r.reads n,
    )

-- a byte that is neither white space nor part of a line ending
solid_ends_none : (b : ℕ) (bs : List ℕ) → is_white_or_line_end b ≡ false → ends_line b bs ≡ false
solid_ends_none b bs h = grind (arith, nat_tests, h)

pub single-solid : (b : ℕ) (bs : List ℕ) → is_white_or_line_end b ≡ false → single_spaced (b ∷ bs) ≡ b ∷ single_spaced bs
unfolding single_spaced
single-solid b bs h = rw h

as_read-byte : (t : Bool) (b : ℕ) (bs : List ℕ) → is_white_or_line_end b ≡ false → (t && ((b == backslash) && begins pipe bs)) ≡ false
    → as_read t (b ∷ bs) ≡ b ∷ as_read t bs
as_read-byte true b bs s k = ap single_spaced (cell-same b bs k) ∙ single-solid b (without_pipe_escapes bs) s
as_read-byte false b bs s k = single-solid b bs s

as_read-pipe : (bs : List ℕ) → as_read true (backslash ∷ pipe ∷ bs) ≡ pipe ∷ as_read true bs
as_read-pipe bs = ap single_spaced (cell-dropped backslash (pipe ∷ bs) refl refl) ∙ as_read-byte true pipe bs refl refl

-- runs of white space
pub white_is_ascii : (b : ℕ)
    → is_white_or_line_end b ≡ true → (b < ascii_end) × ((b == backslash) ≡ false) × (is_bracket b ≡ false) × (begins_character b ≡ true) × (is_solid b ≡ false)
white_is_ascii b h = (grind (arith, nat_tests, h), grind (arith, nat_tests, h), grind (arith, nat_tests, h), grind (arith, nat_tests, h), rw h)

-- no bracket in a run of white space ends the label, and each byte of it is a character
pub run_facts : (u bs : List ℕ) → list_all is_white_or_line_end u ≡ true
    → (label_len (u ++ bs) ≡ length u + label_len bs) × (count_by begins_character u ≡ length u) × (list_any is_solid u ≡ false)
run_facts [] bs h = (omega arith, refl, refl)
run_facts (b ∷ u) bs h =
    let p = and_parts _ _ h in
    let w = white_is_ascii b p.0 in
    let e : begins_escape (b ∷ (u ++ bs)) ≡ false = rw w.1 in
    let s = upto-byte is_bracket b (u ++ bs) e w.2 in
    let one : count_by begins_character (b ∷ []) ≡ 1 = rw w.3 in
    let c = count-append (b ∷ []) u in
    let i = run_facts u bs p.1 in
    (omega arith, omega arith, rw w.4 i.2)

cell_first : (bs : List ℕ) → is_white_or_line_end (slice_index (without_pipe_escapes bs) 0) ≡ is_white_or_line_end (slice_index bs 0)
cell_first [] = ap (λ xs. is_white_or_line_end (slice_index xs 0)) cell-nil
cell_first (b ∷ bs) = cell_cases (λ xs. is_white_or_line_end (slice_index xs 0) ≡ is_white_or_line_end b) b bs (λ h.
    let p = and_parts _ _ h in
    ap (λ xs. is_white_or_line_end (slice_index xs 0)) (pipe_after bs p.1) ∙ ap is_white_or_line_end (sym (eqb-true b backslash p.0))) refl

as_read-white : (t : Bool) (b : ℕ) (bs : List ℕ) → is_white_or_line_end b ≡ true
    → as_read t (b ∷ bs) ≡ (if is_white_or_line_end (slice_index bs 0) then as_read t bs else space ∷ as_read t bs)
unfolding single_spaced
as_read-white true b bs h = rw (cell-other b bs (white_is_ascii b h).1, h, cell_first bs)
as_read-white false b bs h = rw h

as_read-run : (t : Bool) (u bs : List ℕ)
    → list_all is_white_or_line_end u ≡ true → 0 < length u → is_white_or_line_end (slice_index bs 0) ≡ false → as_read t (u ++ bs) ≡ space ∷ as_read t bs
as_read-run t [] bs h l e = absurd (omega arith)
as_read-run t (b ∷ []) bs h l e = as_read-white t b bs (and_parts _ _ h).0 ∙ rw e
as_read-run t (b ∷ c ∷ u) bs h l e =
    let p = and_parts _ _ h in
    let q : is_white_or_line_end c ≡ true = (and_parts _ _ p.1).0 in
    as_read-white t b (c ∷ (u ++ bs)) p.0 ∙ rw q (as_read-run t (c ∷ u) bs p.1 (omega arith) e)

-- a unit whose text is read
pub reads_from : (h : List ℕ → Option ℕ) (t : Bool) (text : List ℕ) (at : ℕ) (unit : Unit) (w : List ℕ) → read_of text at unit ≡ w
    → (r : IsRead h t text at unit.next (known_as unit.characters unit.solid w)) → (unit.paused ≡ unit.resumed) ⊎ (weight w < weight (bytes_of r.run))
    → Reads h t text at unit
reads_from h t text at unit w e r changes = grind arith

unfoldable pub read_unit : (h : List ℕ → Option ℕ) (t : Bool) (text : List ℕ) (at : ℕ) (unit : Unit) → Reads h t text at unit
    → IsRead h t text at unit.next (known_as unit.characters unit.solid (read_of text at unit))
read_unit h t text at unit r =
    record { run = r.run; joins = r.joins; count = r.count; something = r.something; passed = r.passed; reads = r.reads }

pub read-kept : (text : List ℕ) (at n c : ℕ) (s : Bool) → read_of text at (kept_unit n c s) ≡ part text at n
read-kept text at n c s = ap (λ xs. part text at n ++ xs) (part-none text n) ∙ append-nil (part text at n)

-- a byte that is neither white space nor a bracket, and begins no escape
pub byte_reads : (h : List ℕ → Option ℕ) (t : Bool) (text : List ℕ) (at c : ℕ)
    → at < length text → is_white_or_line_end (get_or text at 0) ≡ false → is_bracket (get_or text at 0) ≡ false → begins_escape (drop at text) ≡ false
    → c ≡ (if begins_character (get_or text at 0) then 1 else 0) → Reads h t text at (kept_unit (at + 1) c true)
byte_reads h t text at c l white bracket alone e =
    let b = get_or text at 0 in
    let rest = drop (at + 1) text in
    let X = bytes_of (left_at h text (at + 1)) in
    let one : count_by begins_character (b ∷ []) ≡ (if begins_character b then 1 else 0) = omega arith in
    let lone : (b == backslash) && is_ascii_punctuation (slice_index rest 0) ≡ false = rw (drop_more text at 0 l) at alone in
    let test : ℕ → Bool = λ k. (b == backslash) && (k == pipe) in
    let zero_fails : test 0 ≡ false = and_right _ false refl in
    let none = λ (n : ℕ). taken_fails test zero_fails n X (joined_fails test zero_fails h (at + 1) rest (grind (arith, nat_tests, lone))) in
    reads_from h t text at (kept_unit (at + 1) c true) (b ∷ []) (read-kept text at (at + 1) c true ∙ part-one text at l) (record {
      run = (at, b) ∷ [];
      joins = left-byte h text at l (solid_ends_none b rest white);
      count = one ∙ sym e;
      something = rw white;
      passed = upto-byte is_bracket b X
          (joined_fails (λ k. (b == backslash) && is_ascii_punctuation k) (and_right _ false refl) h (at + 1) rest lone) bracket;
      reads = λ n. as_read-byte t b (take n X) white
          (and_right t _ (ap (λ x. (b == backslash) && x) (begins-first pipe refl (take n X)) ∙ none n));
    }) (inl refl)

-- white space other than a single space is heavier than a space
heavier : (bs : List ℕ) → 0 < length bs → is_white_or_line_end (slice_index bs 0) ≡ true → (length bs ≡ 1 → (slice_index bs 0 == space) ≡ false)
    → 1 < weight bs
heavier [] some white lone = absurd (omega arith)
heavier (b ∷ []) some white lone = let w = weight-other b white (lone refl) in omega arith
heavier (b ∷ c ∷ bs) some white lone = let w = weight-length (b ∷ c ∷ bs) in omega arith

no_space : (text : List ℕ) (at next : ℕ) → (next == at + 1 && slice_index text at == space) ≡ false → (slice_index text at ≡ space → next ≡ at + 1)
    → (slice_index text at == space) ≡ false
no_space text at next k lone = grind (arith, nat_tests, k, lone)

run_heavier : (run cs : List (ℕ × ℕ)) → 0 < length run → list_all is_white_or_line_end (bytes_of run) ≡ true
    → (length run ≡ 1 → (slice_index (bytes_of (run ++ cs)) 0 == space) ≡ false) → 1 < weight (bytes_of run)
run_heavier [] cs some white lone = absurd (omega arith)
run_heavier (u ∷ us) cs some white lone = grind (arith, bytes-length, heavier, and_parts)

-- a run of white space
pub run_reads : (h : List ℕ → Option ℕ) (t : Bool) (text : List ℕ) (at next characters : ℕ)
    → IsWhiteRun h text at next characters → EndsWhiteRun text at next characters → is_white_or_line_end (slice_index text next) ≡ false
    → Reads h t text at (space_unit text at next characters)
run_reads h t text at next characters r ends e =
    let some = ends.some in
    let l : at < length text = omega (arith, ends.later, ends.within) in
    let us = bytes_of r.run in
    let X = bytes_of (left_at h text next) in
    let len = bytes-length r.run in
    let c = run_facts us X r.white in
    let count = r.count in
    let white : IsRead h t text at next (known_as characters false (space ∷ [])) = record {
      run = r.run;
      joins = r.joins;
      count = c.1 ∙ omega arith;
      something = c.2;
      passed = c.0 ∙ omega arith;
      reads = λ n. as_read-run t us (take n X) r.white (omega arith)
          (taken_fails is_white_or_line_end refl n X (first_fails is_white_or_line_end refl h text next e));
    } in
    cond_both (next == at + 1 && slice_index text at == space) _ _ (Reads h t text at)
    (λ k.
    let p = and_parts _ _ k in
    reads_from h t text at (kept_unit next characters false) (space ∷ []) (read-kept text at next characters false
    ∙ ap (part text at) (eqb-true next (at + 1) p.0) ∙ part-one text at l ∙ ap (λ b. b ∷ []) (eqb-true _ space p.1)) white (inl refl))
    (λ k.
    let lone = λ (one : length r.run ≡ 1). ap (λ cs. slice_index (bytes_of cs) 0 == space) (sym r.joins)
    ∙ first_fails (λ b. b == space) refl h text at (no_space text at next k (ends.lone (omega arith))) in
    let heavy = run_heavier r.run (left_at h text next) (omega arith) r.white lone in
    reads_from h t text at _ (space ∷ []) (rw (part-none text at, part-none text next)) white (inr (let one = weight-space in omega arith)))

-- a backslash that escapes a byte
pair_joins : (h : List ℕ → Option ℕ) (text : List ℕ) (at : ℕ) → at + 1 < length text → get_or text at 0 ≡ backslash
    → is_white_or_line_end (get_or text (at + 1) 0) ≡ false → left_at h text at ≡ (at, backslash) ∷ (at + 1, get_or text (at + 1) 0) ∷ left_at h text (at + 2)
pair_joins h text at l e s = grind (arith, left-byte, solid_ends_none)

punctuation_facts : (p : ℕ) → is_ascii_punctuation p ≡ true → (is_white_or_line_end p ≡ false) × (begins_character p ≡ true)
    × (begins_escape (backslash ∷ p ∷ []) ≡ true)
punctuation_facts p h = (grind (arith, nat_tests, h), grind (arith, nat_tests, h), h)

pair_reads : (h : List ℕ → Option ℕ) (t : Bool) (text : List ℕ) (at : ℕ)
    → at + 1 < length text → get_or text at 0 ≡ backslash → is_ascii_punctuation (get_or text (at + 1) 0) ≡ true
    → (t && (get_or text (at + 1) 0 == pipe)) ≡ false
    → (t && ((get_or text (at + 1) 0 == backslash) && (get_or text (at + 2) 0 == pipe))) ≡ false
    → Reads h t text at (kept_unit (at + 2) 2 true)
pair_reads h t text at l e p here next =
    let b = get_or text (at + 1) 0 in
    let X = bytes_of (left_at h text (at + 2)) in
    let f = punctuation_facts b p in
    let test : ℕ → Bool = λ x. t && ((b == backslash) && (x == pipe)) in
    let none : test 0 ≡ false = and_right t _ (and_right (b == backslash) false refl) in
    reads_from h t text at (kept_unit (at + 2) 2 true) (backslash ∷ b ∷ [])
    (read-kept text at (at + 2) 2 true ∙ part-two text at l ∙ ap (λ x. x ∷ b ∷ []) e) (record {
      run = (at, backslash) ∷ (at + 1, b) ∷ [];
      joins = pair_joins h text at l e f.0;
      count = rw f.1;
      something = refl;
      passed = upto-escape is_bracket backslash b X p;
      reads = λ n.
          let g = ap (λ x. t && ((b == backslash) && x)) (begins-first pipe refl (take n X))
          ∙ taken_fails test none n X (first_fails test none h text (at + 2) next) in
          as_read-byte t backslash (b ∷ take n X) refl here ∙ ap (λ xs. backslash ∷ xs) (as_read-byte t b (take n X) f.0 g);
    }) (inl refl)

dropped_lighter : (bs : List ℕ) → weight bs < weight (backslash ∷ bs)
unfolding weight
dropped_lighter bs = omega arith

-- in a table, a backslash that is dropped before a pipe
pipe_reads : (h : List ℕ → Option ℕ) (text : List ℕ) (at : ℕ)
    → at + 1 < length text → get_or text at 0 ≡ backslash → get_or text (at + 1) 0 ≡ pipe → Reads h true text at (dropped_unit (at + 2) 2 at)
pipe_reads h text at l e p =
    let X = bytes_of (left_at h text (at + 2)) in
    let k : at + 2 ≡ at + 1 + 1 = omega arith in
    reads_from h true text at (dropped_unit (at + 2) 2 at) (pipe ∷ []) (rw (part-none text at, k, part-one text (at + 1) l, p)) (record {
      run = (at, backslash) ∷ (at + 1, pipe) ∷ [];
      joins = pair_joins h text at l e (rw p) ∙ ap (λ b. (at, backslash) ∷ (at + 1, b) ∷ left_at h text (at + 2)) p;
      count = refl;
      something = refl;
      passed = upto-escape is_bracket backslash pipe X refl;
      reads = λ n. as_read-pipe (take n X);
    }) (inr (dropped_lighter (pipe ∷ [])))

-- and one after a backslash, which escapes the pipe
pipe_escape_reads : (h : List ℕ → Option ℕ) (text : List ℕ) (at : ℕ) → at + 2 < length text → get_or text at 0 ≡ backslash → get_or text (at + 1) 0 ≡ backslash
    → get_or text (at + 2) 0 ≡ pipe → Reads h true text at (dropped_unit (at + 3) 3 (at + 1))
pipe_escape_reads h text at l e p q =
    let X = bytes_of (left_at h text (at + 3)) in
    let k : at + 3 ≡ at + 2 + 1 = omega arith in
    let k' : at + 1 + 1 ≡ at + 2 = omega arith in
    reads_from h true text at (dropped_unit (at + 3) 3 (at + 1)) (backslash ∷ pipe ∷ [])
    (rw (part-one text at (omega arith), k', k, part-one text (at + 2) l, e, q)) (record {
      run = (at, backslash) ∷ (at + 1, backslash) ∷ (at + 2, pipe) ∷ [];
      joins = pair_joins h text at (omega arith) e (rw p) ∙ ap (λ b. (at, backslash) ∷ (at + 1, b) ∷ left_at h text (at + 2)) p
          ∙ ap (λ cs. (at, backslash) ∷ (at + 1, backslash) ∷ cs) (left-byte h text (at + 2) l (rw q) ∙ rw (q, k));
      count = refl;
      something = refl;
      passed = upto-escape is_bracket backslash backslash (pipe ∷ X) refl ∙ ap (λ n. 2 + n) (upto-byte is_bracket pipe X refl refl) ∙ omega arith;
      reads = λ n. as_read-byte true backslash (backslash ∷ pipe ∷ take n X) refl refl ∙ ap (λ xs. backslash ∷ xs) (as_read-pipe (take n X));
    }) (inr (dropped_lighter (backslash ∷ pipe ∷ [])))

-- units within the text
pub kept_is_unit : (text : List ℕ) (at n c : ℕ) (s : Bool) → at < n → n ≤ length text → c ≤ n - at → IsUnit text at (kept_unit n c s)
kept_is_unit text at n c s l w f = grind arith

dropped_is_unit : (text : List ℕ) (at n c p : ℕ)
    → IsUtf8 text → at ≤ p → p < n → n ≤ length text → c ≤ n - at → get_or text p 0 ≡ backslash → IsUnit text at (dropped_unit n c p)
dropped_is_unit text at n c p u l m w f e =
    let one = ap weight (part-one text p (omega arith)) in
    let some = weight-length (get_or text p 0 ∷ []) in
    let none = weight-nil in
    record {
      begins = l;
      order = omega arith;
      resumes = omega arith;
      later = omega arith;
      within = w;
      bound = f;
      change = inr (omega arith, IsCharBoundary-after_ascii text p u (omega arith) (omega arith), omega arith);
      same = λ z. refl;
    }

pub space_is_unit : (text : List ℕ) (at next c : ℕ)
    → EndsWhiteRun text at next c → is_white_or_line_end (get_or text at 0) ≡ true → IsUnit text at (space_unit text at next c)
space_is_unit text at next c e s =
    cond_both (next == at + 1 && slice_index text at == space) _ _ (IsUnit text at)
    (λ k. kept_is_unit text at next c false e.later e.within e.bound)
    (λ k.
    let later = e.later in
    let d = length-drop at text in
    let n = length-take-le (next - at) (drop at text) (omega (arith, e.within)) in
    let first : slice_index (part text at next) 0 ≡ get_or text at 0 = get_or-take (next - at) (drop at text) 0 0 (omega arith) ∙ first-drop at text in
    let heavy = heavier (part text at next) (omega arith) (ap is_white_or_line_end first ∙ s)
    (λ one. ap (λ b. b == space) first ∙ no_space text at next k (λ z. omega arith)) in
    let one = weight-space in
    record {
      begins = omega arith;
      order = omega arith;
      resumes = omega arith;
      later = later;
      within = e.within;
      bound = e.bound;
      change = inr ((white_is_ascii (get_or text at 0) s).0, e.boundary, omega arith);
      same = λ z. absurd (omega arith);
    })

-- a backslash
second_byte : (k : ℕ) (text : List ℕ) (at n : ℕ) → begins k (drop n (drop at text)) ≡ true → (at + n < length text) × (get_or text (at + n) 0 ≡ k)
second_byte k text at n h = first_byte k text (at + n) (ap (begins k) (sym (drop-drop n at text)) ∙ h)

escape_second : (text : List ℕ) (at : ℕ) → begins_escape (drop at text) ≡ true → (at + 1 < length text) × (is_ascii_punctuation (get_or text (at + 1) 0) ≡ true)
escape_second text at h =
    let q : is_ascii_punctuation (get_or text (at + 1) 0) ≡ true = ap is_ascii_punctuation (sym (get_or-drop at text 1 0))
    ∙ (and_parts (begins backslash (drop at text)) (is_ascii_punctuation (slice_index (drop at text) 1)) h).1 in
    let f : 0 < get_or text (at + 1) 0 = grind (arith, nat_tests, q) in
    (elim (cases_lt (at + 1) (length text)) [ inl l ↦ l | inr l ↦ (let z = get_or_past text (at + 1) 0 l in absurd (omega arith)) ], q)

pub record IsBackslash (text : List ℕ) (at : ℕ) (t : Bool) (unit : Unit) : Type 0 where
  pub kind : IsUnit text at unit
  pub reads : (h : List ℕ → Option ℕ) → Reads h t text at unit

pub backslash_is_unit : (t : Bool) (text : List ℕ) (at : ℕ)
    → at < length text → get_or text at 0 ≡ backslash → IsUtf8 text → IsBackslash text at t (backslash_unit t at (drop at text))
backslash_is_unit t text at l e u =
    let a : begins backslash (drop at text) ≡ true = ap (begins backslash) (drop_more text at 0 l) ∙ rw e in
    cond_both (t && begins_pipe_escape (drop at text)) _ _ (IsBackslash text at t)
    (λ h.
    let p = and_parts _ _ h in
    let q = and_parts _ _ p.1 in
    let b = second_byte backslash text at 1 (and_parts _ _ q.0).1 in
    let c = second_byte pipe text at 2 q.1 in
    record {
      kind = dropped_is_unit text at (at + 3) 3 (at + 1) u (omega arith) (omega arith) (omega (arith, c.0)) (omega arith) b.1;
      reads = λ g. subst (λ s. Reads g s text at (dropped_unit (at + 3) 3 (at + 1))) (sym p.0) (pipe_escape_reads g text at c.0 e b.1 c.1);
    })
    (λ h. cond_both (t && begins pipe (drop 1 (drop at text))) _ _ (IsBackslash text at t)
    (λ i.
    let p = and_parts _ _ i in
    let b = second_byte pipe text at 1 p.1 in
    record {
      kind = dropped_is_unit text at (at + 2) 2 at u (omega arith) (omega arith) (omega (arith, b.0)) (omega arith) e;
      reads = λ g. subst (λ s. Reads g s text at (dropped_unit (at + 2) 2 at)) (sym p.0) (pipe_reads g text at b.0 e b.1);
    })
    (λ i. cond_both (begins_escape (drop at text)) _ _ (IsBackslash text at t)
    (λ j.
    let s = escape_second text at j in
    record {
      kind = kept_is_unit text at (at + 2) 2 true (omega arith) (omega (arith, s.0)) (omega arith);
      reads = λ g. pair_reads g t text at s.0 e s.1 (rw (begins_at pipe refl text at 1) at i)
          (rw (a, begins_at backslash refl text at 1, begins_at pipe refl text at 2) at h);
    })
    (λ j. record {
      kind = kept_is_unit text at (at + 1) 1 true (omega arith) (omega arith) (omega arith);
      reads = λ g. byte_reads g t text at 1 l (rw e) (rw e) j (rw e);
    })))

-- places where no label continues
abbrev Stops : (List ℕ → Option ℕ) → Bool → List ℕ → ℕ → Type 0
Stops h t text at = (known : Known) → label_after t known (left_at h text at) ≡ None

pub blank_stops : (h : List ℕ → Option ℕ) (t : Bool) (text : List ℕ) (at : ℕ) → IsBlankRest h text at → Stops h t text at
unfolding label_after
blank_stops h t text at b =
    λ known.
    let X = bytes_of (left_at h text at) in
    let e = (run_facts X [] b).0 in
    let f = ap label_len (sym (append-nil X)) ∙ e in
    let z = upto-nil is_bracket in
    let d : drop (label_len X) X ≡ [] = drop_all (label_len X) X (omega arith) in
    rw d

pub end_stops : (h : List ℕ → Option ℕ) (t : Bool) (text : List ℕ) (at : ℕ) → length text ≤ at → Stops h t text at
end_stops h t text at l = grind (arith, blank_stops, drop_all, joined-nil)

pub as_read-nil : (t : Bool) → as_read t [] ≡ []
unfolding single_spaced without_pipe_escapes
as_read-nil true = refl
as_read-nil false = refl

-- a bracket ends the label
pub at_bracket : (h : List ℕ → Option ℕ) (t : Bool) (text : List ℕ) (at : ℕ) (k : Known) → at < length text → is_bracket (get_or text at 0) ≡ true
    → k.characters ≤ 999
    → label_after t k (left_at h text at) ≡ (if (get_or text at 0 == right_bracket) && k.solid then Some (at + 1, k.bytes) else None)
unfolding label_after
at_bracket h t text at k l bracket few =
    let b = get_or text at 0 in
    let X = bytes_of (left_at h text (at + 1)) in
    let white : is_white_or_line_end b ≡ false = grind (arith, nat_tests, bracket) in
    let plain : (b == backslash) ≡ false = grind (arith, nat_tests, bracket) in
    let none : k.characters + 0 ≡ k.characters = omega arith in
    let solid : (k.solid || false) ≡ k.solid = grind arith in
    rw (
      left-byte h text at l (solid_ends_none b (drop (at + 1) text) white),
      upto-stop is_bracket b X (rw plain) bracket,
      none,
      le-leb k.characters 999 few,
      solid,
      as_read-nil t,
      append-nil k.bytes,
    )

pub too_long : (t : Bool) (k : Known) (cs : List (ℕ × ℕ)) → 999 < k.characters → label_after t k cs ≡ None
unfolding label_after
too_long t k cs l =
    let n = label_len (bytes_of cs) in
    let long = lt-leb (k.characters + count_by begins_character (take n (bytes_of cs))) 999 (omega arith) in
    cond-false _ _ _ (and_right _ _ (and_left _ _ long))

-- one more byte of a run of white space
pub run_more : (h : List ℕ → Option ℕ) (text : List ℕ) (at next following n : ℕ)
    → IsWhiteRun h text at next n → left_at h text next ≡ (next, get_or text next 0) ∷ left_at h text following
    → is_white_or_line_end (get_or text next 0) ≡ true
    → IsWhiteRun h text at following (n + 1)
run_more h text at next following n r e s =
    let one : List (ℕ × ℕ) = (next, get_or text next 0) ∷ [] in
    let l = length-append r.run one in
    let c = r.count in
    record {
      run = r.run ++ one;
      joins = r.joins ∙ ap (λ cs. r.run ++ cs) e ∙ sym (append_assoc r.run one (left_at h text following));
      white = ap (list_all is_white_or_line_end) (map-append (λ (x : ℕ × ℕ). x.1) r.run one)
          ∙ list_all-append is_white_or_line_end (bytes_of r.run) (get_or text next 0 ∷ []) ∙ rw (r.white, s);
      count = omega arith;
    }

pub run_blank : (h : List ℕ → Option ℕ) (text : List ℕ) (at next n : ℕ) → IsWhiteRun h text at next n → left_at h text next ≡ [] → IsBlankRest h text at
run_blank h text at next n r e = ap (λ cs. list_all is_white_or_line_end (bytes_of cs)) (r.joins ∙ ap (λ cs. r.run ++ cs) e ∙ append-nil r.run) ∙ r.white

-- a place after a place
pub place_past : (text : List ℕ) (a n : ℕ) → a ≤ length text → IsCharBoundary (drop a text) n → IsCharBoundary text (a + n)
place_past text a n l b =
    let within = b.0 in
    let d = length-drop a text in
    let g = get_or-drop a text n 0 in
    (omega arith, λ h k. let z = b.1 (omega arith) (omega arith) in omega arith)

-- a prefix of no bytes, and one that ends with an ASCII byte
pub no_prefix : (bs : List ℕ) (n : ℕ) → IsUtf8 bs → n ≡ 0 → IsCharBoundary bs n
no_prefix bs n u e = rw e (IsCharBoundary-start bs u)
