-- Unescaped texts, change by change.
use Rattle.std.proofs.Common.{◌≡◌, ◌⊎◌, inl, inr, ℕ, zero, suc, ◌+◌, ◌-◌, ◌<◌, ◌≤◌, ◌==◌, ◌&&◌, Bool, true, false, List, ◌∷◌, ◌++◌, length, take, drop, []}
use Rattle.std.proofs.Common.{get_or, slice_index, encode_utf8, Option, Some, None, refl, sym, ap, subst, ◌∙◌, arith, append_assoc, length-append}
use Rattle.std.proofs.Common.{length-drop, IsUtf8, IfSome, IsCharBoundary, eqb-true, drop-drop, get_or-drop, length-take, take_all, append-nil}
use Rattle.std.specs.Char.{is_ascii_punctuation}
use Rattle.std.proofs.lemmas.Bool.{cases_Bool, and_cases, and_left, and_parts, and_right, cond_both, false≢true}
use Rattle.std.proofs.lemmas.Bool.Decides.{nat_tests}
use Rattle.std.proofs.lemmas.List.{drop_more, drop_all}
use Rattle.std.proofs.lemmas.List.Sums.{prefix_len-le-length}
use Rattle.std.proofs.lemmas.Option.{none-some}
use Rattle.std.proofs.lemmas.Str.{encode_ascii, length-encode, IsCharBoundary-after_ascii}
use Rattle.first_pass_items.specs.Bytes.{ampersand, backslash, pipe, ascii_end}
use Rattle.first_pass_lines.specs.Lanes.{IsRunIn}
use Rattle.first_pass_lines.specs.Lines.{begins}
use Rattle.first_pass_entities.specs.Entities.{entity_at}
use Rattle.first_pass_links.specs.Escapes.{unescaped, unescaped_after, replaced_at, begins_escape, without_pipe_escapes}
use Rattle.first_pass_links.specs.Changes.{change_at, begins_pipe_escape, IsChange}
use Rattle.first_pass_links.specs.Plain.{is_unmarked}
use Rattle.first_pass_entities.proofs.EntityFacts.{is_plain, entity_is_reference}
use Rattle.first_pass_links.proofs.PipeEscapes.{cell-nil, cell-other, cell-same, cell-dropped, pipe_after, plain_stay, entity_at-cell}
use Rattle.first_pass_links.specs.Units.{part}
use Rattle.first_pass_links.proofs.Destinations.{first_byte, first-drop}
use Rattle.first_pass_links.proofs.Parts.{part-one, part-split}

-- the bytes of a text from one offset up to another are kept
pub record IsKept (in_table : Bool) (text : List ℕ) (from at : ℕ) : Type 0 where
  pub order : from ≤ at
  pub within : at ≤ length text
  pub kept : unescaped in_table (drop from text) ≡ take (at - from) (drop from text) ++ unescaped in_table (drop at text)

-- the text up to an offset is unescaped to these bytes; they are fewer, unless both are empty
pub record IsWritten (in_table : Bool) (text : List ℕ) (from : ℕ) (written : List ℕ) : Type 0 where
  pub within : from ≤ length text
  pub boundary : IsCharBoundary text from
  pub so_far : unescaped in_table text ≡ written ++ unescaped in_table (drop from text)
  pub fewer : ((from ≡ 0) × (written ≡ [])) ⊎ (length written < from)

-- no bytes are kept
pub kept_none : (t : Bool) (text : List ℕ) (from : ℕ) → from ≤ length text → IsKept t text from from
kept_none t text from within = let z : from - from ≡ 0 = omega arith in record { order = omega arith; within = within; kept = rw z refl }

-- the rule, step by step
skipped : (n : ℕ) (bs : List ℕ) → unescaped_after n bs ≡ unescaped_after 0 (drop n bs)
unfolding unescaped_after
skipped zero bs = refl
skipped (suc n) [] = refl
skipped (suc n) (b ∷ bs) = skipped n bs

after_plain : (b : ℕ) (bs : List ℕ) → replaced_at (b ∷ bs) ≡ None → unescaped_after 0 (b ∷ bs) ≡ b ∷ unescaped_after 0 bs
unfolding unescaped_after
after_plain b bs h = rw h

after_changed : (b n c : ℕ) (bs : List ℕ)
    → replaced_at (b ∷ bs) ≡ Some (suc n, c) → unescaped_after 0 (b ∷ bs) ≡ encode_utf8 c ++ unescaped_after 0 (drop n bs)
unfolding unescaped_after
after_changed b n c bs h = grind (arith, skipped)

changed_at : (n c : ℕ) (bs : List ℕ)
    → 0 < length bs → 0 < n → replaced_at bs ≡ Some (n, c) → unescaped_after 0 bs ≡ encode_utf8 c ++ unescaped_after 0 (drop n bs)
changed_at n c [] l s h = absurd (omega arith)
changed_at zero c (b ∷ bs) l s h = absurd (omega arith)
changed_at (suc n) c (b ∷ bs) l s h = after_changed b n c bs h

-- a byte that is neither a backslash nor `&`, and a pipe
no_entity : (b : ℕ) (bs : List ℕ) → (b == ampersand) ≡ false → entity_at (b ∷ bs) ≡ None
unfolding entity_at
no_entity b bs h = rw h

pub no_replacement : (b : ℕ) (bs : List ℕ) → (b == backslash) ≡ false → (b == ampersand) ≡ false → replaced_at (b ∷ bs) ≡ None
unfolding replaced_at
no_replacement b bs h h' = rw h (no_entity b bs h')

pub no_change : (t : Bool) (b : ℕ) (bs : List ℕ) → (b == backslash) ≡ false → (b == ampersand) ≡ false → change_at t (b ∷ bs) ≡ None
unfolding change_at
no_change true b bs h h' = rw h (no_replacement b bs h h')
no_change false b bs h h' = no_replacement b bs h h'

escape_at : (p : ℕ) (bs : List ℕ) → is_ascii_punctuation p ≡ true → replaced_at (backslash ∷ p ∷ bs) ≡ Some (2, p)
unfolding replaced_at
escape_at p bs h = rw h

entity_replaced : (bs : List ℕ) → begins_escape bs ≡ false → replaced_at bs ≡ entity_at bs
unfolding replaced_at
entity_replaced bs h = rw h

-- in a cell
cell_pipe_escape : (bs : List ℕ) → unescaped true (backslash ∷ backslash ∷ pipe ∷ bs) ≡ encode_utf8 pipe ++ unescaped true bs
cell_pipe_escape bs =
    let e : without_pipe_escapes (backslash ∷ backslash ∷ pipe ∷ bs) ≡ backslash ∷ pipe ∷ without_pipe_escapes bs =
    cell-same backslash (backslash ∷ pipe ∷ bs) refl ∙ ap (λ xs. backslash ∷ xs) (cell-dropped backslash (pipe ∷ bs) refl refl ∙ pipe_after (pipe ∷ bs) refl)
    in
    ap (unescaped_after 0) e ∙ after_changed backslash 1 pipe (pipe ∷ without_pipe_escapes bs) (escape_at pipe (without_pipe_escapes bs) refl)

cell_pipe : (bs : List ℕ) → unescaped true (backslash ∷ pipe ∷ bs) ≡ pipe ∷ unescaped true bs
cell_pipe bs = grind (arith, cell-dropped, pipe_after, after_plain, no_replacement)

escaped : (t : Bool) (p : ℕ) (bs : List ℕ) → is_ascii_punctuation p ≡ true → p < ascii_end → (t && begins_pipe_escape (backslash ∷ p ∷ bs)) ≡ false
    → unescaped t (backslash ∷ p ∷ bs) ≡ encode_utf8 p ++ unescaped t bs
escaped true p bs h l k = elim (cases_Bool (p == pipe)) [
  | inl e ↦
      subst (λ x. unescaped true (backslash ∷ x ∷ bs) ≡ x ∷ unescaped true bs) (sym (eqb-true p pipe e)) (cell_pipe bs)
      ∙ ap (λ xs. xs ++ unescaped true bs) (sym (encode_ascii p l))
  | inr e ↦
      ap (unescaped_after 0) (cell-same backslash (p ∷ bs) e ∙ ap (λ xs. backslash ∷ xs) (cell-same p bs k))
      ∙ after_changed backslash 1 p (p ∷ without_pipe_escapes bs) (escape_at p (without_pipe_escapes bs) h)
]
escaped false p bs h l k = after_changed backslash 1 p (p ∷ bs) (escape_at p bs h)

-- a change is not empty, and has more bytes than its character
pub record IsShorter (bs : List ℕ) (n c : ℕ) : Type 0 where
  pub some : 0 < n
  pub within : n ≤ length bs
  pub shorter : length (encode_utf8 c) < n
  pub first : get_or bs 0 0 < ascii_end
  pub last : get_or bs (n - 1) 0 < ascii_end

-- a change of bytes, and the bytes after it
pub record Changes (t : Bool) (bs : List ℕ) (n c : ℕ) : Type 0 where
  pub shorter : IsShorter bs n c
  pub changed : unescaped t bs ≡ encode_utf8 c ++ unescaped t (drop n bs)

escape_parts : (bs : List ℕ) → begins_escape bs ≡ true → bs ≡ backslash ∷ slice_index bs 1 ∷ drop 2 bs
escape_parts [] h = cc
escape_parts (b ∷ []) h = absurd (grind (arith, nat_tests, h))
escape_parts (b ∷ p ∷ bs) h = let q = and_parts _ _ h in ap (λ x. x ∷ p ∷ bs) (eqb-true b backslash q.0)

escape_changes : (t : Bool) (bs : List ℕ) → begins_escape bs ≡ true → (t && begins_pipe_escape bs) ≡ false → Changes t bs 2 (slice_index bs 1)
escape_changes t bs h k = grind (arith, escape_parts, and_parts, nat_tests, encode_ascii, escaped)

pipe_escape_parts : (bs : List ℕ) → begins backslash bs ≡ true → begins backslash (drop 1 bs) ≡ true → begins pipe (drop 2 bs) ≡ true
    → bs ≡ backslash ∷ backslash ∷ pipe ∷ drop 3 bs
pipe_escape_parts [] h i j = cc
pipe_escape_parts (b ∷ []) h i j = cc
pipe_escape_parts (b ∷ c ∷ []) h i j = cc
pipe_escape_parts (b ∷ c ∷ d ∷ bs) h i j = rw (eqb-true b backslash h, eqb-true c backslash i, eqb-true d pipe j)

-- three bytes: a backslash that escapes the pipe, a backslash that is dropped, and the pipe
pipe_escape_changes : (t : Bool) (bs : List ℕ) → (t && begins_pipe_escape bs) ≡ true → Changes t bs 3 pipe
pipe_escape_changes false bs h = absurd (false≢true h)
pipe_escape_changes true bs h = grind (arith, and_parts, encode_ascii, pipe_escape_parts, cell_pipe_escape)

-- a byte that begins no escape stays, and begins none in the text of the cell
second_stays : (bs : List ℕ)
    → is_ascii_punctuation (slice_index bs 0) ≡ false → (begins pipe bs ≡ false) × (slice_index (without_pipe_escapes bs) 0 ≡ slice_index bs 0)
second_stays [] h = (refl, ap (λ xs. slice_index xs 0) cell-nil)
second_stays (b ∷ bs) h = grind (arith, nat_tests, cell-other)

first_stays : (b : ℕ) (bs : List ℕ) → begins_escape (b ∷ bs) ≡ false
    → (without_pipe_escapes (b ∷ bs) ≡ b ∷ without_pipe_escapes bs) × (begins_escape (b ∷ without_pipe_escapes bs) ≡ false)
first_stays b bs q = elim (and_cases _ _ q) [
  | inl h ↦ (cell-other b bs h, and_left _ _ h)
  | inr h ↦ (let s = second_stays bs h in (cell-same b bs (and_right _ _ s.0), and_right _ _ (ap is_ascii_punctuation s.1 ∙ h)))
]

-- a reference that begins with such a byte stays
cell_replaced : (b : ℕ) (bs : List ℕ) → begins_escape (b ∷ bs) ≡ false → replaced_at (b ∷ without_pipe_escapes bs) ≡ entity_at (b ∷ bs)
cell_replaced b bs q =
    let s = first_stays b bs q in
    entity_replaced (b ∷ without_pipe_escapes bs) s.1 ∙ ap entity_at (sym s.0) ∙ entity_at-cell (b ∷ bs)

-- an entity
first_of_entity : (bs : List ℕ) (n c : ℕ) → entity_at bs ≡ Some (n, c) → begins ampersand bs ≡ true
unfolding entity_at
first_of_entity bs n c h = grind (arith, cases_Bool, none-some)

entity_shorter : (bs : List ℕ) (n c : ℕ) → entity_at bs ≡ Some (n, c) → IsShorter bs n c
entity_shorter bs n c h =
    let r = entity_is_reference bs n c h in
    let some = r.ends.some in
    let plain = r.ends.plain in
    let w = prefix_len-le-length is_plain bs in
    let l = length-encode c in
    let s = r.shorter in
    let first = (first_byte ampersand bs 0 (first_of_entity bs n c h)).1 in
    let last = r.ends.last in
    record { some = some; within = omega arith; shorter = omega arith; first = omega arith; last = omega arith }

cell_entity : (bs : List ℕ) (n c : ℕ) → entity_at bs ≡ Some (n, c) → begins_escape bs ≡ false → unescaped true bs ≡ encode_utf8 c ++ unescaped true (drop n bs)
cell_entity [] n c h q = let w = (entity_shorter [] n c h).within in let s = (entity_shorter [] n c h).some in absurd (omega arith)
cell_entity (b ∷ bs) n c h q =
    let r = (entity_is_reference (b ∷ bs) n c h).ends in
    let e = (first_stays b bs q).0 in
    let l = ap length e in
    changed_at n c (without_pipe_escapes (b ∷ bs)) (omega arith) r.some (ap replaced_at e ∙ cell_replaced b bs q ∙ h)
    ∙ ap (λ xs. encode_utf8 c ++ unescaped_after 0 xs) (plain_stay n (b ∷ bs) r.plain).1

entity_changes : (t : Bool) (bs : List ℕ) (n c : ℕ) → begins_escape bs ≡ false → entity_at bs ≡ Some (n, c) → Changes t bs n c
entity_changes true bs n c q h = record { shorter = entity_shorter bs n c h; changed = cell_entity bs n c h q }
entity_changes false bs n c q h =
    let s = entity_shorter bs n c h in
    let w = s.within in
    let k = s.some in
    record { shorter = s; changed = changed_at n c bs (omega arith) k (entity_replaced bs q ∙ h) }

-- what holds of each value that an option may have
if_some : {P : ℕ × ℕ → Type 0} (o : Option (ℕ × ℕ)) → ((x : ℕ × ℕ) → o ≡ Some x → P x) → IfSome o P
if_some None f = tt
if_some (Some x) f = f x refl

-- every change
changes_if : (t : Bool) (bs : List ℕ) → IfSome (change_at t bs) (λ x. Changes t bs x.0 x.1)
unfolding change_at replaced_at
changes_if t bs = grind (arith, cond_both, pipe_escape_changes, escape_changes, if_some, entity_changes)

pub changes : (t : Bool) (bs : List ℕ) (n c : ℕ) → change_at t bs ≡ Some (n, c) → Changes t bs n c
changes t bs n c e = rw e at (changes_if t bs)

-- no change
plain_by : (t : Bool) (b : ℕ) (bs : List ℕ) → begins_escape (b ∷ bs) ≡ false → entity_at (b ∷ bs) ≡ None → unescaped t (b ∷ bs) ≡ b ∷ unescaped t bs
plain_by true b bs q e = grind (arith, first_stays, after_plain, cell_replaced)
plain_by false b bs q e = after_plain b bs (entity_replaced (b ∷ bs) q ∙ e)

pub plain_byte : (t : Bool) (b : ℕ) (bs : List ℕ) → change_at t (b ∷ bs) ≡ None → unescaped t (b ∷ bs) ≡ b ∷ unescaped t bs
unfolding change_at replaced_at
plain_byte t b bs = grind (arith, cond_both, plain_by)

pub unescaped-nil : (t : Bool) → unescaped t [] ≡ []
unfolding unescaped_after without_pipe_escapes
unescaped-nil true = refl
unescaped-nil false = refl

-- nothing gets longer
shrinks_by : (t : Bool) (k b : ℕ) (bs : List ℕ) (o : Option (ℕ × ℕ)) → change_at t (b ∷ bs) ≡ o → length bs ≤ k
    → ((xs : List ℕ) → length xs ≤ k → length (unescaped t xs) ≤ length xs) → length (unescaped t (b ∷ bs)) ≤ suc (length bs)
shrinks_by t k b bs None e l f = grind (arith, plain_byte)
shrinks_by t k b bs (Some x) e l f =
    let c = changes t (b ∷ bs) x.0 x.1 e in
    let some = c.shorter.some in
    let within = c.shorter.within in
    let shorter = c.shorter.shorter in
    let i = ap length c.changed in
    let a = length-append (encode_utf8 x.1) (unescaped t (drop x.0 (b ∷ bs))) in
    let d = length-drop x.0 (b ∷ bs) in
    let r = f (drop x.0 (b ∷ bs)) (omega arith) in
    omega arith

shrinks_to : (t : Bool) (k : ℕ) (bs : List ℕ) → length bs ≤ k → length (unescaped t bs) ≤ length bs
shrinks_to t k [] l = let e = ap length (unescaped-nil t) in omega arith
shrinks_to t zero (b ∷ bs) l = absurd (omega arith)
shrinks_to t (suc k) (b ∷ bs) l = shrinks_by t k b bs _ refl (omega arith) (shrinks_to t k)

pub shrinks : (t : Bool) (bs : List ℕ) → length (unescaped t bs) ≤ length bs
shrinks t bs = shrinks_to t (length bs) bs (omega arith)

-- one more byte is kept if no change is there
pub kept_more : (t : Bool) (text : List ℕ) (from at : ℕ)
    → IsKept t text from at → at < length text → change_at t (drop at text) ≡ None → IsKept t text from (at + 1)
kept_more t text from at i l e =
    let order = i.order in
    let rest = unescaped t (drop (at + 1) text) in
    let d = drop_more text at 0 l in
    let p : unescaped t (drop at text) ≡ part text at (at + 1) ++ rest =
    ap (unescaped t) d ∙ plain_byte t (get_or text at 0) (drop (at + 1) text) (ap (change_at t) (sym d) ∙ e) ∙ ap (λ xs. xs ++ rest) (sym (part-one text at l))
    in
    record {
      order = omega arith;
      within = omega arith;
      kept = i.kept ∙ ap (λ xs. part text from at ++ xs) p ∙ sym (append_assoc (part text from at) (part text at (at + 1)) rest)
          ∙ ap (λ xs. xs ++ rest) (part-split text from at (at + 1) (omega arith) (omega arith));
    }

unmarked_at : (t : Bool) (b : ℕ) (bs : List ℕ) → is_unmarked b ≡ true → change_at t (b ∷ bs) ≡ None
unmarked_at t b bs f = no_change t b bs (grind (arith, nat_tests, f)) (grind (arith, nat_tests, f))

pub kept_run : (t : Bool) (text : List ℕ) (from at k : ℕ)
    → IsKept t text from at → at + k ≤ length text → ((j : ℕ) → j < k → is_unmarked (get_or (drop at text) j 0) ≡ true) → IsKept t text from (at + k)
kept_run t text from at zero i l f = let e : at + 0 ≡ at = omega arith in rw e i
kept_run t text from at (suc k) i l f =
    let r = kept_run t text from at k i (omega arith) (λ j h. f j (omega arith)) in
    let d = drop_more text (at + k) 0 (omega arith) in
    let g = get_or-drop at text k 0 in
    let p = unmarked_at t (get_or text (at + k) 0) (drop (at + k + 1) text) (ap is_unmarked (sym g) ∙ f k (omega arith)) in
    let s : at + suc k ≡ at + k + 1 = omega arith in
    rw s (kept_more t text from (at + k) r (omega arith) (ap (change_at t) d ∙ p))

pub change_here : (t : Bool) (text : List ℕ) (from at n c : ℕ)
    → IsKept t text from at → change_at t (drop at text) ≡ Some (n, c) → IsChange t text from (at, n, c)
change_here t text from at n c i e =
    let x = changes t (drop at text) n c e in
    let some = x.shorter.some in
    let within = x.shorter.within in
    let last = x.shorter.last in
    let first = x.shorter.first in
    let inside = i.within in
    let d = length-drop at text in
    let s : at + (n - 1) ≡ at + n - 1 = omega arith in
    let f = first-drop at text in
    let g = get_or-drop at text (n - 1) 0 ∙ ap (λ k. get_or text k 0) s in
    record {
      order = i.order;
      within = omega arith;
      shorter = x.shorter.shorter;
      first = omega arith;
      last = omega arith;
      replaced = i.kept ∙ ap (λ xs. take (at - from) (drop from text) ++ xs) (x.changed ∙ ap (λ xs. encode_utf8 c ++ unescaped t xs) (drop-drop n at text));
    }

pub kept_all : (t : Bool) (text : List ℕ) (from at : ℕ) → IsKept t text from at → at ≡ length text → unescaped t (drop from text) ≡ drop from text
kept_all t text from at i e =
    let d = length-drop from text in
    let none : drop at text ≡ [] = drop_all at text (omega arith) in
    i.kept ∙ ap (λ xs. take (at - from) (drop from text) ++ unescaped t xs) none ∙ ap (λ xs. take (at - from) (drop from text) ++ xs) (unescaped-nil t)
    ∙ append-nil (take (at - from) (drop from text)) ∙ take_all (at - from) (drop from text) (omega arith)

-- a text without a backslash and `&` is unescaped to itself
pub unmarked_same : (t : Bool) (text : List ℕ) → IsRunIn is_unmarked text 0 (length text) (length text) → unescaped t text ≡ text
unmarked_same t text run =
    let start : IsKept t text 0 0 = record { order = omega arith; within = omega arith; kept = refl } in
    let all = kept_run t text 0 0 (length text) start (omega arith) (λ j l. run.1 j (omega arith) (omega arith)) in
    kept_all t text 0 (0 + length text) all (omega arith)

-- bytes that are written
written_length : (from at n : ℕ) (written : List ℕ) → ((from ≡ 0) × (written ≡ [])) ⊎ (length written < from) → length written ≤ from
written_length from at n written (inl h) = let e = ap length h.1 in omega arith
written_length from at n written (inr h) = omega arith

pub written_more : (t : Bool) (text : List ℕ) (from at n c : ℕ) (written : List ℕ)
    → IsUtf8 text → IsWritten t text from written → IsChange t text from (at, n, c)
    → IsWritten t text (at + n) ((written ++ take (at - from) (drop from text)) ++ encode_utf8 c)
written_more t text from at n c written u i x =
    let order = x.order in
    let within = x.within in
    let shorter = x.shorter in
    let last = x.last in
    let bound = written_length from at n written i.fewer in
    let rest = unescaped t (drop (at + n) text) in
    let middle = take (at - from) (drop from text) in
    let s : at + n - 1 + 1 ≡ at + n = omega arith in
    let b = IsCharBoundary-after_ascii text (at + n - 1) u (omega arith) last in
    let a = length-append (written ++ middle) (encode_utf8 c) in
    let a' = length-append written middle in
    let m = length-take (at - from) (drop from text) in
    record {
      within = within;
      boundary = subst (IsCharBoundary text) s b;
      so_far = i.so_far ∙ ap (λ xs. written ++ xs) x.replaced ∙ sym (append_assoc written middle (encode_utf8 c ++ rest))
          ∙ sym (append_assoc (written ++ middle) (encode_utf8 c) rest);
      fewer = inr (omega arith);
    }

-- a text with a change differs from its source
pub change_differs : (t : Bool) (text : List ℕ) (from at n c : ℕ) (written : List ℕ)
    → IsUtf8 text → IsWritten t text from written → IsChange t text from (at, n, c) → unescaped t text ≡ text → ⊥
change_differs t text from at n c written u i x e =
    let w = written_more t text from at n c written u i x in
    let now : List ℕ = (written ++ take (at - from) (drop from text)) ++ encode_utf8 c in
    let rest = unescaped t (drop (at + n) text) in
    let l = ap length (sym e ∙ w.so_far) ∙ length-append now rest in
    elim w.fewer [
      | inl none ↦ omega (arith, none.0, x.shorter)
      | inr less ↦ omega (arith, less, l, shrinks t (drop (at + n) text), length-drop (at + n) text, w.within)
    ]
