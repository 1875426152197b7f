-- What is taken from a line, indentation, prefixes or markers, ends at a place of the text in the same line.
use Rattle.std.proofs.Common.{◌≡◌, inl, inr, ◌≤◌, ℕ, ◌+◌, ◌<◌, zero, suc, Bool, true, if◌then◌else◌, List, [], ◌∷◌, length, drop, MatchOption, Option, Some}
use Rattle.std.proofs.Common.{None, IsUtf8, IsCharBoundary, refl, sym, ap, subst, ◌∙◌, arith}
use Rattle.first_pass_grammar.proofs.Common.{drop_all, cases_lt, cond_some, Item, Options, has, is_task_marker, line_len, task_of, IsMarked, Rest, next_column}
use Rattle.first_pass_grammar.proofs.Common.{after_columns, indent, past_quote, Place, line_rest, place_at, offset, line_end, IsPlaceOf, after-more, after-none}
use Rattle.first_pass_grammar.proofs.Common.{line_is_place, columns_keep, columns_line_end, has_columns, prefix, after, or_shorter, front, all_taken}
use Rattle.first_pass_grammar.proofs.Common.{unindented, definition_marker_at, task_by, task_after, some_if, some_mapped, same_Some}
use Rattle.first_pass_open.proofs.Common.{Container, BlockQuote, all-more, option_and_then_some, task-marked, marked-keeps, marked-line_end}
use Rattle.first_pass_lines.proofs.LineFacts.{line_len-none}
use Rattle.first_pass_lines.proofs.PlaceFacts.{place_line_end, quote_keeps, quote_line_end}
use Rattle.first_pass_grammar.specs.Kinds.{item_at}
use Rattle.first_pass_grammar.proofs.Sequences.PlacesKept.{marked_less, item_marked, marked_definition, item_shorter}

-- It makes no difference if some of the columns are taken before all others.
pub all_after : (k : ℕ) (r : Rest) → after_columns (indent (after_columns k r)) (after_columns k r) ≡ after_columns (indent r) r
all_after zero r = refl
all_after (suc k) r = by (next_column r) refl (λ s. all_after k s)
  where
    by : (o : Option Rest) → next_column r ≡ o
        → ((s : Rest) → after_columns (indent (after_columns k s)) (after_columns k s) ≡ after_columns (indent s) s)
        → after_columns (indent (after_columns (suc k) r)) (after_columns (suc k) r) ≡ after_columns (indent r) r
    by None e f = ap (λ s. after_columns (indent s) s) (after-none (suc k) r e)
    by (Some s) e f = ap (λ t. after_columns (indent t) t) (after-more (suc k) k r s refl e) ∙ f s ∙ all-more r s e

-- The place after all columns is a place of the text.
pub all_keep : (text : List ℕ) (line : ℕ) (r : Rest) → IsUtf8 text → IsPlaceOf text (place_at line r) → IsPlaceOf text (place_at line (all_taken r))
all_keep text line r u i = columns_keep text (indent r) (place_at line r) u i

-- the place before `s` is one of the text, in the line of the place before `r`
abbrev pub StaysInLine : List ℕ → ℕ → Rest → Rest → Type 0
StaysInLine text line r s = IsPlaceOf text (place_at line s) × (line_end (place_at line s) ≡ line_end (place_at line r))

-- The place after columns, or after those of a container, is one of the text, in the same line.
columns_stay : (text : List ℕ) (line n : ℕ) (r : Rest) → IsUtf8 text → IsPlaceOf text (place_at line r) → StaysInLine text line r (after_columns n r)
columns_stay text line n r u i = (columns_keep text n (place_at line r) u i, columns_line_end n (place_at line r))

columns_prefix : (text : List ℕ) (line n : ℕ) (r s : Rest)
    → IsUtf8 text → (if has_columns n r then Some (after_columns n r) else None) ≡ Some s → IsPlaceOf text (place_at line r) → StaysInLine text line r s
columns_prefix text line n r s u e i =
    subst (StaysInLine text line r) (cond_some (has_columns n r) (after_columns n r) s e).1 (columns_stay text line n r u i)

-- The place after a prefix is one of the text, in the same line.
pub prefix_keeps : (text : List ℕ) (line : ℕ) (c : Container) (r s : Rest) → IsUtf8 text → prefix c r ≡ Some s → IsPlaceOf text (place_at line r)
    → StaysInLine text line r s
unfolding prefix
prefix_keeps text line (BlockQuote kind) r s u e i =
    let q : Rest = after_columns 3 r in
    let m = some_mapped (after_columns 1) (past_quote q) s e in
    let f = columns_stay text line 3 r u i in
    let g = columns_stay text line 1 m.0 u (quote_keeps text line q m.0 u m.1 f.0) in
    subst (StaysInLine text line r) m.2 (g.0, g.1 ∙ quote_line_end line q m.0 m.1 ∙ f.1)
prefix_keeps text line c r s u e i = columns_prefix text line _ r s u e i

-- The place after the prefixes of a path is one of the text, in the same line.
pub after_keeps : (text : List ℕ) (line : ℕ) (path : List Container) (r s : Rest) → IsUtf8 text → after path r ≡ Some s → IsPlaceOf text (place_at line r)
    → StaysInLine text line r s
unfolding after
after_keeps text line [] r s u e i = let f : r ≡ s = cc in subst (StaysInLine text line r) f (i, refl)
after_keeps text line (c ∷ path) r s u e i = option_and_then_some (prefix c) (after path r) s e (λ q g k.
    let before = after_keeps text line path r q u g i in
    let h = prefix_keeps text line c q s u k before.0 in
    (h.0, h.1 ∙ before.1))

-- The place at the front of a line is one of the text, in the same line.
pub front_keeps : (text : List ℕ) (line : ℕ) (path : List Container) (r : Rest) → IsUtf8 text → IsPlaceOf text (place_at line r)
    → StaysInLine text line r (front path r)
unfolding front
front_keeps text line [] r u i = (i, refl)
front_keeps text line (c ∷ path) r u i = by (after (c ∷ path) r) refl (front_keeps text line path r u i)
  where
    by : (o : Option Rest) → after (c ∷ path) r ≡ o → StaysInLine text line r (front path r) → StaysInLine text line r (or_shorter o (front path r))
    by None e f = f
    by (Some s) e f = after_keeps text line (c ∷ path) r s u e i

-- The end of the line that begins at an offset is the offset and the length of the line.
pub line_start_end : (text : List ℕ) (start : ℕ) → line_end (place_at start (line_rest (drop start text))) ≡ start + line_len (drop start text)
line_start_end text start = omega arith

-- The place after the indentation of the front is one of the text, in the same line.
pub text_place : (text : List ℕ) (s : ℕ) (path : List Container) → IsUtf8 text → IsCharBoundary text s
    → (
    let r : Rest = front path (line_rest (drop s text)) in
    IsPlaceOf text (unindented (place_at s r)) × (line_end (unindented (place_at s r)) ≡ s + line_len (drop s text)))
text_place text s path u b =
    let f = front_keeps text s path (line_rest (drop s text)) u (line_is_place text s b) in
    let r : Rest = front path (line_rest (drop s text)) in
    (all_keep text s r u f.0, columns_line_end (indent r) (place_at s r) ∙ f.1 ∙ line_start_end text s)

-- If a block quote marker was found, this is the place after it, and the number of bytes before it.
pub quote_taken : (o : Option Rest) (found : Option ℕ) (n at : ℕ) (old new : Rest)
    → found ≡ Some at → MatchOption o ((found ≡ None) × (new ≡ old)) (λ next. (found ≡ Some n) × (new ≡ next)) → (o ≡ Some new) × (at ≡ n)
quote_taken None found n at old new e m = (cc, cc)
quote_taken (Some r) found n at old new e m = (cc, cc)

pub quote_absent : (o : Option Rest) (found : Option ℕ) (n : ℕ) (old new : Rest)
    → found ≡ None → MatchOption o ((found ≡ None) × (new ≡ old)) (λ next. (found ≡ Some n) × (new ≡ next)) → (o ≡ None) × (new ≡ old)
quote_absent None found n old new e m = (refl, m.1)
quote_absent (Some r) found n old new e m = (cc, cc)

-- The offset after a part is taken at a place is the same, computed from either of two equal places.
pub read_to : (f : Rest → Rest) (n : ℕ) (p q : Place) (s : Rest)
    → n ≡ offset (place_at q.line s) → s ≡ f q.rest → q ≡ p → n ≡ offset (place_at p.line (f p.rest))
read_to f n p q s is rest same = is ∙ ap (λ (r : Rest). q.line + r.taken) rest ∙ ap (λ (z : Place). z.line + (f z.rest).taken) same

no_line : (bs : List ℕ) → length bs ≤ 0 → line_len bs ≡ 0
no_line [] h = line_len-none
no_line (b ∷ bs) h = absurd (omega arith)

-- A line ends between characters.
pub place_end : (text : List ℕ) (p : Place) → IsUtf8 text → IsPlaceOf text p → IsCharBoundary text (line_end p)
place_end text p u i = elim (cases_lt 0 (length p.rest.left)) [
  | inl some ↦ place_line_end text p u i some
  | inr none ↦ (let e : line_end p ≡ offset p = omega (arith, no_line p.rest.left none) in subst (IsCharBoundary text) (sym e) i.boundary)
]

-- The place after columns and a marker is one of the text, in the same line, with fewer bytes left.
marked_stays : (text : List ℕ) (line n : ℕ) (r s : Rest)
    → IsUtf8 text → IsMarked (after_columns n r) s → IsPlaceOf text (place_at line r) → StaysInLine text line r s
marked_stays text line n r s u m i =
    let f = columns_stay text line n r u i in
    (marked-keeps text line (after_columns n r) s u m f.0, marked-line_end line (after_columns n r) s m ∙ f.1)

-- The place after a list item's marker is one of the text, in the same line.
pub item_keeps : (text : List ℕ) (line : ℕ) (r : Rest) (item : (ℕ × ℕ × ℕ) × Rest) → IsUtf8 text → item_at r ≡ Some item → IsPlaceOf text (place_at line r)
    → StaysInLine text line r item.1
item_keeps text line r item u h i = marked_stays text line (indent r) r item.1 u (item_marked r item h) i

-- The place after a definition's marker is one of the text, in the same line.
pub definition_keeps : (text : List ℕ) (line : ℕ) (r : Rest) (definition : ℕ × Rest)
    → IsUtf8 text → definition_marker_at r ≡ Some definition → IsPlaceOf text (place_at line r) → StaysInLine text line r definition.1
definition_keeps text line r definition u h i = marked_stays text line (indent r) r definition.1 u (marked_definition r definition h) i

pub task_shorter : (r : Rest) (task : Bool × Rest) → task_of r ≡ Some task → length task.1.left < length r.left
task_shorter r task h = marked_less 3 r task.1 (task-marked r task h)

-- the place before `q` is one of the text, in the line of the place before `r`, with no more bytes left than there
abbrev pub StaysAndTakes : List ℕ → ℕ → Rest → Rest → Type 0
StaysAndTakes text line r q =
    IsPlaceOf text (place_at line q) × (line_end (place_at line q) ≡ line_end (place_at line r)) × (length q.left ≤ length r.left)

-- The place after a task list item marker is one of the text, in the same line, with no more bytes left than before.
pub task_keeps : (text : List ℕ) (line : ℕ) (r : Rest) (task : Bool × Rest) → IsUtf8 text → task_of r ≡ Some task → IsPlaceOf text (place_at line r)
    → StaysAndTakes text line r task.1
task_keeps text line r task u h i =
    let f = marked_stays text line 3 r task.1 u (task-marked r task h) i in
    (f.0, f.1, omega (arith, task_shorter r task h))

pub task_found : (o : Option (Bool × Rest)) (found : Option Bool) (checked : Bool) (old new : Rest)
    → found ≡ Some checked → MatchOption o ((found ≡ None) × (new ≡ old)) (λ task. (found ≡ Some task.0) × (new ≡ task.1)) → o ≡ Some (checked, new)
task_found None found checked old new e h = cc
task_found (Some task) found checked old new e h =
    (let same : task.0 ≡ checked = cc in ap (λ k. Some (k, task.1)) same ∙ ap (λ (q : Rest). Some (checked, q)) (sym h.1))

-- The place after a task list item marker, if there is one, is one of the text, in the same line.
following_by : (text : List ℕ) (line : ℕ) (r : Rest) (o : Option (Bool × Rest))
    → ((task : Bool × Rest) → o ≡ Some task → task_of r ≡ Some task) → IsUtf8 text → IsPlaceOf text (place_at line r)
    → StaysAndTakes text line r (task_by line r o).1
following_by text line r None h u i = (i, refl, omega arith)
following_by text line r (Some task) h u i = task_keeps text line r task u (h task refl) i

pub option_on : (t : Bool) (o : Option (Bool × Rest)) (task : Bool × Rest) → (if t then o else None) ≡ Some task → o ≡ Some task
option_on t o task h = (some_if t o task h).1

past_keeps : (text : List ℕ) (options : Options) (line : ℕ) (r : Rest) → IsUtf8 text → IsPlaceOf text (place_at line r)
    → StaysAndTakes text line r (task_after options line r).1
past_keeps text options line r u i =
    following_by text line r (if has options 16 then task_of r else None) (λ task h. option_on (has options 16) (task_of r) task h) u i

-- The place after an item's marker, and after a task list item marker if one follows, is one of the text, in the same
-- line.
pub markers_keep : (text : List ℕ) (options : Options) (line : ℕ) (r : Rest) (item : (ℕ × ℕ × ℕ) × Rest) (new : Rest)
    → IsUtf8 text → item_at r ≡ Some item → new ≡ (task_after options line item.1).1 → IsPlaceOf text (place_at line r)
    → IsPlaceOf text (place_at line new) × (line_end (place_at line new) ≡ line_end (place_at line r)) × (length new.left < length r.left)
markers_keep text options line r item new u is rest i =
    let k = item_keeps text line r item u is i in
    let b = past_keeps text options line item.1 u k.0 in
    let s = item_shorter r item is in
    rw rest (b.0, b.1 ∙ k.1, omega (arith, b.2))

-- What is found after an item's own marker is a task list item marker.
mark_by : (line : ℕ) (r : Rest) (o : Option (Bool × Rest)) (x : Item) → (task_by line r o).0 ≡ Some x → is_task_marker x.body ≡ true
mark_by line r None x h = cc
mark_by line r (Some task) x h = subst (λ (i : Item). is_task_marker i.body ≡ true) (same_Some _ x h) refl

pub mark_is_task : (options : Options) (line : ℕ) (r : Rest) (x : Item) → (task_after options line r).0 ≡ Some x → is_task_marker x.body ≡ true
mark_is_task options line r x h = mark_by line r (if has options 16 then task_of r else None) x h

-- The end of a line can be computed from any place in it.
pub read_end : (text : List ℕ) (start : ℕ) (r : Rest)
    → IsPlaceOf text (place_at start r) → start + r.taken + line_len (drop (start + r.taken) text) ≡ line_end (place_at start r)
read_end text start r i = ap (λ bs. start + r.taken + line_len bs) (sym i.left)

-- No bytes are past the end of a text.
pub ends_past : (text : List ℕ) (n : ℕ) → length text ≤ n → drop n text ≡ []
ends_past text n h = drop_all n text h
