-- The lines after the line in which something ends: a link reference definition, or the head of a footnote definition.
-- The place where blocks continue after such a head, and the contents of a head that is read.
use Rattle.std.proofs.Common.{◌≡◌, inl, inr, ℕ, zero, suc, ◌+◌, ◌-◌, ◌<◌, ◌≤◌, Bool, true, false, nat_lt, List, [], ◌∷◌, length, drop, slice_index, refl, sym}
use Rattle.std.proofs.Common.{ap, ◌∙◌, arith, Option, Some, None, IsUtf8, IsCharBoundary, subst, length-drop, if◌then◌else◌, true≢false, drop-drop, get_or-drop}
use Rattle.std.proofs.Common.{unwrap_or, option_and_then}
use Rattle.first_pass_grammar.proofs.Common.{cases_lt, nat_tests, drop_all, is_line_end, line_len, begins, is_white, blank_len, Place, offset, line_end}
use Rattle.first_pass_grammar.proofs.Common.{IsPlaceOf, line_place, line_len-within, lines_at-line, lines_at-end, lines_beyond, lines_from, prefix_len, colon}
use Rattle.first_pass_grammar.proofs.Common.{gfm_footnotes, indent, label_at, first_byte, begins_footnote_mark, head_after, footnote_head, Document}
use Rattle.first_pass_grammar.proofs.Common.{place_length, columns_line_end, bytes_line_end, line_end_boundary, unindented, is_blank_rest, place_past}
use Rattle.first_pass_grammar.proofs.Common.{past_head, footnote_at, footnote_head_at, Context}
use Rattle.first_pass_containers.proofs.Common.{all_keep, line_start_end}
use Rattle.first_pass_lines.proofs.LineFacts.{line_len-none, line_len-inside, line_len-blank}
use Rattle.first_pass_ready.proofs.FootnoteLemmas.{after_note}
use Rattle.first_pass_containers.specs.FootnoteHeads.{head_read, blank_before_more, head_end, after_head, footnote_mark_at}
use Rattle.first_pass_grammar.proofs.Order.RowEnds.{white_content}
use Rattle.first_pass_lines.proofs.PlaceFacts.{last_of_line}

-- two offsets in a line have the same end of it
same_end : (text : List ℕ) (s e : ℕ) → s ≤ e → e < s + line_len (drop s text) → s + line_len (drop s text) ≡ e + line_len (drop e text)
same_end text s e low less =
    let k : ℕ = e - s in
    let inside = line_len-inside (drop s text) k (omega arith) in
    let there : s + k ≡ e = omega arith in
    let same = ap line_len (drop-drop k s text ∙ ap (λ (n : ℕ). drop n text) there) in
    omega arith

-- a later offset is not in an earlier line
pub line_after : (text : List ℕ) (s e : ℕ) → s ≤ e → s + line_len (drop s text) ≤ e + line_len (drop e text)
line_after text s e low =
    elim (cases_lt e (s + line_len (drop s text))) [ inl less ↦ omega (arith, same_end text s e low less) | inr more ↦ omega arith ]

-- no line that begins after an offset is left out
kept_lines : (text : List ℕ) (e l : ℕ) → e ≤ l → lines_beyond e (lines_from text l) ≡ lines_from text l
unfolding lines_beyond
kept_lines text e l low = grind (arith, cases_lt, lines_at-line, nat_tests, lines_at-end)

one_left_out : (text : List ℕ) (e l : ℕ)
    → l < e → e ≤ length text → lines_beyond e (lines_from text l) ≡ lines_beyond e (lines_from text (l + line_len (drop l text)))
unfolding lines_beyond
one_left_out text e l low within = grind (arith, lines_at-line, nat_tests)

-- if no line ends between two offsets, the line that is read from either has the same end
same_line_end : (text : List ℕ) (a e : ℕ) → a < e → e ≤ length text → e ≤ a + line_len (drop a text) → is_line_end (slice_index text (e - 1)) ≡ false
    → a + line_len (drop a text) ≡ e + line_len (drop e text)
same_line_end text a e less within low no_end =
    let size : length (drop a text) ≡ length text - a = length-drop a text in
    elim (cases_lt e (a + line_len (drop a text))) [
      | inl inside ↦ same_end text a e (omega arith) inside
      | inr past ↦ (elim (last_of_line (drop a text) (omega arith)) [
        | inl last ↦ (let n : ℕ = line_len (drop a text) - 1 in
            let there : a + n ≡ e - 1 = omega arith in
            absurd (true≢false (sym last ∙ ap is_line_end (get_or-drop a text n 0 ∙ ap (slice_index text) there) ∙ no_end)))
        | inr all ↦ (let none : line_len (drop e text) ≡ 0 = ap line_len (drop_all e text (omega arith)) ∙ line_len-none in omega arith)
      ])
    ]

lines_on : (fuel : ℕ) (text : List ℕ) (a e : ℕ) → e ≤ a + fuel → a < e → e ≤ length text → is_line_end (slice_index text (e - 1)) ≡ false
    → lines_beyond e (lines_from text (a + line_len (drop a text))) ≡ lines_from text (e + line_len (drop e text))
lines_on zero text a e node_bound less within no_end = absurd (omega arith)
lines_on (suc fuel) text a e node_bound less within no_end =
    let l : ℕ = a + line_len (drop a text) in
    let some = line_len-within text a (omega arith) in
    elim (cases_lt l e) [
      | inl before ↦ (let more = some.0 in one_left_out text e l before within ∙ lines_on fuel text l e (omega arith) before within no_end)
      | inr past ↦ kept_lines text e l past ∙ ap (lines_from text) (same_line_end text a e less within past no_end)
    ]

-- The lines after a definition that begins and ends at two offsets: those after the line in which it ends.
pub lines_after_it : (text : List ℕ) (p : Place) (e : ℕ) → IsPlaceOf text p → offset p < e → e ≤ length text → is_line_end (slice_index text (e - 1)) ≡ false
    → (lines_beyond e (lines_from text (line_end p)) ≡ lines_from text (e + line_len (drop e text))) × (line_end p ≤ e + line_len (drop e text))
lines_after_it text p e i less within no_end =
    let ends : line_end p ≡ offset p + line_len (drop (offset p) text) = ap (λ bs. offset p + line_len bs) i.left in (
      ap (λ n. lines_beyond e (lines_from text n)) ends ∙ lines_on e text (offset p) e (omega arith) less within no_end,
      omega (arith, ends, line_after text (offset p) e (omega arith)),
    )

-- ---- the head of a footnote definition

after_some : (q : Place) (lines : List Place) → is_blank_rest q.rest ≡ false → past_head false q lines ≡ (q, lines)
after_some q [] h = refl
after_some q (line ∷ lines) h = rw h refl

-- blocks continue at an offset after a head that ends at another
abbrev pub ContinuesAt : Bool → List ℕ → ℕ → ℕ → Type 0
ContinuesAt gfm text e at =
    (after_head gfm text e ≡ (head_end text at, lines_from text (line_end (head_end text at))))
    × (line_end (head_end text e) ≤ line_end (head_end text at)) × IsCharBoundary text at

continues_here : (gfm : Bool) (text : List ℕ) (e skip : ℕ) → IsCharBoundary text e → skip ≡ 0
    → after_head gfm text e ≡ (head_end text e, lines_from text (line_end (head_end text e))) → ContinuesAt gfm text e (e + skip)
continues_here gfm text e skip b none h = grind arith

continues_next : (text : List ℕ) (e n : ℕ) → IsUtf8 text → IsCharBoundary text e → blank_len (drop e text) ≡ Some n → e + n < length text
    → ContinuesAt false text e (e + n)
continues_next text e n u b blank more = grind (arith, line_len-blank, line_start_end, lines_at-line, line_end_boundary)

continues_by : (text : List ℕ) (e skip : ℕ) (o : Option ℕ) (t : Bool) → IsUtf8 text → IsCharBoundary text e → blank_len (drop e text) ≡ o
    → nat_lt (unwrap_or o 0) (length (drop e text)) ≡ t → skip ≡ (if t then unwrap_or o 0 else 0) → ContinuesAt false text e (e + skip)
continues_by text e skip None t u b blank less is = grind (arith, continues_here, after_some)
continues_by text e skip (Some n) true u b blank less is =
    let size : length (drop e text) ≡ length text - e = length-drop e text in
    let low : n < length (drop e text) = grind (arith, nat_tests, less) in
    subst (λ k. ContinuesAt false text e (e + k)) (sym is) (continues_next text e n u b blank (omega arith))
continues_by text e skip (Some n) false u b blank less is =
    let size : length (drop e text) ≡ length text - e = length-drop e text in
    let high : length (drop e text) ≤ n = grind (arith, nat_tests, less) in
    let all : line_len (drop e text) ≡ n = line_len-blank (drop e text) n blank in
    let past : length text ≤ line_end (head_end text e) = (let stop = line_start_end text e in let w = b.0 in omega arith) in
    continues_here false text e skip b is
    (rw (lines_at-end text (line_end (head_end text e)) past) refl)

pub continues : (gfm : Bool) (text : List ℕ) (e skip : ℕ) → IsUtf8 text → IsCharBoundary text e
    → skip ≡ (if gfm then 0 else blank_before_more (drop e text)) → ContinuesAt gfm text e (e + skip)
continues true text e skip u b is = continues_here true text e skip b is refl
continues false text e skip u b is =
    continues_by text e skip (blank_len (drop e text)) (nat_lt (unwrap_or (blank_len (drop e text)) 0) (length (drop e text))) u b refl refl is

-- a head ends with its colon, which is no line ending
colon_by : (bs : List ℕ) (n : ℕ) (text : List ℕ) (head : ℕ × List ℕ) (t : Bool) → begins colon (drop n (drop 2 bs)) ≡ t
    → (if t then Some (n + 3, text) else None) ≡ Some head → (3 ≤ head.0) × (head.0 ≤ length bs) × (slice_index bs (head.0 - 1) ≡ colon)
colon_by bs n text head false h is = cc
colon_by bs n text head true h is = grind (arith, first_byte)

head_by : (bs : List ℕ) (label : Option (ℕ × List ℕ)) (head : ℕ × List ℕ) (t : Bool)
    → (if t then option_and_then (head_after (drop 2 bs)) label else None) ≡ Some head
    → (3 ≤ head.0) × (head.0 ≤ length bs) × (slice_index bs (head.0 - 1) ≡ colon)
head_by bs label head false is = cc
head_by bs None head true is = cc
head_by bs (Some label) head true is = colon_by bs label.0 label.1 head (begins colon (drop label.0 (drop 2 bs))) refl is

pub head_ends : (prefix : List ℕ → Option ℕ) (nested : Bool) (bs : List ℕ) (head : ℕ × List ℕ) → footnote_head prefix nested bs ≡ Some head
    → (3 ≤ head.0) × (head.0 ≤ length bs) × (slice_index bs (head.0 - 1) ≡ colon)
unfolding footnote_head
head_ends prefix nested bs head is = head_by bs (label_at prefix nested (drop 2 bs)) head (begins_footnote_mark bs) is

-- the offset after the white space that is read with a head
white_after : (text : List ℕ) (e : ℕ) → (let w : ℕ = prefix_len is_white (drop e text) in
    (place_past w (head_end text e), lines_from text (line_end (head_end text e))) ≡ after_head true text (e + w))
white_after text e =
    let w : ℕ = prefix_len is_white (drop e text) in
    let q : Place = head_end text e in
    let z : e + 0 ≡ e = omega arith in
    let rest : drop w (drop e text) ≡ drop (e + w) text = drop-drop w e text in
    let place : place_past w q ≡ head_end text (e + w) =
    ap (λ (n : ℕ). line_place (n + w) (drop w (drop e text))) z ∙ ap (line_place (e + w)) rest in
    let away = bytes_line_end w q (white_content (drop e text)) in
    let size = ap line_len rest in
    let next = line_start_end text (e + w) in
    let stop : line_end q ≡ line_end (head_end text (e + w)) = omega arith in
    ap (λ (p : Place). (p, lines_from text (line_end q))) place ∙ ap (λ (n : ℕ). (head_end text (e + w), lines_from text n)) stop

after_by : (gfm : Bool) (text : List ℕ) (e : ℕ) → past_head gfm (head_end text e) (lines_from text (line_end (head_end text e)))
    ≡ after_head gfm text (head_read gfm e (drop e text))
after_by true text e = white_after text e
after_by false text e = refl

read_later : (gfm : Bool) (a n : ℕ) (bs : List ℕ) → head_read gfm (a + n) bs ≡ a + head_read gfm n bs
read_later gfm a n bs = grind arith

-- the place where blocks continue after the head of the footnote definition at a place, as it is read
pub head_after_is : (d : Document) (p : Place) (prefix : List ℕ → Option ℕ) (nested : Bool) (head : ℕ × List ℕ) (n : ℕ) → IsUtf8 d.text
    → IsPlaceOf d.text p → footnote_head prefix nested (unindented p).rest.left ≡ Some head
    → n ≡ head_read (gfm_footnotes d.options) head.0 (drop (offset (unindented p) + head.0) d.text)
    → after_note d p (lines_from d.text (line_end p)) head.0 ≡ after_head (gfm_footnotes d.options) d.text (offset (unindented p) + n)
head_after_is d p prefix nested head n u at is n_is =
    let text : List ℕ = d.text in
    let gfm : Bool = gfm_footnotes d.options in
    let h : Place = unindented p in
    let i : IsPlaceOf text h = all_keep text p.line p.rest u at in
    let e : ℕ = offset h + head.0 in
    let ends = head_ends prefix nested h.rest.left head is in
    let long = place_length text h i in
    let some = ends.0 in
    let fits = ends.1 in
    let within : e ≤ length text = omega arith in
    let last : offset h + (head.0 - 1) ≡ e - 1 = omega arith in
    let is_colon : slice_index text (e - 1) ≡ colon =
    ap (slice_index text) (sym last) ∙ sym (get_or-drop (offset h) text (head.0 - 1) 0) ∙ ap (λ bs. slice_index bs (head.0 - 1)) (sym i.left) ∙ ends.2 in
    let no_end : is_line_end (slice_index text (e - 1)) ≡ false = ap is_line_end is_colon in
    let lines = (lines_after_it text h e i (omega arith) within no_end).0 in
    let same : line_end h ≡ line_end p = columns_line_end (indent p.rest) p in
    let q : Place = place_past head.0 h in
    let q_is : q ≡ head_end text e = ap (λ bs. line_place e (drop head.0 bs)) i.left ∙ ap (line_place e) (drop-drop head.0 (offset h) text) in
    let z : offset (head_end text e) ≡ e = omega arith in
    let left : lines_beyond (offset q) (lines_from text (line_end p)) ≡ lines_from text (line_end (head_end text e)) =
    ap (λ (r : Place). lines_beyond (offset r) (lines_from text (line_end p))) q_is
    ∙ ap (λ (k : ℕ). lines_beyond k (lines_from text (line_end p))) z ∙ ap (λ (k : ℕ). lines_beyond e (lines_from text k)) (sym same)
    ∙ lines ∙ ap (lines_from text) (sym (line_start_end text e)) in
    ap (λ (r : Place). past_head gfm r (lines_beyond (offset q) (lines_from text (line_end p)))) q_is
    ∙ ap (past_head gfm (head_end text e)) left ∙ after_by gfm text e
    ∙ ap (after_head gfm text) (read_later gfm (offset h) head.0 (drop e text) ∙ ap (λ (k : ℕ). offset h + k) (sym n_is))

-- without a `[^` none begins
pub no_mark : (around : Context) (p : Place) → footnote_mark_at around.options p ≡ None → footnote_head_at around p ≡ None
unfolding footnote_head_at footnote_head
no_mark around p h = grind (arith, h)

-- with a `[^`, the bytes there decide whether one begins
pub head_at_mark : (text : List ℕ) (around : Context) (p : Place) (n : ℕ) → IsPlaceOf text (unindented p) → footnote_mark_at around.options p ≡ Some n
    → (offset (unindented p) ≡ n) × (footnote_head_at around p ≡ footnote_at false around (drop n text)) × ((unindented p).rest.left ≡ drop n text)
unfolding footnote_head_at
head_at_mark text around p n i h = grind arith
