-- Labels with single spaces, word by word.
use Rattle.std.proofs.Common.{◌≡◌, ℕ, suc, ◌+◌, ◌<◌, ◌≤◌, nat_lt, Bool, true, false, List, [], ◌∷◌, ◌++◌, length, take, drop, get_or, slice_index}
use Rattle.std.proofs.Common.{refl, sym, ap, subst, ◌∙◌, arith, if◌then◌else◌, IsCharBoundary, append-nil, append_assoc, drop-drop, length-drop, get_or-drop}
use Rattle.std.specs.List.{prefix_len}
use Rattle.std.proofs.lemmas.Bool.Decides.{nat_tests}
use Rattle.std.proofs.lemmas.List.{drop_all}
use Rattle.std.proofs.lemmas.List.Sums.{prefix_len-le-length, prefix_len_stops}
use Rattle.std.proofs.lemmas.Str.{IsCharBoundary-before_ascii}
use Rattle.first_pass_items.specs.Bytes.{space}
use Rattle.first_pass_lines.specs.Lines.{is_white_or_line_end}
use Rattle.first_pass_links.specs.Labels.{single_spaced}
use Rattle.first_pass_targets.specs.Keys.{is_solid}

word_by : (t : Bool) (b : ℕ) (bs : List ℕ) → is_white_or_line_end b ≡ t
    → single_spaced bs ≡ take (prefix_len is_solid bs) bs ++ single_spaced (drop (prefix_len is_solid bs) bs)
    → single_spaced (b ∷ bs) ≡ take (prefix_len is_solid (b ∷ bs)) (b ∷ bs) ++ single_spaced (drop (prefix_len is_solid (b ∷ bs)) (b ∷ bs))
unfolding single_spaced
word_by true b bs h i = rw (h, h) refl
word_by false b bs h i =
    let s : 1 + prefix_len is_solid bs ≡ suc (prefix_len is_solid bs) = omega arith in
    rw (h, s) (ap (λ xs. b ∷ xs) i)

-- a label is its first word, and then what follows
word_run : (bs : List ℕ) → single_spaced bs ≡ take (prefix_len is_solid bs) bs ++ single_spaced (drop (prefix_len is_solid bs) bs)
unfolding single_spaced
word_run [] = refl
word_run (b ∷ bs) = word_by _ b bs refl (word_run bs)

-- white space is one space
single-white : (b : ℕ) (bs : List ℕ) → is_white_or_line_end b ≡ true
    → single_spaced (b ∷ bs) ≡ (if is_white_or_line_end (slice_index bs 0) then single_spaced bs else space ∷ single_spaced bs)
unfolding single_spaced
single-white b bs h = rw h

white_next : (t : Bool) (b c : ℕ) (bs : List ℕ) → is_white_or_line_end b ≡ true → is_white_or_line_end c ≡ t
    → (is_white_or_line_end c ≡ true → single_spaced (c ∷ bs) ≡ space ∷ single_spaced (drop (prefix_len is_white_or_line_end bs) bs))
    → single_spaced (b ∷ c ∷ bs) ≡ space ∷ single_spaced (drop (prefix_len is_white_or_line_end (c ∷ bs)) (c ∷ bs))
white_next true b c bs h k i =
    let s : 1 + prefix_len is_white_or_line_end bs ≡ suc (prefix_len is_white_or_line_end bs) = omega arith in
    single-white b (c ∷ bs) h ∙ rw (k, s) (i k)
white_next false b c bs h k i = single-white b (c ∷ bs) h ∙ rw k refl

white_front : (b : ℕ) (bs : List ℕ) → is_white_or_line_end b ≡ true
    → single_spaced (b ∷ bs) ≡ space ∷ single_spaced (drop (prefix_len is_white_or_line_end bs) bs)
white_front b [] h = single-white b [] h
white_front b (c ∷ bs) h = white_next _ b c bs h refl (white_front c bs)

no_white : (m v : ℕ) (bs : List ℕ) → v ≡ 0 → single_spaced bs ≡ (if nat_lt m (m + v) then space ∷ [] else []) ++ single_spaced (drop v bs)
no_white m v bs e = let f : nat_lt m (m + v) ≡ false = grind (arith, nat_tests, e) in rw (f, e) refl

white_by : (t : Bool) (m v b : ℕ) (bs : List ℕ) → is_white_or_line_end b ≡ t → v ≡ prefix_len is_white_or_line_end (b ∷ bs)
    → single_spaced (b ∷ bs) ≡ (if nat_lt m (m + v) then space ∷ [] else []) ++ single_spaced (drop v (b ∷ bs))
white_by false m v b bs h e = no_white m v (b ∷ bs) (e ∙ rw h refl)
white_by true m v b bs h e =
    let s : v ≡ suc (prefix_len is_white_or_line_end bs) = e ∙ rw h (omega arith) in
    let f : nat_lt m (m + v) ≡ true = grind (arith, nat_tests, s) in
    rw (f, s) (white_front b bs h)

white_run : (m v : ℕ) (bs : List ℕ) → v ≡ prefix_len is_white_or_line_end bs
    → single_spaced bs ≡ (if nat_lt m (m + v) then space ∷ [] else []) ++ single_spaced (drop v bs)
white_run m v [] e = no_white m v [] e
white_run m v (b ∷ bs) e = white_by _ m v b bs refl e

-- a word and the white space after it are spelled
pub spelled_on : (bs s : List ℕ) (at w v : ℕ) → w ≡ prefix_len is_solid (drop at bs) → v ≡ prefix_len is_white_or_line_end (drop (at + w) bs)
    → s ++ single_spaced (drop at bs) ≡ single_spaced bs
    → ((s ++ take w (drop at bs)) ++ (if nat_lt (at + w) (at + w + v) then space ∷ [] else [])) ++ single_spaced (drop (at + w + v) bs) ≡ single_spaced bs
spelled_on bs s at w v e f i =
    let sep : List ℕ = if nat_lt (at + w) (at + w + v) then space ∷ [] else [] in
    let rest = single_spaced (drop (at + w + v) bs) in
    let g : single_spaced (drop (at + w) bs) ≡ sep ++ rest =
    white_run (at + w) v (drop (at + w) bs) f ∙ ap (λ xs. sep ++ single_spaced xs) (drop-drop v (at + w) bs) in
    let h : single_spaced (drop at bs) ≡ take w (drop at bs) ++ single_spaced (drop (at + w) bs) =
    subst (λ n. single_spaced (drop at bs) ≡ take n (drop at bs) ++ single_spaced (drop n (drop at bs))) (sym e) (word_run (drop at bs))
    ∙ ap (λ xs. take w (drop at bs) ++ single_spaced xs) (drop-drop w at bs) in
    append_assoc (s ++ take w (drop at bs)) sep rest ∙ ap (λ xs. (s ++ take w (drop at bs)) ++ xs) (sym g)
    ∙ append_assoc s (take w (drop at bs)) (single_spaced (drop (at + w) bs)) ∙ ap (λ xs. s ++ xs) (sym h) ∙ i

-- all is spelled
pub spelled_out : (bs s : List ℕ) (at : ℕ) → length bs ≤ at → s ++ single_spaced (drop at bs) ≡ single_spaced bs → s ≡ single_spaced bs
unfolding single_spaced
spelled_out bs s at l i = sym (ap (λ xs. s ++ single_spaced xs) (drop_all at bs l) ∙ append-nil s) ∙ i

pub white_is_ascii : (b : ℕ) → is_white_or_line_end b ≡ true → b < 128
white_is_ascii b h = grind (arith, nat_tests, h)

-- a word ends between characters
pub word_boundary : (text : List ℕ) (at w : ℕ) → w ≡ prefix_len is_solid (drop at text) → IsCharBoundary text at → IsCharBoundary text (at + w)
word_boundary text at w e b =
    let l = prefix_len-le-length is_solid (drop at text) in
    let d = length-drop at text in
    let within = b.0 in (
      omega arith,
      λ less. let stops = prefix_len_stops is_solid (drop at text) 0 (omega arith) in
          let here : get_or (drop at text) (prefix_len is_solid (drop at text)) 0 ≡ get_or text (at + w) 0 =
          ap (λ n. get_or (drop at text) n 0) (sym e) ∙ get_or-drop at text w 0 in
          let solid : is_solid (get_or text (at + w) 0) ≡ false = ap is_solid (sym here) ∙ stops in
          (IsCharBoundary-before_ascii text (at + w) less (white_is_ascii _ (grind (arith, nat_tests, solid)))).1 less,
    )
