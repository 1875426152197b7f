-- Facts on lines.
use Rattle.std.proofs.Common.{◌≡◌, ℕ, zero, suc, ◌+◌, ◌<◌, ◌≤◌, Bool, true, false, cond, not, ◌==◌, List, [], ◌∷◌, ◌++◌, length, take, drop, map, Some, None}
use Rattle.std.proofs.Common.{◌-◌, slice_index, not-suc-le-zero, Option, unwrap_or, refl, sym, ap, ◌∙◌, arith, add-one, length-drop, inl, inr, if◌then◌else◌}
use Rattle.std.proofs.Common.{option_map, All, take-append-drop, drop-drop, length-take-le, eqb-true}
use Rattle.first_pass_lines.proofs.Common.{prefix_len, concat, list_all, cases_eq, cases_lt, append_cancel_left, at_drop_all, line_feed, carriage_return}
use Rattle.first_pass_lines.proofs.Common.{nat_tests, begins, ends, ends_line, is_white, is_content, eol_len, blank_len, IsLineEnd, IsLine}
use Rattle.std.proofs.Math.Seq.{take-append_seam}
use Rattle.std.proofs.lemmas.Grind.{common_steps}
use Rattle.std.proofs.lemmas.List.Elements.{All-nil, All-cons}
use Rattle.first_pass_lines.specs.Lines.{line_len}
use Rattle.first_pass_lines.specs.Places.{Place, line_place, IsLinePlace, lines_after, lines_at, line_of, IsDivision}

-- a byte that passes a test differs from a byte that fails it
pub isnt : (test : ℕ → Bool) (b c : ℕ) → test b ≡ true → test c ≡ false → b == c ≡ false
isnt test b c h k = grind (arith, cases_eq)

-- the last byte, if there is one
pub ends-last : (c : ℕ) (bs : List ℕ) → 0 < length bs → ends c bs ≡ (slice_index bs (length bs - 1) == c)
ends-last c [] some = absurd (not-suc-le-zero some)
ends-last c (b ∷ bs) some = ap (λ n. slice_index (b ∷ bs) n == c) (let e : length bs ≡ length (b ∷ bs) - 1 = omega arith in e)

-- the length of a line, by its first byte
pub line_len-none : line_len [] ≡ 0
unfolding line_len
line_len-none = refl

end_first : (b : ℕ) (bs : List ℕ) → is_content b ≡ false → line_len (b ∷ bs) ≡ unwrap_or (eol_len (b ∷ bs)) 0
unfolding line_len
end_first b bs h = grind arith

pub line_len-content_first : (b : ℕ) (bs : List ℕ) → is_content b ≡ true → line_len (b ∷ bs) ≡ line_len bs + 1
unfolding line_len
line_len-content_first b bs h =
    let k : ℕ = prefix_len is_content bs in
    let n : prefix_len is_content (b ∷ bs) ≡ k + 1 = rw h (omega arith) in
    let d : drop (k + 1) (b ∷ bs) ≡ drop k bs = rw add-one in
    rw n (rw d (omega arith))

line_len-newline : (b : ℕ) (bs : List ℕ) → (b == line_feed) ≡ true → line_len (b ∷ bs) ≡ 1
line_len-newline b bs h = end_first b bs (rw h) ∙ rw h

line_len-begins : (bs : List ℕ) → begins line_feed bs ≡ true → line_len bs ≡ 1
line_len-begins [] h = cc
line_len-begins (c ∷ cs) h = line_len-newline c cs h

line_len-return : (t : Bool) (bs : List ℕ) → begins line_feed bs ≡ t
    → (if begins line_feed bs then 2 else 1) ≡ cond (not (begins line_feed bs)) 1 (line_len bs + 1)
line_len-return true bs h = rw h (omega (arith, line_len-begins bs h))
line_len-return false bs h = rw h

step_by : (t u : Bool) (b : ℕ) (bs : List ℕ) → (b == line_feed) ≡ t → (b == carriage_return) ≡ u → line_len (b ∷ bs) ≡ cond (ends_line b bs) 1 (line_len bs + 1)
step_by true u b bs h h' = line_len-newline b bs h ∙ rw h
step_by false true b bs h h' = end_first b bs (rw (h, h')) ∙ rw (h, h') (line_len-return (begins line_feed bs) bs refl)
step_by false false b bs h h' = line_len-content_first b bs (rw (h, h')) ∙ rw (h, h')

pub line_len-step : (b : ℕ) (bs : List ℕ) → line_len (b ∷ bs) ≡ cond (ends_line b bs) 1 (line_len bs + 1)
line_len-step b bs = step_by (b == line_feed) (b == carriage_return) b bs refl refl

pub line_len-some : (bs : List ℕ) → 0 < length bs → 0 < line_len bs
line_len-some [] h = absurd (omega arith)
line_len-some (b ∷ bs) h = rw (line_len-step b bs) (elim (ends_line b bs) as (λ t. 0 < cond t 1 (line_len bs + 1)) [ true ↦ omega arith | false ↦ omega arith ])

pub line_len-fits : (bs : List ℕ) → line_len bs ≤ length bs
line_len-fits [] = omega (arith, line_len-none)
line_len-fits (b ∷ bs) = grind (arith, line_len-step, line_len-fits bs)

-- the first line, and the lines after it
pub lines_at-none : (s : ℕ) → lines_at s [] ≡ []
unfolding lines_at lines_after
lines_at-none s = refl

shift : (s k b : ℕ) (bs : List ℕ) → lines_at ((s + 1) + k) (drop k bs) ≡ lines_at (s + (k + 1)) (drop (k + 1) (b ∷ bs))
shift s k b bs = grind (arith, add-one)

after_first : (b s n : ℕ) (bs : List ℕ) → n ≡ line_len (b ∷ bs) → lines_after b (s + 1) bs ≡ lines_at (s + n) (drop n (b ∷ bs))
unfolding lines_at lines_after
after_first b s n [] h = grind (arith, line_len-step, line_len-none)
after_first b s n (c ∷ cs) h = grind (arith, shift, line_len-step, after_first c (s + 1) (line_len (c ∷ cs)) cs refl)

pub lines_at-first : (s b : ℕ) (bs : List ℕ) → let n : ℕ = line_len (b ∷ bs) in lines_at s (b ∷ bs) ≡ line_place s (b ∷ bs) ∷ lines_at (s + n) (drop n (b ∷ bs))
unfolding lines_at lines_after
lines_at-first s b bs = ap (λ lines. line_place s (b ∷ bs) ∷ lines) (after_first b s (line_len (b ∷ bs)) bs refl)

lines_at-some : (s : ℕ) (bs : List ℕ) → 0 < length bs → let n : ℕ = line_len bs in lines_at s bs ≡ line_place s bs ∷ lines_at (s + n) (drop n bs)
lines_at-some s [] h = absurd (omega arith)
lines_at-some s (b ∷ bs) h = lines_at-first s b bs

pub lines_at-line : (text : List ℕ) (s : ℕ)
    → s < length text → let n : ℕ = line_len (drop s text) in lines_at s (drop s text) ≡ line_place s (drop s text) ∷ lines_at (s + n) (drop (s + n) text)
lines_at-line text s h =
    let l = length-drop s text in
    grind (arith, lines_at-some, drop-drop)

pub lines_at-end : (text : List ℕ) (s : ℕ) → length text ≤ s → lines_at s (drop s text) ≡ []
lines_at-end text s h = at_drop_all (lines_at s) text s h ∙ lines_at-none s

-- the first of the lines from an offset on, and the other lines
pub first_line : (text : List ℕ) (s : ℕ) (line : Place) (lines : List Place) → line ∷ lines ≡ lines_at s (drop s text)
    → (s < length text) × (line ≡ line_place s (drop s text)) × (lines ≡ (let n : ℕ = s + line_len (drop s text) in lines_at n (drop n text)))
first_line text s line lines is = grind (arith, cases_lt, lines_at-line, lines_at-end)

pub line_len-within : (text : List ℕ) (s : ℕ) → s < length text → let n : ℕ = line_len (drop s text) in (0 < n) × (s + n ≤ length text)
line_len-within text s h = grind (arith, length-drop, line_len-some, line_len-fits)

-- a line, before further bytes, has the length of their first line
line_len-end : (bs following : List ℕ) → IsLineEnd bs following → line_len (bs ++ following) ≡ length bs
line_len-end bs following (inl h) = rw h (line_len-step line_feed following)
line_len-end bs following (inr (inl h)) = rw h (line_len-step carriage_return (line_feed ∷ following) ∙ ap (λ k. k + 1) (line_len-step line_feed following))
line_len-end bs following (inr (inr (inl h))) = rw h.0 (line_len-step carriage_return following ∙ rw h.1)
line_len-end bs following (inr (inr (inr h))) = rw (h.0, h.1) line_len-none

line_len-content : (content rest : List ℕ) → list_all is_content content ≡ true → line_len (content ++ rest) ≡ length content + line_len rest
line_len-content [] rest h = omega arith
line_len-content (b ∷ bs) rest h = grind (arith, line_len-content_first, line_len-content bs rest (grind (arith, h)))

line_len-line : (line following : List ℕ) → IsLine line following → line_len (line ++ following) ≡ length line
line_len-line line following i = grind (arith, line_len-content, line_len-end, common_steps)

-- the first line is a line before the bytes after it
record Front (bs : List ℕ) (n : ℕ) : Type 0 where
  content : List ℕ
  ending : List ℕ
  parts : take n bs ≡ content ++ ending
  plain : list_all is_content content ≡ true
  ends : IsLineEnd ending (drop n bs)

front_newline : (b : ℕ) (bs : List ℕ) → b ≡ line_feed → Front (b ∷ bs) 1
front_newline b bs h = record { content = []; ending = b ∷ []; parts = refl; plain = refl; ends = inl (rw h) }

front_return : (b : ℕ) (bs : List ℕ) → b ≡ carriage_return → begins line_feed bs ≡ false → Front (b ∷ bs) 1
front_return b bs h h' = record { content = []; ending = b ∷ []; parts = refl; plain = refl; ends = inr (inr (inl (rw h, h'))) }

front_both : (b : ℕ) (bs : List ℕ) → b ≡ carriage_return → begins line_feed bs ≡ true → Front (b ∷ bs) 2
front_both b [] h h' = cc
front_both b (c ∷ cs) h h' = grind (arith, nat_tests)

front_content : (b : ℕ) (bs : List ℕ) (n : ℕ) → is_content b ≡ true → Front bs n → Front (b ∷ bs) (n + 1)
front_content b bs n h f =
    let t : take (n + 1) (b ∷ bs) ≡ b ∷ take n bs = rw add-one in
    let d : drop (n + 1) (b ∷ bs) ≡ drop n bs = rw add-one in
    record { content = b ∷ f.content; ending = f.ending; parts = t ∙ ap (λ xs. b ∷ xs) f.parts; plain = rw h f.plain; ends = rw d f.ends }

front_by : (t u v : Bool) (b : ℕ) (bs : List ℕ)
    → (b == line_feed) ≡ t → (b == carriage_return) ≡ u → begins line_feed bs ≡ v → Front bs (line_len bs)
    → Front (b ∷ bs) (cond (ends_line b bs) 1 (line_len bs + 1))
front_by true u v b bs h h' h'' f = rw h (front_newline b bs (eqb-true b line_feed h))
front_by false true false b bs h h' h'' f = rw (h, h', h'') (front_return b bs (eqb-true b carriage_return h') h'')
front_by false true true b bs h h' h'' f = grind (arith, line_len-begins, front_both)
front_by false false v b bs h h' h'' f = rw (h, h') (front_content b bs (line_len bs) (rw (h, h')) f)

front_of : (bs : List ℕ) → Front bs (line_len bs)
front_of [] = rw line_len-none (record { content = []; ending = []; parts = refl; plain = refl; ends = inr (inr (inr (refl, refl))) })
front_of (b ∷ bs) = rw (line_len-step b bs) (front_by (b == line_feed) (b == carriage_return) (begins line_feed bs) b bs refl refl refl (front_of bs))

first_is_line : (bs following : List ℕ) → 0 < length bs → following ≡ drop (line_len bs) bs → IsLine (take (line_len bs) bs) following
first_is_line bs following h e =
    let f = front_of bs in
    grind (arith, length-take-le, line_len-fits, line_len-some)

-- the lines divide the text
divide_by : (most s : ℕ) (bs : List ℕ) → length bs ≤ most → IsDivision bs (map line_of (lines_at s bs))
divide_by most s [] h = rw (lines_at-none s) (record { whole = refl; lines = tt })
divide_by zero s (b ∷ bs) h = absurd (omega arith)
divide_by (suc most) s (b ∷ bs) h =
    let n : ℕ = line_len (b ∷ bs) in
    let some : 0 < n = line_len-some (b ∷ bs) (omega arith) in
    let l = length-drop n (b ∷ bs) in
    grind (arith, lines_at-first, take-append-drop, first_is_line, divide_by most (s + n) (drop n (b ∷ bs)) (omega arith))

pub lines_divide : (s : ℕ) (bs : List ℕ) → IsDivision bs (map line_of (lines_at s bs))
lines_divide s bs = divide_by (length bs) s bs (omega arith)

-- and this is the only division
front-empty : (xs ys : List ℕ) → xs ++ ys ≡ [] → xs ≡ []
front-empty [] ys h = refl
front-empty (x ∷ xs) ys h = cc

pub one_division : (text : List ℕ) (ps qs : List (List ℕ)) → IsDivision text ps → IsDivision text qs → ps ≡ qs
one_division text [] [] c d = refl
one_division text [] (q ∷ qs) c d = absurd (d.lines.0.some (front-empty q (concat qs) (d.whole ∙ sym c.whole)))
one_division text (p ∷ ps) [] c d = absurd (c.lines.0.some (front-empty p (concat ps) (c.whole ∙ sym d.whole)))
one_division text (p ∷ ps) (q ∷ qs) c d =
    let same : p ++ concat ps ≡ q ++ concat qs = c.whole ∙ sym d.whole in
    let n : length p ≡ length q = sym (line_len-line p (concat ps) c.lines.0) ∙ ap line_len same ∙ line_len-line q (concat qs) d.lines.0 in
    let t : p ≡ q =
    sym (take-append_seam p (concat ps)) ∙ ap (λ xs. take (length p) xs) same ∙ ap (λ k. take k (q ++ concat qs)) n ∙ take-append_seam q (concat qs) in
    let r : concat ps ≡ concat qs = append_cancel_left q (concat ps) (concat qs) (ap (λ xs. xs ++ concat ps) (sym t) ∙ same) in
    cc (one_division (concat ps) ps qs (record { whole = refl; lines = c.lines.1 }) (record { whole = sym r; lines = d.lines.1 }))

-- each place is a place of the text
places_by : (text : List ℕ) (b s : ℕ) (bs : List ℕ) → drop s text ≡ bs → All (IsLinePlace text) (lines_after b s bs)
unfolding lines_after
places_by text b s [] h = All-nil _
places_by text b s (c ∷ cs) h =
    let next : drop (s + 1) text ≡ cs = sym (drop-drop 1 s text) ∙ ap (drop 1) h in
    grind (arith, All-cons, places_by text c (s + 1) cs next)

pub lines_at-places : (text : List ℕ) → All (IsLinePlace text) (lines_at 0 text)
unfolding lines_at
lines_at-places [] = All-nil (IsLinePlace [])
lines_at-places (b ∷ bs) = All-cons (IsLinePlace (b ∷ bs)) (line_place 0 (b ∷ bs)) _ refl (places_by (b ∷ bs) b 1 bs refl)

-- at a place inside a line, the rest of the line ends at the end of the line
pub line_len-inside : (bs : List ℕ) (k : ℕ) → k < line_len bs → k + line_len (drop k bs) ≡ line_len bs
line_len-inside [] k h = absurd (omega (arith, line_len-none))
line_len-inside (b ∷ bs) zero h = omega arith
line_len-inside (b ∷ bs) (suc k) h =
    (elim (ends_line b bs) as (λ t. line_len (b ∷ bs) ≡ cond t 1 (line_len bs + 1) → suc k + line_len (drop k bs) ≡ line_len (b ∷ bs)) [
      | true ↦ λ e. absurd (omega arith)
      | false ↦ λ e. let r = line_len-inside bs k (omega arith) in omega arith
    ]) (line_len-step b bs)

-- the length of a line by its content, of a line that is only a line ending, and of a blank line
pub line_len-content_end : (bs : List ℕ) → let n : ℕ = prefix_len is_content bs in line_len bs ≡ n + unwrap_or (eol_len (drop n bs)) 0
unfolding line_len
line_len-content_end bs = refl

eol_by : (t u : Bool) (b : ℕ) (bs : List ℕ) (n : ℕ) → (b == line_feed) ≡ t → (b == carriage_return) ≡ u → eol_len (b ∷ bs) ≡ Some n → line_len (b ∷ bs) ≡ n
eol_by true u b bs n h h' e = end_first b bs (rw h) ∙ ap (λ o. unwrap_or o 0) e
eol_by false true b bs n h h' e = end_first b bs (rw (h, h')) ∙ ap (λ o. unwrap_or o 0) e
eol_by false false b bs n h h' e = absurd (grind (arith, h, h', e))

pub line_len-eol : (bs : List ℕ) (n : ℕ) → eol_len bs ≡ Some n → line_len bs ≡ n
line_len-eol [] n h = let e : 0 ≡ n = cc in line_len-none ∙ e
line_len-eol (b ∷ bs) n h = eol_by (b == line_feed) (b == carriage_return) b bs n refl refl h

one_less : (w n : ℕ) (o : Option ℕ) → option_map (λ k. (w + 1) + k) o ≡ Some n → (m : ℕ) × (option_map (λ k. w + k) o ≡ Some m) × (n ≡ m + 1)
one_less w n None h = cc
one_less w n (Some k) h = let e : (w + 1) + k ≡ n = cc in (w + k, refl, omega arith)

no_white : (o : Option ℕ) (n : ℕ) → option_map (λ k. 0 + k) o ≡ Some n → o ≡ Some n
no_white None n h = cc
no_white (Some k) n h = let e : 0 + k ≡ n = cc in ap Some (omega arith)

blank_by : (t : Bool) (b : ℕ) (bs : List ℕ) (n : ℕ)
    → is_white b ≡ t → ((m : ℕ) → blank_len bs ≡ Some m → line_len bs ≡ m) → blank_len (b ∷ bs) ≡ Some n → line_len (b ∷ bs) ≡ n
blank_by true b bs n h f e =
    let w : ℕ = prefix_len is_white bs in
    let p : prefix_len is_white (b ∷ bs) ≡ w + 1 = rw h (omega arith) in
    let d : drop (w + 1) (b ∷ bs) ≡ drop w bs = rw add-one in
    let m = one_less w n (eol_len (drop w bs)) (sym (rw p (rw d refl)) ∙ e) in
    (line_len-content_first b bs (grind (arith, nat_tests, h))) ∙ ap (λ k. k + 1) (f m.0 m.1) ∙ sym m.2
blank_by false b bs n h f e =
    let p : prefix_len is_white (b ∷ bs) ≡ 0 = rw h in
    line_len-eol (b ∷ bs) n (no_white (eol_len (b ∷ bs)) n (sym (rw p) ∙ e))

pub line_len-blank : (bs : List ℕ) (n : ℕ) → blank_len bs ≡ Some n → line_len bs ≡ n
line_len-blank [] n h = let e : 0 ≡ n = cc in line_len-none ∙ e
line_len-blank (b ∷ bs) n h = blank_by (is_white b) b bs n refl (line_len-blank bs) h

some_end : (t u : Bool) (b : ℕ) (bs : List ℕ) → (b == line_feed) ≡ t → (b == carriage_return) ≡ u → is_content b ≡ false → (k : ℕ) × (eol_len (b ∷ bs) ≡ Some k)
some_end true u b bs h h' e = (1, rw h)
some_end false true b bs h h' e = (if begins line_feed bs then 2 else 1, rw (h, h'))
some_end false false b bs h h' e = absurd (grind (arith, h, h', e))

ends_at : (bs : List ℕ) (k : ℕ) → eol_len bs ≡ Some k → eol_len bs ≡ Some (line_len bs)
ends_at bs k h = h ∙ ap Some (sym (line_len-eol bs k h))

content_by : (t : Bool) (b : ℕ) (bs : List ℕ)
    → is_content b ≡ t → (let rest : List ℕ = drop (prefix_len is_content bs) bs in eol_len rest ≡ Some (line_len rest))
    → let rest : List ℕ = drop (prefix_len is_content (b ∷ bs)) (b ∷ bs) in eol_len rest ≡ Some (line_len rest)
content_by true b bs h f =
    let k : ℕ = prefix_len is_content bs in
    let n : prefix_len is_content (b ∷ bs) ≡ k + 1 = rw h (omega arith) in
    let d : drop (k + 1) (b ∷ bs) ≡ drop k bs = rw add-one in
    rw n (rw d f)
content_by false b bs h f = grind (arith, some_end, ends_at)

pub content_ends : (bs : List ℕ) → let rest : List ℕ = drop (prefix_len is_content bs) bs in eol_len rest ≡ Some (line_len rest)
content_ends [] = ap Some (sym line_len-none)
content_ends (b ∷ bs) = content_by (is_content b) b bs refl (content_ends bs)

pub line_len-parts : (bs : List ℕ) → let n : ℕ = prefix_len is_content bs in line_len bs ≡ n + line_len (drop n bs)
line_len-parts bs = grind (arith, line_len-content_end, content_ends)
