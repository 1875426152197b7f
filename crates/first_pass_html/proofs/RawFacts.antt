-- Facts on the end conditions of HTML blocks of types 1 to 5, by the first byte of the start condition.
use Rattle.std.proofs.Common.{◌≡◌, ℕ, ◌<◌, ◌≤◌, Bool, true, false, ◌==◌, ◌&&◌, ◌||◌, List, [], ◌∷◌, length, take, drop, get_or, bytes_eq, if◌then◌else◌}
use Rattle.std.proofs.Common.{codes, Some, None, refl, sym, ap, ◌∙◌, subst, arith, take-append-drop, length-take-le}
use Rattle.std.specs.List.{list_all, list_any, prefix_len}
use Rattle.std.specs.Char.{to_ascii_lowercase, is_ascii_alphabetic}
use Rattle.std.proofs.lemmas.Bool.{and_parts, and_from, cases_Bool}
use Rattle.std.proofs.lemmas.Bool.Decides.{nat_tests, same_from_decides}
use Rattle.std.proofs.lemmas.List.Folds.{length-prefix_len}
use Rattle.std.proofs.lemmas.Slice.Eq.{bytes_eq-Decides}
use Rattle.first_pass_items.specs.Bytes.{greater_than}
use Rattle.first_pass_lines.specs.Lines.{is_white_or_line_end}
use Rattle.first_pass_html.specs.Names.{in_lower_case, begins_with_name}
use Rattle.first_pass_html.specs.Ends.{AtRawEndTag, AtText}
use Rattle.first_pass_html.specs.Starts.{ends_raw_name, begins_raw, is_raw_name, begins_raw_text, html_end}
use Rattle.first_pass_html.proofs.ListFacts.{front_size}
use Rattle.first_pass_html.proofs.NameFacts.{all_in_lower_case}
use Rattle.first_pass_html.proofs.LongestNames.{front_within, same_length}

-- a name of raw text has only letters, and no letter follows its end
ends_alphabetic : (b : ℕ) → is_white_or_line_end b || b == greater_than ≡ true → is_ascii_alphabetic b ≡ false
ends_alphabetic b h = grind (arith, nat_tests, h)

no_more_letters : (rest : List ℕ) → ends_raw_name rest ≡ true → prefix_len is_ascii_alphabetic rest ≡ 0
no_more_letters [] h = refl
no_more_letters (b ∷ bs) h = rw (ends_alphabetic b h)

-- if the bytes begin with such a name that ends there, it is all leading letters
raw_size : (name bs : List ℕ) → list_all is_ascii_alphabetic (in_lower_case name) ≡ true → begins_with_name name bs ≡ true
    → ends_raw_name (drop (length name) bs) ≡ true → prefix_len is_ascii_alphabetic bs ≡ length name
raw_size name bs letters is ends =
    let same = (bytes_eq-Decides (in_lower_case (take (length name) bs)) (in_lower_case name)).0 is in
    let all = all_in_lower_case is_ascii_alphabetic (λ b h. grind (arith, nat_tests, h)) (take (length name) bs)
    (ap (list_all is_ascii_alphabetic) same ∙ letters) in
    front_size is_ascii_alphabetic bs (take (length name) bs) (drop (length name) bs) (sym (take-append-drop (length name) bs)) all
    (no_more_letters (drop (length name) bs) ends) ∙ length-take-le (length name) bs (front_within name bs is)

raw_here : (name bs : List ℕ) → list_all is_ascii_alphabetic (in_lower_case name) ≡ true
    → let n : ℕ = prefix_len is_ascii_alphabetic bs in
    begins_raw name bs ≡ (ends_raw_name (drop n bs) && bytes_eq (in_lower_case (take n bs)) (in_lower_case name))
raw_here name bs letters = grind (arith, same_from_decides, and_parts, raw_size, and_from, length-prefix_len, same_length, bytes_eq-Decides)

-- the names of raw text one by one
one_by_one : (ends : Bool) (name : List ℕ) → let is = λ (raw : List ℕ). ends && bytes_eq (in_lower_case name) raw in
    (ends && is_raw_name name) ≡ (is (codes "pre") || (is (codes "script") || (is (codes "style") || is (codes "textarea"))))
unfolding is_raw_name
one_by_one true name = refl
one_by_one false name = refl

raw_begins : (bs : List ℕ) → let is = λ (name : List ℕ). begins_raw name bs in
    begins_raw_text bs ≡ (is (codes "pre") || (is (codes "script") || (is (codes "style") || is (codes "textarea"))))
unfolding begins_raw_text
raw_begins bs =
    let n : ℕ = prefix_len is_ascii_alphabetic bs in
    rw (raw_here (codes "pre") bs refl, raw_here (codes "script") bs refl, raw_here (codes "style") bs refl, raw_here (codes "textarea") bs refl)
    (one_by_one (ends_raw_name (drop n bs)) (take n bs))

-- a name of raw text does not begin the bytes if their first letter is another
raw_differs : (c letter : ℕ) (name bs : List ℕ) → 1 ≤ length bs → letter ≡ to_ascii_lowercase (get_or bs 0 0)
    → (letter == to_ascii_lowercase c) ≡ false → begins_raw (c ∷ name) bs ≡ false
raw_differs c letter name [] some lower other = absurd (omega arith)
raw_differs c letter name (b ∷ bs) some lower other = grind arith

raw_first : (c letter : ℕ) (name bs : List ℕ) → 1 ≤ length bs → letter ≡ to_ascii_lowercase (get_or bs 0 0)
    → begins_raw (c ∷ name) bs ≡ ((letter == to_ascii_lowercase c) && begins_raw (c ∷ name) bs)
raw_first c letter name bs some lower = grind (arith, cases_Bool, raw_differs)

four_by : (p s t x p1 s1 t1 x1 : Bool) → p ≡ p1 → s ≡ s1 → t ≡ t1 → x ≡ x1 → (p || (s || (t || x))) ≡ (p1 || (s1 || (t1 || x1)))
four_by p s t x p1 s1 t1 x1 e f g h = rw e (rw f (rw g (rw h refl)))

-- raw text begins here only with a name that has its first letter
pub raw_by_letter : (bs : List ℕ) (letter : ℕ) → 1 ≤ length bs → letter ≡ to_ascii_lowercase (get_or bs 0 0)
    → let is = λ (c : ℕ) (name : List ℕ). (letter == c) && begins_raw (c ∷ name) bs in
    begins_raw_text bs ≡ (is 112 (codes "re") || (is 115 (codes "cript") || (is 115 (codes "tyle") || is 116 (codes "extarea"))))
raw_by_letter bs letter some lower = grind (arith, raw_begins, four_by, raw_first)

pub raw_in_none : (bs : List ℕ) → length bs < 1 → begins_raw_text bs ≡ false
unfolding begins_raw_text is_raw_name
raw_in_none [] none = refl
raw_in_none (b ∷ bs) none = absurd (omega arith)

-- the end conditions of types 1 to 5, by the first byte
pub question_end : (bs : List ℕ) → 1 ≤ length bs → get_or bs 0 0 ≡ 63 → html_end bs ≡ Some (AtText (codes "?>"))
unfolding html_end
question_end [] some first = absurd (omega arith)
question_end (b ∷ bs) some first = subst (λ (c : ℕ). html_end (c ∷ bs) ≡ Some (AtText (codes "?>"))) (sym first) refl

pub other_end : (bs : List ℕ) (t : Bool)
    → 1 ≤ length bs → list_any (λ c. get_or bs 0 0 == c) (33 ∷ 63 ∷ []) ≡ false → begins_raw_text bs ≡ t → html_end bs ≡ (if t then Some AtRawEndTag else None)
unfolding html_end
other_end [] t some other raw = absurd (omega arith)
other_end (b ∷ bs) t some other raw = grind (arith, nat_tests)

pub no_end : (bs : List ℕ) → length bs < 1 → html_end bs ≡ None
unfolding html_end begins_raw_text is_raw_name
no_end [] none = refl
no_end (b ∷ bs) none = absurd (omega arith)
