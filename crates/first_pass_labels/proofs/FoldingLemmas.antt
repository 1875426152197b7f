-- The folding of an ASCII text: its small letters, or the text itself if it has no capital letter.
use Rattle.std.proofs.Common.{◌≡◌, ℕ, suc, ◌+◌, ◌<◌, ◌≤◌, nat_eq, inl, inr, true, List, [], ◌∷◌, length, map, slice_index, IsAscii, encode_utf8_all, refl}
use Rattle.std.proofs.Common.{sym, ap, ap₂, ◌∙◌, arith, eq-eqb, ne_eqb, true≢false}
use Rattle.std.proofs.lemmas.Bool.{and_parts, and_from, cases_lt, false_from_ne_true}
use Rattle.std.proofs.lemmas.List.{get_or_past}
use Rattle.std.proofs.lemmas.Bool.Decides.{nat_tests}
use Rattle.std.proofs.lemmas.Str.{chars-IsAscii, encodes-IsAscii}
use Rattle.std.proofs.lemmas.Str.Ascii.{IsAscii-from_all, All-from_ascii, IsAscii-map, lowercase_ascii}
use Rattle.std.proofs.lemmas.List.Sums.{AllPass-from_list_all}
use Rattle.std.specs.Char.{to_ascii_lowercase}
use Rattle.std.specs.List.{list_all}
use Rattle.caseless.specs.Caseless.{default_case_fold}
use Rattle.caseless.proofs.CaselessLemmas.{default_case_fold-ascii}
use Rattle.first_pass_items.specs.Bytes.{ascii_end}
use Rattle.first_pass_lines.specs.Lanes.{IsRunIn}
use Rattle.first_pass_labels.specs.Foldings.{folded, folds_to_itself}

pub ascii_folded : (bs : List ℕ) → IsAscii bs → folded bs ≡ map to_ascii_lowercase bs
ascii_folded bs ascii =
    ap (λ cs. encode_utf8_all (default_case_fold cs)) (chars-IsAscii bs ascii)
    ∙ ap encode_utf8_all (default_case_fold-ascii bs (All-from_ascii bs ascii))
    ∙ encodes-IsAscii _ (IsAscii-map to_ascii_lowercase bs lowercase_ascii ascii)

itself : (b : ℕ) → folds_to_itself b ≡ true → to_ascii_lowercase b ≡ b
itself b h = grind (arith, nat_tests, h)

small : (b : ℕ) → folds_to_itself b ≡ true → b < ascii_end
small b h = grind (arith, nat_tests, h)

lower_itself : (bs : List ℕ) → list_all folds_to_itself bs ≡ true → map to_ascii_lowercase bs ≡ bs
lower_itself [] h = refl
lower_itself (b ∷ bs) h =
    let both = and_parts (folds_to_itself b) (list_all folds_to_itself bs) h in
    ap₂ ◌∷◌ (itself b both.0) (lower_itself bs both.1)

pub own_folded : (bs : List ℕ) → list_all folds_to_itself bs ≡ true → folded bs ≡ bs
own_folded bs h =
    ascii_folded bs (IsAscii-from_all bs (λ k d lt. small _ (AllPass-from_list_all folds_to_itself bs h k d lt)))
    ∙ lower_itself bs h

-- all bytes of a text fold to themselves if the byte at each index does
own_by_index : (bytes : List ℕ) → ((k : ℕ) → k < length bytes → folds_to_itself (slice_index bytes k) ≡ true) → list_all folds_to_itself bytes ≡ true
own_by_index [] own = refl
own_by_index (b ∷ bytes) own =
    and_from (folds_to_itself b) (list_all folds_to_itself bytes) (own 0 (omega arith)) (own_by_index bytes (λ k below. own (suc k) (omega (arith, below))))

-- in such a text the byte at each index folds to itself; past the end it is 0, which does too
own_at : (bytes : List ℕ) (k : ℕ) → list_all folds_to_itself bytes ≡ true → folds_to_itself (slice_index bytes k) ≡ true
own_at bytes k own =
    elim (cases_lt k (length bytes)) [
      | inl below ↦ AllPass-from_list_all folds_to_itself bytes own k 0 below
      | inr past ↦ ap folds_to_itself (get_or_past bytes k 0 past)
    ]

-- A text of at most sixteen bytes is filled up with zeros to sixteen. All its bytes fold to themselves if and only if the
-- run of such bytes has length sixteen.
pub own_by_run : (all bytes : List ℕ) (r : ℕ) → length bytes ≤ 16 → ((k : ℕ) → k < 16 → slice_index all k ≡ slice_index bytes k)
    → IsRunIn folds_to_itself all 0 16 r → nat_eq r 16 ≡ list_all folds_to_itself bytes
own_by_run all bytes r short same run =
    elim (cases_lt r 16) [
      | inl ends ↦
          let at : r ≡ 0 + r = omega arith in
          ne_eqb r 16 (λ e. absurd (omega (arith, e, ends)))
          ∙ sym (false_from_ne_true (list_all folds_to_itself bytes) (λ own.
          true≢false (sym (own_at bytes r own) ∙ ap folds_to_itself (sym (same r ends) ∙ ap (λ (k : ℕ). slice_index all k) at) ∙ run.2 ends)))
      | inr whole ↦
          eq-eqb r 16 (omega (arith, whole, run.0))
          ∙ sym (own_by_index bytes (λ k below.
          let within : k < 16 = omega (arith, below, short) in
          ap folds_to_itself (sym (same k within)) ∙ run.1 k (omega arith) (omega (arith, within, whole))))
    ]
