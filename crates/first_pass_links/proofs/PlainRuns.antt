-- Runs of plain bytes in destinations and labels.
use Rattle.std.proofs.Common.{◌≡◌, ℕ, zero, suc, inl, ◌+◌, ◌<◌, ◌≤◌, ◌==◌, ◌||◌, Bool, true, false, List, length, take, drop, get_or, Option, Some, refl}
use Rattle.std.proofs.Common.{sym, ap, subst, ◌∙◌, arith, if◌then◌else◌, get_or-drop}
use Rattle.std.proofs.lemmas.Bool.Decides.{nat_tests}
use Rattle.std.proofs.lemmas.List.{drop_more}
use Rattle.first_pass_items.specs.Bytes.{left_parenthesis, right_parenthesis, right_bracket, backslash}
use Rattle.first_pass_lines.specs.Lines.{is_white_or_line_end}
use Rattle.first_pass_links.specs.Escapes.{begins_escape}
use Rattle.first_pass_links.specs.Destinations.{bare_len, longer}
use Rattle.first_pass_links.specs.Labels.{is_bracket, begins_character, label_at}
use Rattle.first_pass_links.specs.Plain.{is_ordinary, IsPlainLabel}
use Rattle.first_pass_links.specs.Units.{part, kept_unit, Reads}
use Rattle.first_pass_links.specs.Runs.{is_run_byte}
use Rattle.first_pass_links.proofs.Runs.{longer-none, run_alone}
use Rattle.first_pass_links.proofs.Destinations.{first_byte}
use Rattle.first_pass_links.proofs.Labels.{IsRead, known_as, read_unit, read_both, reads_from, label_read, at_bracket, byte_reads, read-kept}
use Rattle.first_pass_links.proofs.Parts.{part-start, part-split}

-- the first r bytes from an offset on are plain
abbrev pub ArePlain : List ℕ → ℕ → ℕ → Type 0
ArePlain bs at r = (k : ℕ) → k < r → is_ordinary (get_or bs (at + k) 0) ≡ true

pub are_plain : (bs rest : List ℕ) (at r : ℕ) → rest ≡ drop at bs → ((k : ℕ) → k < r → is_ordinary (get_or rest k 0) ≡ true) → ArePlain bs at r
are_plain bs rest at r e plain k below = ap is_ordinary (sym (get_or-drop at bs k 0)) ∙ ap (λ xs. is_ordinary (get_or xs k 0)) (sym e) ∙ plain k below

ordinary_facts : (b : ℕ) → is_ordinary b ≡ true → (is_run_byte b ≡ true) × ((b == backslash) ≡ false) × (is_white_or_line_end b ≡ false)
    × (is_bracket b ≡ false) × (suc zero ≡ (if begins_character b then 1 else 0))
ordinary_facts b h = grind (arith, nat_tests)

pub no_escape : (bs : List ℕ) (at : ℕ) → at < length bs → (get_or bs at 0 == backslash) ≡ false → begins_escape (drop at bs) ≡ false
no_escape bs at l h = ap begins_escape (drop_more bs at 0 l) ∙ rw h refl

-- a run continues after plain bytes
pub run_plain : (deepest nesting : ℕ) (bs : List ℕ) (at r : ℕ) → at + r ≤ length bs → ArePlain bs at r → nesting ≤ deepest
    → longer (at + r) (bare_len deepest nesting 0 (drop (at + r) bs)) ≡ longer at (bare_len deepest nesting 0 (drop at bs))
run_plain deepest nesting bs at zero within plain bound = grind arith
run_plain deepest nesting bs at (suc r) within plain bound =
    let e : at + suc r ≡ at + r + 1 = omega arith in
    let o = ordinary_facts (get_or bs (at + r) 0) (plain r (omega arith)) in
    ap (λ j. longer j (bare_len deepest nesting 0 (drop j bs))) e
    ∙ run_alone deepest nesting bs (at + r) (omega arith) o.0 (no_escape bs (at + r) (omega arith) o.1) bound
    ∙ run_plain deepest nesting bs at r (omega arith) (λ k below. plain k (omega arith)) bound

-- and after one byte that begins no escape, with the plain bytes after it
pub run_part : (deepest nesting : ℕ) (bs : List ℕ) (r : ℕ) → 0 < length bs → is_run_byte (get_or bs 0 0) ≡ true → begins_escape bs ≡ false
    → 1 + r ≤ length bs → ArePlain bs 1 r → nesting ≤ deepest
    → longer (1 + r) (bare_len deepest nesting 0 (drop (1 + r) bs)) ≡ bare_len deepest nesting 0 bs
run_part deepest nesting bs r some first alone within plain bound =
    run_plain deepest nesting bs 1 r within plain bound ∙ run_alone deepest nesting bs 0 some first alone bound ∙ longer-none (bare_len deepest nesting 0 bs)

-- a parenthesis begins no escape
pub parenthesis_alone : (bs : List ℕ) (at : ℕ) → at < length bs → (get_or bs at 0 == left_parenthesis || get_or bs at 0 == right_parenthesis) ≡ true
    → begins_escape (drop at bs) ≡ false
parenthesis_alone bs at l h = no_escape bs at l (grind (arith, nat_tests, h))

-- plain bytes are read as they are
plain_byte_read : (h : List ℕ → Option ℕ) (t : Bool) (text : List ℕ) (at : ℕ) → at < length text → is_ordinary (get_or text at 0) ≡ true
    → IsRead h t text at (at + 1) (known_as 1 true (part text at (at + 1)))
plain_byte_read h t text at within plain =
    let o = ordinary_facts (get_or text at 0) plain in
    subst (λ bs. IsRead h t text at (at + 1) (known_as 1 true bs)) (read-kept text at (at + 1) 1 true) (read_unit h t text at (kept_unit (at + 1) 1 true)
    (byte_reads h t text at 1 within o.2 o.3 (no_escape text at within o.1) o.4))

plain_read : (h : List ℕ → Option ℕ) (t : Bool) (text : List ℕ) (at r : ℕ) → at + suc r ≤ length text → ArePlain text at (suc r)
    → IsRead h t text at (at + suc r) (known_as (suc r) true (part text at (at + suc r)))
plain_read h t text at zero within plain =
    let z : at + 0 ≡ at = omega arith in
    plain_byte_read h t text at (omega arith) (ap (λ j. is_ordinary (get_or text j 0)) (sym z) ∙ plain 0 (omega arith))
plain_read h t text at (suc r) within plain =
    let m = at + suc r in
    let e : at + suc (suc r) ≡ m + 1 = omega arith in
    let c : suc (suc r) ≡ suc r + 1 = omega arith in
    let both = read_both h t text at m (m + 1) _ _ (plain_read h t text at r (omega arith) (λ k below. plain k (omega arith)))
    (plain_byte_read h t text m (omega arith) (plain (suc r) (omega arith))) in
    rw (e, c, ← part-split text at m (m + 1) (omega arith) (omega arith)) both

pub plain_run_reads : (h : List ℕ → Option ℕ) (t : Bool) (text : List ℕ) (at r : ℕ) → 0 < r → at + r ≤ length text → ArePlain text at r
    → Reads h t text at (kept_unit (at + r) r true)
plain_run_reads h t text at zero some within plain = absurd (omega arith)
plain_run_reads h t text at (suc r) some within plain =
    reads_from h t text at (kept_unit (at + suc r) (suc r) true) _ (read-kept text at (at + suc r) (suc r) true)
    (plain_read h t text at r within plain) (inl refl)

-- plain bytes with a `]` after them are a label
pub plain_label : (h : List ℕ → Option ℕ) (t : Bool) (text : List ℕ) (n : ℕ) → IsPlainLabel text n → label_at h t text ≡ Some (n + 1, take n text)
plain_label h t text zero l = let some = l.some in absurd (omega arith)
plain_label h t text (suc n) l =
    let z : 0 + suc n ≡ suc n = omega arith in
    let there = first_byte right_bracket text (suc n) l.closes in
    let few = l.few in
    let r : IsRead h t text 0 (suc n) (known_as (suc n) true (part text 0 (suc n))) =
    rw z at (plain_read h t text 0 n (omega (arith, there.0)) (are_plain text text 0 (suc n) refl l.plain)) in
    label_read h t text (suc n) _ r ∙ at_bracket h t text (suc n) _ there.0 (rw there.1) (omega arith) ∙ rw (there.1, part-start text (suc n))
