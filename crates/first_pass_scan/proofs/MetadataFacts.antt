-- Facts on the lines that close metadata.
use Rattle.std.proofs.Common.{◌≡◌, ◌&&◌, Option, Some, None, if◌then◌else◌, inl, inr, ℕ, zero, suc, ◌+◌, ◌-◌, ◌<◌, ◌≤◌, Bool, true, false, cond, ◌||◌}
use Rattle.std.proofs.Common.{nat_lt, List, [], ◌∷◌, length, drop, refl, sym, ap, ◌∙◌, arith, drop-drop, lt-ltb, le-ltb}
use Rattle.std.specs.List.{list_any}
use Rattle.std.proofs.lemmas.Bool.{cases_Bool, cases_lt}
use Rattle.first_pass_items.specs.Bytes.{plus_sign, hyphen}
use Rattle.first_pass_lines.specs.Lines.{begins, is_content, ends_line, line_len}
use Rattle.first_pass_lines.specs.Places.{Place, line_place, lines_after, lines_at}
use Rattle.first_pass_scan.specs.Metadata.{closes_metadata, any_line_closes, after_line, opens_metadata, metadata_byte}
use Rattle.first_pass_scan.specs.MetadataSearch.{first_closing, closing_line_from}
use Rattle.first_pass_lines.proofs.LineFacts.{line_len-inside, line_len-within, lines_at-line, lines_at-end}
use Rattle.first_pass_lines.specs.Plain.{is_plain, begins_plain}
use Rattle.first_pass_scan.proofs.PlainFacts.{plain_begins}

-- the first line closes, or a later one does
any_line-first : (c start : ℕ) (text : List ℕ) (more : List Place) (t : Bool) → lines_at start (drop start text) ≡ line_place start (drop start text) ∷ more
    → t ≡ closes_metadata c (drop start text) → any_line_closes c start (drop start text) ≡ (t || list_any (λ line. closes_metadata c line.rest.left) more)
any_line-first c start text more t h e =
    ap (list_any (λ line. closes_metadata c line.rest.left)) h ∙ ap (λ u. u || list_any (λ line. closes_metadata c line.rest.left) more) (sym e)

any_line-none : (c start : ℕ) (text : List ℕ) → lines_at start (drop start text) ≡ [] → any_line_closes c start (drop start text) ≡ false
any_line-none c start text h = ap (list_any (λ line. closes_metadata c line.rest.left)) h

-- the first closing line: this line, the first one after it, or none
pub closing_line-here : (c : ℕ) (text : List ℕ) (s : ℕ) → s < length text → closes_metadata c (drop s text) ≡ true → closing_line_from c text s ≡ s
unfolding closing_line_from first_closing
closing_line-here c text s l h = ap (first_closing c (length text)) (lines_at-line text s l) ∙ rw h

pub closing_line-further : (c : ℕ) (text : List ℕ) (s : ℕ)
    → s < length text → closes_metadata c (drop s text) ≡ false → closing_line_from c text s ≡ closing_line_from c text (s + line_len (drop s text))
unfolding closing_line_from first_closing
closing_line-further c text s l h = ap (first_closing c (length text)) (lines_at-line text s l) ∙ rw h

pub closing_line-end : (c : ℕ) (text : List ℕ) (s : ℕ) → length text ≤ s → closing_line_from c text s ≡ length text
unfolding closing_line_from first_closing
closing_line-end c text s l = ap (first_closing c (length text)) (lines_at-end text s l)

-- a line that begins before the end of another ends there at the latest
pub lines-apart : (text : List ℕ) (s y : ℕ) → s < y + line_len (drop y text) → s + line_len (drop s text) ≤ y + line_len (drop y text)
lines-apart text s y h =
    elim (cases_lt s y) as (λ _. s + line_len (drop s text) ≤ y + line_len (drop y text)) [
      | inl before ↦
          elim (cases_lt y (s + line_len (drop s text))) as (λ _. s + line_len (drop s text) ≤ y + line_len (drop y text)) [
            | inl inside ↦
                let d : drop (y - s) (drop s text) ≡ drop y text = drop-drop (y - s) s text ∙ ap (λ k. drop k text) (omega arith) in
                let e = line_len-inside (drop s text) (y - s) (omega arith) in
                omega (arith, ap line_len d)
            | inr outside ↦ omega arith
          ]
      | inr following ↦
          let d : drop (s - y) (drop y text) ≡ drop s text = drop-drop (s - y) y text ∙ ap (λ k. drop k text) (omega arith) in
          let e = line_len-inside (drop y text) (s - y) (omega arith) in
          omega (arith, ap line_len d)
    ]

-- what holds past the end of a text, and of the start of each line if it does of the next one's, holds at each offset
module _ (text : List ℕ) (P : ℕ → Type 0) (past : (s : ℕ) → length text ≤ s → P s)
    (step : (s : ℕ) → s < length text → P (s + line_len (drop s text)) → P s) where
  by_lines_up_to : (most s : ℕ) → length text ≤ s + most → P s
  by_lines_up_to zero s m = past s (omega arith)
  by_lines_up_to (suc most) s m =
      elim (cases_lt s (length text)) [
        | inl some ↦
            let more = (line_len-within text s some).0 in
            step s some (by_lines_up_to most (s + line_len (drop s text)) (omega arith))
        | inr none ↦ past s none
      ]

  by_lines : (s : ℕ) → P s
  by_lines s = by_lines_up_to (length text) s (omega arith)

-- the closing line found from an offset on is also the one found from the start of a later line, unless it begins
-- before that line
pub closing_line-same : (c : ℕ) (text : List ℕ) (s y from : ℕ)
    → from ≡ y + line_len (drop y text) → s ≤ from → from ≤ closing_line_from c text s → closing_line_from c text s ≡ closing_line_from c text from
closing_line-same c text s y from e =
    by_lines text (λ k. k ≤ from → from ≤ closing_line_from c text k → closing_line_from c text k ≡ closing_line_from c text from)
    (λ k none b w. let end = closing_line-end c text k none in ap (closing_line_from c text) (omega arith)) step s
  where
    step : (k : ℕ) → k < length text
        → (k + line_len (drop k text) ≤ from → from ≤ closing_line_from c text (k + line_len (drop k text))
        → closing_line_from c text (k + line_len (drop k text)) ≡ closing_line_from c text from)
        → k ≤ from → from ≤ closing_line_from c text k → closing_line_from c text k ≡ closing_line_from c text from
    step k some next b w =
        elim (cases_lt k from) as (λ _. closing_line_from c text k ≡ closing_line_from c text from) [
          | inl before ↦
              elim (cases_Bool (closes_metadata c (drop k text))) as (λ _. closing_line_from c text k ≡ closing_line_from c text from) [
                | inl closes ↦ let here = closing_line-here c text k some closes in absurd (omega arith)
                | inr other ↦
                    let apart = lines-apart text k y (omega arith) in
                    let same = closing_line-further c text k some other in
                    same ∙ next (omega arith) (omega arith)
              ]
          | inr here ↦ ap (closing_line_from c text) (omega arith)
        ]

-- whether a line closes does not depend on the offset of the bytes
any_after : (c b s t : ℕ) (bs : List ℕ)
    → list_any (λ line. closes_metadata c line.rest.left) (lines_after b s bs) ≡ list_any (λ line. closes_metadata c line.rest.left) (lines_after b t bs)
unfolding lines_after
any_after c b s t [] = refl
any_after c b s t (x ∷ xs) =
    let p : Place → Bool = λ line. closes_metadata c line.rest.left in
    let r = any_after c x (s + 1) (t + 1) xs in
    elim (ends_line b (x ∷ xs)) as (λ u.
    let here : List Place = lines_after x (s + 1) xs in
    let there : List Place = lines_after x (t + 1) xs in
    list_any p (cond u (line_place s (x ∷ xs) ∷ here) here) ≡ list_any p (cond u (line_place t (x ∷ xs) ∷ there) there)) [
      | true ↦ ap (λ v. closes_metadata c (x ∷ xs) || v) r
      | false ↦ r
    ]

pub any_line-anywhere : (c s t : ℕ) (bs : List ℕ) → any_line_closes c s bs ≡ any_line_closes c t bs
unfolding lines_at
any_line-anywhere c s t [] = refl
any_line-anywhere c s t (b ∷ bs) = ap (λ v. closes_metadata c (b ∷ bs) || v) (any_after c b (s + 1) (t + 1) bs)

-- some line closes exactly if the first that does begins before the end of the text
pub any_line-sought : (c : ℕ) (text : List ℕ) (s : ℕ) → nat_lt (closing_line_from c text s) (length text) ≡ any_line_closes c s (drop s text)
any_line-sought c text =
    by_lines text (λ s. nat_lt (closing_line_from c text s) (length text) ≡ any_line_closes c s (drop s text))
    (λ s l.
    let at = closing_line-end c text s l in
    le-ltb _ _ (omega arith) ∙ sym (any_line-none c s text (lines_at-end text s l)))
    (λ s l next. step s l (closes_metadata c (drop s text)) refl next)
  where
    step : (s : ℕ) → s < length text → (t : Bool) → t ≡ closes_metadata c (drop s text)
        → nat_lt (closing_line_from c text (s + line_len (drop s text))) (length text)
        ≡ any_line_closes c (s + line_len (drop s text)) (drop (s + line_len (drop s text)) text)
        → nat_lt (closing_line_from c text s) (length text) ≡ any_line_closes c s (drop s text)
    step s l true h next =
        let at = closing_line-here c text s l (sym h) in
        let before : nat_lt (closing_line_from c text s) (length text) ≡ true = lt-ltb _ _ (omega arith) in
        before ∙ sym (any_line-first c s text _ true (lines_at-line text s l) h)
    step s l false h next =
        ap (λ k. nat_lt k (length text)) (closing_line-further c text s l (sym h)) ∙ next ∙ sym (any_line-first c s text _ false (lines_at-line text s l) h)

-- the same for the lines after the one at an offset
pub any_line-following : (c : ℕ) (text : List ℕ) (s from : ℕ)
    → from ≡ s + line_len (drop s text) → nat_lt (closing_line_from c text from) (length text) ≡ any_line_closes c 0 (after_line (drop s text))
any_line-following c text s from e =
    let d : drop from text ≡ after_line (drop s text) = ap (λ k. drop k text) e ∙ sym (drop-drop (line_len (drop s text)) s text) in
    any_line-sought c text from ∙ any_line-anywhere c from 0 (drop from text) ∙ ap (any_line_closes c 0) d

-- the bytes that open metadata are no line endings
metadata_plain_by : (t v w x : Bool) (byte : ℕ)
    → (if t then (if v then Some hyphen else None) else (if w then (if x then Some plus_sign else None) else None)) ≡ Some byte → is_content byte ≡ true
metadata_plain_by true true w x byte h = (let e : hyphen ≡ byte = cc in ap is_content (sym e))
metadata_plain_by true false w x byte h = cc
metadata_plain_by false v true true byte h = (let e : plus_sign ≡ byte = cc in ap is_content (sym e))
metadata_plain_by false v true false byte h = cc
metadata_plain_by false v false x byte h = cc

pub metadata_plain : (yaml pluses : Bool) (bs : List ℕ) (byte : ℕ) → metadata_byte yaml pluses bs ≡ Some byte → is_content byte ≡ true
unfolding metadata_byte
metadata_plain yaml pluses bs byte h =
    metadata_plain_by (yaml && begins hyphen bs) (opens_metadata hyphen bs) (pluses && begins plus_sign bs) (opens_metadata plus_sign bs) byte h

-- no metadata opens with a plain byte
and_none : (yaml : Bool) (t : Bool) (x y : Option ℕ) → t ≡ false → (if yaml && t then x else y) ≡ y
and_none true t x y e = rw e refl
and_none false t x y e = refl

pub plain_metadata : (yaml pluses : Bool) (bs : List ℕ) → begins_plain bs ≡ true → metadata_byte yaml pluses bs ≡ None
unfolding metadata_byte is_plain
plain_metadata yaml pluses bs h =
    and_none yaml (begins hyphen bs) _ _ (plain_begins hyphen bs h refl) ∙ and_none pluses (begins plus_sign bs) _ _ (plain_begins plus_sign bs h refl)
