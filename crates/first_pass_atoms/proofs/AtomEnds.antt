-- The byte before the end of an atom is `>`, and that end is on a character boundary.
use Rattle.std.proofs.Common.{◌≡◌, ℕ, zero, suc, ◌+◌, ◌<◌, Bool, true, false}
use Rattle.std.proofs.Common.{List, [], ◌∷◌, length, drop, get_or, Option, Some, None, IfSome, IsUtf8, IsCharBoundary, codes}
use Rattle.std.proofs.Common.{if◌then◌else◌, ◌⊎◌, inl, inr, refl, sym, ap, subst, arith}
use Rattle.std.specs.Option.{option_map, option_or}
use Rattle.std.proofs.lemmas.Option.{none-some, same_Some}
use Rattle.std.proofs.lemmas.List.{get_or_past}
use Rattle.std.proofs.lemmas.Str.{IsCharBoundary-after_ascii}
use Rattle.first_pass_items.specs.Bytes.{less_than, greater_than}
use Rattle.first_pass_lines.specs.Lines.{begins}
use Rattle.first_pass_lines.proofs.OptionFacts.{some_mapped, some_if}
use Rattle.first_pass_html.specs.Starts.{begins_with, begins_letter}
use Rattle.first_pass_atoms.specs.declared.autolinks.Autolink.{Autolink}
use Rattle.first_pass_atoms.specs.declared.autolinks.AutolinkForm.{AutolinkForm}
use Rattle.first_pass_atoms.specs.declared.autolinks.AutolinkForm.TheVariants.{Uri, Email}
use Rattle.first_pass_atoms.specs.Autolinks.{closed, uri_len, email_len, address_of, link_at, autolink_at}
use Rattle.first_pass_atoms.specs.TagLengths.{open_tag_len, closing_tag_len}
use Rattle.first_pass_atoms.specs.RawHtml.{text_end, comment_at, declaration_at, raw_html_at}
use Rattle.first_pass_atoms.proofs.ClosingBytes.{Closes, same, later, begun, begins_closes, text_end_closes, open_tag_closes, closing_tag_closes}

-- one of two results
chosen : {C : Type 0} (t : Bool) (o p : Option ℕ) (n : ℕ) → (if t then o else p) ≡ Some n → (t ≡ true → o ≡ Some n → C) → (p ≡ Some n → C) → C
chosen true o p n h first other = first refl h
chosen false o p n h first other = other h

comment_closes : (content : List ℕ) (place n : ℕ) → comment_at content place ≡ Some n → Closes content n
unfolding comment_at
comment_closes content place n h =
    let rest : List ℕ = drop (place + 4) content in
    chosen (begins_with (codes ">") rest) (Some (place + 5)) _ n h
    (λ t e. same content (place + 4 + 1) n (omega (arith, same_Some (place + 5) n e)) (later (place + 4) content 1 (begins_closes [] rest t)))
    (λ g. chosen (begins_with (codes "->") rest) (Some (place + 6)) _ n g
    (λ t e. same content (place + 4 + 2) n (omega (arith, same_Some (place + 6) n e)) (later (place + 4) content 2 (begins_closes (codes "-") rest t)))
    (λ e. text_end_closes (codes "--") content (place + 4) n e))

declaration_closes : (content : List ℕ) (place n : ℕ) → declaration_at content place ≡ Some n → Closes content n
unfolding declaration_at
declaration_closes content place n h =
    let rest : List ℕ = drop (place + 2) content in
    chosen (begins_with (codes "--") rest) (comment_at content place) _ n h (λ t e. comment_closes content place n e)
    (λ g. chosen (begins_with (codes "[CDATA[") rest) (text_end (codes "]]>") content (place + 9)) _ n g
    (λ t e. text_end_closes (codes "]]") content (place + 9) n e)
    (λ f. text_end_closes [] content (place + 3) n (some_if (begins_letter rest) _ n f).1))

-- a tag
tag_closes : (d : ℕ) (content : List ℕ) (place : ℕ) (o : Option ℕ) (n : ℕ)
    → ((k : ℕ) → o ≡ Some k → Closes (drop d (drop place content)) k) → option_map (λ k. place + (d + k)) o ≡ Some n → Closes content n
tag_closes d content place o n part h =
    let m = some_mapped (λ k. place + (d + k)) o n h in
    same content (place + (d + m.0)) n m.2 (later place content (d + m.0) (later d (drop place content) m.0 (part m.0 m.1)))

raw_html_closes : (content : List ℕ) (place n : ℕ) → raw_html_at content place ≡ Some n → Closes content n
unfolding raw_html_at
raw_html_closes content place n h =
    let rest : List ℕ = drop place content in
    chosen (begins_with (codes "<?") rest) (text_end (codes "?>") content (place + 2)) _ n h
    (λ t e. text_end_closes (codes "?") content (place + 2) n e)
    (λ g. chosen (begins_with (codes "<!") rest) (declaration_at content place) _ n g (λ t e. declaration_closes content place n e)
    (λ f. chosen (begins_with (codes "</") rest) (option_map (λ k. place + (2 + k)) (closing_tag_len (drop 2 rest))) _ n f
    (λ t e. tag_closes 2 content place (closing_tag_len (drop 2 rest)) n (λ k i. closing_tag_closes _ k i) e)
    (λ i. tag_closes 1 content place (open_tag_len (drop 1 rest)) n (λ k j. open_tag_closes _ k j) (some_if (begins_with (codes "<") rest) _ n i).1)))

-- an address before its `>`
closed_begins : (form : AutolinkForm) (bs : List ℕ) (o : Option ℕ) (a : AutolinkForm × ℕ) → closed form bs o ≡ Some a → begins greater_than (drop a.1 bs) ≡ true
closed_begins form bs None a h = absurd (none-some a h)
closed_begins form bs (Some k) a h =
    let s = some_if (begins greater_than (drop k bs)) (Some (form, k)) a h in
    subst (λ (b : AutolinkForm × ℕ). begins greater_than (drop b.1 bs) ≡ true) (same_Some (form, k) a s.1) s.0

either : (o p : Option (AutolinkForm × ℕ)) (a : AutolinkForm × ℕ) → option_or o p ≡ Some a → (o ≡ Some a) ⊎ (p ≡ Some a)
either None p a h = inr h
either (Some b) p a h = inl h

address_begins : (bs : List ℕ) (a : AutolinkForm × ℕ) → address_of bs ≡ Some a → begins greater_than (drop a.1 bs) ≡ true
unfolding address_of
address_begins bs a h = elim (either (closed Uri bs (uri_len bs)) (closed Email bs (email_len bs)) a h) [
  | inl e ↦ closed_begins Uri bs (uri_len bs) a e
  | inr e ↦ closed_begins Email bs (email_len bs) a e
]

link_closes : (content : List ℕ) (place : ℕ) (link : Autolink) → autolink_at content place ≡ Some link → Closes content link.«end»
link_closes content place link h =
    let rest : List ℕ = drop place content in
    let s = some_if (begins less_than rest) (option_map (link_at place) (address_of (drop 1 rest))) link h in
    let m = some_mapped (link_at place) (address_of (drop 1 rest)) link s.1 in
    let n : ℕ = m.0.1 in
    let byte : Closes (drop n (drop 1 rest)) 1 = (0, refl, begun greater_than (drop n (drop 1 rest)) (address_begins (drop 1 rest) m.0 m.1)) in
    same content (place + (1 + (n + 1))) link.«end» (omega (arith, ap (λ (l : Autolink). l.«end») m.2))
    (later place content (1 + (n + 1)) (later 1 rest (n + 1) (later n (drop 1 rest) 1 byte)))

-- the place is in the content
within : (bs : List ℕ) (k : ℕ) → get_or bs k 0 ≡ greater_than → k < length bs
within [] k h = absurd (omega (arith, get_or_past {X = ℕ} [] k 0 (omega arith), h))
within (b ∷ bs) zero h = omega arith
within (b ∷ bs) (suc k) h = let r = within bs k h in omega (arith, r)

-- such a place is on a character boundary
boundary : (content : List ℕ) (n : ℕ) → IsUtf8 content → Closes content n → IsCharBoundary content n
boundary content n u c =
    subst (IsCharBoundary content) (sym c.1) (IsCharBoundary-after_ascii content c.0 u (within content c.0 c.2) (omega (arith, c.2)))

if_some : {A : Type 0} {P : A → Type 0} (o : Option A) → ((x : A) → o ≡ Some x → P x) → IfSome o P
if_some None h = tt
if_some (Some x) h = h x refl

pub link_boundary : (content : List ℕ) (place : ℕ) → IsUtf8 content → IfSome (autolink_at content place) (λ link. IsCharBoundary content link.«end»)
link_boundary content place u = if_some (autolink_at content place) (λ link e. boundary content link.«end» u (link_closes content place link e))

pub html_boundary : (content : List ℕ) (place : ℕ) → IsUtf8 content → IfSome (raw_html_at content place) (λ end. IsCharBoundary content end)
html_boundary content place u = if_some (raw_html_at content place) (λ n e. boundary content n u (raw_html_closes content place n e))
