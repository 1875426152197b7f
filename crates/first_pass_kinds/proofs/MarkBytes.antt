-- If `cannot_interrupt_by_standard` holds of the first byte, a line interrupts a paragraph at most as a table, a
-- footnote definition or a definition.
-- Thematic breaks, metadata and HTML blocks do not begin with `#`.
use Rattle.std.proofs.Common.{◌≡◌, inl, inr, ℕ, ◌==◌, nat_lt, Bool, true, false, true≢false, List, [], ◌∷◌, Option, Some, None, if◌then◌else◌, refl, sym, ap}
use Rattle.std.proofs.Common.{◌∙◌, subst, arith, is_some, ◌||◌, ne_eqb, eqb-true, option_map}
use Rattle.first_pass_grammar.proofs.Common.{cases_eq, cond_both, nat_tests, line_feed, carriage_return, number_sign, hyphen, less_than, greater_than}
use Rattle.first_pass_grammar.proofs.Common.{backquote, tilde, Options, HeadingLevel, begins, atx_level, Rest, indent, hrule_len, code_fence, list_marker}
use Rattle.first_pass_grammar.proofs.Common.{AtxHeading, HtmlToEnd, HtmlToBlank, all_taken, is_blank_rest, metadata_at, html_kind, later_kind, IsKind}
use Rattle.first_pass_grammar.proofs.Common.{begins_html_to_end, begins_html_to_blank, interrupts_with}
use Rattle.first_pass_kinds.proofs.Common.{asterisk, plus_sign, underscore, isnt}
use Rattle.std.specs.Char.{is_ascii_digit}
use Rattle.first_pass_lines.specs.Lines.{ends_signs}
use Rattle.first_pass_scan.specs.Markers.{listitem}
use Rattle.first_pass_scan.specs.Metadata.{metadata_byte}
use Rattle.first_pass_kinds.specs.Marks.{cannot_interrupt_by_standard, begins_no_interruption_by_standard}
use Rattle.first_pass_kinds.proofs.KindLemmas.{AfterMetadata, last_here}
use Rattle.first_pass_kinds.proofs.PlainKinds.{tag_begins}

-- an ATX heading begins only with a number sign
unsigned : (b : ℕ) (bs : List ℕ) → b == number_sign ≡ false → atx_level (b ∷ bs) ≡ None
unfolding atx_level
unsigned b bs other = rw other (cond_both (ends_signs (b ∷ bs)) None None (λ o. o ≡ None) (λ _. refl) (λ _. refl))

no_digit : (b : ℕ) → cannot_interrupt_by_standard b ≡ true → is_ascii_digit b ≡ false
unfolding cannot_interrupt_by_standard
no_digit b h = grind (arith, nat_tests, h)

-- If `cannot_interrupt_by_standard` holds of its first byte, a line interrupts a paragraph at most as a table, a
-- footnote definition or a definition.
unmarked_first : (whole : Bool) (b : ℕ) (bs : List ℕ) → cannot_interrupt_by_standard b ≡ true → interrupts_with whole (b ∷ bs) ≡ false
unfolding cannot_interrupt_by_standard hrule_len code_fence list_marker listitem
unmarked_first whole b bs h =
    let differs = λ (c : ℕ) (k : cannot_interrupt_by_standard c ≡ false). isnt cannot_interrupt_by_standard b c h k in
    rw (unsigned b bs (differs number_sign refl), differs line_feed refl, differs carriage_return refl, differs hyphen refl)
    (rw (differs underscore refl, differs asterisk refl, differs backquote refl, differs tilde refl)
    (rw (differs greater_than refl, differs plus_sign refl, no_digit b h, differs less_than refl) refl))

pub unmarked_interrupts : (whole : Bool) (bs : List ℕ) → begins_no_interruption_by_standard bs ≡ true → interrupts_with whole bs ≡ false
unmarked_interrupts whole [] h = absurd (true≢false (sym h))
unmarked_interrupts whole (b ∷ bs) h = unmarked_first whole b bs h

-- An ATX heading begins with a number sign.
heading_begins : (bs : List ℕ) (level : HeadingLevel) → atx_level bs ≡ Some level → (xs : List ℕ) × (bs ≡ number_sign ∷ xs)
unfolding atx_level
heading_begins [] level e = absurd cc
heading_begins (b ∷ bs) level e = elim (cases_eq b number_sign) [
  | inl same ↦ (bs, ap (λ (x : ℕ). x ∷ bs) same)
  | inr other ↦ let none = unsigned b bs (ne_eqb b number_sign other) in absurd cc
]

-- No metadata block begins with a number sign.
sign_metadata : (columns : ℕ) (options : Options) (xs : List ℕ) → metadata_at columns options (number_sign ∷ xs) ≡ None
unfolding metadata_byte
sign_metadata columns options xs = grind arith

-- So, if an ATX heading begins at fewer than four columns, it is the block.
pub heading_kind : (options : Options) (r : Rest) (level : HeadingLevel) → is_blank_rest r ≡ false → nat_lt (indent r) 4 ≡ true
    → atx_level (all_taken r).left ≡ Some level → IsKind options r (AtxHeading level)
unfolding hrule_len
heading_kind options r level some bound e =
    let (xs, is) = heading_begins (all_taken r).left level e in
    let early : AfterMetadata options r None = record { some = some; bound = bound; metadata = rw is (sign_metadata (indent r) options xs) } in
    let rule : hrule_len (all_taken r).left ≡ None = rw is refl in
    let last : later_kind (all_taken r).left ≡ AtxHeading level = rw (rule, e) refl in
    subst (IsKind options r) last
    (last_here options r early (rw is refl) (λ n t. true≢false (sym (tag_begins (all_taken r).left n t) ∙ ap (begins less_than) is)))

-- A line that begins with `<` interrupts a paragraph exactly if an HTML block of types 1 to 6 begins there.
html_either : (t u : Bool) → (t || u) ≡ is_some (if t then Some HtmlToEnd else (if u then Some HtmlToBlank else None))
html_either t u = grind arith

pub tag_interrupts : (whole : Bool) (bs : List ℕ) → begins less_than bs ≡ true → interrupts_with whole bs ≡ is_some (html_kind bs)
unfolding hrule_len atx_level code_fence list_marker listitem
tag_interrupts whole [] h = absurd (true≢false (sym h))
tag_interrupts whole (b ∷ bs) h =
    rw (eqb-true b less_than h) (html_either (begins_html_to_end (less_than ∷ bs)) (begins_html_to_blank (less_than ∷ bs)))

pub mapped_some : {A B : Type 0} (f : A → B) (o : Option A) → is_some o ≡ is_some (option_map f o)
mapped_some f None = refl
mapped_some f (Some a) = refl
