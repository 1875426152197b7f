-- If a plain byte is next, the kind of the block is `Paragraph`, and nothing begins that interrupts a paragraph.
use Rattle.std.proofs.Common.{◌≡◌, inr, ℕ, zero, suc, ◌==◌, Bool, true, false, true≢false, List, [], ◌∷◌, take, None, refl, sym, ap, ◌∙◌, subst, arith}
use Rattle.first_pass_grammar.proofs.Common.{less_than, greater_than, Options, has, begins, Rest, is_plain, begins_plain, plain_begins, BeginsTagLine}
use Rattle.first_pass_grammar.proofs.Common.{html_kind, first_kind, later_kind, IsKindBy, IsKind, interrupts_with}
use Rattle.first_pass_kinds.proofs.Common.{plain_eol, plain_blank, plain_hrule, plain_atx, plain_fence, plain_listitem, plain_indent, Paragraph, plain_metadata}
use Rattle.first_pass_open.proofs.PlainLemmas.{plain_all}

pub plain_interrupts : (whole : Bool) (bs : List ℕ) → begins_plain bs ≡ true → interrupts_with whole bs ≡ false
unfolding is_plain
plain_interrupts whole bs h =
    rw (plain_eol bs h, plain_hrule bs h, plain_atx bs h, plain_fence bs h, plain_begins greater_than bs h refl)
    (rw (plain_listitem bs h, plain_begins less_than bs h refl) refl)

pub plain_html : (bs : List ℕ) → begins_plain bs ≡ true → html_kind bs ≡ None
unfolding is_plain
plain_html bs h = rw (plain_begins less_than bs h refl) refl

pub plain_last : (bs : List ℕ) → begins_plain bs ≡ true → later_kind bs ≡ Paragraph
plain_last bs h = rw (plain_hrule bs h, plain_atx bs h, plain_fence bs h) refl

begins_by : (n : ℕ) (bs xs : List ℕ) → take n bs ≡ less_than ∷ xs → begins less_than bs ≡ true
begins_by zero bs xs e = absurd cc
begins_by (suc n) [] xs e = absurd cc
begins_by (suc n) (b ∷ bs) xs e = let first : b ≡ less_than = cc in ap (λ (x : ℕ). x == less_than) first

-- a tag begins with a `<`
pub tag_begins : (bs : List ℕ) (n : ℕ) → BeginsTagLine bs n → begins less_than bs ≡ true
tag_begins bs n t = grind (arith, begins_by)

pub plain_tag : (bs : List ℕ) (n : ℕ) → begins_plain bs ≡ true → BeginsTagLine bs n → ⊥
unfolding is_plain
plain_tag bs n h t = true≢false (sym (tag_begins bs n t) ∙ plain_begins less_than bs h refl)

first_none : (options : Options) (r : Rest) → r.owed ≡ 0 → begins_plain r.left ≡ true → first_kind options r ≡ None
unfolding first_kind
first_none options r o h =
    rw (plain_blank r.left h, plain_indent r o h, plain_metadata (has options 128) (has options 256) r.left h) (plain_html r.left h)

pub plain_kind : (options : Options) (r : Rest) → r.owed ≡ 0 → begins_plain r.left ≡ true → IsKind options r Paragraph
plain_kind options r o h =
    let all = plain_all r o h in
    subst (λ k. IsKindBy r k Paragraph) (sym (first_none options r o h)) (inr (
      λ n t. plain_tag r.left n h (subst (λ (q : Rest). BeginsTagLine q.left n) all t),
      sym (ap (λ (q : Rest). later_kind q.left) all ∙ plain_last r.left h),
    ))
