use Rattle.std.proofs.Common.{◌≡◌, ℕ, List, drop, sym, ap, ◌∙◌, subst, arith}
use Rattle.first_pass_html.specs.TagLengths.{open_end_len}
use Rattle.first_pass_html.specs.Fronts.{IsPastAttributes}
use Rattle.first_pass_html.proofs.WholeTagFacts.{opening_found, opening_needs_end, opening_not_raw}
use Rattle.first_pass_html.proofs.tags.scan_open_tag.Goals as goal

pub returns-then-is_raw_name-clause-none : goal.returns-then-is_raw_name-clause-none
returns-then-is_raw_name-clause-none c = grind (arith, opening_not_raw)

pub returns-in_err-end-clause-none : goal.returns-in_err-end-clause-none
returns-in_err-end-clause-none c =
    let bytes : List ℕ = c.args.bytes.now in
    let n : ℕ = c.in_ok-name.name in
    let a : ℕ = c.scan_attributes-attributes.result in
    let past = subst (λ (xs : List ℕ). IsPastAttributes xs a) c.rest_of-following.ensures.value c.scan_attributes-attributes.ensures.value in
    let left : c.rest_of.result.now ≡ drop a (drop n bytes) = c.rest_of.ensures.value ∙ ap (drop a) c.rest_of-following.ensures.value in
    rw c.from_residual-in_err-end.ensures
    (opening_needs_end bytes n a (sym c.in_ok-name.ensures.value) past (ap open_end_len (sym left) ∙ sym c.in_err-end.ensures.value))

pub returns-clause-found : goal.returns-clause-found
returns-clause-found c =
    let bytes : List ℕ = c.args.bytes.now in
    let n : ℕ = c.in_ok-name.name in
    let a : ℕ = c.scan_attributes-attributes.result in
    let k : ℕ = c.in_ok-end.end in
    let following = c.rest_of-following.ensures.value in
    let left : c.rest_of.result.now ≡ drop a (drop n bytes) = c.rest_of.ensures.value ∙ ap (drop a) following in
    let past = subst (λ (xs : List ℕ). IsPastAttributes xs a) following c.scan_attributes-attributes.ensures.value in
    opening_found bytes n a k (sym c.in_ok-name.ensures.value) past (ap open_end_len (sym left) ∙ sym c.in_ok-end.ensures.value)
    (sym c.if-is_raw_name.ensures.value)
