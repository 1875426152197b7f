use Rattle.std.proofs.Common.{◌≡◌, ℕ, false, List, Option, Some, None, refl, sym, ap, subst, ◌∙◌, option_copied}
use Rattle.first_pass_grammar.proofs.Common.{text_of, folded, defined_under, LinkDef, label_at}
use Rattle.first_pass_names.proofs.LabelsAt.{IsReadAs, link_none, link_there}
use Rattle.first_pass_names.specs.TableEntries.{refdefs_of}
use Rattle.first_pass_names.proofs.items.Allocations.link_at.Goals as goal

pub returns-in_default : goal.returns-in_default
returns-in_default c =
    let bs : List ℕ = c.args.text.now in
    link_none (refdefs_of c.args.self.now) bs (label_at (λ further. Some 0) false bs) refl
    (subst (IsReadAs (label_at (λ further. Some 0) false bs)) c.in_default.is c.in_ok-size.ensures)

pub returns-in-Some-2 : goal.returns-in-Some-2
returns-in-Some-2 c =
    let bs : List ℕ = c.args.text.now in
    let links = refdefs_of c.args.self.now in
    let read = subst (IsReadAs (label_at (λ further. Some 0) false bs)) c.in-Some.is c.in_ok-size.ensures in
    let found : Option LinkDef = Some c.in-Some-2.link.now in
    let is : found ≡ defined_under (folded (text_of c.in-Some.label)) links =
    ap option_copied (sym c.in-Some-2.is) ∙ c.in_ok-link.ensures.value ∙ ap (λ xs. defined_under (folded xs) links) c.deref.ensures in
    link_there links bs (label_at (λ further. Some 0) false bs) c.in-Some.size c.in-Some.label found refl read is

pub returns : goal.returns
returns c =
    let bs : List ℕ = c.args.text.now in
    let links = refdefs_of c.args.self.now in
    let read = subst (IsReadAs (label_at (λ further. Some 0) false bs)) c.in-Some.is c.in_ok-size.ensures in
    let found : Option LinkDef = None in
    let is : found ≡ defined_under (folded (text_of c.in-Some.label)) links =
    ap option_copied (sym c.in-None.is) ∙ c.in_ok-link.ensures.value ∙ ap (λ xs. defined_under (folded xs) links) c.deref.ensures in
    link_there links bs (label_at (λ further. Some 0) false bs) c.in-Some.size c.in-Some.label found refl read is
