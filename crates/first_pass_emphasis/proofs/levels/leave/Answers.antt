use Rattle.std.proofs.Common.{rules, ◌≡◌, ◌+◌, ◌∷◌, [], ◌∙◌, ap, sym, arith, length, length-append}
use Rattle.first_pass_emphasis.proofs.Walks.{snoc_same}
use Rattle.first_pass_emphasis.proofs.levels.leave.Goals as goal

pub returns-in-Some : goal.returns-in-Some
returns-in-Some c = λ around last h.
    let same = snoc_same c.pop.new.self.items around c.in-Some.around last (sym c.in-Some.ensures.items ∙ h) in
    (same.0, same.1)

pub returns-in-None : goal.returns-in-None
returns-in-None c = λ around last h.
    let none : length c.args.outer.now.items ≡ 0 = search (rules, c.in-None.ensures.cases) in
    let some : length c.args.outer.now.items ≡ length around + 1 = ap length h ∙ length-append around (last ∷ []) in
    absurd (omega (arith, none, some))
