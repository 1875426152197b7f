use Rattle.std.proofs.Common.{◌≡◌, ◌%◌, arith, ap}
use Rattle.std.proofs.lemmas.Grind.{common_steps}
use Rattle.std.proofs.lemmas.Bool.{cases_Bool}
use Rattle.std.proofs.lemmas.Bool.Decides.{nat_tests}
use Rattle.first_pass_emphasis.proofs.Bottoms.{class_same}
use Rattle.first_pass_emphasis.proofs.run.is_same_class.Goals as goal

pub returns : goal.returns
returns c = λ h.
    let opens : c.args.a.opens ≡ c.args.b.opens = grind (arith, nat_tests, common_steps, cases_Bool, c.if-a-b-2.false) in
    let closes : c.args.a.closes ≡ c.args.b.closes = grind (arith, nat_tests, common_steps, cases_Bool, c.if-a-b-3.false) in
    let threes : c.args.a.size % 3 ≡ c.args.b.size % 3 = grind (arith, nat_tests, common_steps) in
    class_same c.args.a c.args.b c.if-a-b.false opens closes (λ e. absurd (c.if-a-eq126.false e)) threes

pub returns-then-a-eq126 : goal.returns-then-a-eq126
returns-then-a-eq126 c = λ h.
    let opens : c.args.a.opens ≡ c.args.b.opens = grind (arith, nat_tests, common_steps, cases_Bool, c.if-a-b-2.false) in
    let closes : c.args.a.closes ≡ c.args.b.closes = grind (arith, nat_tests, common_steps, cases_Bool, c.if-a-b-3.false) in
    let sizes : c.args.a.size ≡ c.args.b.size = grind (arith, nat_tests, common_steps) in
    class_same c.args.a c.args.b c.if-a-b.false opens closes (λ e. sizes) (ap (λ n. n % 3) sizes)
