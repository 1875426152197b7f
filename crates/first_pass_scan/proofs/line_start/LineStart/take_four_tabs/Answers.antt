use Rattle.std.proofs.Common.{rules, ◌≡◌, ◌+◌, ◌-◌, ◌∷◌, drop, sym, ap, ◌∙◌, arith, drop-drop}
use Rattle.first_pass_lines.specs.Rest.{Rest}
use Rattle.first_pass_items.specs.Bytes.{tab}
use Rattle.first_pass_scan.proofs.BlankFacts.{TakesBlank, four_tabs}
use Rattle.first_pass_scan.proofs.line_start.LineStart.take_four_tabs.Goals as goal

four : (c : goal.After-self-in-9-1) → c.rest_of.result.now ≡ tab ∷ tab ∷ tab ∷ tab ∷ drop 4 c.rest_of.result.now
four c = search rules

abbrev after_four : goal.After-self-in-9-1 → Rest
after_four c =
    let t = c.self.inside in
    record { left = drop (t.at + 4) t.bytes.now; taken = t.at + 4; owed = t.owed; column = t.at + 4 - (t.at + 4) }

takes : (c : goal.After-self-in-9-1) → TakesBlank c.args.self.now (after_four c)
takes c =
    let t = c.self.inside in
    let left = ap (λ (r : Rest). r.left) (sym c.self.view_is) ∙ sym c.rest_of.ensures.value in
    let owed = ap (λ (r : Rest). r.owed) c.self.view_is ∙ c.requires in
    let taken = ap (λ (r : Rest). r.taken + 4) c.self.view_is in
    let dropped = sym (drop-drop 4 t.at t.bytes.now) ∙ ap (drop 4) (sym c.rest_of.ensures.value) in
    four_tabs c.args.self.now (after_four c) (drop 4 c.rest_of.result.now) (left ∙ four c) c.requires
    dropped taken owed (omega arith)

pub returns-in-9-clause-all : goal.returns-in-9-clause-all
returns-in-9-clause-all c = (takes c).all

pub returns-in-9-clause-fewer : goal.returns-in-9-clause-fewer
returns-in-9-clause-fewer c = λ _. (takes c).fewer
