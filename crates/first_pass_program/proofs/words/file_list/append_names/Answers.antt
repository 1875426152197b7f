use Rattle.std.proofs.Common.{◌≡◌, ◌==◌, ◌++◌, ◌∙◌, not, map, length, ap, rules, tests}
use Rattle.std.proofs.lemmas.Iterator.Consumers.{YieldsList-end}
use Rattle.std.proofs.lemmas.Iterator.Splits.{YieldsList-from_slice_split}
use Rattle.std.specs.List.{filter}
use Rattle.first_pass_program.specs.FileLists.{separator}
use Rattle.first_pass_program.proofs.words.file_list.append_names.Goals as goal

-- the parts are those of the list
pub returns : goal.returns
returns c =
    let all = YieldsList-end
    (YieldsList-from_slice_split _ (λ b. b == separator c.args.list.now) {f = c.split-name-items.result.pred} c.args.list.now (cc) (cc) (cc)
    (λ x b q k. search (rules, tests)))
    c.loop-name.yielded _ c.loop-name.yielded_by _ _ c.in-None.is c.next.ensures.steps in
    c.loop-name.invariant ∙ ap (λ ps. map (λ name. name.now) c.args.names.now.items ++ filter (λ name. not (length name == 0)) ps) all.0
