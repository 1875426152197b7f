use Rattle.std.proofs.Common.{◌==◌, rules, tests}
use Rattle.std.proofs.lemmas.Iterator.Search.{all_from_yields_List}
use Rattle.std.proofs.lemmas.Iterator.Splits.{YieldsList-from_slice_split}
use Rattle.first_pass_items.specs.Bytes.{full_stop}
use Rattle.first_pass_atoms.specs.Autolinks.{is_label}
use Rattle.first_pass_atoms.proofs.autolinks.is_domain.Goals as goal

-- each part between full stops is tested
pub returns : goal.returns
returns c =
    all_from_yields_List is_label _ _ c.all.result c.all.ensures.ran
    (YieldsList-from_slice_split _ (λ b. b == full_stop) {f = c.split.result.pred} c.args.domain.now (cc) (cc) (cc) (λ x b q k. search (rules, tests)))
    (λ x b q k. search (rules, tests))
