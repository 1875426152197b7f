use Rattle.std.proofs.Common.{sym, ◌∙◌, rules, tests}
use Rattle.std.proofs.lemmas.Iterator.Search.{all_from_yields_List}
use Rattle.std.proofs.lemmas.Iterator.{YieldsList-from_slice}
use Rattle.std.proofs.lemmas.List.Folds.{list_all-map}
use Rattle.first_pass_atoms.specs.CodeText.{spaced_byte, is_space}
use Rattle.first_pass_atoms.proofs.code_text.are_spaces.Goals as goal

pub returns : goal.returns
returns c =
    all_from_yields_List (λ b. is_space (spaced_byte b)) _ _ c.all.result c.all.ensures.ran (YieldsList-from_slice c.args.bytes.now cc)
    (λ x b q k. search (rules, tests))
    ∙ sym (list_all-map is_space spaced_byte c.args.bytes.now)
