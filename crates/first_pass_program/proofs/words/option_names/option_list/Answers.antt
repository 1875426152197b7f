use Rattle.std.proofs.Common.{ap, map, rules}
use Rattle.first_pass_program.proofs.OptionLemmas.{entry_of, names_are, names_none}
use Rattle.first_pass_program.proofs.words.option_names.option_list.Goals as goal

pub returns-then-branch : goal.returns-then-branch
returns-then-branch c =
    names_are _ _ _ _ _ (c.bits.ensures tt) (ap (map entry_of) c.as_slice.ensures) c.new-names.ensures.bytes c.in_ok-push_names.ensures.text (search rules)

pub returns : goal.returns
returns c =
    names_none _ _ _ _ _ _ (c.bits.ensures tt) (ap (map entry_of) c.as_slice.ensures) c.new-names.ensures.bytes c.in_ok-push_names.ensures.text (search rules)
    (search rules)
