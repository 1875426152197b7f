use Rattle.std.proofs.Common.{◌≡◌, ◌∙◌, Some, map, refl, subst, sym}
use Rattle.first_pass_program.proofs.OptionLemmas.{entry_of}
use Rattle.first_pass_program.specs.OptionNames.{bits_among, named_bits, option_values}
use Rattle.first_pass_program.proofs.words.option_names.named_bits.Goals as goal

-- the name is that of an option
pub returns-in-Some : goal.returns-in-Some
unfolding named_bits
returns-in-Some c =
    let value : bits_among (map entry_of c.as_slice.result.now) c.args.word.now ≡ Some c.in-Some.bits = sym c.bits_among.ensures ∙ c.in-Some.is in
    let here : bits_among option_values c.args.word.now ≡ Some c.in-Some.bits =
    subst (λ l. bits_among (map entry_of l) c.args.word.now ≡ Some c.in-Some.bits) c.as_slice.ensures value in
    rw here refl
