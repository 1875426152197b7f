use Rattle.std.proofs.Common.{arith}
use Rattle.first_pass_grammar.proofs.Common.{on_err}
use Rattle.first_pass_places.proofs.WordPlaces.{words_are_places}
use Rattle.first_pass_places.proofs.attributes.attribute_ranges_in.Goals as goal

pub returns-in_err-add_words-clause-err : goal.returns-in_err-add_words-clause-err
returns-in_err-add_words-clause-err c = grind (arith, on_err, words_are_places)
