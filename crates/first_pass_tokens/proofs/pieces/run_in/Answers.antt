use Rattle.std.proofs.Common.{arith}
use Rattle.first_pass_tokens.proofs.RunPlaces.{run_place}
use Rattle.first_pass_tokens.proofs.pieces.run_in.Goals as goal

pub range_from-requires : goal.range_from-requires
range_from-requires c =
    λ some.
    (run_place c.args.content.whole.now c.args.text.now c.args.at c.run_size-size.result c.requires.utf8 c.requires.front c.requires.here
    c.run_size-size.ensures.value c.run_size-size.ensures.some c.run_size-size.ensures.fits).0

pub overflow_add-at : goal.overflow_add-at
overflow_add-at c = grind (arith, run_place)
