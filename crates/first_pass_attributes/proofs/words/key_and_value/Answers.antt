use Rattle.std.proofs.Common.{◌≡◌, ◌<◌, length, slice_index, arith}
use Rattle.std.proofs.lemmas.Str.{IsCharBoundary-after_ascii}
use Rattle.first_pass_attributes.proofs.words.key_and_value.Goals as goal

pub range_from-requires : goal.range_from-requires
range_from-requires c some =
    let sign : slice_index c.args.word.now c.in-Some.at ≡ 61 = grind arith in
    let within : c.in-Some.at < length c.args.word.now = grind arith in
    IsCharBoundary-after_ascii c.args.word.now c.in-Some.at c.utf8.word within (omega (arith, sign))
