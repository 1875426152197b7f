use Rattle.std.proofs.lemmas.Str.{IsCharBoundary-after_ascii}
use Rattle.first_pass_attributes.proofs.words.without_mark.Goals as goal

pub range_from-requires : goal.range_from-requires
range_from-requires c some = IsCharBoundary-after_ascii c.args.word.now 0 c.utf8.word c.requires.some c.requires.ascii
