use Rattle.std.proofs.Common.{false}
use Rattle.first_pass_emphasis.specs.Quotes.{quoted}
use Rattle.first_pass_emphasis.specs.Walks.{outside}
use Rattle.first_pass_emphasis.proofs.Walks.{level_quotes, level_runs, rest_of}
use Rattle.first_pass_emphasis.proofs.levels.settle.Goals as goal

pub pair_quotes-requires : goal.pair_quotes-requires
pair_quotes-requires c =
    let walk = c.args.walk.now in
    record {
      level = (
        outside c.requires.0,
        c.requires.2,
        level_quotes c.requires.0 c.requires.1 c.requires.2 walk _ c.requires.3
            (rest_of walk.quotes.items c.deref.result.now walk.level.quotes c.deref.ensures.value),
      );
    }

pub reduce-requires : goal.reduce-requires
reduce-requires c =
    let walk = c.args.walk.now in
    let quotes = level_quotes c.requires.0 c.requires.1 c.requires.2 walk _ c.requires.3
    (rest_of walk.quotes.items c.deref.result.now walk.level.quotes c.deref.ensures.value) in
    record {
      level = (
        outside c.requires.0,
        quoted false false c.requires.2,
        level_runs c.requires.0 c.requires.1 c.requires.2 walk c.pair_quotes.new.roles.items _
            c.requires.3 (c.pair_quotes.ensures (outside c.requires.0) c.requires.2 quotes)
            (rest_of walk.runs.items c.deref-2.result.now walk.level.runs c.deref-2.ensures.value),
      );
    }

pub returns : goal.returns
returns c = λ o from ts h.
    let walk = c.args.walk.now in
    let quotes = level_quotes o from ts walk _ h (rest_of walk.quotes.items c.deref.result.now walk.level.quotes c.deref.ensures.value) in
    record {
      roles = c.in_ok-reduce.ensures (outside o) (quoted false false ts) (level_runs o from ts walk c.pair_quotes.new.roles.items _ h
          (c.pair_quotes.ensures (outside o) ts quotes) (rest_of walk.runs.items c.deref-2.result.now walk.level.runs c.deref-2.ensures.value));
      keeps = record { runs = h.keeps.runs; quotes = h.keeps.quotes; outer = h.keeps.outer; level = h.keeps.level };
    }
