use Rattle.std.proofs.Common.{drop, arith, length-drop}
use Rattle.first_pass_grammar.proofs.Common.{atx_level-signs}
use Rattle.first_pass_leaves.proofs.heading.heading_text_start.Goals as goal

pub rest_of-requires : goal.rest_of-requires
rest_of-requires c =
    let signs = atx_level-signs (drop c.args.start c.args.bytes.now) c.args.level c.requires.heading in
    let n = length-drop c.args.start c.args.bytes.now in
    let fits = signs.1 in
    let v = c.level_number.ensures.value in
    omega arith
