use Rattle.std.proofs.Common.{◌+◌, arith}
use Rattle.first_pass_leaves.proofs.FencedLemmas.{IsInfo, info_read, info_from, info_end, info_is}
use Rattle.first_pass_leaves.proofs.fenced_code.info_string.Goals as goal
use Rattle.first_pass_leaves.proofs.fenced_code.info_string.Goals.{After-trailing_white}

read : (c : After-trailing_white)
    → IsInfo c.args.text.now c.args.start (c.args.start + c.scan_whitespace_no_nl.result) c.next_line-next.result c.trailing_white.result
read c = grind (arith, info_read)

pub range-requires-clause-start_boundary : goal.range-requires-clause-start_boundary
range-requires-clause-start_boundary c = λ some. info_from c.args.text.now c.args.start _ _ _ (read c) c.utf8.text c.requires.boundary

pub range-requires-clause-end_boundary : goal.range-requires-clause-end_boundary
range-requires-clause-end_boundary c = info_end c.args.text.now c.args.start _ _ _ (read c) c.utf8.text c.requires.boundary

pub returns : goal.returns
returns c = grind (arith, info_is, read)
