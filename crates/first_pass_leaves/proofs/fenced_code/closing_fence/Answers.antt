use Rattle.std.proofs.Common.{◌≡◌, ◌+◌, ◌<◌, drop, ap, sym, ◌∙◌, arith}
use Rattle.first_pass_grammar.proofs.Common.{indent, place_at, offset, IsPlaceOf, unindented, closing_fence_len}
use Rattle.first_pass_leaves.proofs.FencedLemmas.{indented_place, closing_end}
use Rattle.first_pass_leaves.proofs.fenced_code.closing_fence.Goals as goal
use Rattle.first_pass_leaves.proofs.fenced_code.closing_fence.Goals.{After-bytes_scanned}

-- the place after the columns
place : (c : After-bytes_scanned) → (indent c.args.line_start < 4)
    × (c.args.start + c.bytes_scanned.result ≡ offset (unindented (place_at c.args.start c.args.line_start)))
    × IsPlaceOf c.args.text.now (unindented (place_at c.args.start c.args.line_start))
place c = indented_place c.args.text.now c.args.start c.bytes_scanned.result c.args.line_start _ _ c.utf8.text c.requires.place c.if-scan_space.false
    c.scan_space.ensures.value c.scan_space.ensures.rest c.bytes_scanned.ensures

pub overflow_add-at : goal.overflow_add-at
overflow_add-at c = grind (arith, place)

pub rest_of-requires : goal.rest_of-requires
rest_of-requires c = grind (arith, place)

pub returns-in_err-size : goal.returns-in_err-size
returns-in_err-size c =
    c.from_residual.ensures
    ∙ sym (closing_end c.args.text.now c.args.start c.bytes_scanned.result c.args.fence.byte c.args.fence.count c.args.line_start _
    (place (goal.at.returns-in_err-size c).After-bytes_scanned) (c.in_err-size.ensures.value ∙ ap (closing_fence_len c.args.fence.byte c.args.fence.count)
    (c.rest_of.ensures.value ∙ ap (drop (c.args.start + c.bytes_scanned.result)) c.as_bytes-bytes.ensures.value)))

pub returns : goal.returns
returns c =
    sym (closing_end c.args.text.now c.args.start c.bytes_scanned.result c.args.fence.byte c.args.fence.count c.args.line_start _
    (place (goal.at.returns c).After-bytes_scanned) (c.in_ok-size.ensures.value ∙ ap (closing_fence_len c.args.fence.byte c.args.fence.count)
    (c.rest_of.ensures.value ∙ ap (drop (c.args.start + c.bytes_scanned.result)) c.as_bytes-bytes.ensures.value)))
