use Rattle.std.proofs.Common.{arith}
use Rattle.first_pass_containers.proofs.Common.{task_keeps, task_found}
use Rattle.first_pass_containers.proofs.openers.scan_task.Goals as goal

pub offset-requires : goal.offset-requires
offset-requires c =
    let task = task_found _ c.scan_task_list_marker.result c.in_ok-checked.checked c.place.inside.rest c.scan_task_list_marker.new.self c.in_ok-checked.was
    c.scan_task_list_marker.ensures in
    let k = task_keeps c.args.source.now.text.now c.place.inside.line c.place.inside.rest
    (c.in_ok-checked.checked, c.scan_task_list_marker.new.self) c.requires.utf8 task (rw c.place.view_is c.requires.place) in
    let short = c.recall_length.ensures in
    let i = k.0 in
    omega (arith, i.within)
