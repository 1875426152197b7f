use Rattle.std.proofs.Common.{◌≡◌, ◌++◌}
use Rattle.first_pass_outline.specs.ContentsLines.{closed}
use Rattle.first_pass_outline.proofs.contents_json.append_closed.Given as goal

-- the ends of the objects so far are written
abbrev pub invariant-loop-object : goal.invariant-loop-object
invariant-loop-object l = l.line.items ≡ l.initial.line.items ++ closed l._object
