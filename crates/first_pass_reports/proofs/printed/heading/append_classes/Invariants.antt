use Rattle.std.proofs.Common.{◌≡◌, ◌++◌, take, map}
use Rattle.first_pass_reports.specs.HeadingValues.{class_values}
use Rattle.first_pass_reports.proofs.printed.heading.append_classes.Given as goal

-- the classes so far are written
abbrev pub invariant-loop-class : goal.invariant-loop-class
invariant-loop-class l = l.line.items ≡ l.initial.line.items ++ class_values (map (λ class. class.now) (take l.class-index l.classes))
