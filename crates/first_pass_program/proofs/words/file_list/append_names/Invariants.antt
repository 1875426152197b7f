use Rattle.std.proofs.Common.{◌≡◌, ◌==◌, ◌++◌, not, map, length}
use Rattle.std.specs.List.{filter}
use Rattle.first_pass_program.proofs.words.file_list.append_names.Given as goal

-- the names among the parts so far are appended
abbrev pub invariant-loop-name : goal.invariant-loop-name
invariant-loop-name l =
    map (λ name. name.now) l.names.items
    ≡ map (λ name. name.now) l.initial.names.items ++ filter (λ name. not (length name == 0)) (map (λ name. name.now) l.yielded)
