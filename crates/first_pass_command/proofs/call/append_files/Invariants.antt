use Rattle.std.proofs.Common.{◌≡◌, ◌++◌, map, take}
use Rattle.first_pass_command.proofs.call.append_files.Given as goal

-- the names so far are appended
abbrev pub invariant-loop-file : goal.invariant-loop-file
invariant-loop-file l =
    map (λ name. name.now) l.names.items ≡ map (λ name. name.now) l.initial.names.items ++ map (λ file. file.now) (take l.file-index l.files)
