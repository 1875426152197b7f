use Rattle.std.proofs.Common.{◌∙◌, ◌++◌, map, sym, ap, append-nil, codes, rules}
use Rattle.clap.specs.Matches.{found_of}
use Rattle.first_pass_program.proofs.CallLemmas.{values_appended, values_given, values_left}
use Rattle.first_pass_program.proofs.words.call.append_files.Goals as goal

pub returns-in-Some : goal.returns-in-Some
returns-in-Some c =
    let given = values_given (found_of c.args.matches.now) (codes "files") (map (λ v. v.now) c.in-Some.names.now) (search rules) in
    values_appended c.extend_from_slice.result c.args.files.now.items _ c.in-Some.names.now _ c.extend_from_slice.ensures.items given

pub returns-in-None : goal.returns-in-None
returns-in-None c =
    let left = values_left (found_of c.args.matches.now) (codes "files") (search rules) in
    let old = map (λ file. file.now) c.args.files.now.items in
    sym (append-nil old) ∙ ap (λ l. old ++ l) left
