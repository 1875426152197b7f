use Rattle.std.proofs.Common.{◌≡◌, arith, length, nat_lt, true}
use Rattle.std.proofs.lemmas.Bool.Decides.{nat_tests}
use Rattle.first_pass_command.proofs.call.run_json.Goals as goal

-- there are several files
pub returns-in-true : goal.returns-in-true
returns-in-true g c =
    let lt = c.in-true.is in
    let many : nat_lt 1 (length c.args.files.now.names.now) ≡ true = grind (arith, nat_tests) in
    rw many c.run_files.ensures
