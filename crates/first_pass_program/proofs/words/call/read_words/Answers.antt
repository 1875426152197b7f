use Rattle.std.proofs.Common.{◌∙◌, map, string_bytes, subst, sym}
use Rattle.std.proofs.lemmas.Result.{IfOk-weaker}
use Rattle.std.specs.Box.{box_value}
use Rattle.clap.specs.Matches.{found_of}
use Rattle.clap.specs.Words.{HasMatchesOf, rows_of}
use Rattle.clap.specs.declared.parser.matches.ArgMatches.TheViews.{out-ArgMatches, out-SubCommand}
use Rattle.first_pass_program.proofs.CallLemmas.{both_parts, simple}
use Rattle.first_pass_program.proofs.words.call.read_words.Goals as goal

-- clap's reading of the words names the command
pub returns-in-Some : goal.returns-in-Some
returns-in-Some c =
    let m = c.in_ok-matches.matches in
    let named = both_parts (λ b. (out-SubCommand (box_value b)).name.now) (λ b. rows_of (found_of (out-SubCommand (box_value b)).matches))
    (out-ArgMatches m).subcommand c.in-Some.name.now (rows_of (found_of c.in-Some.inner.now)) c.in-Some.ensures.name c.in-Some.ensures.rows in
    let exact = subst (λ a. HasMatchesOf a (map string_bytes c.args.words.now) m) c.in_ok-command.ensures c.in_ok-matches.ensures.matches simple in
    IfOk-weaker c.call_of.result _ _ (λ call denotes. record { name = _; rows = _; read = sym exact.1 ∙ named; denotes = denotes }) c.call_of.ensures
