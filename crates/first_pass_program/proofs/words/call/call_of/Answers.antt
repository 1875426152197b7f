use Rattle.std.proofs.Common.{◌∙◌, codes, rules}
use Rattle.clap.proofs.WalkLemmas.{first_value-rows}
use Rattle.clap.specs.Matches.{found_of}
use Rattle.first_pass_program.proofs.words.call.call_of.Goals as goal

pub returns : goal.returns
returns c = record {
  report = c.in_ok-report.ensures;
  options = c.in-Ok.ensures;
  strips = c.is_on.ensures;
  files = search rules;
  list = c.get_str.ensures ∙ first_value-rows (found_of c.args.matches.now) (codes "files-from");
}
