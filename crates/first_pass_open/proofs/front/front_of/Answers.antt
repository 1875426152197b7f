use Rattle.std.proofs.Common.{rules}
use Rattle.first_pass_grammar.proofs.Common.{line_rest}
use Rattle.first_pass_open.proofs.ContinuedLemmas.{kept_continued}
use Rattle.first_pass_open.proofs.front.front_of.Goals as goal

pub returns-clause-kept : goal.returns-clause-kept
returns-clause-kept c =
    kept_continued c.args.options c.args.tree.now c.scan_containers-kept.result (line_rest c.args.bytes.now) c.scan_containers-kept.new.line_start record {
      within = c.scan_containers-kept.ensures.within;
      taken = search rules;
      stops = search rules;
    }
