use Rattle.std.proofs.Common.{length}
use Rattle.first_pass_names.specs.TableEntries.{names_of}
use Rattle.first_pass_outline.specs.Titles.{titles}
use Rattle.first_pass_outline.proofs.Nestings.{HasEntries}
use Rattle.first_pass_outline.proofs.contents.contents_of.Given as goal

-- the entries so far, and the headings of the rest
abbrev pub invariant-loop-node : goal.invariant-loop-node
invariant-loop-node l =
    let names = names_of l.parsed.allocs in
    HasEntries l.all (titles l.parsed.text.now names l.rest) (titles l.parsed.text.now names l.parsed.tree.nodes)

abbrev pub decreases-loop-node : goal.decreases-loop-node
decreases-loop-node l = length l.rest
