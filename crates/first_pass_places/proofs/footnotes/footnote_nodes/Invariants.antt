use Rattle.std.proofs.Common.{take}
use Rattle.first_pass_names.specs.TableEntries.{names_of}
use Rattle.first_pass_places.specs.FootnoteNodes.{AreFirstFootnotes}
use Rattle.first_pass_places.proofs.footnotes.footnote_nodes.Given as goal

-- the nodes before this one are added
abbrev pub invariant-loop-index : goal.invariant-loop-index
invariant-loop-index l = AreFirstFootnotes (names_of l.allocs) (take l.index l.nodes) l.table
