-- A property of the task list item marker after the marker of a container, if there is one.
use Rattle.std.proofs.Common.{Bool, true, false, Option, Some, None, IfSome, if◌then◌else◌}
use Rattle.first_pass_grammar.proofs.Common.{BlockQuoteKind, Item, after_task}
use Rattle.first_pass_grammar.specs.declared.kind.AfterMarker.{AfterMarker}
use Rattle.first_pass_grammar.specs.declared.kind.AfterMarker.TheVariants.{OnLine, TaskText, LineEnds, OnlyTag}
use Rattle.first_pass_grammar.specs.Openers.{after_quote}

abbrev pub HoldsAfter : (Item → Type 0) → AfterMarker → Type 0
HoldsAfter P OnLine = Unit {0}
HoldsAfter P (TaskText marker) = P marker
HoldsAfter P (LineEnds marker) = IfSome marker P
HoldsAfter P OnlyTag = Unit {0}

pub after_task_holds : (P : Item → Type 0) (t : Bool) (marker : Option Item) → IfSome marker P → HoldsAfter P (if t then LineEnds marker else after_task marker)
after_task_holds P true marker h = h
after_task_holds P false None h = tt
after_task_holds P false (Some marker) h = h

pub after_quote_holds : (P : Item → Type 0) (kind : Option BlockQuoteKind) → HoldsAfter P (after_quote kind)
after_quote_holds P None = tt
after_quote_holds P (Some kind) = tt
