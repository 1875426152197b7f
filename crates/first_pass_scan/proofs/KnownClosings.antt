-- That a record of closing lines is right is a proposition: it has at most one proof.
use Rattle.std.proofs.Common.{ℕ, List, Option, Some, None, IfSome}
use Rattle.std.proofs.Math.Bridge.{le_prop}
use Rattle.std.proofs.Math.Nat.{ℕ_set}
use Rattle.first_pass_scan.specs.declared.metadata_search.ClosingLine.{ClosingLine}
use Rattle.first_pass_scan.specs.declared.metadata_search.MetadataEnds.{MetadataEnds}
use Rattle.first_pass_scan.specs.MetadataSearch.{IsClosingLine, IsKnownOf}

line_prop : (c : ℕ) (text : List ℕ) (found : ClosingLine) → IsProp (IsClosingLine c text found)
line_prop c text found = hlevel (le_prop, ℕ_set)

some_prop : (c : ℕ) (text : List ℕ) (o : Option ClosingLine) → IsProp (IfSome o (IsClosingLine c text))
some_prop c text None = hlevel
some_prop c text (Some found) = line_prop c text found

pub known_prop : (text : List ℕ) (ends : MetadataEnds) → IsProp (IsKnownOf text ends)
known_prop text ends = hlevel some_prop
