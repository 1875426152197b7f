-- Marks whose parts can be read.
use Rattle.std.specs.Prelude.{ℕ, ◌<◌, List, [], ◌∷◌, IfSome, IsUtf8}
use Rattle.std.specs.List.{slice_range}
use Rattle.first_pass_inline.specs.declared.mark.Mark.{Mark}
use Rattle.first_pass_inline.specs.declared.mark.MarkKind.{MarkKind}
use Rattle.first_pass_inline.specs.declared.mark.MarkKind.TheVariants.{Autolink, Link as LinkMark}
use Rattle.first_pass_inline.specs.declared.mark.Span.{Span}
use Rattle.first_pass_inline.specs.declared.mark.Target.{Target}
use Rattle.first_pass_inline.specs.declared.mark.Target.TheVariants.{Inline}

-- the bytes of a part are UTF-8
abbrev pub IsText : List ℕ → Span → Type 0
IsText bytes s = IsUtf8 (slice_range bytes s.start s.«end»)

-- the destination and the title of an inline link are UTF-8
abbrev pub IsReadableTarget : List ℕ → Target → Type 0
IsReadableTarget bytes (Inline dest title) = IsText bytes dest × IfSome title (IsText bytes)
IsReadableTarget bytes _ = Unit {0}

-- the target of a link can be read, and an autolink has a byte (this project)
abbrev pub IsReadable : List ℕ → Span → MarkKind → Type 0
IsReadable bytes part (LinkMark l) = IsReadableTarget bytes l.target
IsReadable bytes part (Autolink form) = part.start < part.«end»
IsReadable bytes part _ = Unit {0}

-- the same of each mark
abbrev pub AreReadable : List ℕ → List Mark → Type 0
AreReadable bytes [] = Unit {0}
AreReadable bytes (m ∷ ms) = IsReadable bytes m.part m.kind × AreReadable bytes ms
