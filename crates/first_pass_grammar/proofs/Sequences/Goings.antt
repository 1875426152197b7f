-- Where a sequence of blocks continues, and where it ends.
use Rattle.std.proofs.Common.{◌≡◌, ◌⊎◌, ℕ, ◌&&◌, Bool, true, false, List, ◌∷◌, Option, Some, None, refl, subst, if◌then◌else◌, option_map, is_some, true≢false}
use Rattle.std.proofs.Common.{arith, []}
use Rattle.first_pass_grammar.proofs.Common.{cond_both, and_parts, none-some, Options, Rest, Place, Before, context, at_rest, after, taken, next_goes_on}
use Rattle.first_pass_grammar.proofs.Common.{in_footnote, ends_footnote, is_blank_rest, Continues, Line, Blanks, AtPlace, Inside, is_blank_after, next_is_blank}
use Rattle.first_pass_grammar.proofs.Common.{Level, level, Remaining, Lines, InLine, NextBlock, Begins, Ends, ends_old_footnote, only_blanks, next_block}
use Rattle.first_pass_grammar.specs.declared.kind.Container.{Container}
use Rattle.first_pass_grammar.specs.Skeleton.{next_block_in, next_block_blank}

-- the place of a block and the lines after it: a place inside a line, or the place after the path's prefixes in the
-- next line
abbrev pub BeginsAt : List Container → Continues → List Place → Place → List Place → Type 0
BeginsAt path (AtPlace p may) lines q following = (q ≡ p) × (following ≡ lines)
BeginsAt path Line [] q following = ⊥
BeginsAt path Line (line ∷ lines) q following = (taken path line ≡ Some q) × (following ≡ lines)
BeginsAt path (Blanks e) [] q following = ⊥
BeginsAt path (Blanks e) (line ∷ lines) q following = (taken path line ≡ Some q) × (following ≡ lines)

-- what a sequence without blocks leaves: all lines, or a place where a block might begin
abbrev pub LeavesAt : List Container → Continues → List Place → Remaining → Type 0
LeavesAt path from lines (Lines left) = left ≡ lines
LeavesAt path from lines (InLine p following) = BeginsAt path from lines p following × (in_footnote path ≡ true)

abbrev GoesAt : List Container → Continues → List Place → NextBlock → Type 0
GoesAt path from lines (Begins p following) = BeginsAt path from lines p following
GoesAt path from lines (Ends left) = LeavesAt path from lines left

in_line : (path : List Container) (from : Continues) (lines : List Place) (p : Place) (following : List Place) (u : Bool)
    → BeginsAt path from lines p following
    → GoesAt path from lines (if◌then◌else◌ {A = NextBlock} (in_footnote path && u) (Ends (InLine p following)) (Begins p following))
in_line path from lines p following u at = grind (arith, cond_both, and_parts)

at_line : (options : Options) (l : Level) (line : Place) (lines : List Place) (o : Option Place) → taken l.path line ≡ o
    → GoesAt l.path Line (line ∷ lines) (next_block_in options l o (line ∷ lines))
at_line options l line lines o is = grind (arith, cond_both, in_line)

at_blank : (path : List Container) (e : ℕ) (line : Place) (lines : List Place) (o : Option Place) → taken path line ≡ o
    → GoesAt path (Blanks e) (line ∷ lines) (next_block_blank o (line ∷ lines))
at_blank path e line lines o is = grind (arith, cond_both)

goes_at : (options : Options) (l : Level) (from : Continues) (lines : List Place) → GoesAt l.path from lines (next_block options l from lines)
unfolding next_block
goes_at options l from lines = grind (arith, in_line, at_line, at_blank)

-- the place of the next block of a sequence
pub begins_at : (options : Options) (l : Level) (from : Continues) (lines : List Place) (p : Place) (following : List Place)
    → next_block options l from lines ≡ Begins p following → BeginsAt l.path from lines p following
begins_at options l from lines p following is = subst (GoesAt l.path from lines) is (goes_at options l from lines)

-- what a sequence without blocks leaves
pub leaves_at : (options : Options) (l : Level) (from : Continues) (lines : List Place) (left : Remaining)
    → next_block options l from lines ≡ Ends left → LeavesAt l.path from lines left
leaves_at options l from lines left is = subst (GoesAt l.path from lines) is (goes_at options l from lines)

begun_not_ended : (p : Place) (following : List Place) (left : Remaining) → Begins p following ≡ Ends left → ⊥
begun_not_ended p following left e = cc

pub same_left : (a b : Remaining) → Ends a ≡ Ends b → a ≡ b
same_left a b e = cc

-- at the top a sequence takes all lines
pub all_taken_at : (options : Options) (before : Before) (from : Continues) (lines : List Place) (left : Remaining)
    → next_block options (level [] before) from lines ≡ Ends left → only_blanks from ≡ None → left ≡ Lines []
unfolding next_block after
all_taken_at options before from lines left is none = grind (arith, begun_not_ended, same_left, none-some)

-- a block begins inside a line if no footnote definition ends there; otherwise the sequence ends
pub begins_inside : (options : Options) (l : Level) (p : Place) (lines : List Place)
    → ends_footnote (context options l.path) p ≡ false → next_block options l (Inside p) lines ≡ Begins p lines
unfolding next_block
begins_inside options l p lines h = rw h refl

pub ends_inside : (options : Options) (l : Level) (p : Place) (lines : List Place)
    → ends_footnote (context options l.path) p ≡ true → next_block options l (Inside p) lines ≡ Ends (InLine p lines)
unfolding next_block
ends_inside options l p lines h = rw h refl

-- a line that continues the path is read at its place, unless a blank line before it ends a footnote definition in the
-- old form
pub enters : (options : Options) (l : Level) (line q : Place) (lines : List Place) → taken l.path line ≡ Some q → ends_old_footnote l ≡ false
    → next_block options l Line (line ∷ lines) ≡ next_block options l (Inside q) lines
unfolding next_block
enters options l line q lines is old = rw (is, old) refl

-- a line that does not continue the path ends a sequence, and so does the end of the text; a footnote definition in
-- the old form ends after a counting blank line
ends_by : (options : Options) (l : Level) (line : Place) (lines : List Place) (o : Option Rest) → (is_some o ≡ false) ⊎ (ends_old_footnote l ≡ true)
    → next_block_in options l (option_map (at_rest line) o) (line ∷ lines) ≡ Ends (Lines (line ∷ lines))
ends_by options l line lines o h = grind (arith, true≢false)

pub ends_old : (options : Options) (l : Level) (lines : List Place) → ends_old_footnote l ≡ true → next_block options l Line lines ≡ Ends (Lines lines)
unfolding next_block
ends_old options l lines old = grind (arith, ends_by)

pub stops : (options : Options) (l : Level) (lines : List Place) → next_goes_on l.path lines ≡ false → next_block options l Line lines ≡ Ends (Lines lines)
unfolding next_block
stops options l lines h = grind (arith, ends_by)

-- an item that takes only blank lines
stops_blank_by : (line : Place) (lines : List Place) (o : Option Rest) → is_blank_after o ≡ false
    → next_block_blank (option_map (at_rest line) o) (line ∷ lines) ≡ Ends (Lines (line ∷ lines))
stops_blank_by line lines o h = grind arith

pub stops_blank : (options : Options) (l : Level) (e : ℕ) (lines : List Place) → next_is_blank l.path lines ≡ false
    → next_block options l (Blanks e) lines ≡ Ends (Lines lines)
unfolding next_block
stops_blank options l e lines h = grind (arith, stops_blank_by)

pub begins_blank : (options : Options) (l : Level) (e : ℕ) (line q : Place) (lines : List Place) → taken l.path line ≡ Some q → is_blank_rest q.rest ≡ true
    → next_block options l (Blanks e) (line ∷ lines) ≡ Begins q lines
unfolding next_block
begins_blank options l e line q lines is blank = rw (is, blank) refl

-- inside a line, and if only blank lines are taken, what precedes the place makes no difference
pub going_inside : (options : Options) (path : List Container) (before before' : Before) (p : Place) (lines : List Place)
    → next_block options (level path before) (Inside p) lines ≡ next_block options (level path before') (Inside p) lines
unfolding next_block
going_inside options path before before' p lines = refl
