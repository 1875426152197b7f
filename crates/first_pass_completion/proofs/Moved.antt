-- What opens at a place, whatever precedes it.
use Rattle.std.proofs.Common.{◌≡◌, ℕ, Bool, true, false, List, Option, Some, None, MatchOption, refl, sym, ap, ◌∙◌, subst, if◌then◌else◌, option_map, arith}
use Rattle.first_pass_grammar.proofs.Common.{Options, Rest, Place, prefix, at_rest, is_blank_rest, footnote_head_at, Document, around, Opener}
use Rattle.first_pass_grammar.proofs.Common.{DefinitionMarker, Head, Leaf, BlankLine, Block, Skeleton, Nil, Then, Node, Before, after_block, before_end}
use Rattle.first_pass_grammar.proofs.Common.{gap_before, rows_of, Start, definition_head, definition_start, start_at, Continues, Inside, Opening, OpensLeaf}
use Rattle.first_pass_grammar.proofs.Common.{OpensNode, OpensBy, OpensFootnote, Opens, level, may_define, opening_by, opening_of, Level, Remaining, IsFirst}
use Rattle.first_pass_grammar.proofs.Common.{IsSequence, and-false}
use Rattle.std.specs.Option.{option_or}
use Rattle.first_pass_grammar.specs.declared.kind.Container.{Container}
use Rattle.first_pass_grammar.specs.declared.kind.Container.TheVariants.{BlockQuote}
use Rattle.first_pass_grammar.specs.Kinds.{item_at}
use Rattle.first_pass_grammar.specs.Before.{definition_may_follow}
use Rattle.first_pass_grammar.specs.Openers.{after_item}
use Rattle.first_pass_grammar.proofs.Uniqueness.Alike.{only_opener, only_head, AlikeOpening}
use Rattle.first_pass_completion.proofs.Extending.{StaysAt}
use Rattle.first_pass_completion.proofs.FlatBlocks.{FlatBlock, OwnParagraph, opened_own}
use Rattle.first_pass_grammar.proofs.Sequences.Goings.{begins_at, begins_inside, going_inside}
use Rattle.first_pass_grammar.proofs.Sequences.OpenerFacts.{marker_where, item_as, quote_as}
use Rattle.first_pass_grammar.proofs.Uniqueness.Unique.{one_opening}

-- a definition is opened
abbrev pub is_definition : Opener → Bool
is_definition (DefinitionMarker columns) = true
is_definition o = false

-- what opens is a definition
abbrev pub opens_definition : Opening → Bool
opens_definition (OpensLeaf leaf there left) = false
opens_definition (OpensNode head inside following) = is_definition head.opener

-- What opens at a place is the same, whichever of two states precedes it.
pub record OpensAlike (d : Document) (path : List Container) (before before' : Before) (p : Place) : Type 0 where
  pub to : (lines : List Place) (o : Opening) → Opens d (level path before) p lines o → Opens d (level path before') p lines o
  pub back : (lines : List Place) (o : Opening) → Opens d (level path before') p lines o → Opens d (level path before) p lines o

-- what opens, given the head of a footnote definition there, if any, and the start of another container, if any
abbrev OpensWith : Document → List Container → Place → List Place → Opening → Option (ℕ × List ℕ) → Option Start → Type 0
OpensWith d path p lines o head start = MatchOption head (OpensBy d path p lines start o) (λ h. OpensFootnote d p lines h o)

-- the start of another container matters only if no footnote definition begins
alike_by : (d : Document) (path : List Container) (p : Place) (start start' : Option Start) (head : Option (ℕ × List ℕ)) → (head ≡ None → start ≡ start')
    → (lines : List Place) (o : Opening) → OpensWith d path p lines o head start → OpensWith d path p lines o head start'
alike_by d path p start start' None same lines o opens = subst (OpensWith d path p lines o None) (same refl) opens
alike_by d path p start start' (Some head) same lines o opens = opens

start_alike : (d : Document) (path : List Container) (before before' : Before) (p : Place)
    → (footnote_head_at (around d path) p ≡ None
    → start_at d.options (may_define d (level path before)) p ≡ start_at d.options (may_define d (level path before')) p)
    → OpensAlike d path before before' p
start_alike d path before before' p same = record {
  to = alike_by d path p _ _ (footnote_head_at (around d path) p) same;
  back = alike_by d path p _ _ (footnote_head_at (around d path) p) (λ none. sym (same none));
}

-- a definition may begin after both states, or after neither
pub takes_alike : (d : Document) (path : List Container) (before before' : Before) (p : Place)
    → definition_may_follow before.last ≡ definition_may_follow before'.last → OpensAlike d path before before' p
takes_alike d path before before' p is = grind (arith, start_alike)

either_opens : (t : Bool) (o o' : Opening) → opens_definition o ≡ true → opens_definition o' ≡ true → opens_definition (if t then o else o') ≡ true
either_opens true o o' h k = h
either_opens false o o' h k = k

definition_by : (d : Document) (path : List Container) (p q : Place) (lines : List Place) (columns : ℕ) (r : Rest) (t : Bool) → is_blank_rest r ≡ t
    → opens_definition (opening_by d path (definition_head p columns) q lines (after_item None r)) ≡ true
definition_by d path p q lines columns r true is = grind (arith, either_opens)
definition_by d path p q lines columns r false is = rw is refl

-- the marker of a definition opens one
definition_opens : (d : Document) (path : List Container) (p : Place) (lines : List Place) (marker : ℕ × Rest)
    → opens_definition (opening_of d path p lines (definition_start p marker)) ≡ true
definition_opens d path p lines (columns, r) = definition_by d path p (at_rest p r) lines columns r (is_blank_rest r) refl

abbrev of_three : Options → Place → Option ((ℕ × ℕ × ℕ) × Rest) → Option (ℕ × Rest) → Option Rest → Option Start
of_three options p i m q = option_or (option_map (item_as options p) i) (option_or (option_map (definition_start p) m) (option_map (quote_as options p) q))

without_by : (d : Document) (path : List Container) (p : Place) (lines : List Place) (o : Opening) (i : Option ((ℕ × ℕ × ℕ) × Rest)) (m : Option (ℕ × Rest))
    (q : Option Rest) → opens_definition o ≡ false → OpensBy d path p lines (of_three d.options p i m q) o
    → of_three d.options p i m q ≡ of_three d.options p i None q
unfolding OpensBy
without_by d path p lines o (Some item) m q other opens = refl
without_by d path p lines o None None q other opens = refl
without_by d path p lines o None (Some marker) q other opens = grind (arith, definition_opens)

without : (d : Document) (path : List Container) (p : Place) (lines : List Place) (o : Opening) (t : Bool) → opens_definition o ≡ false
    → OpensBy d path p lines (start_at d.options t p) o → start_at d.options t p ≡ start_at d.options false p
unfolding start_at
without d path p lines o t other opens = without_by d path p lines o (item_at p.rest) (marker_where t p) (prefix (BlockQuote None) p.rest) other opens

-- what opens is no definition, and none may begin after the other state
pub other_alike : (d : Document) (path : List Container) (before before' : Before) (p : Place) (lines : List Place) (o : Opening)
    → opens_definition o ≡ false → definition_may_follow before'.last ≡ false → Opens d (level path before) p lines o → OpensAlike d path before before' p
other_alike d path before before' p lines o other none opens = grind (arith, start_alike, without, and-false)

-- a first block opens at the place where the sequence continues
pub opens_first : (d : Document) (path : List Container) (before : Before) (p : Place) (lines : List Place) (o : Opening)
    → IsFirst d (level path before) (Inside p) lines o → Opens d (level path before) p lines o
opens_first d path before p lines o f =
    let l = level path before in
    let at = begins_at d.options l (Inside p) lines f.place f.following f.begins in
    subst (λ z. Opens d l p z o) at.1 (subst (λ z. Opens d l z f.following o) at.0 f.opens)

first_moved : (d : Document) (path : List Container) (before before' : Before) (p : Place) (lines : List Place) (o : Opening)
    → OpensAlike d path before before' p
    → IsFirst d (level path before') (Inside p) lines o → IsFirst d (level path before) (Inside p) lines o
first_moved d path before before' p lines o alike first =
    let at = begins_at d.options (level path before') (Inside p) lines first.place first.following first.begins in
    record {
      place = first.place;
      following = first.following;
      begins = going_inside d.options path before before' p lines ∙ first.begins;
      opens = (subst (λ z. OpensAlike d path before before' z) (sym at.0) alike).back first.following o first.opens;
    }

-- after the first block of a sequence the state is the same, whichever of two states precedes that block
abbrev pub SameAfter : Before → Before → Skeleton → Type 0
SameAfter before before' (Then (Block b) next) = after_block before b ≡ after_block before' b
SameAfter before before' (Node head e kids next) = Unit {0}
SameAfter before before' s = ⊥

-- such a sequence inside a line is the same, whichever of two states precedes it
pub seq_moved : (d : Document) (s : Skeleton) (path : List Container) (before before' : Before) (p : Place) (lines : List Place) (mid : Remaining)
    → OpensAlike d path before before' p → SameAfter before before' s
    → IsSequence d s (level path before') (Inside p) lines mid → IsSequence d s (level path before) (Inside p) lines mid
unfolding IsSequence
seq_moved d (Then (Block b) next) path before before' p lines mid alike same (there, left, first, seq) = grind (arith, first_moved)
seq_moved d (Node head e kids next) path before before' p lines mid alike same (inside, following, left, first, inner, ends, seq) = grind (arith, first_moved)
seq_moved d s path before before' p lines mid alike same seq = absurd same

-- the first block of a sequence has the same row too
abbrev pub SameFirst : Before → Before → Skeleton → Type 0
SameFirst before before' (Then (Block b) next) = (gap_before before b ≡ gap_before before' b) × (after_block before b ≡ after_block before' b)
SameFirst before before' (Node head e kids next) = before.counted ≡ before'.counted
SameFirst before before' s = ⊥

pub same_after : (before before' : Before) (s : Skeleton) → SameFirst before before' s → SameAfter before before' s
same_after before before' (Then (Block b) next) same = same.1
same_after before before' (Node head e kids next) same = tt
same_after before before' s same = absurd same

pub rows_moved : (quoted : Bool) (before before' : Before) (last : ℕ) (s : Skeleton) → SameFirst before before' s
    → rows_of quoted before last s ≡ rows_of quoted before' last s
unfolding rows_of
rows_moved quoted before before' last (Then (Block b) next) (gap, after) = rw (gap, after) refl
rows_moved quoted before before' last (Node head e kids next) same = rw same refl
rows_moved quoted before before' last s same = absurd same

pub counts_moved : (quoted : Bool) (before before' : Before) (s : Skeleton) → SameAfter before before' s
    → (before_end quoted before s).counted ≡ (before_end quoted before' s).counted
unfolding before_end
counts_moved quoted before before' (Then (Block b) next) same = ap (λ z. (before_end quoted z next).counted) same
counts_moved quoted before before' (Node head e kids next) same = refl
counts_moved quoted before before' s same = absurd same

-- a leaf block that opens is flat, and its paragraph has its start
abbrev pub FlatOpened : Opening → Type 0
FlatOpened (OpensLeaf (Block b) there left) = FlatBlock b × OwnParagraph b
FlatOpened o = Unit {0}

-- the first block opens alike to this, and is flat
abbrev pub Known : Document → Opening → Opening → Type 0
Known d o o' = AlikeOpening d.names d.names o o' × FlatOpened o'

-- a sequence has a first block, whose opening has a property
abbrev pub FirstHas : (Opening → Type 0) → Skeleton → Type 0
FirstHas P Nil = ⊥
FirstHas P (Then leaf next) = (there : Continues) × (left : List Place) × P (OpensLeaf leaf there left)
FirstHas P (Node head e kids next) = (inside : Continues) × (following : List Place) × P (OpensNode head inside following)

flat_leaf : (d : Document) (l : Level) (p : Place) (lines : List Place) (leaf : Leaf) (there : Continues) (left : List Place)
    → IsFirst d l (Inside p) lines (OpensLeaf leaf there left) → FlatOpened (OpensLeaf leaf there left)
flat_leaf d l p lines BlankLine there left first = tt
flat_leaf d l p lines (Block b) there left first = opened_own d l (Inside p) lines b there left tt first

alike_first : (d : Document) (path : List Container) (before : Before) (p : Place) (lines : List Place) (o o' : Opening)
    → Opens d (level path before) p lines o → IsFirst d (level path before) (Inside p) lines o' → AlikeOpening d.names d.names o o'
alike_first d path before p lines o o' opens first = search (one_opening, opens_first)

-- the first block of a sequence is the one that opens at its place
pub known_first : (d : Document) (path : List Container) (before : Before) (p : Place) (lines : List Place) (mid : Remaining) (o : Opening) (s : Skeleton)
    → StaysAt d path p → Opens d (level path before) p lines o → IsSequence d s (level path before) (Inside p) lines mid → FirstHas (Known d o) s
unfolding IsSequence
known_first d path before p lines mid o Nil stays opens seq = grind (arith, begins_inside)
known_first d path before p lines mid o (Then leaf next) stays opens (there, left, first, seq) = (
  there,
  left,
  (alike_first d path before p lines o (OpensLeaf leaf there left) opens first, flat_leaf d (level path before) p lines leaf there left first),
)
known_first d path before p lines mid o (Node head e kids next) stays opens (inside, following, left, first, inner, ends, seq) =
    (inside, following, (alike_first d path before p lines o (OpensNode head inside following) opens first, tt))

-- what opens is a block, not a blank line
abbrev pub OpensBlock : Opening → Type 0
OpensBlock (OpensLeaf BlankLine there left) = ⊥
OpensBlock o = Unit {0}

only_definition : (o : Opener) → is_definition (only_opener o) ≡ is_definition o
only_definition (DefinitionMarker columns) = refl
only_definition o = refl

pub definition_alike : (head head' : Head) → only_head head ≡ only_head head' → is_definition head.opener ≡ is_definition head'.opener
definition_alike head head' is = sym (only_definition head.opener) ∙ ap (λ (h : Head). is_definition h.opener) is ∙ only_definition head'.opener

-- a sequence begins with a leaf block, or with a container that is no definition
abbrev pub FirstIsOther : Skeleton → Type 0
FirstIsOther (Then (Block b) next) = FlatBlock b × OwnParagraph b
FirstIsOther (Node head e kids next) = is_definition head.opener ≡ false
FirstIsOther s = ⊥

pub first_is_other : (d : Document) (o : Opening) (s : Skeleton) → OpensBlock o → opens_definition o ≡ false → FirstHas (Known d o) s → FirstIsOther s
first_is_other d o Nil block other known = known
first_is_other d (OpensLeaf BlankLine there left) (Then leaf next) block other known = absurd block
first_is_other d (OpensLeaf (Block b) there left) (Then BlankLine next) block other (there', left', (alike, flat)) = absurd alike.0
first_is_other d (OpensLeaf (Block b) there left) (Then (Block b') next) block other (there', left', (alike, flat)) = flat
first_is_other d (OpensLeaf leaf there left) (Node head' e' kids' next') block other (inside', following', (alike, flat)) = absurd alike
first_is_other d (OpensNode head inside following) (Then leaf' next') block other (there', left', (alike, flat)) = absurd alike
first_is_other d (OpensNode head inside following) (Node head' e' kids' next') block other (inside', following', (alike, flat)) =
    sym (definition_alike head head' alike.0.0) ∙ other
