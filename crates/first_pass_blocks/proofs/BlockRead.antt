-- A pass read a block, after its first line closed, continued and opened containers; and one block after another.
use Rattle.std.proofs.Common.{◌≡◌, ℕ, ◌+◌, ◌<◌, ◌≤◌, Bool, false, List, Option, Some, None, length, drop, IsUtf8, IsCharBoundary, refl, sym, ap, subst, ◌∙◌}
use Rattle.std.proofs.Common.{arith, ◌*◌}
use Rattle.first_pass_grammar.proofs.Common.{Item, line_len, Place, offset, line_end, line_end_boundary, document, AreNamed, Names, Extends, GrowsBy, IsForest}
use Rattle.first_pass_grammar.proofs.Common.{Options, counted_nodes, lines_from, IsPlaceOf}
use Rattle.first_pass_blocks.proofs.Common.{tables_in, tables_of, names_of, Allocations, extends_equal, extends_both, extends_none, TablesAreWritten, Source}
use Rattle.first_pass_blocks.proofs.Common.{PassState, AfterMarker, OnLine, TaskText, LineEnds, OnlyTag, Position, LineAt, InLine, LeafAt, IsNotBefore, ReadsTo}
use Rattle.first_pass_blocks.proofs.Common.{StaysSame, ReadsLeaf, last_at, IsStateAtPlace, place_before_end, only_leaf, reads_none, allocs_of, front_of}
use Rattle.first_pass_blocks.proofs.Common.{state_of, source_of, source_text, tree_of, source_options, IsReadFrom, Ready, BlockPass, Entries, footdefs_of}
use Rattle.first_pass_blocks.proofs.Common.{BeginsNoContainer, line_later, footnotes_in, GrowsTo, GrowsFrom, HasFirstLabels, HasSameParts, ReadsBlock}
use Rattle.first_pass_blocks.proofs.Common.{IsAtPlace, KeepsPass, PassesTo, ReadsBlockOf, ReadsEntered}
use Rattle.first_pass_containers.specs.Entering.{EntersLine}
use Rattle.first_pass_blocks.proofs.FootnoteLabels.{labels_stay}

-- a step of the state is a step of the pass
pub passes_state : (over : Source) (line : ℕ) (old new : BlockPass) (p q : Position) → source_of new ≡ source_of old → allocs_of new ≡ allocs_of old
    → ReadsTo over line (state_of old) (state_of new) p q → PassesTo over line old new p q
passes_state over line old new p q source same step =
    record {
      kept = record {
        source = source;
        names = extends_equal _ _ (ap names_of same);
        named = λ h. rw same (step.named (names_of (allocs_of old)) h);
        written = λ h. rw same h;
        labels = labels_stay (allocs_of old) (allocs_of new) (tree_of old).nodes (tree_of new).nodes (extends_equal _ _ (ap names_of same))
            step.footnotes (ap footdefs_of same);
        tables = λ h k. rw same (step.tables (names_of (allocs_of old)) k);
      };
      ready = λ more extends ready. rw same (step.ready more (tables_of (allocs_of old)) ready);
      order = step.order;
      node_bound = step.node_bound;
    }

-- what is kept without a step, and in two steps
pub keeps_none : (pass : BlockPass) → KeepsPass (source_of pass) pass pass
keeps_none pass = record { source = refl; names = extends_none _; named = λ h. h; written = λ h. h; labels = λ h. h; tables = λ h k. k }

keeps_both : (over : Source) (a b c : BlockPass) → KeepsPass over a b → KeepsPass over b c → KeepsPass over a c
keeps_both over a b c one two = record {
  source = two.source ∙ one.source;
  names = extends_both (names_of (allocs_of c)) (names_of (allocs_of b)) (names_of (allocs_of a)) two.names one.names;
  named = λ h. two.named (one.named h);
  written = λ h. two.written (one.written h);
  labels = λ h. two.labels (one.labels h);
  tables = λ h k. two.tables (one.named h) (one.tables h k);
}

-- one step after another
pub passes_both : {over : Source} {line : ℕ} {a b c : BlockPass} {p q t : Position} → PassesTo over line a b p q → PassesTo over line b c q t
    → PassesTo over line a c p t
passes_both {over = over} {a = a} {b = b} {c = c} one two = record {
  kept = keeps_both over a b c one.kept two.kept;
  ready = λ more extends h. two.ready more extends
      (one.ready more (extends_both more (names_of (allocs_of c)) (names_of (allocs_of b)) extends two.kept.names) h);
  order = λ h. two.order (one.order h);
  node_bound = λ first h. two.node_bound first (one.node_bound first h);
}

-- the nodes grew by at most four for each byte of a line up to the position after a marker, and from there to a later offset
last_grows : (text : List ℕ) (start next : ℕ) (a b c : List (ℕ × Item)) (q : Place) (after : AfterMarker) → start ≤ offset q → line_end q ≤ next
    → GrowsTo text start a b (last_at q (line_end q) after) → GrowsFrom text (last_at q (line_end q) after) next b c → GrowsBy start next a c
last_grows text start next a b c q OnLine low high one two = let before = place_before_end q in omega arith
last_grows text start next a b c q (TaskText marker) low high one two =
    let end = place_before_end q in
    let order = one.order in
    let before = one.before in
    let first = one.grows in
    let more = two one.from one.stands (omega arith) in
    omega arith
last_grows text start next a b c q (LineEnds marker) low high one two = let before = place_before_end q in omega arith
last_grows text start next a b c q OnlyTag low high one two = let before = place_before_end q in omega arith

-- the containers that begin at a place are open, and the block after the last marker is read
pub entered_read : (old mid new : BlockPass) (p q : Place) (after : AfterMarker) (next : ℕ) → IsNotBefore (source_text old) p q
    → PassesTo (source_of old) p.line old mid (InLine p) (last_at q (line_end q) after)
    → ReadsBlock mid new (line_end q) (last_at q (line_end q) after) next → ReadsEntered old new p next
entered_read old mid new p q after next from opens read = λ first start within line steps.
    let over : Source = source_of first in
    let at : Position = last_at q (line_end q) after in
    let on = line.1 in
    let stop = line.2 in
    let low = from.2 in
    let far = from.3 in
    let all = passes_both steps (subst (λ (l : ℕ). PassesTo over l old mid (InLine p) at) on
    (subst (λ (z : Source). PassesTo z p.line old mid (InLine p) at) steps.kept.source opens)) in
    let r = subst (λ (z : Source). ReadsBlockOf z mid new (line_end q) at next) all.kept.source read in
    let later = r.later in
    let beyond = (line_later over.text.now start _ next within refl (omega (arith, stop, far, later)) r.boundary).0 in
    record {
      kept = keeps_both over first mid new all.kept r.kept;
      later = omega (arith, beyond);
      boundary = r.boundary;
      ready = λ more extends ready. r.ready more extends
          (all.ready more (extends_both more (names_of (allocs_of new)) (names_of (allocs_of mid)) extends r.kept.names) ready);
      order = λ o. r.order (all.order o);
      node_bound = last_grows over.text.now start next (tree_of first).nodes (tree_of mid).nodes (tree_of new).nodes q after (omega (arith, on, low)) later
          (all.node_bound (tree_of first).nodes (omega arith)) r.node_bound;
    }

-- the state of a pass at a place
pub state_at : {pass : BlockPass} {p : Place} → IsAtPlace pass p → IsForest (tree_of pass) → IsStateAtPlace (source_text pass) (state_of pass) p
state_at at forest = record { utf8 = at.utf8; place = at.place; forest = forest; none = at.no_empty }

-- A pass came from a place to a later one, or to the same. No item is empty, and no front is known.
pub record ReachesPlace (first : Place) (old mid : BlockPass) (p : Place) : Type 0 where
  pub no_empty : (state_of mid).begin_list_item ≡ None
  pub none : (front_of mid).is_known ≡ false
  pub here : IsNotBefore (source_text old) first p
  pub opened : PassesTo (source_of old) first.line old mid (InLine first) (InLine p)

pub place_reached : {first p : Place} {old mid : BlockPass} → IsUtf8 (source_text old) → ReachesPlace first old mid p → IsAtPlace mid p
place_reached {p = p} utf8 r =
    let here = subst (λ (z : Source). IsUtf8 z.text.now × IsPlaceOf z.text.now p) (sym r.opened.kept.source) (utf8, r.here.0) in
    record { utf8 = here.0; place = here.1; no_empty = r.no_empty; none = r.none }

pub reached_start : {pass : BlockPass} {p : Place} → IsAtPlace pass p → ReachesPlace p pass pass p
reached_start {pass = pass} {p = p} at = record {
  no_empty = at.no_empty;
  none = at.none;
  here = (at.place, omega arith, omega arith, omega arith);
  opened = passes_state (source_of pass) p.line pass pass (InLine p) (InLine p) refl refl (reads_none (source_of pass) p.line (state_of pass) (InLine p));
}

-- the same after a call that changed nothing
pub reached_still : {first p : Place} {old mid new : BlockPass} → ReachesPlace first old mid p → StaysSame mid new → ReachesPlace first old new p
reached_still {first = first} {p = p} {old = old} {mid = mid} {new = new} r same =
    let over : Source = source_of old in
    record {
      no_empty = rw same.1 r.no_empty;
      none = rw same.3 r.none;
      here = r.here;
      opened = passes_both r.opened
          (passes_state over first.line mid new (InLine p) (InLine p) same.0 same.2 (rw same.1 (reads_none over first.line (state_of mid) (InLine p))));
    }

-- a pass is the same as one that was made of its parts
pub same_parts : (pass : BlockPass) → StaysSame pass pass
same_parts pass = (refl, refl, refl, refl)

-- no container begins at such a place, and the leaf block there is read
pub leaf_reached : {first p : Place} {old mid new : BlockPass} {next : ℕ} → ReachesPlace first old mid p
    → ReadsTo (source_of old) first.line (state_of mid) (state_of mid) (InLine p) (LeafAt p) → ReadsLeaf mid new p next → ReadsEntered old new first next
leaf_reached {first = first} {p = p} {old = old} {mid = mid} {new = new} {next = next} r leaf = entered_read old mid new first p OnLine next r.here
    (passes_both r.opened (passes_state (source_of old) first.line mid mid (InLine p) (LeafAt p) refl refl leaf))

-- a pass entered the line at an offset: it is at a place in it, and the block there is the block of the line
pub record IsEntered (old mid : BlockPass) (start : ℕ) (p : Place) : Type 0 where
  pub at : IsAtPlace mid p
  pub reads : (new : BlockPass) (next : ℕ) → ReadsEntered mid new p next → ReadsBlock old new (1 + start) (LineAt start) next

-- the parts of a pass that matter after it entered a line, with whether a front is known
abbrev Parts : Type 0
Parts = Source × PassState × Allocations × Bool

-- a pass has this state, the source and the tables of another pass, and knows no front
abbrev pub HasState : BlockPass → PassState → BlockPass → Type 0
HasState old now mid = ◌≡◌ {A = Parts} (source_of mid, state_of mid, allocs_of mid, (front_of mid).is_known) (source_of old, now, allocs_of old, false)

-- a pass with the state after a line was entered is at a place in that line
pub line_entered : (old : BlockPass) (now : PassState) (start : ℕ) (p : Place) (found : Option Place) → IsUtf8 (source_text old)
    → start < length (source_text old) → found ≡ Some p → EntersLine (source_of old) (state_of old) now start found
    → (mid : BlockPass) → HasState old now mid → IsEntered old mid start p
line_entered old now start p found utf8 within is entered mid has =
    let over : Source = source_of old in
    let source = ap (λ (z : Parts). z.0) has in
    let there = subst (EntersLine over (state_of old) now start) is entered in
    let e = subst (λ (s : PassState). EntersLine over (state_of old) s start (Some p)) (sym (ap (λ (z : Parts). z.1) has)) there in
    let here = subst (λ (z : Source). IsUtf8 z.text.now × IsPlaceOf z.text.now p) (sym source) (utf8, e.0.0) in
    record {
      at = record { utf8 = here.0; place = here.1; no_empty = e.1; none = ap (λ (z : Parts). z.3) has };
      reads = λ new next read.
          read old start within e.0 (passes_state over start old mid (LineAt start) (InLine p) source (ap (λ (z : Parts). z.2) has) e.2);
    }

-- where no container begins, the leaf block is the block of the line
pub line_leaf_read : {old mid new : BlockPass} {start next : ℕ} {p : Place} → IsEntered old mid start p → BeginsNoContainer p.rest
    → ReadsLeaf mid new p next → ReadsBlock old new (1 + start) (LineAt start) next
line_leaf_read {mid = mid} {new = new} {next = next} {p = p} here bare read =
    here.reads new next (leaf_reached (reached_start here.at) (only_leaf (source_of mid) (state_of mid) p p.line bare) read)

-- nothing follows the marker in its line
pub line_ended : (over : Source) (old new : BlockPass) (start far next : ℕ) → PassesTo over start old new (LineAt start) (LineAt next)
    → IsCharBoundary over.text.now next → far ≤ next → start ≤ next → ReadsBlockOf over old new far (LineAt start) next
line_ended over old new start far next steps boundary later on =
    let first = steps.node_bound (tree_of old).nodes (omega arith) in
    record { kept = steps.kept; later = later; boundary = boundary; ready = steps.ready; order = steps.order; node_bound = omega arith }

-- a line that is read as a whole
pub line_passed : (old new : BlockPass) (start next : ℕ) → IsUtf8 (source_text old) → start < length (source_text old) → IsCharBoundary (source_text old) start
    → source_of new ≡ source_of old → allocs_of new ≡ allocs_of old → next ≡ start + line_len (drop start (source_text old))
    → ReadsTo (source_of old) start (state_of old) (state_of new) (LineAt start) (LineAt (start + line_len (drop start (source_text old))))
    → ReadsBlock old new (1 + start) (LineAt start) next
line_passed old new start next u within begins source same next_is step =
    let text = source_text old in
    let e : ℕ = start + line_len (drop start text) in
    let boundary = subst (IsCharBoundary text) (sym next_is) (line_end_boundary text start u begins within) in
    let later = (line_later text start e next within refl (omega arith) boundary).0 in
    line_ended (source_of old) old new start (1 + start) next
    (rw next_is (passes_state (source_of old) start old new (LineAt start) (LineAt e) source same step)) boundary (omega arith) (omega arith)

-- ---- the lines of a text up to an offset are read, one block after another

-- A pass over a text with these options has read it up to an offset.
pub record IsReadUpTo (text : List ℕ) (options : Options) (pass : BlockPass) (ix : ℕ) : Type 0 where
  pub same_text : source_text pass ≡ text
  pub same_options : source_options pass ≡ options
  pub boundary : IsCharBoundary text ix
  pub ready : (names : Names) → Extends names (names_of (allocs_of pass))
      → Ready (document text options names) (tables_of (allocs_of pass)) (state_of pass) (lines_from text ix)
  pub order : IsReadFrom options text (state_of pass) ix
  pub named : AreNamed (names_of (allocs_of pass)) (tree_of pass).nodes
  pub written : TablesAreWritten text (allocs_of pass)
  pub labels : HasFirstLabels (allocs_of pass) (tree_of pass).nodes
  pub node_bound : counted_nodes (tree_of pass).nodes ≤ 1 + 4 * ix

read_on : (old new : BlockPass) (far ix next : ℕ) → IsReadUpTo (source_text old) (source_options old) old ix → ReadsBlock old new far (LineAt ix) next
    → ix ≤ next → IsReadUpTo (source_text old) (source_options old) new next
read_on old new far ix next i e later = record {
  same_text = ap (λ (z : Source). z.text.now) e.kept.source;
  same_options = ap (λ (z : Source). z.options) e.kept.source;
  boundary = e.boundary;
  ready = λ names more. e.ready names more (i.ready names (extends_both names (names_of (allocs_of new)) (names_of (allocs_of old)) more e.kept.names));
  order = e.order i.order;
  named = e.kept.named i.named;
  written = e.kept.written i.written;
  labels = e.kept.labels i.labels;
  node_bound = (let read = i.node_bound in let grows = e.node_bound in omega arith);
}

-- one more block is read
pub block_more : {text : List ℕ} {options : Options} {old new : BlockPass} {far ix next : ℕ} → IsReadUpTo text options old ix
    → ReadsBlock old new far (LineAt ix) next → ix ≤ next → IsReadUpTo text options new next
block_more {old = old} {new = new} {far = far} {ix = ix} {next = next} i e later =
    rw (← i.same_text, ← i.same_options) (read_on old new far ix next (rw (← i.same_text, ← i.same_options) at i) e later)

-- room is made
pub room_made : {text : List ℕ} {options : Options} {old new : BlockPass} {ix : ℕ} → IsReadUpTo text options old ix → HasSameParts old new
    → IsReadUpTo text options new ix
room_made {old = old} {new = new} i same = record {
  same_text = ap (λ (z : Source). z.text.now) same.source ∙ i.same_text;
  same_options = ap (λ (z : Source). z.options) same.source ∙ i.same_options;
  boundary = i.boundary;
  ready = λ names more. rw (same.state, ap tables_in same.entries) (i.ready names (rw (← same.names) more));
  order = rw same.state i.order;
  named = rw (same.names, same.state) i.named;
  written = rw (ap (λ (e : Entries). e.links) same.entries, ap (λ (e : Entries). e.footnotes) same.entries) i.written;
  labels = labels_stay (allocs_of old) (allocs_of new) (tree_of old).nodes (tree_of new).nodes (extends_equal _ _ same.names)
      (ap (λ (r : PassState). footnotes_in r.tree.nodes) same.state) (ap (λ (e : Entries). e.footnotes) same.entries) i.labels;
  node_bound = rw same.state i.node_bound;
}

-- lines are read that change nothing of the state
pub lines_more : {text : List ℕ} {options : Options} {pass : BlockPass} {ix next : ℕ} → IsReadUpTo text options pass ix → ix ≤ next
    → IsCharBoundary (source_text pass) next → ReadsTo (source_of pass) ix (state_of pass) (state_of pass) (LineAt ix) (LineAt next)
    → IsReadUpTo text options pass next
lines_more {pass = pass} {ix = ix} {next = next} i later boundary e =
    block_more i (line_ended (source_of pass) pass pass ix ix next
    (passes_state (source_of pass) ix pass pass (LineAt ix) (LineAt next) refl refl e) boundary later later) later
