-- One open node is closed: the completions of the nodes.
use Rattle.std.proofs.Common.{arith, ◌≡◌, ℕ, zero, suc, ◌==◌, Bool, true, false, not, List, [], ◌∷◌, length, map, Some, refl, sym, ap, subst, ◌∙◌}
use Rattle.std.proofs.Common.{if◌then◌else◌, bit_and, option_and_then, None, Option, ◌+◌, ◌<◌, nat_lt, slice_index}
use Rattle.first_pass_grammar.proofs.Common.{length-map, Item, ItemBody, DefinitionList, ListFlags, TreeIndex, Forest, IsForest, body_at, map_from, tightened}
use Rattle.first_pass_grammar.proofs.Common.{tight_items, Place, offset, start_of, unindented, footnote_head_at, ends_footnote, Document, around}
use Rattle.first_pass_grammar.proofs.Common.{next_goes_on, Continues, Line, Inside, level, Lines, Ends, next_block, end_before, Opening, Opens, Tables}
use Rattle.first_pass_grammar.proofs.Common.{list_flags, ItemsOf, DefinitionsTo, SilentClosed, flagged, ended, list_closed, Closed, OtherClosed}
use Rattle.first_pass_grammar.proofs.Common.{DefinitionClosed, Frame, InContainer, InList, InDefinitions, closed_as, containers_of, IsPlain, StandsIn}
use Rattle.first_pass_grammar.proofs.Common.{last_plain, body-changed, Before, is_paragraph_body, Remaining, end_of_left, only_blanks, nat_tests, Options}
use Rattle.first_pass_grammar.proofs.Common.{IsOpenPath, depths, modify, tight_run, tight_at, node_of, depths-modify, same_Some, Level}
use Rattle.first_pass_items.specs.declared.item.ItemBody.TheVariants.{List as ListBody}
use Rattle.first_pass_grammar.specs.declared.kind.Container.{Container}
use Rattle.first_pass_grammar.specs.declared.kind.Container.TheVariants.{FootnoteDefinition}
use Rattle.first_pass_grammar.proofs.Sequences.Finishes.{CompletesAt}
use Rattle.first_pass_completion.proofs.Extending.{tail, lvl, StaysAt, OpensAtPlace}
use Rattle.first_pass_completion.proofs.Moved.{OpensBlock, opens_definition}
use Rattle.first_pass_completion.proofs.Completions.{completes-pop, completes-pop_in_line}
use Rattle.first_pass_completion.proofs.TitleNodes.{kept_by}
use Rattle.first_pass_completion.proofs.PoppedLists.{EndHere, end_before_line, end_in_line, completes-pop_list, completes-pop_definitions}
use Rattle.first_pass_completion.proofs.States.{open_nodes}
use Rattle.first_pass_completion.proofs.Closings.{OpensAway, completes-close, completes-close_definitions}
use Rattle.first_pass_completion.proofs.SilentNodes.{silent_as}
use Rattle.first_pass_open.specs.OpenBlock.{closed_by}
use Rattle.first_pass_open.specs.Path.{path_in, path_of, container_at, container_of}
use Rattle.first_pass_lists.specs.Closing.{top_body, is_definition_list, possible_title}
use Rattle.first_pass_ready.specs.State.{is_footnote_in_another, closed_in, AreOpen, ReadyAt}
use Rattle.first_pass_ready.proofs.OpenLemmas.{open_path, open_below, frame-closed, frame-ended, HasFrame, container_frame, has_frame, definitions_frame}
use Rattle.first_pass_ready.proofs.ClosedIn.{level_of, open_level, closed_at_body, top_in, top_of, top_no_definitions, closed_popped, closed_definition}
use Rattle.first_pass_ready.proofs.ClosedIn.{end_of_current, no_paragraph}
use Rattle.first_pass_tree.proofs.BodyLemmas.{changed_alike}

-- ready nodes, given the last child of the innermost open one
abbrev pub ready_as : (d : Document) (defined : Tables) (f : Forest Item) (run : Bool) (from : Continues) (lines : List Place) (frames : List Frame)
    (closed : Closed)
    → closed_in f ≡ closed → AreOpen d.options f.nodes f.spine frames → SilentClosed f.nodes closed
    → CompletesAt d defined (tail closed run) frames f.nodes (map (λ (i : TreeIndex). i.0) f.spine) from lines → ReadyAt d defined f run from lines
ready_as d defined f run from lines frames closed is o silent k = record {
  frames = frames;
  are_open = o;
  completes = subst (λ z. CompletesAt d defined (tail z run) frames f.nodes (map (λ (i : TreeIndex). i.0) f.spine) from lines) (sym is) k;
  silent = subst (SilentClosed f.nodes) (sym is) silent;
}

-- ready nodes with this last child, and no innermost list
pub record PlainAfter (d : Document) (defined : Tables) (f : Forest Item) (run : Bool) (from : Continues) (lines : List Place) (closed : Closed) : Type 0 where
  pub ready : ReadyAt d defined f run from lines
  pub plain : IsPlain ready.frames
  pub last : closed_in f ≡ closed

-- the opening at a place in these containers opens a block, no definition, and ends no footnote definition
pub record OpensOther (d : Document) (path : List Container) (p : Place) (opening : Opening) : Type 0 where
  pub stays : StaysAt d path p
  pub block : OpensBlock opening
  pub other : opens_definition opening ≡ false

-- what opens at a place in one state opens there in an equal one
abbrev pub at_level : (d : Document) (path : List Container) (l m : Level) (p : Place) (lines : List Place) (opening : Opening) → l ≡ m → path ≡ m.path
    → StaysAt d path p → Opens d l p lines opening → OpensAtPlace d m
at_level d path l m p lines opening is same stays opens = record {
  place = p;
  lines = lines;
  opening = opening;
  stays = subst (λ z. StaysAt d z p) same stays;
  opens = subst (λ z. Opens d z p lines opening) is opens;
}

-- the open nodes that remain after a container directly in them is closed
pub record LeftOpen (d : Document) (defined : Tables) (f : Forest Item) (run : Bool) (from : Continues) (lines : List Place) (c : Container) : Type 0 where
  pub ready : ReadyAt d defined f run from lines
  pub stands : StandsIn c ready.frames
  pub apart : is_footnote_in_another (InContainer c) ready.frames ≡ false

-- The innermost open node has this last child and this frame: the open nodes around it.
pub record Innermost (d : Document) (defined : Tables) (f : Forest Item) (run : Bool) (from : Continues) (lines : List Place) (ix : TreeIndex)
    (rest : List TreeIndex) (closed : Closed) (frame : Frame) : Type 0 where
  pub outer : List Frame
  pub are_open : AreOpen d.options f.nodes (ix ∷ rest) (frame ∷ outer)
  pub path : path_of d.options f ≡ containers_of (frame ∷ outer)
  pub level : level_of d.options f run ≡ lvl (frame ∷ outer) (tail closed run)
  pub completes : CompletesAt d defined (tail closed run) (frame ∷ outer) f.nodes (ix.0 ∷ map (λ (i : TreeIndex). i.0) rest) from lines

module _ (d : Document) (defined : Tables) (f : Forest Item) (run : Bool) (from : Continues) (lines : List Place) (ix : TreeIndex) (rest : List TreeIndex)
    (spine : f.spine ≡ ix ∷ rest) where
  abbrev HasInnermost : Type 0
  HasInnermost = (frame : Frame) × HasFrame d.options (body_at f.nodes ix.0) frame × Innermost d defined f run from lines ix rest (closed_in f) frame

  innermost_by : (frames : List Frame) → AreOpen d.options f.nodes (ix ∷ rest) frames → path_of d.options f ≡ containers_of frames
      → level_of d.options f run ≡ lvl frames (tail (closed_in f) run)
      → CompletesAt d defined (tail (closed_in f) run) frames f.nodes (ix.0 ∷ map (λ (i : TreeIndex). i.0) rest) from lines → HasInnermost
  innermost_by [] o path level k = absurd o
  innermost_by (frame ∷ outer) o path level k = grind (arith, has_frame)

  -- the frame of the innermost open node of ready nodes
  pub innermost_of : ReadyAt d defined f run from lines → HasInnermost
  innermost_of ready =
      innermost_by ready.frames (subst (λ s. AreOpen d.options f.nodes s ready.frames) spine ready.are_open)
      (open_path d.options f.nodes f.spine ready.frames ready.are_open) (open_level d.options f ready.frames run ready.are_open)
      (subst (λ s. CompletesAt d defined (tail (closed_in f) run) ready.frames f.nodes (map (λ (i : TreeIndex). i.0) s) from lines) spine ready.completes)

  -- it is that of a container
  pub innermost_in : (c : Container) → container_at d.options f.nodes ix ≡ Some c → ReadyAt d defined f run from lines
      → Innermost d defined f run from lines ix rest (closed_in f) (InContainer c)
  innermost_in c is ready =
      let i = innermost_of ready in
      subst (Innermost d defined f run from lines ix rest (closed_in f)) (container_frame d.options (body_at f.nodes ix.0) i.0 c is i.1) i.2

  -- it is that of a definition list with a known last child
  pub innermost_definitions : (flags : ListFlags) (closed : Closed) → body_at f.nodes ix.0 ≡ Some (DefinitionList flags) → closed_in f ≡ closed
      → ReadyAt d defined f run from lines
      → (loose : Bool) × (flags ≡ list_flags (not loose)) × Innermost d defined f run from lines ix rest closed (InDefinitions loose)
  innermost_definitions flags closed is last ready =
      let i = innermost_of ready in
      let w = definitions_frame d.options flags i.0 (subst (λ z. HasFrame d.options z i.0) is i.1) in
      let j = subst (Innermost d defined f run from lines ix rest (closed_in f)) w.1 i.2 in
      (w.0, w.2, subst (λ z. Innermost d defined f run from lines ix rest z (InDefinitions w.0)) last j)

-- a container is closed
module _ (d : Document) (defined : Tables) (f : Forest Item) (run : Bool) (lines : List Place) (e : ℕ) (ix : TreeIndex) (rest : List TreeIndex) (c : Container)
    (spine : f.spine ≡ ix ∷ rest) (is : container_at d.options f.nodes ix ≡ Some c) where
  container_left : (from to : Continues) (i : Innermost d defined f run from lines ix rest (closed_in f) (InContainer c))
      → CompletesAt d defined (tail (closed_as c e) run) i.outer (ended f.nodes ix.0 e) (map (λ (i : TreeIndex). i.0) rest) to lines
      → LeftOpen d defined (closed_by f e (ix ∷ rest)) run to lines c
  unfolding ended
  container_left from to i k =
      let g : Forest Item = closed_by f e (ix ∷ rest) in
      let o : AreOpen d.options g.nodes rest i.outer =
      open_below d.options f.nodes (ended f.nodes ix.0 e) ix.0 rest i.outer (λ j h. frame-ended d.options f.nodes ix.0 e j) i.completes.below.1 i.are_open.1 in
      record {
        ready = ready_as d defined g run to lines i.outer (closed_as c e) (closed_popped d.options f e ix rest c i.outer is o i.completes.shape.0) o
            (silent_as g.nodes c e) k;
        stands = i.completes.shape.0;
        apart = i.are_open.2;
      }

  -- before these lines, after its last block and a run of blank lines that counts or not
  pub leave_container : (from : Continues)
      → next_block d.options (level (c ∷ path_in d.options f.nodes rest) (record { last = last_plain (closed_in f); counted = run })) from lines
      ≡ Ends (Lines lines) → e ≡ end_before (length d.text) (path_in d.options f.nodes rest) from (Lines lines)
      → ReadyAt d defined f run from lines → LeftOpen d defined (closed_by f e (ix ∷ rest)) run Line lines c
  leave_container from ends at_end ready =
      let i = innermost_in d defined f run from lines ix rest spine c is ready in
      let os : List ℕ = map (λ (i : TreeIndex). i.0) rest in
      let path : path_in d.options f.nodes rest ≡ containers_of i.outer = open_path d.options f.nodes rest i.outer i.are_open.1 in
      container_left from Line i
      (subst (λ z. CompletesAt d defined (tail (closed_as c z) run) i.outer (ended f.nodes ix.0 z) os Line lines)
      (ap (λ p. end_before (length d.text) p from (Lines lines)) (sym path) ∙ sym at_end)
      (completes-pop d (open_nodes defined i.outer f.nodes os) (tail (closed_in f) run) c ix.0 from lines (Lines lines)
      (subst (λ z. next_block d.options (level (c ∷ z) (record { last = last_plain (closed_in f); counted = run })) from lines ≡ Ends (Lines lines)) path ends)
      i.completes))

-- a footnote definition is closed, where another begins
module _ (d : Document) (defined : Tables) (f : Forest Item) (run : Bool) (p : Place) (lines : List Place) (ix : TreeIndex) (rest : List TreeIndex) where
  pub end_note : (head : ℕ × List ℕ) (columns : ℕ) → f.spine ≡ ix ∷ rest → container_at d.options f.nodes ix ≡ Some (FootnoteDefinition columns)
      → footnote_head_at (around d (path_of d.options f)) p ≡ Some head → ReadyAt d defined f run (Inside p) lines
      → LeftOpen d defined (closed_by f (offset (unindented p)) (ix ∷ rest)) run (Inside p) lines (FootnoteDefinition columns)
  end_note head columns spine is begins ready =
      let c : Container = FootnoteDefinition columns in
      let i = innermost_in d defined f run (Inside p) lines ix rest spine c is ready in
      container_left d defined f run lines (offset (unindented p)) ix rest c spine is (Inside p) (Inside p) i
      (completes-pop_in_line d (open_nodes defined i.outer f.nodes (map (λ (i : TreeIndex). i.0) rest)) (tail (closed_in f) run) columns ix.0 p lines head
      (subst (λ z. footnote_head_at (around d z) p ≡ Some head) i.path begins) i.completes)

run_all : (depth : ℕ) (ns : List (ℕ × Item)) → ((k : ℕ) → k < length (depths ns) → depth < slice_index (depths ns) k)
    → tight_run depth ns ≡ map (tightened (suc (suc depth))) ns
unfolding tight_run
run_all depth [] deep = refl
run_all depth (n ∷ ns) deep =
    let d : depth < n.0 = deep 0 (omega arith) in
    let t : nat_lt depth n.0 ≡ true = grind (arith, nat_tests, d) in
    let z : depth + 2 ≡ suc (suc depth) = omega arith in
    let r = run_all depth ns (λ k l. deep (suc k) (omega arith)) in
    rw t (ap (λ k. tightened k n ∷ tight_run depth ns) z ∙ ap (λ ms. tightened (suc (suc depth)) n ∷ ms) r)

-- The paragraphs become tight after the list gets its end, or the list is closed as a whole.
tight_whole : (depth i e : ℕ) (ns : List (ℕ × Item)) (b : ItemBody)
    → body_at ns i ≡ Some b → is_paragraph_body b ≡ false → flagged false b ≡ b
    → ((k : ℕ) → i < k → k < length (depths ns) → depth < slice_index (depths ns) k)
    → tight_at depth (suc i) (modify ns i (λ x. record { start = x.start; «end» = e; body = x.body }))
    ≡ modify (map_from (tightened (suc (suc depth))) i ns) i (λ x. record { start = x.start; «end» = e; body = flagged false x.body })
unfolding tight_at
tight_whole depth i e [] b is other set deep = cc
tight_whole depth zero e (n ∷ ns) b is other set deep =
    let same : n.1.body ≡ b = cc in
    let kept = kept_by (n.0 == suc (suc depth)) n.1 (ap is_paragraph_body same ∙ other) in
    ap (λ ms. (n.0, node_of n.1.start e n.1.body) ∷ ms) (run_all depth ns (λ k l. deep (suc k) (omega arith) (omega arith)))
    ∙ ap (λ z. (n.0, node_of n.1.start e z) ∷ map (tightened (suc (suc depth))) ns) (same ∙ sym (ap (flagged false) same ∙ set))
    ∙ ap (λ (x : Item). (n.0, node_of x.start e (flagged false x.body)) ∷ map (tightened (suc (suc depth))) ns) (sym kept)
tight_whole depth (suc i) e (n ∷ ns) b is other set deep =
    ap (λ ms. n ∷ ms) (tight_whole depth i e ns b is other set (λ k l m. deep (suc k) (omega arith) (omega arith)))

-- the flags of a list of either kind
abbrev pub list_flags_of : ItemBody → Option ListFlags
list_flags_of (ListBody flags byte number) = Some flags
list_flags_of (DefinitionList flags) = Some flags
list_flags_of _ = None

-- a list is no paragraph and no container, and does not change if its flags are set again
pub list_no_paragraph : (b : ItemBody) (flags : ListFlags) → list_flags_of b ≡ Some flags → is_paragraph_body b ≡ false
list_no_paragraph b flags h = grind (arith, h)

pub list_no_container : (options : Options) (b : Option ItemBody) (flags : ListFlags) (c : Container) → option_and_then list_flags_of b ≡ Some flags
    → option_and_then (container_of options) b ≡ Some c → ⊥
list_no_container options b flags c listed h = grind (arith, listed, h)

pub list_flagged : (b : ItemBody) (loose : Bool) → list_flags_of b ≡ Some (list_flags (not loose)) → flagged loose b ≡ b
list_flagged b loose h = grind (arith, h)

-- a tight list is closed
pub tight_closed : (f : Forest Item) (ix : TreeIndex) (rest : List TreeIndex) (e : ℕ) (b : ItemBody)
    → IsForest f → f.spine ≡ ix ∷ rest → body_at f.nodes ix.0 ≡ Some b → is_paragraph_body b ≡ false → flagged false b ≡ b
    → (tight_items (closed_by f e (ix ∷ rest)) ix).nodes ≡ list_closed f.nodes ix.0 (suc (suc (suc (length rest)))) false e
unfolding list_closed
tight_closed f ix rest e b forest spine is other set =
    let p : IsOpenPath (depths f.nodes) (ix ∷ rest) = subst (IsOpenPath (depths f.nodes)) spine forest.opened in
    let nodes : List (ℕ × Item) = modify f.nodes ix.0 (λ x. record { start = x.start; «end» = e; body = x.body }) in
    let same : depths nodes ≡ depths f.nodes = depths-modify f.nodes ix.0 _ in
    let z : length rest + 1 ≡ suc (length rest) = omega arith in
    let at : slice_index (depths nodes) ix.0 ≡ suc (length rest) = ap (λ ds. slice_index ds ix.0) same ∙ p.0.depth ∙ z in
    let following : (k : ℕ) → ix.0 < k → k < length (depths f.nodes) → suc (length rest) < slice_index (depths f.nodes) k =
    λ k l m. (let b = p.0.following k l m in omega arith) in
    let y : ix.0 + 1 ≡ suc ix.0 = omega arith in
    ap (λ d. tight_at d (ix.0 + 1) nodes) at ∙ ap (λ k. tight_at (suc (length rest)) k nodes) y
    ∙ tight_whole (suc (length rest)) ix.0 e f.nodes b is other set following

-- a loose list is closed
pub loose_closed : (f : Forest Item) (ix : TreeIndex) (rest : List TreeIndex) (e : ℕ) (b : ItemBody)
    → body_at f.nodes ix.0 ≡ Some b → flagged true b ≡ b
    → (closed_by f e (ix ∷ rest)).nodes ≡ list_closed f.nodes ix.0 (suc (suc (suc (length rest)))) true e
unfolding list_closed
loose_closed f ix rest e b is set =
    changed_alike f.nodes ix.0 _ _ b is (λ x h. ap (λ z. node_of x.start e z) (h ∙ sym set) ∙ ap (λ z. node_of x.start e (flagged true z)) (sym h))

-- the tree after a list with these flags is closed
abbrev pub list_popped : Forest Item → ℕ → TreeIndex → List TreeIndex → ListFlags → Forest Item
list_popped f e ix rest flags = if bit_and flags.0 1 == 1 then tight_items (closed_by f e (ix ∷ rest)) ix else closed_by f e (ix ∷ rest)

-- it has the other open nodes, and the list is current
popped_parts : (t : Bool) (f : Forest Item) (e : ℕ) (ix : TreeIndex) (rest : List TreeIndex)
    → (let g : Forest Item = if t then tight_items (closed_by f e (ix ∷ rest)) ix else closed_by f e (ix ∷ rest) in
    (g.spine ≡ rest) × (g.current ≡ Some ix))
popped_parts t f e ix rest = grind arith

pub list_spine : (f : Forest Item) (e : ℕ) (ix : TreeIndex) (rest : List TreeIndex) (flags : ListFlags) → (list_popped f e ix rest flags).spine ≡ rest
list_spine f e ix rest flags = (popped_parts (bit_and flags.0 1 == 1) f e ix rest).0

closed_as_list : (f : Forest Item) (e : ℕ) (ix : TreeIndex) (rest : List TreeIndex) (b : ItemBody) (loose : Bool)
    → IsForest f → f.spine ≡ ix ∷ rest → body_at f.nodes ix.0 ≡ Some b → list_flags_of b ≡ Some (list_flags (not loose))
    → (list_popped f e ix rest (list_flags (not loose))).nodes ≡ list_closed f.nodes ix.0 (suc (suc (suc (length rest)))) loose e
closed_as_list f e ix rest b true forest spine is listed = loose_closed f ix rest e b is (list_flagged b true listed)
closed_as_list f e ix rest b false forest spine is listed = grind (arith, tight_closed, list_no_paragraph, list_flagged)

pub list_nodes : (f : Forest Item) (e : ℕ) (ix : TreeIndex) (rest : List TreeIndex) (b : ItemBody) (flags : ListFlags) (loose : Bool)
    → IsForest f → f.spine ≡ ix ∷ rest → body_at f.nodes ix.0 ≡ Some b → list_flags_of b ≡ Some flags → flags ≡ list_flags (not loose)
    → (list_popped f e ix rest flags).nodes ≡ list_closed f.nodes ix.0 (suc (suc (suc (length (map (λ (i : TreeIndex). i.0) rest))))) loose e
list_nodes f e ix rest b flags loose forest spine is listed set = grind (arith, closed_as_list, length-map)

-- a closed list is still a list
tight_there : (nodes : List (ℕ × Item)) (o depth : ℕ) (b : ItemBody) → body_at nodes o ≡ Some b → is_paragraph_body b ≡ false
    → body_at (map_from (tightened depth) o nodes) o ≡ Some b
tight_there [] o depth b is other = cc
tight_there (n ∷ nodes) zero depth b is other = grind (arith, kept_by)
tight_there (n ∷ nodes) (suc o) depth b is other = tight_there nodes o depth b is other

closed_body : (nodes : List (ℕ × Item)) (o depth : ℕ) (loose : Bool) (e : ℕ) (b : ItemBody) → body_at nodes o ≡ Some b → is_paragraph_body b ≡ false
    → flagged loose b ≡ b → body_at (list_closed nodes o depth loose e) o ≡ Some b
unfolding list_closed
closed_body nodes o depth true e b is other set = body-changed nodes o _ b b is (λ x h. ap (flagged true) h ∙ set)
closed_body nodes o depth false e b is other set =
    body-changed (map_from (tightened depth) o nodes) o _ b b (tight_there nodes o depth b is other) (λ x h. ap (flagged false) h ∙ set)

-- ready nodes, none of which is an innermost list: their nodes, places, frames and last child
module _ (d : Document) (defined : Tables) (g : Forest Item) (run : Bool) (from : Continues) (lines : List Place) (closed : Closed) where
  pub plain_after : (nodes : List (ℕ × Item)) (spine : List TreeIndex) (frames : List Frame) → g.nodes ≡ nodes → g.spine ≡ spine
      → AreOpen d.options nodes spine frames → IsPlain frames → (is_definition_list (top_body g) ≡ false → closed_in g ≡ closed) → SilentClosed nodes closed
      → CompletesAt d defined (tail closed run) frames nodes (map (λ (i : TreeIndex). i.0) spine) from lines → PlainAfter d defined g run from lines closed
  plain_after nodes spine frames nodes_are spine_is o plain last silent k =
      let opened : AreOpen d.options g.nodes g.spine frames = rw (nodes_are, spine_is) o in
      let now = last (top_no_definitions d.options (top_body g) frames (top_of d.options g.nodes g.spine frames opened) plain) in
      let ready = ready_as d defined g run from lines frames closed now opened (rw nodes_are silent) (rw (nodes_are, spine_is) k) in
      record { ready = ready; plain = plain; last = now }

-- the opening at a place ends an innermost list at an offset, given the last child of the list
abbrev pub EndsListAt : ℕ → Option ItemBody → Closed → Opening → Type 0
EndsListAt at (Some (ListBody flags byte number)) closed opening = OpensAway (ItemsOf byte) at opening
EndsListAt at (Some (DefinitionList flags)) (DefinitionClosed e blanks) opening = OpensAway (DefinitionsTo e) at opening
EndsListAt at _ closed opening = Unit {0}

-- The containers of a path end here, at an offset.
pub record PathEnds (d : Document) (path : List Container) (from : Continues) (lines : List Place) (e : ℕ) : Type 0 where
  pub left : Remaining
  pub none : only_blanks from ≡ None
  pub ends : (before : Before) → next_block d.options (level path before) from lines ≡ Ends left
  pub at_end : end_of_left (length d.text) [] None left ≡ e

abbrev pub end_of : (d : Document) (path : List Container) (from : Continues) (lines : List Place) (e : ℕ) → PathEnds d path from lines e → EndHere d path
end_of d path from lines e h = record { from = from; lines = lines; left = h.left; none = h.none; ends = h.ends }

-- they end before lines that do not continue them
pub line_ends : (d : Document) (path : List Container) (lines : List Place) (e : ℕ) → next_goes_on path lines ≡ false → start_of (length d.text) lines ≡ e
    → PathEnds d path Line lines e
line_ends d path lines e ends is = let h = end_before_line d path lines ends in record { left = h.left; none = refl; ends = h.ends; at_end = is }

-- if they are in a footnote definition, they end where another one begins
pub note_ends : (d : Document) (path : List Container) (p : Place) (lines : List Place) → ends_footnote (around d path) p ≡ true
    → PathEnds d path (Inside p) lines (offset (unindented p))
note_ends d path p lines ends = let h = end_in_line d path p lines ends in record { left = h.left; none = refl; ends = h.ends; at_end = refl }

-- The innermost open node is a list with these flags, and its last child is no possible title.
pub record PlainList (f : Forest Item) : Type 0 where
  pub list : TreeIndex
  pub outer : List TreeIndex
  pub flags : ListFlags
  pub spine : f.spine ≡ list ∷ outer
  pub listed : option_and_then list_flags_of (body_at f.nodes list.0) ≡ Some flags
  pub none : possible_title f ≡ None

module _ (d : Document) (defined : Tables) (f : Forest Item) (run : Bool) (lines : List Place) (e : ℕ) (forest : IsForest f) (l : PlainList f) where
  abbrev os : List ℕ
  os = map (λ (i : TreeIndex). i.0) l.outer

  abbrev now : Forest Item
  now = list_popped f e l.list l.outer l.flags

  -- the list has this last child and this frame
  abbrev Framed : Continues → Closed → Frame → Type 0
  Framed from closed frame = Innermost d defined f run from lines l.list l.outer closed frame

  -- completed nodes after it is closed at an offset
  abbrev CompletesClosed : Continues → List Frame → Bool → ℕ → Type 0
  CompletesClosed from frames loose at =
      CompletesAt d defined (tail OtherClosed run) frames (list_closed f.nodes l.list.0 (suc (suc (suc (length os)))) loose at) os from lines

  -- the open nodes that remain
  list_left_open : (from : Continues) (closed : Closed) (frame : Frame) (i : Framed from closed frame) (b : ItemBody) (loose : Bool)
      → body_at f.nodes l.list.0 ≡ Some b → list_flags_of b ≡ Some (list_flags (not loose)) → IsPlain i.outer → CompletesClosed from i.outer loose e
      → PlainAfter d defined now run from lines OtherClosed
  list_left_open from closed frame i b loose is listed plain k =
      let set : l.flags ≡ list_flags (not loose) = same_Some _ _ (sym l.listed ∙ ap (option_and_then list_flags_of) is ∙ listed) in
      let deep : ℕ = suc (suc (suc (length os))) in
      let nodes : now.nodes ≡ list_closed f.nodes l.list.0 deep loose e =
      list_nodes f e l.list l.outer b l.flags loose forest l.spine is (listed ∙ ap (λ z. Some z) (sym set)) set in
      let other : is_paragraph_body b ≡ false = list_no_paragraph b (list_flags (not loose)) listed in
      let body : body_at now.nodes l.list.0 ≡ Some b =
      ap (λ z. body_at z l.list.0) nodes ∙ closed_body f.nodes l.list.0 deep loose e b is other (list_flagged b loose listed) in
      let parts = popped_parts (bit_and l.flags.0 1 == 1) f e l.list l.outer in
      plain_after d defined now run from lines OtherClosed (list_closed f.nodes l.list.0 deep loose e) l.outer i.outer nodes parts.0
      (open_below d.options f.nodes _ l.list.0 l.outer i.outer (λ j h. frame-closed d.options f.nodes l.list.0 deep loose e j h) i.completes.below.1
      i.are_open.1) plain
      (λ none. closed_at_body now l.list b none parts.1 body ∙ no_paragraph l.list.0 b other) tt k

  -- a list is no container
  no_container : (c : Container) → container_at d.options f.nodes l.list ≡ Some c → ⊥
  no_container c is = list_no_container d.options (body_at f.nodes l.list.0) l.flags c l.listed is

  -- the last child of a definition list is a definition
  last_definition : (loose : Bool) → body_at f.nodes l.list.0 ≡ Some (DefinitionList (list_flags (not loose)))
      → (blanks : Bool) × (closed_in f ≡ DefinitionClosed (end_of_current f) blanks)
  last_definition loose is = closed_definition f (list_flags (not loose)) (ap (top_in f.nodes) l.spine ∙ is) l.none

  close_by : (from : Continues) (frame : Frame) → HasFrame d.options (body_at f.nodes l.list.0) frame → Framed from (closed_in f) frame
      → PathEnds d (path_of d.options f) from lines e → PlainAfter d defined now run from lines OtherClosed
  close_by from (InContainer c) h i ends = absurd (no_container c h)
  close_by from (InList byte loose) h i ends =
      let over = subst (λ z. PathEnds d z from lines e) i.path ends in
      list_left_open from (closed_in f) (InList byte loose) i (ListBody (list_flags (not loose)) byte h.0) loose h.1 refl i.completes.shape.0
      (subst (CompletesClosed from i.outer loose) over.at_end
      (completes-pop_list d (open_nodes defined i.outer f.nodes os) (tail (closed_in f) run) byte loose l.list.0
      (end_of d (containers_of i.outer) from lines e over) i.completes))
  close_by from (InDefinitions loose) h i ends =
      let c = last_definition loose h in
      let j = subst (λ z. Framed from z (InDefinitions loose)) c.1 i in
      let over = subst (λ z. PathEnds d z from lines e) j.path ends in
      list_left_open from (DefinitionClosed (end_of_current f) c.0) (InDefinitions loose) j (DefinitionList (list_flags (not loose))) loose h refl
      j.completes.shape.0 (subst (CompletesClosed from j.outer loose) over.at_end
      (completes-pop_definitions d (open_nodes defined j.outer f.nodes os) (record { place = l.list.0; «end» = end_of_current f; loose = loose }) c.0 run
      (end_of d (containers_of j.outer) from lines e over) j.completes))

  -- the list is closed with the container around it
  pub close_list : (from : Continues) → PathEnds d (path_of d.options f) from lines e → ReadyAt d defined f run from lines
      → PlainAfter d defined now run from lines OtherClosed
  close_list from ends ready =
      let i = innermost_of d defined f run from lines l.list l.outer l.spine ready in close_by from i.0 i.1 i.2 ends

  leave_by : (p : Place) (opening : Opening) (frame : Frame) → HasFrame d.options (body_at f.nodes l.list.0) frame → Framed (Inside p) (closed_in f) frame
      → StaysAt d (path_of d.options f) p → Opens d (level_of d.options f run) p lines opening → EndsListAt e (top_body f) (closed_in f) opening
      → PlainAfter d defined now run (Inside p) lines OtherClosed
  leave_by p opening (InContainer c) h i stays opens away = absurd (no_container c h)
  leave_by p opening (InList byte loose) h i stays opens away =
      list_left_open (Inside p) (closed_in f) (InList byte loose) i (ListBody (list_flags (not loose)) byte h.0) loose h.1 refl i.completes.shape.0
      (completes-close d (open_nodes defined i.outer f.nodes os) (tail (closed_in f) run) byte loose l.list.0 e
      (at_level d (path_of d.options f) _ _ p lines opening i.level i.path stays opens)
      (subst (λ z. EndsListAt e z (closed_in f) opening) (ap (top_in f.nodes) l.spine ∙ h.1) away) i.completes)
  leave_by p opening (InDefinitions loose) h i stays opens away =
      let c = last_definition loose h in
      let j = subst (λ z. Framed (Inside p) z (InDefinitions loose)) c.1 i in
      list_left_open (Inside p) (DefinitionClosed (end_of_current f) c.0) (InDefinitions loose) j (DefinitionList (list_flags (not loose))) loose h refl
      j.completes.shape.0 (completes-close_definitions d (open_nodes defined j.outer f.nodes os)
      (record { place = l.list.0; «end» = end_of_current f; loose = loose }) c.0 run e
      (at_level d (path_of d.options f) _ _ p lines opening j.level j.path stays opens)
      (subst (λ z. EndsListAt e (Some (DefinitionList (list_flags (not loose)))) z opening) c.1
      (subst (λ z. EndsListAt e z (closed_in f) opening) (ap (top_in f.nodes) l.spine ∙ h) away)) j.completes)

  -- the list is closed before a block that ends it
  pub leave_list : (p : Place) (opening : Opening) → StaysAt d (path_of d.options f) p → Opens d (level_of d.options f run) p lines opening
      → EndsListAt e (top_body f) (closed_in f) opening → ReadyAt d defined f run (Inside p) lines → PlainAfter d defined now run (Inside p) lines OtherClosed
  leave_list p opening stays opens away ready =
      let i = innermost_of d defined f run (Inside p) lines l.list l.outer l.spine ready in leave_by p opening i.0 i.1 i.2 stays opens away
