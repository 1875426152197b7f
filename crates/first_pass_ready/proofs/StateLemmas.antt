-- The tree between two blocks and the completions of its nodes: open nodes are closed before the next line.
use Rattle.std.proofs.Common.{◌≡◌, ℕ, zero, suc, ◌+◌, ◌-◌, ◌<◌, ◌≤◌, ◌==◌, nat_lt, Bool, true, false, List, [], ◌∷◌, length, map, drop, Option, Some, None}
use Rattle.std.proofs.Common.{is_some, refl, sym, ap, subst, ◌∙◌, arith, if◌then◌else◌, true≢false, drop-drop, bit_and, option_and_then}
use Rattle.first_pass_grammar.proofs.Common.{cond_both, Item, ItemBody, DefinitionList, MaybeDefinitionListTitle, ListFlags, Options, TreeIndex, Forest}
use Rattle.first_pass_grammar.proofs.Common.{IsForest, modify, empty_forest, with_end_at, with_body_at, body_at, tight_body, tightened, tight_run, tight_at}
use Rattle.first_pass_grammar.proofs.Common.{tight_items, Rest, Place, start_of, Names, after, next_goes_on, Document, document, Line, Blanks, level}
use Rattle.first_pass_grammar.proofs.Common.{is_blank_after, next_is_blank, Tables, no_tables, Derives, lines_from, Frame, InContainer, last_plain, body-kept}
use Rattle.first_pass_grammar.proofs.Common.{body_of}
use Rattle.first_pass_items.specs.declared.item.ItemBody.TheVariants.{Paragraph as ParagraphBody, List as ListBody}
use Rattle.first_pass_grammar.specs.declared.kind.Container.{Container}
use Rattle.first_pass_grammar.proofs.Sequences.Finishes.{CompletesAt, Tail}
use Rattle.first_pass_completion.proofs.Extending.{tail}
use Rattle.first_pass_grammar.proofs.Sequences.Goings.{stops, stops_blank}
use Rattle.first_pass_completion.proofs.Completions.{completes-first, completes-end}
use Rattle.first_pass_open.specs.OpenBlock.{closed_by}
use Rattle.first_pass_lists.specs.Closing.{state_with, top_body, top_end, is_definition_list, possible_title, popped_by, popped_after, with_tree}
use Rattle.first_pass_lists.specs.Closing.{popped, is_item, is_list, list_closed}
use Rattle.first_pass_lists.specs.declared.state.PassState.{PassState}
use Rattle.first_pass_open.specs.Path.{container_of, container_at, with_container, path_in, path_of, outer}
use Rattle.first_pass_ready.specs.State.{closed_in, AreOpen, ReadyAt, ReadyBeforeLine, ReadyInItem, ReadyWith, NoMore, Ready, item_columns}
use Rattle.first_pass_open.proofs.FrontLemmas.{outer-all}
use Rattle.first_pass_ready.proofs.ClosedIn.{top_in, title_is, plain_top}
use Rattle.first_pass_lists.proofs.ListKinds.{other_list}
use Rattle.first_pass_ready.proofs.ItemBodies.{item_body, item_container, item_own, item_path, after_zero, item_kind}
use Rattle.first_pass_ready.proofs.PopLemmas.{list_flags_of, list_popped, list_spine, leave_container, PlainList, innermost_of, line_ends, close_list}
use Rattle.first_pass_ready.proofs.TitlePops.{body-moved, TitledList, close_title, title_closed, definitions_closed_is}
use Rattle.first_pass_ready.proofs.OpenLemmas.{HasFrame}

-- before the first block
pub ready_first : (text : List ℕ) (options : Options) (names : Names) (tree : Forest Item) (root : TreeIndex) → root.0 ≡ 0
    → tree ≡ with_end_at empty_forest root (length text) → Ready (document text options names) no_tables (state_with tree None false) (lines_from text 0)
unfolding Ready
ready_first text options names tree root top tree_is =
    let at_top : ℕ → TreeIndex = λ n. record { 0 = n } in
    let e : tree ≡ with_end_at empty_forest (at_top 0) (length text) = tree_is ∙ ap (λ n. with_end_at empty_forest (at_top n) (length text)) top in
    subst (λ f. ReadyAt (document text options names) no_tables f false Line (lines_from text 0)) (sym e)
    (record { frames = []; are_open = tt; completes = completes-first (document text options names); silent = tt })

ended_by : (d : Document) (defined : Tables) (nodes : List (ℕ × Item)) (t : Tail) (s : List TreeIndex) (frames : List Frame) → s ≡ []
    → AreOpen d.options nodes s frames → CompletesAt d defined t frames nodes (map (λ (ix : TreeIndex). ix.0) s) Line [] → Derives d nodes defined
ended_by d defined nodes t [] [] closed o k = completes-end d defined t nodes k
ended_by d defined nodes t [] (frame ∷ frames) closed o k = absurd o
ended_by d defined nodes t (ix ∷ s) frames closed o k = cc

ended_with : (d : Document) (defined : Tables) (r : PassState) (o : Option ℕ) → r.tree.spine ≡ [] → ReadyWith d defined r [] o → Derives d r.tree.nodes defined
ended_with d defined r None closed ready =
    ended_by d defined r.tree.nodes (tail (closed_in r.tree) r.blank) r.tree.spine ready.frames closed ready.are_open ready.completes
ended_with d defined r (Some e) closed ready = (let x : [] ≡ ready.place ∷ ready.outer = sym closed ∙ ready.spine in cc)

-- at the end of the text, with nothing open
pub ready_finish : (d : Document) (defined : Tables) (r : PassState) → r.tree.spine ≡ [] → Ready d defined r [] → Derives d r.tree.nodes defined
unfolding Ready
ready_finish d defined r closed ready = ended_with d defined r r.begin_list_item closed ready

-- if no item is empty
pub ready_plain : (d : Document) (defined : Tables) (r : PassState) (lines : List Place)
    → r.begin_list_item ≡ None → ReadyAt d defined r.tree r.blank Line lines → Ready d defined r lines
unfolding Ready
ready_plain d defined r lines none ready = subst (λ o. ReadyWith d defined r lines o) (sym none) ready

not_blank_by : (o : Option Rest) → is_some o ≡ false → is_blank_after o ≡ false
not_blank_by o h = grind (arith, h)

-- if the next line does not continue a path, it is not blank after it
not_blank : (path : List Container) (lines : List Place) → next_goes_on path lines ≡ false → next_is_blank path lines ≡ false
not_blank path [] h = refl
not_blank path (line ∷ lines) h = not_blank_by (after path line.rest) h

-- nor does it continue the path without an item or a definition that takes only blank lines
not_on : (b : ItemBody) (path : List Container) (lines : List Place) → next_goes_on (item_container b 0 ∷ path) lines ≡ false → next_goes_on path lines ≡ false
not_on b path [] h = refl
not_on b path (line ∷ lines) h = ap is_some (sym (after_zero b path line.rest)) ∙ h

-- a possible title is last only in a definition list
untitled : (f : Forest Item) (o : Option TreeIndex) → possible_title f ≡ o → is_definition_list (top_body f) ≡ false → o ≡ None
untitled f None is h = refl
untitled f (Some title) is h = absurd (true≢false (sym (ap is_definition_list (title_is f title is).top) ∙ h))

no_title_at : (f : Forest Item) (ix : TreeIndex) (rest : List TreeIndex) (b : ItemBody) → f.spine ≡ ix ∷ rest → body_at f.nodes ix.0 ≡ Some b
    → is_definition_list (Some b) ≡ false → possible_title f ≡ None
no_title_at f ix rest b spine is h = grind (arith, untitled)

-- the innermost open node is closed, if its last child is no possible title
popped_is : (e : ℕ) (r : PassState) (ix : TreeIndex) (rest : List TreeIndex) → r.tree.spine ≡ ix ∷ rest → possible_title r.tree ≡ None
    → popped e r ≡ popped_by r (closed_by r.tree e (ix ∷ rest)) ix (body_at r.tree.nodes ix.0)
unfolding popped
popped_is e r ix rest spine none = grind (arith, body-kept)

-- a list
list_by : (e : ℕ) (r : PassState) (ix : TreeIndex) (rest : List TreeIndex) (b : Option ItemBody) (flags : ListFlags)
    → option_and_then list_flags_of b ≡ Some flags → popped_by r (closed_by r.tree e (ix ∷ rest)) ix b ≡ record r { tree = list_popped r.tree e ix rest flags }
list_by e r ix rest b flags h = grind (arith, h)

pub popped_list : (e : ℕ) (r : PassState) (ix : TreeIndex) (rest : List TreeIndex) (flags : ListFlags) → r.tree.spine ≡ ix ∷ rest
    → possible_title r.tree ≡ None → option_and_then list_flags_of (body_at r.tree.nodes ix.0) ≡ Some flags
    → popped e r ≡ record r { tree = list_popped r.tree e ix rest flags }
popped_list e r ix rest flags spine none listed = popped_is e r ix rest spine none ∙ list_by e r ix rest (body_at r.tree.nodes ix.0) flags listed

listed_as : (b : Option ItemBody) → is_list b ≡ true → (flags : ListFlags) × (option_and_then list_flags_of b ≡ Some flags)
listed_as (Some (ListBody flags byte number)) h = (flags, refl)
listed_as (Some (DefinitionList flags)) h = (flags, refl)
listed_as b h = cc

-- another node
other_by : (r : PassState) (g : Forest Item) (ix : TreeIndex) (b : Option ItemBody) → is_list b ≡ false
    → popped_by r g ix b ≡ record r { tree = g; begin_list_item = if is_item b then None else r.begin_list_item }
other_by r g ix b h = grind (arith, h)

-- one that is no list
pub popped_as : (e : ℕ) (r : PassState) (ix : TreeIndex) (rest : List TreeIndex) (b : ItemBody) → r.tree.spine ≡ ix ∷ rest → body_at r.tree.nodes ix.0 ≡ Some b
    → is_list (Some b) ≡ false
    → popped e r ≡ record r { tree = closed_by r.tree e (ix ∷ rest); begin_list_item = if is_item (Some b) then None else r.begin_list_item }
popped_as e r ix rest b spine is h =
    popped_is e r ix rest spine (no_title_at r.tree ix rest b spine is (other_list (Some b) h)) ∙ ap (popped_by r (closed_by r.tree e (ix ∷ rest)) ix) is
    ∙ other_by r (closed_by r.tree e (ix ∷ rest)) ix (Some b) h

-- an item or a definition
pub item_popped : (e : ℕ) (r : PassState) (ix : TreeIndex) (rest : List TreeIndex) (b : ItemBody) (n : ℕ) → r.tree.spine ≡ ix ∷ rest
    → body_at r.tree.nodes ix.0 ≡ Some (item_body b n) → popped e r ≡ record r { tree = closed_by r.tree e (ix ∷ rest); begin_list_item = None }
item_popped e r ix rest b n spine is =
    popped_as e r ix rest (item_body b n) spine is (item_kind b n).1
    ∙ ap (λ t. record r { tree = closed_by r.tree e (ix ∷ rest); begin_list_item = if t then None else r.begin_list_item }) (item_kind b n).0

-- a node with another body than the one that changes keeps its body
body_apart : (nodes : List (ℕ × Item)) (place i : ℕ) (g : Item → Item) (a b : ItemBody) → (a ≡ b → ⊥) → body_at nodes place ≡ Some a
    → body_at nodes i ≡ Some b → body_at (modify nodes place g) i ≡ Some b
body_apart (n ∷ nodes) zero zero g a b apart here there = absurd (apart cc)
body_apart (n ∷ nodes) (suc place) (suc i) g a b apart here there = body_apart nodes place i g a b apart here there
body_apart nodes place i g a b apart here there = there

-- a definition list whose last child is a possible title
popped_title : (e : ℕ) (r : PassState) (l : TitledList r.tree) → possible_title r.tree ≡ Some l.title → popped e r ≡ record r { tree = title_closed r.tree l }
unfolding popped
popped_title e r l is =
    let t = l.titled in
    let q : PassState = with_tree r (with_body_at r.tree l.title ParagraphBody) in
    let listed : body_at r.tree.nodes l.list.0 ≡ Some (DefinitionList t.flags) = ap (top_in r.tree.nodes) (sym l.spine) ∙ t.top in
    ap (popped_after e r) is
    ∙ definitions_closed_is (top_end r.tree) q l.list l.outer t.flags l.title l.spine
    (body_apart r.tree.nodes l.title.0 l.list.0 (λ x. record { start = x.start; «end» = x.«end»; body = ParagraphBody }) MaybeDefinitionListTitle
    (DefinitionList t.flags) (λ h. cc) (body_of r.tree l.title t.item t.is ∙ ap (λ z. Some z) t.body) listed) t.current

-- The innermost open node is closed: a list, a definition list whose last child is a possible title, or another node.
module _ (e : ℕ) (r : PassState) (ix : TreeIndex) (rest : List TreeIndex) (spine : r.tree.spine ≡ ix ∷ rest) (P : PassState → Type 0)
    (list : (l : PlainList r.tree) → P (record r { tree = list_popped r.tree e l.list l.outer l.flags }))
    (titled : (l : TitledList r.tree) → P (record r { tree = title_closed r.tree l }))
    (other : is_list (body_at r.tree.nodes ix.0) ≡ false → P (record r {
      tree = closed_by r.tree e (ix ∷ rest);
      begin_list_item = if is_item (body_at r.tree.nodes ix.0) then None else r.begin_list_item;
    })) where
  untitled_cases : (t : Bool) → is_list (body_at r.tree.nodes ix.0) ≡ t → possible_title r.tree ≡ None
      → P (popped_by r (closed_by r.tree e (ix ∷ rest)) ix (body_at r.tree.nodes ix.0))
  untitled_cases true is none =
      let l = listed_as (body_at r.tree.nodes ix.0) is in
      subst P (sym (list_by e r ix rest (body_at r.tree.nodes ix.0) l.0 l.1))
      (list (record { list = ix; outer = rest; flags = l.0; spine = spine; listed = l.1; none = none }))
  untitled_cases false is none = subst P (sym (other_by r (closed_by r.tree e (ix ∷ rest)) ix (body_at r.tree.nodes ix.0) is)) (other is)

  title_cases : (o : Option TreeIndex) → possible_title r.tree ≡ o → P (popped e r)
  title_cases None none = subst P (sym (popped_is e r ix rest spine none)) (untitled_cases (is_list (body_at r.tree.nodes ix.0)) refl none)
  title_cases (Some title) is =
      let l : TitledList r.tree = record { list = ix; outer = rest; title = title; spine = spine; titled = title_is r.tree title is } in
      subst P (sym (popped_title e r l is)) (titled l)

  pub popped_cases : P (popped e r)
  popped_cases = title_cases (possible_title r.tree) refl

-- the same for a list that is innermost, if there is one
module _ (e : ℕ) (r : PassState) (P : PassState → Type 0) (still : is_list (top_body r.tree) ≡ false → P r)
    (list : (l : PlainList r.tree) → P (record r { tree = list_popped r.tree e l.list l.outer l.flags }))
    (titled : (l : TitledList r.tree) → P (record r { tree = title_closed r.tree l })) where
  spine_cases : (t : Bool) (s : List TreeIndex) → r.tree.spine ≡ s → is_list (top_in r.tree.nodes s) ≡ t → P (if t then popped e r else r)
  spine_cases false s spine is = still (ap (λ z. is_list (top_in r.tree.nodes z)) spine ∙ is)
  spine_cases true [] spine is = cc
  spine_cases true (ix ∷ rest) spine is = popped_cases e r ix rest spine P list titled (λ other. absurd (true≢false (sym is ∙ other)))

  pub list_cases : P (list_closed e r)
  list_cases = spine_cases (is_list (top_body r.tree)) r.tree.spine refl refl

-- closing changes no container
abbrev pub SameContainers : List (ℕ × Item) → List (ℕ × Item) → Type 0
SameContainers nodes other =
    (options : Options) (i : ℕ) → option_and_then (container_of options) (body_at other i) ≡ option_and_then (container_of options) (body_at nodes i)

pub same_path : (nodes other : List (ℕ × Item)) → SameContainers nodes other → (options : Options) (s : List TreeIndex)
    → path_in options other s ≡ path_in options nodes s
same_path nodes other h options [] = refl
same_path nodes other h options (ix ∷ s) =
    ap (λ c. with_container c (path_in options other s)) (h options ix.0)
    ∙ ap (with_container (container_at options nodes ix)) (same_path nodes other h options s)

tight_container : (options : Options) (b : ItemBody) → container_of options (tight_body b) ≡ container_of options b
tight_container options b = grind arith

tightened_container : (options : Options) (t : Bool) (x : Item)
    → container_of options (if t then record { start = x.start; «end» = x.«end»; body = tight_body x.body } else x).body ≡ container_of options x.body
tightened_container options t x = grind (arith, tight_container)

run_containers : (depth : ℕ) (nodes : List (ℕ × Item)) → SameContainers nodes (tight_run depth nodes)
unfolding tight_run
run_containers depth [] options i = refl
run_containers depth (n ∷ nodes) options zero = grind (arith, cond_both, tightened_container)
run_containers depth (n ∷ nodes) options (suc i) =
    cond_both (nat_lt depth n.0) (tightened (depth + 2) n ∷ tight_run depth nodes) (n ∷ nodes)
    (λ z. option_and_then (container_of options) (body_at z (suc i)) ≡ option_and_then (container_of options) (body_at nodes i))
    (λ t. run_containers depth nodes options i) (λ t. refl)

tight_containers : (depth from : ℕ) (nodes : List (ℕ × Item)) → SameContainers nodes (tight_at depth from nodes)
unfolding tight_at
tight_containers depth zero nodes options i = run_containers depth nodes options i
tight_containers depth (suc from) (n ∷ nodes) options (suc i) = tight_containers depth from nodes options i
tight_containers depth (suc from) nodes options i = refl

module _ (e : ℕ) (f : Forest Item) (ix : TreeIndex) (rest : List TreeIndex) where
  pub closed_containers : SameContainers f.nodes (closed_by f e (ix ∷ rest)).nodes
  closed_containers options i = grind (arith, body-kept)

  list_containers : (t : Bool) → SameContainers f.nodes (if t then tight_items (closed_by f e (ix ∷ rest)) ix else closed_by f e (ix ∷ rest)).nodes
  list_containers true options i = tight_containers _ (ix.0 + 1) (closed_by f e (ix ∷ rest)).nodes options i ∙ closed_containers options i
  list_containers false options i = closed_containers options i

-- a body that is no container's changes to another that is none
pub unnamed : (nodes : List (ℕ × Item)) (place : ℕ) (a b : ItemBody)
    → ((options : Options) → (container_of options a ≡ None) × (container_of options b ≡ None))
    → body_at nodes place ≡ Some a → SameContainers nodes (modify nodes place (λ x. record { start = x.start; «end» = x.«end»; body = b }))
unnamed (n ∷ nodes) zero a b none is options zero = grind arith
unnamed (n ∷ nodes) (suc place) a b none is options (suc i) = unnamed nodes place a b none is options i
unnamed nodes place a b none is options w = refl

-- What is left after the innermost open node is closed: the other open nodes, their containers, and the state beside
-- the tree.
pub record KeptPopped (old new : PassState) : Type 0 where
  pub spine : new.tree.spine ≡ drop 1 old.tree.spine
  pub paths : (options : Options) (s : List TreeIndex) → path_in options new.tree.nodes s ≡ path_in options old.tree.nodes s
  pub blank : new.blank ≡ old.blank
  pub none : old.begin_list_item ≡ None → new.begin_list_item ≡ None

none_if : (t : Bool) (o : Option ℕ) → o ≡ None → (if t then None else o) ≡ None
none_if t o none = grind (arith, none)

pub popped_kept : (e : ℕ) (r : PassState) (ix : TreeIndex) (rest : List TreeIndex) → r.tree.spine ≡ ix ∷ rest → KeptPopped r (popped e r)
popped_kept e r ix rest spine = popped_cases e r ix rest spine (KeptPopped r)
    (λ l. record {
      spine = list_spine r.tree e l.list l.outer l.flags ∙ ap (drop 1) (sym l.spine);
      paths = same_path r.tree.nodes _ (list_containers e r.tree l.list l.outer (bit_and l.flags.0 1 == 1));
      blank = refl;
      none = λ none. none;
    })
    (λ l. let f : Forest Item = with_body_at r.tree l.title ParagraphBody in record {
      spine = list_spine f (top_end r.tree) l.list l.outer l.titled.flags ∙ ap (drop 1) (sym l.spine);
      paths = same_path r.tree.nodes (title_closed r.tree l).nodes (λ options i.
          ap (option_and_then (container_of options)) (body-moved (list_popped f (top_end r.tree) l.list l.outer l.titled.flags).nodes l.title.0 i)
          ∙ list_containers (top_end r.tree) f l.list l.outer (bit_and l.titled.flags.0 1 == 1) options i
          ∙ unnamed r.tree.nodes l.title.0 MaybeDefinitionListTitle ParagraphBody (λ options. (refl, refl))
          (body_of r.tree l.title l.titled.item l.titled.is ∙ ap (λ z. Some z) l.titled.body) options i);
      blank = refl;
      none = λ none. none;
    })
    (λ other. record {
      spine = ap (drop 1) (sym spine);
      paths = same_path r.tree.nodes _ (closed_containers e r.tree ix rest);
      blank = refl;
      none = none_if (is_item (body_at r.tree.nodes ix.0)) r.begin_list_item;
    })

pub popped_spine : (e : ℕ) (r : PassState) (ix : TreeIndex) (rest : List TreeIndex) → r.tree.spine ≡ ix ∷ rest → (popped e r).tree.spine ≡ rest
popped_spine e r ix rest spine = (popped_kept e r ix rest spine).spine ∙ ap (drop 1) spine

-- a closed list is in the same containers
list_outside : (options : Options) (b : Option ItemBody) → is_list b ≡ true → option_and_then (container_of options) b ≡ None
list_outside options b h = grind (arith, h)

pub list_path : (options : Options) (nodes : List (ℕ × Item)) (ix : TreeIndex) (rest : List TreeIndex) → is_list (body_at nodes ix.0) ≡ true
    → path_in options nodes (ix ∷ rest) ≡ path_in options nodes rest
list_path options nodes ix rest is = ap (λ z. with_container z (path_in options nodes rest)) (list_outside options (body_at nodes ix.0) is)

-- what is left after an innermost list, if there is one, is closed
pub record KeptLeft (old new : PassState) : Type 0 where
  pub path : (options : Options) → path_of options new.tree ≡ path_of options old.tree
  pub blank : new.blank ≡ old.blank
  pub none : old.begin_list_item ≡ None → new.begin_list_item ≡ None

left_kept : (e : ℕ) (r : PassState) (t : Bool) (s : List TreeIndex) → r.tree.spine ≡ s → is_list (top_in r.tree.nodes s) ≡ t
    → KeptLeft r (if t then popped e r else r)
left_kept e r false s spine is = record { path = λ options. refl; blank = refl; none = λ none. none }
left_kept e r true [] spine is = cc
left_kept e r true (ix ∷ rest) spine is =
    let kept = popped_kept e r ix rest spine in
    record {
      path = λ options. kept.paths options (popped e r).tree.spine ∙ ap (path_in options r.tree.nodes) (popped_spine e r ix rest spine)
          ∙ sym (ap (path_in options r.tree.nodes) spine ∙ list_path options r.tree.nodes ix rest is);
      blank = kept.blank;
      none = kept.none;
    }

pub kept_left : (e : ℕ) (r : PassState) → KeptLeft r (list_closed e r)
kept_left e r = left_kept e r (is_list (top_body r.tree)) r.tree.spine refl refl

module _ (d : Document) (defined : Tables) (r : PassState) (lines : List Place) (e : ℕ) (ix : TreeIndex) (rest : List TreeIndex) (forest : IsForest r.tree)
    (spine : r.tree.spine ≡ ix ∷ rest) (starts : start_of (length d.text) lines ≡ e) (ends : next_goes_on (path_of d.options r.tree) lines ≡ false) where
  abbrev path : List Container
  path = path_in d.options r.tree.nodes rest

  -- a line does not continue the innermost open node, a container
  container_ends : (c : Container) → container_at d.options r.tree.nodes ix ≡ Some c → next_goes_on (c ∷ path) lines ≡ false
  container_ends c is = grind arith

  -- it is closed before the next line
  pop_container : (run : Bool) (c : Container) → container_at d.options r.tree.nodes ix ≡ Some c
      → ReadyAt d defined r.tree run Line lines → ReadyAt d defined (closed_by r.tree e (ix ∷ rest)) run Line lines
  pop_container run c is ready =
      (leave_container d defined r.tree run lines e ix rest c spine is Line
      (stops d.options (level (c ∷ path) (record { last = last_plain (closed_in r.tree); counted = run })) lines (container_ends c is)) (sym starts)
      ready).ready

  pop_framed : (frame : Frame) → HasFrame d.options (body_at r.tree.nodes ix.0) frame → is_list (body_at r.tree.nodes ix.0) ≡ false
      → ReadyAt d defined r.tree r.blank Line lines → ReadyAt d defined (closed_by r.tree e (ix ∷ rest)) r.blank Line lines
  pop_framed (InContainer c) h other ready = pop_container r.blank c h ready
  pop_framed frame h other ready = absurd (plain_top d.options (body_at r.tree.nodes ix.0) (frame ∷ []) h other)

  pop_plain : ReadyAt d defined r.tree r.blank Line lines → ReadyAt d defined (popped e r).tree r.blank Line lines
  pop_plain ready = popped_cases e r ix rest spine (λ q. ReadyAt d defined q.tree r.blank Line lines)
      (λ l. (close_list d defined r.tree r.blank lines e forest l Line (line_ends d (path_of d.options r.tree) lines e ends starts) ready).ready)
      (λ l. (close_title d defined r.tree r.blank lines forest l Line e (line_ends d (path_of d.options r.tree) lines e ends starts) ready).ready)
      (λ other. let i = innermost_of d defined r.tree r.blank Line lines ix rest spine ready in pop_framed i.0 i.1 other ready)

  pop_none : r.begin_list_item ≡ None → ReadyAt d defined r.tree r.blank Line lines → Ready d defined (popped e r) lines
  pop_none none ready = grind (arith, popped_kept, ready_plain, pop_plain)

  -- the innermost open node is an item or a definition, which may be empty
  module _ (b : ItemBody) (columns : ℕ) (item : body_at r.tree.nodes ix.0 ≡ Some (item_body b columns)) where
    item_in : container_at d.options r.tree.nodes ix ≡ Some (item_container b columns)
    item_in = ap (option_and_then (container_of d.options)) item ∙ item_path d.options b columns

    closed_item : (x : ℕ) (blank : Bool) → r.blank ≡ blank → (blank ≡ true → columns ≡ 0) → ReadyInItem d defined r.tree x lines blank
        → ReadyAt d defined (closed_by r.tree e (ix ∷ rest)) blank Line lines
    closed_item x true is none ready =
        let c : Container = item_container b columns in
        let empty : next_goes_on (item_container b 0 ∷ path) lines ≡ false =
        subst (λ n. next_goes_on (item_container b n ∷ path) lines ≡ false) (none refl) (container_ends c item_in) in
        (leave_container d defined r.tree true lines e ix rest c spine item_in (Blanks x)
        (stops_blank d.options (level (c ∷ path) (record { last = last_plain (closed_in r.tree); counted = true })) x lines
        (not_blank (c ∷ path) lines (container_ends c item_in)))
        (sym (ap (λ t. if t then x else start_of (length d.text) lines) (not_on b path lines empty) ∙ starts)) ready).ready
    closed_item x false is none ready =
        pop_container false (item_container b columns) item_in
        (subst (ReadyBeforeLine d defined r.tree x lines) (not_blank (path_of d.options r.tree) lines ends) ready)

  pop_with : (o : Option ℕ) → r.begin_list_item ≡ o → ReadyWith d defined r lines o → Ready d defined (popped e r) lines
  pop_with None none ready = pop_none none ready
  pop_with (Some x) some ready =
      let same : ready.place ∷ ready.outer ≡ ix ∷ rest = sym ready.spine ∙ spine in
      let at : ready.place ≡ ix = cc in
      let own = item_own (body_at r.tree.nodes ix.0) ready.columns
      (subst (λ (i : TreeIndex). option_and_then item_columns (body_at r.tree.nodes i.0) ≡ Some ready.columns) at ready.item) in
      subst (λ q. Ready d defined q lines) (sym (item_popped e r ix rest own.0 ready.columns spine own.1))
      (ready_plain d defined (record r { tree = closed_by r.tree e (ix ∷ rest); begin_list_item = None }) lines refl
      (closed_item own.0 ready.columns own.1 x r.blank refl ready.none ready.ready))

-- the innermost open node is closed before the next line
pub ready_pop : (d : Document) (defined : Tables) (r : PassState) (lines : List Place) (e : ℕ) (ix : TreeIndex) (rest : List TreeIndex)
    → IsForest r.tree → r.tree.spine ≡ ix ∷ rest → start_of (length d.text) lines ≡ e → next_goes_on (path_of d.options r.tree) lines ≡ false
    → Ready d defined r lines → Ready d defined (popped e r) lines
unfolding Ready
ready_pop d defined r lines e ix rest forest spine e_is ends ready = grind (arith, pop_with)

outer_next : (s : List TreeIndex) (x : TreeIndex) (xs : List TreeIndex)
    → suc (length xs) ≤ length s → x ∷ xs ≡ outer (suc (length xs)) s → xs ≡ outer (length xs) s
outer_next s x xs l h =
    let z : (length s - suc (length xs)) + 1 ≡ length s - length xs = omega arith in
    ap (drop 1) h ∙ drop-drop 1 (length s - suc (length xs)) s ∙ ap (λ k. drop k s) z

-- The nodes of a tree that are closed so far, and the lines before which it is ready.
pub record ClosedSoFar (old now : PassState) (kept at : ℕ) : Type 0 where
  pub enough : kept ≤ length now.tree.spine
  pub fewer : length now.tree.spine ≤ length old.tree.spine
  pub spine : now.tree.spine ≡ outer (length now.tree.spine) old.tree.spine
  pub paths : (options : Options) (s : List TreeIndex) → path_in options now.tree.nodes s ≡ path_in options old.tree.nodes s
  pub ready : (d : Document) (defined : Tables) (lines : List Place)
      → start_of (length d.text) lines ≡ at → NoMore d.options old.tree kept lines → Ready d defined old lines → Ready d defined now lines

pub closed_none : (old : PassState) (kept at : ℕ) → kept ≤ length old.tree.spine → ClosedSoFar old old kept at
closed_none old kept at h = grind (arith, outer-all)

closed_more : (old now : PassState) (kept at : ℕ) (s : List TreeIndex) → IsForest now.tree → now.tree.spine ≡ s → kept < length s → ClosedSoFar old now kept at
    → ClosedSoFar old (popped at now) kept at × (length (popped at now).tree.spine < length s)
closed_more old now kept at [] forest spine more c = absurd (omega arith)
closed_more old now kept at (ix ∷ rest) forest spine more c =
    let l : length now.tree.spine ≡ suc (length rest) = ap length spine in
    let after_it : (popped at now).tree.spine ≡ rest = popped_spine at now ix rest spine in
    let k : length (popped at now).tree.spine ≡ length rest = ap length after_it in
    let fewer : length now.tree.spine ≤ length old.tree.spine = c.fewer in
    let here : ix ∷ rest ≡ outer (suc (length rest)) old.tree.spine = sym spine ∙ c.spine ∙ ap (λ n. outer n old.tree.spine) l in
    let left : rest ≡ outer (length rest) old.tree.spine = outer_next old.tree.spine ix rest (omega arith) here in (
      record {
        enough = omega arith;
        fewer = omega arith;
        spine = after_it ∙ left ∙ ap (λ n. outer n old.tree.spine) (sym k);
        paths = λ options s. (popped_kept at now ix rest spine).paths options s ∙ c.paths options s;
        ready = λ d defined lines e none ready. ready_pop d defined now lines at ix rest forest spine e
            (subst (λ p. next_goes_on p lines ≡ false) (sym (c.paths d.options now.tree.spine ∙ ap (path_in d.options old.tree.nodes) (spine ∙ here)))
            (none (suc (length rest)) (omega arith) (omega arith))) (c.ready d defined lines e none ready);
      },
      omega arith,
    )

-- one of the open nodes that are to be closed is closed
pub closed_one : (old now new : PassState) (kept at : ℕ) → IsForest now.tree → new ≡ popped at now → kept < length now.tree.spine → ClosedSoFar old now kept at
    → ClosedSoFar old new kept at × (length new.tree.spine < length now.tree.spine)
closed_one old now new kept at forest is more c = rw is (closed_more old now kept at now.tree.spine forest refl more c)
