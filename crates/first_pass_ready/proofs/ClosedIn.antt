-- The last child of the innermost open node, as the tree changes.
use Rattle.std.proofs.Common.{◌≡◌, ℕ, zero, suc, ◌==◌, Bool, true, false, List, [], ◌∷◌, slice_get, Option, Some, None, refl, sym, ap, ◌∙◌, IfSome, arith}
use Rattle.std.proofs.Common.{not, subst, if◌then◌else◌, option_map, option_and_then}
use Rattle.first_pass_grammar.proofs.Common.{same_Some, some_if, option_map_or, Item, ItemBody, ListFlags, DefinitionList, DefinitionListDefinition}
use Rattle.first_pass_grammar.proofs.Common.{MaybeDefinitionListTitle, Options, TreeIndex, Forest, modify, item_at, body_at, Last, LastItem, list_is_open}
use Rattle.first_pass_grammar.proofs.Common.{is_paragraph_body, Level, level, node_of, list_flags, Closed, OtherClosed, DefinitionClosed, TitleAt, Frame}
use Rattle.first_pass_grammar.proofs.Common.{InContainer, InList, InDefinitions, closed_as, IsPlain, last_plain, StandsIn, last_of, containers_of, body_of}
use Rattle.first_pass_items.specs.declared.item.ItemBody.TheVariants.{Paragraph as ParagraphBody, BlockQuote as BlockQuoteBody, List as ListBody}
use Rattle.first_pass_items.specs.declared.item.ItemBody.TheVariants.{ListItem as ListItemBody, FootnoteDefinition as FootnoteDefinitionBody}
use Rattle.first_pass_grammar.specs.declared.kind.Container.{Container}
use Rattle.first_pass_grammar.specs.Before.{definition_may_follow as takes_after}
use Rattle.first_pass_grammar.specs.Completion.{last_defined}
use Rattle.first_pass_tokens.proofs.ChainLemmas.{item_modified}
use Rattle.first_pass_open.specs.OpenBlock.{closed_by}
use Rattle.first_pass_open.specs.Path.{container_of, container_at, path_of}
use Rattle.first_pass_lists.specs.Closing.{current_body, top_body, top_end, is_list, is_definition_list, title_by, possible_title, precedes_definition}
use Rattle.first_pass_lists.specs.Closing.{may_begin_definition}
use Rattle.first_pass_ready.specs.State.{AreOpen, closed_in_definitions, closed_elsewhere, closed_below, closed_none, closed_with, closed_in}
use Rattle.first_pass_ready.proofs.OpenLemmas.{open_path, HasFrame, has_frame}
use Rattle.first_pass_completion.proofs.Extending.{tail, lvl}

-- the body of the innermost of these open nodes
abbrev pub top_in : List (ℕ × Item) → List TreeIndex → Option ItemBody
top_in nodes s = option_and_then (λ (ix : TreeIndex). body_at nodes ix.0) (slice_get s 0)

-- the body of the innermost open node matches the frames
abbrev pub IsTop : Options → Option ItemBody → List Frame → Type 0
IsTop options top [] = top ≡ None
IsTop options top (frame ∷ frames) = HasFrame options top frame

pub top_of : (options : Options) (nodes : List (ℕ × Item)) (s : List TreeIndex) (frames : List Frame) → AreOpen options nodes s frames
    → IsTop options (top_in nodes s) frames
top_of options nodes [] [] o = refl
top_of options nodes (ix ∷ s) (frame ∷ frames) o = has_frame options (body_at nodes ix.0) frame o.0
top_of options nodes s frames o = absurd o

-- the last block, by the body of the innermost open node
abbrev pub last_below : Option ItemBody → Closed → Last
last_below (Some (ListBody flags list number)) closed = LastItem
last_below (Some (DefinitionList flags)) closed = last_defined closed
last_below _ closed = last_plain closed

last_container : (options : Options) (b : Option ItemBody) (c : Container) (closed : Closed) → option_and_then (container_of options) b ≡ Some c
    → last_plain closed ≡ last_below b closed
last_container options b c closed h = grind (arith, h)

last_top : (options : Options) (top : Option ItemBody) (frames : List Frame) (closed : Closed) → IsTop options top frames
    → last_of frames closed ≡ last_below top closed
last_top options top frames closed is = grind (arith, is, last_container)

pub open_last : (options : Options) (nodes : List (ℕ × Item)) (s : List TreeIndex) (frames : List Frame) (closed : Closed) → AreOpen options nodes s frames
    → last_of frames closed ≡ last_below (top_in nodes s) closed
open_last options nodes s frames closed o = last_top options (top_in nodes s) frames closed (top_of options nodes s frames o)

-- the level of a tree, after a run of blank lines
abbrev pub last_in : Forest Item → Last
last_in f = last_below (top_body f) (closed_in f)

abbrev pub level_of : Options → Forest Item → Bool → Level
level_of options f run = level (path_of options f) (record { last = last_in f; counted = run })

pub open_level : (options : Options) (f : Forest Item) (frames : List Frame) (run : Bool) → AreOpen options f.nodes f.spine frames
    → level_of options f run ≡ lvl frames (tail (closed_in f) run)
open_level options f frames run o =
    ap (λ p. level p (record { last = last_in f; counted = run })) (open_path options f.nodes f.spine frames o)
    ∙ ap (λ l. level (containers_of frames) (record { last = l; counted = run })) (sym (open_last options f.nodes f.spine frames (closed_in f) o))

-- a fact about the last child: there is none, or it is the current node
module _ (P : Closed → Type 0) (f : Forest Item)
    (none : current_body f ≡ None → option_and_then (item_at f) f.current ≡ None → P (closed_none (top_body f)))
    (some : (c : TreeIndex) (x : Item) → f.current ≡ Some c → item_at f c ≡ Some x → P (closed_below (top_end f) (top_body f) c.0 x)) where
  item_cases : (c : TreeIndex) (o : Option (ℕ × Item)) → f.current ≡ Some c → slice_get f.nodes c.0 ≡ o
      → P (option_map_or (closed_below (top_end f) (top_body f) c.0) (option_map (λ n. n.1) o) (closed_none (top_body f)))
  item_cases c None current is = grind arith
  item_cases c (Some n) current is = some c n.1 current (ap (option_map (λ n. n.1)) is)

  current_cases : (c : Option TreeIndex) → f.current ≡ c → P (closed_with f c)
  current_cases None current = grind arith
  current_cases (Some c) current = item_cases c (slice_get f.nodes c.0) current refl

  pub closed_cases : P (closed_in f)
  closed_cases = current_cases f.current refl

takes_none : (top : Option ItemBody) → takes_after (last_below top (closed_none top)) ≡ false
takes_none top = grind arith

takes_below : (e place s y : ℕ) (top : Option ItemBody) (b : ItemBody)
    → takes_after (last_below top (closed_below e top place (node_of s y b))) ≡ precedes_definition top (Some b)
takes_below e place s y top b = grind arith

-- Whether a `:` may begin a definition depends on the tree as in the grammar.
pub takes_same : (f : Forest Item) → takes_after (last_in f) ≡ may_begin_definition f
takes_same f = grind (arith, closed_cases, takes_none, takes_below, body_of)

-- what is last if no definition list is innermost, by the current node and the bodies of nodes
abbrev placed : Option TreeIndex → (ℕ → Option ItemBody) → Closed
placed None body = OtherClosed
placed (Some c) body = option_map_or (closed_elsewhere c.0) (body c.0) OtherClosed

item_elsewhere : (e place : ℕ) (top : Option ItemBody) (o : Option (ℕ × Item)) → is_definition_list top ≡ false
    → option_map_or (closed_below e top place) (option_map (λ n. n.1) o) (closed_none top)
    ≡ option_map_or (closed_elsewhere place) (option_map (λ n. n.1.body) o) OtherClosed
item_elsewhere e place top o h = grind (arith, h)

elsewhere_by : (f : Forest Item) (c : Option TreeIndex) → is_definition_list (top_body f) ≡ false → closed_with f c ≡ placed c (body_at f.nodes)
elsewhere_by f None h = item_elsewhere 0 0 (top_body f) None h
elsewhere_by f (Some c) h = item_elsewhere (top_end f) c.0 (top_body f) (slice_get f.nodes c.0) h

-- if no definition list is innermost, the body of the current node decides what is last
pub closed_elsewhere_in : (f : Forest Item) → is_definition_list (top_body f) ≡ false → closed_in f ≡ placed f.current (body_at f.nodes)
closed_elsewhere_in f h = elsewhere_by f f.current h

-- the current node there, if its body is known
pub closed_at_body : (f : Forest Item) (c : TreeIndex) (b : ItemBody) → is_definition_list (top_body f) ≡ false → f.current ≡ Some c
    → body_at f.nodes c.0 ≡ Some b → closed_in f ≡ closed_elsewhere c.0 b
closed_at_body f c b h current is = grind (arith, closed_elsewhere_in)

placed_same : (c : Option TreeIndex) (body other : ℕ → Option ItemBody)
    → ((i : ℕ) → option_map_or (closed_elsewhere i) (other i) OtherClosed ≡ option_map_or (closed_elsewhere i) (body i) OtherClosed)
    → placed c other ≡ placed c body
placed_same None body other h = refl
placed_same (Some c) body other h = h c.0

-- the last child is the same in trees with the same paragraphs
pub closed_same : (f g : Forest Item) → is_definition_list (top_body f) ≡ false → is_definition_list (top_body g) ≡ false → g.current ≡ f.current
    → ((i : ℕ) → option_map_or (closed_elsewhere i) (body_at g.nodes i) OtherClosed ≡ option_map_or (closed_elsewhere i) (body_at f.nodes i) OtherClosed)
    → closed_in g ≡ closed_in f
closed_same f g old new current h = grind (arith, closed_elsewhere_in, placed_same)

-- a last child whose body is no paragraph is another block
pub no_paragraph : (i : ℕ) (b : ItemBody) → is_paragraph_body b ≡ false → closed_elsewhere i b ≡ OtherClosed
no_paragraph i ParagraphBody h = cc
no_paragraph i b h = refl

-- a body that is no paragraph changes to another that is none
pub closed_renamed : (nodes : List (ℕ × Item)) (place : ℕ) (b : ItemBody) (g : Item → Item) → is_paragraph_body b ≡ false
    → ((x : Item) → x.body ≡ b → is_paragraph_body (g x).body ≡ false) → body_at nodes place ≡ Some b → (at i : ℕ)
    → option_map_or (closed_elsewhere at) (body_at (modify nodes place g) i) OtherClosed ≡ option_map_or (closed_elsewhere at) (body_at nodes i) OtherClosed
closed_renamed (n ∷ nodes) zero b g old new is at zero =
    let same : n.1.body ≡ b = cc in
    no_paragraph at (g n.1).body (new n.1 same) ∙ sym (ap (closed_elsewhere at) same ∙ no_paragraph at b old)
closed_renamed (n ∷ nodes) (suc place) b g old new is at (suc i) = closed_renamed nodes place b g old new is at i
closed_renamed nodes place b g old new is at w = refl

-- if the innermost open node is no list, its body is none
pub top_no_definitions : (options : Options) (top : Option ItemBody) (frames : List Frame) → IsTop options top frames → IsPlain frames
    → is_definition_list top ≡ false
top_no_definitions options top frames is plain = grind (arith, is, plain)

pub plain_top : (options : Options) (top : Option ItemBody) (frames : List Frame) → IsTop options top frames → is_list top ≡ false → IsPlain frames
plain_top options top (InList byte loose ∷ frames) is none = (let t : is_list top ≡ true = ap is_list is.1 in cc)
plain_top options top (InDefinitions loose ∷ frames) is none = (let t : is_list top ≡ true = ap is_list is in cc)
plain_top options top frames is none = tt

container_below : (options : Options) (e place s y : ℕ) (top : Option ItemBody) (frames : List Frame) (b : ItemBody) → IsTop options top frames
    → IfSome (container_of options b) (λ c. StandsIn c frames → closed_below e top place (node_of s y b) ≡ closed_as c y)
container_below options e place s y top (InList byte loose ∷ frames) (ListItemBody n) is =
    λ stands. ap (λ z. closed_below e z place (node_of s y (ListItemBody n))) is.1
container_below options e place s y top (InDefinitions loose ∷ frames) (DefinitionListDefinition n) is =
    λ stands. ap (λ z. closed_below e z place (node_of s y (DefinitionListDefinition n))) is
container_below options e place s y top frames (ListItemBody n) is = λ stands. absurd stands
container_below options e place s y top frames (DefinitionListDefinition n) is = λ stands. absurd stands
container_below options e place s y top frames (BlockQuoteBody kind) is =
    λ plain. item_elsewhere e place top (Some (0, node_of s y (BlockQuoteBody kind))) (top_no_definitions options top frames is plain)
container_below options e place s y top frames (FootnoteDefinitionBody label) is =
    λ plain. item_elsewhere e place top (Some (0, node_of s y (FootnoteDefinitionBody label))) (top_no_definitions options top frames is plain)
container_below options e place s y top frames b is = tt

node_in : (options : Options) (o : Option (ℕ × Item)) (c : Container) → option_and_then (container_of options) (option_map (λ n. n.1.body) o) ≡ Some c
    → (x : Item) × (option_map (λ n. n.1) o ≡ Some x) × (container_of options x.body ≡ Some c)
node_in options None c h = cc
node_in options (Some n) c h = (n.1, refl, h)

-- a closed container is the last child
pub closed_popped : (options : Options) (f : Forest Item) (e : ℕ) (ix : TreeIndex) (rest : List TreeIndex) (c : Container) (frames : List Frame)
    → container_at options f.nodes ix ≡ Some c → AreOpen options (closed_by f e (ix ∷ rest)).nodes rest frames → StandsIn c frames
    → closed_in (closed_by f e (ix ∷ rest)) ≡ closed_as c e
closed_popped options f e ix rest c frames is o stands =
    let g : Forest Item = closed_by f e (ix ∷ rest) in
    let b = node_in options (slice_get f.nodes ix.0) c is in
    let x : Item = b.0 in
    let item : item_at g ix ≡ Some (node_of x.start e x.body) =
    item_modified f.nodes ix.0 (λ y. record { start = y.start; «end» = e; body = y.body }) ∙ ap (option_map (λ y. node_of y.start e y.body)) b.1 in
    ap (λ z. option_map_or (closed_below (top_end g) (top_body g) ix.0) z (closed_none (top_body g))) item
    ∙ subst (λ z. IfSome z (λ c. StandsIn c frames → closed_below (top_end g) (top_body g) ix.0 (node_of x.start e x.body) ≡ closed_as c e)) b.2
    (container_below options (top_end g) ix.0 x.start e (top_body g) frames x.body (top_of options g.nodes rest frames o)) stands

-- the last child of an innermost definition list: a possible title, or a definition
title_none_by : (e place s y : ℕ) (ix : TreeIndex) (flags : ListFlags) (b : ItemBody) → title_by (Some (DefinitionList flags)) ix (Some b) ≡ None
    → (blanks : Bool) × (closed_in_definitions e place y b ≡ DefinitionClosed y blanks)
title_none_by e place s y ix flags MaybeDefinitionListTitle h = cc
title_none_by e place s y ix flags (DefinitionListDefinition columns) h = (columns == 0, refl)
title_none_by e place s y ix flags b h = (true, refl)

-- the end of the current node
abbrev pub end_of_current : Forest Item → ℕ
end_of_current f = option_map_or (λ (x : Item). x.«end») (option_and_then (item_at f) f.current) 0

pub closed_definition : (f : Forest Item) (flags : ListFlags) → top_body f ≡ Some (DefinitionList flags) → possible_title f ≡ None
    → (blanks : Bool) × (closed_in f ≡ DefinitionClosed (end_of_current f) blanks)
closed_definition f flags top none =
    let ends : Option Item → ℕ = λ o. option_map_or (λ (x : Item). x.«end») o 0 in
    closed_cases (λ closed. (blanks : Bool) × (closed ≡ DefinitionClosed (end_of_current f) blanks)) f
    (λ body item. (true, ap closed_none top ∙ ap (λ o. DefinitionClosed (ends o) true) (sym item)))
    (λ c x current is.
    let title : title_by (Some (DefinitionList flags)) c (Some x.body) ≡ None =
    sym (ap (option_and_then (λ (ix : TreeIndex). title_by (top_body f) ix (body_at f.nodes ix.0))) current ∙ ap (title_by (top_body f) c) (body_of f c x is)
    ∙ ap (λ t. title_by t c (Some x.body)) top) ∙ none in
    let r = title_none_by (top_end f) c.0 x.start x.«end» c flags x.body title in
    let same : end_of_current f ≡ x.«end» = ap ends (ap (option_and_then (item_at f)) current ∙ is) in
    (r.0, ap (λ t. closed_below (top_end f) t c.0 x) top ∙ r.1 ∙ ap (λ z. DefinitionClosed z r.0) (sym same)))

-- a possible title is the current node, in an innermost definition list
pub record IsTitle (f : Forest Item) (title : TreeIndex) : Type 0 where
  pub current : f.current ≡ Some title
  pub flags : ListFlags
  pub top : top_body f ≡ Some (DefinitionList flags)
  pub item : Item
  pub is : item_at f title ≡ Some item
  pub body : item.body ≡ MaybeDefinitionListTitle
  pub closed : closed_in f ≡ TitleAt (top_end f) title.0

title_body : (top : Option ItemBody) (ix title : TreeIndex) (b : Option ItemBody) → title_by top ix b ≡ Some title
    → (is_definition_list top ≡ true) × (ix ≡ title) × (b ≡ Some MaybeDefinitionListTitle)
title_body top ix title (Some MaybeDefinitionListTitle) h =
    let r = some_if (is_definition_list top) (Some ix) title h in (r.0, same_Some ix title r.1, refl)
title_body top ix title b h = cc

pub definition_list_is : (top : Option ItemBody) → is_definition_list top ≡ true → (flags : ListFlags) × (top ≡ Some (DefinitionList flags))
definition_list_is (Some (DefinitionList flags)) h = (flags, refl)
definition_list_is b h = cc

pub definitions_top : (nodes : List (ℕ × Item)) (s : List TreeIndex) → is_definition_list (top_in nodes s) ≡ true
    → (ix : TreeIndex) × (rest : List TreeIndex) × (flags : ListFlags) × (s ≡ ix ∷ rest) × (body_at nodes ix.0 ≡ Some (DefinitionList flags))
definitions_top nodes [] h = cc
definitions_top nodes (ix ∷ rest) h = let b = definition_list_is (body_at nodes ix.0) h in (ix, rest, b.0, refl, b.1)

pub some_item : (o : Option (ℕ × Item)) (b : ItemBody) → option_map (λ n. n.1.body) o ≡ Some b → (x : Item) × (option_map (λ n. n.1) o ≡ Some x) × (x.body ≡ b)
some_item None b h = cc
some_item (Some n) b h = (n.1, refl, cc)

title_found : (f : Forest Item) (title : TreeIndex) (c : Option TreeIndex) → f.current ≡ c
    → option_and_then (λ (ix : TreeIndex). title_by (top_body f) ix (body_at f.nodes ix.0)) c ≡ Some title → IsTitle f title
title_found f title None current h = cc
title_found f title (Some c) current h =
    let r = title_body (top_body f) c title (body_at f.nodes c.0) h in
    let t = definition_list_is (top_body f) r.0 in
    let x = some_item (slice_get f.nodes title.0) MaybeDefinitionListTitle
    (subst (λ (z : TreeIndex). body_at f.nodes z.0 ≡ Some MaybeDefinitionListTitle) r.1 r.2) in
    let here : f.current ≡ Some title = current ∙ ap (λ z. Some z) r.1 in
    record {
      current = here;
      flags = t.0;
      top = t.1;
      item = x.0;
      is = x.1;
      body = x.2;
      closed = ap (closed_with f) here ∙ ap (λ z. option_map_or (closed_below (top_end f) (top_body f) title.0) z (closed_none (top_body f))) x.1
          ∙ ap (λ z. closed_below (top_end f) z title.0 x.0) t.1 ∙ ap (closed_in_definitions (top_end f) title.0 x.0.«end») x.2;
    }

pub title_is : (f : Forest Item) (title : TreeIndex) → possible_title f ≡ Some title → IsTitle f title
title_is f title h = title_found f title f.current refl h

below_defined : (e place s y : ℕ) (flags : ListFlags) (b : ItemBody)
    → list_is_open (last_defined (closed_below e (Some (DefinitionList flags)) place (node_of s y b))) ≡ true
below_defined e place s y flags b = grind arith

-- after the last child of an innermost definition list, that list may continue
abbrev pub HasDefined : List Frame → Closed → Type 0
HasDefined [] closed = Unit {0}
HasDefined (InContainer c ∷ frames) closed = Unit {0}
HasDefined (InList byte loose ∷ frames) closed = Unit {0}
HasDefined (InDefinitions loose ∷ frames) closed = list_is_open (last_defined closed) ≡ true

pub open_defined : (options : Options) (f : Forest Item) (frames : List Frame) → AreOpen options f.nodes f.spine frames → HasDefined frames (closed_in f)
open_defined options f (InDefinitions loose ∷ frames) o =
    let top = top_of options f.nodes f.spine (InDefinitions loose ∷ frames) o in
    closed_cases (λ closed. list_is_open (last_defined closed) ≡ true) f (λ none item. ap (λ z. list_is_open (last_defined (closed_none z))) top)
    (λ c x current is. ap (λ z. list_is_open (last_defined (closed_below (top_end f) z c.0 x))) top
    ∙ below_defined (top_end f) c.0 x.start x.«end» (list_flags (not loose)) x.body)
open_defined options f frames o = tt

pub plain_not_open : (closed : Closed) → list_is_open (last_plain closed) ≡ false
plain_not_open closed = grind arith
