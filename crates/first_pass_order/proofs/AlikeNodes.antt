-- Nodes that differ only in what changes when nodes are closed and blank lines are noted: whether a list is loose,
-- the indent of an item, and the meaning of a paragraph.
use Rattle.std.proofs.Common.{◌≡◌, ℕ, zero, suc, ◌+◌, ◌==◌, Bool, true, false, if◌then◌else◌, List, [], ◌∷◌, nat_lt, slice_index, slice_get, Option, Some, None}
use Rattle.std.proofs.Common.{is_some, refl, ap, ◌∙◌, bit_and, option_and_then}
use Rattle.first_pass_grammar.proofs.Common.{cond_both, same_Some, Item, ItemBody, Paragraph, DefinitionList, DefinitionListDefinition, DefinitionListTitle}
use Rattle.first_pass_grammar.proofs.Common.{MaybeDefinitionListTitle, TreeIndex, body_of, Forest, depths, modify, with_body_at, body_at, item_at, pushed}
use Rattle.first_pass_grammar.proofs.Common.{tight_body, tightened, tight_run, tight_at, tight_items, list_flags, is_row, is_cell, Names, index_of, Mark, shown}
use Rattle.first_pass_grammar.proofs.Common.{may_be_title, CowIndex}
use Rattle.first_pass_order.proofs.Common.{PassState}
use Rattle.first_pass_items.specs.declared.item.ItemBody.TheVariants.{List as ListBody, ListItem as ListItemBody}
use Rattle.first_pass_tree.specs.Forest.{wrapped}
use Rattle.first_pass_grammar.specs.Names.{Index}
use Rattle.first_pass_lists.specs.Closing.{is_list, is_item, is_definition_list, top_body, loosened_by, loosened_at, popped_by, gap_tree, gap_marked}
use Rattle.first_pass_lists.specs.Closing.{item_without_indent, definition_without_indent, blank_read_by, blank_read, definitions_by, definitions_at}
use Rattle.first_pass_lists.specs.Closing.{loosened_top, list_kept, definitions_opened, with_current}
use Rattle.first_pass_order.specs.Footnotes.{footnote_in}
use Rattle.first_pass_order.proofs.OrderLemmas.{flags_of}

-- whether a node is a list, an item or a definition list
abbrev pub class_of : Option ItemBody → Bool × Bool × Bool
class_of b = (is_list b, is_item b, is_definition_list b)

-- the properties of a body for tables, order, nesting, names and footnotes
abbrev pub features : ItemBody
    → Bool × Bool × (Bool × Bool × Bool × Bool) × (Bool × Bool × Bool) × Option Index × (Names → ℕ → ℕ → ℕ → List Mark) × List CowIndex
features b = (is_row b, is_cell b, flags_of b, class_of (Some b), index_of b, λ names depth start end. shown names depth start end b, footnote_in b)

-- another body with the same properties; it is a text that a definition list may take in only if the first one is
abbrev pub IsBodyLike : ItemBody → ItemBody → Type 0
IsBodyLike a b = (features b ≡ features a) × (may_be_title b ≡ true → may_be_title a ≡ true)

-- a node with such a body
pub record IsAlike (n m : ℕ × Item) : Type 0 where
  pub depth : m.0 ≡ n.0
  pub start : m.1.start ≡ n.1.start
  pub «end» : m.1.«end» ≡ n.1.«end»
  pub body : IsBodyLike n.1.body m.1.body

-- each node has such a body
pub data AreAlike : List (ℕ × Item) → List (ℕ × Item) → Type 0 where
  NoNodes : AreAlike [] []
  OneMore : (n m : ℕ × Item) (old new : List (ℕ × Item)) → IsAlike n m → AreAlike old new → AreAlike (n ∷ old) (m ∷ new)

alike_node : (n : ℕ × Item) → IsAlike n n
alike_node n = record { depth = refl; start = refl; «end» = refl; body = (refl, λ h. h) }

pub alike_itself : (nodes : List (ℕ × Item)) → AreAlike nodes nodes
alike_itself [] = NoNodes
alike_itself (n ∷ nodes) = OneMore n n nodes nodes (alike_node n) (alike_itself nodes)

-- another such body at a place
pub alike_body : (nodes : List (ℕ × Item)) (i : ℕ) (a b : ItemBody) → body_at nodes i ≡ Some a → IsBodyLike a b
    → AreAlike nodes (modify nodes i (λ x. record x { body = b }))
alike_body [] i a b is like = NoNodes
alike_body (n ∷ nodes) zero a b is like =
    OneMore _ _ _ _ (record { depth = refl; start = refl; «end» = refl; body = rw (same_Some n.1.body a is) like }) (alike_itself nodes)
alike_body (n ∷ nodes) (suc i) a b is like = OneMore _ _ _ _ (alike_node n) (alike_body nodes i a b is like)

-- the same end at a place of both; then one after the other
pub alike_ended : (old new : List (ℕ × Item)) (i e : ℕ) → AreAlike old new
    → AreAlike (modify old i (λ x. record x { «end» = e })) (modify new i (λ x. record x { «end» = e }))
alike_ended old new i e NoNodes = NoNodes
alike_ended old new zero e (OneMore n m xs ys a h) =
    OneMore _ _ _ _ (record { depth = a.depth; start = a.start; «end» = refl; body = a.body }) h
alike_ended old new (suc i) e (OneMore n m xs ys a h) = OneMore n m _ _ a (alike_ended xs ys i e h)

pub alike_both : (one two three : List (ℕ × Item)) → AreAlike one two → AreAlike two three → AreAlike one three
alike_both one two three NoNodes h = h
alike_both one two three (OneMore n m xs ys a h) (OneMore m2 l ys2 zs b k) =
    OneMore n l xs zs
    (record { depth = b.depth ∙ a.depth; start = b.start ∙ a.start; «end» = b.«end» ∙ a.«end»; body = (b.body.0 ∙ a.body.0, λ t. a.body.1 (b.body.1 t)) })
    (alike_both xs ys zs h k)

-- the paragraphs of a list become tight
tight_told : (b : ItemBody) → IsBodyLike b (tight_body b)
tight_told Paragraph = (refl, λ h. refl)
tight_told b = (refl, λ h. h)

node_alike : (t : Bool) (d : ℕ) (x : Item)
    → IsAlike (d, x) (d, if t then record { start = x.start; «end» = x.«end»; body = tight_body x.body } else x)
node_alike true d x = record { depth = refl; start = refl; «end» = refl; body = tight_told x.body }
node_alike false d x = alike_node (d, x)

alike_run : (depth : ℕ) (nodes : List (ℕ × Item)) → AreAlike nodes (tight_run depth nodes)
unfolding tight_run
alike_run depth [] = NoNodes
alike_run depth (n ∷ nodes) =
    cond_both (nat_lt depth n.0) (tightened (depth + 2) n ∷ tight_run depth nodes) (n ∷ nodes) (AreAlike (n ∷ nodes))
    (λ b. OneMore n (tightened (depth + 2) n) nodes (tight_run depth nodes) (node_alike (n.0 == depth + 2) n.0 n.1) (alike_run depth nodes))
    (λ b. alike_itself (n ∷ nodes))

alike_tight : (depth from : ℕ) (nodes : List (ℕ × Item)) → AreAlike nodes (tight_at depth from nodes)
unfolding tight_at
alike_tight depth zero nodes = alike_run depth nodes
alike_tight depth (suc from) [] = NoNodes
alike_tight depth (suc from) (n ∷ nodes) = OneMore _ _ _ _ (alike_node n) (alike_tight depth from nodes)

-- Trees of such nodes, in which the same nodes are open and current.
pub record LooksAlike (f g : Forest Item) : Type 0 where
  pub nodes : AreAlike f.nodes g.nodes
  pub spine : g.spine ≡ f.spine
  pub current : g.current ≡ f.current

pub like_itself : (f : Forest Item) → LooksAlike f f
like_itself f = record { nodes = alike_itself f.nodes; spine = refl; current = refl }

pub like_body : (f : Forest Item) (ix : TreeIndex) (a b : ItemBody) → body_at f.nodes ix.0 ≡ Some a → IsBodyLike a b → LooksAlike f (with_body_at f ix b)
like_body f ix a b is like = record { nodes = alike_body f.nodes ix.0 a b is like; spine = refl; current = refl }

-- the current node, a paragraph, becomes a possible title
pub current_like : (f : Forest Item) (o : Option TreeIndex) → option_and_then (λ ix. body_at f.nodes ix.0) o ≡ Some Paragraph
    → LooksAlike f (with_current f MaybeDefinitionListTitle o)
current_like f None is = like_itself f
current_like f (Some c) is = like_body f c Paragraph MaybeDefinitionListTitle is (refl, λ h. refl)

like_tight : (t : Bool) (f : Forest Item) (ix : TreeIndex) → LooksAlike f (if t then tight_items f ix else f)
like_tight true f ix = record { nodes = alike_tight (slice_index (depths f.nodes) ix.0) (ix.0 + 1) f.nodes; spine = refl; current = refl }
like_tight false f ix = like_itself f

pub like_popped : (r : PassState) (f : Forest Item) (ix : TreeIndex) (b : Option ItemBody) → LooksAlike f (popped_by r f ix b).tree
like_popped r f ix (Some (ListBody flags byte number)) = like_tight (bit_and flags.0 1 == 1) f ix
like_popped r f ix (Some (DefinitionList flags)) = like_tight (bit_and flags.0 1 == 1) f ix
like_popped r f ix b = like_itself f

-- a list becomes loose
loosened_by_like : (f : Forest Item) (ix : TreeIndex) (b : Option ItemBody) → body_at f.nodes ix.0 ≡ b → LooksAlike f (loosened_by f ix b)
loosened_by_like f ix (Some (ListBody flags byte number)) is =
    like_body f ix (ListBody flags byte number) (ListBody (list_flags false) byte number) is (refl, λ h. h)
loosened_by_like f ix (Some (DefinitionList flags)) is = like_body f ix (DefinitionList flags) (DefinitionList (list_flags false)) is (refl, λ h. h)
loosened_by_like f ix b is = like_itself f

pub like_loosened : (f : Forest Item) (ix : TreeIndex) → LooksAlike f (loosened_at f ix)
like_loosened f ix = loosened_by_like f ix (body_at f.nodes ix.0) refl

gap_like : (f : Forest Item) (s : List TreeIndex) → LooksAlike f (gap_tree f s)
gap_like f [] = like_itself f
gap_like f (ix ∷ []) = like_itself f
gap_like f (ix ∷ outer ∷ rest) = like_loosened f outer

like_if : (t : Bool) (r : PassState) (f : Forest Item) → LooksAlike r.tree f
    → LooksAlike r.tree (if t then record r { tree = f; blank = false } else r).tree
like_if true r f like = like
like_if false r f like = like_itself r.tree

pub like_noted : (r : PassState) → LooksAlike r.tree (gap_marked r).tree
like_noted r = like_if r.blank r (gap_tree r.tree r.tree.spine) (gap_like r.tree r.tree.spine)

top_like : (f : Forest Item) (s : List TreeIndex) → LooksAlike f (loosened_top f s)
top_like f [] = like_itself f
top_like f (ix ∷ rest) = like_loosened f ix

pub like_kept : (r : PassState) → LooksAlike r.tree (list_kept r).tree
like_kept r = like_if r.blank r (loosened_top r.tree r.tree.spine) (top_like r.tree r.tree.spine)

-- a tree looks alike after its innermost item or definition gets the indent 0
without_indent_like : (f : Forest Item) (s : List TreeIndex) (columns : ℕ) → (
    let top = option_and_then (λ (ix : TreeIndex). body_at f.nodes ix.0) (slice_get s 0) in
    (top ≡ Some (ListItemBody columns) → LooksAlike f (item_without_indent f s))
    × (top ≡ Some (DefinitionListDefinition columns) → LooksAlike f (definition_without_indent f s)))
without_indent_like f [] columns = (λ is. like_itself f, λ is. like_itself f)
without_indent_like f (ix ∷ rest) columns = (
  λ is. like_body f ix (ListItemBody columns) (ListItemBody 0) is (refl, λ h. h),
  λ is. like_body f ix (DefinitionListDefinition columns) (DefinitionListDefinition 0) is (refl, λ h. h),
)

blank_by_like : (r : PassState) (b : Option ItemBody) → top_body r.tree ≡ b → LooksAlike r.tree (blank_read_by r b).tree
blank_by_like r (Some (ListItemBody columns)) is =
    cond_both (is_some r.begin_list_item) (item_without_indent r.tree r.tree.spine) r.tree (LooksAlike r.tree)
    (λ b. (without_indent_like r.tree r.tree.spine columns).0 is) (λ b. like_itself r.tree)
blank_by_like r (Some (DefinitionListDefinition columns)) is =
    cond_both (is_some r.begin_list_item) (definition_without_indent r.tree r.tree.spine) r.tree (LooksAlike r.tree)
    (λ b. (without_indent_like r.tree r.tree.spine columns).1 is) (λ b. like_itself r.tree)
blank_by_like r b is = like_itself r.tree

pub like_blank : (r : PassState) → LooksAlike r.tree (blank_read r).tree
unfolding blank_read
like_blank r = blank_by_like r (top_body r.tree) refl

-- The last child, a paragraph, becomes the title of an open definition list.
abbrev pub titled : Forest Item → TreeIndex → Item → Forest Item
titled f c y = pushed (wrapped (with_body_at f c (DefinitionList (list_flags true))) c
    (record { start = y.start; «end» = y.«end»; body = DefinitionListTitle })) c

-- What holds of the tree in which a definition is opened: it looks like the tree before, or a paragraph became a title.
module _ (f : Forest Item) (P : Forest Item → Type 0) (like : (g : Forest Item) → LooksAlike f g → P g)
    (title : (c : TreeIndex) (y : Item) → f.current ≡ Some c → item_at f c ≡ Some y → y.body ≡ Paragraph → P (titled f c y)) where
  opened_by : (c : TreeIndex) (y : Item) (b : ItemBody) → f.current ≡ Some c → item_at f c ≡ Some y → y.body ≡ b
      → P (definitions_by f c y.start y.«end» b)
  opened_by c y MaybeDefinitionListTitle current here body =
      like (with_body_at f c DefinitionListTitle)
      (like_body f c MaybeDefinitionListTitle DefinitionListTitle (body_of f c y here ∙ ap (λ z. Some z) body) (refl, λ h. refl))
  opened_by c y Paragraph current here body = title c y current here body
  opened_by c y b current here body = like f (like_itself f)

  opened_at : (c : TreeIndex) (o : Option Item) → f.current ≡ Some c → item_at f c ≡ o → P (definitions_at f c o)
  opened_at c None current here = like f (like_itself f)
  opened_at c (Some y) current here = opened_by c y y.body current here refl

  opened_with : (o : Option TreeIndex) → f.current ≡ o → P (definitions_opened f o)
  opened_with None current = like f (like_itself f)
  opened_with (Some c) current = opened_at c (item_at f c) current refl

  pub opened_both : P (definitions_opened f f.current)
  opened_both = opened_with f.current refl
