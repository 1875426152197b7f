-- The open nodes of a pass can still be closed in order after a call.
use Rattle.std.proofs.Common.{◌≡◌, ℕ, ◌≤◌, Bool, true, false, List, [], ◌∷◌, ◌++◌, length, Option, Some, None, IsCharBoundary, inl, inr, refl, sym, ap, subst}
use Rattle.std.proofs.Common.{◌∙◌, true≢false}
use Rattle.first_pass_grammar.proofs.Common.{cond_both, false_from_ne_true, Item, TreeIndex, Forest, appended, added, modify, body_at, with_tokens, with_end}
use Rattle.first_pass_grammar.proofs.Common.{Options}
use Rattle.first_pass.proofs.Common.{Table, MayAddAt, ordered_at_later, is_item, top_of, AreNested, CanClose, IsOrderedFrom, AreClassed, classed_ended}
use Rattle.first_pass.proofs.Common.{nested_classed, nested_front, top_front, added_outside, tree_closes}
use Rattle.first_pass_blocks.proofs.Common.{with_token, IsOrderedAt, IsReadFrom, PassState, is_list, top_body}
use Rattle.first_pass_items.specs.declared.item.AlignmentIndex.{AlignmentIndex}

-- only items are open directly in lists, and the innermost open node is no list
abbrev pub IsOutside : Forest Item → Type 0
IsOutside f = AreNested f.nodes f.spine × (is_list (top_body f) ≡ false)

pub may_add_by : (text : List ℕ) (r : PassState) (f : Forest Item) (at : ℕ) → r.tree ≡ f → IsOutside f → IsOrderedAt text r at → MayAddAt text r at
may_add_by text r f at is h o = record {
  read = (o, subst (λ (g : Forest Item). CanClose text g at) (sym is) (tree_closes text f at h.0 h.1));
  outside = ap (λ (g : Forest Item). is_list (top_body g)) is ∙ h.1;
}

pub outside_of : {text : List ℕ} {r : PassState} {at : ℕ} → MayAddAt text r at → IsOutside r.tree
outside_of h = (h.read.1.nested, h.outside)

-- up to a later offset
pub may_add_later : (text : List ℕ) (r : PassState) (at b : ℕ) → at ≤ b → b ≤ length text → MayAddAt text r at → MayAddAt text r b
may_add_later text r at b later within h = may_add_by text r r.tree b refl (outside_of h) (ordered_at_later text r at b later within h.read.0)

-- a block is added
pub may_add_added : (text : List ℕ) (old new : PassState) (at next : ℕ) (items : List (ℕ × Item)) → new.tree ≡ added old.tree items
    → MayAddAt text old at → IsOrderedAt text new next → MayAddAt text new next
may_add_added text old new at next items is h o =
    may_add_by text new (added old.tree items) next is (added_outside old.tree items h.read.1.nested h.outside) o

-- tokens are added
pub top_kept : (old new : List (ℕ × Item)) (spine : List TreeIndex) → AreClassed old new → is_list (top_of new spine) ≡ is_list (top_of old spine)
top_kept old new [] c = refl
top_kept old new (ix ∷ spine) c = ap (λ t. t.0) (c.same ix.0)

ended_outside : (f : Forest Item) (e : ℕ) (o : Option TreeIndex) → IsOutside f → IsOutside (with_end f e o)
ended_outside f e None h = h
ended_outside f e (Some c) h =
    let ended = classed_ended f.nodes c.0 e in
    (nested_classed f.nodes _ f.spine ended h.0, top_kept f.nodes _ f.spine ended ∙ h.1)

pub appended_outside : (f : Forest Item) (x : Item) → IsOutside f → IsOutside (appended f x)
appended_outside f x h = (nested_front f.nodes _ f.spine h.0, ap is_list (top_front f.nodes _ f.spine h.0) ∙ h.1)

pub tokens_outside : (f : Forest Item) (tokens : List Item) → IsOutside f → IsOutside (with_tokens f tokens)
tokens_outside f [] h = h
tokens_outside f (x ∷ xs) h =
    tokens_outside (with_token f x) xs
    (cond_both _ (with_end f x.«end» f.current) (appended f x) IsOutside (λ b. ended_outside f x.«end» f.current h) (λ b. appended_outside f x h))

pub may_add_tokens : (text : List ℕ) (old new : PassState) (at next : ℕ) (tokens : List Item) → new.tree ≡ with_tokens old.tree tokens
    → MayAddAt text old at → IsOrderedAt text new next → MayAddAt text new next
may_add_tokens text old new at next tokens is h o =
    may_add_by text new (with_tokens old.tree tokens) next is (tokens_outside old.tree tokens (outside_of h)) o

-- no item is empty if the innermost open node is no item
none_by : (o : Option ℕ) (b : Bool) (C : ℕ → Type 0) → ((e : ℕ) → o ≡ Some e → (b ≡ true) × C e) → b ≡ false → o ≡ None
none_by None b C h other = refl
none_by (Some e) b C h other = absurd (true≢false (sym (h e refl).0 ∙ other))

pub no_empty_item : (text : List ℕ) (r : PassState) (at : ℕ) → IsOrderedAt text r at → is_item (top_body r.tree) ≡ false → r.begin_list_item ≡ None
no_empty_item text r at o other = none_by r.begin_list_item (is_item (top_body r.tree)) (IsCharBoundary text) o.innermost other

-- a table is closed, after its rows are added
pub table_closed : (nodes more : List (ℕ × Item)) (ix : TreeIndex) (rest : List TreeIndex) (e : ℕ) (index : AlignmentIndex)
    → body_at nodes ix.0 ≡ Some (Table index) → AreNested nodes (ix ∷ rest)
    → AreNested (modify (nodes ++ more) ix.0 (λ x. record x { «end» = e })) rest
    × (is_list (top_of (modify (nodes ++ more) ix.0 (λ x. record x { «end» = e })) rest) ≡ false)
table_closed nodes more ix rest e index body h =
    let ended = classed_ended (nodes ++ more) ix.0 e in
    let table : is_item (body_at nodes ix.0) ≡ false = ap is_item body in
    let around : is_list (top_of nodes rest) ≡ false = false_from_ne_true _ (λ list. true≢false (sym (h.1 list) ∙ table)) in (
      nested_classed (nodes ++ more) _ rest ended (nested_front nodes more rest h.2),
      top_kept (nodes ++ more) _ rest ended ∙ ap is_list (top_front nodes more rest h.2) ∙ around,
    )

-- what holds before an HTML block's blank line, too, if no counting blank line is before it
pub read_from : (options : Options) (text : List ℕ) (r : PassState) (at : ℕ) → IsOutside r.tree → r.blank ≡ false → IsOrderedFrom options text r at
    → IsReadFrom options text r at × (is_list (top_body r.tree) ≡ false)
read_from options text r at h plain (inl o) = (inl (o, tree_closes text r.tree at h.0 h.1), h.1)
read_from options text r at h plain (inr b) = (inr (b, h.0, h.1, λ inside. plain), h.1)
