-- When one more blank line leaves the state unchanged. The lemmas on this assume that a counting blank line is
-- directly before.
use Rattle.std.proofs.Common.{◌≡◌, ℕ, true, false, List, [], ◌∷◌, slice_get, Option, Some, None, is_some, refl, sym, ap, ◌∙◌, if◌then◌else◌, option_map}
use Rattle.std.proofs.Common.{option_and_then}
use Rattle.first_pass_grammar.proofs.Common.{cond_both, Item, ItemBody, DefinitionListDefinition, TreeIndex, Forest, body_at, body_of}
use Rattle.first_pass_items.specs.declared.item.ItemBody.TheVariants.{BlockQuote as BlockQuoteBody, ListItem as ListItemBody}
use Rattle.first_pass_tree.proofs.TightLemmas.{tight_same_body}
use Rattle.first_pass_lists.specs.Closing.{top_body, item_without_indent, definition_without_indent, blank_read_by, blank_read}
use Rattle.first_pass_lists.specs.declared.state.PassState.{PassState}

same_blank : (r : PassState) → r.blank ≡ true → record r { blank = true } ≡ r
same_blank r h = ap (λ t. record r { blank = t }) (sym h)

-- the state is unchanged if the change for an empty item leaves the tree unchanged
same_if : (r : PassState) (f : Forest Item) → (is_some r.begin_list_item ≡ true → f ≡ r.tree) → r.blank ≡ true
    → record r { tree = if is_some r.begin_list_item then f else r.tree; blank = true } ≡ r
same_if r f same h =
    ap (λ (g : Forest Item). record r { tree = g; blank = true })
    (cond_both (is_some r.begin_list_item) f r.tree (λ g. g ≡ r.tree) same (λ _. refl)) ∙ same_blank r h

none_by : (r : PassState) (b : Option ItemBody) → is_some r.begin_list_item ≡ false → r.blank ≡ true → blank_read_by r b ≡ r
none_by r (Some (BlockQuoteBody kind)) none h = refl
none_by r (Some (ListItemBody columns)) none h = same_if r (item_without_indent r.tree r.tree.spine) (λ some. cc) h
none_by r (Some (DefinitionListDefinition columns)) none h = same_if r (definition_without_indent r.tree r.tree.spine) (λ some. cc) h
none_by r b none h = same_blank r h

-- it is unchanged if it records no empty item
pub kept_none : (r : PassState) → is_some r.begin_list_item ≡ false → r.blank ≡ true → blank_read r ≡ r
unfolding blank_read
kept_none r none h = none_by r (top_body r.tree) none h

-- it is unchanged if only the root is open
pub kept_closed : (r : PassState) → slice_get r.tree.spine 0 ≡ None → r.blank ≡ true → blank_read r ≡ r
unfolding blank_read
kept_closed r none h = ap (λ o. blank_read_by r (option_and_then (λ (ix : TreeIndex). body_at r.tree.nodes ix.0) o)) none ∙ same_blank r h

same_item : (f : Forest Item) (spine : List TreeIndex) → option_and_then (λ (ix : TreeIndex). body_at f.nodes ix.0) (slice_get spine 0) ≡ Some (ListItemBody 0)
    → item_without_indent f spine ≡ f
same_item f [] e = refl
same_item f (ix ∷ spine) e = ap (λ ns. record f { nodes = ns }) (tight_same_body f.nodes ix.0 (ListItemBody 0) e)

same_definition : (f : Forest Item) (spine : List TreeIndex)
    → option_and_then (λ (ix : TreeIndex). body_at f.nodes ix.0) (slice_get spine 0) ≡ Some (DefinitionListDefinition 0) → definition_without_indent f spine ≡ f
same_definition f [] e = refl
same_definition f (ix ∷ spine) e = ap (λ ns. record f { nodes = ns }) (tight_same_body f.nodes ix.0 (DefinitionListDefinition 0) e)

-- it is unchanged if the innermost open node is an item or a definition that takes only blank lines
pub kept_item : (r : PassState) → top_body r.tree ≡ Some (ListItemBody 0) → r.blank ≡ true → blank_read r ≡ r
unfolding blank_read
kept_item r e h = ap (blank_read_by r) e ∙ same_if r (item_without_indent r.tree r.tree.spine) (λ _. same_item r.tree r.tree.spine e) h

pub kept_definition : (r : PassState) → top_body r.tree ≡ Some (DefinitionListDefinition 0) → r.blank ≡ true → blank_read r ≡ r
unfolding blank_read
kept_definition r e h =
    ap (blank_read_by r) e ∙ same_if r (definition_without_indent r.tree r.tree.spine) (λ _. same_definition r.tree r.tree.spine e) h

other_by : (r : PassState) (b : ItemBody) → ((n : ℕ) → b ≡ ListItemBody n → ⊥) → ((n : ℕ) → b ≡ DefinitionListDefinition n → ⊥) → r.blank ≡ true
    → blank_read_by r (Some b) ≡ r
other_by r (BlockQuoteBody kind) item definition h = refl
other_by r (ListItemBody columns) item definition h = absurd (item columns refl)
other_by r (DefinitionListDefinition columns) item definition h = absurd (definition columns refl)
other_by r b item definition h = same_blank r h

-- it is unchanged if the innermost open node is neither an item nor a definition
pub kept_other : (r : PassState) (b : ItemBody) → top_body r.tree ≡ Some b → ((n : ℕ) → b ≡ ListItemBody n → ⊥) → ((n : ℕ) → b ≡ DefinitionListDefinition n → ⊥)
    → r.blank ≡ true → blank_read r ≡ r
unfolding blank_read
kept_other r b e item definition h = ap (blank_read_by r) e ∙ other_by r b item definition h

-- the body of the innermost open node
pub top_is : (f : Forest Item) (ix : TreeIndex) (item : Item) → slice_get f.spine 0 ≡ Some ix
    → option_map (λ (n : ℕ × Item). n.1) (slice_get f.nodes ix.0) ≡ Some item → top_body f ≡ Some item.body
top_is f ix item is e =
    ap (option_and_then (λ (i : TreeIndex). body_at f.nodes i.0)) is ∙ body_of f ix item e
