-- Items and definitions, which are alike except for the lists that they are in.
use Rattle.std.proofs.Common.{arith, ◌≡◌, ℕ, true, false, List, ◌∷◌, Option, Some, None, refl, sym, ap, ◌∙◌, option_and_then}
use Rattle.first_pass_grammar.proofs.Common.{Item, ItemBody, DefinitionListDefinition, Options, TreeIndex, Forest, with_body_at, Rest, prefix, after}
use Rattle.first_pass_grammar.proofs.Common.{is_quote, InContainer}
use Rattle.first_pass_items.specs.declared.item.ItemBody.TheVariants.{ListItem as ListItemBody}
use Rattle.first_pass_grammar.specs.declared.kind.Container.{Container}
use Rattle.first_pass_grammar.specs.declared.kind.Container.TheVariants.{ListItem, Definition}
use Rattle.first_pass_open.specs.Path.{container_of}
use Rattle.first_pass_grammar.proofs.Sequences.FootnoteHeads.{after_by}
use Rattle.first_pass_lists.specs.Closing.{is_item, is_list, item_without_indent, definition_without_indent}
use Rattle.first_pass_ready.specs.State.{frame_of, item_columns, body_without_indent}

-- an item of the same kind with a number of columns, as a node and as a container
abbrev pub item_body : ItemBody → ℕ → ItemBody
item_body (DefinitionListDefinition columns) n = DefinitionListDefinition n
item_body _ n = ListItemBody n

abbrev pub item_container : ItemBody → ℕ → Container
item_container (DefinitionListDefinition columns) n = Definition n
item_container _ n = ListItem n

-- the columns of a node determine its body
pub columns_are : (o : Option ItemBody) (n : ℕ) → option_and_then item_columns o ≡ Some n → (b : ItemBody) × (o ≡ Some b) × (item_columns b ≡ Some n)
columns_are None n h = cc
columns_are (Some b) n h = (b, refl, h)

pub item_is : (b : ItemBody) (n : ℕ) → item_columns b ≡ Some n → item_body b n ≡ b
item_is b n h = grind (arith, h)

pub item_own : (o : Option ItemBody) (n : ℕ) → option_and_then item_columns o ≡ Some n → (b : ItemBody) × (o ≡ Some (item_body b n))
item_own o n h = let b = columns_are o n h in (b.0, b.1 ∙ ap (λ z. Some z) (sym (item_is b.0 n b.2)))

pub item_columns_of : (b : ItemBody) (n : ℕ) → item_columns (item_body b n) ≡ Some n
item_columns_of b n = grind arith

pub item_frame : (options : Options) (b : ItemBody) (n : ℕ) → frame_of options (item_body b n) ≡ Some (InContainer (item_container b n))
item_frame options b n = grind arith

pub item_path : (options : Options) (b : ItemBody) (n : ℕ) → container_of options (item_body b n) ≡ Some (item_container b n)
item_path options b n = grind arith

-- it is an item, no list and no block quote
pub item_kind : (b : ItemBody) (n : ℕ)
    → (is_item (Some (item_body b n)) ≡ true) × (is_list (Some (item_body b n)) ≡ false) × (is_quote (item_container b n) ≡ false)
item_kind (DefinitionListDefinition columns) n = (refl, refl, refl)
item_kind b n = (refl, refl, refl)

-- one that takes only blank lines
pub without_indent_is : (f : Forest Item) (ix : TreeIndex) (rest : List TreeIndex) (b : ItemBody) (n : ℕ) → f.spine ≡ ix ∷ rest
    → body_without_indent f (Some (item_body b n)) ≡ with_body_at f ix (item_body b 0)
without_indent_is f ix rest (DefinitionListDefinition columns) n spine = ap (definition_without_indent f) spine
without_indent_is f ix rest b n spine = ap (item_without_indent f) spine

-- every line continues an item that takes only blank lines
pub after_zero : (b : ItemBody) (path : List Container) (r : Rest) → after (item_container b 0 ∷ path) r ≡ after path r
unfolding after prefix
after_zero (DefinitionListDefinition columns) path r = after_by (after path r)
after_zero b path r = after_by (after path r)
