-- The open containers of a tree.
use Rattle.std.specs.Prelude.{ℕ, ◌-◌, ◌==◌, Bool, false, List, [], ◌∷◌, length, take, drop, reverse, slice_get, ◌||◌, Option, Some, None}
use Rattle.std.specs.Option.{option_and_then}
use Rattle.first_pass_items.specs.declared.item.Item.{Item}
use Rattle.first_pass_items.specs.declared.item.ItemBody.{ItemBody}
use Rattle.first_pass_items.specs.declared.item.ItemBody.TheVariants.{BlockQuote as BlockQuoteBody, ListItem as ListItemBody}
use Rattle.first_pass_items.specs.declared.item.ItemBody.TheVariants.{FootnoteDefinition as FootnoteDefinitionBody, DefinitionListDefinition}
use Rattle.first_pass_tree.specs.declared.tree_index.TreeIndex.{TreeIndex}
use Rattle.first_pass_tree.specs.Forest.{Forest, body_at}
use Rattle.first_pass_lines.specs.Rest.{Rest}
use Rattle.first_pass_grammar.specs.declared.kind.Container.{Container}
use Rattle.first_pass_grammar.specs.declared.kind.Container.TheVariants.{BlockQuote, ListItem, FootnoteDefinition, Definition}
use Rattle.first_pass_items.specs.declared.option_set.Options.{Options}
use Rattle.first_pass_grammar.specs.Containers.{Context, context, footnote_columns, prefix, is_quote, is_definition}
use Rattle.first_pass_grammar.specs.Kinds.{Continued}

-- the container that a node with this body is under these options, if it is one
abbrev pub container_of : Options → ItemBody → Option Container
container_of options (BlockQuoteBody kind) = Some (BlockQuote kind)
container_of options (ListItemBody columns) = Some (ListItem columns)
container_of options (FootnoteDefinitionBody label) = Some (FootnoteDefinition (footnote_columns options))
container_of options (DefinitionListDefinition columns) = Some (Definition columns)
container_of options _ = None

-- the same for the node at an index
abbrev pub container_at : Options → List (ℕ × Item) → TreeIndex → Option Container
container_at options ns ix = option_and_then (container_of options) (body_at ns ix.0)

-- the rest of a line after the prefix of a container; if none is given, the whole rest
abbrev pub prefix_of : Option Container → Rest → Option Rest
prefix_of None r = Some r
prefix_of (Some c) r = prefix c r

-- the columns that are the prefix of a container; `None` for a block quote, and if none is given
abbrev pub columns_needed : Option Container → Option ℕ
columns_needed None = None
columns_needed (Some (BlockQuote kind)) = None
columns_needed (Some (ListItem n)) = Some n
columns_needed (Some (FootnoteDefinition n)) = Some n
columns_needed (Some (Definition n)) = Some n

-- the path with this container as its innermost one, if it is given
abbrev pub with_container : Option Container → List Container → List Container
with_container None path = path
with_container (Some c) path = c ∷ path

-- the containers among these open nodes, the innermost first
abbrev pub path_in : Options → List (ℕ × Item) → List TreeIndex → List Container
path_in options ns [] = []
path_in options ns (ix ∷ spine) = with_container (container_at options ns ix) (path_in options ns spine)

-- all containers among the open nodes of a tree, the innermost first
abbrev pub path_of : Options → Forest Item → List Container
path_of options f = path_in options f.nodes f.spine

-- the context of a line: these options, and the open containers of this tree
abbrev pub context_of : Options → Forest Item → Context
context_of options f = context options (path_of options f)

-- the outermost m of these open nodes, the innermost first
abbrev pub outer : ℕ → List TreeIndex → List TreeIndex
outer m spine = drop (length spine - m) spine

-- all of these open nodes except the outermost m, the innermost first (this project)
abbrev pub inner : ℕ → List TreeIndex → List TreeIndex
inner m spine = take (length spine - m) spine

-- an open node, given by its container, is a block quote (CommonMark 5.1)
abbrev pub is_quote_node : Option Container → Bool
is_quote_node None = false
is_quote_node (Some c) = is_quote c

-- one of these containers is a block quote (CommonMark 5.1)
abbrev pub has_quote : List Container → Bool
has_quote [] = false
has_quote (c ∷ path) = is_quote c || has_quote path

-- a block quote is open inside the outermost m open nodes (CommonMark 5.1)
abbrev pub has_quote_after : Options → Forest Item → ℕ → Bool
has_quote_after options f m = has_quote (path_in options f.nodes (inner m f.spine))

-- an open node, given by its container, is a definition of a definition list (this project)
abbrev pub is_definition_node : Option Container → Bool
is_definition_node None = false
is_definition_node (Some c) = is_definition c

-- the open node directly inside the outermost n open nodes is a definition of a definition list (this project)
abbrev pub definition_at_depth : Options → Forest Item → ℕ → Bool
definition_at_depth options f n = is_definition_node (option_and_then (container_at options f.nodes) (slice_get (reverse f.spine) n))

-- how a line continues the open containers if it continues only the outermost n open nodes (this project)
abbrev pub continued_to : Options → Forest Item → ℕ → Continued
continued_to options f n = record { whole = n == length f.spine; at_definition = definition_at_depth options f n }
