-- The outline of nodes, built node by node.
use Rattle.std.proofs.Common.{◌≡◌, ℕ, ◌+◌, ◌<◌, List, [], ◌∷◌, ◌++◌, Some, None, length, map, take, get_or, sym, ap, ◌∙◌, append-nil}
use Rattle.first_pass_grammar.proofs.Common.{take_more, map-append, Item, Names, read, read_nodes}
use Rattle.std.proofs.lemmas.List.Elements.{filter_map-append}
use Rattle.std.specs.List.{cons_option}
use Rattle.first_pass_outline.specs.declared.outline.OutlineEntry.{OutlineEntry}
use Rattle.first_pass_outline.specs.Outline.{Entry, entry_of, outline_of}
use Rattle.first_pass_outline.specs.Entries.{entry_in}

-- the outline of nodes under names
abbrev pub entries_of : Names → List (ℕ × Item) → List Entry
entries_of names nodes = outline_of (read_nodes names nodes)

-- the outline of nodes followed by more nodes
pub entries_of-append : (names : Names) (nodes more : List (ℕ × Item)) → entries_of names (nodes ++ more) ≡ entries_of names nodes ++ entries_of names more
entries_of-append names nodes more =
    ap outline_of (map-append (λ (n : ℕ × Item). (n.0, read names n.1)) nodes more)
    ∙ filter_map-append (λ node. entry_of node.1) (read_nodes names nodes) (read_nodes names more)

-- the outline with one more node
entries_more : (names : Names) (nodes : List (ℕ × Item)) (i : ℕ) (d : ℕ × Item) → i < length nodes
    → entries_of names (take (i + 1) nodes) ≡ entries_of names (take i nodes) ++ cons_option (entry_of (read names (get_or nodes i d).1)) []
entries_more names nodes i d within =
    ap (entries_of names) (take_more nodes i d within) ∙ entries_of-append names (take i nodes) (get_or nodes i d ∷ [])

-- the entry of a heading is added
pub heading_told : (names : Names) (nodes : List (ℕ × Item)) (i : ℕ) (d : ℕ × Item) (entries : List OutlineEntry) (entry : OutlineEntry) → i < length nodes
    → map entry_in entries ≡ entries_of names (take i nodes) → Some (entry_in entry) ≡ entry_of (read names (get_or nodes i d).1)
    → map entry_in (entries ++ entry ∷ []) ≡ entries_of names (take (i + 1) nodes)
heading_told names nodes i d entries entry within so_far is =
    map-append entry_in entries (entry ∷ []) ∙ ap (λ es. es ++ entry_in entry ∷ []) so_far
    ∙ ap (λ o. entries_of names (take i nodes) ++ cons_option o []) is ∙ sym (entries_more names nodes i d within)

-- no entry is added for any other node
pub other_passed : (names : Names) (nodes : List (ℕ × Item)) (i : ℕ) (d : ℕ × Item) (entries : List OutlineEntry) → i < length nodes
    → map entry_in entries ≡ entries_of names (take i nodes) → None ≡ entry_of (read names (get_or nodes i d).1)
    → map entry_in entries ≡ entries_of names (take (i + 1) nodes)
other_passed names nodes i d entries within so_far is =
    so_far ∙ sym (append-nil (entries_of names (take i nodes))) ∙ ap (λ o. entries_of names (take i nodes) ++ cons_option o []) is
    ∙ sym (entries_more names nodes i d within)
