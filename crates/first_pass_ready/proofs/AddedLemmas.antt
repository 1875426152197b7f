-- The last child of the innermost open node after a leaf block is added to it.
use Rattle.std.proofs.Common.{arith, ◌≡◌, ℕ, ◌+◌, true, false, List, ◌++◌, length, map, ap, ◌∙◌, if◌then◌else◌}
use Rattle.first_pass_grammar.proofs.Common.{option_map_or, Item, ItemBody, Forest, added, at_depth, body_at, is_paragraph_body, begins_paragraph, Document}
use Rattle.first_pass_grammar.proofs.Common.{Closed, OtherClosed, ParagraphAt, Frame, AreBelow, IsPlain, AreEachNode, ShowsNothing, SilentClosed, cond_both}
use Rattle.first_pass_completion.proofs.SilentTexts.{silent_added}
use Rattle.first_pass_lists.specs.Closing.{top_body, is_definition_list}
use Rattle.first_pass_ready.specs.State.{closed_elsewhere, closed_in, AreOpen}
use Rattle.first_pass_ready.proofs.ClosedIn.{closed_elsewhere_in, top_of, top_no_definitions}
use Rattle.first_pass_ready.proofs.OpenLemmas.{open_below, frame-append}
pub use Rattle.first_pass_ready.proofs.OpenLemmas.{body_after}

-- the last child after items are added, by the first of them
abbrev pub begun_at : ℕ → List (ℕ × Item) → Closed
begun_at place items = if begins_paragraph items then ParagraphAt place else OtherClosed

elsewhere_is : (place : ℕ) (b : ItemBody) → closed_elsewhere place b ≡ (if is_paragraph_body b then ParagraphAt place else OtherClosed)
elsewhere_is place b = grind arith

begun_is : (place k : ℕ) (items : List (ℕ × Item)) → option_map_or (closed_elsewhere place) (body_at (at_depth k items) 0) OtherClosed ≡ begun_at place items
begun_is place k items = grind (arith, elsewhere_is)

pub closed_added : (f : Forest Item) (items : List (ℕ × Item)) → is_definition_list (top_body (added f items)) ≡ false
    → closed_in (added f items) ≡ begun_at (length f.nodes) items
closed_added f items none =
    let k : ℕ = length f.spine + 1 in
    closed_elsewhere_in (added f items) none
    ∙ ap (λ z. option_map_or (closed_elsewhere (length f.nodes)) z OtherClosed) (body_after f.nodes (at_depth k items))
    ∙ begun_is (length f.nodes) k items

-- a paragraph without any part of a table; or another block
pub silent_begun : (nodes : List (ℕ × Item)) (k : ℕ) (items : List (ℕ × Item)) → (begins_paragraph items ≡ true → AreEachNode ShowsNothing items)
    → SilentClosed (nodes ++ at_depth k items) (begun_at (length nodes) items)
silent_begun nodes k items shows =
    cond_both (begins_paragraph items) (ParagraphAt (length nodes)) OtherClosed (SilentClosed (nodes ++ at_depth k items))
    (λ is. silent_added nodes k items is (shows is)) (λ none. tt)

-- open nodes stay open when items are added
pub open_added : (d : Document) (f : Forest Item) (items : List (ℕ × Item)) (frames : List Frame) → AreBelow (length f.nodes) (map (λ ix. ix.0) f.spine)
    → AreOpen d.options f.nodes f.spine frames → AreOpen d.options (added f items).nodes f.spine frames
open_added d f items frames below o =
    let more : List (ℕ × Item) = at_depth (length f.spine + 1) items in
    open_below d.options f.nodes (f.nodes ++ more) (length f.nodes) f.spine frames (λ i h. frame-append d.options f.nodes more i h) below o

pub no_list_added : (d : Document) (f : Forest Item) (items : List (ℕ × Item)) (frames : List Frame) → IsPlain frames
    → AreOpen d.options (added f items).nodes f.spine frames → is_definition_list (top_body (added f items)) ≡ false
no_list_added d f items frames plain o = grind (arith, top_no_definitions, top_of)
