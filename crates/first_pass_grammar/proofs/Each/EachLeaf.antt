-- A property of the bodies in leaf blocks holds for the items of each leaf block of a derived tree.
use Rattle.std.proofs.Common.{◌≡◌, ℕ, ◌||◌, Bool, true, List, ◌∷◌, refl, sym, subst, arith, []}
use Rattle.first_pass_grammar.proofs.Common.{or_left, or_right, Item, ItemBody, Table, TaskListMarker, lines_at, nothing, is_row, is_cell, Tables, Derives}
use Rattle.first_pass_grammar.proofs.Common.{Document, Line, level, Lines, AreEachNode}
use Rattle.first_pass_grammar.proofs.Each.EachBlock.{is_first, is_later, HoldsOfBlocks, HoldsOfLeaves, table_nodes, openings}
use Rattle.first_pass_grammar.proofs.Each.EachCell.{deeper_nodes}
use Rattle.first_pass_grammar.proofs.Each.EachOpening.{HoldsOfEachLeaf, AnyHead, each_opened}
use Rattle.first_pass_grammar.proofs.Sequences.PlacesKept.{Anywhere, anywhere_kept, each_anywhere}

-- the first body of a leaf block
abbrev pub begins_block : ItemBody → Bool
begins_block (Table index) = true
begins_block body = is_first body

-- a later body of a leaf block
abbrev pub is_inner : ItemBody → Bool
is_inner body = is_later body || (is_row body || is_cell body)

first_begins : (body : ItemBody) → is_first body ≡ true → begins_block body ≡ true
first_begins body h = grind arith

-- there are no items; or the first is at depth 0 and has a body with one property, and each later one has the other
-- property
abbrev pub IsBlockOf : (ItemBody → Type 0) → (ItemBody → Type 0) → List (ℕ × Item) → Type 0
IsBlockOf Own Inner [] = Unit {0}
IsBlockOf Own Inner (x ∷ items) = (x.0 ≡ 0) × Own x.1.body × AreEachNode Inner items

module _ (Own Inner : ItemBody → Type 0) (d : Document) (own : (body : ItemBody) → begins_block body ≡ true → Own body)
    (inner : (body : ItemBody) → is_inner body ≡ true → Inner body) where
  abbrev IsBlock : List (ℕ × Item) → Type 0
  IsBlock items = IsBlockOf Own Inner items

  blocks : HoldsOfBlocks d Inner IsBlock
  blocks = grind (arith, or_left, first_begins, deeper_nodes)

  leaves : HoldsOfLeaves d Anywhere Inner IsBlock
  leaves = record {
    blocks = blocks;
    kept = anywhere_kept;
    table = λ path p alignments lines t i headed h.
        let cells : (body : ItemBody) → (is_row body || is_cell body) ≡ true → Inner body =
        λ body is. inner body (or_right (is_later body) (is_row body || is_cell body) is) in
        subst IsBlock (sym h.items_are)
        (refl, own (Table h.index) refl, table_nodes d Inner IsBlock blocks cells path p alignments lines t h);
  }

  abbrev IsEither : ItemBody → Type 0
  IsEither body = Own body × Inner body

  -- each leaf block of a derived tree has the property
  pub derived_leaves : (forest : List (ℕ × Item)) (tables : Tables) (h : Derives d forest tables) → HoldsOfEachLeaf IsBlock h.skeleton
  derived_leaves forest tables h =
      let task : (checked : Bool) → IsEither (TaskListMarker checked) = λ checked. (own (TaskListMarker checked) refl, inner (TaskListMarker checked) refl) in
      let all = openings d Anywhere Inner IsBlock leaves IsEither task (λ body h. h.1) (λ marker h. (refl, h.0, tt)) in
      (each_opened d Anywhere IsEither IsBlock AnyHead all h.skeleton (level [] nothing) Line (lines_at 0 d.text) (Lines []) tt
      (each_anywhere (lines_at 0 d.text)) h.sequence).0
