-- In a derived tree no heading is inside a heading.
use Rattle.std.proofs.Common.{◌≡◌, ◌⊎◌, inl, inr, ℕ, suc, ◌+◌, ◌<◌, ◌≤◌, Bool, true, false, List, [], ◌∷◌, ◌++◌, length, map, None, refl, sym, ap, subst}
use Rattle.std.proofs.Common.{◌∙◌, if◌then◌else◌, arith, append_assoc, append-nil, true≢false}
use Rattle.first_pass_grammar.proofs.Common.{Item, ItemBody, Paragraph, Heading, at_depth, tight_body, tightened, nothing, as_title, row_items, tight_in}
use Rattle.first_pass_grammar.proofs.Common.{items_of, Tables, Derives, Document, What, ALeaf, ATitle, Rows, End, OneOf, is_loose, rows_of, AreEachNode}
use Rattle.first_pass_grammar.proofs.Each.EachLeaf.{IsBlockOf, is_inner}
use Rattle.first_pass_grammar.proofs.Each.EachRow.{HoldsOfRow, HoldsOfEachRow, derived_rows, tight_nodes}
use Rattle.first_pass_grammar.proofs.Each.EachCell.{deeper_nodes}
use Rattle.first_pass_outline.specs.Outline.{heading_level_of}

abbrev pub IsNoHeading : ItemBody → Type 0
IsNoHeading body = heading_level_of body ≡ None

-- the first of a block's items is at the block's own depth, and no later one is a heading
abbrev HasOneHeading : List (ℕ × Item) → Type 0
HasOneHeading items = IsBlockOf (λ body. Unit {0}) IsNoHeading items

-- nothing in a leaf block is a heading
inner_body : (body : ItemBody) → is_inner body ≡ true → IsNoHeading body
inner_body (Heading level index) h = absurd (true≢false (sym h))
inner_body body h = refl

-- none of the leading nodes that are deeper than this depth is a heading
abbrev pub NoneBelow : ℕ → List (ℕ × Item) → Type 0
NoneBelow depth [] = Unit {0}
NoneBelow depth (n ∷ nodes) = depth < n.0 → IsNoHeading n.1.body × NoneBelow depth nodes

-- no heading is inside a heading
abbrev pub NoneInside : List (ℕ × Item) → Type 0
NoneInside [] = Unit {0}
NoneInside (n ∷ nodes) = (IsNoHeading n.1.body ⊎ NoneBelow n.0 nodes) × NoneInside nodes

-- nodes of which the first is no deeper than this depth
abbrev BeginsBy : ℕ → List (ℕ × Item) → Type 0
BeginsBy depth [] = Unit {0}
BeginsBy depth (n ∷ nodes) = n.0 ≤ depth

begins_deeper : (a b : ℕ) (nodes : List (ℕ × Item)) → a ≤ b → BeginsBy a nodes → BeginsBy b nodes
begins_deeper a b [] le h = tt
begins_deeper a b (n ∷ nodes) le h = omega arith

none_begins : (depth : ℕ) (nodes : List (ℕ × Item)) → BeginsBy depth nodes → NoneBelow depth nodes
none_begins depth [] h = tt
none_begins depth (n ∷ nodes) h = λ deeper. absurd (omega arith)

none_both : (depth : ℕ) (nodes more : List (ℕ × Item)) → AreEachNode IsNoHeading nodes → NoneBelow depth more → NoneBelow depth (nodes ++ more)
none_both depth [] more h k = k
none_both depth (n ∷ nodes) more h k = λ deeper. (h.0, none_both depth nodes more h.1 k)

inside_both : (nodes more : List (ℕ × Item)) → AreEachNode IsNoHeading nodes → NoneInside more → NoneInside (nodes ++ more)
inside_both [] more h k = k
inside_both (n ∷ nodes) more h k = (inl h.0, inside_both nodes more h.1 k)

-- a block at a depth, before nodes of which the first is no deeper
block_inside : (depth : ℕ) (n : ℕ × Item) (kids more : List (ℕ × Item)) → depth ≤ n.0 → AreEachNode IsNoHeading kids → BeginsBy depth more
    → NoneInside more → NoneInside ((n ∷ kids) ++ more)
block_inside depth n kids more deep h by k =
    (inr (none_both n.0 kids more h (none_begins n.0 more (begins_deeper depth n.0 more deep by))), inside_both kids more h k)

tight_no_heading : (b : ItemBody) → IsNoHeading b → IsNoHeading (tight_body b)
tight_no_heading Paragraph h = refl
tight_no_heading b h = h

-- the first node is no deeper than this depth, and no heading is inside a heading
abbrev StandBy : ℕ → List (ℕ × Item) → Type 0
StandBy depth nodes = BeginsBy depth nodes × NoneInside nodes

leaf_stands : (depth : ℕ) (tight : Bool) (items more : List (ℕ × Item)) → HasOneHeading items → StandBy depth more
    → StandBy depth ((if tight then map (tightened depth) (at_depth depth items) else at_depth depth items) ++ more)
leaf_stands depth true [] more h k = k
leaf_stands depth false [] more h k = k
leaf_stands depth true (x ∷ items) more h k =
    let kids = tight_nodes IsNoHeading tight_no_heading depth (at_depth depth items) (deeper_nodes IsNoHeading depth items h.2) in
    let inside = block_inside depth (tightened depth (depth + x.0, x.1)) (map (tightened depth) (at_depth depth items)) more (omega arith) kids k.0 k.1 in
    (omega (arith, h.0), inside)
leaf_stands depth false (x ∷ items) more h k =
    let inside = block_inside depth (depth + x.0, x.1) (at_depth depth items) more (omega arith) (deeper_nodes IsNoHeading depth items h.2) k.0 k.1 in
    (omega (arith, h.0), inside)

title_stands : (depth : ℕ) (items more : List (ℕ × Item)) → HasOneHeading items → StandBy depth more
    → StandBy depth (at_depth depth (as_title items) ++ more)
title_stands depth [] more h k = k
title_stands depth (x ∷ items) more h k =
    (omega (arith, h.0), (inl refl, inside_both (at_depth depth items) more (deeper_nodes IsNoHeading depth items h.2) k.1))

-- the items of a row, before those of the rows in it
row_stands : (depth : ℕ) (tight loose t : Bool) (start : ℕ) (w : What) (inner : Rows) (more : List (ℕ × Item)) → HoldsOfRow HasOneHeading w inner
    → StandBy depth more → NoneInside (items_of (suc depth) t inner ++ more)
    → StandBy depth (row_items depth tight loose start w ++ (items_of (suc depth) t inner ++ more))
unfolding items_of
row_stands depth tight loose t start (ALeaf block) End more own k kids = leaf_stands depth tight block.items more own.0 k
row_stands depth tight loose t start (ALeaf block) (OneOf row inner next) more own k kids = absurd own.1
row_stands depth tight loose t start (ATitle block) End more own k kids = title_stands depth block.items more own.0 k
row_stands depth tight loose t start (ATitle block) (OneOf row inner next) more own k kids = absurd own.1
row_stands depth tight loose t start _ inner more own k kids = (omega arith, (inl refl, kids))

regrouped : (a b c rest : List (ℕ × Item)) → a ++ (b ++ (c ++ rest)) ≡ (a ++ (b ++ c)) ++ rest
regrouped a b c rest = ap (λ z. a ++ z) (sym (append_assoc b c rest)) ∙ sym (append_assoc a (b ++ c) rest)

-- rows begin at their own depth, and no heading of rows is inside a heading
rows_stand : (depth : ℕ) (tight : Bool) (rows : Rows) (more : List (ℕ × Item)) → HoldsOfEachRow HasOneHeading rows → StandBy depth more
    → StandBy depth (items_of depth tight rows ++ more)
unfolding HoldsOfEachRow items_of
rows_stand depth tight End more h k = k
rows_stand depth tight (OneOf row inner next) more h k =
    let loose : Bool = is_loose inner in
    let t : Bool = tight_in tight loose row.what in
    let after : List (ℕ × Item) = items_of depth tight next ++ more in
    let rest = rows_stand depth tight next more h.2 k in
    let kids = rows_stand (suc depth) t inner after h.1 (begins_deeper depth (suc depth) after (omega arith) rest.0, rest.1) in
    subst (StandBy depth) (regrouped (row_items depth tight loose row.start row.what) (items_of (suc depth) t inner) (items_of depth tight next) more)
    (row_stands depth tight loose t row.start row.what inner after h.0 rest kids.1)

-- no heading of a derived tree is inside a heading
pub derived_inside : (d : Document) (nodes : List (ℕ × Item)) (tables : Tables) → Derives d nodes tables → NoneInside nodes
derived_inside d nodes tables h =
    let rows : Rows = rows_of false nothing (length d.text) h.skeleton in
    let each = derived_rows (λ body. Unit {0}) IsNoHeading d nodes tables (λ body h. tt) inner_body h in
    let all = (rows_stand 1 false rows [] each (tt, tt)).1 in
    subst NoneInside (sym h.forest_is) (inl refl, subst NoneInside (append-nil (items_of 1 false rows)) all)
