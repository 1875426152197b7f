-- The tables of a derived tree are whole.
use Rattle.std.proofs.Common.{◌≡◌, ℕ, suc, Bool, true, false, List, ◌∷◌, ◌++◌, length, map, refl, sym, ap, subst, ◌∙◌, append_assoc, [], arith}
use Rattle.first_pass_grammar.proofs.Common.{cond_both, Item, ItemBody, DefinitionListTitle, at_depth, tight_body, tightened, lines_at, Names, Document, Line}
use Rattle.first_pass_grammar.proofs.Common.{level, Lines, nothing, is_paragraph_body, begins_paragraph, What, ALeaf, Rows, End, OneOf, is_loose, ATitle}
use Rattle.first_pass_grammar.proofs.Common.{rows_of, as_title, row_items, tight_in, items_of, Tables, root_of, Derives, shown, marks, TableRows, table_marks}
use Rattle.first_pass_grammar.proofs.Common.{AreFull, AreWholeTables}
use Rattle.first_pass_items.specs.declared.item.ItemBody.TheVariants.{Paragraph as ParagraphBody}
use Rattle.first_pass_grammar.proofs.Each.EachRow.{HoldsOfRow, HoldsOfEachRow, each_row}
use Rattle.first_pass_grammar.proofs.WholeTables.FullHeads.{heads_are_full}
use Rattle.first_pass_grammar.proofs.Sequences.LinesLeft.{lines_are_at}
use Rattle.first_pass_grammar.proofs.WholeTables.TableMarks.{marks-append, whole_deeper}
use Rattle.first_pass_grammar.proofs.WholeTables.WholeBlocks.{whole_none, sequence_whole}

-- whole tables after other whole tables
pub table_marks-append : (a b : List TableRows) → table_marks (a ++ b) ≡ table_marks a ++ table_marks b
unfolding table_marks
table_marks-append [] b = refl
table_marks-append (t ∷ a) b = rw (table_marks-append a b, append_assoc)

both_full : (a b : List TableRows) → AreFull a → AreFull b → AreFull (a ++ b)
unfolding AreFull
both_full [] b h k = k
both_full (t ∷ a) b h k = (h.0, h.1, both_full a b h.2 k)

pub whole_both : (names : Names) (nodes more : List (ℕ × Item)) → AreWholeTables names nodes → AreWholeTables names more → AreWholeTables names (nodes ++ more)
unfolding AreWholeTables
whole_both names nodes more (a, e, h) (b, f, k) =
    (a ++ b, marks-append names nodes more ∙ (λ i. e i ++ f i) ∙ sym (table_marks-append a b), both_full a b h k)

-- nodes with the same marks
pub whole_same : (names : Names) (nodes more : List (ℕ × Item)) → marks names more ≡ marks names nodes → AreWholeTables names nodes → AreWholeTables names more
unfolding AreWholeTables
whole_same names nodes more same (a, e, h) = (a, same ∙ e, h)

-- tightening a paragraph does not change its marks
pub tight_shows : (names : Names) (depth start «end» : ℕ) (b : ItemBody) → shown names depth start «end» (tight_body b) ≡ shown names depth start «end» b
tight_shows names depth start end ParagraphBody = refl
tight_shows names depth start end b = refl

pub marks-tightened : (names : Names) (depth : ℕ) (nodes : List (ℕ × Item)) → marks names (map (tightened depth) nodes) ≡ marks names nodes
unfolding marks
marks-tightened names depth [] = refl
marks-tightened names depth (n ∷ nodes) = grind (arith, cond_both, tight_shows, marks-tightened names depth nodes)

-- the leaf blocks of rows have whole tables, or no part of a table
abbrev pub WholeRows : Names → Rows → Type 0
WholeRows names rows = HoldsOfEachRow (AreWholeTables names) rows

-- a paragraph that becomes a title
title_body : (names : Names) (depth start «end» : ℕ) (b : ItemBody) → is_paragraph_body b ≡ true
    → shown names depth start «end» b ≡ shown names depth start «end» DefinitionListTitle
title_body names depth start end ParagraphBody h = refl
title_body names depth start end b h = cc

title_marks : (names : Names) (items : List (ℕ × Item)) → begins_paragraph items ≡ true → marks names (as_title items) ≡ marks names items
unfolding marks
title_marks names [] h = refl
title_marks names (x ∷ items) h = ap (λ z. z ++ marks names items) (sym (title_body names x.0 x.1.start x.1.«end» x.1.body h))

-- the items of rows have whole tables too
row_whole : (names : Names) (depth : ℕ) (tight loose : Bool) (start : ℕ) (w : What) (inner : Rows) → HoldsOfRow (AreWholeTables names) w inner
    → AreWholeTables names (row_items depth tight loose start w)
unfolding marks
row_whole names depth true loose start (ALeaf block) inner h =
    whole_same names (at_depth depth block.items) _ (marks-tightened names depth (at_depth depth block.items)) (whole_deeper names depth block.items h.0)
row_whole names depth false loose start (ALeaf block) inner h = whole_deeper names depth block.items h.0
row_whole names depth tight loose start (ATitle block) inner h =
    whole_deeper names depth (as_title block.items) (whole_same names block.items (as_title block.items) (title_marks names block.items h.2) h.0)
row_whole names depth tight loose start w inner h = whole_none names _ refl

pub forest_whole : (names : Names) (depth : ℕ) (tight : Bool) (rows : Rows) → WholeRows names rows → AreWholeTables names (items_of depth tight rows)
unfolding HoldsOfEachRow items_of marks
forest_whole names depth tight End h = whole_none names [] refl
forest_whole names depth tight (OneOf row inner next) h =
    whole_both names (row_items depth tight (is_loose inner) row.start row.what) _
    (row_whole names depth tight (is_loose inner) row.start row.what inner h.0)
    (whole_both names (items_of (suc depth) (tight_in tight (is_loose inner) row.what) inner) (items_of depth tight next)
    (forest_whole names (suc depth) (tight_in tight (is_loose inner) row.what) inner h.1) (forest_whole names depth tight next h.2))

-- The tables of a tree that a text derives are whole.
pub derived_whole : (d : Document) (nodes : List (ℕ × Item)) (tables : Tables) → Derives d nodes tables → AreWholeTables d.names nodes
unfolding marks
derived_whole d nodes tables h =
    let s = (sequence_whole d (heads_are_full d) h.skeleton (level [] nothing) Line (lines_at 0 d.text) (Lines []) tt (lines_are_at d.text) h.sequence).0 in
    let rows = rows_of false nothing (length d.text) h.skeleton in
    let all = forest_whole d.names 1 false rows (each_row (AreWholeTables d.names) false nothing (length d.text) h.skeleton s) in
    subst (AreWholeTables d.names) (sym h.forest_is)
    (whole_both d.names (root_of (length d.text) ∷ []) (items_of 1 false rows) (whole_none d.names (root_of (length d.text) ∷ []) refl) all)
