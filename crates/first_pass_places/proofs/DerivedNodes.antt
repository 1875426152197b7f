-- The nodes of a derived tree. Their footnote definitions are those of its sequence, in the order of the text. Each node
-- that starts on a character boundary meets `HasWholeStart`.
use Rattle.std.proofs.Common.{◌≡◌, ℕ, suc, Bool, true, false, List, [], ◌∷◌, ◌++◌, length, map, Option, Some, None, refl, sym, ap, ◌∙◌, append_assoc}
use Rattle.std.proofs.Common.{if◌then◌else◌, option_map, ◌+◌, ◌==◌, IsCharBoundary, subst}
use Rattle.first_pass_grammar.proofs.Common.{option_map_or, false≢true, map-append, CowIndex, Item, ItemBody, FencedCodeBlock, FootnoteDefinition, Paragraph}
use Rattle.first_pass_grammar.proofs.Common.{at_depth, tight_body, tightened, Before, nothing, after_blank, after_block, after_container, before_end}
use Rattle.first_pass_grammar.proofs.Common.{begins_paragraph, LeafBlock, BlankLine, Block, Opener, QuoteMarker, ItemMarker, FootnoteMarker, DefinitionMarker}
use Rattle.first_pass_grammar.proofs.Common.{label_of, opened, Skeleton, Nil, Then, Node, is_quote, as_title, row_items, tight_in, items_of, footnotes_of}
use Rattle.first_pass_grammar.proofs.Common.{Tables, Derives, Document, text_named, What, ALeaf, AFootnote, ATitle, Row, Rows, End, OneOf, gapped, is_loose}
use Rattle.first_pass_grammar.proofs.Common.{Joins, ItemsOf, DefinitionsTo, end_of_row, continues_list, items_after, list_after, what_of, row_of}
use Rattle.first_pass_grammar.proofs.Common.{container_row, row_of_leaf, Definitions, definitions_of_row, apart_after, is_untitled, is_run_row}
use Rattle.first_pass_grammar.proofs.Common.{definitions_first, titled, gap_before, rows_of, AreEachNode, root_of, cond_both}
use Rattle.first_pass_grammar.proofs.Each.EachCell.{deeper_nodes}
use Rattle.first_pass_grammar.proofs.Each.EachLeaf.{IsBlockOf, begins_block, derived_leaves, is_inner}
use Rattle.first_pass_grammar.proofs.Each.EachRow.{IsEnd, HoldsOfRow, HoldsOfEachRow, each_row, tight_nodes}
use Rattle.first_pass_places.proofs.MarkedBlocks.{IsReadOpener, derived_blocks, IsReadHead, IsMarked, FirstMarked}
use Rattle.first_pass_grammar.proofs.Each.EachOpening.{HoldsOfEachHead, HoldsOfEachLeaf}
use Rattle.first_pass_places.specs.NamePlaces.{HasWholeStart, HaveWholeStarts}
use Rattle.first_pass_places.specs.RangeEnds.{IsAsciiAt}

-- the start and the index of each footnote definition among nodes, rows or blocks
abbrev pub Footnotes : Type 0
Footnotes = List (ℕ × CowIndex)

abbrev pub footnote_in : ℕ → ItemBody → Footnotes
footnote_in start (FootnoteDefinition ix) = (start, ix) ∷ []
footnote_in start _ = []

abbrev pub node_footnotes : List (ℕ × Item) → Footnotes
node_footnotes [] = []
node_footnotes (n ∷ nodes) = footnote_in n.1.start n.1.body ++ node_footnotes nodes

abbrev pub what_footnotes : ℕ → What → Footnotes
what_footnotes start (AFootnote index e) = (start, index) ∷ []
what_footnotes start _ = []

abbrev pub row_footnotes : Rows → Footnotes
row_footnotes End = []
row_footnotes (OneOf row inner next) = what_footnotes row.start row.what ++ (row_footnotes inner ++ row_footnotes next)

abbrev pub opener_footnotes : ℕ → Opener → Footnotes
opener_footnotes start (FootnoteMarker columns index label) = (start, index) ∷ []
opener_footnotes start _ = []

unfoldable pub sequence_footnotes : Skeleton → Footnotes
sequence_footnotes Nil = []
sequence_footnotes (Then leaf next) = sequence_footnotes next
sequence_footnotes (Node head e kids next) = opener_footnotes head.start head.opener ++ (sequence_footnotes kids ++ sequence_footnotes next)

both_footnotes : (nodes more : List (ℕ × Item)) → node_footnotes (nodes ++ more) ≡ node_footnotes nodes ++ node_footnotes more
both_footnotes [] more = refl
both_footnotes (n ∷ nodes) more =
    ap (λ (l : Footnotes). footnote_in n.1.start n.1.body ++ l) (both_footnotes nodes more)
    ∙ sym (append_assoc (footnote_in n.1.start n.1.body) (node_footnotes nodes) (node_footnotes more))

-- a body that is no footnote definition, and one that is no fenced code block either
abbrev pub IsSilent : ItemBody → Type 0
IsSilent (FootnoteDefinition ix) = ⊥
IsSilent _ = Unit {0}

abbrev pub IsPlain : ItemBody → Type 0
IsPlain (FootnoteDefinition ix) = ⊥
IsPlain (FencedCodeBlock ix) = ⊥
IsPlain _ = Unit {0}

silent_body : (start : ℕ) (body : ItemBody) → IsSilent body → footnote_in start body ≡ []
silent_body start (FootnoteDefinition ix) h = absurd h
silent_body start body h = refl

silent_nodes : (nodes : List (ℕ × Item)) → AreEachNode IsSilent nodes → node_footnotes nodes ≡ []
silent_nodes [] h = refl
silent_nodes (n ∷ nodes) h = ap (λ (l : Footnotes). l ++ node_footnotes nodes) (silent_body n.1.start n.1.body h.0) ∙ silent_nodes nodes h.1

plain_silent : (body : ItemBody) → IsPlain body → IsSilent body
plain_silent (FootnoteDefinition ix) h = absurd h
plain_silent body h = tt

plain_nodes : (nodes : List (ℕ × Item)) → AreEachNode IsPlain nodes → AreEachNode IsSilent nodes
plain_nodes [] h = tt
plain_nodes (n ∷ nodes) h = (plain_silent n.1.body h.0, plain_nodes nodes h.1)

-- No node of a leaf block is a footnote definition, and only its first may be a fenced code block.
block_body : (body : ItemBody) → begins_block body ≡ true → IsSilent body
block_body (FootnoteDefinition ix) h = absurd (false≢true h)
block_body body h = tt

inner_body : (body : ItemBody) → is_inner body ≡ true → IsPlain body
inner_body (FencedCodeBlock ix) h = absurd (false≢true h)
inner_body (FootnoteDefinition ix) h = absurd (false≢true h)
inner_body body h = tt

abbrev pub IsLeafBlock : List (ℕ × Item) → Type 0
IsLeafBlock items = IsBlockOf IsSilent IsPlain items

pub leaves_plain : (d : Document) (nodes : List (ℕ × Item)) (tables : Tables) (h : Derives d nodes tables) → HoldsOfEachLeaf IsLeafBlock h.skeleton
leaves_plain d = derived_leaves IsSilent IsPlain d block_body inner_body

block_silent : (items : List (ℕ × Item)) → IsLeafBlock items → AreEachNode IsSilent items
block_silent [] h = tt
block_silent (x ∷ items) h = (h.1, plain_nodes items h.2)

title_silent : (items : List (ℕ × Item)) → AreEachNode IsSilent items → AreEachNode IsSilent (as_title items)
title_silent [] h = tt
title_silent (x ∷ items) h = (tt, h.1)

tight_silent : (body : ItemBody) → IsSilent body → IsSilent (tight_body body)
tight_silent Paragraph h = tt
tight_silent body h = h

-- the nodes of rows have the footnote definitions of the rows
row_nodes : (depth : ℕ) (tight loose : Bool) (start : ℕ) (w : What) (inner : Rows) → HoldsOfRow IsLeafBlock w inner
    → node_footnotes (row_items depth tight loose start w) ≡ what_footnotes start w
row_nodes depth true loose start (ALeaf block) inner h =
    silent_nodes (map (tightened depth) (at_depth depth block.items))
    (tight_nodes IsSilent tight_silent depth (at_depth depth block.items) (deeper_nodes IsSilent depth block.items (block_silent block.items h.0)))
row_nodes depth false loose start (ALeaf block) inner h =
    silent_nodes (at_depth depth block.items) (deeper_nodes IsSilent depth block.items (block_silent block.items h.0))
row_nodes depth tight loose start (ATitle block) inner h =
    silent_nodes (at_depth depth (as_title block.items))
    (deeper_nodes IsSilent depth (as_title block.items) (title_silent block.items (block_silent block.items h.0)))
row_nodes depth tight loose start w inner h = refl

rows_nodes : (depth : ℕ) (tight : Bool) (rows : Rows) → HoldsOfEachRow IsLeafBlock rows → node_footnotes (items_of depth tight rows) ≡ row_footnotes rows
unfolding HoldsOfEachRow items_of
rows_nodes depth tight End h = refl
rows_nodes depth tight (OneOf row inner next) h =
    let own : List (ℕ × Item) = row_items depth tight (is_loose inner) row.start row.what in
    let below : List (ℕ × Item) = items_of (suc depth) (tight_in tight (is_loose inner) row.what) inner in
    let beside : List (ℕ × Item) = items_of depth tight next in
    let all = both_footnotes own (below ++ beside) in
    let more = both_footnotes below beside in
    let first = row_nodes depth tight (is_loose inner) row.start row.what inner h.0 in
    let second = rows_nodes (suc depth) (tight_in tight (is_loose inner) row.what) inner h.1 in
    let third = rows_nodes depth tight next h.2 in
    cc

-- items in a list keep their order
gapped_footnotes : (gap : Bool) (rows : Rows) → row_footnotes (gapped gap rows) ≡ row_footnotes rows
gapped_footnotes gap End = refl
gapped_footnotes gap (OneOf row inner next) = refl

no_join : (joins : Joins) (start : ℕ) (w : What) → continues_list joins w ≡ true → what_footnotes start w ≡ []
no_join (ItemsOf byte) start (AFootnote index e) h = absurd (false≢true h)
no_join (DefinitionsTo until) start (AFootnote index e) h = absurd (false≢true h)
no_join joins start w h = refl

joined_by : (t : Bool) (joins : Joins) (row : Row) (inner next : Rows) → continues_list joins row.what ≡ t
    → row_footnotes (if t then gapped row.gap inner else End) ++ row_footnotes (if t then next else OneOf row inner next) ≡ row_footnotes (OneOf row inner next)
joined_by true joins row inner next e = rw (gapped_footnotes row.gap inner, no_join joins row.start row.what e) refl
joined_by false joins row inner next e = refl

joined_footnotes : (joins : Joins) (rows : Rows) → row_footnotes (items_after joins rows) ++ row_footnotes (list_after joins rows) ≡ row_footnotes rows
joined_footnotes joins End = refl
joined_footnotes joins (OneOf row inner next) = joined_by (continues_list joins row.what) joins row inner next refl

-- the rows of a list that a container begins
list_footnotes : (a b : Footnotes) (joins : Joins) (next : Rows)
    → (a ++ (b ++ row_footnotes (items_after joins next))) ++ row_footnotes (list_after joins next) ≡ a ++ (b ++ row_footnotes next)
list_footnotes a b joins next = simp append_assoc (ap (λ (l : Footnotes). a ++ (b ++ l)) (joined_footnotes joins next))

container_footnotes : (last : ℕ) (opener : Opener) (row : Row) (inner next : Rows)
    → row_footnotes (container_row last opener row inner next) ≡ what_footnotes row.start row.what ++ (row_footnotes inner ++ row_footnotes next)
container_footnotes last (QuoteMarker kind) row inner next = refl
container_footnotes last (ItemMarker byte number columns) row inner next =
    list_footnotes (what_footnotes row.start row.what) (row_footnotes inner) (ItemsOf byte) next
container_footnotes last (FootnoteMarker columns index label) row inner next = refl
container_footnotes last (DefinitionMarker columns) row inner next =
    list_footnotes (what_footnotes row.start row.what) (row_footnotes inner) (DefinitionsTo (end_of_row row.what last)) next

-- the definitions that a title takes in, and then the rows beside them, have the footnote definitions of all rows
abbrev HaveSame : Rows → Option Definitions → Type 0
HaveSame rows None = Unit {0}
HaveSame rows (Some ds) = row_footnotes ds.items ++ row_footnotes ds.beside ≡ row_footnotes rows

end_footnotes : (rows : Rows) → IsEnd rows → row_footnotes rows ≡ []
end_footnotes End h = refl
end_footnotes (OneOf row inner next) h = absurd h

untitled_silent : (start : ℕ) (w : What) → is_untitled w ≡ true → what_footnotes start w ≡ []
untitled_silent start (AFootnote index e) h = absurd (false≢true h)
untitled_silent start w h = refl

run_silent : (start : ℕ) (w : What) (inner : Rows) → is_run_row w ≡ true → HoldsOfRow IsLeafBlock w inner
    → (what_footnotes start w ≡ []) × (row_footnotes inner ≡ [])
run_silent start (ALeaf block) inner h own = (refl, end_footnotes inner own.1)
run_silent start w inner h own = absurd (false≢true h)

first_by : (t u : Bool) (row : Row) (inner next : Rows) (o : Option Definitions) → is_untitled row.what ≡ t → is_run_row row.what ≡ u
    → HoldsOfRow IsLeafBlock row.what inner → HaveSame next o
    → HaveSame (OneOf row inner next) (if t then definitions_of_row row inner next else (if u then option_map (apart_after row inner) o else None))
first_by true u row inner next o e f own h = rw (gapped_footnotes row.gap inner, untitled_silent row.start row.what e) refl
first_by false true row inner next None e f own h = tt
first_by false true row inner next (Some ds) e f own h = (let none = run_silent row.start row.what inner f own in rw (none.0, none.1) h)
first_by false false row inner next o e f own h = tt

first_same : (rows : Rows) → HoldsOfEachRow IsLeafBlock rows → HaveSame rows (definitions_first rows)
unfolding HoldsOfEachRow definitions_first
first_same End h = tt
first_same (OneOf row inner next) h =
    first_by (is_untitled row.what) (is_run_row row.what) row inner next (definitions_first next) refl refl h.0 (first_same next h.2)

titled_footnotes : (t : Bool) (block : LeafBlock) (gap : Bool) (next : Rows) (o : Option Definitions) → HaveSame next o
    → row_footnotes (option_map_or (titled block gap) (if t then o else None) (OneOf (row_of_leaf block gap) End next)) ≡ row_footnotes next
titled_footnotes true block gap next None h = refl
titled_footnotes true block gap next (Some ds) h = h
titled_footnotes false block gap next o h = refl

-- the rows of a sequence have its footnote definitions
head_footnotes : (start : ℕ) (opener : Opener) (e : ℕ) → what_footnotes start (what_of opener e) ≡ opener_footnotes start opener
head_footnotes start (FootnoteMarker columns index label) e = refl
head_footnotes start opener e = refl

pub rows_same : (quoted : Bool) (before : Before) (last : ℕ) (s : Skeleton) → HoldsOfEachLeaf IsLeafBlock s
    → row_footnotes (rows_of quoted before last s) ≡ sequence_footnotes s
unfolding HoldsOfEachLeaf rows_of sequence_footnotes
rows_same quoted before last Nil h = refl
rows_same quoted before last (Then BlankLine next) h = rows_same quoted (after_blank quoted before) last next h.1
rows_same quoted before last (Then (Block block) next) h =
    let rows : Rows = rows_of quoted (after_block before block) last next in
    let holds = each_row IsLeafBlock quoted (after_block before block) last next h.1 in
    titled_footnotes (begins_paragraph block.items) block (gap_before before block) rows (definitions_first rows) (first_same rows holds)
    ∙ rows_same quoted (after_block before block) last next h.1
rows_same quoted before last (Node head e kids next) h =
    let quote : Bool = is_quote (opened head.opener) in
    let there : Before = after_container (opened head.opener) (before_end quote nothing kids) in
    let all = container_footnotes last head.opener (row_of head e before.counted) (rows_of quote nothing e kids) (rows_of quoted there last next) in
    let first = head_footnotes head.start head.opener e in
    let second = rows_same quote nothing e kids h.0 in
    let third = rows_same quoted there last next h.1 in
    cc

-- the labels of a sequence are those that the indices of its footnote definitions name
abbrev pub labels_named : Document → Footnotes → List (List ℕ)
labels_named d footnotes = map (λ (f : ℕ × CowIndex). text_named d.names f.1) footnotes

opener_label : (d : Document) (start : ℕ) (opener : Opener) → IsReadOpener d start opener → labels_named d (opener_footnotes start opener) ≡ label_of opener
opener_label d start (FootnoteMarker columns index label) h = ap (λ (l : List ℕ). l ∷ []) h.1
opener_label d start opener h = refl

sequence_labels : (d : Document) (s : Skeleton) → HoldsOfEachHead (IsReadHead d) s → labels_named d (sequence_footnotes s) ≡ footnotes_of s
unfolding HoldsOfEachHead sequence_footnotes footnotes_of
sequence_labels d Nil h = refl
sequence_labels d (Then leaf next) h = sequence_labels d next h
sequence_labels d (Node head e kids next) h =
    let name = λ (f : ℕ × CowIndex). text_named d.names f.1 in
    let below : Footnotes = sequence_footnotes kids in
    let beside : Footnotes = sequence_footnotes next in
    let all = map-append name (opener_footnotes head.start head.opener) (below ++ beside) in
    let more = map-append name below beside in
    let first = opener_label d head.start head.opener h.0 in
    let second = sequence_labels d kids h.1 in
    let third = sequence_labels d next h.2 in
    cc

-- the labels that the footnote definitions of a derived tree name
pub derived_labels : (d : Document) (nodes : List (ℕ × Item)) (tables : Tables) (h : Derives d nodes tables)
    → labels_named d (node_footnotes nodes) ≡ footnotes_of h.skeleton
derived_labels d nodes tables h =
    let rows : Rows = rows_of false nothing (length d.text) h.skeleton in
    let leaves = leaves_plain d nodes tables h in
    let holds = each_row IsLeafBlock false nothing (length d.text) h.skeleton leaves in
    ap (labels_named d) (ap node_footnotes h.forest_is ∙ rows_nodes 1 false rows holds ∙ rows_same false nothing (length d.text) h.skeleton leaves)
    ∙ sequence_labels d h.skeleton (derived_blocks d nodes tables h).1

-- No node inside a leaf block has a mark of its own; only the block's first node may.
plain_mark : (text : List ℕ) (start : ℕ) (body : ItemBody) → IsPlain body → IsCharBoundary text start → HasWholeStart body text start
plain_mark text start (FencedCodeBlock ix) h b = absurd h
plain_mark text start (FootnoteDefinition ix) h b = absurd h
plain_mark text start body h b = b

-- nodes with marks
plain_marks : (text : List ℕ) (nodes : List (ℕ × Item)) → AreEachNode IsPlain nodes → HaveWholeStarts text nodes
plain_marks text [] h = tt
plain_marks text (n ∷ nodes) h = (plain_mark text n.1.start n.1.body h.0, plain_marks text nodes h.1)

block_marks : (text : List ℕ) (items : List (ℕ × Item)) → FirstMarked text items → IsLeafBlock items → HaveWholeStarts text items
block_marks text [] h k = tt
block_marks text (x ∷ items) h k = (h, plain_marks text items k.2)

title_marks : (text : List ℕ) (items : List (ℕ × Item)) → HaveWholeStarts text items → HaveWholeStarts text (as_title items)
title_marks text [] h = tt
title_marks text (x ∷ items) h = ((λ b. b), h.1)

deeper_marks : (text : List ℕ) (depth : ℕ) (nodes : List (ℕ × Item)) → HaveWholeStarts text nodes → HaveWholeStarts text (at_depth depth nodes)
deeper_marks text depth [] h = tt
deeper_marks text depth (n ∷ nodes) h = (h.0, deeper_marks text depth nodes h.1)

tight_mark : (text : List ℕ) (start : ℕ) (body : ItemBody) → HasWholeStart body text start → HasWholeStart (tight_body body) text start
tight_mark text start Paragraph h = h
tight_mark text start body h = h

tight_marks : (text : List ℕ) (depth : ℕ) (nodes : List (ℕ × Item)) → HaveWholeStarts text nodes → HaveWholeStarts text (map (tightened depth) nodes)
tight_marks text depth [] h = tt
tight_marks text depth (n ∷ nodes) h = (
  cond_both (n.0 == depth) _ _ (IsMarked text) (λ t b. tight_mark text n.1.start n.1.body (h.0 b)) (λ t. h.0),
  tight_marks text depth nodes h.1,
)

both_marks : (text : List ℕ) (nodes more : List (ℕ × Item)) → HaveWholeStarts text nodes → HaveWholeStarts text more → HaveWholeStarts text (nodes ++ more)
both_marks text [] more h k = k
both_marks text (n ∷ nodes) more h k = (h.0, both_marks text nodes more h.1 k)

-- each of these footnote definitions has an ASCII mark
abbrev AreMarked : List ℕ → Footnotes → Type 0
AreMarked text [] = Unit {0}
AreMarked text (f ∷ fs) = IsAsciiAt text (f.0 + 1) × AreMarked text fs

both_marked : (text : List ℕ) (fs gs : Footnotes) → AreMarked text fs → AreMarked text gs → AreMarked text (fs ++ gs)
both_marked text [] gs h k = k
both_marked text (f ∷ fs) gs h k = (h.0, both_marked text fs gs h.1 k)

parts_marked : (text : List ℕ) (fs gs : Footnotes) → AreMarked text (fs ++ gs) → AreMarked text fs × AreMarked text gs
parts_marked text [] gs h = (tt, h)
parts_marked text (f ∷ fs) gs h = let parts = parts_marked text fs gs h.1 in ((h.0, parts.0), parts.1)

opener_marked : (d : Document) (start : ℕ) (opener : Opener) → IsReadOpener d start opener → AreMarked d.text (opener_footnotes start opener)
opener_marked d start (FootnoteMarker columns index label) h = (h.0, tt)
opener_marked d start opener h = tt

sequence_marked : (d : Document) (s : Skeleton) → HoldsOfEachHead (IsReadHead d) s → AreMarked d.text (sequence_footnotes s)
unfolding HoldsOfEachHead sequence_footnotes
sequence_marked d Nil h = tt
sequence_marked d (Then leaf next) h = sequence_marked d next h
sequence_marked d (Node head e kids next) h =
    both_marked d.text (opener_footnotes head.start head.opener) (sequence_footnotes kids ++ sequence_footnotes next)
    (opener_marked d head.start head.opener h.0)
    (both_marked d.text (sequence_footnotes kids) (sequence_footnotes next) (sequence_marked d kids h.1) (sequence_marked d next h.2))

-- the nodes of rows have marks if the footnote definitions and the first items of leaf blocks have
row_marks : (text : List ℕ) (depth : ℕ) (tight loose : Bool) (start : ℕ) (w : What) (inner : Rows) → HoldsOfRow (FirstMarked text) w inner
    → HoldsOfRow IsLeafBlock w inner → AreMarked text (what_footnotes start w) → HaveWholeStarts text (row_items depth tight loose start w)
row_marks text depth true loose start (ALeaf block) inner h k m =
    tight_marks text depth (at_depth depth block.items) (deeper_marks text depth block.items (block_marks text block.items h.0 k.0))
row_marks text depth false loose start (ALeaf block) inner h k m = deeper_marks text depth block.items (block_marks text block.items h.0 k.0)
row_marks text depth tight loose start (AFootnote index e) inner h k m = ((λ b. m.0), tt)
row_marks text depth tight loose start (ATitle block) inner h k m =
    deeper_marks text depth (as_title block.items) (title_marks text block.items (block_marks text block.items h.0 k.0))
row_marks text depth tight loose start w inner h k m = ((λ b. b), tt)

rows_marks : (text : List ℕ) (depth : ℕ) (tight : Bool) (rows : Rows) → HoldsOfEachRow (FirstMarked text) rows → HoldsOfEachRow IsLeafBlock rows
    → AreMarked text (row_footnotes rows) → HaveWholeStarts text (items_of depth tight rows)
unfolding HoldsOfEachRow items_of
rows_marks text depth tight End h k m = tt
rows_marks text depth tight (OneOf row inner next) h k m =
    let own : List (ℕ × Item) = row_items depth tight (is_loose inner) row.start row.what in
    let below : List (ℕ × Item) = items_of (suc depth) (tight_in tight (is_loose inner) row.what) inner in
    let beside : List (ℕ × Item) = items_of depth tight next in
    let first = parts_marked text (what_footnotes row.start row.what) (row_footnotes inner ++ row_footnotes next) m in
    let rest = parts_marked text (row_footnotes inner) (row_footnotes next) first.1 in
    both_marks text own (below ++ beside) (row_marks text depth tight (is_loose inner) row.start row.what inner h.0 k.0 first.0)
    (both_marks text below beside (rows_marks text (suc depth) (tight_in tight (is_loose inner) row.what) inner h.1 k.1 rest.0)
    (rows_marks text depth tight next h.2 k.2 rest.1))

-- each node of a derived tree that starts between characters has a whole start
pub derived_marks : (d : Document) (nodes : List (ℕ × Item)) (tables : Tables) → Derives d nodes tables → HaveWholeStarts d.text nodes
derived_marks d nodes tables h =
    let s : Skeleton = h.skeleton in
    let n : ℕ = length d.text in
    let rows : Rows = rows_of false nothing n s in
    let blocks = derived_blocks d nodes tables h in
    let leaves = leaves_plain d nodes tables h in
    let marked = subst (AreMarked d.text) (sym (rows_same false nothing n s leaves)) (sequence_marked d s blocks.1) in
    let all = rows_marks d.text 1 false _ (each_row (FirstMarked d.text) false nothing n s blocks.0) (each_row IsLeafBlock false nothing n s leaves) marked in
    subst (HaveWholeStarts d.text) (sym h.forest_is) (both_marks d.text (root_of n ∷ []) (items_of 1 false rows) ((λ b. b), tt) all)
