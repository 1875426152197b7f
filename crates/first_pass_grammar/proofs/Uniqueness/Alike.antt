-- Items that read alike: they differ at most in indices that name the same text, alignments or attributes.
use Rattle.std.proofs.Common.{◌≡◌, ℕ, ◌+◌, ◌==◌, Bool, List, ◌∷◌, ◌++◌, map, Option, Some, refl, sym, ap, ◌∙◌, if◌then◌else◌, option_and_then, option_map}
use Rattle.std.proofs.Common.{arith, []}
use Rattle.first_pass_grammar.proofs.Common.{map-append, Alignment, AlignmentIndex, CowIndex, HeadingIndex, HeadingLevel, Item, ItemBody, Heading}
use Rattle.first_pass_grammar.proofs.Common.{SynthesizeText, FencedCodeBlock, Table, FootnoteDefinition, Attributes, at_depth, is_text, is_escaped, tight_body}
use Rattle.first_pass_grammar.proofs.Common.{tightened, Place, offset, line_end, leaves, touches, add_token, add_tokens, NamesLabel, Names, NamesText}
use Rattle.first_pass_grammar.proofs.Common.{NamesAlignments, NamesAttributes, TextAt, Named, AText, index_of, only_kind, named, read, read_nodes, Document}
use Rattle.first_pass_grammar.proofs.Common.{document, block_with, AreColumns, Ranges, raw_items, AreRawLines, LeafBlock, Leaf, BlankLine, Block, Opener}
use Rattle.first_pass_grammar.proofs.Common.{FootnoteMarker, label_of, Head, opened, Skeleton, Nil, Then, Node, Continues, Opening, OpensLeaf, OpensNode, Kind}
use Rattle.first_pass_grammar.proofs.Common.{node_of, is_paragraph_body}
use Rattle.first_pass_grammar.specs.Names.{AttributesAt, OfHeading}
use Rattle.first_pass_grammar.proofs.Names.NoIndex.{IsWithoutIndex, HaveNoIndex, only_read}
use Rattle.first_pass_grammar.proofs.Each.EachOpening.{HoldsFrom}
use Rattle.first_pass_grammar.proofs.Sequences.PlacesKept.{Anywhere}
use Rattle.first_pass_grammar.proofs.Each.EachToken.{raw_each}
use Rattle.first_pass_grammar.proofs.Names.NamedItems.{IsFree}

-- the same document with other names for the indices
abbrev pub with_names : Document → Names → Document
with_names d n = document d.text d.options n

-- chains that read alike
abbrev pub AlikeChains : Names → Names → List Item → List Item → Type 0
AlikeChains m n xs ys = map (read m) xs ≡ map (read n) ys

-- nodes that read alike
abbrev pub AlikeNodes : Names → Names → List (ℕ × Item) → List (ℕ × Item) → Type 0
AlikeNodes m n xs ys = read_nodes m xs ≡ read_nodes n ys

-- the kind of a leaf block, the start of its line, and its own start
abbrev pub stands : LeafBlock → Kind × ℕ × ℕ
stands b = (b.kind, b.line, b.start)

-- leaf blocks that differ at most in nodes that read alike
abbrev pub AlikeLeaf : Names → Names → Leaf → Leaf → Type 0
AlikeLeaf m n BlankLine BlankLine = Unit {0}
AlikeLeaf m n (Block b) (Block b') = (stands b ≡ stands b') × AlikeNodes m n b.items b'.items × (b.gap ≡ b'.gap) × (b.definitions ≡ b'.definitions)
AlikeLeaf m n _ _ = ⊥

-- the marker where blocks continue, if there is one, has no index
abbrev pub HoldsNoIndex : Continues → Type 0
HoldsNoIndex from = HoldsFrom Anywhere IsWithoutIndex from

-- an opener with the index of its label replaced by 0
abbrev pub only_opener : Opener → Opener
only_opener (FootnoteMarker columns index label) = FootnoteMarker columns (record { 0 = 0 }) label
only_opener o = o

abbrev pub only_head : Head → Head
only_head head = record { opener = only_opener head.opener; line = head.line; start = head.start }

-- a node with the index of the container's label, if it has one
abbrev pub label_node : Opener → List (ℕ × Item)
label_node (FootnoteMarker columns index label) = (0, node_of 0 0 (FootnoteDefinition index)) ∷ []
label_node o = []

-- containers that begin alike: their labels, if they have any, are named by their indices
abbrev pub AlikeHead : Names → Names → Head → Head → Type 0
AlikeHead m n head head' = (only_head head ≡ only_head head') × AlikeNodes m n (label_node head.opener) (label_node head'.opener)

only_opened : (o : Opener) → opened (only_opener o) ≡ opened o
only_opened o = grind arith

pub opened_alike : (head head' : Head) → only_head head ≡ only_head head' → opened head.opener ≡ opened head'.opener
opened_alike head head' is = sym (only_opened head.opener) ∙ ap (λ (h : Head). opened h.opener) is ∙ only_opened head'.opener

only_label : (o : Opener) → label_of (only_opener o) ≡ label_of o
only_label o = grind arith

pub label_alike : (head head' : Head) → only_head head ≡ only_head head' → label_of head.opener ≡ label_of head'.opener
label_alike head head' is = sym (only_label head.opener) ∙ ap (λ (h : Head). label_of h.opener) is ∙ only_label head'.opener

-- openings and skeletons that differ at most in nodes that read alike
abbrev pub AlikeOpening : Names → Names → Opening → Opening → Type 0
AlikeOpening m n (OpensLeaf leaf there left) (OpensLeaf leaf' there' left') = AlikeLeaf m n leaf leaf' × (there ≡ there') × HoldsNoIndex there × (left ≡ left')
AlikeOpening m n (OpensNode head inside following) (OpensNode head' inside' following') =
    AlikeHead m n head head' × (inside ≡ inside') × HoldsNoIndex inside × (following ≡ following')
AlikeOpening m n _ _ = ⊥

abbrev pub Alike : Names → Names → Skeleton → Skeleton → Type 0
Alike m n Nil Nil = Unit {0}
Alike m n (Then leaf next) (Then leaf' next') = AlikeLeaf m n leaf leaf' × Alike m n next next'
Alike m n (Node head e kids next) (Node head' e' kids' next') = AlikeHead m n head head' × (e ≡ e') × Alike m n kids kids' × Alike m n next next'
Alike m n _ _ = ⊥

-- a relation of what equal tests choose
pub chosen : {A : Type 0} (Related : A → A → Type 0) (t t' : Bool) (x x' y y' : A) → t ≡ t' → Related x x' → Related y y'
    → Related (if t then x else y) (if t' then x' else y')
chosen Related t t' x x' y y' is a b = grind arith

-- one chain after another
pub chains_append : (m n : Names) (xs xs' ys ys' : List Item) → AlikeChains m n xs xs' → AlikeChains m n ys ys' → AlikeChains m n (xs ++ ys) (xs' ++ ys')
chains_append m n xs xs' ys ys' h k = let a = map-append (read m) xs ys in let b = map-append (read n) xs' ys' in cc

pub nodes_append : (m n : Names) (xs xs' ys ys' : List (ℕ × Item)) → AlikeNodes m n xs xs' → AlikeNodes m n ys ys' → AlikeNodes m n (xs ++ ys) (xs' ++ ys')
nodes_append m n xs xs' ys ys' h k = grind (arith, map-append)

-- a chain that was read with one more item that was read; the item may be joined to the chain
abbrev join_read : List (Item × Option Named) → Item × Option Named → List (Item × Option Named)
join_read [] y = y ∷ []
join_read (x ∷ []) y = if touches x.0 y.0 then (record { start = x.0.start; «end» = y.0.«end»; body = x.0.body }, x.1) ∷ [] else x ∷ y ∷ []
join_read (x ∷ z ∷ zs) y = x ∷ join_read (z ∷ zs) y

abbrev join_reads : List (Item × Option Named) → List (Item × Option Named) → List (Item × Option Named)
join_reads chain [] = chain
join_reads chain (x ∷ xs) = join_reads (join_read chain x) xs

-- an index changes neither whether a body is a text, an escaped one or a paragraph, nor how it is tightened
pub kind_tests : (b : ItemBody) → (is_text (only_kind b) ≡ is_text b) × (is_escaped (only_kind b) ≡ is_escaped b)
    × (is_paragraph_body (only_kind b) ≡ is_paragraph_body b) × (only_kind (tight_body b) ≡ tight_body (only_kind b))
kind_tests b = grind arith

read_joined : (m : Names) (t : Bool) (x y : Item)
    → map (read m) (if t then record x { «end» = y.«end» } ∷ [] else x ∷ y ∷ [])
    ≡ (if t then (record { start = (read m x).0.start; «end» = (read m y).0.«end»; body = (read m x).0.body }, (read m x).1) ∷ [] else read m x ∷ read m y ∷ [])
read_joined m t x y = grind arith

read_token : (m : Names) (chain : List Item) (y : Item) → map (read m) (add_token chain y) ≡ join_read (map (read m) chain) (read m y)
read_token m [] y = refl
read_token m (x ∷ []) y = rw ((kind_tests x.body).0, (kind_tests y.body).0) (read_joined m (touches x y) x y)
read_token m (x ∷ z ∷ zs) y = ap (λ r. read m x ∷ r) (read_token m (z ∷ zs) y)

read_tokens : (m : Names) (chain tokens : List Item) → map (read m) (add_tokens chain tokens) ≡ join_reads (map (read m) chain) (map (read m) tokens)
read_tokens m chain [] = refl
read_tokens m chain (x ∷ xs) = read_tokens m (add_token chain x) xs ∙ ap (λ z. join_reads z (map (read m) xs)) (read_token m chain x)

pub tokens_alike : (m n : Names) (chain chain' tokens tokens' : List Item)
    → AlikeChains m n chain chain' → AlikeChains m n tokens tokens' → AlikeChains m n (add_tokens chain tokens) (add_tokens chain' tokens')
tokens_alike m n chain chain' tokens tokens' h k = let a = read_tokens m chain tokens in let b = read_tokens n chain' tokens' in cc

-- what the index of attributes names
named_attributes : (names : Names) (ix : Option HeadingIndex) (attributes : Option Attributes) → NamesAttributes names ix attributes
    → option_and_then (named names) (option_map AttributesAt ix) ≡ option_map OfHeading attributes
named_attributes names ix attributes h = grind arith

-- two headings have an index each if they have the same attributes, and none if they have none
abbrev only_index : Option HeadingIndex → Option HeadingIndex
only_index ix = option_map (λ (at : HeadingIndex). record { 0 = 0 }) ix

both_given : (m n : Names) (i j : Option HeadingIndex) (attributes : Option Attributes) → NamesAttributes m i attributes → NamesAttributes n j attributes
    → only_index i ≡ only_index j
both_given m n i j attributes h k = grind arith

-- Items that differ only in their indices read alike if these name the same.
indexed_alike : (m n : Names) (start «end» : ℕ) (body body' : ItemBody) → only_kind body ≡ only_kind body'
    → option_and_then (named m) (index_of body) ≡ option_and_then (named n) (index_of body')
    → read m (node_of start «end» body) ≡ read n (node_of start «end» body')
indexed_alike m n start end body body' h k = λ i. (node_of start end (h i), k i)

-- two indices that name the same text
texts_alike : (m n : Names) (i j : CowIndex) (text : List ℕ) → NamesText m i text → NamesText n j text → named m (TextAt i) ≡ named n (TextAt j)
texts_alike m n i j text (cow, at, is) (other, at', is') = rw (at, at') (ap (λ z. Some (AText z)) (is ∙ sym is'))

-- Columns read alike, and so do raw lines.
columns_alike : (m n : Names) (owed at : ℕ) (xs ys : List Item) → AreColumns m owed at xs → AreColumns n owed at ys → AlikeChains m n xs ys
columns_alike m n owed at xs ys h k = grind (arith, indexed_alike, SynthesizeText, texts_alike, Item)

-- columns, followed by items without indices
line_alike : (m n : Names) (owed at : ℕ) (more xs ys : List Item) → HaveNoIndex more
    → (columns : List Item) × AreColumns m owed at columns × (xs ≡ columns ++ more)
    → (columns : List Item) × AreColumns n owed at columns × (ys ≡ columns ++ more) → AlikeChains m n xs ys
line_alike m n owed at more xs ys free (c, h, e) (c', k, f) = grind (arith, chains_append, columns_alike, only_read)

pub raw_alike : (range : Ranges) → IsFree range → (d : Document) (n : Names) (chain chain' : List Item) (places : List Place) (w w' : List Item)
    → AlikeChains d.names n chain chain' → AreRawLines range d chain places w → AreRawLines range (with_names d n) chain' places w' → AlikeChains d.names n w w'
unfolding AreRawLines
raw_alike range free d n chain chain' [] w w' a e f = ap (map (read d.names)) e ∙ a ∙ sym (ap (map (read n)) f)
raw_alike range free d n chain chain' (p ∷ ps) w w' a (line, is, more) (line', is', more') =
    raw_alike range free d n (add_tokens chain line) (add_tokens chain' line') ps w w'
    (tokens_alike d.names n chain chain' line line' a (line_alike d.names n p.rest.owed (offset p) (raw_items range d.text (offset p) (line_end p)) line line'
    (raw_each IsWithoutIndex range d.text (offset p) (line_end p) free) is is'))
    more more'

-- blocks with chains that read alike
read_below : (m : Names) (chain : List Item) → read_nodes m (at_depth 1 (leaves chain)) ≡ map (λ (z : Item × Option Named). (1, z)) (map (read m) chain)
read_below m [] = refl
read_below m (x ∷ xs) = ap (λ z. (1, read m x) ∷ z) (read_below m xs)

pub block_alike : (m n : Names) (start «end» : ℕ) (body body' : ItemBody) (chain chain' : List Item)
    → read m (node_of start «end» body) ≡ read n (node_of start «end» body')
    → AlikeChains m n chain chain' → AlikeNodes m n (block_with start «end» body chain) (block_with start «end» body' chain')
block_alike m n start end body body' chain chain' h k = grind (arith, read_below)

pub fence_alike : (m n : Names) (start «end» : ℕ) (i j : CowIndex) (info : List ℕ)
    → NamesText m i info → NamesText n j info → read m (node_of start «end» (FencedCodeBlock i)) ≡ read n (node_of start «end» (FencedCodeBlock j))
fence_alike m n start end i j info h k = indexed_alike m n start end (FencedCodeBlock i) (FencedCodeBlock j) refl (texts_alike m n i j info h k)

pub table_alike : (m n : Names) (start «end» : ℕ) (i j : AlignmentIndex) (alignments : List Alignment) → NamesAlignments m i alignments
    → NamesAlignments n j alignments → read m (node_of start «end» (Table i)) ≡ read n (node_of start «end» (Table j))
table_alike m n start end i j alignments h k = indexed_alike m n start end (Table i) (Table j) refl (rw (h, k) refl)

-- footnote definitions whose indices name the same label
pub label_named : (m n : Names) (columns : ℕ) (i j : CowIndex) (written label : List ℕ) → NamesLabel m i written label → NamesLabel n j written label
    → AlikeNodes m n (label_node (FootnoteMarker columns i label)) (label_node (FootnoteMarker columns j label))
label_named m n columns i j written label h k = grind (arith, Item, indexed_alike, FootnoteDefinition, texts_alike)

pub heading_alike : (m n : Names) (start «end» : ℕ) (level : HeadingLevel) (i j : Option HeadingIndex) (attributes : Option Attributes)
    → NamesAttributes m i attributes
    → NamesAttributes n j attributes → read m (node_of start «end» (Heading level i)) ≡ read n (node_of start «end» (Heading level j))
heading_alike m n start end level i j attributes h k = grind (arith, indexed_alike, both_given, named_attributes)

-- Tightening a paragraph does not change an item's index.
tight_index : (b : ItemBody) → index_of (tight_body b) ≡ index_of b
tight_index b = grind arith

-- a node as it is read, after tightening
abbrev pub tight_read : ℕ → ℕ × (Item × Option Named) → ℕ × (Item × Option Named)
tight_read depth x = (x.0, if x.0 == depth then (node_of x.1.0.start x.1.0.«end» (tight_body x.1.0.body), x.1.1) else x.1)

read_tight_by : (m : Names) (t : Bool) (x : Item) → read m (if t then node_of x.start x.«end» (tight_body x.body) else x)
    ≡ (if t then (node_of x.start x.«end» (tight_body (read m x).0.body), (read m x).1) else read m x)
read_tight_by m t x = grind (arith, kind_tests, tight_index)

pub read_tight : (m : Names) (depth : ℕ) (nodes : List (ℕ × Item)) → read_nodes m (map (tightened depth) nodes) ≡ map (tight_read depth) (read_nodes m nodes)
read_tight m depth [] = refl
read_tight m depth (x ∷ nodes) = grind (arith, read_tight_by, read_tight m depth nodes)

pub read_at_depth : (m : Names) (depth : ℕ) (nodes : List (ℕ × Item)) → read_nodes m (at_depth depth nodes) ≡ at_depth depth (read_nodes m nodes)
read_at_depth m depth [] = refl
read_at_depth m depth (x ∷ nodes) = ap (λ z. (depth + x.0, read m x.1) ∷ z) (read_at_depth m depth nodes)
