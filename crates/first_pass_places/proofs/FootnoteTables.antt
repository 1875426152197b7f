-- The table of the nodes of footnote definitions: it grows by one node after the other, and has the labels of the
-- table of footnotes.
use Rattle.std.proofs.Common.{◌≡◌, ℕ, ◌+◌, ◌<◌, List, [], ◌∷◌, ◌++◌, length, map, take, get_or, refl, sym, ap, subst, ◌∙◌, zero, suc, append_assoc}
use Rattle.std.proofs.Common.{arith, length-take-le}
use Rattle.first_pass_grammar.proofs.Common.{map-append, take_more, CowStr, CowIndex, Item, ItemBody, FootnoteDefinition}
use Rattle.first_pass_grammar.proofs.Common.{Names, Tables, footnotes_of, Derives, Document, with_labels}
use Rattle.std.proofs.lemmas.Simd.{map-map}
use Rattle.first_pass_labels.specs.LabelTables.{table_of, with_all}
use Rattle.first_pass_labels.proofs.FirstOfEach.{map_put_all}
use Rattle.first_pass_labels.proofs.TextOrder.{table_is, with_more}
use Rattle.first_pass_grammar.proofs.LinkTables.FirstLinks.{put_labels}
use Rattle.first_pass_places.specs.FootnoteNodes.{label_with_index, labels_from, entry_bytes, AreFirstFootnotes, AddsNode, entry_label}
use Rattle.first_pass_places.proofs.DerivedNodes.{footnote_in, node_footnotes, labels_named, derived_labels}

labels_more : (names : Names) (index : ℕ) (nodes : List (ℕ × Item)) (n : ℕ × Item)
    → labels_from names index (nodes ++ n ∷ []) ≡ labels_from names index nodes ++ label_with_index names (index + length nodes) n.1.body
unfolding labels_from
labels_more names index [] n = grind arith
labels_more names index (m ∷ nodes) n =
    let same : index + 1 + length nodes ≡ index + length (m ∷ nodes) = omega arith in
    ap (λ l. label_with_index names index m.1.body ++ l)
    (labels_more names (index + 1) nodes n ∙ ap (λ k. labels_from names (index + 1) nodes ++ label_with_index names k n.1.body) same)
    ∙ sym (append_assoc (label_with_index names index m.1.body) (labels_from names (index + 1) nodes)
    (label_with_index names (index + length (m ∷ nodes)) n.1.body))

pub none_first : (names : Names) → AreFirstFootnotes names [] []
unfolding labels_from with_all
none_first names = record { definitions = []; labels = refl; first = refl }

pub next_node : (names : Names) (nodes : List (ℕ × Item)) (i : ℕ) (d : ℕ × Item) (old new : List (CowStr × ℕ)) → i < length nodes
    → AreFirstFootnotes names (take i nodes) old → AddsNode names i (get_or nodes i d).1 old new → AreFirstFootnotes names (take (i + 1) nodes) new
next_node names nodes i d old new within h more =
    let before : List (ℕ × Item) = take i nodes in
    let n : ℕ × Item = get_or nodes i d in
    let size : i ≡ 0 + length before = omega (arith, length-take-le i nodes (omega arith)) in
    subst (λ l. AreFirstFootnotes names l new) (sym (take_more nodes i d within)) (record {
      definitions = h.definitions ++ more.definitions;
      labels = map-append entry_bytes h.definitions more.definitions
          ∙ ap (λ l. l ++ map entry_bytes more.definitions) h.labels ∙ ap (λ l. labels_from names 0 before ++ l) more.labels
          ∙ ap (λ k. labels_from names 0 before ++ label_with_index names k n.1.body) size ∙ sym (labels_more names 0 before n);
      first = more.added ∙ ap (λ l. with_all l more.definitions) h.first ∙ sym (with_more [] h.definitions more.definitions);
    })

pub no_footnote : (names : Names) (index : ℕ) (body : ItemBody) → ((ix : CowIndex) → body ≡ FootnoteDefinition ix → ⊥) → label_with_index names index body ≡ []
no_footnote names index (FootnoteDefinition ix) h = absurd (h ix refl)
no_footnote names index _ h = refl

-- if one of the nodes has a label, `labels_from` is not empty; the index does not matter
same_count : (names : Names) (i j : ℕ) (body : ItemBody) → length (label_with_index names i body) ≡ length (label_with_index names j body)
same_count names i j (FootnoteDefinition ix) = refl
same_count names i j _ = refl

pub label_among : (names : Names) (index j i : ℕ) (nodes : List (ℕ × Item)) (d : ℕ × Item) → i < length nodes
    → 0 < length (label_with_index names j (get_or nodes i d).1.body) → 0 < length (labels_from names index nodes)
unfolding labels_from
label_among names index j i [] d within some = absurd (omega (arith, within))
label_among names index j zero (n ∷ nodes) d within some = grind (arith, same_count)
label_among names index j (suc i) (n ∷ nodes) d within some = grind (arith, label_among names (index + 1) j i nodes d (omega (arith, within)) some)

pub one_label : (names : Names) (index : ℕ) (ix : CowIndex) (body : ItemBody) → body ≡ FootnoteDefinition ix → 0 < length (label_with_index names index body)
one_label names index ix body e = subst (λ (b : ItemBody). 0 < length (label_with_index names index b)) (sym e) (omega arith)

-- ---- a table that is not empty has a label

none_of : (names : Names) (nodes : List (ℕ × Item)) (definitions : List (CowStr × ℕ)) → map entry_bytes definitions ≡ labels_from names 0 nodes
    → 0 < length (table_of definitions) → 0 < length (labels_from names 0 nodes)
unfolding with_all
none_of names nodes [] labels some = absurd (omega (arith, some))
none_of names nodes (d ∷ definitions) labels some = omega (arith, sym (ap length labels))

pub some_labels : (names : Names) (nodes : List (ℕ × Item)) (table : List (CowStr × ℕ)) → 0 < length table → AreFirstFootnotes names nodes table
    → 0 < length (labels_from names 0 nodes)
some_labels names nodes table some h = none_of names nodes h.definitions h.labels (omega (arith, some, ap length h.first))

-- the labels of a table, as `with_labels` makes them
all_labels : (definitions : List (CowStr × ℕ)) → map entry_label (table_of definitions) ≡ with_labels [] (map entry_label definitions)
all_labels definitions = grind (arith, table_is, map_put_all, put_labels)

-- the labels of nodes are those that the indices of their footnote definitions name
body_labels : (d : Document) (index start : ℕ) (body : ItemBody)
    → map (λ (p : List ℕ × ℕ). p.0) (label_with_index d.names index body) ≡ labels_named d (footnote_in start body)
body_labels d index start (FootnoteDefinition ix) = refl
body_labels d index start _ = refl

node_labels : (d : Document) (index : ℕ) (nodes : List (ℕ × Item))
    → map (λ (p : List ℕ × ℕ). p.0) (labels_from d.names index nodes) ≡ labels_named d (node_footnotes nodes)
unfolding labels_from
node_labels d index [] = refl
node_labels d index (n ∷ nodes) = grind (arith, body_labels, map-append, node_labels d (index + 1) nodes)

-- the table of the nodes of a derived tree
pub same_footnotes : (d : Document) (nodes : List (ℕ × Item)) (tables : Tables) (table : List (CowStr × ℕ)) → Derives d nodes tables
    → AreFirstFootnotes d.names nodes table → map entry_label table ≡ tables.footnotes
same_footnotes d nodes tables table h first =
    let labels : map entry_label first.definitions ≡ footnotes_of h.skeleton =
    sym (map-map (λ (p : List ℕ × ℕ). p.0) entry_bytes first.definitions) ∙ ap (map (λ (p : List ℕ × ℕ). p.0)) first.labels
    ∙ node_labels d 0 nodes ∙ derived_labels d nodes tables h in
    ap (map entry_label) first.first ∙ all_labels first.definitions ∙ ap (with_labels []) labels ∙ sym (ap (λ (t : Tables). t.footnotes) h.tables_are)
