-- The grammar derives at most one forest from a text, read through its indices, and at most one pair of tables.
use Rattle.std.proofs.Common.{◌≡◌, inl, inr, ℕ, true, false, List, ◌∷◌, length, Option, Some, None, IfSome, MatchOption, refl, sym, ap, ◌∙◌, subst, true≢false}
use Rattle.std.proofs.Common.{arith, []}
use Rattle.first_pass_grammar.proofs.Common.{Item, Root, IndentCodeBlock, FencedCodeBlock, MetadataBlock, HtmlBlock, Options, BlockEnd, level_number, Rest}
use Rattle.first_pass_grammar.proofs.Common.{indent, Place, offset, lines_at, Names, Named, read_nodes, read, Context, at_rest, front, footnote_columns}
use Rattle.first_pass_grammar.proofs.Common.{is_quote, Kind, Blank, IndentedCode, Metadata, HtmlToEnd, HtmlToBlank, ThematicBreak, AtxHeading, FencedCode}
use Rattle.first_pass_grammar.proofs.Common.{LinkDefinitions, unindented, IsKindBy, heading_attributes_of, Document, document, around, line_bytes, end_before}
use Rattle.first_pass_grammar.proofs.Common.{heading_text_at, block_with, metadata_kind, until_end, IsHtml, LinkEntry, lines_beyond, ends_run, Beyond, IsRun}
use Rattle.first_pass_grammar.proofs.Common.{none-some, same_Some, Leaf, Opener, Head, label_of, opened, Skeleton, Nil, Then, Node, OpensBeyond, OpensRun}
use Rattle.first_pass_grammar.proofs.Common.{Continues, Line, Blanks, AtPlace, Anything, OnlyALeaf, TextOf, OnlyMark, opening_of, Opening, OpensLeaf, OpensNode}
use Rattle.first_pass_grammar.proofs.Common.{OpensText, OpensExtent, OpensAs, OpensBlockAt, Opens, OpensAt, may_define, Level, level, level_in}
use Rattle.first_pass_grammar.proofs.Common.{level_after_leaf, level_after, Remaining, Lines, NextBlock, Begins, Ends, next_block, onward, after_first, IsFirst}
use Rattle.first_pass_grammar.proofs.Common.{IsSequence, OpensBy, OpensFootnote, Start, start_at, Tables, no_tables, node_of, Derives, range_text, AreRawLines}
use Rattle.first_pass_grammar.proofs.Common.{Ranges, nothing, footnote_head_at, ItemBody}
use Rattle.first_pass_items.specs.declared.item.ItemBody.TheVariants.{Heading as HeadingBody}
use Rattle.first_pass_grammar.specs.declared.kind.Container.{Container}
use Rattle.first_pass_grammar.specs.Kinds.{Paragraph}
use Rattle.first_pass_grammar.specs.Derivation.{IsOnlyDerived}
use Rattle.first_pass_grammar.proofs.Names.NoIndex.{HasNoIndex, only_read, IsWithoutIndex}
use Rattle.first_pass_grammar.proofs.Uniqueness.Alike.{with_names, AlikeNodes, HoldsNoIndex, AlikeLeaf, AlikeOpening, Alike, label_node, opened_alike}
use Rattle.first_pass_grammar.proofs.Uniqueness.Alike.{label_named, raw_alike, block_alike, fence_alike, heading_alike}
use Rattle.first_pass_grammar.proofs.Uniqueness.LinesAlike.{one_heading}
use Rattle.first_pass_grammar.proofs.Uniqueness.TablesAlike.{one_text}
use Rattle.first_pass_grammar.proofs.Sequences.Goings.{same_left}
use Rattle.first_pass_grammar.proofs.Uniqueness.RowsAlike.{closed_alike, end_alike, forest_alike, told_alike, after_alike}
use Rattle.first_pass_grammar.proofs.Sequences.PlacesKept.{Anywhere, anywhere_kept, each_anywhere}
use Rattle.first_pass_grammar.proofs.Each.EachOpening.{HoldsOfContainers, OpensContainer, container_opens, first_from}
use Rattle.first_pass_grammar.proofs.Names.NamedItems.{IsFree, text_is_free}

-- a place has one kind
one_kind : (r : Rest) (first : Option Kind) (k k' : Kind) → IsKindBy r first k → IsKindBy r first k' → k ≡ k'
one_kind r (Some first) k k' e f = e ∙ sym f
one_kind r None k k' (inl (n, tag, e)) (inl (n', tag', f)) = e ∙ sym f
one_kind r None k k' (inl (n, tag, e)) (inr (other, f)) = absurd (other n tag)
one_kind r None k k' (inr (other, e)) (inl (n, tag, f)) = absurd (other n tag)
one_kind r None k k' (inr (other, e)) (inr (other', f)) = e ∙ sym f

-- the text at a place opens alike
one_text_opening : (d : Document) (n : Names) (path : List Container) (p : Place) (lines : List Place) (marker : Option Item) (o o' : Opening)
    → IfSome marker HasNoIndex → OpensText d path p lines marker o → OpensText (with_names d n) path p lines marker o' → AlikeOpening d.names n o o'
unfolding OpensText
one_text_opening d n path p lines marker o o' free h9 h10 = grind (arith, one_text)

-- the items of a block with raw lines read alike if its first item does
module _ (range : Ranges) (free : IsFree range) (d : Document) (n : Names) (places : List Place) (chain chain' : List Item)
    (are : AreRawLines range d [] places chain) (are' : AreRawLines range (with_names d n) [] places chain') where
  raw_block : (start stop : ℕ) (body body' : ItemBody) (xs ys : List (ℕ × Item)) → read d.names (node_of start stop body) ≡ read n (node_of start stop body')
      → xs ≡ block_with start stop body chain → ys ≡ block_with start stop body' chain' → AlikeNodes d.names n xs ys
  raw_block start stop body body' xs ys own e f =
      ap (read_nodes d.names) e
      ∙ block_alike d.names n start stop body body' chain chain' own (raw_alike range free d n [] [] places chain chain' refl are are')
      ∙ sym (ap (read_nodes n) f)

one_html : (d : Document) (n : Names) (start columns : ℕ) (places : List Place) («end» : ℕ) (xs ys : List (ℕ × Item))
    → IsHtml d start columns places «end» xs → IsHtml (with_names d n) start columns places «end» ys → AlikeNodes d.names n xs ys
one_html d n start columns places end xs ys h k = grind (arith, raw_block, HtmlBlock)

-- one run begins at a place, with one thing after it
ends_not : (around : Context) (a b : List Place) → ends_run around a ≡ true → a ≡ b → ends_run around b ≡ false → ⊥
ends_not around a b stops is on = true≢false (sym stops ∙ ap (ends_run around) is ∙ on)

one_run : (around : Context) (p : Place) (lines : List Place) (xs ys : List LinkEntry) (b c : Beyond)
    → IsRun around p lines xs b → IsRun around p lines ys c → (xs ≡ ys) × (b ≡ c)
unfolding IsRun
one_run around p lines [] [] b c (h, e) (k, f) = (refl, e ∙ sym f)
one_run around p lines [] (y ∷ ys) b c (h, e) (k, f) = absurd (none-some y (sym h ∙ k))
one_run around p lines (x ∷ xs) [] b c (h, e) (k, f) = absurd (none-some x (sym k ∙ h))
one_run around p lines (x ∷ xs) (y ∷ ys) b c (h, inl (stops, m, e)) (k, inl (stops', m', f)) = grind (arith, same_Some)
one_run around p lines (x ∷ xs) (y ∷ ys) b c (h, inl (stops, m, e)) (k, inr (line, left, is, on, more)) = grind (arith, same_Some, ends_not)
one_run around p lines (x ∷ xs) (y ∷ ys) b c (h, inr (line, left, is, on, more)) (k, inl (stops, m, e)) = grind (arith, same_Some, ends_not)
one_run around p lines (x ∷ xs) (y ∷ ys) b c (h, inr (line, left, is, on, more)) (k, inr (line', left', is', on', more')) =
    let s : x ≡ y = same_Some x y (sym h ∙ k) in
    let both : line ∷ left ≡ line' ∷ left' = sym is ∙ ap (λ (z : LinkEntry). lines_beyond z.«end» lines) s ∙ is' in
    let first : line ≡ line' = cc in
    let later : left ≡ left' = cc in
    grind (arith, one_run around (unindented (at_rest line (front around.path line.rest))) left xs ys b c more (rw (first, later) more'))

-- what follows a run reads alike
one_beyond : (d : Document) (n : Names) (path : List Container) (xs : List LinkEntry) (b : Beyond) (o o' : Opening)
    → OpensBeyond d path xs b o → OpensBeyond (with_names d n) path xs b o' → AlikeOpening d.names n o o'
one_beyond d n path xs b o o' e f = grind (arith, one_text)

one_run_opening : (d : Document) (n : Names) (path : List Container) (p : Place) (lines : List Place) (o o' : Opening)
    → OpensRun d path p lines o → OpensRun (with_names d n) path p lines o' → AlikeOpening d.names n o o'
unfolding OpensRun
one_run_opening d n path p lines o o' h7 h8 = grind (arith, one_run, one_beyond)

-- the block of one kind at a place reads alike
opens_once : (d : Document) (n : Names) (path : List Container) (p : Place) (lines : List Place) (k : Kind) (o o' : Opening)
    → OpensAs d path p lines k o → OpensAs (with_names d n) path p lines k o' → AlikeOpening d.names n o o'
unfolding OpensAs
opens_once d n path p lines Blank o o' e f = rw (e, f) (tt, refl, tt, refl)
opens_once d n path p lines IndentedCode o o' (xs, h, e) (ys, k, f) =
    let same = raw_block range_text text_is_free d n _ h.chain k.chain h.lines k.lines _ _ IndentCodeBlock IndentCodeBlock xs ys refl h.items_are k.items_are in
    rw (e, f) ((refl, same, refl, refl), refl, tt, refl)
opens_once d n path p lines (Metadata byte) o o' (xs, h, e) (ys, k, f) =
    let body : ItemBody = MetadataBlock (metadata_kind byte) in
    let same = raw_block range_text text_is_free d n _ h.chain k.chain h.lines k.lines _ _ body body xs ys refl h.items_are k.items_are in
    rw (e, f) ((refl, same, refl, refl), refl, tt, refl)
opens_once d n path p lines HtmlToEnd o o' (until, is, (xs, h, e)) (until', is', f) =
    let found : Some until' ≡ Some until = sym is' ∙ is in
    let same : until' ≡ until = cc in
    let (ys, k, g) = subst (λ (t : BlockEnd).
    let y = until_end (length d.text) path t (unindented p) lines in
    OpensExtent HtmlToEnd p y (IsHtml (with_names d n) (offset (unindented p)) (indent p.rest) y.places y.«end») o') same f in
    rw (e, g) ((refl, one_html d n _ _ _ _ xs ys h k, refl, refl), refl, tt, refl)
opens_once d n path p lines HtmlToBlank o o' (xs, h, e) (ys, k, f) = rw (e, f) ((refl, one_html d n _ _ _ _ xs ys h k, refl, refl), refl, tt, refl)
opens_once d n path p lines (ThematicBreak size) o o' e f = grind (arith, block_alike)
opens_once d n path p lines (AtxHeading level) o o' (i, c, e, h, f) (i', c', e', h', f') =
    let text : ℕ = heading_text_at d.text (offset (unindented p)) (level_number level) in
    let s = one_heading d n text i i' c c' e e' h h' in
    let start : ℕ = offset (unindented p) in
    let own = heading_alike d.names n start e level i i' (heading_attributes_of d.options (line_bytes d text)) h.named h'.named in
    grind (arith, block_alike d.names n start e (HeadingBody level i) (HeadingBody level i') c c' own s.0)
opens_once d n path p lines (FencedCode count byte) o o' (xs, h, e) (ys, k, f) =
    let own = fence_alike d.names n _ _ h.info k.info _ (h.names.named, h.names.at, h.names.text) (k.names.named, k.names.at, k.names.text) in
    let same = raw_block range_text text_is_free d n _ h.chain k.chain h.lines k.lines _ _ (FencedCodeBlock h.info) (FencedCodeBlock k.info) xs ys own
    h.items_are k.items_are in
    rw (e, f) ((refl, same, refl, refl), refl, tt, refl)
opens_once d n path p lines LinkDefinitions o o' e f = one_run_opening d n path p lines o o' e f
opens_once d n path p lines Paragraph o o' e f = one_text_opening d n path p lines None o o' tt e f

opens_block : (d : Document) (n : Names) (path : List Container) (p : Place) (lines : List Place) (o o' : Opening)
    → OpensBlockAt d path p lines o → OpensBlockAt (with_names d n) path p lines o' → AlikeOpening d.names n o o'
opens_block d n path p lines o o' h7 h8 = grind (arith, opens_once, one_kind)

-- a container without a label that opens reads alike; the marker where its blocks continue, if there is one, has no
-- index
abbrev IsUnlabelled : Head → Type 0
IsUnlabelled head = label_node head.opener ≡ []

unlabelled : (o : Opener) → label_of o ≡ [] → label_node o ≡ []
unlabelled o h = grind arith

containers_free : HoldsOfContainers Anywhere IsWithoutIndex IsUnlabelled
containers_free = record { kept = anywhere_kept; task = λ checked. refl; plain = λ head none. unlabelled head.opener none }

node_alike : (m n : Names) (o : Opening) → OpensContainer Anywhere IsWithoutIndex IsUnlabelled o → AlikeOpening m n o o
node_alike m n o h = grind arith

opens_by : (d : Document) (n : Names) (path : List Container) (p : Place) (lines : List Place) (q : Option Start) (o o' : Opening)
    → ((s : Start) → q ≡ Some s → OpensContainer Anywhere IsWithoutIndex IsUnlabelled (opening_of d path p lines s)) → OpensBy d path p lines q o
    → OpensBy (with_names d n) path p lines q o' → AlikeOpening d.names n o o'
unfolding OpensBy
opens_by d n path p lines (Some s) o o' free e f = rw (e, f) (node_alike d.names n (opening_of d path p lines s) (free s refl))
opens_by d n path p lines None o o' free e f = opens_block d n path p lines o o' e f

-- a footnote definition, or another block
by_head : (d : Document) (n : Names) (l : Level) (p : Place) (lines : List Place) (head : Option (ℕ × List ℕ)) (o o' : Opening)
    → MatchOption head (OpensBy d l.path p lines (start_at d.options (may_define d l) p) o) (λ h. OpensFootnote d p lines h o)
    → MatchOption head (OpensBy (with_names d n) l.path p lines (start_at d.options (may_define d l) p) o') (λ h. OpensFootnote (with_names d n) p lines h o')
    → AlikeOpening d.names n o o'
unfolding OpensFootnote
by_head d n l p lines None o o' e f =
    opens_by d n l.path p lines (start_at d.options (may_define d l) p) o o'
    (λ s is. container_opens d Anywhere IsWithoutIndex IsUnlabelled containers_free l.path p lines (may_define d l) s tt (each_anywhere lines) is) e f
by_head d n l p lines (Some (size, label)) o o' (i, named, e) (j, named', f) =
    rw (e, f) ((refl, label_named d.names n (footnote_columns d.options) i j _ label named named'), refl, (tt, tt), refl)

-- one thing opens at a place, and it reads alike
pub one_opening : (d : Document) (n : Names) (l : Level) (p : Place) (lines : List Place) (o o' : Opening)
    → Opens d l p lines o → Opens (with_names d n) l p lines o' → AlikeOpening d.names n o o'
one_opening d n l p lines o o' e f = by_head d n l p lines (footnote_head_at (around d l.path) p) o o' e f

opens_at : (d : Document) (n : Names) (l : Level) (from : Continues) (p : Place) (lines : List Place) (o o' : Opening) → HoldsNoIndex from
    → OpensAt d l from p lines o → OpensAt (with_names d n) l from p lines o' → AlikeOpening d.names n o o'
opens_at d n l Line p lines o o' h e f = one_opening d n l p lines o o' e f
opens_at d n l (AtPlace q Anything) p lines o o' h e f = one_opening d n l p lines o o' e f
opens_at d n l (AtPlace q OnlyALeaf) p lines o o' h e f = opens_block d n l.path p lines o o' e f
opens_at d n l (Blanks x) p lines o o' h e f = one_opening d n l p lines o o' e f
opens_at d n l (AtPlace q (TextOf marker)) p lines o o' h e f = one_text_opening d n l.path p lines (Some marker) o o' h.1 e f
opens_at d n l (AtPlace q (OnlyMark marker blanks)) p lines o o' h e f = grind (arith, only_read)

-- a block begins at one place
begins_once : (p q : Place) (a b : List Place) (g : NextBlock) → g ≡ Begins p a → g ≡ Begins q b → (p ≡ q) × (a ≡ b)
begins_once p q a b g e f = let s : Begins p a ≡ Begins q b = sym e ∙ f in (cc, cc)

-- a first block opens in one way; none begins where a sequence ends
first_once : (d : Document) (n : Names) (l : Level) (from : Continues) (lines : List Place) (o o' : Opening) → HoldsNoIndex from
    → IsFirst d l from lines o → IsFirst (with_names d n) l from lines o' → AlikeOpening d.names n o o'
first_once d n l from lines o o' h f g = grind (arith, begins_once, opens_at)

first_ends : (d : Document) (l : Level) (from : Continues) (lines : List Place) (left : Remaining) (o : Opening) → next_block d.options l from lines ≡ Ends left
    → IsFirst d l from lines o → ⊥
first_ends d l from lines left o e f = (let s : Ends left ≡ Begins f.place f.following = sym e ∙ f.begins in cc)

-- a sequence has no block where it ends
pub ends_at_once : (d : Document) (s : Skeleton) (l : Level) (from : Continues) (lines : List Place) (stop left : Remaining)
    → next_block d.options l from lines ≡ Ends stop → IsSequence d s l from lines left → (s ≡ Nil) × (left ≡ stop)
unfolding IsSequence
ends_at_once d Nil l from lines stop left e f = (refl, same_left left stop (sym f ∙ e))
ends_at_once d (Then leaf next) l from lines stop left e (there, mid, first, seq) = absurd (first_ends d l from lines stop (OpensLeaf leaf there mid) e first)
ends_at_once d (Node head e' kids next) l from lines stop left e (inside, following, mid, first, inner, is, seq) = grind (arith, first_ends)

onward_free : (left : Remaining) → HoldsNoIndex (onward left).0
onward_free left = grind arith

leaf_after : (m n : Names) (l : Level) (leaf leaf' : Leaf) → AlikeLeaf m n leaf leaf' → level_after_leaf l leaf ≡ level_after_leaf l leaf'
leaf_after m n l leaf leaf' a = grind (arith, after_alike)

-- two sequences from the same place on are alike, and leave the same lines
pub one_sequence : (d : Document) (n : Names) (s t : Skeleton) (l : Level) (from : Continues) (lines : List Place) (a b : Remaining) → HoldsNoIndex from
    → IsSequence d s l from lines a → IsSequence (with_names d n) t l from lines b → Alike d.names n s t × (a ≡ b)
unfolding IsSequence
one_sequence d n Nil t l from lines a b free e f =
    let r = ends_at_once (with_names d n) t l from lines a b e f in (subst (Alike d.names n Nil) (sym r.0) tt, sym r.1)
one_sequence d n s Nil l from lines a b free e f = grind (arith, ends_at_once)
one_sequence d n (Then leaf next) (Then leaf' next') l from lines a b free (there, mid, first, seq) (there', mid', first', seq') =
    let o = first_once d n l from lines (OpensLeaf leaf there mid) (OpensLeaf leaf' there' mid') free first first' in
    let r = one_sequence d n next next' (level_after_leaf l leaf) (after_first from there) mid a b (first_from Anywhere IsWithoutIndex from there o.2) seq
    (rw (leaf_after d.names n l leaf leaf' o.0, o.1, o.3) seq') in
    ((o.0, r.0), r.1)
one_sequence d n (Then leaf next) (Node head x kids next') l from lines a b free (there, mid, first, seq) (inside, following, mid', first', inner, is, seq') =
    absurd (first_once d n l from lines (OpensLeaf leaf there mid) (OpensNode head inside following) free first first')
one_sequence d n (Node head x kids next) (Then leaf next') l from lines a b free (inside, following, mid', first', inner, is, seq') (there, mid, first, seq) =
    absurd (first_once d n l from lines (OpensNode head inside following) (OpensLeaf leaf there mid) free first' first)
one_sequence d n (Node head x kids next) (Node head' x' kids' next') l from lines a b free (inside, following, mid, first, inner, is, seq)
    (inside', following', mid', first', inner', is', seq') =
    let o = first_once d n l from lines (OpensNode head inside following) (OpensNode head' inside' following') free first first' in
    let h = one_sequence d n kids kids' (level_in (opened head.opener) l) inside following mid mid' o.2 inner
    (rw (opened_alike head head' o.0.0, o.1, o.3) inner') in
    let m : mid ≡ mid' = h.1 in
    let same : level_after l head kids ≡ level_after l head' kids' =
    ap (level l.path) (closed_alike head head' kids kids' o.0.0 (end_alike d.names n (is_quote (opened head.opener)) nothing kids kids' h.0)) in
    let r = one_sequence d n next next' (level_after l head kids) (after_first from (onward mid).0) (onward mid).1 a b
    (first_from Anywhere IsWithoutIndex from (onward mid).0 (onward_free mid)) seq (rw (same, m) seq') in
    let e : x ≡ x' = is ∙ ap (λ z. end_before (length d.text) l.path z mid) o.1 ∙ ap (end_before (length d.text) l.path inside') m ∙ sym is' in
    ((o.0, e, h.0, r.0), r.1)

pub one_forest : (text : List ℕ) (options : Options) (m n : Names) (f g : List (ℕ × Item)) (t u : Tables)
    → Derives (document text options m) f t → Derives (document text options n) g u → (read_nodes m f ≡ read_nodes n g) × (t ≡ u)
one_forest text options m n f g t u x y =
    let d : Document = document text options m in
    let s = (one_sequence d n x.skeleton y.skeleton (level [] nothing) Line (lines_at 0 text) (Lines []) (Lines []) tt x.sequence y.sequence).0 in
    let root : ℕ × (Item × Option Named) = (0, (node_of 0 (length text) Root, None)) in (
      grind (arith, forest_alike),
      x.tables_are ∙ told_alike m n no_tables x.skeleton y.skeleton s ∙ sym y.tables_are,
    )

-- if the grammar derives this, it derives nothing else
pub only_derived : (text : List ℕ) (options : Options) (names : Names) (forest : List (ℕ × Item)) (tables : Tables)
    → Derives (document text options names) forest tables → IsOnlyDerived text options names forest tables
only_derived text options names forest tables is = record {
  nodes_are = λ n g u other. (one_forest text options n names g forest u tables other is).0;
  tables_are = λ n g u other. (one_forest text options n names g forest u tables other is).1;
}
