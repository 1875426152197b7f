-- The rows of skeletons that are alike are alike too, and their items read alike.
use Rattle.std.proofs.Common.{◌≡◌, ℕ, suc, ◌||◌, not, Bool, false, List, ◌∷◌, ◌++◌, map, Option, Some, None, refl, sym, ap, ◌∙◌, subst, if◌then◌else◌}
use Rattle.std.proofs.Common.{option_map, arith, []}
use Rattle.first_pass_grammar.proofs.Common.{Item, DefinitionListTitle, at_depth, Names, Named, read_nodes, Kind, LeafBlock, BlankLine, Block, Head, Opener}
use Rattle.first_pass_grammar.proofs.Common.{QuoteMarker, ItemMarker, FootnoteMarker, DefinitionMarker, opened, Skeleton, Nil, Then, Node, Before, nothing}
use Rattle.first_pass_grammar.proofs.Common.{after_blank, after_block, after_container, before_end, is_paragraph_body, begins_paragraph, is_quote, What, ALeaf}
use Rattle.first_pass_grammar.proofs.Common.{AFootnote, Row, Rows, End, OneOf, gapped, any_gap, is_loose, Joins, ItemsOf, DefinitionsTo, ATitle, continues_list}
use Rattle.first_pass_grammar.proofs.Common.{Definitions, apart_after, is_untitled, is_run_row, definitions_first, titled, leaf_row, gap_before, end_of_row}
use Rattle.first_pass_grammar.proofs.Common.{list_until, items_after, list_after, row_of, row_of_leaf, container_row, rows_of, what_of, as_title, Tables}
use Rattle.first_pass_grammar.proofs.Common.{definitions_of, footnotes_of, with_all_of, node_of, list_flags, row_items, tight_in, items_of, option_map_or}
use Rattle.first_pass_items.specs.declared.item.ItemBody.TheVariants.{BlockQuote as BlockQuoteBody, List as ListBody, ListItem as ListItemBody}
use Rattle.first_pass_items.specs.declared.item.ItemBody.TheVariants.{FootnoteDefinition as FootnoteDefinitionBody, DefinitionList as DefinitionListBody}
use Rattle.first_pass_items.specs.declared.item.ItemBody.TheVariants.{DefinitionListDefinition as DefinitionBody}
use Rattle.first_pass_grammar.specs.declared.kind.Container.{Container}
use Rattle.first_pass_grammar.specs.Rows.{AQuote, AList, AnItem, Untitled, ADefinitionList, ADefinition, end_of_list_before, in_list}
use Rattle.first_pass_grammar.proofs.Uniqueness.Alike.{AlikeNodes, AlikeLeaf, AlikeHead, stands, only_head, only_opener, label_node, opened_alike, chosen}
use Rattle.first_pass_grammar.proofs.Uniqueness.Alike.{label_alike, kind_tests, Alike, nodes_append, tight_read, read_tight, read_at_depth}

-- a leaf block with this kind, line, start and gap, without items and definitions
abbrev bare_block : Kind × ℕ × ℕ → Bool → LeafBlock
bare_block z gap = record { kind = z.0; line = z.1; start = z.2; items = []; gap = gap; definitions = [] }

-- a row without the items of its leaf block and the index of its label
abbrev bare_what : What → What
bare_what (ALeaf b) = ALeaf (bare_block (stands b) b.gap)
bare_what (AFootnote index e) = AFootnote (record { 0 = 0 }) e
bare_what (ATitle b) = ATitle (bare_block (stands b) b.gap)
bare_what w = w

-- the items of a row's leaf block, or a node with the index of its label
abbrev inside : What → List (ℕ × Item)
inside (ALeaf b) = b.items
inside (ATitle b) = b.items
inside (AFootnote index e) = (0, node_of 0 0 (FootnoteDefinitionBody index)) ∷ []
inside w = []

abbrev bare : Row → Row
bare row = record { what = bare_what row.what; line = row.line; start = row.start; gap = row.gap }

abbrev AlikeRow : Names → Names → Row → Row → Type 0
AlikeRow m n row row' = (bare row ≡ bare row') × AlikeNodes m n (inside row.what) (inside row'.what)

abbrev AlikeRows : Names → Names → Rows → Rows → Type 0
AlikeRows m n End End = Unit {0}
AlikeRows m n (OneOf row inner next) (OneOf row' inner' next') = AlikeRow m n row row' × AlikeRows m n inner inner' × AlikeRows m n next next'
AlikeRows m n _ _ = ⊥

-- what rows say of lists and definitions does not depend on that
abbrev facts : Joins → ℕ → Bool → Bool → Row → Bool × ℕ × ℕ × Bool × Bool × Bool
facts joins last tight loose row = (
  continues_list joins row.what,
  end_of_row row.what last,
  end_of_list_before joins row,
  tight_in tight loose row.what,
  is_untitled row.what,
  is_run_row row.what,
)

facts_bare : (joins : Joins) (last : ℕ) (tight loose : Bool) (line start : ℕ) (gap : Bool) (w : What)
    → facts joins last tight loose (record { what = bare_what w; line = line; start = start; gap = gap })
    ≡ facts joins last tight loose (record { what = w; line = line; start = start; gap = gap })
facts_bare joins last tight loose line start gap w = grind arith

facts_alike : (m n : Names) (joins : Joins) (last : ℕ) (tight loose : Bool) (row row' : Row) → AlikeRow m n row row'
    → facts joins last tight loose row ≡ facts joins last tight loose row'
facts_alike m n joins last tight loose row row' a = grind (arith, facts_bare)

same_list : (m n : Names) (joins : Joins) (row row' : Row) → AlikeRow m n row row' → continues_list joins row.what ≡ continues_list joins row'.what
same_list m n joins row row' a = ap (λ z. z.0) (facts_alike m n joins 0 false false row row' a)

gapped_alike : (m n : Names) (gap gap' : Bool) (r r' : Rows) → gap ≡ gap' → AlikeRows m n r r' → AlikeRows m n (gapped gap r) (gapped gap' r')
gapped_alike m n gap gap' r r' is a = grind arith

any_alike : (m n : Names) (r r' : Rows) → AlikeRows m n r r' → any_gap r ≡ any_gap r'
unfolding any_gap
any_alike m n End End a = refl
any_alike m n (OneOf row inner next) (OneOf row' inner' next') a = (let more = any_alike m n next next' a.2 in λ i. (a.0.0 i).gap || more i)
any_alike m n r r' a = absurd a

loose_alike : (m n : Names) (r r' : Rows) → AlikeRows m n r r' → is_loose r ≡ is_loose r'
unfolding is_loose
loose_alike m n End End a = refl
loose_alike m n (OneOf row inner next) (OneOf row' inner' next') a = grind (arith, any_alike, loose_alike m n next next' a.2)
loose_alike m n r r' a = absurd a

until_alike : (m n : Names) (joins : Joins) (last : ℕ) (r r' : Rows) → AlikeRows m n r r' → list_until joins last r ≡ list_until joins last r'
until_alike m n joins last r r' a = grind (arith, facts_alike)

items_alike : (m n : Names) (joins : Joins) (r r' : Rows) → AlikeRows m n r r' → AlikeRows m n (items_after joins r) (items_after joins r')
items_alike m n joins r r' a = grind (arith, chosen, same_list, gapped_alike)

past_alike : (m n : Names) (joins : Joins) (r r' : Rows) → AlikeRows m n r r' → AlikeRows m n (list_after joins r) (list_after joins r')
past_alike m n joins r r' a = grind (arith, chosen, same_list)

ends_alike : (m n : Names) (last : ℕ) (row row' : Row) → AlikeRow m n row row' → end_of_row row.what last ≡ end_of_row row'.what last
ends_alike m n last row row' a = ap (λ z. z.1) (facts_alike m n (ItemsOf 0) last false false row row' a)

-- a list from alike rows on
module _ (m n : Names) where
  list_alike : (last : ℕ) (what : ℕ → What) (joins : Joins) (row row' : Row) (inner inner' next next' : Rows)
      → ((e : ℕ) → inside (what e) ≡ []) → AlikeRows m n (OneOf row inner next) (OneOf row' inner' next')
      → AlikeRows m n (in_list last what row inner next joins) (in_list last what row' inner' next' joins)
  list_alike last what joins row row' inner inner' next next' none a = grind (arith, until_alike, gapped_alike, items_alike, past_alike)

-- containers with the same opener, before alike rows
container_alike : (m n : Names) (last : ℕ) (o : Opener) (row row' : Row) (inner inner' next next' : Rows)
    → AlikeRows m n (OneOf row inner next) (OneOf row' inner' next')
    → AlikeRows m n (container_row last o row inner next) (container_row last o row' inner' next')
container_alike m n last (QuoteMarker kind) row row' inner inner' next next' a = a
container_alike m n last (FootnoteMarker columns index label) row row' inner inner' next next' a = a
container_alike m n last (ItemMarker byte number columns) row row' inner inner' next next' a =
    list_alike m n last (AList byte number) (ItemsOf byte) row row' inner inner' next next' (λ e. refl) a
container_alike m n last (DefinitionMarker columns) row row' inner inner' next next' a =
    let first : Rows = in_list last (ADefinitionList Untitled) row inner next (DefinitionsTo (end_of_row row.what last)) in
    subst (λ e. AlikeRows m n first (in_list last (ADefinitionList Untitled) row' inner' next' (DefinitionsTo e))) (ends_alike m n last row row' a.0)
    (list_alike m n last (ADefinitionList Untitled) (DefinitionsTo (end_of_row row.what last)) row row' inner inner' next next' (λ e. refl) a)

-- the rows of a container do not depend on the index of its label, and neither does its row without that index
only_row : (last : ℕ) (o : Opener) (row : Row) (inner next : Rows) → container_row last (only_opener o) row inner next ≡ container_row last o row inner next
only_row last o row inner next = grind arith

only_what : (o : Opener) (e : ℕ) → what_of (only_opener o) e ≡ bare_what (what_of o e)
only_what o e = grind arith

label_inside : (o : Opener) (e : ℕ) → inside (what_of o e) ≡ label_node o
label_inside o e = grind arith

-- the rows of containers that begin alike
head_alike : (m n : Names) (head head' : Head) (e e' : ℕ) (gap : Bool) → AlikeHead m n head head' → e ≡ e'
    → AlikeRow m n (row_of head e gap) (row_of head' e' gap)
head_alike m n head head' e e' gap a is = grind (arith, only_what, label_inside)

opener_alike : (last : ℕ) (head head' : Head) (row : Row) (inner next : Rows) → only_head head ≡ only_head head'
    → container_row last head.opener row inner next ≡ container_row last head'.opener row inner next
opener_alike last head head' row inner next is = grind (arith, only_row)

leaf_bare : (b b' : LeafBlock) (gap : Bool) → stands b ≡ stands b' → b.gap ≡ b'.gap → bare (row_of_leaf b gap) ≡ bare (row_of_leaf b' gap)
leaf_bare b b' gap is own = λ i. row_of_leaf (bare_block (is i) (own i)) gap

abbrev begins_read : List (ℕ × (Item × Option Named)) → Bool
begins_read [] = false
begins_read (x ∷ more) = is_paragraph_body x.1.0.body

begins_is : (m : Names) (items : List (ℕ × Item)) → begins_read (read_nodes m items) ≡ begins_paragraph items
begins_is m items = grind (arith, kind_tests)

-- If of two blocks that are alike one is a paragraph, so is the other.
pub begins_alike : (m n : Names) (items items' : List (ℕ × Item)) → AlikeNodes m n items items' → begins_paragraph items ≡ begins_paragraph items'
begins_alike m n items items' a = sym (begins_is m items) ∙ ap begins_read a ∙ begins_is n items'

-- alike blocks precede what follows them in the same way
pub after_alike : (m n : Names) (before : Before) (b b' : LeafBlock) → AlikeLeaf m n (Block b) (Block b') → after_block before b ≡ after_block before b'
after_alike m n before b b' a = grind (arith, begins_alike)

-- the definitions at the start of alike rows
abbrev AlikeFirst : Names → Names → Option Definitions → Option Definitions → Type 0
AlikeFirst m n None None = Unit {0}
AlikeFirst m n (Some ds) (Some ds') =
    (ds.«end» ≡ ds'.«end») × (ds.apart ≡ ds'.apart) × AlikeRows m n ds.items ds'.items × AlikeRows m n ds.beside ds'.beside
AlikeFirst m n _ _ = ⊥

apart_alike : (m n : Names) (row row' : Row) (inner inner' : Rows) (o o' : Option Definitions) → AlikeRow m n row row' → AlikeRows m n inner inner'
    → AlikeFirst m n o o' → AlikeFirst m n (option_map (apart_after row inner) o) (option_map (apart_after row' inner') o')
apart_alike m n row row' inner inner' o o' a b f = grind arith

first_alike : (m n : Names) (r r' : Rows) → AlikeRows m n r r' → AlikeFirst m n (definitions_first r) (definitions_first r')
unfolding definitions_first
first_alike m n End End a = tt
first_alike m n (OneOf row inner next) (OneOf row' inner' next') a =
    grind (arith, chosen, facts_alike, ends_alike, gapped_alike, apart_alike, first_alike m n next next' a.2)
first_alike m n r r' a = absurd a

-- the rows of alike blocks before alike rows
titled_alike : (m n : Names) (b b' : LeafBlock) (gap : Bool) (o o' : Option Definitions) (next next' : Rows) → AlikeLeaf m n (Block b) (Block b')
    → AlikeFirst m n o o' → AlikeRows m n next next' → AlikeRows m n (option_map_or (titled b gap) o (OneOf (row_of_leaf b gap) End next))
    (option_map_or (titled b' gap) o' (OneOf (row_of_leaf b' gap) End next'))
titled_alike m n b b' gap o o' next next' own f a = grind (arith, leaf_bare)

leaf_alike : (m n : Names) (before : Before) (b b' : LeafBlock) (next next' : Rows) → AlikeLeaf m n (Block b) (Block b') → AlikeRows m n next next'
    → AlikeRows m n (leaf_row b (gap_before before b) next) (leaf_row b' (gap_before before b') next')
leaf_alike m n before b b' next next' own a = grind (arith, begins_alike, titled_alike, chosen, first_alike)

-- what precedes the block after a container, if what precedes its end does not change
pub closed_alike : (head head' : Head) (kids kids' : Skeleton) → only_head head ≡ only_head head'
    → (let quote : Bool = is_quote (opened head.opener) in before_end quote nothing kids ≡ before_end quote nothing kids')
    → after_container (opened head.opener) (before_end (is_quote (opened head.opener)) nothing kids)
    ≡ after_container (opened head'.opener) (before_end (is_quote (opened head'.opener)) nothing kids')
closed_alike head head' kids kids' own is = grind (arith, opened_alike)

-- what precedes the end of alike skeletons
pub end_alike : (m n : Names) (quoted : Bool) (before : Before) (s t : Skeleton) → Alike m n s t → before_end quoted before s ≡ before_end quoted before t
unfolding before_end
end_alike m n quoted before Nil Nil a = refl
end_alike m n quoted before (Then BlankLine next) (Then BlankLine next') a = end_alike m n quoted (after_blank quoted before) next next' a.1
end_alike m n quoted before (Then (Block b) next) (Then (Block b') next') a =
    grind (arith, after_alike, end_alike m n quoted (after_block before b) next next' a.1)
end_alike m n quoted before (Then leaf next) (Then leaf' next') a = absurd a.0
end_alike m n quoted before (Node head e kids next) (Node head' e' kids' next') a =
    let quote : Bool = is_quote (opened head.opener) in
    end_alike m n quoted (after_container (opened head.opener) (before_end quote nothing kids)) next next' a.3
    ∙ ap (λ z. before_end quoted z next') (closed_alike head head' kids kids' a.0.0 (end_alike m n quote nothing kids kids' a.2))
end_alike m n quoted before s t a = absurd a

-- the rows of alike skeletons
rows_alike : (m n : Names) (quoted : Bool) (before : Before) (last : ℕ) (s t : Skeleton) → Alike m n s t
    → AlikeRows m n (rows_of quoted before last s) (rows_of quoted before last t)
unfolding rows_of
rows_alike m n quoted before last Nil Nil a = tt
rows_alike m n quoted before last (Then BlankLine next) (Then BlankLine next') a = rows_alike m n quoted (after_blank quoted before) last next next' a.1
rows_alike m n quoted before last (Then (Block b) next) (Then (Block b') next') a =
    grind (arith, leaf_alike, after_alike, rows_alike m n quoted (after_block before b) last next next' a.1)
rows_alike m n quoted before last (Then leaf next) (Then leaf' next') a = absurd a.0
rows_alike m n quoted before last (Node head e kids next) (Node head' e' kids' next') a =
    let c : Container = opened head.opener in
    let now : Before = after_container c (before_end (is_quote c) nothing kids) in
    let own = subst (λ (z : Container × ℕ). AlikeRows m n (rows_of (is_quote c) nothing e kids) (rows_of (is_quote z.0) nothing z.1 kids'))
    (λ i. (opened_alike head head' a.0.0 i, a.1 i)) (rows_alike m n (is_quote c) nothing e kids kids' a.2) in
    let after = subst (λ z. AlikeRows m n (rows_of quoted now last next) (rows_of quoted z last next'))
    (closed_alike head head' kids kids' a.0.0 (end_alike m n (is_quote c) nothing kids kids' a.2)) (rows_alike m n quoted now last next next' a.3) in
    subst (AlikeRows m n (rows_of quoted before last (Node head e kids next))) (opener_alike last head head' (row_of head' e' before.counted) _ _ a.0.0)
    (container_alike m n last head.opener (row_of head e before.counted) (row_of head' e' before.counted) _ _ _ _
    (head_alike m n head head' e e' before.counted a.0 a.1, own, after))
rows_alike m n quoted before last s t a = absurd a

-- a footnote definition as it is read, given how its index is read
abbrev footnote_shown : ℕ → ℕ → ℕ → List (ℕ × (Item × Option Named)) → List (ℕ × (Item × Option Named))
footnote_shown depth start e [] = []
footnote_shown depth start e (x ∷ more) = (depth, (node_of start e x.1.0.body, x.1.1)) ∷ []

-- a title as it is read
abbrev title_shown : List (ℕ × (Item × Option Named)) → List (ℕ × (Item × Option Named))
title_shown [] = []
title_shown (x ∷ more) = (x.0, (node_of x.1.0.start x.1.0.«end» DefinitionListTitle, None)) ∷ more

title_read : (m : Names) (items : List (ℕ × Item)) → read_nodes m (as_title items) ≡ title_shown (read_nodes m items)
title_read m items = grind arith

-- a row as it is read
abbrev shown : ℕ → Bool → Bool → ℕ → What → List (ℕ × (Item × Option Named)) → List (ℕ × (Item × Option Named))
shown depth tight loose start (ALeaf b) items = if tight then map (tight_read depth) (at_depth depth items) else at_depth depth items
shown depth tight loose start (AQuote kind e) items = (depth, (node_of start e (BlockQuoteBody kind), None)) ∷ []
shown depth tight loose start (AList byte number e) items = (depth, (node_of start e (ListBody (list_flags (not loose)) byte number), None)) ∷ []
shown depth tight loose start (AnItem columns e) items = (depth, (node_of start e (ListItemBody columns), None)) ∷ []
shown depth tight loose start (AFootnote index e) items = footnote_shown depth start e items
shown depth tight loose start (ADefinitionList t e) items = (depth, (node_of start e (DefinitionListBody (list_flags (not loose))), None)) ∷ []
shown depth tight loose start (ATitle b) items = at_depth depth (title_shown items)
shown depth tight loose start (ADefinition columns e) items = (depth, (node_of start e (DefinitionBody columns), None)) ∷ []

shown_is : (m : Names) (depth : ℕ) (tight loose : Bool) (start : ℕ) (w : What)
    → read_nodes m (row_items depth tight loose start w) ≡ shown depth tight loose start (bare_what w) (read_nodes m (inside w))
shown_is m depth tight loose start w = grind (arith, read_tight, tight_read, read_at_depth, title_read)

-- the items of alike rows read alike
rows_read : (m n : Names) (depth : ℕ) (tight : Bool) (r r' : Rows) → AlikeRows m n r r' → AlikeNodes m n (items_of depth tight r) (items_of depth tight r')
unfolding items_of
rows_read m n depth tight End End a = refl
rows_read m n depth tight (OneOf row inner next) (OneOf row' inner' next') a =
    let loose : Bool = is_loose inner in
    grind (
      arith,
      loose_alike,
      shown_is,
      facts_alike,
      nodes_append,
      rows_read m n (suc depth) (tight_in tight loose row.what) inner inner' a.1,
      rows_read m n depth tight next next' a.2,
    )
rows_read m n depth tight r r' a = absurd a

-- the items of alike skeletons read alike
pub forest_alike : (m n : Names) (quoted : Bool) (before : Before) (depth last : ℕ) (s t : Skeleton) → Alike m n s t
    → AlikeNodes m n (items_of depth false (rows_of quoted before last s)) (items_of depth false (rows_of quoted before last t))
forest_alike m n quoted before depth last s t a = rows_read m n depth false _ _ (rows_alike m n quoted before last s t a)

-- alike skeletons have the same definitions and the same labels of footnotes
same_told : (m n : Names) (s t : Skeleton) → Alike m n s t → (definitions_of s ≡ definitions_of t) × (footnotes_of s ≡ footnotes_of t)
unfolding definitions_of footnotes_of
same_told m n Nil Nil a = (refl, refl)
same_told m n (Then BlankLine next) (Then BlankLine next') a = same_told m n next next' a.1
same_told m n (Then (Block b) next) (Then (Block b') next') a = (let more = same_told m n next next' a.1 in (λ i. a.0.3 i ++ more.0 i, more.1))
same_told m n (Then leaf next) (Then leaf' next') a = absurd a.0
same_told m n (Node head e kids next) (Node head' e' kids' next') a = grind (arith, label_alike, same_told m n kids kids' a.2, same_told m n next next' a.3)
same_told m n s t a = absurd a

pub told_alike : (m n : Names) (tables : Tables) (s t : Skeleton) → Alike m n s t → with_all_of tables s ≡ with_all_of tables t
told_alike m n tables s t a = grind (arith, same_told)
