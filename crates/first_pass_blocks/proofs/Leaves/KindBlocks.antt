-- An added leaf block is the one that its kind opens at its place, and fits there, from the contract of its parser for the
-- offset after the indentation.
use Rattle.std.proofs.Common.{inl, ℕ, refl, sym, ap, subst, arith, ◌≡◌, ◌≤◌, length, IsCharBoundary, ◌∙◌, Bool, ◌⊎◌, inr, ◌+◌, true, false, List, [], ◌∷◌, drop}
use Rattle.std.proofs.Common.{Option, Some, None, if◌then◌else◌, ◌<◌, IsUtf8, nat_lt, min, option_map}
use Rattle.first_pass_grammar.proofs.Common.{Place, offset, line_end, place_at, line_rest, start_of, IsPlaceOf, line_place, moved_columns, Kind, HtmlToBlank}
use Rattle.first_pass_grammar.proofs.Common.{unindented, is_blank_rest, Blank, IndentedCode, Metadata, HtmlToEnd, ThematicBreak, AtxHeading, FencedCode}
use Rattle.first_pass_grammar.proofs.Common.{all_taken, IsKind, document, Document, rule_block, heading_block, lines_from, Item, Forest, IsForest, added}
use Rattle.first_pass_grammar.proofs.Common.{Extent, Stops, GoesOn, extent_by, extent, judged, in_containers, at_line_end, is_content, eol_len, line_len}
use Rattle.first_pass_grammar.proofs.Common.{indent, start_of-lines, bytes_line_end, columns_line_end, at_rest, after, taken, in_old_footnote, blank_judge}
use Rattle.first_pass_grammar.proofs.Common.{IsHtml, until_end, IsOrderedTo, within_top, Options, Names, LeafBlock, block_at, leaf_block, Line, Opening}
use Rattle.first_pass_grammar.proofs.Common.{OpensLeaf, OpensAs, OpensExtent, BlockEnd, code_fence, hrule_len, IsFencedCode, IsMetadata, GrowsBy, Elsewhere}
use Rattle.first_pass_grammar.proofs.Common.{FitsBetween, counted_nodes, nat_tests, none-some, prefix_len, line_len-eol, HeadingLevel, html_end, is_paragraph}
use Rattle.first_pass_grammar.proofs.Common.{is_run, some_mapped}
use Rattle.first_pass_blocks.proofs.Common.{tables_in, names_of, NamesMore, tables_of, Ready, closed_in, list_finished, top_body, is_list, with_tree, PassState}
use Rattle.first_pass_blocks.proofs.Common.{allocs_of, state_of, source_options, source_text, tree_of, source_of, front_of, ReadsLeaf, ordered_leaf}
use Rattle.first_pass_blocks.proofs.Common.{block_ordered, ordered_finished, unindented_later, IsStateAtPlace, path_added, list_finished_blank, block_added}
use Rattle.first_pass_blocks.proofs.Common.{list_finished_named, kept_of, list_finished_whole, block_whole, list_finished_count, block_count, leaf_left}
use Rattle.first_pass_blocks.proofs.Common.{left_before, path_of, context_of, all_keep, place_end, after_line_at, html_to_blank, kind_says, Says, IsOrderedAt}
use Rattle.first_pass_blocks.proofs.Common.{IsReadFrom, line_end_of, told_none, ready_added, list_finished_none, marked_kind, Container, path_finished}
use Rattle.first_pass_blocks.proofs.Common.{extends_none, first_at, first_is, AddsBetween, own_added, AddsHeading, OrderedIn, BlockPass, Entries, ordered_tree}
use Rattle.first_pass_blocks.proofs.Common.{kind_named, kind_whole, kind_notes, block_notes, list_finished_notes, kind_in_other, kind_away, LeafBegins}
use Rattle.first_pass_blocks.proofs.Common.{IsFoundAt, AreNested, IsOrderedFrom, list_finished_outside, added_outside, tree_closes, between-any, kind_silent}
use Rattle.first_pass_blocks.specs.Adding.{AddsLeaf, IsFoundIn}
use Rattle.first_pass_kinds.specs.declared.kinds.MarkedLeaf.{MarkedLeaf}
use Rattle.first_pass_leaves.specs.RawBlocks.{IsPlaceAt, AddsRaw, html_to_end, code_after, AddsIndented, metadata_after, fenced_after}
use Rattle.first_pass_blocks.proofs.LinkDefinitions.{written_stay}
use Rattle.first_pass_blocks.proofs.FootnoteLabels.{labels_stay}
use Rattle.first_pass_order.specs.LeafBlocks.{AddsKind}
use Rattle.first_pass_kinds.specs.declared.kinds.BlockStart.TheVariants.{HtmlToBlank as FoundHtml}
use Rattle.first_pass_grammar.specs.HtmlBlocks.{until_blank}
use Rattle.first_pass_leaves.proofs.RawOrder.{first_line, ArePlaced, IsPlaced, html_few, ends_before_next, kept_last, indented_fits, fenced_fits, metadata_fits}
use Rattle.first_pass_leaves.proofs.RawOrder.{html_fits, indented_after_placed, indented_after_few, fenced_after_placed, metadata_after_placed, to_end_placed}
use Rattle.first_pass_leaves.proofs.RawOrder.{to_blank_placed, Around}
use Rattle.first_pass_leaves.proofs.FencedLemmas.{fence_plain}
use Rattle.first_pass_completion.proofs.Closings.{leaf_closes}
use Rattle.first_pass_scan.specs.LeafLines.{is_rule_byte, in_rule, rule_len}
use Rattle.first_pass_grammar.specs.CodeBlocks.{metadata_lines, fenced_lines}
use Rattle.first_pass_leaves.proofs.HeadingLemmas.{prefix_in}
use Rattle.first_pass_kinds.specs.declared.kinds.MarkedLeaf.TheVariants.{FencedCode as MarkedFence, AtxHeading as MarkedHeading, IndentedCode as MarkedCode}
use Rattle.first_pass_kinds.specs.declared.kinds.MarkedLeaf.TheVariants.{Metadata as MarkedMetadata, HtmlToEnd as MarkedHtml, ThematicBreak as MarkedBreak}
use Rattle.first_pass_lines.proofs.OptionFacts.{some_if}

-- indented code
pub code_added : (text : List ℕ) (options : Options) (names : Names) (p : Place) (old new : Forest Item) (next : ℕ) (blank : Bool)
    → IsPlaceOf text (moved_columns 4 p) → AddsIndented (document text options names) (moved_columns 4 p) old new next blank
    → AddsKind (document text options names) p IndentedCode blank old new next
unfolding OpensAs
code_added text options names p old new next blank place a =
    let q : Place = moved_columns 4 p in
    let ends : after_line_at text (offset q) ≡ line_end p = ap (λ (bs : List ℕ). offset q + line_len bs) (sym place.left) ∙ columns_line_end 4 p in
    record {
      items = a.items;
      tree_is = a.tree_is;
      opens = λ more extends. (a.items, rw ends at (a.is more extends), rw (a.blank_is, a.left_is, ends) refl);
    }

-- An offset is that of a place after its indentation, and a character boundary in the same line.
pub record StandsAt (text : List ℕ) (p : Place) (at : ℕ) : Type 0 where
  pub at_is : at ≡ offset (unindented p)
  pub place : IsPlaceOf text (unindented p)
  pub here : IsPlaceAt text at (unindented p)
  pub boundary : IsCharBoundary text at
  pub later : offset p ≤ at
  pub ends : after_line_at text at ≡ line_end p

pub stands_at : {text : List ℕ} {p : Place} {at : ℕ} → IsUtf8 text → IsPlaceOf text p → at ≡ offset (unindented p) → StandsAt text p at
stands_at {text = text} {p = p} {at = at} u i is =
    let j = all_keep text p.line p.rest u i in
    record {
      at_is = is;
      place = j;
      here = record { offset_is = sym is; left_is = j.left ∙ ap (λ n. drop n text) (sym is) };
      boundary = subst (IsCharBoundary text) (sym is) j.boundary;
      later = (let low = unindented_later text p.line p.rest u i in omega arith);
      ends = ap (after_line_at text) is ∙ line_end_of text p j;
    }

-- an HTML block up to a blank line, at a place
abbrev pub AddsHtml : List ℕ → Options → Names → ℕ → ℕ → Place → Forest Item → Forest Item → ℕ → Type 0
AddsHtml text options names start columns p old new next =
    let e : Extent = html_to_blank text (path_of options old) p in
    AddsRaw (document text options names) (λ d. IsHtml d start columns e.places e.«end») e.left old new next

-- the contract of a block at an offset, for the place there
module _ {text : List ℕ} {options : Options} {names : Names} {p : Place} {old new : Forest Item} {at next : ℕ} (i : StandsAt text p at) where
  -- a block whose lines are an extent, as it opens under later names
  raw_added : (kind : Kind) (Are : Document → List (ℕ × Item) → Type 0) (e : Extent) → AddsRaw (document text options names) Are e.left old new next
      → ((more : Names) (o : Opening) → OpensExtent kind p e (Are (document text options more)) o
      → OpensAs (document text options more) (path_of options old) p (lines_from text (line_end p)) kind o)
      → AddsKind (document text options names) p kind false old new next
  raw_added kind Are e a opens = record {
    items = a.items;
    tree_is = a.tree_is;
    opens = λ more extends. opens more _ (a.items, a.are more extends, ap (OpensLeaf (leaf_block kind p a.items false) Line) a.left_is);
  }

  -- metadata
  pub metadata_added : (byte : ℕ) → (
      let e : Extent = metadata_after text (path_of options old) byte at in
      AddsRaw (document text options names) (λ d. IsMetadata d at byte e.places e.«end») e.left old new next)
      → AddsKind (document text options names) p (Metadata byte) false old new next
  unfolding OpensAs
  metadata_added byte a =
      raw_added (Metadata byte) _ (metadata_lines (length text) (path_of options old) byte (lines_from text (line_end p)))
      (rw (i.at_is, line_end_of text p i.place) at a) (λ more o opens. opens)

  -- a fenced code block
  pub fenced_added : (count byte columns : ℕ) → columns ≡ indent p.rest → (
      let e : Extent = fenced_after text (path_of options old) columns byte count at in
      AddsRaw (document text options names) (λ d. IsFencedCode d at count e.places e.«end») e.left old new next)
      → AddsKind (document text options names) p (FencedCode count byte) false old new next
  unfolding OpensAs
  fenced_added count byte columns width a =
      raw_added (FencedCode count byte) _ (fenced_lines (length text) (path_of options old) (indent p.rest) byte count (lines_from text (line_end p)))
      (rw (i.at_is, width, line_end_of text p i.place) at a) (λ more o opens. opens)

  -- HTML up to its end
  pub html_end_added : (until : BlockEnd) (columns : ℕ) → html_end (drop 1 (all_taken p.rest).left) ≡ Some until → columns ≡ indent p.rest
      → (
      let e : Extent = html_to_end text (path_of options old) until (unindented p) in
      AddsRaw (document text options names) (λ d. IsHtml d at columns e.places e.«end») e.left old new next)
      → AddsKind (document text options names) p HtmlToEnd false old new next
  unfolding OpensAs
  html_end_added until columns until_is width a =
      raw_added HtmlToEnd _ (until_end (length text) (path_of options old) until (unindented p) (lines_from text (line_end p)))
      (rw (i.at_is, width, line_end_of text p i.place) at a) (λ more o opens. (until, until_is, opens))

  -- HTML up to a blank line
  html_blank_added : (columns : ℕ) → columns ≡ indent p.rest → AddsHtml text options names at columns (unindented p) old new next
      → AddsKind (document text options names) p HtmlToBlank false old new next
  unfolding OpensAs
  html_blank_added columns width a =
      raw_added HtmlToBlank _ (until_blank (length text) (path_of options old) (unindented p) (lines_from text (line_end p)))
      (rw (i.at_is, width, line_end_of text p i.place) at a) (λ more o opens. opens)

  -- a thematic break
  pub rule_added : (size : ℕ)
      → next ≡ line_end p → new ≡ added old (rule_block at size) → AddsKind (document text options names) p (ThematicBreak size) false old new next
  unfolding OpensAs
  rule_added size next_is new_is = record {
    items = rule_block at size;
    tree_is = new_is;
    opens = λ more extends. rw (i.at_is, next_is) refl;
  }

  -- an ATX heading
  pub heading_added : (level : HeadingLevel)
      → AddsHeading (document text options names) at level old new next → AddsKind (document text options names) p (AtxHeading level) false old new next
  unfolding OpensAs
  heading_added level h = record {
    items = heading_block at next level h.index h.chain;
    tree_is = h.tree_is;
    opens = λ more e.
        let next_is : next ≡ line_end p = h.end_is ∙ i.ends in
        rw (i.at_is, next_is) (h.index, h.chain, line_end p, rw (i.at_is, next_is) at (h.line more e), refl);
  }

-- A leaf block of a kind begins at a place. It is no blank line, paragraph or link reference definition.
pub record IsOtherLeaf (options : Options) (p : Place) (kind : Kind) : Type 0 where
  pub is_kind : IsKind options p.rest kind
  pub some : kind ≡ Blank → ⊥
  pub other : is_paragraph kind ≡ false
  pub no_run : is_run kind ≡ false

-- counted columns under four
pub columns_are : (n m : ℕ) → n ≡ min 4 m → nat_lt m 4 ≡ true → (n ≡ m) × (n ≤ 3)
columns_are n m is node_bound = let low : m < 4 = grind (arith, nat_tests, node_bound) in (omega arith, omega arith)

-- a leaf block that begins with a mark is such a block
pub marked_leaf : (options : Options) (p : Place) (leaf : MarkedLeaf) → IsKind options p.rest (marked_kind leaf) → IsOtherLeaf options p (marked_kind leaf)
marked_leaf options p MarkedCode kind = record { is_kind = kind; some = λ e. cc; other = refl; no_run = refl }
marked_leaf options p (MarkedMetadata byte) kind = record { is_kind = kind; some = λ e. cc; other = refl; no_run = refl }
marked_leaf options p (MarkedHtml «end») kind = record { is_kind = kind; some = λ e. cc; other = refl; no_run = refl }
marked_leaf options p (MarkedBreak size) kind = record { is_kind = kind; some = λ e. cc; other = refl; no_run = refl }
marked_leaf options p (MarkedHeading level) kind = record { is_kind = kind; some = λ e. cc; other = refl; no_run = refl }
marked_leaf options p (MarkedFence count byte) kind = record { is_kind = kind; some = λ e. cc; other = refl; no_run = refl }

-- a leaf block was found at a place by its mark
module _ {old : BlockPass} {p : Place} {leaf : MarkedLeaf} {columns at : ℕ} (f : IsFoundIn old p leaf columns at) where
  pub found_at : StandsAt (source_text old) p at
  found_at = stands_at f.utf8 f.place f.found.at_is

  -- the bytes at which it was found
  pub found_says : Says p.rest (marked_kind leaf)
  found_says = kind_says (source_options old) p.rest (marked_kind leaf) f.found.kind

  -- a block of one line
  pub line_read : {next : ℕ} → next ≡ line_end p → (after_line_at (source_text old) at ≤ next) × IsCharBoundary (source_text old) next
  line_read ends =
      let same = found_at.ends in (omega arith, subst (IsCharBoundary (source_text old)) (sym ends) (place_end (source_text old) p f.utf8 f.place))

  pub leaf_added : {new : BlockPass} {next : ℕ} → source_of new ≡ source_of old → front_of new ≡ front_of old → NamesMore (allocs_of old) (allocs_of new)
      → (state_of new).begin_list_item ≡ (state_of old).begin_list_item
      → (state_of new).blank ≡ (state_of old).blank → (after_line_at (source_text old) at ≤ next) × IsCharBoundary (source_text old) next
      → ((from : ℕ) → from ≤ at → AddsBetween (source_text old) from next (tree_of old) (tree_of new))
      → AddsKind (document (source_text old) (source_options old) (names_of (allocs_of new))) p (marked_kind leaf) false (tree_of old) (tree_of new) next
      → AddsLeaf old new p (marked_kind leaf) next
  leaf_added source front more empty blank following fits block =
      let later = following.0 in
      let same = found_at.ends in
      let low = found_at.later in
      record {
        source = source;
        front = front;
        more = more;
        begin_list_item = empty ∙ f.no_empty;
        block = rw (blank ∙ f.not_blank) block;
        later = omega arith;
        boundary = following.1;
        fits = λ from before. fits from (omega arith);
      }

-- ---- a thematic break takes its whole line

rule_content : (c b : ℕ) → is_rule_byte c ≡ true → in_rule c b ≡ true → is_content b ≡ true
rule_content c b h e = grind (arith, nat_tests, h, e)

-- the bytes of a rule, and its end
rule_by : (b : ℕ) (bs : List ℕ) (size : ℕ) → (if is_rule_byte b then rule_len b bs else None) ≡ Some size → size ≡ line_len bs
rule_by b bs size h =
    let n : ℕ = prefix_len (in_rule b) bs in
    let (rule, some) = some_if (is_rule_byte b) (rule_len b bs) size h in
    let long = some_if _ (option_map (λ k. n + k) (eol_len (drop n bs))) size some in
    let (k, end, is) = some_mapped (λ k. n + k) (eol_len (drop n bs)) size long.1 in
    let l = line_len-eol (drop n bs) k end in
    let m = bytes_line_end n (line_place 0 bs) (prefix_in (in_rule b) (λ c e. rule_content b c rule e) bs) in
    omega arith

rule_line : (bs : List ℕ) (size : ℕ) → hrule_len bs ≡ Some size → size ≡ line_len bs
unfolding hrule_len
rule_line [] size h = absurd (none-some size h)
rule_line (b ∷ bs) size h = rule_by b (b ∷ bs) size h

-- a thematic break ends where its line ends
pub rule_end : (p : Place) (at size : ℕ) → hrule_len (unindented p).rest.left ≡ Some size → at ≡ offset (unindented p) → at + size ≡ line_end p
rule_end p at size kind at_is =
    let n = rule_line (unindented p).rest.left size kind in
    let e = columns_line_end (indent p.rest) p in
    omega arith

-- ---- raw leaf blocks fit at their places

-- a place at an offset that is a character boundary
place_of : (text : List ℕ) (start : ℕ) (p : Place) → IsCharBoundary text start → IsPlaceAt text start p → IsPlaceOf text p
place_of text start p b i = record {
  left = i.left_is ∙ ap (λ n. drop n text) (sym i.offset_is);
  within = (let w = b.0 in let e = i.offset_is in omega arith);
  boundary = subst (IsCharBoundary text) (sym i.offset_is) b;
}

module _ (text : List ℕ) (options : Options) (names : Names) (old new : Forest Item) (start next : ℕ) (u : IsUtf8 text) (b : IsCharBoundary text start)
    (within : next ≤ length text) where
  -- a block that ends at an offset and fits between any two offsets around it
  added_between : (stop to : ℕ) (items : List (ℕ × Item)) → new ≡ added old items → stop ≤ to
      → ((w : Around start stop) → FitsBetween text Elsewhere w.from w.to items) → (from : ℕ) → from ≤ start → AddsBetween text from to old new
  added_between stop to items is before fits from low = record {
    items = items;
    tree_is = is;
    fits = between-any text (within_top old) from to items (fits (record { from = from; to = to; following = low; before = before }));
  }

  pub fenced_between : (columns byte count : ℕ) → code_fence (drop start text) ≡ Some (count, byte)
      → (
      let e : Extent = fenced_after text (path_of options old) columns byte count start in
      AddsRaw (document text options names) (λ d. IsFencedCode d start count e.places e.«end») e.left old new next)
      → (from : ℕ) → from ≤ start → AddsBetween text from next old new
  fenced_between columns byte count fence a =
      let path = path_of options old in
      let e : Extent = fenced_after text path columns byte count start in
      let placed = fenced_after_placed text u path columns byte count start (fence_plain (drop start text) (count, byte) fence) b in
      added_between e.«end» next a.items a.tree_is (ends_before_next text e next within a.left_is (placed.before tt))
      (fenced_fits (document text options names) start count e a.items u (a.are names (extends_none names)) b placed)

  pub metadata_between : (byte : ℕ) → is_content byte ≡ true → (
      let e : Extent = metadata_after text (path_of options old) byte start in
      AddsRaw (document text options names) (λ d. IsMetadata d start byte e.places e.«end») e.left old new next)
      → (from : ℕ) → from ≤ start → AddsBetween text from next old new
  metadata_between byte plain a =
      let path = path_of options old in
      let e : Extent = metadata_after text path byte start in
      let placed = metadata_after_placed text u path byte start plain b in
      added_between e.«end» next a.items a.tree_is (ends_before_next text e next within a.left_is (placed.before tt))
      (metadata_fits (document text options names) start byte e a.items u (a.are names (extends_none names)) b placed)

  pub to_end_between : (until : BlockEnd) (columns : ℕ) → ((p : Place) → IsPlaceAt text start p → let e : Extent = html_to_end text
      (path_of options old) until p in AddsRaw (document text options names) (λ d. IsHtml d start columns e.places e.«end») e.left old new next)
      → (from : ℕ) → from ≤ start → AddsBetween text from next old new
  to_end_between until columns adds =
      let p : Place = first_at text start 0 in
      let i = first_is text start 0 in
      let a = adds p i in
      let path = path_of options old in
      let e : Extent = html_to_end text path until p in
      let placed = subst (λ n. IsPlaced Unit text n e) i.offset_is (to_end_placed text u path until p (place_of text start p b i)) in
      added_between e.«end» next a.items a.tree_is (ends_before_next text e next within a.left_is (placed.before tt))
      (html_fits (document text options names) start columns e a.items u (a.are names (extends_none names)) b placed)

  pub to_blank_stands : (p : Place) → IsPlaceAt text start p → IsPlaced ⊥ text start (html_to_blank text (path_of options old) p)
  to_blank_stands p i =
      subst (λ n. IsPlaced ⊥ text n (html_to_blank text (path_of options old) p)) i.offset_is
      (to_blank_placed text u (path_of options old) p (place_of text start p b i))

  pub to_blank_between : (columns : ℕ) (p : Place) → IsPlaceAt text start p → AddsHtml text options names start columns p old new next
      → (from : ℕ) → from ≤ start → AddsBetween text from (html_to_blank text (path_of options old) p).«end» old new
  to_blank_between columns p i a =
      let e : Extent = html_to_blank text (path_of options old) p in
      added_between e.«end» e.«end» a.items a.tree_is (omega arith)
      (html_fits (document text options names) start columns e a.items u (a.are names (extends_none names)) b (to_blank_stands p i))

  -- up to the start of the remaining lines, at most four nodes of the tree's own are new for each byte
  pub to_blank_few : (columns : ℕ) (p : Place) → IsPlaceAt text start p → AddsHtml text options names start columns p old new next
      → (from : ℕ) → from ≤ start → from < next → GrowsBy from next old.nodes new.nodes
  to_blank_few columns p i a from low apart =
      let e : Extent = html_to_blank text (path_of options old) p in
      let placed = to_blank_stands p i in
      let stop : start_of (length text) e.left ≡ next = ap (start_of (length text)) (sym a.left_is) ∙ start_of-lines text next within in
      let some =
      html_few (document text options names) start columns next e a.items u (a.are names (extends_none names))
      (subst (ArePlaced text start e.places) stop placed.left) placed.node_bound
      (record { from = from; to = next; following = low; before = omega arith }) apart in
      let tree = ap (λ (f : Forest Item). counted_nodes f.nodes) a.tree_is in
      let more = own_added old.nodes a.items (length old.spine + 1) in
      omega arith

  pub indented_between : (owed : ℕ) (blank : Bool)
      → ((p : Place) → IsPlaceAt text start p → p.rest.owed ≡ owed → AddsIndented (document text options names) p old new next blank) → (from : ℕ)
      → from ≤ start → AddsBetween text from next old new
  indented_between owed blank adds =
      let p : Place = first_at text start owed in
      let i = first_is text start owed in
      let a = adds p i refl in
      let path = path_of options old in
      let all = code_after text path (offset p) in
      let placed = indented_after_placed text u path p (place_of text start p b i) in
      let ends : start_of (length text) all.1 ≡ next = ap (start_of (length text)) (sym a.left_is) ∙ start_of-lines text next within in
      let last = kept_last text (offset p) (start_of (length text) all.1) (p ∷ all.0) placed in
      let low : offset p ≡ start = i.offset_is in
      added_between _ next a.items a.tree_is (omega arith)
      (λ w. indented_fits (document text options names) p all.0 a.items (start_of (length text) all.1) u (a.is names (extends_none names)) placed
      (indented_after_few text u path p (place_of text start p b i))
      (record { from = w.from; to = w.to; following = (let following = w.following in omega arith); before = w.before }))

-- ---- a pass read a leaf block; HTML may end in a blank line, after the prefixes of its containers

-- An extent ends at the start of the remaining lines, or after the prefixes of a path in the first of them, which is
-- blank.
abbrev pub StopsBlank : ℕ → List Container → Extent → Type 0
StopsBlank n path e =
    (e.«end» ≡ start_of n e.left)
    ⊎ ((line : Place) × (lines : List Place) × (q : Place) × (e.left ≡ line ∷ lines) × (taken path line ≡ Some q) × (is_blank_rest q.rest ≡ true)
    × (e.«end» ≡ offset q))

stop_line : (n : ℕ) (path : List Container) (line : Place) (lines : List Place) (further : Extent) (q : Place) (t u : Bool)
    → taken path line ≡ Some q → is_blank_rest q.rest ≡ u → StopsBlank n path further
    → StopsBlank n path (extent_by (if t then Stops line.line else (if u then Stops (offset q) else GoesOn q)) line lines further)
stop_line n path line lines further q true u is blank rest = inl refl
stop_line n path line lines further q false true is blank rest = inr (line, lines, q, refl, is, blank, refl)
stop_line n path line lines further q false false is blank rest = rest

stop_by : (n : ℕ) (path : List Container) (line : Place) (lines : List Place) (further : Extent) (o : Option Place)
    → taken path line ≡ o → StopsBlank n path further → StopsBlank n path (extent_by (judged blank_judge line o) line lines further)
stop_by n path line lines further None is rest = inl refl
stop_by n path line lines further (Some q) is rest = stop_line n path line lines further q (at_line_end q.rest.left) (is_blank_rest q.rest) is refl rest

pub html_stops : (n : ℕ) (path : List Container) (p : Place) (lines : List Place) → StopsBlank n path (until_blank n path p lines)
unfolding extent
html_stops n path p [] = inl refl
html_stops n path p (line ∷ lines) =
    stop_by n path line lines (extent (in_containers path blank_judge) n lines) (taken path line) refl (html_stops n path p lines)

-- The state after such a block is in order up to where reading continues, or such a blank line begins there.
pub ordered_stopped : (options : Options) (text : List ℕ) (r : PassState) (path : List Container) (e : Extent) (next : ℕ)
    → IsCharBoundary text next → r.begin_list_item ≡ None → path_of options r.tree ≡ path
    → StopsBlank (length text) path e → lines_from text next ≡ e.left → IsOrderedAt text r e.«end» → IsOrderedFrom options text r next
ordered_stopped options text r path e next b none path_is (inl h) left o =
    let there = start_of-lines text next b.0 in
    inl (subst (IsOrderedAt text r) (h ∙ ap (start_of (length text)) (sym left) ∙ there) o)
ordered_stopped options text r path e next b none path_is (inr (line, lines, q, e_left, took, blank, at)) left o =
    let f = first_line text next line lines (sym (left ∙ e_left)) in
    let (s, taken, is) = some_mapped (at_rest line) (after path line.rest) q took in
    let there : e.«end» ≡ offset (place_at next s) = at ∙ ap offset (sym is) ∙ ap (λ (z : Place). z.line + s.taken) f.1 in
    inr (record {
      rest = s;
      within = f.0;
      taken = ap (λ z. after z (line_rest (drop next text))) path_is ∙ ap (λ (z : Place). after path z.rest) (sym f.1) ∙ taken;
      blank = ap (λ (z : Place). is_blank_rest z.rest) is ∙ blank;
      none = none;
      ordered = subst (IsOrderedTo text r.tree) there (ordered_tree text r e.«end» none o);
    })

-- Such a state is read up to there if no list is innermost, and no footnote definition in the old form ends before such
-- a line.
pub read_stopped : (options : Options) (text : List ℕ) (r : PassState) (next : ℕ) → IsOrderedFrom options text r next
    → (in_old_footnote (path_of options r.tree) ≡ true → r.blank ≡ false) → AreNested r.tree.nodes r.tree.spine → is_list (top_body r.tree) ≡ false
    → IsReadFrom options text r next
read_stopped options text r next (inl o) uncounted nested plain = inl (o, tree_closes text r.tree next nested plain)
read_stopped options text r next (inr blank) uncounted nested plain = inr (blank, nested, plain, uncounted)

-- after such a block
module _ (old new : BlockPass) (p : Place) (kind : Kind) (next : ℕ) (here : IsStateAtPlace (source_text old) (state_of old) p)
    (leaf : IsOtherLeaf (source_options old) p kind) (more : NamesMore (allocs_of old) (allocs_of new)) (none : (state_of new).begin_list_item ≡ None)
    (block : AddsKind (document (source_text old) (source_options old) (names_of (allocs_of new))) p kind (state_of new).blank
    (list_finished p.line (state_of old)).tree (tree_of new) next) where
  abbrev before : Names
  before = names_of (allocs_of old)

  abbrev own : Names
  own = names_of (allocs_of new)

  abbrev ended : Forest Item
  ended = (list_finished p.line (state_of old)).tree

  leaf_reads : source_of new ≡ source_of old → line_end p ≤ next → IsCharBoundary (source_text old) next
      → (OrderedIn (source_text old) (tree_of old) p → IsReadFrom (source_options old) (source_text old) (state_of new) next)
      → GrowsBy (offset p) next (tree_of old).nodes (tree_of new).nodes → ReadsLeaf old new p next
  leaf_reads source later boundary order grows =
      let text = source_text old in
      let options = source_options old in
      let r : PassState = state_of old in
      let gap : Bool = (state_of new).blank in
      record {
        kept = record {
          source = source;
          names = more.names;
          named = λ h. block_added own before ended (tree_of new) block.items more.names block.tree_is
              (kind_named text options own p kind gap ended (tree_of new) next block) (list_finished_named before p.line r h);
          written = written_stay text (allocs_of old) (allocs_of new) more.entries;
          labels = labels_stay (allocs_of old) (allocs_of new) (tree_of old).nodes (tree_of new).nodes more.names
              (block_notes ended (tree_of new) block.items block.tree_is (kind_notes text options own p kind gap ended (tree_of new) next block)
              ∙ list_finished_notes p.line r) (ap (λ (e : Entries). e.footnotes) more.entries);
          tables = λ h k. block_whole own before ended (tree_of new) block.items more.names block.tree_is
              (kind_whole text options own p kind gap ended (tree_of new) next here.place block)
              (kind_silent text options own p kind gap ended (tree_of new) next block) (list_finished_named before p.line r h)
              (kept_of before ended (list_finished_whole before p.line r here.forest k));
        };
        later = later;
        boundary = boundary;
        ready = λ names extends ready.
            let d : Document = document text options names in
            let path : List Container = path_of options r.tree in
            let lines : List Place = lines_from text (line_end p) in
            let left : List Place = lines_from text next in
            let opening : Opening = OpensLeaf (leaf_block kind p block.items gap) Line left in
            let opens = subst (λ z. OpensAs d z p lines kind opening) (path_finished options p.line r here.none) (block.opens names extends) in
            let read : LeafBlock = block_at kind p block.items gap in
            let closes : leaf_closes read ≡ p.line = ap (λ (t : Bool). if t then offset (unindented p) else p.line) leaf.other in
            let begins : LeafBegins d r p left p.line read = record {
              forest = here.forest;
              none = here.none;
              kind = kind;
              is_kind = leaf.is_kind;
              opens = subst (λ k. OpensAs d path p lines k opening) (sym (kind_in_other (context_of options r.tree) p kind leaf.other)) opens;
              away = λ begins. kind_away (top_body r.tree) (closed_in r.tree) p.line read left leaf.other (begins leaf.other) closes;
            } in
            subst (λ z. Ready d z (state_of new) left) (told_none (tables_of (allocs_of old)) ∙ sym (ap tables_in more.entries))
            (ready_added d (tables_of (allocs_of old)) r (state_of new) p left p.line read leaf.no_run begins
            (record { tree_is = block.tree_is; none = none; blank = refl }) ready);
        order = order;
        node_bound = grows;
      }

-- a block that ends what is to end at the start of the line
pub leaf_read : (old new : BlockPass) (p : Place) (kind : Kind) (next : ℕ) → IsStateAtPlace (source_text old) (state_of old) p
    → IsOtherLeaf (source_options old) p kind → AddsLeaf (record old { state = list_finished p.line (state_of old) }) new p kind next
    → ReadsLeaf old new p next
leaf_read old new p kind next here leaf e =
    let text = source_text old in
    let r : PassState = state_of old in
    let later = e.later in
    let before = left_before p (leaf_left (source_options old) p.rest kind leaf.is_kind leaf.some) in
    let fits = e.fits (offset p) (omega arith) in
    let grows = block_count text (offset p) next (list_finished p.line r).tree (tree_of new) fits (omega arith) in
    let same = list_finished_count p.line r in
    leaf_reads old new p kind next here leaf e.more e.begin_list_item e.block e.source later e.boundary
    (λ o. inl (ordered_leaf text r (state_of new) p.line (offset p) p.line (offset p) next
    (record { low = omega arith; later = omega arith; ends = inl (refl, o.0); boundary = here.place.boundary; none = here.none; order = o.1 })
    fits e.boundary.0 e.begin_list_item))
    (omega arith)

-- ---- an HTML block that a blank line ends (CommonMark 4.6)

-- A pass added an HTML block that a blank line ends, after it ended what a new block ends. Reading continues at a character
-- boundary after the first line of the block.
pub record HtmlAdded (old new : BlockPass) (p : Place) (at columns next : ℕ) : Type 0 where
  pub source : source_of new ≡ source_of old
  pub more : NamesMore (allocs_of old) (allocs_of new)
  pub state : state_of new ≡ with_tree (list_finished p.line (state_of old)) (tree_of new)
  pub following : (after_line_at (source_text old) at ≤ next) × IsCharBoundary (source_text old) next
  pub block : AddsHtml (source_text old) (source_options old) (names_of (allocs_of new)) at columns (unindented p)
      (list_finished p.line (state_of old)).tree (tree_of new) next

pub html_read : (old new : BlockPass) (p : Place) (at columns next : ℕ) → IsStateAtPlace (source_text old) (state_of old) p
    → IsForest (list_finished p.line (state_of old)).tree → IsFoundAt (source_options old) p FoundHtml columns at → HtmlAdded old new p at columns next
    → ReadsLeaf old new p next
html_read old new p at columns next is_at forest_after found h =
    let text = source_text old in
    let options = source_options old in
    let now = names_of (allocs_of new) in
    let r : PassState = state_of old in
    let q : PassState = list_finished p.line r in
    let z : Place = unindented p in
    let tree : Forest Item = tree_of new in
    let u = is_at.utf8 in
    let kind = found.kind in
    let block = h.block in
    let e : Extent = html_to_blank text (path_of options q.tree) z in
    let i = stands_at u is_at.place found.at_is in
    let here = i.ends in
    let low = i.later in
    let following = h.following in
    let later = following.0 in
    let width = (columns_are _ _ found.columns_are (kind_says options p.rest HtmlToBlank kind)).0 in
    let none = ap (λ (z : PassState). z.begin_list_item) h.state ∙ list_finished_none p.line r in
    let blank = ap (λ (z : PassState). z.blank) h.state ∙ list_finished_blank p.line r in
    let leaf : IsOtherLeaf options p HtmlToBlank = record { is_kind = kind; some = λ b. cc; other = refl; no_run = refl } in
    let added : AddsKind (document text options now) p HtmlToBlank (state_of new).blank q.tree tree next =
    rw blank (html_blank_added i columns width block) in
    let some = left_before p (leaf_left options p.rest HtmlToBlank kind (λ b. cc)) in
    let grows = to_blank_few text options now q.tree tree at next u i.boundary following.1.0 columns z i.here block (offset p) (omega arith) (omega arith) in
    let same = list_finished_count p.line r in
    let path : path_of options tree ≡ path_of options q.tree = ap (path_of options) block.tree_is ∙ path_added options q.tree block.items forest_after in
    leaf_reads old new p HtmlToBlank next is_at leaf h.more none added h.source (omega arith) following.1
    (λ o. let outside = list_finished_outside p.line r o.1.1.nested in
    let after = added_outside q.tree block.items outside.0 outside.1 in
    let read = ordered_finished text r p.line (offset p) p.line at
    (record { low = omega arith; later = omega arith; ends = inl (refl, o.0); boundary = i.boundary; none = is_at.none; order = o.1 }) in
    read_stopped options text (state_of new) next
    (ordered_stopped options text (state_of new) (path_of options q.tree) e next following.1 none path
    (html_stops (length text) (path_of options q.tree) z (lines_from text (after_line_at text (offset z)))) block.left_is
    (block_ordered text q (state_of new) at at e.«end» read.0 (omega arith)
    (to_blank_between text options now q.tree tree at next u i.boundary following.1.0 columns z i.here block)
    (to_blank_stands text options now q.tree tree at next u i.boundary following.1.0 z i.here).boundary.0 none))
    (λ old. blank)
    (subst (λ f. AreNested f.nodes f.spine) (sym block.tree_is) after.0) (ap (λ f. is_list (top_body f)) block.tree_is ∙ after.1))
    (omega arith)
