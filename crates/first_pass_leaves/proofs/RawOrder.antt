-- Raw leaf blocks are in order: each is between two offsets with everything below it, and its lines follow one
-- another in the text.
use Rattle.std.proofs.Common.{◌≡◌, ◌⊎◌, inl, inr, ℕ, zero, suc, ◌+◌, ◌-◌, ◌*◌, ◌<◌, ◌≤◌, ◌==◌, ◌&&◌, Bool, true, false, List, ◌∷◌, ◌++◌, length, drop, []}
use Rattle.std.proofs.Common.{get_or, nat_lt, nat_le, if◌then◌else◌, Option, Some, None, IsUtf8, IsCharBoundary, refl, sym, ap, subst, ◌∙◌, arith}
use Rattle.std.proofs.Common.{length-append, length-drop, get_or-drop, drop-drop, option_map, eqb-true, true≢false}
use Rattle.first_pass_grammar.proofs.Common.{prefix_len, cond_both, cases_lt, and_parts, nat_tests, at_drop_more, prefix_len-le-length, prefix_len_passes}
use Rattle.first_pass_grammar.proofs.Common.{prefix_len_stops, cond_some, IsCharBoundary-before_ascii, IsCharBoundary-end, line_feed, carriage_return, space}
use Rattle.first_pass_grammar.proofs.Common.{hyphen, full_stop, ascii_end, Item, ItemBody, IndentCodeBlock, FencedCodeBlock, MetadataBlock, HtmlBlock, BlockEnd}
use Rattle.first_pass_grammar.proofs.Common.{is_content, line_len, at_line_end, run_len, closing_fence_len, Rest, indent, Place, offset, line_end, line_rest}
use Rattle.first_pass_grammar.proofs.Common.{line_place, place_at, moved_columns, start_of, IsPlaceOf, line_len-some, line_len-within, line_is_place}
use Rattle.first_pass_grammar.proofs.Common.{columns_keep, columns_line_end, place_length, start_of-lines, add_token, add_tokens, AreInOrder, order_from}
use Rattle.first_pass_grammar.proofs.Common.{order_to, order_adds, has_columns, at_rest, after, taken, all_taken, unindented, is_blank_rest, Names, Document}
use Rattle.first_pass_grammar.proofs.Common.{block_with, AreColumns, ends_with_both, Ranges, range_text, range_html, raw_items, IsRawLine, AreRawLines}
use Rattle.first_pass_grammar.proofs.Common.{with_line, extent_to, Verdict, GoesOn, IsLast, Closes, Stops, extent_by, extent, judged, in_containers, code_lines}
use Rattle.first_pass_grammar.proofs.Common.{without_blanks, last_end, fence_judge, IsFencedCode, metadata_judge, metadata_kind, IsMetadata, holds_end}
use Rattle.first_pass_grammar.proofs.Common.{tag_judge, blank_judge, IsHtml, lines_from, counted_nodes, Elsewhere, FitsBetween}
use Rattle.first_pass_leaves.proofs.Common.{Container, after_line_at, code_after, fenced_after, metadata_after, html_to_end, html_to_blank, order_append}
use Rattle.first_pass_leaves.proofs.Common.{after_keeps, line_start_end, unless_blank, IsIndentedCode, fence_verdict, metadata_verdict, line_of, or_cases}
use Rattle.first_pass_leaves.proofs.Common.{is_space_or_tab, few_add, line_len-parts, block_fits, length-block, first_owing, own_at_most}
use Rattle.first_pass_scan.specs.Metadata.{three_of, closing_marks, closing_metadata_len}
pub use Rattle.first_pass_lines.proofs.LineFacts.{first_line}
use Rattle.first_pass_grammar.specs.Extents.{Extent as Lines}
use Rattle.first_pass_open.proofs.PlaceLemmas.{place_end}

-- These places are in the text between two offsets, each after the line of the one before it.
unfoldable pub ArePlaced : List ℕ → ℕ → List Place → ℕ → Type 0
ArePlaced text from [] to = from ≤ to
ArePlaced text from (p ∷ ps) to = (from ≤ offset p) × IsPlaceOf text p × ArePlaced text (line_end p) ps to

-- Each of these lines has a byte; the first is read from an offset on.
unfoldable pub HaveBytes : ℕ → List Place → Type 0
HaveBytes from [] = Unit
HaveBytes from (p ∷ ps) = (from < line_end p) × HaveBytes (line_end p) ps

-- So has each line of a block, except that its only line may have none.
abbrev pub AreFew : ℕ → List Place → Type 0
AreFew from ps = (length ps ≤ 1) ⊎ HaveBytes from ps

-- The lines of an extent are placed in this way up to its end, which is between characters, and up to the start of the
-- first remaining line. Their number has a bound. If `Early` holds, the extent ends no later than that start.
pub record AreBound (Bound : ℕ → List Place → Type 0) (Early : Type 0) (text : List ℕ) (from : ℕ) (e : Lines) : Type 0 where
  pub places : ArePlaced text from e.places e.«end»
  pub left : ArePlaced text from e.places (start_of (length text) e.left)
  pub boundary : IsCharBoundary text e.«end»
  pub node_bound : Bound from e.places
  pub before : Early → e.«end» ≤ start_of (length text) e.left

-- Each line has a byte, or there is only one.
abbrev pub IsPlaced : Type 0 → List ℕ → ℕ → Lines → Type 0
IsPlaced Early text from e = AreBound AreFew Early text from e

-- Each line has a byte.
abbrev pub IsFilled : Type 0 → List ℕ → ℕ → Lines → Type 0
IsFilled Early text from e = AreBound HaveBytes Early text from e

-- reading continues there
pub ends_before_next : (text : List ℕ) (e : Lines) (next : ℕ)
    → next ≤ length text → lines_from text next ≡ e.left → e.«end» ≤ start_of (length text) e.left → e.«end» ≤ next
ends_before_next text e next within left_is h = omega (arith, ap (start_of (length text)) left_is, start_of-lines text next within)

-- the first of the two offsets is not after the second
pub placed_bound : (text : List ℕ) (from to : ℕ) (ps : List Place) → ArePlaced text from ps to → from ≤ to
unfolding ArePlaced
placed_bound text from to [] h = h
placed_bound text from to (p ∷ ps) h = (let a = h.0 in let b = placed_bound text (line_end p) to ps h.2 in omega arith)

-- from an earlier offset on, and up to a later one
pub placed_from : (text : List ℕ) (low from to : ℕ) (ps : List Place) → low ≤ from → ArePlaced text from ps to → ArePlaced text low ps to
unfolding ArePlaced
placed_from text low from to [] less h = omega arith
placed_from text low from to (p ∷ ps) less h = (let a = h.0 in omega arith, h.1, h.2)

later_bytes : (start at : ℕ) (ps : List Place) → start ≤ at → HaveBytes at ps → HaveBytes start ps
unfolding HaveBytes
later_bytes start at [] order some = tt
later_bytes start at (p ∷ ps) order some = (omega (arith, some.0), some.1)

-- Owed columns have an empty range, and are at most one item.
columns_kept : (text : List ℕ) (names : Names) (owed at : ℕ) (items : List Item)
    → IsCharBoundary text at → AreColumns names owed at items → AreInOrder text at at items × (length items ≤ 1)
columns_kept text names zero at items b is = rw is (omega arith, omega arith)
columns_kept text names (suc n) at items b is = rw is.2 ((omega arith, omega arith, b, b, omega arith), omega arith)

-- `\r\n` at the end of a line: between characters before both, and between them
both_by : (text : List ℕ) (from to : ℕ)
    → to ≤ length text → ends_with_both text from to ≡ true → (from + 2 ≤ to) × IsCharBoundary text (to - 2) × IsCharBoundary text (to - 1)
both_by text from to within h = grind (arith, and_parts)

-- A chain gets at most as many items more as tokens are appended to it.
add_tokens_few : (xs chain : List Item) → length (add_tokens chain xs) ≤ length chain + length xs
add_tokens_few [] chain = omega arith
add_tokens_few (x ∷ xs) chain = grind (arith, few_add, add_tokens_few xs (add_token chain x))

-- The items of a range of the bytes of a raw line are in order, and at most one.
abbrev IsRange : Ranges → Type 0
IsRange range = (text : List ℕ) (from to : ℕ)
    → from ≤ to → IsCharBoundary text from → IsCharBoundary text to → AreInOrder text from to (range from to) × (length (range from to) ≤ 1)

text_range : IsRange range_text
text_range text from to order b c = grind (arith, cond_both)

html_range : IsRange range_html
html_range text from to order b c = ((omega arith, order, b, c, omega arith), omega arith)

-- A raw line reaches from the start of its text to the end of the line, and has at most three items; so has each line
-- of a chain.
module _ (range : Ranges) (r : IsRange range) where
  raw_kept : (text : List ℕ) (from to : ℕ) → from ≤ to → IsCharBoundary text from → IsCharBoundary text to
      → AreInOrder text from to (raw_items range text from to) × (length (raw_items range text from to) ≤ 2)
  unfolding raw_items
  raw_kept text from to order b c =
      cond_both (ends_with_both text from to) (range from (to - 2) ++ range (to - 1) to) (range from to)
      (λ xs. AreInOrder text from to xs × (length xs ≤ 2))
      (λ both.
      let h = both_by text from to c.0 both in
      let x = r text from (to - 2) (omega (arith, h.0)) b h.1 in
      let y = r text (to - 1) to (omega arith) h.2 c in (
        order_append text from (to - 2) to (range from (to - 2)) (range (to - 1) to) x.0
            (order_from text (to - 2) (to - 1) to (range (to - 1) to) y.0 (omega arith)),
        omega (arith, x.1, y.1, length-append (range from (to - 2)) (range (to - 1) to)),
      ))
      (λ none. let x = r text from to order b c in (x.0, omega (arith, x.1)))

  module _ (d : Document) where
    line_kept : (owed from to : ℕ) (items : List Item)
        → from ≤ to → IsCharBoundary d.text from → IsCharBoundary d.text to → IsRawLine range d owed from to items
        → AreInOrder d.text from to items × (length items ≤ 3)
    line_kept owed from to items order b c (columns, are, is) =
        let x = columns_kept d.text d.names owed from columns b are in
        let y = raw_kept d.text from to order b c in (
          subst (AreInOrder d.text from to) (sym is) (order_append d.text from from to columns (raw_items range d.text from to) x.0 y.0),
          omega (arith, x.1, y.1, ap length is, length-append columns (raw_items range d.text from to)),
        )

    lines_kept : (ps : List Place) (from at to : ℕ) (chain whole : List Item)
        → IsUtf8 d.text → ArePlaced d.text at ps to → AreInOrder d.text from at chain → AreRawLines range d chain ps whole
        → AreInOrder d.text from to whole × (length whole ≤ length chain + 3 * length ps)
    unfolding ArePlaced AreRawLines
    lines_kept [] from at to chain whole u placed h is = rw is (order_to d.text from at to chain h placed, omega arith)
    lines_kept (p ∷ ps) from at to chain whole u placed h (line, is, further) =
        let l = line_kept p.rest.owed (offset p) (line_end p) line (omega arith) placed.1.boundary (place_end d.text p u placed.1) is in
        let f = lines_kept ps from (line_end p) to (add_tokens chain line) whole u placed.2
        (order_adds d.text from (offset p) (line_end p) chain line (order_to d.text from at (offset p) chain h placed.0) l.0) further in
        (f.0, omega (arith, f.1, l.1, add_tokens_few line chain))

-- Lines that have bytes are no more than those bytes.
bytes_few : (text : List ℕ) (from to : ℕ) (ps : List Place) → HaveBytes from ps → ArePlaced text from ps to → length ps + from ≤ to
unfolding HaveBytes ArePlaced
bytes_few text from to [] some placed = omega arith
bytes_few text from to (p ∷ ps) some placed = grind (arith, bytes_few text (line_end p) to ps some.1 placed.2)

-- Two offsets around a block that begins and ends at two others.
pub record Around (start stop : ℕ) : Type 0 where
  pub from : ℕ
  pub to : ℕ
  pub following : from ≤ start
  pub before : stop ≤ to

-- So a block of raw lines has at most four items for each byte between two offsets around it.
few_by : (text : List ℕ) (start stop n : ℕ) (ps : List Place) (w : Around start stop)
    → n ≤ 0 + 3 * length ps → AreFew start ps → ArePlaced text start ps stop → w.from < w.to → suc n ≤ 4 * (w.to - w.from)
few_by text start stop n ps w least (inl one) placed apart = omega arith
few_by text start stop n ps w least (inr some) placed apart = grind (arith, bytes_few)

-- A raw line is in order, in code and metadata or in HTML.
pub text_line_in_order : (d : Document) (owed from to : ℕ) (items : List Item)
    → from ≤ to → IsCharBoundary d.text from → IsCharBoundary d.text to → IsRawLine range_text d owed from to items → AreInOrder d.text from to items
text_line_in_order d owed from to items order b c line = (line_kept range_text text_range d owed from to items order b c line).0

pub html_line_in_order : (d : Document) (owed from to : ℕ) (items : List Item)
    → from ≤ to → IsCharBoundary d.text from → IsCharBoundary d.text to → IsRawLine range_html d owed from to items → AreInOrder d.text from to items
html_line_in_order d owed from to items order b c line = (line_kept range_html html_range d owed from to items order b c line).0

-- A block of raw lines with their chain. It begins and ends between characters, and its lines are placed in the text.
record RawBlock (range : Ranges) (d : Document) : Type 0 where
  start : ℕ
  stop : ℕ
  body : ItemBody
  lines : List Place
  chain : List Item
  are : AreRawLines range d [] lines chain
  starts : IsCharBoundary d.text start
  ends : IsCharBoundary d.text stop
  placed : ArePlaced d.text start lines stop
  few : AreFew start lines

-- It fits between two offsets around it.
raw_fits : (range : Ranges) → IsRange range → (d : Document) (b : RawBlock range d) (items : List (ℕ × Item)) (w : Around b.start b.stop)
    → IsUtf8 d.text → items ≡ block_with b.start b.stop b.body b.chain → FitsBetween d.text Elsewhere w.from w.to items
raw_fits range r d b items w u is =
    let k = lines_kept range r d b.lines b.start b.start b.stop [] b.chain u b.placed (omega arith) b.are in
    subst (FitsBetween d.text Elsewhere w.from w.to) (sym is)
    (block_fits d.text Elsewhere w.from w.to (record { start = b.start; «end» = b.stop; body = b.body }) b.chain
    (record {
      following = w.following;
      order = placed_bound d.text b.start b.stop b.lines b.placed;
      before = w.before;
      starts = b.starts;
      ends = b.ends;
    })
    k.0
    (few_by d.text b.start b.stop (length b.chain) b.lines w k.1 b.few b.placed))

-- What holds with and without a line at the front holds if that line is left out where only blank lines follow.
kept_by : (P : List Place → Type 0) (p : Place) (qs : List Place) → P [] → P (p ∷ qs) → P (unless_blank p qs)
kept_by P p [] none some = cond_both (is_blank_rest p.rest) [] (p ∷ []) P (λ blank. none) (λ full. some)
kept_by P p (q ∷ qs) none some = some

-- the lines without the blank ones at the end
pub kept_placed : (text : List ℕ) (from to : ℕ) (ps : List Place) → IsUtf8 text → IsCharBoundary text from → ArePlaced text from ps to
    → ArePlaced text from (without_blanks ps) (last_end from (without_blanks ps)) × IsCharBoundary text (last_end from (without_blanks ps))
unfolding ArePlaced without_blanks last_end
kept_placed text from to [] u b h = (omega arith, b)
kept_placed text from to (p ∷ ps) u b h = grind (arith, place_end, kept_by, kept_placed text (line_end p) to ps u (place_end text p u h.1) h.2)

-- the end of the last of them is not after the others
pub kept_last : (text : List ℕ) (from to : ℕ) (ps : List Place) → ArePlaced text from ps to → last_end from (without_blanks ps) ≤ to
unfolding ArePlaced without_blanks last_end
kept_last text from to [] h = h
kept_last text from to (p ∷ ps) h = grind (arith, kept_by, placed_bound, kept_last text (line_end p) to ps h.2)

-- each of these has a byte, too
kept_bytes : (from : ℕ) (ps : List Place) → HaveBytes from ps → HaveBytes from (without_blanks ps)
unfolding HaveBytes without_blanks
kept_bytes from [] some = tt
kept_bytes from (p ∷ ps) some = kept_by (HaveBytes from) p (without_blanks ps) tt (some.0, kept_bytes (line_end p) ps some.1)

kept_few : (from : ℕ) (ps : List Place) → AreFew from ps → AreFew from (without_blanks ps)
unfolding without_blanks
kept_few from ps (inr some) = inr (kept_bytes from ps some)
kept_few from [] (inl one) = inl one
kept_few from (p ∷ []) (inl one) = kept_by (AreFew from) p [] (inl (omega arith)) (inl one)
kept_few from (p ∷ q ∷ ps) (inl one) = absurd (omega arith)

-- Indented code fits where its lines do.
pub indented_fits : (d : Document) (p : Place) (further : List Place) (items : List (ℕ × Item)) (limit : ℕ)
    → IsUtf8 d.text → IsIndentedCode d p further items → ArePlaced d.text (offset p) (p ∷ further) limit → AreFew (offset p) (p ∷ further)
    → (w : Around (offset p) (last_end (offset p) (without_blanks (p ∷ further)))) → FitsBetween d.text Elsewhere w.from w.to items
unfolding ArePlaced
indented_fits d p further items limit u is placed node_bound w =
    let all : List Place = without_blanks (p ∷ further) in
    let k = kept_placed d.text (offset p) limit (p ∷ further) u placed.1.boundary placed in
    raw_fits range_text text_range d (record {
      start = offset p;
      stop = last_end (offset p) all;
      body = IndentCodeBlock;
      lines = all;
      chain = is.chain;
      are = is.lines;
      starts = placed.1.boundary;
      ends = k.1;
      placed = k.0;
      few = kept_few (offset p) (p ∷ further) node_bound;
    }) items w u is.items_are

-- the block with the lines of an extent
abbrev placed_block : {Early : Type 0} (range : Ranges) (d : Document) (start : ℕ) (body : ItemBody) (e : Lines) (chain : List Item)
    → AreRawLines range d [] e.places chain → IsCharBoundary d.text start → IsPlaced Early d.text start e → RawBlock range d
placed_block range d start body e chain are b placed = record {
  start = start;
  stop = e.«end»;
  body = body;
  lines = e.places;
  chain = chain;
  are = are;
  starts = b;
  ends = placed.boundary;
  placed = placed.places;
  few = placed.node_bound;
}

-- So do a fenced code block, a metadata block and an HTML block.
pub fenced_fits : {Early : Type 0} (d : Document) (start count : ℕ) (e : Lines) (items : List (ℕ × Item))
    → IsUtf8 d.text → IsFencedCode d start count e.places e.«end» items → IsCharBoundary d.text start → IsPlaced Early d.text start e
    → (w : Around start e.«end») → FitsBetween d.text Elsewhere w.from w.to items
fenced_fits d start count e items u is b placed w =
    raw_fits range_text text_range d (placed_block range_text d start (FencedCodeBlock is.info) e is.chain is.lines b placed) items w u is.items_are

pub metadata_fits : {Early : Type 0} (d : Document) (start byte : ℕ) (e : Lines) (items : List (ℕ × Item))
    → IsUtf8 d.text → IsMetadata d start byte e.places e.«end» items → IsCharBoundary d.text start → IsPlaced Early d.text start e
    → (w : Around start e.«end») → FitsBetween d.text Elsewhere w.from w.to items
metadata_fits d start byte e items u is b placed w =
    raw_fits range_text text_range d (placed_block range_text d start (MetadataBlock (metadata_kind byte)) e is.chain is.lines b placed) items w u
    is.items_are

-- the lines do not move if columns are owed at the first
owing_placed : (text : List ℕ) (columns from to : ℕ) (ps : List Place) → ArePlaced text from ps to → ArePlaced text from (first_owing columns ps) to
unfolding ArePlaced
owing_placed text columns from to [] placed = placed
owing_placed text columns from to (p ∷ ps) (following, i, further) = (following, record { left = i.left; within = i.within; boundary = i.boundary }, further)

owing_few : (columns from : ℕ) (ps : List Place) → AreFew from ps → AreFew from (first_owing columns ps)
unfolding HaveBytes
owing_few columns from [] node_bound = node_bound
owing_few columns from (p ∷ ps) (inl one) = inl one
owing_few columns from (p ∷ ps) (inr some) = inr some

pub html_fits : {Early : Type 0} (d : Document) (start columns : ℕ) (e : Lines) (items : List (ℕ × Item))
    → IsUtf8 d.text → IsHtml d start columns e.places e.«end» items → IsCharBoundary d.text start → IsPlaced Early d.text start e
    → (w : Around start e.«end») → FitsBetween d.text Elsewhere w.from w.to items
html_fits d start columns e items u is b placed w =
    raw_fits range_html html_range d (record {
      start = start;
      stop = e.«end»;
      body = HtmlBlock;
      lines = first_owing columns e.places;
      chain = is.chain;
      are = is.lines;
      starts = b;
      ends = placed.boundary;
      placed = owing_placed d.text columns start e.«end» e.places placed.places;
      few = owing_few columns start e.places placed.node_bound;
    }) items w u is.items_are

-- Up to the start of the first remaining line, an HTML block has at most four items for each byte, all of its own.
pub html_few : (d : Document) (start columns stop : ℕ) (e : Lines) (items : List (ℕ × Item))
    → IsUtf8 d.text → IsHtml d start columns e.places e.«end» items → ArePlaced d.text start e.places stop
    → AreFew start e.places → (w : Around start stop) → w.from < w.to → counted_nodes items ≤ 4 * (w.to - w.from)
html_few d start columns stop e items u is placed node_bound w apart =
    let ps : List Place = first_owing columns e.places in
    let owing = owing_placed d.text columns start stop e.places placed in
    let k = lines_kept range_html html_range d ps start start stop [] is.chain u owing (omega arith) is.lines in
    let more = few_by d.text start stop (length is.chain) ps w k.1 (owing_few columns start e.places node_bound) owing apart in
    let size = length-block (record { start = start; «end» = e.«end»; body = HtmlBlock }) is.chain in
    let same = ap length is.items_are in
    let most = own_at_most None items in
    omega arith

-- Between characters: an offset at the end of a line.
eol_small : (b : ℕ) (bs : List ℕ) (t v : Bool) → (b == line_feed) ≡ t → (b == carriage_return) ≡ v → at_line_end (b ∷ bs) ≡ true → b < ascii_end
eol_small b bs true v e f h = (let z = eqb-true b line_feed e in omega arith)
eol_small b bs false true e f h = (let z = eqb-true b carriage_return f in omega arith)
eol_small b bs false false e f h = absurd (grind (arith, e, f, h))

ends_between : (text : List ℕ) (at : ℕ) → at ≤ length text → at_line_end (drop at text) ≡ true → IsCharBoundary text at
ends_between text at within h = elim (cases_lt at (length text)) [
  | inl inside ↦ (
      let e : at_line_end (get_or text at 0 ∷ drop (at + 1) text) ≡ true = sym (at_drop_more (λ (bs : List ℕ). at_line_end bs) text at 0 inside) ∙ h in
      IsCharBoundary-before_ascii text at inside (eol_small (get_or text at 0) (drop (at + 1) text) _ _ refl refl e))
  | inr past ↦ (let z : at ≡ length text = omega arith in subst (IsCharBoundary text) (sym z) (IsCharBoundary-end text))
]

-- After some of the bytes, which are none of a line ending, the line ends.
record IsMark (bs : List ℕ) (n : ℕ) : Type 0 where
  ends : at_line_end (drop n bs) ≡ true
  content : n ≤ prefix_len is_content bs

-- Bytes after some of the content of a line are more of it, if they pass a test that no byte of a line ending passes.
run_after : (test : ℕ → Bool) → ((b : ℕ) → test b ≡ true → is_content b ≡ true) → (k : ℕ) (bs : List ℕ) → k ≤ prefix_len is_content bs
    → k + prefix_len test (drop k bs) ≤ prefix_len is_content bs
run_after test content k bs h =
    let n : ℕ = prefix_len is_content bs in
    elim (cases_lt n (k + prefix_len test (drop k bs))) [
      | inl past ↦ (
          let passes = prefix_len_passes test (drop k bs) (n - k) 0 (omega arith) in
          let same : get_or (drop k bs) (n - k) 0 ≡ get_or bs n 0 = get_or-drop k bs (n - k) 0 ∙ ap (λ j. get_or bs j 0) (omega arith) in
          let within : n < length bs = omega (arith, prefix_len-le-length test (drop k bs), length-drop k bs, prefix_len-le-length is_content bs) in
          absurd (true≢false (sym (content _ (ap test (sym same) ∙ passes)) ∙ prefix_len_stops is_content bs 0 within)))
      | inr within ↦ within
    ]

nothing_ends : (bs : List ℕ) → length bs ≡ 0 → at_line_end bs ≡ true
nothing_ends [] h = refl
nothing_ends (b ∷ bs) h = absurd (omega arith)

-- A closing fence is such a mark, and so is the closing line of metadata.
fence_mark : (byte count : ℕ) (bs : List ℕ) (n : ℕ) → is_content byte ≡ true → closing_fence_len byte count bs ≡ Some n → IsMark bs n
unfolding closing_fence_len
fence_mark byte count bs n plain h =
    let k : ℕ = run_len byte bs in
    let m : ℕ = k + prefix_len is_space_or_tab (drop k bs) in
    cond_both (length bs == 0) (Some 0) (if nat_le count k && at_line_end (drop m bs) then Some m else None) (λ (o : Option ℕ). o ≡ Some n → IsMark bs n)
    (λ none e. let z : 0 ≡ n = cc in subst (IsMark bs) z (record { ends = nothing_ends bs (eqb-true (length bs) 0 none); content = omega arith }))
    (λ some e.
    let f = cond_some (nat_le count k && at_line_end (drop m bs)) m n e in
    let run : k ≤ prefix_len is_content bs = omega (arith, run_after (λ b. b == byte) (λ b g. ap is_content (eqb-true b byte g) ∙ plain) 0 bs (omega arith)) in
    subst (IsMark bs) f.1 (record {
      ends = (and_parts (nat_le count k) (at_line_end (drop m bs)) f.0).1;
      content = run_after is_space_or_tab (λ b g. grind (arith, nat_tests, g)) k bs run;
    })) h

three_plain : (c : ℕ) (bs : List ℕ) → is_content c ≡ true → three_of c bs ≡ true → 3 ≤ prefix_len is_content bs
three_plain c [] plain h = cc
three_plain c (x ∷ []) plain h = absurd (grind (arith, h))
three_plain c (x ∷ y ∷ []) plain h = absurd (grind (arith, h))
three_plain c (x ∷ y ∷ z ∷ bs) plain h = grind (arith, and_parts)

metadata_mark : (byte : ℕ) (bs : List ℕ) (n : ℕ) → is_content byte ≡ true → closing_metadata_len byte bs ≡ Some n → IsMark bs n
unfolding closing_metadata_len closing_marks
metadata_mark byte bs n plain h =
    let m : ℕ = 3 + run_len space (drop 3 bs) in
    let f = cond_some (closing_marks byte bs && at_line_end (drop m bs)) m n h in
    let a = and_parts (closing_marks byte bs) (at_line_end (drop m bs)) f.0 in
    let three : 3 ≤ prefix_len is_content bs = elim (or_cases ((byte == hyphen) && three_of full_stop bs) (three_of byte bs) a.0) [
      | inl dots ↦ three_plain full_stop bs refl (and_parts (byte == hyphen) (three_of full_stop bs) dots).1
      | inr same ↦ three_plain byte bs plain same
    ] in
    subst (IsMark bs) f.1 (record { ends = a.1; content = run_after (λ b. b == space) (λ b e. ap is_content (eqb-true b space e)) 3 bs three })

-- What holds without a value and with each value holds for an option.
option_both : {X : Type 0} (P : Option X → Type 0) (o : Option X) → P None → ((x : X) → o ≡ Some x → P (Some x)) → P o
option_both P None none some = none
option_both P (Some x) none some = some x refl

-- Each of the lines from an offset on begins there or after another line, and a place in it is in the text, with the
-- same end of the line.
module _ (text : List ℕ) (u : IsUtf8 text) (path : List Container) where
  -- a line, its start, and a place in it
  pub record IsIn (at : ℕ) (q : Place) : Type 0 where
    pub stands : IsPlaceOf text q
    pub here : q.line ≡ at
    pub same_end : line_end q ≡ after_line_at text at
    pub some : at < line_end q

  after_is_boundary : (at : ℕ) → IsCharBoundary text at → IsCharBoundary text (after_line_at text at)
  after_is_boundary at b = subst (IsCharBoundary text) (line_start_end text at) (place_end text (line_place at (drop at text)) u (line_is_place text at b))

  in_by : (at : ℕ) (q : Place) (o : Option Rest) → at < length text → IsCharBoundary text at → after path (line_rest (drop at text)) ≡ o
      → option_map (at_rest (line_place at (drop at text))) o ≡ Some q → IsIn at q
  in_by at q None w b e h = cc
  in_by at q (Some r) w b e h =
      let same : place_at at r ≡ q = cc in
      let k = after_keeps text at path (line_rest (drop at text)) r u e (line_is_place text at b) in
      let ends : line_end (place_at at r) ≡ after_line_at text at = k.1 ∙ line_start_end text at in
      let more = (line_len-within text at w).0 in
      subst (IsIn at) same (record { stands = k.0; here = refl; same_end = ends; some = omega arith })

  taken_in : (at : ℕ) (line q : Place) → at < length text → IsCharBoundary text at → line ≡ line_place at (drop at text) → taken path line ≡ Some q → IsIn at q
  taken_in at line q w b e h = in_by at q (after path (line_rest (drop at text))) w b refl (ap (taken path) (sym e) ∙ h)

  line_in : (at : ℕ) → at < length text → IsCharBoundary text at → IsIn at (line_place at (drop at text))
  line_in at w b = grind (arith, line_is_place, line_start_end, line_len-within)

  columns_in : (n at : ℕ) (q : Place) → IsIn at q → IsIn at (moved_columns n q)
  columns_in n at q i =
      let same = columns_line_end n q in
      let some = i.some in
      record { stands = columns_keep text n q u i.stands; here = i.here; same_end = same ∙ i.same_end; some = omega arith }

  in_after : (at : ℕ) (q : Place) → IsIn at q → at ≤ offset q
  in_after at q i = omega (arith, i.here)

  -- the end of the line of a place
  place_line : (p : Place) → IsPlaceOf text p → after_line_at text (offset p) ≡ line_end p
  place_line p i = ap (λ bs. offset p + line_len bs) (sym i.left)

  -- the start of the lines after one
  left_start : (at : ℕ) (lines : List Place)
      → IsCharBoundary text at → lines ≡ lines_from text (after_line_at text at) → start_of (length text) lines ≡ after_line_at text at
  left_start at lines b is = ap (start_of (length text)) is ∙ start_of-lines text (after_line_at text at) (after_is_boundary at b).0

  module _ (Early : Type 0) where
    -- a block closes at an offset in a line or at its end
    abbrev Closed : ℕ → ℕ → Type 0
    Closed at e = (at ≤ e) × IsCharBoundary text e × (Early → e ≤ after_line_at text at)

    -- The verdict on the line at an offset stays within that line. An early block that stops does so before it.
    abbrev IsWithin : ℕ → Verdict → Type 0
    IsWithin at (GoesOn p) = IsIn at p
    IsWithin at (IsLast p) = IsIn at p
    IsWithin at (Closes e) = Closed at e
    IsWithin at (Stops e) = (at ≤ e) × IsCharBoundary text e × (Early → e ≤ at)

    abbrev StaysWithin : (Place → Place → Verdict) → Type 0
    StaysWithin judge = (at : ℕ) (line q : Place) → line ≡ line_place at (drop at text) → IsCharBoundary text at → IsIn at q → IsWithin at (judge line q)

    stops_here : (at : ℕ) (line : Place) → line ≡ line_place at (drop at text) → IsCharBoundary text at → IsWithin at (Stops line.line)
    stops_here at line is b = grind arith

    extent_placed : (at : ℕ) (q : Place) (e : Lines) → IsIn at q → IsFilled Early text (after_line_at text at) e → IsFilled Early text at (with_line q e)
    unfolding ArePlaced HaveBytes
    extent_placed at q e i further = grind (arith, in_after)

    -- a block without further lines
    stops_placed : (at stop : ℕ) (lines : List Place) → at ≤ stop → IsCharBoundary text stop → at ≤ start_of (length text) lines
        → (Early → stop ≤ start_of (length text) lines) → IsFilled Early text at (extent_to stop lines)
    unfolding ArePlaced HaveBytes
    stops_placed at stop lines order b left before = record { places = order; left = left; boundary = b; node_bound = tt; before = before }

    verdict_filled : (at : ℕ) (v : Verdict) (line : Place) (lines : List Place) (further : Lines)
        → line ≡ line_place at (drop at text) → start_of (length text) lines ≡ after_line_at text at → IsWithin at v
        → IsFilled Early text (after_line_at text at) further → IsFilled Early text at (extent_by v line lines further)
    verdict_filled at (GoesOn p) line lines further is left i rest = extent_placed at p further i rest
    verdict_filled at (IsLast p) line lines further is left i rest =
        let same = i.same_end in
        extent_placed at p (extent_to (line_end p) lines) i
        (stops_placed (after_line_at text at) (line_end p) lines (omega arith) (place_end text p u i.stands) (omega arith) (λ early. omega arith))
    verdict_filled at (Closes e) line lines further is left i rest = stops_placed at e lines i.0 i.1 (omega arith) (λ early. omega (arith, i.2 early))
    verdict_filled at (Stops e) line lines further is left i rest =
        let start = ap (λ (p : Place). p.line) is in
        stops_placed at e (line ∷ lines) i.0 i.1 (omega arith) (λ early. omega (arith, i.2 early))

    -- So the lines of a block are placed in the text, each with a byte.
    extent_filled : (judge : Place → Place → Verdict) → StaysWithin judge → (lines : List Place) (at : ℕ) → lines ≡ lines_from text at → IsCharBoundary text at
        → IsFilled Early text at (extent (in_containers path judge) (length text) lines)
    unfolding extent
    extent_filled judge stays [] at is b = stops_placed at (length text) [] b.0 (IsCharBoundary-end text) b.0 (λ early. omega arith)
    extent_filled judge stays (line ∷ lines) at is b =
        let f = first_line text at line lines is in
        verdict_filled at (in_containers path judge line) line lines (extent (in_containers path judge) (length text) lines) f.1 (left_start at lines b f.2)
        (option_both (λ o. IsWithin at (judged judge line o)) (taken path line) (stops_here at line f.1 b)
        (λ q h. stays at line q f.1 b (taken_in at line q f.0 b f.1 h)))
        (extent_filled judge stays lines (after_line_at text at) f.2 (after_is_boundary at b))

    -- the lines after one
    after_placed : (judge : Place → Place → Verdict) → StaysWithin judge → (start : ℕ) → IsCharBoundary text start
        → IsPlaced Early text start (extent (in_containers path judge) (length text) (lines_from text (after_line_at text start)))
    after_placed judge stays start b =
        let at : ℕ = after_line_at text start in
        let f = extent_filled judge stays (lines_from text at) at refl (after_is_boundary start b) in
        record {
          places = placed_from text start at _ _ (omega arith) f.places;
          left = placed_from text start at _ _ (omega arith) f.left;
          boundary = f.boundary;
          node_bound = inr (later_bytes start at _ (omega arith) f.node_bound);
          before = f.before;
        }

    -- a first line before others
    with_first : (p : Place) (e : Lines) → IsPlaceOf text p → IsFilled Early text (line_end p) e → AreFew (offset p) (p ∷ e.places)
        → IsPlaced Early text (offset p) (with_line p e)
    unfolding ArePlaced
    with_first p e i f few = grind arith

    -- it has a byte if another line follows
    first_few : (judge : Place → Place → Verdict) (lines : List Place) (p : Place) → IsPlaceOf text p → lines ≡ lines_from text (line_end p)
        → HaveBytes (line_end p) (extent (in_containers path judge) (length text) lines).places
        → AreFew (offset p) (p ∷ (extent (in_containers path judge) (length text) lines).places)
    unfolding HaveBytes extent
    first_few judge [] p i is bytes = inl (omega arith)
    first_few judge (line ∷ lines) p i is bytes = grind (arith, first_line, line_len-some, place_length)

    first_placed : (judge : Place → Place → Verdict) → StaysWithin judge → (p : Place) → IsPlaceOf text p
        → IsPlaced Early text (offset p) (with_line p (extent (in_containers path judge) (length text) (lines_from text (after_line_at text (offset p)))))
    first_placed judge stays p i =
        let lines : List Place = lines_from text (after_line_at text (offset p)) in
        let is : lines ≡ lines_from text (line_end p) = ap (lines_from text) (place_line p i) in
        let f = extent_filled judge stays lines (line_end p) is (place_end text p u i) in
        with_first p (extent (in_containers path judge) (length text) lines) i f (first_few judge lines p i is f.node_bound)

    -- a block closes after a mark at a place
    marked : (at n : ℕ) (q : Place) → IsIn at q → IsMark q.rest.left n → Closed at (offset q + n)
    marked at n q i m =
        let fits : n ≤ line_len q.rest.left = omega (arith, m.content, line_len-parts q.rest.left) in
        let within = (place_end text q u i.stands).0 in
        let left : drop n q.rest.left ≡ drop (offset q + n) text = ap (drop n) i.stands.left ∙ drop-drop n (offset q) text in
        (omega (arith, i.here), ends_between text (offset q + n) (omega arith) (ap at_line_end (sym left) ∙ m.ends), λ early. omega (arith, i.same_end))

  -- The verdicts for each kind of block stay within the line.
  abbrev code_judge : Place → Place → Verdict
  code_judge line q = if has_columns 4 q.rest then GoesOn (moved_columns 4 q) else Stops line.line

  code_stays : StaysWithin Unit code_judge
  code_stays at line q is b i =
      cond_both (has_columns 4 q.rest) (GoesOn (moved_columns 4 q)) (Stops line.line) (IsWithin Unit at) (λ some. columns_in 4 at q i)
      (λ none. stops_here Unit at line is b)

  fence_stays : (columns byte count : ℕ) → is_content byte ≡ true → StaysWithin Unit (fence_judge columns byte count)
  fence_stays columns byte count plain at line q is b i =
      let more : ℕ → ℕ = λ n. offset (unindented q) + n in
      let found : Option ℕ = closing_fence_len byte count (all_taken q.rest).left in
      let goes_on = columns_in columns at q i in
      cond_both (nat_lt (indent q.rest) 4) (option_map more found) None (λ (o : Option ℕ). IsWithin Unit at (fence_verdict columns q o))
      (λ few. option_both (λ o. IsWithin Unit at (fence_verdict columns q (option_map more o))) found goes_on
      (λ n h. marked Unit at n (unindented q) (columns_in (indent q.rest) at q i) (fence_mark byte count (all_taken q.rest).left n plain h)))
      (λ many. goes_on)

  metadata_stays : (byte : ℕ) → is_content byte ≡ true → StaysWithin Unit (metadata_judge byte)
  metadata_stays byte plain at line q is b i =
      option_both (λ o. IsWithin Unit at (metadata_verdict line q o)) (closing_metadata_len byte line.rest.left) i (λ n h.
      let within : at < length text = omega (arith, i.some, (place_end text q u i.stands).0) in
      let z : offset line + n ≡ line.line + n = omega (arith, ap (λ (p : Place). p.rest.taken) is) in
      subst (Closed Unit at) z (marked Unit at n line (subst (IsIn at) (sym is) (line_in at within b)) (metadata_mark byte line.rest.left n plain h)))

  tag_stays : (until : BlockEnd) → StaysWithin Unit (tag_judge until)
  tag_stays until at line q is b i = grind (arith, cond_both, in_after)

  -- An HTML block may end after the prefix of a blank line.
  blank_stays : StaysWithin ⊥ blank_judge
  blank_stays at line q is b i = grind (arith, cond_both, stops_here, in_after)

  -- the lines of indented code, as an extent
  code_extent : (lines : List Place)
      → (let e = extent (in_containers path code_judge) (length text) lines in code_lines path lines ≡ (e.places, e.left))
  unfolding code_lines extent
  code_extent [] = refl
  code_extent (line ∷ lines) = grind (arith, option_both, code_extent lines)

  -- The lines of each raw leaf block are placed in the text, from its start on.
  pub indented_after_placed : (p : Place)
      → IsPlaceOf text p → (let all = code_after text path (offset p) in ArePlaced text (offset p) (p ∷ all.0) (start_of (length text) all.1))
  indented_after_placed p i =
      subst (λ (all : List Place × List Place). ArePlaced text (offset p) (p ∷ all.0) (start_of (length text) all.1))
      (sym (code_extent (lines_from text (after_line_at text (offset p))))) (first_placed Unit code_judge code_stays p i).left

  pub indented_after_few : (p : Place) → IsPlaceOf text p → AreFew (offset p) (p ∷ (code_after text path (offset p)).0)
  indented_after_few p i =
      subst (λ (all : List Place × List Place). AreFew (offset p) (p ∷ all.0)) (sym (code_extent (lines_from text (after_line_at text (offset p)))))
      (first_placed Unit code_judge code_stays p i).node_bound

  pub fenced_after_placed : (columns byte count start : ℕ) → is_content byte ≡ true → IsCharBoundary text start
      → IsPlaced Unit text start (fenced_after text path columns byte count start)
  fenced_after_placed columns byte count start plain b = after_placed Unit (fence_judge columns byte count) (fence_stays columns byte count plain) start b

  pub metadata_after_placed : (byte start : ℕ) → is_content byte ≡ true → IsCharBoundary text start
      → IsPlaced Unit text start (metadata_after text path byte start)
  metadata_after_placed byte start plain b = after_placed Unit (metadata_judge byte) (metadata_stays byte plain) start b

  pub to_end_placed : (until : BlockEnd) (p : Place) → IsPlaceOf text p → IsPlaced Unit text (offset p) (html_to_end text path until p)
  to_end_placed until p i =
      let lines : List Place = lines_from text (after_line_at text (offset p)) in
      let left = left_start (offset p) lines i.boundary refl in
      let ends = place_line p i in
      cond_both (holds_end until (line_of p)) (IsLast p) (GoesOn p)
      (λ (v : Verdict). IsPlaced Unit text (offset p) (extent_by v p lines (extent (in_containers path (tag_judge until)) (length text) lines)))
      (λ held. with_first Unit p (extent_to (line_end p) lines) i
      (stops_placed Unit (line_end p) (line_end p) lines (omega arith) (place_end text p u i) (omega arith) (λ early. omega arith)) (inl (omega arith)))
      (λ other. first_placed Unit (tag_judge until) (tag_stays until) p i)

  pub to_blank_placed : (p : Place) → IsPlaceOf text p → IsPlaced ⊥ text (offset p) (html_to_blank text path p)
  to_blank_placed p i = first_placed ⊥ blank_judge blank_stays p i
