-- The block of a paragraph or of a setext heading is between two offsets in order.
use Rattle.std.proofs.Common.{◌≡◌, inl, inr, ℕ, ◌+◌, ◌-◌, ◌*◌, ◌<◌, ◌≤◌, suc, Bool, true, false, List, [], ◌∷◌, ◌++◌, length, drop, Option, Some, None, IsUtf8}
use Rattle.std.proofs.Common.{IsCharBoundary, refl, sym, ap, subst, ◌∙◌, arith, MatchOption, slice_index, ◌==◌, get_or-drop, append-nil, get_or-take, le-ltb}
use Rattle.std.proofs.Common.{slice_range}
use Rattle.first_pass_grammar.proofs.Common.{cases_lt, false≢true, cond-true, cond-false, and_left, Item, Forest, is_text, is_escaped, Place, start_of}
use Rattle.first_pass_grammar.proofs.Common.{start_of-lines, close_break, cut, AreInOrder, bytes_closed, order_bound, order_to, Document, marker_items}
use Rattle.first_pass_grammar.proofs.Common.{TextLines, block_with, lines_from, counted_nodes, is_task_marker, Ranged, Empty, extent_of, extents, laid, Within}
use Rattle.first_pass_grammar.proofs.Common.{InItem, below, Fits, FitsBetween, IsBetween, within_top, ItemBody, TaskListMarker, HeadingLevel, underline_first}
use Rattle.first_pass_grammar.proofs.Common.{plain_text, text_children, by_backslash, heading_bytes, heading_children, IsUnderlined, Taken, taking, nat_tests}
use Rattle.first_pass_grammar.proofs.Common.{IsCharBoundary-before_ascii, left_brace, ascii_end, Options, Braces, heading_attribute_block, chain_end}
use Rattle.first_pass_grammar.proofs.Common.{kept_before}
use Rattle.first_pass_leaves.proofs.Common.{path_of, AddsBetween, MarkerIsInItem, MarkerBetween, AddsPlainText, order_closed, suffix_first, few_in_order}
use Rattle.first_pass_leaves.proofs.Common.{length-block, row_of-laid, row_of-fits, HaveBytes, own_at_most}
use Rattle.first_pass_grammar.specs.Order.{Node}
use Rattle.first_pass_grammar.proofs.Order.Orders.{row_of}
use Rattle.first_pass_items.specs.declared.item.ItemBody.TheVariants.{Paragraph as ParagraphBody, Heading as HeadingBody}
use Rattle.first_pass_grammar.proofs.Names.MoreNames.{extends_none}
use Rattle.first_pass_leaves.proofs.AttributeEnds.{length_between, braces_within, opens_with}
use Rattle.first_pass_leaves.proofs.OrderParagraph.{TextInOrder, text_is_in_order, cut_text_in_order, chain_end_place, text_later}
use Rattle.first_pass_leaves.proofs.ParagraphLemmas.{closed_past}
use Rattle.first_pass_leaves.proofs.PlainTexts.{children_by}

few_marked : (marker : Option Item) (chain : List Item) → length (marker_items marker ++ chain) ≤ suc (length chain)
few_marked None chain = omega arith
few_marked (Some x) chain = omega arith

-- the node of a paragraph or a heading
abbrev text_node : ℕ → ℕ → ItemBody → Item
text_node start next body = record { start = start; «end» = next; body = body }

-- such a block has at most four nodes for each byte: the block, a marker and its tokens, all of them its own
block_few : (from start next : ℕ) (body : ItemBody) (marker : Option Item) (chain : List Item) → from ≤ start → length chain + start ≤ next → from < next
    → counted_nodes (block_with start next body (marker_items marker ++ chain)) ≤ 4 * (next - from)
block_few from start next body marker chain low node_bound some =
    let size = length-block (text_node start next body) (marker_items marker ++ chain) in
    let marked = few_marked marker chain in
    let most = own_at_most None (block_with start next body (marker_items marker ++ chain)) in
    omega arith

-- a task list item marker is in a list item
abbrev StandsIn : Within → Option Item → Type 0
StandsIn w None = Unit {0}
StandsIn w (Some m) = w ≡ InItem

-- the extent of a paragraph or a heading
abbrev text_extent : ℕ → ℕ → Ranged
text_extent start next = record { start = start; «end» = next; text_block = true; marker = false; item = false; definitions = false }

-- the children of a paragraph
kids_fit : (text : List ℕ) (w : Within) (from start next : ℕ) (marker : Option Item) (chain : List Item)
    → AreInOrder text start next chain → MarkerBetween text from start marker → StandsIn w marker
    → (from ≤ start) × Fits text (below w from (text_extent start next)) start next (row_of (marker_items marker ++ chain))
unfolding Fits row_of
kids_fit text w from start next None chain h stands inside = grind (arith, row_of-fits)
kids_fit text w from start next (Some m) chain h stands inside = grind (arith, row_of-fits)

block_laid : (start next : ℕ) (body : ItemBody) (chain : List Item)
    → extents (block_with start next body chain) ≡ laid 0 (Node (extent_of (text_node start next body)) (row_of chain) Empty)
unfolding laid
block_laid start next body chain =
    ap (λ (row : List (ℕ × Ranged)). (0, extent_of (text_node start next body)) ∷ row) (row_of-laid 1 chain ∙ sym (append-nil (laid 1 (row_of chain))))

top_stands : (old : Forest Item) (marker : Option Item) → MarkerIsInItem old marker → StandsIn (within_top old) marker
top_stands old None h = h
top_stands old (Some m) h = cond-true _ _ _ h

-- a task list item marker is no text
marker_plain : (body : ItemBody) → is_task_marker body ≡ true → (is_text body ≡ false) × (is_escaped body ≡ false)
marker_plain (TaskListMarker checked) h = (refl, refl)
marker_plain _ h = absurd (false≢true h)

-- The children of a paragraph or a heading: a marker before its start, or none, and a chain in order after that.
record ChildrenStand (text : List ℕ) (w : Within) (from start to : ℕ) (kids : List Item) : Type 0 where
  lead : Option Item
  chain : List Item
  is : kids ≡ marker_items lead ++ chain
  order : AreInOrder text start to chain
  bytes : HaveBytes chain
  stands : MarkerBetween text from start lead
  inside : StandsIn w lead

-- A block with such children is a paragraph or a heading, from one character boundary to another.
record IsTextBlock (text : List ℕ) (start next : ℕ) (body : ItemBody) : Type 0 where
  extent : extent_of (text_node start next body) ≡ text_extent start next
  starts : IsCharBoundary text start
  ends : IsCharBoundary text next

-- It fits between an offset before its marker or its text and its end.
children_between : (text : List ℕ) (w : Within) (from start to next : ℕ) (body : ItemBody) (kids : List Item)
    → IsTextBlock text start next body → to ≤ next → ChildrenStand text w from start to kids
    → FitsBetween text w from next (block_with start next body kids)
unfolding Fits
children_between text w from start to next body kids is less c =
    let h = order_to text start to next c.chain c.order less in
    let fitting = kids_fit text w from start next c.lead c.chain h c.stands c.inside in
    let order = order_bound text start next c.chain h in
    let kids_row = row_of (marker_items c.lead ++ c.chain) in
    let fits : Fits text w from next (Node (text_extent start next) kids_row Empty) =
    inl (record { following = fitting.0; order = order; before = omega arith; starts = is.starts; ends = is.ends }, fitting.1, omega arith) in
    subst (λ ks. FitsBetween text w from next (block_with start next body ks)) (sym c.is) (
      Node (extent_of (text_node start next body)) kids_row Empty,
      block_laid start next body (marker_items c.lead ++ c.chain),
      subst (λ x. Fits text w from next (Node x kids_row Empty)) (sym is.extent) fits,
      block_few from start next body c.lead c.chain fitting.0 (few_in_order text start next c.chain h c.bytes),
    )

-- the bytes that are cut off begin with the brace of an attribute block, or with white space
kept_byte : (broken : Bool) (bs : List ℕ) (opening : ℕ) → opening < length bs → slice_index bs opening ≡ left_brace
    → (kept_before broken opening bs ≤ opening) × (slice_index bs (kept_before broken opening bs) < ascii_end)
kept_byte true bs opening within is = (omega arith, omega (arith, is))
kept_byte false bs opening within is = grind (arith, cases_lt, suffix_first, nat_tests)

-- A heading's content ends at a character boundary before its attribute block.
pub kept_place : (text : List ℕ) (options : Options) (start last : ℕ) (broken : Bool) (block : Braces)
    → last ≤ length text → heading_attribute_block options (slice_range text start last) ≡ Some block
    → let e : ℕ = start + kept_before broken block.opening (slice_range text start last) in (start ≤ e) × (e < last) × IsCharBoundary text e
kept_place text options start last broken block within e =
    let bs : List ℕ = slice_range text start last in
    let k : ℕ = kept_before broken block.opening bs in
    let inside = braces_within options bs block e in
    let size : length bs ≡ last - start = length_between text start last within in
    let kept = kept_byte broken bs block.opening (omega (arith, inside.0, inside.1)) (opens_with options bs block e) in
    let before : k < last - start = omega (arith, inside.0, inside.1, kept.0) in
    let at : slice_index bs k ≡ slice_index text (start + k) = get_or-take (last - start) (drop start text) k 0 before ∙ get_or-drop start text k 0 in
    (omega arith, omega arith, IsCharBoundary-before_ascii text (start + k) (omega arith) (omega (arith, kept.1)))

-- the end of a chain with a marker before it
pub marked_end : (text : List ℕ) (from start stop : ℕ) (marker : Option Item) (chain : List Item)
    → MarkerBetween text from start marker → start ≤ stop → chain_end start chain ≤ stop
    → chain_end start (marker_items marker ++ chain) ≤ stop
marked_end text from start stop None chain stands low e = e
marked_end text from start stop (Some m) [] stands low e = let b : IsBetween text from start (extent_of m) = stands.1 in omega (arith, b.before)
marked_end text from start stop (Some m) (x ∷ xs) stands low e = e

-- the rest of a marker before the cut, or of one that is empty there
pub cut_marker : (e : ℕ) (m : Item) (chain : List Item) → m.start < e → m.«end» ≤ e → cut e (m ∷ chain) ≡ m ∷ cut e chain
cut_marker e m chain before whole = grind (arith, cond-true, cond-false)

cut_empty : (e : ℕ) (m : Item) (chain : List Item) → e ≤ m.start → is_escaped m.body ≡ false → cut e (m ∷ chain) ≡ []
cut_empty e m chain following plain = cond-false _ _ _ (le-ltb m.start e following) ∙ cond-false _ _ _ (and_left (is_escaped m.body) (m.start == e) plain)

module _ (d : Document) (w : Within) (from start : ℕ) (l : TextLines) (h : TextInOrder d start l) (low : from ≤ start) where
  abbrev next_start : ℕ
  next_start = start_of (length d.text) l.left

  -- the children of a paragraph
  text_stand : (marker : Option Item)
      → MarkerBetween d.text from start marker → StandsIn w marker → ChildrenStand d.text w from start next_start (text_children marker l)
  text_stand marker stands inside = grind (arith, order_closed, bytes_closed)

  -- the children of a heading that is cut
  cut_stand : (e : ℕ) (marker : Option Item) → MarkerBetween d.text from start marker → StandsIn w marker → start ≤ e → e ≤ h.stop → IsCharBoundary d.text e
      → ChildrenStand d.text w from start next_start (close_break l.break (cut e (marker_items marker ++ l.chain)))
  cut_stand e None stands inside above upto at =
      let c = cut_text_in_order d start e l h above upto at in
      record { lead = None; chain = close_break l.break (cut e l.chain); is = refl; order = c.0; bytes = c.1; stands = stands; inside = inside }
  cut_stand e (Some m) stands inside above upto at =
      let b : IsBetween d.text from start (extent_of m) = stands.1 in
      let plain = marker_plain m.body stands.0 in
      elim (cases_lt m.start e) [
        | inl before ↦
            let c = cut_text_in_order d start e l h above upto at in
            record {
              lead = Some m;
              chain = close_break l.break (cut e l.chain);
              is = ap (close_break l.break) (cut_marker e m l.chain before (omega (arith, b.before))) ∙ closed_past m l.break (cut e l.chain) plain.0;
              order = c.0;
              bytes = c.1;
              stands = stands;
              inside = inside;
            }
        | inr following ↦ record {
          lead = None;
          chain = close_break l.break [];
          is = ap (close_break l.break) (cut_empty e m l.chain following plain.1);
          order = order_closed d.text start h.stop next_start l.break [] (omega arith) h.before h.break_fits;
          bytes = bytes_closed l.break [] tt;
          stands = low;
          inside = tt;
        }
      ]

  -- the children of a heading, with its attribute block or without one
  heading_stand : (marker : Option Item) (o : Option Braces) → heading_attribute_block d.options (heading_bytes d start marker l) ≡ o
      → IsCharBoundary d.text start
      → MarkerBetween d.text from start marker → StandsIn w marker → ChildrenStand d.text w from start next_start (heading_children d start marker l)
  heading_stand marker None none starts stands inside =
      subst (ChildrenStand d.text w from start next_start) (sym (children_by d start marker l None none)) (text_stand marker stands inside)
  heading_stand marker (Some block) some starts stands inside =
      let last : ℕ = chain_end start (marker_items marker ++ l.chain) in
      let bound = order_bound d.text start h.stop l.chain h.order in
      let high : last ≤ h.stop =
      marked_end d.text from start h.stop marker l.chain stands bound (chain_end_place d.text start h.stop l.chain h.order starts).1 in
      let left : next_start ≡ h.left_at = ap (start_of (length d.text)) h.left_is ∙ start_of-lines d.text h.left_at h.left_within in
      let within : last ≤ length d.text = omega (arith, h.before, h.left_within) in
      let p = kept_place d.text d.options start last (by_backslash l.break) block within some in
      subst (ChildrenStand d.text w from start next_start) (sym (children_by d start marker l (Some block) some))
      (cut_stand (start + kept_before (by_backslash l.break) block.opening (heading_bytes d start marker l)) marker stands inside p.0 (omega (arith, p.1)) p.2)

-- The lines of a text are in order after an offset, with the marker before them: as the children of a paragraph, and of
-- a heading. The line after the next one is not before the next one.
record TextStands (d : Document) (w : Within) (from start : ℕ) (marker : Option Item) (l : TextLines) : Type 0 where
  starts : IsCharBoundary d.text start
  later : start_of (length d.text) l.left ≤ start_of (length d.text) (drop 1 l.left)
  paragraph : ChildrenStand d.text w from start (start_of (length d.text) l.left) (text_children marker l)
  heading : ChildrenStand d.text w from start (start_of (length d.text) l.left) (heading_children d start marker l)

-- A paragraph or a setext heading is between an offset before its marker or its text, and the line after it.
module _ (d : Document) (w : Within) (from start : ℕ) (marker : Option Item) (l : TextLines) (items : List (ℕ × Item)) (next : ℕ)
    (ends : IsCharBoundary d.text next) (s : TextStands d w from start marker l) where
  ended_by : (left : List Place) (body : ItemBody) (kids : List Item)
      → lines_from d.text next ≡ left → items ≡ block_with start (start_of (length d.text) left) body kids
      → extent_of (text_node start next body) ≡ text_extent start next → start_of (length d.text) l.left ≤ start_of (length d.text) left
      → ChildrenStand d.text w from start (start_of (length d.text) l.left) kids → FitsBetween d.text w from next items
  ended_by left body kids left_is items_are extent later stand =
      let stop : start_of (length d.text) left ≡ next = ap (start_of (length d.text)) (sym left_is) ∙ start_of-lines d.text next ends.0 in
      subst (FitsBetween d.text w from next) (sym (items_are ∙ ap (λ k. block_with start k body kids) stop))
      (children_between d.text w from start (start_of (length d.text) l.left) next body kids
      (record { extent = extent; starts = s.starts; ends = ends }) (omega arith) stand)

  ended_between : (o : Option (ℕ × HeadingLevel)) → MatchOption o (taking items (lines_from d.text next) ≡ plain_text d start marker l)
      (λ underline. IsUnderlined d start marker l underline.1 (taking items (lines_from d.text next)))
      → FitsBetween d.text w from next items
  ended_between None e =
      ended_by l.left ParagraphBody (text_children marker l) (ap (λ (z : Taken). z.left) e) (ap (λ (z : Taken). z.items) e) refl (omega arith) s.paragraph
  ended_between (Some underline) (index, named, e) =
      ended_by (drop 1 l.left) (HeadingBody underline.1 index) (heading_children d start marker l) (ap (λ (z : Taken). z.left) e)
      (ap (λ (z : Taken). z.items) e) refl s.later s.heading

-- The text is after an offset before its marker.
low_start : (text : List ℕ) (from start : ℕ) (marker : Option Item) → MarkerBetween text from start marker → from ≤ start
low_start text from start None stands = stands
low_start text from start (Some m) stands = let b : IsBetween text from start (extent_of m) = stands.1 in omega (arith, b.following, b.order, b.before)

pub plain_fits : {d : Document} {start : ℕ} {marker : Option Item} {old new : Forest Item} {next : ℕ} → AddsPlainText d start marker old new next
    → IsUtf8 d.text → IsCharBoundary d.text start → MarkerIsInItem old marker → (from : ℕ) → MarkerBetween d.text from start marker
    → AddsBetween d.text from next old new
plain_fits {d} {start} {marker} {old} {next = next} adds utf8 boundary inside from stands =
    let (l, are, ended) = adds.is d.names (extends_none d.names) in
    let h = text_is_in_order d (path_of d.options old) start l utf8 boundary are in
    let w : Within = within_top old in
    let within = top_stands old marker inside in
    let low = low_start d.text from start marker stands in
    record {
      items = adds.items;
      tree_is = adds.tree_is;
      fits = ended_between d w from start marker l adds.items next adds.boundary
          (record {
            starts = boundary;
            later = text_later d.text l.left h.left_at h.left_is h.left_within;
            paragraph = text_stand d w from start l h low marker stands within;
            heading =
                heading_stand d w from start l h low marker (heading_attribute_block d.options (heading_bytes d start marker l)) refl boundary stands within;
          })
          (underline_first (path_of d.options old) l.left) ended;
    }
