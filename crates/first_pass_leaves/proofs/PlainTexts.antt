-- A paragraph or a setext heading is added to the tree.
use Rattle.std.proofs.Common.{◌≡◌, Bool, ◌≤◌, ℕ, ◌+◌, List, [], ◌++◌, length, drop, Option, Some, None, IfSome, MatchOption, IsUtf8, IsCharBoundary, refl, sym}
use Rattle.std.proofs.Common.{ap, subst, ◌∙◌, arith, false, IsSome, slice_get, option_map}
use Rattle.first_pass_grammar.proofs.Common.{Item, HeadingLevel, Forest, appended, pushed, is_text, item_at, Place, start_of, lines_at-line, start_of-lines}
use Rattle.first_pass_grammar.proofs.Common.{Document, document, TextLines, text_lines, AreTextLines, heading_block, marker_items, Names, Extends}
use Rattle.first_pass_grammar.proofs.Common.{NamesAttributes, heading_attribute_block, heading_attributes_of, chain_bytes, kept_before, Braces, Options}
use Rattle.first_pass_grammar.proofs.Common.{option_map_or, underline_first, text_children, plain_text, underlined_text, by_backslash, heading_bytes}
use Rattle.first_pass_grammar.proofs.Common.{children_without, heading_children, IsUnderlined, Taken, taking, lines_from, TreeIndex, no_braces, spot, chained}
use Rattle.first_pass_grammar.proofs.Common.{close_break, cut, joins_none-fresh, Paragraph, Heading, none_mapped, some_mapped}
use Rattle.first_pass_leaves.proofs.Common.{path_of, closed_by, no_names, line_end_at, AddsPlainText, with_closed_break, pushed-fresh, still_open, block_closed}
use Rattle.first_pass_leaves.proofs.Common.{open_place_of, open_item_of, open_named, cut_chain, BecomesHeading, TextEnd, paragraph_block}
use Rattle.first_pass_grammar.proofs.Names.MoreNames.{extends_both}
use Rattle.first_pass_leaves.proofs.ParagraphLemmas.{underline_there, underline_within, with_closed_break-chained, closed_past}
use Rattle.first_pass_leaves.proofs.OrderHeading.{line_stops}
use Rattle.first_pass_leaves.proofs.AttributeEnds.{cut_none}

-- the break after a chain with a marker before it is closed in the same way
closed_marked : (marker line_break : Option Item) (chain : List Item) → IfSome marker (λ y. is_text y.body ≡ false)
    → close_break line_break (marker_items marker ++ chain) ≡ marker_items marker ++ close_break line_break chain
closed_marked None line_break chain plain = refl
closed_marked (Some m) line_break chain plain = closed_past m line_break chain plain

-- the children of a heading are the same under any names
children_renamed : (text : List ℕ) (options : Options) (m n : Names) (start : ℕ) (marker : Option Item) (l : TextLines)
    → heading_children (document text options m) start marker l ≡ heading_children (document text options n) start marker l
unfolding heading_children
children_renamed text options m n start marker l = refl

-- the children of a heading, with its attribute block or without one
pub children_by : (d : Document) (start : ℕ) (marker : Option Item) (l : TextLines) (o : Option Braces)
    → heading_attribute_block d.options (heading_bytes d start marker l) ≡ o
    → heading_children d start marker l ≡ children_without d start marker l o
unfolding heading_children
children_by d start marker l o e = ap (children_without d start marker l) e

-- the result for the lines of a text, with the remaining lines from an offset on
abbrev pub given : List ℕ → ℕ → List Item → Option Item → TextLines
given text next chain line_break = text_lines chain line_break (lines_from text next)

-- the paragraph that is opened at an offset
abbrev pub opened_item : ℕ → Item
opened_item start = record { start = start; «end» = 0; body = Paragraph }

-- A paragraph is open in the tree, with its task list item marker and the chain of its lines in it, except the break
-- after the last of them.
pub record StandsOpen (text : List ℕ) (options : Options) (names : Names) (start : ℕ) (marker : Option Item) (g r : Forest Item) (ix : TreeIndex)
    (end : TextEnd) : Type 0 where
  pub chain : List Item
  pub at : ix.0 ≡ length g.nodes
  pub tree_is : r ≡ chained (pushed (appended g (opened_item start)) ix) (marker_items marker ++ chain)
  pub plain : IfSome marker (λ y. is_text y.body ≡ false)
  pub are : (more : Names) → Extends more names
      → AreTextLines (document text options more) (path_of options g) (spot start no_braces) [] (lines_from text (line_end_at text start))
      (given text end.next chain end.line_break)
  pub said : end.underline ≡ option_map (λ (found : ℕ × HeadingLevel). found.1) (underline_first (path_of options g) (lines_from text end.next))
  pub later : line_end_at text start ≤ end.next
  pub boundary : IsCharBoundary text end.next

module _ {text : List ℕ} {options : Options} {read_names : Names} {start : ℕ} {marker : Option Item} {g r : Forest Item} {ix : TreeIndex} {end : TextEnd}
    (t : StandsOpen text options read_names start marker g r ix end) where
  abbrev read_lines : TextLines
  read_lines = given text end.next t.chain end.line_break

  abbrev pub whole_chain : List Item
  whole_chain = marker_items marker ++ t.chain

  pub innermost : slice_get r.spine 0 ≡ Some ix
  innermost = open_place_of g r (opened_item start) whole_chain ix t.at t.tree_is

  pub its_item : item_at r ix ≡ Some (opened_item start)
  its_item = open_item_of g r (opened_item start) whole_chain ix t.at t.tree_is

  -- the break of the last line is closed, in a block of any kind
  ended : (x : Item) (chain : List Item) (c n : Forest Item) → c ≡ chained (pushed (appended g x) ix) chain → n ≡ with_closed_break c end.line_break
      → n ≡ chained (pushed (appended g x) ix) (close_break end.line_break chain)
  ended x chain c n c_is n_is = grind (arith, with_closed_break-chained, joins_none-fresh)

  -- a paragraph, after its last line is ended
  text_filled : (n : Forest Item)
      → n ≡ with_closed_break r end.line_break → n ≡ chained (pushed (appended g (opened_item start)) ix) (text_children marker read_lines)
  text_filled n is =
      ended (opened_item start) whole_chain r n t.tree_is is
      ∙ ap (chained (pushed (appended g (opened_item start)) ix)) (closed_marked marker end.line_break t.chain t.plain)

  pub text_open : {n : Forest Item} → n ≡ with_closed_break r end.line_break → IsSome (slice_get n.spine 0)
  text_open {n} is = still_open g n (opened_item start) (text_children marker read_lines) ix t.at (text_filled n is)

  pub closed_paragraph : {n new : Forest Item} → n ≡ with_closed_break r end.line_break → None ≡ end.underline → new ≡ closed_by n end.next n.spine
      → AddsPlainText (document text options read_names) start marker g new end.next
  closed_paragraph {n} {new} n_is said is =
      let none = none_mapped (λ (found : ℕ × HeadingLevel). found.1) (underline_first (path_of options g) (lines_from text end.next)) (said ∙ t.said) in
      let all : Taken = taking (paragraph_block start end.next (text_children marker read_lines)) (lines_from text end.next) in
      record {
        items = all.items;
        is = λ more e.
            let d = document text options more in
            let same : all ≡ plain_text d start marker read_lines =
            ap (λ k. taking (paragraph_block start k (text_children marker read_lines)) (lines_from text end.next))
            (sym (start_of-lines text end.next t.boundary.0)) in (
              read_lines,
              t.are more e,
              subst (λ o. MatchOption o (all ≡ plain_text d start marker read_lines)
                  (λ underline. IsUnderlined d start marker read_lines underline.1 all)) (sym none) same,
            );
        tree_is = block_closed g n (opened_item start) (text_children marker read_lines) ix t.at (text_filled n n_is) new end.next is;
        later = t.later;
        boundary = t.boundary;
      }

  -- the rest of the chain of a heading, after its last line is ended, forms its children
  cut_is : (o : Option Braces) → heading_attribute_block options (chain_bytes text start whole_chain) ≡ o
      → close_break end.line_break (cut_chain text options start (by_backslash end.line_break) whole_chain)
      ≡ heading_children (document text options no_names) start marker read_lines
  cut_is None none =
      ap (close_break end.line_break) (cut_none text options start (by_backslash end.line_break) whole_chain none)
      ∙ closed_marked marker end.line_break t.chain t.plain
      ∙ sym (children_by (document text options no_names) start marker read_lines None none)
  cut_is (Some block) some =
      ap (λ (o : Option Braces). close_break end.line_break
      (option_map_or (λ (b : Braces). cut (start + kept_before (by_backslash end.line_break) b.opening (chain_bytes text start whole_chain)) whole_chain) o
      whole_chain)) some
      ∙ sym (children_by (document text options no_names) start marker read_lines (Some block) some)

  -- a heading, after its attribute block is cut off and its last line is ended
  module _ {names : Names} {level : HeadingLevel} {broken : Bool} {h n : Forest Item} (grown : Extends names read_names)
      (broken_is : broken ≡ by_backslash end.line_break) (heads : BecomesHeading (document text options names) level broken ix r h)
      (n_is : n ≡ with_closed_break h end.line_break) where
    abbrev kids : List Item
    kids = heading_children (document text options no_names) start marker read_lines

    abbrev heading_item : Item
    heading_item = record { start = start; «end» = 0; body = Heading level heads.index }

    cut_off : (heads.cut ≡ chained (pushed (appended g (opened_item start)) ix) (cut_chain text options start broken whole_chain))
        × ((more : Names) → Extends more names → NamesAttributes more heads.index (heading_attributes_of options (chain_bytes text start whole_chain)))
    cut_off =
        let fresh = pushed-fresh g (opened_item start) ix t.at in
        (rw its_item at heads.cuts) (pushed (appended g (opened_item start)) ix) whole_chain (record { last = fresh.0; none = fresh.1 }) t.tree_is

    heading_filled : n ≡ chained (pushed (appended g heading_item) ix) kids
    heading_filled =
        ended heading_item (cut_chain text options start broken whole_chain) h n
        (heads.tree_is
        ∙ open_named g heads.cut (opened_item start) (cut_chain text options start broken whole_chain) ix t.at cut_off.0 (Heading level heads.index)) n_is
        ∙ ap (chained (pushed (appended g heading_item) ix))
        (ap (λ (b : Bool). close_break end.line_break (cut_chain text options start b whole_chain)) broken_is
        ∙ cut_is (heading_attribute_block options (chain_bytes text start whole_chain)) refl)

    pub heading_open : IsSome (slice_get n.spine 0)
    heading_open = still_open g n heading_item kids ix t.at heading_filled

    pub closed_heading : {new : Forest Item} {next : ℕ} → Some level ≡ end.underline → next ≡ line_end_at text end.next → IsUtf8 text
        → new ≡ closed_by n next n.spine → AddsPlainText (document text options names) start marker g new next
    closed_heading {new} {next} said next_is utf8 is =
        let m : ℕ = end.next in
        let (found, found_is, level_is) = some_mapped (λ (found : ℕ × HeadingLevel). found.1) (underline_first (path_of options g) (lines_from text m)) level
        (sym (said ∙ t.said)) in
        let some = found_is ∙ ap (λ z. Some (found.0, z)) level_is in
        let within = underline_within (path_of options g) text m (found.0, level) (sym (underline_there (path_of options g) text m) ∙ some) in
        let following : drop 1 (lines_from text m) ≡ lines_from text next =
        ap (λ (ls : List Place). drop 1 ls) (lines_at-line text m within) ∙ ap (lines_from text) (sym next_is) in
        let ends : IsCharBoundary text next = subst (IsCharBoundary text) (sym next_is) (line_stops text m utf8 t.boundary) in
        let all : Taken = taking (heading_block start next level heads.index kids) (lines_from text next) in
        record {
          items = all.items;
          is = λ more e.
              let d = document text options more in
              let same : all ≡ underlined_text d start marker level heads.index read_lines =
              ap (λ k. taking (heading_block start k level heads.index kids) (lines_from text next)) (sym (start_of-lines text next ends.0))
              ∙ ap (λ (ls : List Place). taking (heading_block start (start_of (length text) ls) level heads.index kids) ls) (sym following)
              ∙ ap (λ ks. taking (heading_block start (start_of (length text) (drop 1 read_lines.left)) level heads.index ks) (drop 1 read_lines.left))
              (children_renamed text options no_names more start marker read_lines) in (
                read_lines,
                t.are more (extends_both more names read_names e grown),
                subst (λ o. MatchOption o (all ≡ plain_text d start marker read_lines)
                    (λ underline. IsUnderlined d start marker read_lines underline.1 all)) (sym some) (heads.index, cut_off.1 more e, same),
              );
          tree_is = block_closed g n heading_item kids ix t.at heading_filled new next is;
          later = omega (arith, t.later, next_is);
          boundary = ends;
        }
