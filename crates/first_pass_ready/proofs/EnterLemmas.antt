-- A line is entered after the prefixes of the containers that it continues: a blank line is read, or blocks begin at
-- a place in it.
use Rattle.std.proofs.Common.{◌≡◌, ℕ, zero, suc, ◌<◌, ◌==◌, Bool, true, false, not, ◌||◌, List, [], ◌∷◌, length, map, Option, Some, None, is_some, refl, sym}
use Rattle.std.proofs.Common.{ap, subst, ◌∙◌, arith, if◌then◌else◌, option_map, option_and_then}
use Rattle.first_pass_grammar.proofs.Common.{nat_tests, option_map_or, Item, ItemBody, DefinitionListDefinition, TreeIndex, Forest, with_body_at, body_at}
use Rattle.first_pass_grammar.proofs.Common.{line_feed, carriage_return, greater_than, left_bracket, has, footnote_head, begins, is_white, blank_len, Rest}
use Rattle.first_pass_grammar.proofs.Common.{column_of_byte, next_column, after_columns, past_quote_byte, list_marker, item_of, definition_of, Place, Context}
use Rattle.first_pass_grammar.proofs.Common.{at_rest, has_columns, prefix, after, is_quote, Before, Last, list_is_open, Blank, is_blank_rest}
use Rattle.first_pass_grammar.proofs.Common.{definition_marker_at, footnote_head_at, Document, around, BlankLine, Line, Inside, Blanks, OpensLeaf, OpensAs}
use Rattle.first_pass_grammar.proofs.Common.{Opens, is_blank_after, Level, level, may_define, Lines, end_before, OpensBy, Tables, Closed, Frame, InContainer}
use Rattle.first_pass_grammar.proofs.Common.{containers_of, AreBelow, last_plain, body-changed, body-other, or-true, or-false, and-true, cond-false, and_left}
use Rattle.first_pass_grammar.proofs.Common.{and_right, Options}
use Rattle.first_pass_scan.specs.Markers.{bullet_marker, ordered_marker}
use Rattle.first_pass_grammar.specs.declared.kind.Container.{Container}
use Rattle.first_pass_grammar.specs.declared.kind.Container.TheVariants.{BlockQuote}
use Rattle.first_pass_grammar.specs.Kinds.{item_at}
use Rattle.first_pass_grammar.proofs.Sequences.Finishes.{CompletesAt, Tail}
use Rattle.first_pass_completion.proofs.Extending.{tail, lvl}
use Rattle.first_pass_grammar.proofs.Sequences.Goings.{stops_blank}
use Rattle.first_pass_open.proofs.BlankPlaces.{blank_kind}
use Rattle.first_pass_completion.proofs.States.{open_nodes}
use Rattle.first_pass_completion.proofs.Completions.{counted_after, completes-enter, completes-blank_line, completes-only_blank}
use Rattle.first_pass_open.specs.OpenBlock.{closed_by}
use Rattle.first_pass_lists.specs.Closing.{top_body, popped, empty_item_closed_by, empty_item_closed, blank_read_by, blank_read}
use Rattle.first_pass_lists.specs.declared.state.PassState.{PassState}
use Rattle.first_pass_open.specs.Path.{container_of, container_at, with_container, path_in, path_of}
use Rattle.first_pass_ready.specs.State.{body_without_indent, top_without_indent, closed_in, AreOpen, ReadyAt, ReadyInItem, ReadyEmpty, ReadyWith, Ready}
use Rattle.first_pass_ready.proofs.OpenLemmas.{open_path}
use Rattle.first_pass_ready.proofs.OldFootnotes.{ends_here, stays_unblank, stays_in_list, goes_on_at}
use Rattle.first_pass_tree.proofs.BodyLemmas.{not_changed}
use Rattle.first_pass_ready.proofs.PopLemmas.{innermost_in, leave_container}
use Rattle.first_pass_ready.proofs.StateLemmas.{ready_plain, item_popped, same_path, closed_containers}
use Rattle.first_pass_ready.proofs.ClosedIn.{IsTop, top_of, top_in, HasDefined, open_defined, plain_not_open}
use Rattle.first_pass_ready.proofs.ItemBodies.{item_body, item_container, item_columns_of, item_path, without_indent_is, after_zero, item_own, item_kind}
use Rattle.first_pass_grammar.proofs.Sequences.OpenerFacts.{start_none}
use Rattle.first_pass_ready.proofs.BegunLemmas.{opens_bare}

some_mapped : (o : Option ℕ) (f : ℕ → ℕ) → is_some (option_map f o) ≡ is_some o
some_mapped o f = grind arith

white_first : (b : ℕ) (bs : List ℕ) → is_white b ≡ true → is_some (blank_len (b ∷ bs)) ≡ is_some (blank_len bs)
white_first b bs h = grind (arith, some_mapped)

byte_column : (r s : Rest) (left : List ℕ) → column_of_byte r left ≡ Some s → is_some (blank_len s.left) ≡ is_some (blank_len left)
byte_column r s [] h = cc
byte_column r s (b ∷ bs) h = grind (arith, nat_tests, h, white_first b bs)

column_by : (o : ℕ) (r s : Rest) → r.owed ≡ o → next_column r ≡ Some s → is_blank_rest s ≡ is_blank_rest r
column_by zero r s e h = byte_column r s r.left (let z : column_of_byte r r.left ≡ next_column r = rw e refl in z ∙ h)
column_by (suc o) r s e h = grind arith

columns_by : (k : ℕ) (r : Rest) (o : Option Rest) → next_column r ≡ o → ((s : Rest) → is_blank_rest (after_columns k s) ≡ is_blank_rest s)
    → is_blank_rest (option_map_or (after_columns k) o r) ≡ is_blank_rest r
columns_by k r None e f = refl
columns_by k r (Some s) e f = f s ∙ column_by r.owed r s refl e

-- Columns do not change whether a line is blank.
pub blank_columns : (k : ℕ) (r : Rest) → is_blank_rest (after_columns k r) ≡ is_blank_rest r
blank_columns zero r = refl
blank_columns (suc k) r = columns_by k r (next_column r) refl (λ s. blank_columns k s)

item_blank_by : (t : Bool) (n : ℕ) (q : Rest) → is_blank_after (if t then Some (after_columns n q) else None) ≡ true → is_blank_rest q ≡ true
item_blank_by t n q h = grind (arith, h, blank_columns)

blank_after_item : (b : ItemBody) (n : ℕ) (o : Option Rest) → is_blank_after (option_and_then (prefix (item_container b n)) o) ≡ true
    → is_blank_after o ≡ true
unfolding prefix
blank_after_item b n None h = h
blank_after_item (DefinitionListDefinition columns) n (Some q) h = item_blank_by (has_columns n q) n q h
blank_after_item b n (Some q) h = item_blank_by (has_columns n q) n q h

-- a line that is blank after the prefix of an item or a definition is blank after those of the containers around it
pub blank_after : (b : ItemBody) (n : ℕ) (path : List Container) (r : Rest)
    → is_blank_after (after (item_container b n ∷ path) r) ≡ true → is_blank_after (after (item_container b 0 ∷ path) r) ≡ true
unfolding after
blank_after b n path r h = ap is_blank_after (after_zero b path r) ∙ blank_after_item b n (after path r) h

-- the first byte of a blank line is white space, or begins its line ending
first_of_blank : (b : ℕ) (bs : List ℕ) → is_some (blank_len (b ∷ bs)) ≡ true → (is_white b || ((b == line_feed) || (b == carriage_return))) ≡ true
first_of_blank b bs h = grind (arith, nat_tests, h)

-- a blank line does not begin with another byte
blank_begins : (c : ℕ) → (is_white c || ((c == line_feed) || (c == carriage_return))) ≡ false → (bs : List ℕ) → is_some (blank_len bs) ≡ true
    → begins c bs ≡ false
blank_begins c other [] h = refl
blank_begins c other (b ∷ bs) h = let f = first_of_blank b bs h in grind (arith, nat_tests, f, other)

none_if : {A : Type 0} (t : Bool) (o : Option A) → o ≡ None → (if t then o else None) ≡ None
none_if t o none = grind (arith, none)

no_quote_byte : (r : Rest) (left : List ℕ) → is_some (blank_len left) ≡ true → past_quote_byte r left ≡ None
no_quote_byte r [] h = refl
no_quote_byte r (b ∷ bs) h = cond-false (b == greater_than) _ None (blank_begins greater_than refl (b ∷ bs) h)

-- no block quote begins on a blank line
no_quote : (r : Rest) → is_blank_rest r ≡ true → prefix (BlockQuote None) r ≡ None
unfolding prefix
no_quote r h =
    let q : Rest = after_columns 3 r in
    ap (option_map (after_columns 1)) (none_if (q.owed == 0) _ (no_quote_byte q q.left (blank_columns 3 r ∙ h)))

marker_by : (b : ℕ) (bs : List ℕ)
    → (is_white b || ((b == line_feed) || (b == carriage_return))) ≡ true
    → (if is_some (bullet_marker (b ∷ bs)) then bullet_marker (b ∷ bs) else ordered_marker (b ∷ bs)) ≡ None
marker_by b bs f = grind (arith, nat_tests, f)

no_marker : (bs : List ℕ) → is_some (blank_len bs) ≡ true → list_marker bs ≡ None
unfolding list_marker
no_marker [] h = refl
no_marker (b ∷ bs) h = let f = first_of_blank b bs h in marker_by b bs f

-- nor does a list item
no_item : (r : Rest) → is_blank_rest r ≡ true → item_at r ≡ None
unfolding item_at item_of
no_item r h = grind (arith, none_if, no_marker, blank_columns)

-- nor does a definition
no_definition : (r : Rest) → is_blank_rest r ≡ true → definition_marker_at r ≡ None
unfolding definition_marker_at definition_of
no_definition r h = grind (arith, none_if, cond-false, and_right, blank_begins, blank_columns)

no_head_by : (prefix : List ℕ → Option ℕ) (bs : List ℕ) → begins left_bracket bs ≡ false → footnote_head prefix false bs ≡ None
unfolding footnote_head
no_head_by prefix bs h = grind (arith, cond-false, and_left)

-- nor does a footnote definition
no_head_at : (around : Context) (p : Place) → is_blank_rest p.rest ≡ true → footnote_head_at around p ≡ None
unfolding footnote_head_at
no_head_at around p h = grind (arith, none_if, no_head_by, blank_begins, blank_columns)

-- on a blank line only a blank line opens
pub opens_blank : (d : Document) (l : Level) (p : Place) (lines : List Place)
    → is_blank_rest p.rest ≡ true → Opens d l p lines (OpensLeaf BlankLine Line lines)
unfolding OpensBy OpensAs
opens_blank d l p lines h =
    let may : Bool = may_define d l in
    opens_bare d l p lines (OpensLeaf BlankLine Line lines) (no_head_at (around d l.path) p h)
    (subst (λ o. OpensBy d l.path p lines o (OpensLeaf BlankLine Line lines))
    (sym (start_none d.options may p (no_item p.rest h) (none_if may _ (no_definition p.rest h)) (no_quote p.rest h)))
    (Blank, blank_kind d.options p.rest h, refl))

-- in a line that all open containers continue
pub ready_enter : (d : Document) (defined : Tables) (f : Forest Item) (run : Bool) (line : Place) (lines : List Place) (r : Rest)
    → after (path_of d.options f) line.rest ≡ Some r → ends_here d.options f run ≡ false → ReadyAt d defined f run Line (line ∷ lines)
    → ReadyAt d defined f run (Inside (at_rest line r)) lines
ready_enter d defined f run line lines r is stays ready =
    let path = open_path d.options f.nodes f.spine ready.frames ready.are_open in
    record {
      frames = ready.frames;
      are_open = ready.are_open;
      completes = completes-enter d defined (tail (closed_in f) run) ready.frames f.nodes (map (λ (i : TreeIndex). i.0) f.spine) line (at_rest line r) lines
          (ap (option_map (at_rest line)) (ap (λ z. after z line.rest) (sym path) ∙ is))
          (goes_on_at d.options f ready.frames run ready.are_open stays) ready.completes;
      silent = ready.silent;
    }

-- whether a blank line counts, by the innermost open node
plain_counts : (run quote : Bool) (closed : Closed) → (run || (not quote || list_is_open (last_plain closed))) ≡ (run || not quote)
plain_counts run quote closed = ap (λ t. run || (not quote || t)) (plain_not_open closed) ∙ ap (λ t. run || t) (or-false (not quote))

open_counts : (run a : Bool) (last : Last) → list_is_open last ≡ true → (run || (a || list_is_open last)) ≡ true
open_counts run a last h = ap (λ t. run || (a || t)) h ∙ ap (λ t. run || t) (or-true a) ∙ or-true run

container_counts : (options : Options) (r : PassState) (b : Option ItemBody) (c : Container) → option_and_then (container_of options) b ≡ Some c
    → (r.blank || not (is_quote c)) ≡ (blank_read_by r b).blank
container_counts options r b c h = grind (arith, h)

counts_by : (options : Options) (r : PassState) (closed : Closed) (top : Option ItemBody) (frames : List Frame)
    → IsTop options top frames → HasDefined frames closed → counted_after frames (tail closed r.blank) ≡ (blank_read_by r top).blank
counts_by options r closed top frames is has = grind (arith, is, has, container_counts, plain_counts, open_counts)

module _ (d : Document) (defined : Tables) (r : PassState) (p : Place) (lines : List Place) (blank : is_blank_rest p.rest ≡ true) where
  same_tree : (b : Option ItemBody) → r.begin_list_item ≡ None → (blank_read_by r b).tree ≡ r.tree
  same_tree b none = grind (arith, none)

  same_none : (b : Option ItemBody) → (blank_read_by r b).begin_list_item ≡ r.begin_list_item
  same_none b = grind arith

  -- a blank line is read, and no item is empty
  pub ready_blank : r.begin_list_item ≡ None → ReadyAt d defined r.tree r.blank (Inside p) lines → Ready d defined (blank_read r) lines
  unfolding blank_read
  ready_blank none ready =
      let b : Option ItemBody = top_body r.tree in
      let t : Tail = tail (closed_in r.tree) r.blank in
      let counts : counted_after ready.frames t ≡ (blank_read_by r b).blank =
      counts_by d.options r (closed_in r.tree) b ready.frames (top_of d.options r.tree.nodes r.tree.spine ready.frames ready.are_open)
      (open_defined d.options r.tree ready.frames ready.are_open) in
      let now : ReadyAt d defined r.tree (counted_after ready.frames t) Line lines = record {
        frames = ready.frames;
        are_open = ready.are_open;
        completes = completes-blank_line d defined t ready.frames r.tree.nodes (map (λ (i : TreeIndex). i.0) r.tree.spine) p lines lines
            (opens_blank d (lvl ready.frames t) p lines blank) ready.completes;
        silent = ready.silent;
      } in
      ready_plain d defined (blank_read_by r b) lines (same_none b ∙ none)
      (subst (λ t. ReadyAt d defined t (blank_read_by r b).blank Line lines) (sym (same_tree b none))
      (subst (λ t. ReadyAt d defined r.tree t Line lines) counts now))

blank_place : (o : Option Rest) → is_blank_after o ≡ true → (q : Rest) × (o ≡ Some q) × (is_blank_rest q ≡ true)
blank_place None h = cc
blank_place (Some q) h = (q, refl, h)

-- only the nodes before a place matter
pub path_below : (options : Options) (nodes other : List (ℕ × Item)) (n : ℕ) (s : List TreeIndex)
    → ((i : ℕ) → i < n → body_at other i ≡ body_at nodes i) → AreBelow n (map (λ ix. ix.0) s) → path_in options other s ≡ path_in options nodes s
path_below options nodes other n [] h b = refl
path_below options nodes other n (ix ∷ s) h b =
    let w : ix.0 < n = b.0 in
    ap (λ o. with_container (option_and_then (container_of options) o) (path_in options other s)) (h ix.0 w)
    ∙ ap (with_container (container_at options nodes ix)) (path_below options nodes other ix.0 s (λ i l. h i (omega arith)) b.1)

-- a blank line is read in an empty item or definition
blank_item_is : (r : PassState) (e : ℕ) (b : ItemBody) (n : ℕ) → r.begin_list_item ≡ Some e
    → blank_read_by r (Some (item_body b n)) ≡ record r { tree = body_without_indent r.tree (Some (item_body b n)); blank = true }
blank_item_is r e b n some = grind (arith, some)

module _ (d : Document) (defined : Tables) (r : PassState) (line : Place) (lines : List Place) (rest : Rest)
    (goes : after (path_of d.options r.tree) line.rest ≡ Some rest) where
  module _ (e : ℕ) (empty : ReadyEmpty d defined r e (line ∷ lines)) where
    -- the empty item or definition
    own : (b : ItemBody) × (body_at r.tree.nodes empty.place.0 ≡ Some (item_body b empty.columns))
    own = item_own (body_at r.tree.nodes empty.place.0) empty.columns empty.item

    abbrev path : List Container
    path = path_in d.options r.tree.nodes empty.outer

    module _ (b : ItemBody) (is : body_at r.tree.nodes empty.place.0 ≡ Some (item_body b empty.columns)) where
      abbrev zero_tree : Forest Item
      zero_tree = with_body_at r.tree empty.place (item_body b 0)

      abbrev change : Item → Item
      change x = record { start = x.start; «end» = x.«end»; body = item_body b 0 }

      on_path : after (item_container b empty.columns ∷ path) line.rest ≡ Some rest
      on_path = grind (arith, item_path)

      blank_item : is_blank_rest rest ≡ true → is_blank_after (after (item_container b 0 ∷ path) line.rest) ≡ true
      blank_item blank = blank_after b empty.columns path line.rest (ap is_blank_after on_path ∙ blank)

      top_item : top_body r.tree ≡ Some (item_body b empty.columns)
      top_item = ap (top_in r.tree.nodes) empty.spine ∙ is

      zero_is : top_without_indent r.tree ≡ zero_tree
      zero_is = ap (body_without_indent r.tree) top_item ∙ without_indent_is r.tree empty.place empty.outer b empty.columns empty.spine

      zero_body : body_at zero_tree.nodes empty.place.0 ≡ Some (item_body b 0)
      zero_body = body-changed r.tree.nodes empty.place.0 change (item_body b empty.columns) (item_body b 0) is (λ x h. refl)

      zero_same : empty.columns ≡ 0 → zero_tree ≡ r.tree
      zero_same none = grind (arith, not_changed)

      -- the item that takes only blank lines, before the blank line and after it
      zero_ready : (blank : Bool) → r.blank ≡ blank → is_blank_rest rest ≡ true → ReadyInItem d defined r.tree e (line ∷ lines) blank
          → ReadyAt d defined zero_tree blank (Blanks e) (line ∷ lines)
      zero_ready true run h ready = subst (λ f. ReadyAt d defined f true (Blanks e) (line ∷ lines)) (sym (zero_same (empty.none run))) ready
      zero_ready false run h ready = grind (arith, zero_is)

      without_indent_blank : is_blank_rest rest ≡ true → ReadyAt d defined zero_tree true (Blanks e) lines
      without_indent_blank h =
          let ready = zero_ready r.blank refl h empty.ready in
          let t : Tail = tail (closed_in zero_tree) r.blank in
          let c : Container = item_container b 0 in
          let os : List ℕ = empty.place.0 ∷ map (λ (i : TreeIndex). i.0) empty.outer in
          let inner = innermost_in d defined zero_tree r.blank (Blanks e) (line ∷ lines) empty.place empty.outer empty.spine c
          (ap (option_and_then (container_of d.options)) zero_body ∙ item_path d.options b 0) ready in
          let frames : List Frame = InContainer c ∷ inner.outer in
          let same : path ≡ containers_of inner.outer =
          sym (path_below d.options r.tree.nodes zero_tree.nodes empty.place.0 empty.outer (λ i h. body-other r.tree.nodes empty.place.0 i change h)
          inner.completes.below.1) ∙ open_path d.options zero_tree.nodes empty.outer inner.outer inner.are_open.1 in
          let q = blank_place (after (containers_of frames) line.rest)
          (subst (λ z. is_blank_after (after (c ∷ z) line.rest) ≡ true) same (blank_item h)) in
          record {
            frames = frames;
            are_open = subst (λ s. AreOpen d.options zero_tree.nodes s frames) (sym empty.spine) inner.are_open;
            completes = subst (λ s. CompletesAt d defined (tail (closed_in zero_tree) true) frames zero_tree.nodes (map (λ (i : TreeIndex). i.0) s) (Blanks e)
                lines) (sym empty.spine)
                (completes-only_blank d (open_nodes defined inner.outer zero_tree.nodes os) t c e line (at_rest line q.0) lines (item_kind b 0).2
                (record { continues = ap (option_map (at_rest line)) q.1; blank = q.2 })
                (opens_blank d (lvl frames t) (at_rest line q.0) lines q.2) inner.completes);
            silent = ready.silent;
          }

      -- the state after the blank line is read
      read_is : r.begin_list_item ≡ Some e → blank_read r ≡ record r { tree = zero_tree; blank = true }
      unfolding blank_read
      read_is some = grind (arith, top_item, blank_item_is, without_indent_is)

      ready_without_indent : r.begin_list_item ≡ Some e → is_blank_rest rest ≡ true → Ready d defined (blank_read r) lines
      unfolding Ready
      ready_without_indent some h = grind (arith, zero_body, item_columns_of, without_indent_blank, read_is)

  blank_with : (o : Option ℕ) → r.begin_list_item ≡ o → ends_here d.options r.tree r.blank ≡ false → is_blank_rest rest ≡ true
      → ReadyWith d defined r (line ∷ lines) o → Ready d defined (blank_read r) lines
  blank_with None none stays h ready =
      ready_blank d defined r (at_rest line rest) lines h none (ready_enter d defined r.tree r.blank line lines rest goes stays ready)
  blank_with (Some e) some stays h ready = let b = own e ready in ready_without_indent e ready b.0 b.1 some h

  -- a blank line that all open containers continue is read
  pub ready_blank_line : ends_here d.options r.tree r.blank ≡ false → is_blank_rest rest ≡ true
      → Ready d defined r (line ∷ lines) → Ready d defined (blank_read r) lines
  unfolding Ready
  ready_blank_line stays h ready = blank_with r.begin_list_item refl stays h ready

  module _ (e : ℕ) (empty : ReadyEmpty d defined r e (line ∷ lines)) where
    finished_is : (blank : Bool) → r.blank ≡ blank → empty_item_closed_by r (Some e) ≡ record (if blank then popped e r else r) { begin_list_item = None }
    finished_is blank is = grind (arith, own, top_item, item_kind, and-true)

    -- the item ends before a line that is not blank
    without_indent_ends : (blank : Bool) → r.blank ≡ blank → is_blank_rest rest ≡ false → ReadyInItem d defined r.tree e (line ∷ lines) blank
        → (
        let q : PassState = record (if blank then popped e r else r) { begin_list_item = None } in ReadyAt d defined q.tree q.blank
        (Inside (at_rest line rest)) lines)
    without_indent_ends true is h ready =
        let none = empty.none is in
        let o = own e empty in
        let b : ItemBody = o.0 in
        let path : List Container = path_in d.options r.tree.nodes empty.outer in
        let g : Forest Item = closed_by r.tree e (empty.place ∷ empty.outer) in
        let item : body_at r.tree.nodes empty.place.0 ≡ Some (item_body b 0) = o.1 ∙ ap (λ n. Some (item_body b n)) none in
        let on : after (item_container b 0 ∷ path) line.rest ≡ Some rest =
        ap (λ n. after (item_container b n ∷ path) line.rest) (sym none) ∙ on_path e empty b o.1 in
        let outer : after path line.rest ≡ Some rest = sym (after_zero b path line.rest) ∙ on in
        let last : e ≡ end_before (length d.text) path (Blanks e) (Lines (line ∷ lines)) = sym (ap (λ t. if t then e else line.line) (ap is_some outer)) in
        let before : Before = record { last = last_plain (closed_in r.tree); counted = true } in
        let left = leave_container d defined r.tree true (line ∷ lines) e empty.place empty.outer (item_container b 0) empty.spine
        (ap (option_and_then (container_of d.options)) item ∙ item_path d.options b 0) (Blanks e)
        (stops_blank d.options (level (item_container b 0 ∷ path) before) e (line ∷ lines) (ap is_blank_after on ∙ h)) last ready in
        let now : popped e r ≡ record r { tree = g; begin_list_item = None } =
        item_popped e r empty.place empty.outer b 0 empty.spine item in
        let same : path_of d.options g ≡ path =
        same_path r.tree.nodes g.nodes (closed_containers e r.tree empty.place empty.outer) d.options empty.outer in
        let inside : ReadyAt d defined g true (Inside (at_rest line rest)) lines =
        ready_enter d defined g true line lines rest (ap (λ z. after z line.rest) same ∙ outer)
        (stays_in_list d defined g true (line ∷ lines) left.ready b 0 left.stands) left.ready in
        subst (λ (q : PassState). ReadyAt d defined q.tree q.blank (Inside (at_rest line rest)) lines) (sym now)
        (subst (λ t. ReadyAt d defined g t (Inside (at_rest line rest)) lines) (sym is) inside)
    without_indent_ends false is h ready = grind (arith, ready_enter, stays_unblank)

  entered_with : (o : Option ℕ) → ends_here d.options r.tree r.blank ≡ false → is_blank_rest rest ≡ false → ReadyWith d defined r (line ∷ lines) o
      → (let q : PassState = empty_item_closed_by r o in ReadyAt d defined q.tree q.blank (Inside (at_rest line rest)) lines)
  entered_with None stays h ready = ready_enter d defined r.tree r.blank line lines rest goes stays ready
  entered_with (Some e) stays h ready = grind (arith, finished_is, without_indent_ends)

  -- the place in a line that is not blank and that all open containers continue
  pub ready_line : ends_here d.options r.tree r.blank ≡ false → is_blank_rest rest ≡ false → Ready d defined r (line ∷ lines)
      → ReadyAt d defined (empty_item_closed r).tree (empty_item_closed r).blank (Inside (at_rest line rest)) lines
  unfolding Ready empty_item_closed
  ready_line stays h ready = entered_with r.begin_list_item stays h ready
