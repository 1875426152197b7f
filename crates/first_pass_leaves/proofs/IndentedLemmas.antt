-- The lines of indented code, one after the other.
use Rattle.std.proofs.Common.{◌≡◌, inl, inr, ℕ, suc, ◌+◌, ◌-◌, ◌<◌, ◌≤◌, Bool, true, false, if◌then◌else◌, List, ◌∷◌, ◌++◌, length, drop, slice_get, []}
use Rattle.std.proofs.Common.{slice_index, Option, Some, None, IsSome, IfSome, IsUtf8, IsCharBoundary, refl, sym, ap, subst, ◌∙◌, arith, length-append}
use Rattle.std.proofs.Common.{append_assoc, option_map, option_and_then, append-nil, lt-ltb, ne_eqb}
use Rattle.first_pass_grammar.proofs.Common.{cases_lt, cond_both, cond-true, cond-false, false≢true, cond_some, none-some, take-append_seam, Item, Root}
use Rattle.first_pass_grammar.proofs.Common.{IndentCodeBlock, TreeIndex, Forest, IsForest, IsChild, appended, depths, open_place, with_end_at, modify-at}
use Rattle.first_pass_grammar.proofs.Common.{is_blank_line, line_len, Rest, after_columns, Place, offset, line_end, line_rest, place_at, moved_columns}
use Rattle.first_pass_grammar.proofs.Common.{IsPlaceOf, line_len-some, line_len-within, lines_at-line, lines_at-end, line_is_place, columns_line_end}
use Rattle.first_pass_grammar.proofs.Common.{text_token, touches, add_token, add_tokens, with_tokens, chained, JoinsNone, with_tokens-chained, chained-append}
use Rattle.first_pass_grammar.proofs.Common.{chained-spine, chained-nodes, Names, Extends, at_rest, has_columns, after, is_blank_rest, Document, document}
use Rattle.first_pass_grammar.proofs.Common.{block_with, lines_from, ends_with_both, range_text, raw_items, IsRawLine, AreRawLines, code_by, code_lines}
use Rattle.first_pass_grammar.proofs.Common.{without_blanks, last_end}
use Rattle.first_pass_leaves.proofs.Common.{path_of, has_quote_after, begun_item, closed_by, opened_block, open_are_in, path_of-chained, path_of-opened}
use Rattle.first_pass_leaves.proofs.Common.{add_tokens-append, appended-chained, chained-length, has_leaves-chained, pushed-fresh, still_open, block_closed}
use Rattle.first_pass_leaves.proofs.Common.{Container, AddsIndented, IsPlaceAt, code_rest, code_rest_at, after_line_at, code_after, end_of, kept_after}
use Rattle.first_pass_leaves.proofs.Common.{after_keeps, line_start_end, read_end, unless_blank, quote_after-chained, forest-eq}
use Rattle.first_pass_tree.proofs.Keeps.{run_stop, run_all, depth_read}
use Rattle.first_pass_grammar.specs.CodeBlocks.{last_is_blank}
use Rattle.first_pass_leaves.specs.declared.indented_code.Kept.{Kept}
use Rattle.first_pass_names.proofs.NameLemmas.{extends_none, extends_both}
use Rattle.first_pass_leaves.proofs.ExtentLemmas.{LineAppended, line_under, first_read}

-- a chain ends with an item that ends at an offset
pub record EndsAt (chain : List Item) (to : ℕ) : Type 0 where
  pub front : List Item
  pub last : Item
  pub is : chain ≡ front ++ last ∷ []
  pub ends : last.«end» ≡ to

ends_added : (chain : List Item) (t : Item) → EndsAt (add_token chain t) t.«end»
ends_added [] t = record { front = []; last = t; is = refl; ends = refl }
ends_added (x ∷ []) t =
    cond_both (touches x t) (record x { «end» = t.«end» } ∷ []) (x ∷ t ∷ []) (λ c. EndsAt c t.«end»)
    (λ joins. record { front = []; last = record x { «end» = t.«end» }; is = refl; ends = refl })
    (λ apart. record { front = x ∷ []; last = t; is = refl; ends = refl })
ends_added (x ∷ z ∷ zs) t =
    let e = ends_added (z ∷ zs) t in record { front = x ∷ e.front; last = e.last; is = ap (λ (ys : List Item). x ∷ ys) e.is; ends = e.ends }

range_some : (from to : ℕ) → from < to → range_text from to ≡ text_token from to false ∷ []
range_some from to some = cond-true _ _ _ (lt-ltb from to some)

-- the texts of a line of at least one byte
last_text : (text : List ℕ) (from to : ℕ) → from < to → EndsAt (raw_items range_text text from to) to
unfolding raw_items
last_text text from to some =
    cond_both (ends_with_both text from to) (range_text from (to - 2) ++ range_text (to - 1) to) (range_text from to) (λ xs. EndsAt xs to)
    (λ both. record {
      front = range_text from (to - 2);
      last = text_token (to - 1) to false;
      is = ap (λ (ys : List Item). range_text from (to - 2) ++ ys) (range_some (to - 1) to (omega arith));
      ends = refl;
    })
    (λ one. record { front = []; last = text_token from to false; is = range_some from to some; ends = refl })

-- a chain with such a line after it
ends_line : (d : Document) (chain : List Item) (owed from to : ℕ) (items : List Item)
    → from < to → IsRawLine range_text d owed from to items → EndsAt (add_tokens chain items) to
ends_line d chain owed from to items some (columns, are, is) =
    let l = last_text d.text from to some in
    let before : List Item = add_tokens (add_tokens chain columns) l.front in
    let e : add_tokens chain items ≡ add_token before l.last =
    ap (add_tokens chain) (is ∙ ap (λ (ys : List Item). columns ++ ys) l.is) ∙ add_tokens-append chain columns (l.front ++ l.last ∷ [])
    ∙ add_tokens-append (add_tokens chain columns) l.front (l.last ∷ []) in
    subst (λ c. EndsAt c to) (sym e) (subst (EndsAt (add_token before l.last)) l.ends (ends_added before l.last))

-- a chain continues an item, whatever the end of that item
record Stays (front : List Item) (x : Item) (chain : List Item) : Type 0 where
  to : ℕ
  rest : List Item
  is : chain ≡ front ++ record x { «end» = to } ∷ rest

stays_token : (front : List Item) (x : Item) (to : ℕ) (rest : List Item) (t : Item) → Stays front x (add_token (front ++ record x { «end» = to } ∷ rest) t)
stays_token [] x to [] t = grind (arith, cond_both)
stays_token [] x to (z ∷ zs) t = record { to = to; rest = add_token (z ∷ zs) t; is = refl }
stays_token (f ∷ []) x to rest t = let s = stays_token [] x to rest t in record { to = s.to; rest = s.rest; is = ap (λ (ys : List Item). f ∷ ys) s.is }
stays_token (f ∷ g ∷ fs) x to rest t = grind (arith, stays_token (g ∷ fs) x to rest t)

stays_tokens : (front : List Item) (x : Item) (chain more : List Item) → Stays front x chain → Stays front x (add_tokens chain more)
stays_tokens front x chain [] s = s
stays_tokens front x chain (t ∷ ts) s =
    stays_tokens front x (add_token chain t) ts (subst (λ c. Stays front x (add_token c t)) (sym s.is) (stays_token front x s.to s.rest t))

abbrev place_in : ℕ → TreeIndex
place_in m = record { 0 = m }

module _ (old : Forest Item) (front : List Item) (x : Item) where
  -- the last item of a chain in the tree
  pub last_current : (chained old (front ++ x ∷ [])).current ≡ Some (record { 0 = length old.nodes + length front })
  last_current = ap (λ (f : Forest Item). f.current) (sym (appended-chained old front x)) ∙ ap (λ m. Some (place_in m)) (chained-length old front)

  last_length : length (chained old (front ++ x ∷ [])).nodes ≡ length old.nodes + length front + 1
  last_length =
      let c = chained-length old (front ++ x ∷ []) in
      let l = length-append front (x ∷ []) in
      omega arith

  -- it gets a different end
  last_ends : (place : TreeIndex) (to : ℕ)
      → place.0 ≡ length old.nodes + length front → with_end_at (chained old (front ++ x ∷ [])) place to ≡ chained old (front ++ record x { «end» = to } ∷ [])
  last_ends place to at =
      let f : Forest Item = chained old front in
      let l = chained-length old front in
      ap (λ g. with_end_at g place to) (sym (appended-chained old front x))
      ∙ ap (λ (ns : List (ℕ × Item)). record (appended f x) { nodes = ns })
      (modify-at f.nodes [] (length f.spine + 1, x) place.0 (λ y. record y { «end» = to }) (omega arith))
      ∙ appended-chained old front (record x { «end» = to })

-- the run of nodes deeper than one, if the next node has the same depth
run_none : (ns : List (ℕ × Item)) (i : ℕ) → (i + 1 < length ns → slice_index (depths ns) (i + 1) ≡ slice_index (depths ns) i) → end_of (depths ns) i ≡ i + 1
run_none ns i same =
    elim (cases_lt (i + 1) (length ns)) [
      | inl more ↦ (let n : ℕ × Item = (0, record { start = 0; «end» = 0; body = Root }) in
          let d = depth_read ns (i + 1) n more in
          let s = same more in
          run_stop ns (slice_index (depths ns) i) (i + 1) n more (omega arith))
      | inr past ↦ run_all ns (slice_index (depths ns) i) (i + 1) past
    ]

module _ (old : Forest Item) (opened : open_place old.spine + 1 ≡ length old.nodes) (front : List Item) (x : Item) (rest : List Item) (place : TreeIndex)
    (at : place.0 ≡ length old.nodes + length front) where
  chain_length : length (chained old (front ++ x ∷ rest)).nodes ≡ length old.nodes + length front + suc (length rest)
  chain_length =
      let c = chained-length old (front ++ x ∷ rest) in
      let l = length-append front (x ∷ rest) in
      omega arith

  leaf : (k : ℕ) → length old.nodes ≤ k → k < length (chained old (front ++ x ∷ rest)).nodes
      → slice_index (depths (chained old (front ++ x ∷ rest)).nodes) k ≡ length (chained old (front ++ x ∷ rest)).spine + 1
  leaf k low high = grind (arith, chained-spine, has_leaves-chained)

  -- an item of a chain in the innermost open node is its child
  pub chain_child : IsChild (chained old (front ++ x ∷ rest)) place
  chain_child = grind (arith, chain_length, chained-spine, leaf)

  chain_split : chained old (front ++ x ∷ rest) ≡ chained (chained old (front ++ x ∷ [])) rest
  chain_split = ap (chained old) (sym (append_assoc front (x ∷ []) rest)) ∙ sym (chained-append old (front ++ x ∷ []) rest)

  chain_end : end_of (depths (chained old (front ++ x ∷ rest)).nodes) place.0 ≡ length (chained old (front ++ x ∷ [])).nodes
  chain_end = grind (arith, chain_length, last_length, run_none, leaf)

  -- the chain without the nodes after an item
  pub chain_kept : kept_after (chained old (front ++ x ∷ rest)) place ≡ chained old (front ++ x ∷ [])
  chain_kept = grind (arith, forest-eq, chain_end, chain_split, chained-nodes, take-append_seam, chained-spine, last_current)

-- lines of code, then one more
more_lines : (d : Document) (chain : List Item) (ps : List Place) (q : Place) (mid line : List Item) → AreRawLines range_text d chain ps mid
    → IsRawLine range_text d q.rest.owed (offset q) (line_end q) line → AreRawLines range_text d chain (ps ++ q ∷ []) (add_tokens mid line)
unfolding AreRawLines
more_lines d chain [] q mid line are is = (line, is, ap (λ c. add_tokens c line) are)
more_lines d chain (p ∷ ps) q mid line (first, are, further) is = (first, are, more_lines d (add_tokens chain first) ps q mid line further is)

-- a blank line after others, and a line that is not blank
blank_after : (ps : List Place) (q : Place) → is_blank_rest q.rest ≡ true → without_blanks (ps ++ q ∷ []) ≡ without_blanks ps
unfolding without_blanks
blank_after [] q h = cond-true _ _ _ h
blank_after (p ∷ ps) q h = ap (unless_blank p) (blank_after ps q h)

some_after : (ps : List Place) (q : Place) → is_blank_rest q.rest ≡ false → without_blanks (ps ++ q ∷ []) ≡ ps ++ q ∷ []
unfolding without_blanks
some_after [] q h = cond-false _ _ _ h
some_after (p ∷ []) q h = ap (unless_blank p) (some_after [] q h)
some_after (p ∷ r ∷ ps) q h = ap (unless_blank p) (some_after (r ∷ ps) q h)

last_blank : (ps : List Place) (q : Place) → last_is_blank (ps ++ q ∷ []) ≡ is_blank_rest q.rest
unfolding last_is_blank
last_blank [] q = refl
last_blank (p ∷ []) q = refl
last_blank (p ∷ r ∷ ps) q = last_blank (r ∷ ps) q

no_last : last_is_blank [] ≡ false
unfolding last_is_blank
no_last = refl

last_line_end : (e : ℕ) (ps : List Place) (q : Place) → last_end e (ps ++ q ∷ []) ≡ line_end q
unfolding last_end
last_line_end e [] q = refl
last_line_end e (p ∷ ps) q = last_line_end (line_end p) ps q

-- the next line, as the code reads it
next_by : (line : Place) (rest lines : List Place) (o : Option Rest) (further : List Place × List Place)
    → code_by rest lines
    (option_and_then (λ (q : Place). if has_columns 4 q.rest then Some (moved_columns 4 q) else None) (option_map (at_rest line) o)) further
    ≡ code_by [] lines (option_map (at_rest line) (code_rest o)) further
next_by line rest lines None further = refl
next_by line rest lines (Some r) further = elim (has_columns 4 r)
    as (λ t. code_by rest lines (if t then Some (moved_columns 4 (at_rest line r)) else None) further
    ≡ code_by [] lines (option_map (at_rest line) (if t then Some (after_columns 4 r) else None)) further) [
      | true ↦ refl
      | false ↦ refl
    ]

lines_next : (text : List ℕ) (path : List Container) (next : ℕ) → next ≤ length text
    → code_lines path (lines_from text next) ≡ code_by [] (lines_from text next) (option_map (place_at next) (code_rest_at text path next))
    (code_lines path (lines_from text (after_line_at text next)))
unfolding code_lines
lines_next text path next within = grind (arith, cases_lt, lines_at-line, next_by, cond-false, lines_at-end)

-- It is in the text.
next_within : (text : List ℕ) (path : List Container) (next : ℕ) (r : Rest) → next ≤ length text → code_rest_at text path next ≡ Some r → next < length text
next_within text path next r within some = grind (arith, cases_lt, none-some, cond-true)

columns_by : (r : Rest) (o : Option Rest) → code_rest o ≡ Some r → (s : Rest) × (o ≡ Some s) × (after_columns 4 s ≡ r)
columns_by r None e = absurd (none-some r e)
columns_by r (Some s) e = (s, refl, (cond_some (has_columns 4 s) (after_columns 4 s) r e).1)

-- It ends at the end of its text.
pub next_end : (text : List ℕ) (path : List Container) (next : ℕ) (r : Rest)
    → IsUtf8 text → IsCharBoundary text next → code_rest_at text path next ≡ Some r → line_end (place_at next r) ≡ after_line_at text next
next_end text path next r u b some =
    let more = next_within text path next r b.0 some in
    let c = columns_by r (after path (line_rest (drop next text))) (sym (cond-false _ _ _ (ne_eqb next (length text) (λ same. omega arith))) ∙ some) in
    ap (λ s. line_end (place_at next s)) (sym c.2) ∙ columns_line_end 4 (place_at next c.0)
    ∙ (after_keeps text next path (line_rest (drop next text)) c.0 u c.1 (line_is_place text next b)).1 ∙ line_start_end text next

-- the offset of its end, as the code computes it
pub next_read : (text : List ℕ) (path : List Container) (next taken last : ℕ) (r : Rest) → IsUtf8 text → IsCharBoundary text next
    → code_rest_at text path next ≡ Some r → IsPlaceOf text (place_at next r) → taken ≡ r.taken → last ≡ after_line_at text (next + taken)
    → (last ≡ after_line_at text next) × (next < last) × IsCharBoundary text last
next_read text path next taken last r u b some i t e = grind (arith, read_end, next_end, line_len-within, next_within, first_read)

-- a line that is not blank has a byte
some_bytes : (bs : List ℕ) → is_blank_line bs ≡ false → 0 < length bs
some_bytes [] h = absurd (false≢true (sym h))
some_bytes (b ∷ bs) h = omega arith

-- lines before others that continue indented code
abbrev pub put_before : List Place → List Place × List Place → List Place × List Place
put_before ps further = (ps ++ further.0, further.1)

-- Lines of code are appended after the nodes of a tree, and stay what they are if more is named later.
pub record CodeRead (d : Document) (old now : Forest Item) (ps : List Place) (chain : List Item) : Type 0 where
  pub tree_is : now ≡ chained old chain
  pub lines : (further : Names) → Extends further d.names → AreRawLines range_text (document d.text d.options further) [] ps chain

-- The chain of those up to the last that is not blank ends with a text, which is the last node that stays; then come the
-- tokens of the blank ones.
pub record CodeKept (d : Document) (first : ℕ) (old : Forest Item) (ps : List Place) (whole : List Item) (kept : Kept) : Type 0 where
  pub chain : List Item
  pub more : List Item
  pub whole_is : whole ≡ add_tokens chain more
  pub last : EndsAt chain kept.«end»
  pub place : kept.last ≡ Some (record { 0 = length old.nodes + length last.front })
  pub lines : (further : Names) → Extends further d.names → AreRawLines range_text (document d.text d.options further) [] (without_blanks ps) chain
  pub end_is : kept.«end» ≡ last_end first (without_blanks ps)

-- The lines of indented code, the first at a place, are read up to the start of another.
pub record IndentedSoFar (d : Document) (p : Place) (old now : Forest Item) (next : ℕ) (kept : Kept) (blank : Bool) : Type 0 where
  pub read : List Place
  pub chain : List Item
  pub code : CodeRead d old now (p ∷ read) chain
  pub stays : CodeKept d (offset p) old (p ∷ read) chain kept
  pub blank_is : blank ≡ last_is_blank read
  pub following : code_after d.text (path_of d.options old) (offset p) ≡ put_before read (code_lines (path_of d.options old) (lines_from d.text next))

-- a line is appended after others
module _ {d : Document} {old now : Forest Item} {ps : List Place} {chain : List Item} {q : Place} (apart : JoinsNone old) (c : CodeRead d old now ps chain)
    (l : LineAppended range_text d q now) where
  -- the document with the names after it
  abbrev later_document : Document
  later_document = document d.text d.options l.named

  abbrev whole : List Item
  whole = add_tokens chain l.line.items

  more_read : CodeRead later_document old l.new (ps ++ q ∷ []) whole
  more_read = record {
    tree_is = l.line.tree_is ∙ ap (λ f. with_tokens f l.line.items) c.tree_is ∙ with_tokens-chained old chain l.line.items apart;
    lines = λ further f. more_lines (document d.text d.options further) [] ps q chain l.line.items
        (c.lines further (extends_both further l.named d.names f l.extends)) (line_under l further f);
  }

  -- a blank one, and one that is not blank
  blank_kept : (first : ℕ) (kept : Kept) → is_blank_rest q.rest ≡ true → CodeKept d first old ps chain kept
      → CodeKept later_document first old (ps ++ q ∷ []) whole kept
  blank_kept first kept h k = record {
    chain = k.chain;
    more = k.more ++ l.line.items;
    whole_is = ap (λ c. add_tokens c l.line.items) k.whole_is ∙ sym (add_tokens-append k.chain k.more l.line.items);
    last = k.last;
    place = k.place;
    lines = λ further f. subst (λ ps. AreRawLines range_text (document d.text d.options further) [] ps k.chain) (sym (blank_after ps q h))
        (k.lines further (extends_both further l.named d.names f l.extends));
    end_is = k.end_is ∙ ap (last_end first) (sym (blank_after ps q h));
  }

  some_kept : (first : ℕ) → is_blank_rest q.rest ≡ false
      → CodeKept later_document first old (ps ++ q ∷ []) whole (record { last = l.new.current; «end» = l.to })
  some_kept first h =
      let later : l.from < l.to = omega (arith, l.from_is, l.to_is, line_len-some q.rest.left (some_bytes q.rest.left h)) in
      let last = ends_line later_document chain l.owed l.from l.to l.line.items later (l.line.are d.options l.named (extends_none l.named)) in
      let full = some_after ps q h in
      record {
        chain = whole;
        more = [];
        whole_is = refl;
        last = last;
        place = ap (λ (f : Forest Item). f.current) (more_read.tree_is ∙ ap (chained old) last.is) ∙ last_current old last.front last.last;
        lines = λ further f. subst (λ ps. AreRawLines range_text (document d.text d.options further) [] ps whole) (sym full) (more_read.lines further f);
        end_is = l.to_is ∙ sym (last_line_end first ps q) ∙ ap (last_end first) (sym full);
      }

  next_kept : (first : ℕ) (kept now_kept : Kept) (t : Bool)
      → t ≡ is_blank_rest q.rest → now_kept ≡ (if t then kept else record { last = l.new.current; «end» = l.to }) → CodeKept d first old ps chain kept
      → CodeKept later_document first old (ps ++ q ∷ []) whole now_kept
  next_kept first kept now_kept true h k before = subst (CodeKept later_document first old (ps ++ q ∷ []) whole) (sym k) (blank_kept first kept (sym h) before)
  next_kept first kept now_kept false h k before = subst (CodeKept later_document first old (ps ++ q ∷ []) whole) (sym k) (some_kept first (sym h))

-- It ends at the end of its line.
pub place_line_end : (text : List ℕ) (start : ℕ) (p : Place) → IsPlaceAt text start p → line_end p ≡ after_line_at text start
place_line_end text start p at = ap (λ bs. offset p + line_len bs) at.left_is ∙ ap (λ k. k + line_len (drop start text)) at.offset_is

-- after the first line
pub so_far_first : (d : Document) (p : Place) (old : Forest Item) (start : ℕ) (current : Option TreeIndex) (l : LineAppended range_text d p old)
    → IsPlaceAt d.text start p → is_blank_line (drop start d.text) ≡ false → JoinsNone old → current ≡ l.new.current
    → IndentedSoFar (document d.text d.options l.named) p old l.new l.to (record { last = current; «end» = l.to }) false
unfolding AreRawLines
so_far_first d p old start current l at some apart c =
    let none : CodeRead d old old [] [] = record { tree_is = refl; lines = λ further f. refl } in
    let next_is : l.to ≡ after_line_at d.text (offset p) = l.to_is ∙ place_line_end d.text start p at ∙ ap (after_line_at d.text) (sym at.offset_is) in
    record {
      read = [];
      chain = add_tokens [] l.line.items;
      code = more_read apart none l;
      stays = subst
          (λ o. CodeKept (document d.text d.options l.named) (offset p) old (p ∷ []) (add_tokens [] l.line.items) (record { last = o; «end» = l.to }))
          (sym c) (some_kept apart none l (offset p) (ap is_blank_line at.left_is ∙ some));
      blank_is = sym no_last;
      following = ap (λ k. code_lines (path_of d.options old) (lines_from d.text k)) (sym next_is);
    }

-- A line of the text continues indented code. After its columns it has this rest.
pub record ContinuesCode (d : Document) (old : Forest Item) (next : ℕ) (r : Rest) : Type 0 where
  pub utf8 : IsUtf8 d.text
  pub boundary : IsCharBoundary d.text next
  pub goes : code_rest_at d.text (path_of d.options old) next ≡ Some r
  pub place : IsPlaceOf d.text (place_at next r)

-- after the next line
module _ {d : Document} {p : Place} {old now : Forest Item} {next : ℕ} {kept : Kept} {blank : Bool} {r : Rest} (apart : JoinsNone old)
    (s : IndentedSoFar d p old now next kept blank) (c : ContinuesCode d old next r) (l : LineAppended range_text d (place_at next r) now) where
  pub so_far_next : (blank_now : Bool) (kept_now : Kept)
      → blank_now ≡ is_blank_rest r → kept_now ≡ (if blank_now then kept else record { last = l.new.current; «end» = l.to })
      → IndentedSoFar (document d.text d.options l.named) p old l.new l.to kept_now blank_now
  so_far_next blank_now kept_now h k =
      let q : Place = place_at next r in
      let path : List Container = path_of d.options old in
      let last : l.to ≡ after_line_at d.text next = l.to_is ∙ next_end d.text path next r c.utf8 c.boundary c.goes in
      let further : List Place × List Place = code_lines path (lines_from d.text (after_line_at d.text next)) in
      record {
        read = s.read ++ q ∷ [];
        chain = add_tokens s.chain l.line.items;
        code = more_read apart s.code l;
        stays = next_kept apart s.code l (offset p) kept kept_now blank_now h k s.stays;
        blank_is = h ∙ sym (last_blank s.read q);
        following = s.following ∙ ap (put_before s.read) (lines_next d.text path next c.boundary.0
            ∙ ap (λ o. code_by [] (lines_from d.text next) (option_map (place_at next) o) further) c.goes)
            ∙ ap (λ ps. (ps, further.1)) (sym (append_assoc s.read (q ∷ []) further.0))
            ∙ ap (λ k. put_before (s.read ++ q ∷ []) (code_lines path (lines_from d.text k))) (sym last);
      }

-- The lines open and close nothing, so the next line is read in the containers that were open before.
pub next_rest : (d : Document) (p : Place) (old now : Forest Item) (next : ℕ) (kept : Kept) (blank : Bool) (found : Option Rest)
    → IndentedSoFar d p old now next kept blank → IsForest old
    → found ≡ code_rest_at d.text (path_of d.options now) next → found ≡ code_rest_at d.text (path_of d.options old) next
next_rest d p old now next kept blank found s f e = grind (arith, path_of-chained, open_are_in)

-- and no block quote is open further inside than before
pub next_quotes : (d : Document) (p : Place) (old now : Forest Item) (next : ℕ) (kept : Kept) (blank : Bool) (n : ℕ)
    → IndentedSoFar d p old now next kept blank → IsForest old → has_quote_after d.options old n ≡ false → has_quote_after d.options now n ≡ false
next_quotes d p old now next kept blank n s f none = grind (arith, quote_after-chained, open_are_in)

-- the first place at an offset, with columns owed there
abbrev pub first_at : List ℕ → ℕ → ℕ → Place
first_at text start owed = record { line = start; rest = record { left = drop start text; taken = 0; owed = owed; column = 0 } }

pub first_is : (text : List ℕ) (start owed : ℕ) → IsPlaceAt text start (first_at text start owed)
first_is text start owed = record { offset_is = omega arith; left_is = refl }

-- after the last line
module _ {d : Document} {p : Place} {now : Forest Item} {next : ℕ} {kept : Kept} {blank : Bool} (g : Forest Item) (start : ℕ)
    (s : IndentedSoFar d p (opened_block g start IndentCodeBlock) now next kept blank) where
  abbrev item : Item
  item = begun_item start IndentCodeBlock

  abbrev opened : Forest Item
  opened = opened_block g start IndentCodeBlock

  abbrev front : List Item
  front = s.stays.last.front

  abbrev last : Item
  last = s.stays.last.last

  stays : Stays front last s.chain
  stays = grind (arith, stays_tokens)

  tree_now : now ≡ chained opened (front ++ record last { «end» = stays.to } ∷ stays.rest)
  tree_now = s.code.tree_is ∙ ap (chained opened) stays.is

  -- the node was just opened, so it is the last before the chain
  opened_last : open_place opened.spine + 1 ≡ length opened.nodes
  opened_last = (pushed-fresh g item (place_in (length g.nodes)) refl).0

  -- the last node that stays is a child of the innermost open node
  pub kept_child : IfSome kept.last (λ child. IsChild now child)
  kept_child =
      let c : TreeIndex = place_in (length opened.nodes + length front) in
      subst (λ o. IfSome o (λ child. IsChild now child)) (sym s.stays.place)
      (subst (λ f. IsChild f c) (sym tree_now) (chain_child opened opened_last front (record last { «end» = stays.to }) stays.rest c refl))

  module _ (cut : Forest Item) (cut_to : IfSome kept.last (λ child. cut ≡ with_end_at (kept_after now child) child kept.«end»)) where
    -- the chain without the tokens of the blank lines at its end
    cut_is : cut ≡ chained opened s.stays.chain
    cut_is =
        let x : Item = record last { «end» = stays.to } in
        let c : TreeIndex = place_in (length opened.nodes + length front) in
        let is : cut ≡ with_end_at (kept_after now c) c kept.«end» =
        subst (λ o. IfSome o (λ child. cut ≡ with_end_at (kept_after now child) child kept.«end»)) s.stays.place cut_to in
        is ∙ ap (λ f. with_end_at (kept_after f c) c kept.«end») tree_now
        ∙ ap (λ f. with_end_at f c kept.«end») (chain_kept opened opened_last front x stays.rest c refl)
        ∙ last_ends opened front x c kept.«end» refl ∙ ap (λ to. chained opened (front ++ record last { «end» = to } ∷ [])) (sym s.stays.last.ends)
        ∙ ap (chained opened) (sym s.stays.last.is)

    -- it is still open
    pub code_open : IsSome (slice_get cut.spine 0)
    code_open = still_open g cut item s.stays.chain (place_in (length g.nodes)) refl cut_is

    -- it is closed
    pub code_added : (new : Forest Item) → IsForest g → offset p ≡ start → next ≤ length d.text → code_rest_at d.text (path_of d.options opened) next ≡ None
        → new ≡ closed_by cut kept.«end» cut.spine → AddsIndented d p g new next blank
    code_added new f at within stops closed =
        let path = path_of-opened d.options g item (place_in (length g.nodes)) refl (open_are_in g.nodes g.spine f.opened) in
        let left : List Place = lines_from d.text next in
        let further = code_lines (path_of d.options opened) (lines_from d.text (after_line_at d.text next)) in
        let following : code_after d.text (path_of d.options g) (offset p) ≡ (s.read, left) =
        ap (λ c. code_after d.text c (offset p)) (sym path) ∙ s.following ∙ ap (put_before s.read) (lines_next d.text (path_of d.options opened) next within
        ∙ ap (λ o. code_by [] left (option_map (place_at next) o) further) stops)
        ∙ ap (λ ps. (ps, left)) (append-nil s.read) in
        let read = ap (λ (l : List Place × List Place). l.0) following in
        let lines = ap (λ (ps : List Place). without_blanks (p ∷ ps)) (sym read) in
        record {
          items = block_with start kept.«end» IndentCodeBlock s.stays.chain;
          tree_is = block_closed g cut item s.stays.chain (place_in (length g.nodes)) refl cut_is new kept.«end» closed;
          is = λ more e. record {
            chain = s.stays.chain;
            lines = subst (λ ps. AreRawLines range_text (document d.text d.options more) [] ps s.stays.chain) lines (s.stays.lines more e);
            items_are = ap (λ b. block_with b kept.«end» IndentCodeBlock s.stays.chain) (sym at)
                ∙ ap (λ e. block_with (offset p) e IndentCodeBlock s.stays.chain) (s.stays.end_is ∙ ap (last_end (offset p)) lines);
          };
          blank_is = s.blank_is ∙ ap last_is_blank (sym read);
          left_is = sym (ap (λ (l : List Place × List Place). l.1) following);
        }
