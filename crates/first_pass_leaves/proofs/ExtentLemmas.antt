-- The raw lines of a leaf block, one after the other.
use Rattle.std.proofs.Common.{◌≡◌, ℕ, ◌+◌, ◌<◌, List, [], ◌∷◌, length, drop, slice_get, Option, Some, None, IsSome, IsUtf8, IsCharBoundary, refl, sym, ap}
use Rattle.std.proofs.Common.{false, subst, ◌∙◌, arith, option_map}
use Rattle.first_pass_grammar.proofs.Common.{Item, Options, Forest, added, line_len, Rest, Place, place_at, offset, line_end, line_rest, line_place, chained}
use Rattle.first_pass_grammar.proofs.Common.{JoinsNone, with_tokens-chained, Names, Extends, Document, document, block_with, Ranges, IsRawLine, AreRawLines}
use Rattle.first_pass_grammar.proofs.Common.{Extent, with_line, extent_to, Verdict, extent_by, extent, judged, lines_from, ItemBody, line_len-within}
use Rattle.first_pass_grammar.proofs.Common.{lines_at-line, lines_at-end, line_is_place, line_end_boundary, at_rest, after}
use Rattle.first_pass_leaves.proofs.Common.{path_of, container_of, with_container, has_quote_after, begun_item, opened_block, closed_by, AreIn, path_of-chained}
use Rattle.first_pass_leaves.proofs.Common.{path_of-opened, still_open, block_closed, Container, said, AppendsRaw, after_line_at, extent_from, after_keeps}
use Rattle.first_pass_leaves.proofs.Common.{line_start_end, quote_after-chained}
use Rattle.first_pass_leaves.specs.RawBlocks.{AppendsLines}
use Rattle.first_pass_grammar.specs.Extents as Judged
use Rattle.first_pass_leaves.specs.declared.verdict.Verdict.{Verdict as Answer}
use Rattle.first_pass_leaves.specs.declared.verdict.Verdict.TheVariants.{GoesOn, IsLast, Closes, Stops}
use Rattle.first_pass_open.proofs.PlaceLemmas.{place_end}
use Rattle.first_pass_names.proofs.NameLemmas.{extends_both}

-- The raw lines of an extent are read up to those of its rest. The chain so far, followed by the lines of the rest,
-- is the chain of the whole extent.
pub record LinesSoFar (range : Ranges) (d : Document) (whole rest : Extent) (old now : Forest Item) : Type 0 where
  pub chain : List Item
  pub tree_is : now ≡ chained old chain
  pub continues : (more : Names) (last : List Item)
      → Extends more d.names → AreRawLines range (document d.text d.options more) chain rest.places last
      → AreRawLines range (document d.text d.options more) [] whole.places last
  pub end_is : whole.«end» ≡ rest.«end»
  pub left_is : whole.left ≡ rest.left

-- before the first line
pub lines_start : (range : Ranges) (d : Document) (whole : Extent) (old : Forest Item) → LinesSoFar range d whole whole old old
lines_start range d whole old = record { chain = []; tree_is = refl; continues = λ more last e lines. lines; end_is = refl; left_is = refl }

-- The raw line at a place is appended after the nodes of a tree. It begins at an offset, with columns owed there, and
-- ends at another.
pub record LineAppended (range : Ranges) (d : Document) (p : Place) (now : Forest Item) : Type 0 where
  pub new : Forest Item
  pub named : Names
  pub owed : ℕ
  pub from : ℕ
  pub to : ℕ
  pub extends : Extends named d.names
  pub line : AppendsRaw range d.text named owed from to now new
  pub owed_is : owed ≡ p.rest.owed
  pub from_is : from ≡ offset p
  pub to_is : to ≡ line_end p

-- Its items stay what they are if more is named later.
pub line_under : {range : Ranges} {d : Document} {p : Place} {now : Forest Item} (l : LineAppended range d p now) (more : Names)
    → Extends more l.named → IsRawLine range (document d.text d.options more) p.rest.owed (offset p) (line_end p) l.line.items
line_under {range} {d} {p} {now} l more f = rw (← l.to_is, ← l.from_is, ← l.owed_is) (l.line.are d.options more f)

module _ {range : Ranges} {d : Document} {whole rest : Extent} {old now : Forest Item} (s : LinesSoFar range d whole rest old now) where
  -- after a line
  pub lines_more : (further : Extent) (p : Place) → JoinsNone old → rest ≡ with_line p further → (l : LineAppended range d p now)
      → LinesSoFar range (document d.text d.options l.named) whole further old l.new
  unfolding AreRawLines
  lines_more further p apart is l = grind (arith, with_tokens-chained, extends_both, line_under)

  -- after the last line
  pub lines_end : (e next : ℕ) → rest ≡ extent_to e (lines_from d.text next) → AppendsLines range d whole old now e next
  unfolding AreRawLines
  lines_end e next is = grind arith

  -- the containers around the block are the same while its lines are read
  pub lines_path : AreIn (length old.nodes) old.spine → path_of d.options now ≡ path_of d.options old
  lines_path there = ap (path_of d.options) s.tree_is ∙ path_of-chained d.options old s.chain there

  -- no block quote is open further inside
  pub lines_quotes : (n : ℕ) → AreIn (length old.nodes) old.spine → has_quote_after d.options old n ≡ false → has_quote_after d.options now n ≡ false
  lines_quotes n there none = ap (λ f. has_quote_after d.options f n) s.tree_is ∙ quote_after-chained d.options old s.chain n there ∙ none

-- a line of the text, from its start up to the start of the next one
pub record IsLineAt (text : List ℕ) (at next : ℕ) : Type 0 where
  pub here : IsCharBoundary text at
  pub later : at < next
  pub next_is : next ≡ at + line_len (drop at text)
  pub lines : lines_from text at ≡ line_place at (drop at text) ∷ lines_from text next
  pub boundary : IsCharBoundary text next

pub line_read : (text bytes : List ℕ) (at next : ℕ)
    → IsUtf8 text → IsCharBoundary text at → at < length text → bytes ≡ text → next ≡ at + line_len (drop at bytes) → IsLineAt text at next
line_read text bytes at next u here within e f = grind (arith, line_len-within, lines_at-line, line_end_boundary)

-- After the prefixes of a path, a line has the same end.
pub after_path : (text : List ℕ) (path : List Container) (at next : ℕ) (r : Rest)
    → IsUtf8 text → IsLineAt text at next → after path (line_rest (drop at text)) ≡ Some r → line_end (place_at at r) ≡ next
after_path text path at next r u line e =
    (after_keeps text at path (line_rest (drop at text)) r u e (line_is_place text at line.here)).1 ∙ line_start_end text at ∙ sym line.next_is

-- at the end of the text
pub extent_at_end : (text : List ℕ) (path : List Container) (judge : Place → Place → Verdict) (at : ℕ)
    → at ≡ length text → extent_from text path judge at ≡ extent_to at (lines_from text at)
unfolding extent
extent_at_end text path judge at past = rw (lines_at-end text at (omega arith)) (ap (λ n. extent_to n []) (sym past))

-- at a line
extent_here : (text : List ℕ) (path : List Container) (judge : Place → Place → Verdict) (at next : ℕ) (o : Option Rest) (v : Verdict)
    → IsLineAt text at next → after path (line_rest (drop at text)) ≡ o
    → judged judge (line_place at (drop at text)) (option_map (at_rest (line_place at (drop at text))) o) ≡ v
    → extent_from text path judge at ≡ extent_by v (line_place at (drop at text)) (lines_from text next) (extent_from text path judge next)
unfolding extent
extent_here text path judge at next o v line goes is = grind arith

-- a line that does none of the others continues the block
pub goes_by : (a : Answer) → ((e : ℕ) → ¬ (a ≡ Stops e)) → ((e : ℕ) → ¬ (a ≡ Closes e)) → ¬ (a ≡ IsLast) → a ≡ GoesOn
goes_by GoesOn f g h = refl
goes_by IsLast f g h = absurd (h refl)
goes_by (Closes e) f g h = absurd (g e refl)
goes_by (Stops e) f g h = absurd (f e refl)

-- the lines of a block are read from one offset up to another
abbrev pub ReadSoFar : Ranges → Document → (Place → Place → Verdict) → ℕ → ℕ → Forest Item → Forest Item → Type 0
ReadSoFar range d judge start at old now =
    LinesSoFar range d (extent_from d.text (path_of d.options old) judge start) (extent_from d.text (path_of d.options old) judge at) old now

-- the line does not continue the containers
pub read_left : {range : Ranges} (d : Document) (judge : Place → Place → Verdict) (start at next : ℕ) {old now : Forest Item}
    → ReadSoFar range d judge start at old now → AreIn (length old.nodes) old.spine → IsLineAt d.text at next
    → None ≡ after (path_of d.options now) (line_rest (drop at d.text))
    → AppendsLines range d (extent_from d.text (path_of d.options old) judge start) old now at at
read_left d judge start at next {old} {now} s there line none =
    lines_end s at at
    (extent_here d.text (path_of d.options old) judge at next None (Judged.Stops at) line
    (ap (λ path. after path (line_rest (drop at d.text))) (sym (lines_path s there)) ∙ sym none) refl ∙ ap (extent_to at) (sym line.lines))

-- The lines of a block are read up to a line that continues the containers, and that line is judged. It has one rest
-- before the call, and another after it.
pub record LineJudged (range : Ranges) (d : Document) (judge : Place → Place → Verdict) (start at : ℕ) (old now : Forest Item) : Type 0 where
  pub next : ℕ
  pub before : Rest
  pub following : Rest
  pub answer : Answer
  pub so_far : ReadSoFar range d judge start at old now
  pub there : AreIn (length old.nodes) old.spine
  pub line : IsLineAt d.text at next
  pub taken : Some before ≡ after (path_of d.options now) (line_rest (drop at d.text))
  pub is : judge (line_place at (drop at d.text)) (place_at at before) ≡ said answer (place_at at following)

module _ {range : Ranges} {d : Document} {judge : Place → Place → Verdict} {start at : ℕ} {old now : Forest Item}
    (j : LineJudged range d judge start at old now) where
  -- the place of the text of the line
  abbrev text_place : Place
  text_place = place_at at j.following

  rest_by : (v : Answer) → j.answer ≡ v → extent_from d.text (path_of d.options old) judge at
      ≡ extent_by (said v text_place) (line_place at (drop at d.text)) (lines_from d.text j.next) (extent_from d.text (path_of d.options old) judge j.next)
  rest_by v e =
      extent_here d.text (path_of d.options old) judge at j.next (Some j.before) (said v text_place) j.line
      (ap (λ path. after path (line_rest (drop at d.text))) (sym (lines_path j.so_far j.there)) ∙ sym j.taken)
      (j.is ∙ ap (λ (a : Answer). said a text_place) e)

  -- the line does not belong to the block
  pub read_stops : (e : ℕ) → j.answer ≡ Stops e → AppendsLines range d (extent_from d.text (path_of d.options old) judge start) old now e at
  read_stops e stops = lines_end j.so_far e at (rest_by (Stops e) stops ∙ ap (extent_to e) (sym j.line.lines))

  -- it closes the block
  pub read_closes : (e : ℕ) → j.answer ≡ Closes e → AppendsLines range d (extent_from d.text (path_of d.options old) judge start) old now e j.next
  read_closes e closes = lines_end j.so_far e j.next (rest_by (Closes e) closes)

  -- it belongs to the block
  pub read_more : JoinsNone old → (l : LineAppended range d text_place now) → j.answer ≡ GoesOn
      → ReadSoFar range (document d.text d.options l.named) judge start j.next old l.new
  read_more apart l goes = lines_more j.so_far (extent_from d.text (path_of d.options old) judge j.next) text_place apart (rest_by GoesOn goes) l

  -- it is the last
  pub read_last : JoinsNone old → (l : LineAppended range d text_place now) → j.next ≡ line_end text_place → j.answer ≡ IsLast
      → AppendsLines range (document d.text d.options l.named) (extent_from d.text (path_of d.options old) judge start) old l.new j.next j.next
  read_last apart l next_is last =
      let ends : Extent = extent_to j.next (lines_from d.text j.next) in
      lines_end (lines_more j.so_far ends text_place apart
      (rest_by IsLast last ∙ ap (λ k. with_line text_place (extent_to k (lines_from d.text j.next))) (sym next_is)) l) j.next j.next refl

-- the end of the line containing an offset
pub first_read : (text bytes : List ℕ) (start first : ℕ) → IsUtf8 bytes → IsCharBoundary text start → bytes ≡ text
    → first ≡ start + line_len (drop start bytes) → (first ≡ after_line_at text start) × IsCharBoundary text first
first_read text bytes start first utf8 b e f =
    let u : IsUtf8 text = subst IsUtf8 e utf8 in
    let is : first ≡ after_line_at text start = f ∙ ap (λ bs. start + line_len (drop start bs)) e in
    (is, subst (IsCharBoundary text) (line_start_end text start ∙ sym is) (place_end text (line_place start (drop start text)) u (line_is_place text start b)))

-- the containers around a block that was just opened
pub opened_path : (options : Options) (g opened : Forest Item) (start : ℕ) (body : ItemBody)
    → opened ≡ opened_block g start body → container_of options body ≡ None → AreIn (length g.nodes) g.spine → path_of options opened ≡ path_of options g
opened_path options g opened start body is leaf there =
    ap (path_of options) is ∙ path_of-opened options g (begun_item start body) (record { 0 = length g.nodes }) refl there
    ∙ ap (λ c. with_container c (path_of options g)) leaf

-- A block is open in a tree, with the raw lines of an extent. It ends at an offset, and the lines from another on
-- remain.
pub record Filled (range : Ranges) (d : Document) (whole : Extent) (g : Forest Item) (start : ℕ) (body : ItemBody) : Type 0 where
  pub opened : Forest Item
  pub filled : Forest Item
  pub stop : ℕ
  pub next : ℕ
  pub is : opened ≡ opened_block g start body
  pub lines : AppendsLines range d whole opened filled stop next

module _ {range : Ranges} {d : Document} {whole : Extent} {g : Forest Item} {start : ℕ} {body : ItemBody} (b : Filled range d whole g start body) where
  -- its chain
  filled_is : b.filled ≡ chained (opened_block g start body) b.lines.chain
  filled_is = b.lines.tree_is ∙ ap (λ f. chained f b.lines.chain) b.is

  -- it is open
  pub block_open : IsSome (slice_get b.filled.spine 0)
  block_open = still_open g b.filled (begun_item start body) b.lines.chain (record { 0 = length g.nodes }) refl filled_is

  -- and closed at its end
  pub block_done : (new : Forest Item)
      → new ≡ closed_by b.filled b.stop b.filled.spine → new ≡ added g (block_with start whole.«end» body b.lines.chain)
  block_done new new_is =
      block_closed g b.filled (begun_item start body) b.lines.chain (record { 0 = length g.nodes }) refl filled_is new b.stop new_is
      ∙ ap (λ k. added g (block_with start k body b.lines.chain)) b.lines.end_is

-- A block is opened in a tree at its first line, which is no raw line of it. The lines after that one, which are judged
-- in this way, are appended.
pub record OpenedAt (range : Ranges) (d : Document) (judge : Place → Place → Verdict) (g : Forest Item) (start : ℕ) (body : ItemBody) : Type 0 where
  pub opened : Forest Item
  pub filled : Forest Item
  pub first : ℕ
  pub stop : ℕ
  pub next : ℕ
  pub there : AreIn (length g.nodes) g.spine
  pub is : opened ≡ opened_block g start body
  pub leaf : container_of d.options body ≡ None
  pub first_is : first ≡ after_line_at d.text start
  pub lines : AppendsLines range d (extent_from d.text (path_of d.options opened) judge first) opened filled stop next

-- the lines after the first, in the containers around the block
abbrev pub lines_of : {range : Ranges} {d : Document} {judge : Place → Place → Verdict} {g : Forest Item} {start : ℕ} {body : ItemBody}
    → OpenedAt range d judge g start body → Filled range d (extent_from d.text (path_of d.options g) judge (after_line_at d.text start)) g start body
lines_of {range} {d} {judge} {g} {start} {body} b = record {
  opened = b.opened;
  filled = b.filled;
  stop = b.stop;
  next = b.next;
  is = b.is;
  lines = subst (λ y. AppendsLines range d y b.opened b.filled b.stop b.next)
      (ap (λ path. extent_from d.text path judge b.first) (opened_path d.options g b.opened start body b.is b.leaf b.there)
      ∙ ap (extent_from d.text (path_of d.options g) judge) b.first_is) b.lines;
}
