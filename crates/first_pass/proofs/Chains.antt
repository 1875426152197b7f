-- The chain in an open block with text: its tokens, and what a line adds to it.
use Rattle.std.proofs.Common.{◌≡◌, ℕ, ◌+◌, ◌<◌, ◌≤◌, max, true, false, List, [], ◌∷◌, ◌++◌, append_assoc, length, drop, slice_get, Option, Some, None, IfSome}
use Rattle.std.proofs.Common.{IsCharBoundary, refl, sym, ap, subst, ◌∙◌, arith, option_map}
use Rattle.first_pass_grammar.proofs.Common.{drop-append_seam, false≢true, CowStr, MathBraces, Item, ItemBody, TaskListMarker, TreeIndex, Forest, appended}
use Rattle.first_pass_grammar.proofs.Common.{at_depth, is_escaped, item_at, AreInOrder, EscapesStand, chained, leaves, chained-nodes, chained-spine, add_tokens}
use Rattle.first_pass_grammar.proofs.Common.{with_tokens, with_tokens-chained, joins_none-fresh, JoinsNone, AppendsLine, line_in_order, order_to, order_adds}
use Rattle.first_pass_grammar.proofs.Common.{text_end, text_upto, Document, marker_items, extent_of, is_text_block, is_task_marker, IsBetween}
use Rattle.first_pass.proofs.Common.{MayAddAt, AreTokens, AreTokensIn, ContinuesChain, HoldsChain, HoldsTokens, task_is_no_text, with_child, break_unescaped}
use Rattle.first_pass.proofs.Common.{order_append, LineInOrder, StandsAfter}
use Rattle.first_pass_blocks.proofs.Common.{MarkerBetween, get_front, ordered_appended, ordered_none, PassState}
use Rattle.first_pass_open.specs.OpenBlock.{IsJustPushed}
use Rattle.first_pass_tokens.specs.LineTokens.{is_break}
use Rattle.first_pass_tokens.specs.Pieces.{Inline}
use Rattle.first_pass_tokens.proofs.ChainLemmas.{appended-chained, joins_none-appended}
use Rattle.first_pass_tokens.proofs.Escapes.{escapes_adds, escapes_append, line_escapes}
use Rattle.first_pass.proofs.Adding.{IsOutside, appended_outside, may_add_by, tokens_outside}
use Rattle.first_pass.proofs.OrderJoin.{IsOrderedBefore, IsRange, front_of, tokens_after}

-- a chain in order, in which each escaped text is after its backslash
pub tokens_in : (text : List ℕ) (from to : ℕ) (chain : List Item) → AreInOrder text from to chain → EscapesStand text from chain
    → AreTokensIn text from to chain
tokens_in text from to [] h e = h
tokens_in text from to (x ∷ xs) h e = (h.0, h.1, h.2, h.3, e.0, tokens_in text x.«end» to xs h.4 e.1)

pub in_order : (text : List ℕ) (from to : ℕ) (chain : List Item) → AreTokensIn text from to chain → AreInOrder text from to chain
in_order text from to [] h = h
in_order text from to (x ∷ xs) h = (h.0, h.1, h.2, h.3, in_order text x.«end» to xs h.5)

escapes : (text : List ℕ) (from to : ℕ) (chain : List Item) → AreTokensIn text from to chain → EscapesStand text from chain
escapes text from to [] h = tt
escapes text from to (x ∷ xs) h = (h.4, escapes text x.«end» to xs h.5)

-- its tokens as nodes
chain_tokens : (text : List ℕ) (d from to : ℕ) (chain : List Item) → AreTokensIn text from to chain → AreTokens text d from (at_depth d (leaves chain))
chain_tokens text d from to [] h = tt
chain_tokens text d from to (x ∷ xs) h =
    let low = h.0 in
    let order = h.1 in
    let same : x.«end» ≡ max from x.«end» = omega arith in
    (omega arith, h.4, subst (λ k. AreTokens text d k (at_depth d (leaves xs))) same (chain_tokens text d x.«end» to xs h.5))

marker_escaped : (body : ItemBody) → is_task_marker body ≡ true → is_escaped body ≡ true → ⊥
marker_escaped (TaskListMarker checked) h e = false≢true e
marker_escaped body h e = false≢true h

marked_tokens : (text : List ℕ) (d from start to : ℕ) (marker : Option Item) (chain : List Item) → MarkerBetween text from start marker
    → AreTokensIn text start to chain → AreTokens text d start (at_depth d (leaves (marker_items marker ++ chain)))
marked_tokens text d from start to None chain stands h = chain_tokens text d start to chain h
marked_tokens text d from start to (Some m) chain stands h =
    let b : IsBetween text from start (extent_of m) = stands.1 in
    let before = b.before in
    let same : start ≡ max start m.«end» = omega arith in (
      omega arith,
      λ escaped. absurd (marker_escaped m.body stands.0 escaped),
      subst (λ k. AreTokens text d k (at_depth d (leaves chain))) same (chain_tokens text d start to chain h),
    )

pub marked_is : (f : Forest Item) (marker : Option Item) (chain : List Item) → chained f (marker_items marker ++ chain) ≡ chained (with_child f marker) chain
marked_is f None chain = refl
marked_is f (Some m) chain = refl

-- a block is opened in a tree, and a chain added to it
module _ (f before : Forest Item) (block : TreeIndex) (x : Item) (chain : List Item) (opened : IsJustPushed before block)
    (begun : item_at before block ≡ Some x) (is : f ≡ chained before chain) where
  block_in : block.0 < length before.nodes
  block_in = omega (arith, opened.last)

  block_there : item_at f block ≡ Some x
  block_there =
      let kept = get_front before.nodes (at_depth (length before.spine + 1) (leaves chain)) block.0 block_in in
      ap (λ (g : Forest Item). item_at g block) is
      ∙ ap (λ (ns : List (ℕ × Item)). option_map (λ (n : ℕ × Item). n.1) (slice_get ns block.0)) (chained-nodes before chain)
      ∙ ap (option_map (λ (n : ℕ × Item). n.1)) kept ∙ begun

  block_spine : f.spine ≡ block ∷ opened.rest
  block_spine = ap (λ (g : Forest Item). g.spine) is ∙ chained-spine before chain ∙ opened.innermost

-- a block with text was opened in a tree, with the marker of its task list item if it has one
pub record OpenedText (text : List ℕ) (before : Forest Item) (block : TreeIndex) : Type 0 where
  pub node : Item
  pub marker : Option Item
  pub from : ℕ
  pub opened : IsJustPushed before block
  pub begun : item_at before block ≡ Some node
  pub has_text : is_text_block node.body ≡ true
  pub starts : IsCharBoundary text node.start
  pub stands : MarkerBetween text from node.start marker

-- a chain of tokens in it
pub chain_in : (text : List ℕ) (f before : Forest Item) (block : TreeIndex) (to : ℕ) (chain : List Item) (o : OpenedText text before block)
    → AreTokensIn text o.node.start to chain → f ≡ chained before (marker_items o.marker ++ chain) → HoldsChain text f block to
chain_in text f before block to chain o tokens is =
    let all : List Item = marker_items o.marker ++ chain in
    record {
      before = before;
      node = o.node;
      marker = o.marker;
      from = o.from;
      chain = chain;
      opened = o.opened;
      begun = o.begun;
      innermost = ap (λ (s : List TreeIndex). slice_get s 0) (block_spine f before block o.node all o.opened o.begun is);
      there = block_there f before block o.node all o.opened o.begun is;
      has_text = o.has_text;
      starts = o.starts;
      stands = o.stands;
      tokens = tokens;
      tree_is = is;
    }

-- another tree with a longer chain, or another end of it
pub chain_of : (text : List ℕ) (f g : Forest Item) (block : TreeIndex) (to later : ℕ) (h : HoldsChain text f block to) (chain : List Item)
    → AreTokensIn text h.node.start later chain → g ≡ chained h.before (marker_items h.marker ++ chain) → HoldsChain text g block later
chain_of text f g block to later h chain tokens is =
    chain_in text g h.before block later chain
    (record {
      node = h.node;
      marker = h.marker;
      from = h.from;
      opened = h.opened;
      begun = h.begun;
      has_text = h.has_text;
      starts = h.starts;
      stands = h.stands;
    }) tokens is

-- The children of the block are tokens.
pub chain_holds : (text : List ℕ) (f : Forest Item) (block : TreeIndex) (to : ℕ) → HoldsChain text f block to → HoldsTokens text f block
chain_holds text f block to h =
    let whole_chain : List Item = marker_items h.marker ++ h.chain in
    let spine : f.spine ≡ h.before.spine = ap (λ (g : Forest Item). g.spine) h.tree_is ∙ chained-spine h.before whole_chain in
    let depth : length f.spine + 1 ≡ length h.before.spine + 1 = ap (λ (s : List TreeIndex). length s + 1) spine in
    let rest : List (ℕ × Item) = at_depth (length h.before.spine + 1) (leaves whole_chain) in
    let following : drop (block.0 + 1) f.nodes ≡ rest =
    ap (λ k. drop k f.nodes) h.opened.last
    ∙ ap (drop (length h.before.nodes)) (ap (λ (g : Forest Item). g.nodes) h.tree_is ∙ chained-nodes h.before whole_chain)
    ∙ drop-append_seam h.before.nodes rest in
    record {
      node = h.node;
      there = h.there;
      has_text = h.has_text;
      tokens = subst (λ k. AreTokens text k h.node.start (drop (block.0 + 1) f.nodes)) (sym depth)
          (subst (AreTokens text (length h.before.spine + 1) h.node.start) (sym following)
          (marked_tokens text (length h.before.spine + 1) h.from h.node.start to h.marker h.chain h.stands h.tokens));
    }

-- a chain up to a later offset
later_tokens : (text : List ℕ) (from to later : ℕ) (chain : List Item) → to ≤ later → AreTokensIn text from to chain → AreTokensIn text from later chain
later_tokens text from to later [] more h = omega arith
later_tokens text from to later (x ∷ xs) more h = (h.0, h.1, h.2, h.3, h.4, later_tokens text x.«end» to later xs more h.5)

pub chain_later : (text : List ℕ) (f : Forest Item) (block : TreeIndex) (to later : ℕ) → to ≤ later → HoldsChain text f block to
    → HoldsChain text f block later
chain_later text f block to later more h =
    chain_of text f f block to later h h.chain (later_tokens text h.node.start to later h.chain more h.tokens) h.tree_is

-- no text is joined to the marker, nor to the block before it
marker_apart : (text : List ℕ) (from start : ℕ) (f : Forest Item) (marker : Option Item) → MarkerBetween text from start marker → f.current ≡ None
    → JoinsNone (with_child f marker)
marker_apart text from start f None stands none = joins_none-fresh f none
marker_apart text from start f (Some m) stands none = joins_none-appended f m (task_is_no_text m.body stands.0)

-- tokens in order between two offsets, before a break that ends at the second, if there is one
pub record AddsTokens (text : List ℕ) (start to : ℕ) (line_break : Option Item) (tokens : List Item) : Type 0 where
  pub stop : ℕ
  pub order : AreInOrder text start stop tokens
  pub escapes : EscapesStand text start tokens
  pub before : stop ≤ to
  pub within : to ≤ length text
  pub following : IfSome line_break (λ x. IsBetween text stop to (extent_of x))

break_between : (text front : List ℕ) (stop to : ℕ) (o : Option Item) → ((i : ℕ) → IsCharBoundary front i → IsCharBoundary text i)
    → IfSome o (StandsAfter front stop to) → IfSome o (λ x. IsBetween text stop to (extent_of x))
break_between text front stop to None place h = tt
break_between text front stop to (Some x) place h =
    let ends = h.to in
    record { following = h.from; order = h.order; before = omega arith; starts = place x.start h.starts; ends = place x.«end» h.ends }

-- a line of a text that may be cut
abbrev line_content : Document → MathBraces → ℕ → Option ℕ → Inline
line_content d braces start end = record {
  options = d.options;
  whole = d.text;
  text = text_upto d.text end;
  start = start;
  row = false;
  braces = braces;
}

pub line_adds : {texts : List CowStr} {after : MathBraces} (d : Document) (braces : MathBraces) (start : ℕ) (end : Option ℕ) (old new : Forest Item)
    (answer : ℕ × Option Item) → IsRange d.text start end → (h : AppendsLine texts (line_content d braces start end) old new answer after)
    → AddsTokens d.text start answer.0 answer.1 h.tokens
line_adds d braces start end old new (next, line_break) r h =
    let f = front_of d.text start end r in
    let stop : ℕ = text_end (line_content d braces start end) h.line.content_end in
    let l : LineInOrder (line_content d braces start end) stop h.tokens (next, line_break) = line_in_order f.utf8 f.boundary f.boundary.0 h.line in
    record {
      stop = stop;
      order = f.tokens stop h.tokens l.tokens_fit;
      escapes = f.escapes stop h.tokens l.tokens_fit (line_escapes h.line);
      before = l.before;
      within = (f.place next l.ends).0;
      following = break_between d.text (text_upto d.text end) stop next line_break f.place l.break_fits;
    }

-- they are added to a chain
module _ (text : List ℕ) (old new : Forest Item) (block : TreeIndex) (start to : ℕ) (tokens : List Item) (h : HoldsChain text old block start)
    (stop : ℕ) (order : AreInOrder text start stop tokens) (stand : EscapesStand text start tokens) (before : stop ≤ to)
    (is : new ≡ with_tokens old tokens) where
  abbrev longer : List Item
  longer = add_tokens h.chain tokens

  longer_order : AreInOrder text h.node.start stop longer
  longer_order = order_adds text h.node.start start stop h.chain tokens (in_order text h.node.start start h.chain h.tokens) order

  longer_escapes : EscapesStand text h.node.start longer
  longer_escapes =
      escapes_adds text h.node.start start stop h.chain tokens (in_order text h.node.start start h.chain h.tokens)
      (escapes text h.node.start start h.chain h.tokens) order stand

  longer_is : new ≡ chained h.before (marker_items h.marker ++ longer)
  longer_is =
      is ∙ ap (λ (f : Forest Item). with_tokens f tokens) (h.tree_is ∙ marked_is h.before h.marker h.chain)
      ∙ with_tokens-chained (with_child h.before h.marker) h.chain tokens
      (marker_apart text h.from h.node.start h.before h.marker h.stands h.opened.none) ∙ sym (marked_is h.before h.marker longer)

  with_line : HoldsChain text new block to
  with_line =
      chain_of text old new block start to h longer
      (tokens_in text h.node.start to longer (order_to text h.node.start stop to longer longer_order before) longer_escapes) longer_is

  with_break : (x : Item) → IsBetween text stop to (extent_of x) → is_break x.body ≡ true → HoldsChain text (appended new x) block to
  with_break x between kind =
      let last : AreInOrder text stop to (x ∷ []) = (between.following, between.order, between.starts, between.ends, between.before) in
      chain_of text old (appended new x) block start to h (longer ++ x ∷ [])
      (tokens_in text h.node.start to (longer ++ x ∷ []) (order_append text h.node.start stop to longer (x ∷ []) longer_order last)
      (escapes_append text h.node.start longer x longer_escapes (break_unescaped x.body kind)))
      (ap (λ (f : Forest Item). appended f x) longer_is ∙ appended-chained h.before (marker_items h.marker ++ longer) x
      ∙ ap (chained h.before) (append_assoc (marker_items h.marker) longer (x ∷ [])))

broken_by : (text : List ℕ) (new : Forest Item) (block : TreeIndex) (stop to : ℕ) (o : Option Item)
    → ((x : Item) → IsBetween text stop to (extent_of x) → is_break x.body ≡ true → HoldsChain text (appended new x) block to)
    → IfSome o (λ x. IsBetween text stop to (extent_of x)) → IfSome o (λ x. is_break x.body ≡ true → HoldsChain text (appended new x) block to)
broken_by text new block stop to None adds h = tt
broken_by text new block stop to (Some x) adds h = adds x h

pub chain_continues : (text : List ℕ) (old new : Forest Item) (block : TreeIndex) (start : ℕ) (answer : ℕ × Option Item) (tokens : List Item)
    → AddsTokens text start answer.0 answer.1 tokens → new ≡ with_tokens old tokens → HoldsChain text old block start
    → ContinuesChain text new block answer
chain_continues text old new block start answer tokens a is h = record {
  chain = with_line text old new block start answer.0 tokens h a.stop a.order a.escapes a.before is;
  broken = broken_by text new block a.stop answer.0 answer.1 (with_break text old new block start answer.0 tokens h a.stop a.order a.escapes a.before is)
      a.following;
}

-- The open nodes can still be closed if the break after the tokens is appended.
pub closed_by_break : (text : List ℕ) (old new : PassState) (start to : ℕ) (o : Option Item) (tokens : List Item) → IsOrderedBefore text old.tree start
    → AddsTokens text start to o tokens → new.tree ≡ with_tokens old.tree tokens → new.begin_list_item ≡ None → IsOutside old.tree
    → IfSome o (λ x. is_break x.body ≡ true → MayAddAt text (record new { tree = appended new.tree x }) to)
closed_by_break text old new start to None tokens o a is none h = tt
closed_by_break text old new start to (Some x) tokens o a is none h = λ kind.
    let before = a.before in
    let within = a.within in
    let outside = subst IsOutside (sym is) (tokens_outside old.tree tokens h) in
    let read = tokens_after text old.tree new.tree start a.stop tokens o a.order (omega arith) is in
    may_add_by text (record new { tree = appended new.tree x }) (appended new.tree x) to refl (appended_outside new.tree x outside)
    (ordered_none text (record new { tree = appended new.tree x }) to none within (ordered_appended text new.tree a.stop to x a.following within read))
