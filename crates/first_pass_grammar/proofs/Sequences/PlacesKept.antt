-- The rest at a place is the text from its offset on. This holds for the lines of a text; after columns, markers and
-- container prefixes; and for the places and lines after a leaf block.
use Rattle.std.proofs.Common.{◌≡◌, ℕ, ◌+◌, nat_lt, Bool, List, ◌∷◌, drop, Option, Some, None, refl, sym, ap, subst, length, ◌∙◌, arith, drop-drop}
use Rattle.std.proofs.Common.{if◌then◌else◌, option_map, length-drop, ◌<◌, []}
use Rattle.first_pass_grammar.proofs.Common.{none-some, same_Some, drop-append_seam, Options, has, Rest, indent, past_bytes, after_columns, Place, place_at}
use Rattle.first_pass_grammar.proofs.Common.{offset, task_of, IsMarked, item-marked, definition-marked, at_rest, prefix, after, front, taken, all_taken}
use Rattle.first_pass_grammar.proofs.Common.{unindented, definition_marker_at, code_by, code_lines, Extent, Verdict, extent_by, extent, place_past, task_by}
use Rattle.first_pass_grammar.proofs.Common.{task_after, columns_shorter, prefix_len-le-length, past_quote, some_mapped}
use Rattle.first_pass_items.specs.OptionWords.{tasklists}
use Rattle.first_pass_lines.proofs.PlaceFacts.{quote_shorter}
use Rattle.first_pass_scan.proofs.MarkerPlaces.{task-marked}
use Rattle.first_pass_grammar.specs.declared.kind.Container.{Container}
use Rattle.first_pass_grammar.specs.declared.kind.Container.TheVariants.{BlockQuote}
use Rattle.first_pass_grammar.specs.Kinds.{item_at}
use Rattle.first_pass_grammar.proofs.Sequences.PrefixBytes.{if_some, Skips, columns_skip, prefix_skips, after_skips, front_skips}

-- the rest at a place is the text from its offset on
abbrev pub IsAt : List ℕ → Place → Type 0
IsAt text p = p.rest.left ≡ drop (offset p) text

-- a property of each of these places
abbrev pub HoldsAtEach : (Place → Type 0) → List Place → Type 0
HoldsAtEach At [] = Unit {0}
HoldsAtEach At (p ∷ ps) = At p × HoldsAtEach At ps

-- the rest at each of these places is the text from its offset on
abbrev pub AreAt : List ℕ → List Place → Type 0
AreAt text lines = HoldsAtEach (IsAt text) lines

-- the second rest follows the first: it lacks some first bytes, which count as taken
abbrev pub Follows : Rest → Rest → Type 0
Follows r s = (n : ℕ) × (s.left ≡ drop n r.left) × (s.taken ≡ r.taken + n)

follows_none : (r : Rest) → Follows r r
follows_none r = (0, refl, omega arith)

follows_both : (r s q : Rest) → Follows r s → Follows s q → Follows r q
follows_both r s q (n, e, f) (m, g, h) = (n + m, g ∙ ap (drop m) e ∙ drop-drop m n r.left, omega arith)

at_after : (text : List ℕ) (line : ℕ) (r s : Rest) → Follows r s → IsAt text (place_at line r) → IsAt text (place_at line s)
at_after text line r s h4 i = grind (arith, drop-drop)

-- bytes of a prefix or of columns
skips_follow : {r s : Rest} → Skips r s → Follows r s
skips_follow {r} {s} h = (length h.bytes, sym (ap (drop (length h.bytes)) h.left ∙ drop-append_seam h.bytes s.left), h.taken)

columns_follow : (k : ℕ) (r : Rest) → Follows r (after_columns k r)
columns_follow k r = skips_follow (columns_skip k r)

-- a rest follows after a marker
marked_follows : (r s : Rest) → IsMarked r s → Follows r s
marked_follows r s m =
    let one : Rest = past_bytes m.width r in
    let two : Rest = after_columns m.first one in
    subst (Follows r) (sym m.same)
    (follows_both r two (after_columns m.further two) (follows_both r one two (m.width, refl, refl) (columns_follow m.first one))
    (columns_follow m.further two))

-- If a list item begins here, its marker follows the indentation.
pub item_marked : (r : Rest) (item : (ℕ × ℕ × ℕ) × Rest) → item_at r ≡ Some item → IsMarked (all_taken r) item.1
unfolding item_at
item_marked r item h = item-marked (indent r) (all_taken r) item (if_some (nat_lt (indent r) 4) _ item h)

-- If a definition begins here, its marker follows the indentation.
pub marked_definition : (r : Rest) (definition : ℕ × Rest) → definition_marker_at r ≡ Some definition → IsMarked (all_taken r) definition.1
unfolding definition_marker_at
marked_definition r definition h = definition-marked (indent r) (all_taken r) definition (if_some (nat_lt (indent r) 4) _ definition h)

-- After a marker, fewer bytes of the line are left.
pub marked_shorter : (r s : Rest) → IsMarked r s → length s.left < length r.left
marked_shorter r s m = grind (arith, columns_shorter, prefix_len-le-length, length-drop)

pub marked_less : (n : ℕ) (r s : Rest) → IsMarked (after_columns n r) s → length s.left < length r.left
marked_less n r s m = omega (arith, marked_shorter (after_columns n r) s m, columns_shorter n r)

pub item_shorter : (r : Rest) (item : (ℕ × ℕ × ℕ) × Rest) → item_at r ≡ Some item → length item.1.left < length r.left
item_shorter r item h = marked_less (indent r) r item.1 (item_marked r item h)

pub definition_shorter : (r : Rest) (definition : ℕ × Rest) → definition_marker_at r ≡ Some definition → length definition.1.left < length r.left
definition_shorter r definition h = marked_less (indent r) r definition.1 (marked_definition r definition h)

-- A block quote marker takes a byte.
pub quote_less : (r s : Rest) (o : Option Rest) → past_quote r ≡ o → option_map (after_columns 1) o ≡ Some s → length s.left < length r.left
quote_less r s o q e = grind (arith, some_mapped, columns_shorter, quote_shorter)

-- The prefix of a block quote takes a byte.
pub quote_prefix_shorter : (r s : Rest) → prefix (BlockQuote None) r ≡ Some s → length s.left < length r.left
unfolding prefix
quote_prefix_shorter r s e = omega (arith, quote_less (after_columns 3 r) s (past_quote (after_columns 3 r)) refl e, columns_shorter 3 r)

-- a rest follows after indentation and the marker of an item or a definition
after_marker : (r s : Rest) → IsMarked (all_taken r) s → Follows r s
after_marker r s m = follows_both r (all_taken r) s (columns_follow (indent r) r) (marked_follows (all_taken r) s m)

task_follows_by : (line : ℕ) (r : Rest) (o : Option (Bool × Rest)) → ((task : Bool × Rest) → o ≡ Some task → Follows r task.1) → Follows r (task_by line r o).1
task_follows_by line r None f = follows_none r
task_follows_by line r (Some task) f = f task refl

pub task_follows : (options : Options) (line : ℕ) (r : Rest) → Follows r (task_after options line r).1
task_follows options line r =
    task_follows_by line r (if has options tasklists then task_of r else None) (λ task h.
    follows_both r (after_columns 3 r) task.1 (columns_follow 3 r)
    (marked_follows (after_columns 3 r) task.1 (task-marked r task (if_some (has options tasklists) (task_of r) task h))))

-- a property of a place that later places in its line have too
pub record IsKeptLater (At : Place → Type 0) : Type 0 where
  pub later : (line : ℕ) (r s : Rest) → Follows r s → At (place_at line r) → At (place_at line s)
  pub past : (n : ℕ) (p : Place) → At p → At (place_past n p)

pub at_kept : (text : List ℕ) → IsKeptLater (IsAt text)
at_kept text = grind (arith, at_after, drop-drop)

-- no property
abbrev pub Anywhere : Place → Type 0
Anywhere p = Unit {0}

pub anywhere_kept : IsKeptLater Anywhere
anywhere_kept = record { later = λ line r s h i. tt; past = λ n p i. tt }

pub each_anywhere : (lines : List Place) → HoldsAtEach Anywhere lines
each_anywhere [] = tt
each_anywhere (line ∷ lines) = (tt, each_anywhere lines)

module _ (At : Place → Type 0) (kept : IsKeptLater At) where
  -- after the indentation of a place, and at that place of a line
  pub at_unindented : (p : Place) → At p → At (unindented p)
  at_unindented p i = kept.later p.line p.rest (all_taken p.rest) (columns_follow (indent p.rest) p.rest) i

  pub at_front : (path : List Container) (line : Place) → At line → At (unindented (at_rest line (front path line.rest)))
  at_front path line i =
      at_unindented (at_rest line (front path line.rest))
      (kept.later line.line line.rest (front path line.rest) (skips_follow (front_skips path line.rest)) i)

  taken_by : (line q : Place) (o : Option Rest) → ((s : Rest) → o ≡ Some s → Follows line.rest s) → option_map (at_rest line) o ≡ Some q → At line → At q
  taken_by line q o f h i = grind (arith, none-some, same_Some)

  pub at_taken : (path : List Container) (line q : Place) → taken path line ≡ Some q → At line → At q
  at_taken path line q h i = taken_by line q (after path line.rest) (λ s e. skips_follow (after_skips path line.rest s e)) h i

  -- inside a block quote, and after the marker of a definition or an item
  pub at_quote : (p : Place) (inside : Rest) → prefix (BlockQuote None) p.rest ≡ Some inside → At p → At (at_rest p inside)
  at_quote p inside h i = kept.later p.line p.rest inside (skips_follow (prefix_skips (BlockQuote None) p.rest inside h)) i

  pub at_marker : (p : Place) (marker : ℕ × Rest) → definition_marker_at p.rest ≡ Some marker → At p → At (at_rest p marker.1)
  at_marker p marker h i = kept.later p.line p.rest marker.1 (after_marker p.rest marker.1 (marked_definition p.rest marker h)) i

  pub at_item : (options : Options) (p : Place) (item : (ℕ × ℕ × ℕ) × Rest) → item_at p.rest ≡ Some item → At p
      → At (at_rest p (task_after options p.line item.1).1)
  at_item options p item h i =
      let task : Rest = (task_after options p.line item.1).1 in
      let marked = after_marker p.rest item.1 (item_marked p.rest item h) in
      kept.later p.line p.rest task (follows_both p.rest item.1 task marked (task_follows options p.line item.1)) i

-- a property of lines that the lines after the first one have too
abbrev pub IsKeptBelow : (List Place → Type 0) → Type 0
IsKeptBelow L = (line : Place) (lines : List Place) → L (line ∷ lines) → L lines

-- the lines after a block have such a property
module _ (L : List Place → Type 0) (further : IsKeptBelow L) where
  pub verdict_left : (v : Verdict) (line : Place) (lines : List Place) (e : Extent) → L (line ∷ lines) → L e.left → L (extent_by v line lines e).left
  verdict_left v line lines e h k = grind arith

  pub extent_left : (judge : Place → Verdict) (n : ℕ) (lines : List Place) → L lines → L (extent judge n lines).left
  unfolding extent
  extent_left judge n [] h = h
  extent_left judge n (line ∷ lines) h = verdict_left (judge line) line lines (extent judge n lines) h (extent_left judge n lines (further line lines h))

  code_left_by : (o : Option Place) (more lines : List Place) (left : List Place × List Place) → L lines → L left.1 → L (code_by more lines o left).1
  code_left_by o more lines left h k = grind arith

  pub code_left : (path : List Container) (lines : List Place) → L lines → L (code_lines path lines).1
  unfolding code_lines
  code_left path [] h = h
  code_left path (line ∷ lines) h = grind (arith, code_left_by, code_left path lines (further line lines h))
