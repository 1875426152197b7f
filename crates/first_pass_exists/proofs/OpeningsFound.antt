-- Something opens at each place where blocks continue; inside a container less of the text is left.
use Rattle.std.proofs.Common.{◌≡◌, ℕ, suc, ◌<◌, ◌≤◌, Bool, true, false, List, [], ◌∷◌, length, Option, Some, None, refl, ap, arith}
use Rattle.std.proofs.Common.{drop, MatchOption, option_and_then, length-drop}
use Rattle.first_pass_grammar.proofs.Common.{false≢true, and_parts, prefix_len, none-some, cond_some, Item, Options, gfm_footnotes}
use Rattle.first_pass_grammar.proofs.Common.{left_bracket, circumflex, begins_footnote_mark, head_after, footnote_head, label_at}
use Rattle.first_pass_grammar.proofs.Common.{footnote_head_at, label_bytes, place_past, past_head, lines_beyond, begins, is_white, Rest}
use Rattle.first_pass_grammar.proofs.Common.{Place, offset, start_of, some_if, columns_shorter, Names, Context}
use Rattle.first_pass_grammar.proofs.Common.{context, at_rest, prefix, front, footnote_columns, unindented, is_blank_rest, is_ordinary_after_tag, Document}
use Rattle.first_pass_grammar.proofs.Common.{document, around, leaf_block, FootnoteMarker, Head, opened, Continues, Line, AtPlace, Anything, OnlyALeaf}
use Rattle.first_pass_grammar.proofs.Common.{TextOf, OnlyMark, Inside, after_marker, OpensNode, next_is_blank, only_task, after_tag, Opens, Level, may_define}
use Rattle.first_pass_grammar.proofs.Common.{OpensBy, OpensFootnote, task_after, Start, start_at, opening_by, opening_of, OpensLeaf, cond_both}
use Rattle.first_pass_exists.proofs.Found.{named_label, found_also, found_here}
use Rattle.first_pass_grammar.specs.declared.kind.Container.{Container}
use Rattle.first_pass_grammar.specs.Kinds.{Paragraph}
use Rattle.first_pass_grammar.specs.Skeleton.{Allowed, OpensIf, footnote_opening, without_indent}
use Rattle.first_pass_exists.proofs.KindsFound.{IsShorter, reach, Shrinks, Leads, leads_text, leads_block}
use Rattle.first_pass_grammar.specs.declared.kind.AfterMarker.{AfterMarker}
use Rattle.first_pass_grammar.specs.declared.kind.AfterMarker.TheVariants.{OnLine, TaskText, LineEnds, OnlyTag}
use Rattle.first_pass_grammar.proofs.Sequences.OpenerFacts.{start_cases}
use Rattle.first_pass_exists.proofs.RunsFound.{beyond_shorter}
use Rattle.first_pass_grammar.proofs.Sequences.PlacesKept.{task_follows, item_shorter, definition_shorter, quote_prefix_shorter}

-- after a task list item marker, no more of the line is left
task_shorter : (options : Options) (line : ℕ) (r : Rest) → length (task_after options line r).1.left ≤ length r.left
task_shorter options line r =
    let (n, left, taken) = task_follows options line r in let same = ap length left in let fewer = length-drop n r.left in omega arith

-- the rest of the line after a container's marker is shorter
start_shorter : (options : Options) (may : Bool) (p : Place) (s : Start) → start_at options may p ≡ Some s → length s.rest.left < length p.rest.left
start_shorter options may p =
    start_cases options may p (λ s. length s.rest.left < length p.rest.left)
    (λ item is. let less = item_shorter p.rest item is in let task = task_shorter options p.line item.1 in omega arith)
    (λ marker none is. definition_shorter p.rest marker is)
    (λ r none is. quote_prefix_shorter p.rest r is)

-- after a container's marker
marker_reach : (blanks : Option ℕ) → reach (after_marker blanks) ≤ 0
marker_reach None = omega arith
marker_reach (Some e) = omega arith

alone_reach : (marker : Option Item) (p : Place) (blanks : Option ℕ) → reach (only_task marker p blanks) ≤ suc (length p.rest.left)
alone_reach None p blanks = let none = marker_reach blanks in omega arith
alone_reach (Some marker) p blanks = omega arith

node_shrinks : (most : ℕ) (lines : List Place) (head : Head) (inside : Continues) → reach inside ≤ most → Shrinks most lines (OpensNode head inside lines)
node_shrinks most lines head inside h = (omega arith, λ same. h)

-- after a block quote's tag
abbrev IsPast : ℕ → List Place → Continues × List Place → Type 0
IsPast most lines there = IsShorter most lines there.0 there.1

tag_shrinks : (most : ℕ) (c : Context) (lines : List Place) → IsPast most lines (after_tag c lines)
tag_shrinks most c [] = (omega arith, λ same. omega arith)
tag_shrinks most c (line ∷ lines) =
    cond_both (is_ordinary_after_tag c line.rest) (Line, line ∷ lines) (AtPlace (unindented (at_rest line (front c.path line.rest))) OnlyALeaf, lines)
    (IsPast most (line ∷ lines)) (λ b. (omega arith, λ same. omega arith)) (λ b. (omega arith, λ same. omega arith))

start_shrinks : (d : Document) (most : ℕ) (path : List Container) (head : Head) (inside : Place) (lines : List Place) (after : AfterMarker)
    → suc (length inside.rest.left) ≤ most → Shrinks most lines (opening_by d path head inside lines after)
start_shrinks d most path head inside lines OnLine h = node_shrinks most lines head (Inside inside) h
start_shrinks d most path head inside lines (TaskText marker) h = node_shrinks most lines head (AtPlace inside (TextOf marker)) h
start_shrinks d most path head inside lines (LineEnds marker) h =
    let blanks : Option ℕ = Some (start_of (length d.text) lines) in
    let alone = alone_reach marker inside blanks in
    let next = alone_reach marker inside None in
    let short : Head = record head { opener = without_indent head.opener } in
    cond_both (next_is_blank (opened head.opener ∷ path) lines) _ _ (Shrinks most lines)
    (λ b. node_shrinks most lines short (only_task marker inside blanks) (omega arith))
    (λ b. node_shrinks most lines head (only_task marker inside None) (omega arith))
start_shrinks d most path head inside lines OnlyTag h = tag_shrinks most (around d (opened head.opener ∷ path)) lines

-- what opens at a place
leads_by : (text : List ℕ) (options : Options) (names : Names) (path : List Container) (p : Place) (lines : List Place) (o : Option Start)
    → ((s : Start) → o ≡ Some s → length s.rest.left < length p.rest.left)
    → Leads names (length p.rest.left) lines (λ later x. OpensBy (document text options later) path p lines o x)
unfolding OpensBy
leads_by text options names path p lines None less = leads_block text options names (length p.rest.left) path p lines
leads_by text options names path p lines (Some s) less =
    let d : Document = document text options names in
    let shorter = less s refl in
    found_here (opening_of d path p lines s)
    (λ later. (start_shrinks d (length p.rest.left) path s.head (at_rest p s.rest) lines s.after (omega arith), refl))

-- a footnote definition: less of the text is left after its head
head_size : (bs : List ℕ) (o : Option (ℕ × List ℕ)) (head : ℕ × List ℕ) → option_and_then (head_after bs) o ≡ Some head → 0 < head.0
head_size bs None head h = absurd (none-some head h)
head_size bs (Some label) head h = grind (arith, cond_some)

some_bytes : (b : ℕ) (bs : List ℕ) → begins b bs ≡ true → 0 < length bs
some_bytes b [] h = absurd (false≢true h)
some_bytes b (c ∷ bs) h = omega arith

head_shorter_by : (prefix : List ℕ → Option ℕ) (bs : List ℕ) (head : ℕ × List ℕ) → footnote_head prefix false bs ≡ Some head
    → length (drop head.0 bs) < length bs
unfolding footnote_head
head_shorter_by prefix bs head h =
    let begun = some_if (begins_footnote_mark bs) (option_and_then (head_after (drop 2 bs)) (label_at prefix false (drop 2 bs))) head h in
    let size = head_size (drop 2 bs) (label_at prefix false (drop 2 bs)) head begun.1 in
    let some = some_bytes left_bracket bs (and_parts (begins left_bracket bs) (begins circumflex (drop 1 bs)) begun.0).0 in
    let left = length-drop head.0 bs in
    omega arith

head_shorter : (c : Context) (p : Place) (head : ℕ × List ℕ) → footnote_head_at c p ≡ Some head
    → length (drop head.0 (unindented p).rest.left) < length p.rest.left
unfolding footnote_head_at
head_shorter c p head h = grind (arith, some_if, head_shorter_by, columns_shorter)

after_shorter : (most : ℕ) (gfm : Bool) (q : Place) (following lines : List Place) → suc (length q.rest.left) ≤ most → length following ≤ length lines
    → IsShorter most lines (Inside (past_head gfm q following).0) (past_head gfm q following).1
after_shorter most true q following lines less bound =
    let n = length-drop (prefix_len is_white q.rest.left) q.rest.left in (bound, λ same. omega arith)
after_shorter most false q [] lines less bound = (bound, λ same. less)
after_shorter most false q (line ∷ following) lines less bound =
    cond_both (is_blank_rest q.rest) (line, following) (q, line ∷ following) (λ (there : Place × List Place). IsShorter most lines (Inside there.0) there.1)
    (λ b. (omega arith, λ same. omega arith)) (λ b. (bound, λ same. less))

leads_footnote : (text : List ℕ) (options : Options) (names : Names) (most : ℕ) (p : Place) (lines : List Place) (head : ℕ × List ℕ)
    → length (drop head.0 (unindented p).rest.left) < most
    → Leads names most lines (λ later x. OpensFootnote (document text options later) p lines head x)
unfolding OpensFootnote
leads_footnote text options names most p lines (size, label) less =
    let ix = named_label names (label_bytes size (unindented p).rest.left) label in
    let q : Place = place_past size (unindented p) in
    found_also ix (footnote_opening (document text options names) p lines size (FootnoteMarker (footnote_columns options) ix.value label))
    (λ later is. (
      after_shorter most (gfm_footnotes options) q (lines_beyond (offset q) lines) lines (omega arith) (beyond_shorter (offset q) lines),
      (ix.value, is, refl),
    ))

leads_head : (text : List ℕ) (options : Options) (names : Names) (l : Level) (p : Place) (lines : List Place) (o : Option (ℕ × List ℕ))
    → ((head : ℕ × List ℕ) → o ≡ Some head → length (drop head.0 (unindented p).rest.left) < length p.rest.left)
    → Leads names (length p.rest.left) lines (λ later x. MatchOption o
    (OpensBy (document text options later) l.path p lines (start_at options (may_define (document text options later) l) p) x)
    (λ head. OpensFootnote (document text options later) p lines head x))
leads_head text options names l p lines None less =
    let may : Bool = may_define (document text options names) l in
    leads_by text options names l.path p lines (start_at options may p) (start_shorter options may p)
leads_head text options names l p lines (Some head) less = leads_footnote text options names (length p.rest.left) p lines head (less head refl)

pub leads_any : (text : List ℕ) (options : Options) (names : Names) (l : Level) (p : Place) (lines : List Place)
    → Leads names (length p.rest.left) lines (λ later x. Opens (document text options later) l p lines x)
leads_any text options names l p lines =
    leads_head text options names l p lines (footnote_head_at (context options l.path) p) (head_shorter (context options l.path) p)

pub leads_if : (text : List ℕ) (options : Options) (names : Names) (l : Level) (may : Allowed) (p : Place) (lines : List Place)
    → Leads names (length p.rest.left) lines (λ later x. OpensIf (document text options later) l may p lines x)
leads_if text options names l Anything p lines = leads_any text options names l p lines
leads_if text options names l OnlyALeaf p lines = leads_block text options names (length p.rest.left) l.path p lines
leads_if text options names l (TextOf marker) p lines = leads_text text options names (length p.rest.left) l.path p lines (Some marker)
leads_if text options names l (OnlyMark marker blanks) p lines =
    found_here (OpensLeaf (leaf_block Paragraph p ((0, marker) ∷ []) false) Line lines) (λ later. (((omega arith, λ same. omega arith), refl), refl))
