-- Whether a footnote definition begins at a place, from the results of the calls, and how a pass opens it.
use Rattle.std.proofs.Common.{drop, Some, ◌≡◌, ℕ, ◌+◌, ◌<◌, ◌≤◌, false, List, [], ◌∷◌, length, sym, ap, subst, ◌∙◌, arith, length-append, Bool, true}
use Rattle.first_pass_grammar.proofs.Common.{text_of, in_table, Place, offset, line_end, IsPlaceOf, Borrows, unindented, Document, document, Names, Extends}
use Rattle.first_pass_grammar.proofs.Common.{with_footnote_label, lines_from, footnote_head_at, label_bytes, NamesLabel, footnote_prefix, footnote_at, Inside}
use Rattle.first_pass_grammar.proofs.Common.{gfm_footnotes, line_len, place_length, AreNamed}
use Rattle.first_pass_blocks.proofs.Common.{named_more, tables_of, names_of, all_keep, PassState, line_or, OrderedIn, TriesFootnote, allocs_of, state_of}
use Rattle.first_pass_blocks.proofs.Common.{source_of, source_text, tree_of, context_in, front_of, line_or-below, unindented_later, IsStateAtPlace, no_table}
use Rattle.first_pass_blocks.proofs.Common.{head_at_mark, FinishesNothing, BlockPass, ordered_on, ordered_note_in, note_named, note_whole, more_whole}
use Rattle.first_pass_blocks.proofs.Common.{footnotes_in, note_notes, head_after_is, line_after, note_count, extends_named, text_last, line_start_end, ReadyAt}
use Rattle.first_pass_names.proofs.NameLemmas.{extends_none}
use Rattle.first_pass_lists.specs.Closing.{footnote_begun}
use Rattle.first_pass_blocks.specs.OpenedFootnotes.{OpenedFootnote}
use Rattle.first_pass_blocks.proofs.FootnoteLabels.{labels_more}
use Rattle.first_pass_blocks.proofs.LinkDefinitions.{footnote_written}
use Rattle.first_pass_ready.proofs.FootnoteLemmas.{after_note, note_is_open}
use Rattle.first_pass_containers.proofs.Openings.StartLemmas.{footnote_just_opened}
use Rattle.first_pass_containers.specs.FootnoteHeads.{footnote_mark_at, head_read, after_head, IsAfterHead}

-- a footnote definition is open at an offset, with the length of its head as read
abbrev pub IsRead : BlockPass → BlockPass → ℕ → ℕ × List ℕ → ℕ → Type 0
IsRead old new start head n =
    (n ≡ head_read (gfm_footnotes (source_of old).options) head.0 (drop (start + head.0) (source_text old))) × OpenedFootnote start head old new

-- The head of a footnote definition is at an offset, after the indentation of a place. More than three bytes of it are read.
pub record HeadFound (pass : BlockPass) (p : Place) (start n : ℕ) (head : ℕ × List ℕ) : Type 0 where
  pub mark : footnote_mark_at (source_of pass).options p ≡ Some start
  pub here : footnote_at (in_table (tree_of pass).nodes (tree_of pass).spine) (context_in pass) (drop start (source_text pass)) ≡ Some head
  pub some : 3 < n

-- each index in the nodes names an entry once the definition is open, if each did before
pub opened_named : {start : ℕ} {head : ℕ × List ℕ} {old new : BlockPass} → OpenedFootnote start head old new
    → AreNamed (names_of (allocs_of old)) (tree_of old).nodes → AreNamed (names_of (allocs_of new)) (tree_of new).nodes
opened_named {start = start} {old = old} {new = new} opened h =
    let before : Names = names_of (allocs_of old) in
    let names : Names = names_of (allocs_of new) in
    let size = ap (λ (n : Names). length n.texts) opened.names ∙ length-append before.texts (opened.text ∷ []) in
    let last = opened.last in
    rw opened.opened (note_named names start opened.index (state_of old) (omega arith)
    (named_more names before (tree_of old).nodes (extends_named before names opened.text opened.names) h))

-- a footnote definition is open whose head was read
module _ (old new : BlockPass) (p q : Place) (at n : ℕ) (head : ℕ × List ℕ) (is_at : IsStateAtPlace (source_text old) (state_of old) p)
    (kept : (source_of new ≡ source_of old) × (front_of new ≡ front_of old)) (found : HeadFound old p at n head) (read : IsRead old new at head n)
    (following : IsAfterHead (source_of old) (at + n) q) where
  abbrev text : List ℕ
  text = source_text old

  abbrev nested : Bool
  nested = in_table (tree_of old).nodes (tree_of old).spine

  abbrev start : ℕ
  start = offset (unindented p)

  here : IsPlaceOf text (unindented p)
  here = all_keep text p.line p.rest is_at.utf8 is_at.place

  low : offset p ≤ start
  low = unindented_later text p.line p.rest is_at.utf8 is_at.place

  marked : (start ≡ at) × (footnote_head_at (context_in old) p ≡ footnote_at false (context_in old) (drop at text))
      × ((unindented p).rest.left ≡ drop at text)
  marked = head_at_mark text (context_in old) p at here found.mark

  opened : OpenedFootnote start head old new
  opened = subst (λ k. OpenedFootnote k head old new) (sym marked.0) read.1

  -- the place after the head, and the lines after that
  there : (names : Names) → after_note (document text (source_of old).options names) p (lines_from text (line_end p)) head.0
      ≡ (q, lines_from text (line_end q))
  there names =
      let gfm : Bool = gfm_footnotes (source_of old).options in
      let size : n ≡ head_read gfm head.0 (drop (start + head.0) text) =
      read.0 ∙ ap (λ (k : ℕ). head_read gfm head.0 (drop (k + head.0) text)) (sym marked.0) in
      head_after_is (document text (source_of old).options names) p (footnote_prefix (context_in old)) nested head n is_at.utf8 is_at.place
      (ap (footnote_at nested (context_in old)) marked.2 ∙ found.here) size
      ∙ ap (λ (k : ℕ). after_head gfm text (k + n)) marked.0 ∙ sym following.there

  more_names : Extends (names_of (allocs_of new)) (names_of (allocs_of old))
  more_names = extends_named (names_of (allocs_of old)) (names_of (allocs_of new)) opened.text opened.names

  -- the label in the rest of the line
  borrowed_at : (left : List ℕ) → left ≡ drop start text → text_of opened.text ≡ label_bytes head.0 left → Borrows (label_bytes head.0 left) opened.text
  borrowed_at left is = subst (λ (bs : List ℕ). text_of opened.text ≡ label_bytes head.0 bs → Borrows (label_bytes head.0 bs) opened.text) (sym is)
      opened.borrowed

  ready_then : (more : Names) → Extends more (names_of (allocs_of new))
      → (let d : Document = document text (source_of old).options more in
      ReadyAt d (tables_of (allocs_of old)) (tree_of old) (state_of old).blank (Inside p) (lines_from text (line_end p))
      → ReadyAt d (tables_of (allocs_of new)) (tree_of new) (state_of new).blank (Inside q) (lines_from text (line_end q)))
  ready_then more extends ready =
      let d : Document = document text (source_of old).options more in
      let lines = lines_from text (line_end p) in
      let bare = no_table d.options (tree_of old).nodes (tree_of old).spine ready.frames ready.are_open in
      let is_head = marked.1 ∙ ap (λ (t : Bool). footnote_at t (context_in old) (drop at text)) (sym bare) ∙ found.here in
      let named : NamesLabel more opened.index (label_bytes head.0 (unindented p).rest.left) head.1 = record {
        named = opened.text;
        at = text_last (names_of (allocs_of old)) (names_of (allocs_of new)) more opened.index opened.text opened.last opened.names extends;
        text = opened.label;
        borrowed = λ plain. borrowed_at (unindented p).rest.left here.left (opened.label ∙ plain);
      } in
      let o = note_is_open d (tables_of (allocs_of old)) (state_of old) p lines head opened.index is_at.forest is_head named is_at.none ready in
      let now : PassState = footnote_begun start opened.index (state_of old) in
      rw (opened.added, opened.opened, o.blank)
      (subst (λ (z : Place × List Place). ReadyAt d (with_footnote_label (tables_of (allocs_of old)) head.1) now.tree false (Inside z.0) z.1) (there more)
      o.ready)

  order_then : OrderedIn text (tree_of old) p → OrderedIn text (tree_of new) q
  order_then ordered =
      let a : ℕ = line_or (tree_of old) p.line (offset p) in
      let below : a ≤ offset p = line_or-below (tree_of old) p.line (offset p) (omega arith) in
      let lower = low in
      let mark = marked.0 in
      let later = following.later in
      let now = ordered_note_in text (state_of old) a start opened.index (omega arith) here.within here.boundary is_at.none ordered.1 in (
        following.boundary,
        rw opened.opened (ordered_on text (footnote_begun start opened.index (state_of old)).tree q.line start (offset q)
            (footnote_just_opened start opened.index (state_of old)).plain (omega arith) following.place.within now),
      )

  pub footnote_opened : TriesFootnote old new p q true
  footnote_opened =
      let lower = low in
      let mark = marked.0 in
      let some = found.some in
      let a = place_length text p is_at.place in
      let b = place_length text q following.place in
      let later = following.later in
      let ends = following.ends in
      let line : line_end p ≡ offset p + line_len (drop (offset p) text) = ap (λ bs. offset p + line_len bs) is_at.place.left in
      let stop = line_start_end text (at + n) in
      let far = line_after text (offset p) (at + n) (omega arith) in (
        (following.place, omega arith, omega arith, omega arith),
        omega arith,
        kept.1,
        subst FinishesNothing (sym read.1.opened) (footnote_just_opened at read.1.index (state_of old)),
        λ line under. record {
          kept = record {
            source = kept.0;
            names = more_names;
            named = opened_named opened;
            written = footnote_written text (allocs_of old) (allocs_of new) start head opened.text
                (record { around = context_in old; nested = nested; here = rw mark found.here }) opened.label opened.borrowed opened.tells;
            labels = labels_more (allocs_of old) (allocs_of new) (tree_of old).nodes (tree_of new).nodes opened.index opened.text more_names
                (ap (λ (r : PassState). footnotes_in r.tree.nodes) opened.opened ∙ note_notes start opened.index (state_of old))
                (text_last (names_of (allocs_of old)) (names_of (allocs_of new)) (names_of (allocs_of new)) opened.index opened.text opened.last
                opened.names (extends_none _)) opened.tells;
            tables = λ h k. rw opened.opened (note_whole (names_of (allocs_of new)) start opened.index (state_of old) is_at.forest
                (more_whole (names_of (allocs_of new)) (names_of (allocs_of old)) (tree_of old) more_names h k));
          };
          ready = ready_then;
          order = order_then;
          node_bound = λ first grows. let one = note_count start opened.index (state_of old) in rw opened.opened (omega arith);
        },
      )
