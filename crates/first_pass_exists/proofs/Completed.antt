-- Open nodes can always be completed, and each text has a derivation.
use Rattle.std.proofs.Common.{◌≡◌, ℕ, suc, Bool, false, List, [], ◌∷◌, length, refl, sym, subst, arith}
use Rattle.first_pass_grammar.proofs.Common.{Item, Options, Place, lines_at, Names, Extends, is_quote, Document, document, Continues, Line, level, Remaining}
use Rattle.first_pass_grammar.proofs.Common.{Lines, InLine, onward, end_before, IsSequence, Before, nothing, after_container, before_end, ItemsOf, Rows}
use Rattle.first_pass_grammar.proofs.Common.{any_gap, rows_of, Tables, Derives, no_tables, with_all_of, root_of, items_of, OneList, Unfinished, Further}
use Rattle.first_pass_grammar.proofs.Common.{AreFurther, rows_beyond, rendered, Frame, InContainer, InList, InDefinitions, definitions_open, containers_of}
use Rattle.first_pass_grammar.proofs.Common.{loosened, container_closed, Becomes, Completes}
use Rattle.first_pass_grammar.specs.declared.kind.Container.{Container}
use Rattle.first_pass_grammar.specs.Completion.{rows_on, CanGoOn, Completion}
use Rattle.first_pass_exists.proofs.Found.{Found, found_also, found_then}
use Rattle.first_pass_grammar.proofs.Names.MoreNames.{extends_none}
use Rattle.first_pass_grammar.proofs.Sequences.Finishes.{containers-loosened}
use Rattle.first_pass_exists.proofs.SequencesFound.{sequence_found}

pub line_goes_on : (path : List Container) → CanGoOn path Line
line_goes_on [] = refl
line_goes_on (c ∷ path) = tt

onward_goes_on : (path : List Container) (left : Remaining) → CanGoOn path (onward left).0
onward_goes_on [] (Lines lines) = refl
onward_goes_on [] (InLine p lines) = refl
onward_goes_on (c ∷ path) left = tt

-- the remaining parts of the containers of a path
further_found : (text : List ℕ) (options : Options) (names : Names) (path : List Container) (before : Before) (from : Continues) (lines : List Place)
    → CanGoOn path from → Found names (List Further) (λ later further. AreFurther (document text options later) path before from lines further)
unfolding AreFurther
further_found text options names [] before from lines can =
    let s = sequence_found text options names (level [] before) from lines in
    let all : s.value.left ≡ Lines [] = s.value.ends refl can in
    found_also s (record { blocks = s.value.blocks; «end» = length text } ∷ [])
    (λ later is. (subst (λ z. IsSequence (document text options later) s.value.blocks (level [] before) from lines z) all is, refl))
further_found text options names (c ∷ path) before from lines can =
    let f = sequence_found text options names (level (c ∷ path) before) from lines in
    let s = f.value in
    let now : Before = after_container c (before_end (is_quote c) before s.blocks) in
    let outer = further_found text options f.more path now (onward s.left).0 (onward s.left).1 (onward_goes_on path s.left) in
    found_also (found_then f outer) (record { blocks = s.blocks; «end» = end_before (length text) path from s.left } ∷ outer.value)
    (λ later is. (s.left, is.0, refl, is.1))

-- the state becomes a forest with these remaining parts
length-loosened : (gap : Bool) (frames : List Frame) → length (loosened gap frames) ≡ length frames
length-loosened gap (InContainer c ∷ frames) = refl
length-loosened gap frames = refl

becomes_some : (d : Document) (frames : List Frame) (places : List ℕ) (w : Unfinished) (further : List Further) (from : Continues) (lines : List Place)
    → length frames ≡ length places → AreFurther d (containers_of frames) w.before from lines further
    → (forest : List (ℕ × Item)) × (tables : Tables) × Becomes frames places w further forest tables
unfolding AreFurther Becomes
becomes_some d [] [] w [] from lines size are = absurd are
becomes_some d [] [] w (f ∷ []) from lines size are = (rendered 1 f.«end» w.nodes w.list (rows_on false w f), with_all_of w.defined f.blocks, (refl, refl))
becomes_some d [] [] w (f ∷ g ∷ more) from lines size are = absurd are
becomes_some d [] (place ∷ places) w further from lines size are = absurd (omega arith)
becomes_some d (frame ∷ frames) [] w further from lines size are = absurd (omega arith)
becomes_some d (InList byte loose ∷ frames) (place ∷ places) w further from lines size are =
    let inside : Unfinished = record { nodes = w.nodes; list = OneList place (ItemsOf byte) loose; before = w.before; defined = w.defined } in
    becomes_some d frames places inside further from lines (omega arith) are
becomes_some d (InDefinitions loose ∷ frames) (place ∷ places) w further from lines size are =
    let inside : Unfinished = record { nodes = w.nodes; list = definitions_open place loose w.list; before = w.before; defined = w.defined } in
    becomes_some d frames places inside further from lines (omega arith) are
becomes_some d (InContainer c ∷ frames) (place ∷ places) w [] from lines size are = absurd are
becomes_some d (InContainer c ∷ frames) (place ∷ places) w (f ∷ further) from lines size (left, sequence, ends, are) =
    let rows : Rows = rows_on (is_quote c) w f in
    let gap : Bool = any_gap (rows_beyond w.list rows) in
    let now : Unfinished = container_closed c (suc (length (place ∷ places))) place w f rows in
    becomes_some d (loosened gap frames) places now further (onward left).0 (onward left).1 (omega (arith, length-loosened gap frames))
    (subst (λ (path : List Container). AreFurther d path now.before (onward left).0 (onward left).1 further) (sym (containers-loosened gap frames)) are)

pub completion_found : (d : Document) (frames : List Frame) (places : List ℕ) (w : Unfinished) (from : Continues) (lines : List Place)
    → length frames ≡ length places → CanGoOn (containers_of frames) from → Completion d frames places w from lines
completion_found d frames places w from lines size can =
    let further = further_found d.text d.options d.names (containers_of frames) w.before from lines can in
    let taken = further.holds further.more (extends_none further.more) in
    let becomes = becomes_some (document d.text d.options further.more) frames places w further.value from lines size taken in
    record {
      names = further.more;
      extends = further.extends;
      further = further.value;
      forest = becomes.0;
      tables = becomes.1;
      taken = taken;
      becomes = becomes.2;
    }

pub completion_derives : (d : Document) (frames : List Frame) (places : List ℕ) (w : Unfinished) (from : Continues) (lines : List Place)
    → length frames ≡ length places → CanGoOn (containers_of frames) from
    → ((more : Names) → Extends more d.names → Completes (document d.text d.options more) frames places w from lines)
    → (c : Completion d frames places w from lines) × Derives (document d.text d.options c.names) c.forest c.tables
completion_derives d frames places w from lines size can ready =
    let c = completion_found d frames places w from lines size can in
    (c, (ready c.names c.extends).whole c.further c.forest c.tables c.taken c.becomes)

-- a whole text has a derivation
pub text_derives : (text : List ℕ) (options : Options) (names : Names)
    → (more : Names) × (forest : List (ℕ × Item)) × (tables : Tables) × Extends more names × Derives (document text options more) forest tables
text_derives text options names =
    let top = level [] nothing in
    let f = sequence_found text options names top Line (lines_at 0 text) in
    let s = f.value in
    let is : IsSequence (document text options f.more) s.blocks top Line (lines_at 0 text) s.left = f.holds f.more (extends_none f.more) in (
      f.more,
      root_of (length text) ∷ items_of 1 false (rows_of false nothing (length text) s.blocks),
      with_all_of no_tables s.blocks,
      f.extends,
      record {
        skeleton = s.blocks;
        sequence = subst (λ z. IsSequence (document text options f.more) s.blocks top Line (lines_at 0 text) z) (s.ends refl refl) is;
        forest_is = refl;
        tables_are = refl;
      },
    )
