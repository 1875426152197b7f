-- How link reference definitions are read one after the other, and that each is written in the text.
use Rattle.std.proofs.Common.{◌≡◌, ℕ, ◌+◌, Bool, List, [], ◌∷◌, map, drop, Option, Some, IfSome, refl, sym, ap, subst, ◌∙◌, All, inl, inr, ◌-◌, ◌<◌, ◌||◌, true}
use Rattle.std.proofs.Common.{false, length, slice_index, None, IsSomeAnd, MatchOption, IsUtf8, IsCharBoundary, arith, if◌then◌else◌, ◌≤◌, ◌++◌, append_assoc}
use Rattle.std.proofs.Common.{append-nil, option_map, true≢false, get_or-drop}
use Rattle.first_pass_grammar.proofs.Common.{All-nil, CowStr, LinkDef, in_table, Context, front, reference_definition_at, LinkReference, link_definition_at}
use Rattle.first_pass_grammar.proofs.Common.{lines_beyond, ends_run, Ended, FlowsOn, IsRun, Beyond, Tables, no_tables, with_definitions, Borrows, text_of}
use Rattle.first_pass_grammar.proofs.Common.{footnote_at, label_bytes, cases_lt, drop_all, is_line_end, line_len, begins, Rest, Place, offset, line_rest}
use Rattle.first_pass_grammar.proofs.Common.{IsPlaceOf, line_place, place_at, line_end, unescaped, all_taken, is_blank_rest, unindented, is_ordinary_after_tag}
use Rattle.first_pass_grammar.proofs.Common.{left_bracket, line_len-within, lines_at-line, lines_at-end, LinkEntry, lines_from}
use Rattle.first_pass_blocks.proofs.Common.{Allocations, tables_of, link_entry, IsReference, TablesAreWritten, context_in, source_text, tree_of, told_none}
use Rattle.first_pass_blocks.proofs.Common.{line_stops, PutsDefinitions, ReadsRun, IsLater, text_place, Container, Source, PassState, context_of, source_of}
use Rattle.first_pass_blocks.proofs.Common.{state_of, BlockPass, Entries, entries, with_definition, AddsFootnote, footnote_label, refdefs_of, footdefs_of}
use Rattle.first_pass_blocks.proofs.Common.{lines_after_it, IsFootnoteWritten, AreFootnotesWritten, tag_end}
use Rattle.first_pass_grammar.specs.LinkRuns.{reference_places, entry_of}
use Rattle.first_pass_names.proofs.LinkLemmas.{each_first}
use Rattle.first_pass_definitions.specs.Found.{BorrowsLabel, HasParts, IsWritten, AreWritten, HasTitle}
use Rattle.first_pass_definitions.proofs.ReferenceFacts.{reference_last}
use Rattle.first_pass_completion.proofs.Extending.{told-append}
use Rattle.first_pass_definitions.proofs.Targets.{no_bracket}
use Rattle.first_pass_blocks.specs.declared.definition.RunEnd.TheVariants.{NextLine, Paragraph}

-- The definitions from one place to another are read, and the tables have what they define. Together with them, every
-- run from the second place on is a run from the first. This holds if no table is open.
pub record RunSoFar (text : List ℕ) (around : Context) (nested : Bool) (p q : Place) (before now : Tables) : Type 0 where
  pub stands : IsPlaceOf text q
  pub later : IsLater text p q
  pub ends : line_end p ≤ line_end q
  pub definitions : List LinkEntry
  pub defined : nested ≡ false → now ≡ with_definitions before definitions
  pub continues : nested ≡ false → (more : List LinkEntry) (beyond : Beyond)
      → IsRun around q (lines_from text (line_end q)) more beyond → IsRun around p (lines_from text (line_end p)) (definitions ++ more) beyond

-- nothing is put into the table, or read, at the start
pub puts_none : (pass : BlockPass) → PutsDefinitions pass pass
puts_none pass = record { source = refl; front = refl; state = refl; names = refl; footnotes = refl; written = λ h. h }

pub run_begun : {text : List ℕ} {around : Context} {nested : Bool} {p : Place} {tables : Tables}
    → IsPlaceOf text p → RunSoFar text around nested p p tables tables
run_begun {tables = tables} i = record {
  stands = i;
  later = inl (refl, omega arith);
  ends = omega arith;
  definitions = [];
  defined = λ open_none. sym (told_none tables);
  continues = λ open_none more beyond run. run;
}

-- no definition is at a place
pub defined_none : (text : List ℕ) (around : Context) (q : Place)
    → IsPlaceOf text q → reference_definition_at false around (drop (offset q) text) ≡ None → link_definition_at around q ≡ None
defined_none text around q i is = ap (option_map (entry_of (offset q))) (ap (reference_definition_at false around) i.left ∙ is)

-- A definition is read at a place: its end, and the next line after it. If no table is open, this is its entry.
pub record IsOneMore (text : List ℕ) (around : Context) (nested : Bool) (q : Place) (entry : LinkEntry) (next : ℕ) : Type 0 where
  pub last : ℕ
  pub less : offset q < last
  pub within : last ≤ length text
  pub no_end : is_line_end (slice_index text (last - 1)) ≡ false
  pub next_is : next ≡ last + line_len (drop last text)
  pub boundary : IsCharBoundary text next
  pub here : nested ≡ false → link_definition_at around q ≡ Some entry
  pub ends : entry.«end» ≡ last

-- The definitions from a place to another are read, and one more at the second place. The tables have what they define, if
-- no table is open.
pub record RunWithOne (text : List ℕ) (around : Context) (nested : Bool) (p : Place) (next : ℕ) (before now : Tables) : Type 0 where
  pub place : Place
  pub mid : Tables
  pub entry : LinkEntry
  pub so_far : RunSoFar text around nested p place before mid
  pub one : IsOneMore text around nested place entry next
  pub defined : nested ≡ false → now ≡ with_definitions mid (entry ∷ [])

-- the line after it, at the place after the prefixes, at which the next definition is read
abbrev pub text_at : List ℕ → List Container → ℕ → Place
text_at text path next = unindented (place_at next (front path (line_rest (drop next text))))

-- whether a run ends before the first line of these bytes, and the rest of that line after its indentation
abbrev pub stops_at : Context → List ℕ → Bool
stops_at around bs = is_ordinary_after_tag around (line_rest bs) || is_blank_rest (all_taken (front around.path (line_rest bs)))

abbrev pub rest_at : Context → List ℕ → Rest
rest_at around bs = all_taken (front around.path (line_rest bs))

module _ {text : List ℕ} {around : Context} {nested : Bool} {p : Place} {next : ℕ} {before now : Tables}
    (w : RunWithOne text around nested p next before now) where
  -- the tables with one more definition
  told_more : nested ≡ false → now ≡ with_definitions before (w.so_far.definitions ++ w.entry ∷ [])
  told_more plain =
      w.defined plain ∙ ap (λ t. with_definitions t (w.entry ∷ [])) (w.so_far.defined plain) ∙ told-append before w.so_far.definitions (w.entry ∷ [])

  -- the lines after that definition
  lines_after_one : (lines_beyond w.entry.«end» (lines_from text (line_end w.place)) ≡ lines_from text next) × (line_end w.place ≤ next)
  lines_after_one =
      let one = w.one in
      let at = one.next_is in
      let following = lines_after_it text w.place one.last w.so_far.stands one.less one.within one.no_end in
      let low = following.1 in
      (ap (λ n. lines_beyond n (lines_from text (line_end w.place))) one.ends ∙ following.0 ∙ ap (lines_from text) (sym at), omega arith)

  -- One more definition, after which the line continues the run.
  pub run_goes_on : IsUtf8 text → next < length text → stops_at around (drop next text) ≡ false
      → RunSoFar text around nested p (text_at text around.path next) before now
  unfolding IsRun
  run_goes_on u within goes =
      let r = w.so_far in
      let begins : IsCharBoundary text next = w.one.boundary in
      let there = text_place text next around.path u begins in
      let low = lines_after_one.1 in
      let ends = r.ends in
      let some = line_len-within text next within in
      let more = some.0 in
      let x : LinkEntry = w.entry in
      let line : Place = line_place next (drop next text) in
      let left : List Place = lines_from text (next + line_len (drop next text)) in
      let lines : lines_beyond x.«end» (lines_from text (line_end w.place)) ≡ line ∷ left = lines_after_one.0 ∙ lines_at-line text next within in
      let far = there.1 in
      record {
        stands = there.0;
        later = inr (omega arith, begins);
        ends = omega arith;
        definitions = r.definitions ++ x ∷ [];
        defined = told_more;
        continues = λ plain further beyond run.
            subst (λ z. IsRun around p (lines_from text (line_end p)) z beyond) (sym (append_assoc r.definitions (x ∷ []) further))
            (r.continues plain (x ∷ further) beyond (
              w.one.here plain,
              inr (line, left, lines, goes, subst (λ n. IsRun around (text_at text around.path next) (lines_from text n) further beyond) there.1 run),
            ));
      }

  -- One more definition, after which the run ends.
  run_ends_by : (next < length text → stops_at around (drop next text) ≡ true) → ends_run around (lines_from text next) ≡ true
  run_ends_by ends =
      elim (cases_lt next (length text)) [
        | inl within ↦ ap (ends_run around) (lines_at-line text next within) ∙ ends within
        | inr past ↦ (let none : lines_from text next ≡ [] = lines_at-end text next past in ap (ends_run around) none)
      ]

  pub run_ends : (line : ℕ) → line ≡ w.place.line → (next < length text → stops_at around (drop next text) ≡ true)
      → ReadsRun text around nested p before now (NextLine line next)
  unfolding IsRun
  run_ends line here ends =
      let r = w.so_far in
      let after = lines_after_one in
      let low = after.1 in
      record {
        place = w.place;
        stands = r.stands;
        later = r.later;
        ends = r.ends;
        says = (here, omega arith, w.one.boundary);
        definitions = r.definitions ++ w.entry ∷ [];
        defined = told_more;
        run = λ plain. r.continues plain (w.entry ∷ []) (Ended w.place (lines_from text next))
            (w.one.here plain, inl (ap (ends_run around) after.0 ∙ run_ends_by ends, refl, ap (Ended w.place) (sym after.0)));
      }

-- No more definitions: the text of a paragraph begins there.
pub run_flows : {text : List ℕ} {around : Context} {nested : Bool} {p q : Place} {at : ℕ} {before now : Tables}
    → at ≡ offset q → (nested ≡ false → link_definition_at around q ≡ None)
    → RunSoFar text around nested p q before now → ReadsRun text around nested p before now (Paragraph at)
unfolding IsRun
run_flows {text = text} {around = around} {p = p} {q = q} here none r = record {
  place = q;
  stands = r.stands;
  later = r.later;
  ends = r.ends;
  says = here;
  definitions = r.definitions;
  defined = r.defined;
  run = λ plain. subst (λ z. IsRun around p (lines_from text (line_end p)) z (FlowsOn q (lines_from text (line_end q)))) (append-nil r.definitions)
      (r.continues plain [] (FlowsOn q (lines_from text (line_end q))) (none plain, refl));
}

-- No definition begins without a `[`.
pub run_is_empty : (text : List ℕ) (around : Context) (nested : Bool) (p : Place) (at : ℕ) (tables : Tables) → IsPlaceOf text p → at ≡ offset p
    → begins left_bracket (drop at text) ≡ false → ReadsRun text around nested p tables tables (Paragraph at)
run_is_empty text around nested p at tables i is other =
    run_flows is
    (λ plain. defined_none text around p i
    (ap (λ (n : ℕ). reference_definition_at false around (drop n text)) (sym is) ∙ no_bracket false around (drop at text) other))
    (run_begun i)

-- ---- a link reference definition that is found is one more in its run, and is written in the text

-- what was found is there, and nothing is there if nothing was found
pub found_by : {A B : Type 0} (o : Option B) (answer : Option A) (found : A) (N : Type 0) (P : B → A → Type 0)
    → MatchOption o N (λ x. IsSomeAnd answer (P x)) → (N → answer ≡ None) → answer ≡ Some found → (x : B) × (o ≡ Some x) × P x found
found_by {A} {B} None answer found N P h none is = (let z : Some found ≡ None = sym is ∙ none h in cc)
found_by {A} {B} (Some x) answer found N P h none is = (x, refl, subst (λ z. IsSomeAnd z (P x)) is h)

pub none_by : {A B : Type 0} (o : Option B) (answer : Option A) (N : Type 0) (P : B → A → Type 0) → MatchOption o N (λ x. IsSomeAnd answer (P x))
    → answer ≡ None → (o ≡ None) × N
none_by {A} {B} None answer N P h is = (refl, h)
none_by {A} {B} (Some x) answer N P h is = absurd (subst (λ z. IsSomeAnd z (P x)) is h)

-- a definition as an entry of the table
title_is : (t : Option (List ℕ)) (f : Option CowStr) → HasTitle false t f → option_map text_of f ≡ option_map (unescaped false) t
title_is None None h = refl
title_is None (Some f) h = absurd h
title_is (Some t) None h = absurd h
title_is (Some t) (Some f) h = ap (λ z. Some z) h.value

entry_is : (at : ℕ) (x : LinkReference) (found : ℕ × CowStr × LinkDef) → IsReference false at x found → link_entry (found.1, found.2) ≡ entry_of at x
entry_is at x found h =
    let dest = h.definition.dest.value in
    let title = title_is x.target.title found.2.title h.definition.title in
    cc

-- A link reference definition is at an offset. This is its length, which is not 0, and its entry, and it ends at a character
-- boundary.
pub record ReferenceFound (text : List ℕ) (around : Context) (nested : Bool) (at : ℕ) (found : ℕ × CowStr × LinkDef) : Type 0 where
  pub reference : LinkReference
  pub here : reference_definition_at nested around (drop at text) ≡ Some reference
  pub says : IsReference nested at reference found
  pub some : 0 < found.0
  pub boundary : IsCharBoundary text (at + found.0)

-- The definition that was found is one more.
pub one_more : {text : List ℕ} {around : Context} {nested : Bool} {q : Place} {at : ℕ} {found : ℕ × CowStr × LinkDef} {next : ℕ}
    → IsUtf8 text → IsPlaceOf text q → offset q ≡ at → ReferenceFound text around nested at found
    → next ≡ at + found.0 + line_len (drop (at + found.0) text) → IsOneMore text around nested q (link_entry (found.1, found.2)) next
one_more {text = text} {around = around} {nested = nested} {q = q} {at = at} {found = found} u i there f next_is =
    let x : LinkReference = f.reference in
    let some = f.some in
    let ends = reference_last nested around (drop at text) x f.here in
    let size : found.0 ≡ x.size = f.says.size in
    let last_is : at + (x.size - 1) ≡ at + found.0 - 1 = omega arith in
    record {
      last = at + found.0;
      less = omega arith;
      within = f.boundary.0;
      no_end = ap is_line_end (ap (slice_index text) (sym last_is) ∙ sym (get_or-drop at text (x.size - 1) 0)) ∙ ends.1;
      next_is = next_is;
      boundary = subst (IsCharBoundary text) (sym next_is) (line_stops text (at + found.0) u f.boundary);
      here = λ plain.
          ap (option_map (entry_of (offset q))) (ap (reference_definition_at false around) i.left
          ∙ ap (λ n. reference_definition_at false around (drop n text)) there ∙ (rw plain at f.here))
          ∙ ap (λ n. Some (entry_of n x)) there ∙ ap (λ z. Some z) (sym (entry_is at x found (rw plain at f.says)));
      ends = f.says.definition.end_is ∙ ap (λ n. at + n) (sym size);
    }

-- the result of a pass for the definition at an offset
abbrev AnswersIn : Source → PassState → ℕ → Option (ℕ × CowStr × LinkDef) → Type 0
AnswersIn source r at answer =
    (let nested : Bool = in_table r.tree.nodes r.tree.spine in
    MatchOption (reference_definition_at nested (context_of source.options r.tree) (drop at source.text.now)) (answer ≡ None)
    (λ x. IsSomeAnd answer (IsReference nested at x)))

abbrev pub Answers : BlockPass → ℕ → Option (ℕ × CowStr × LinkDef) → Type 0
Answers pass = AnswersIn (source_of pass) (state_of pass)

-- the same for a pass with the same text and the same open blocks
pub same_answers : (first now : BlockPass) (at : ℕ) (answer : Option (ℕ × CowStr × LinkDef)) → PutsDefinitions first now → Answers now at answer
    → Answers first at answer
same_answers first now at answer kept said = subst (λ (s : Source). AnswersIn s (state_of first) at answer) kept.source
    (subst (λ (r : PassState). AnswersIn (source_of now) r at answer) kept.state said)

pub found_here : (first now : BlockPass) (at : ℕ) (answer : Option (ℕ × CowStr × LinkDef)) (found : ℕ × CowStr × LinkDef)
    → PutsDefinitions first now → Answers now at answer → IfSome answer (λ f. (0 < f.0) × IsCharBoundary (source_text now) (at + f.0))
    → answer ≡ Some found → ReferenceFound (source_text first) (context_in first) (in_table (tree_of first).nodes (tree_of first).spine) at found
found_here first now at answer found kept said fits is =
    let w = found_by _ answer found (answer ≡ None) (IsReference (in_table (tree_of first).nodes (tree_of first).spine) at)
    (same_answers first now at answer kept said) (λ none. none) is in
    let ends = rw is at fits in
    record {
      reference = w.0;
      here = w.1;
      says = w.2;
      some = ends.0;
      boundary = subst (λ (s : Source). IsCharBoundary s.text.now (at + found.0)) kept.source ends.1;
    }

-- whether the next line continues the run, from the result of the call
pub stops_by : (t : Bool) (x : Rest) (o : Option Rest) → o ≡ (if t then None else Some x) → o ≡ None → t ≡ true
stops_by true x o h is = refl
stops_by false x o h is = cc

pub goes_by : (t : Bool) (x r : Rest) (o : Option Rest) → o ≡ (if t then None else Some x) → o ≡ Some r → (t ≡ false) × (r ≡ x)
goes_by true x r o h is = cc
goes_by false x r o h is = (refl, cc)

-- A line that continues a run exists.
pub line_is_there : (text : List ℕ) (around : Context) (next : ℕ) → stops_at around (drop next text) ≡ false → next < length text
line_is_there text around next goes =
    elim (cases_lt next (length text)) [
      | inl within ↦ within
      | inr past ↦ (let none : stops_at around (drop next text) ≡ true =
          ap (stops_at around) (drop_all next text past) ∙ ap (λ t. t || is_blank_rest (all_taken (front around.path (line_rest [])))) (tag_end around) in
          absurd (true≢false (sym none ∙ goes)))
    ]

-- ---- each definition in a table is written in the text

-- a table with no entry
none_of : {A B : Type 0} (P : A → Type 0) (f : A → B) (es : List A) → map f es ≡ [] → All P es
none_of P f [] none = All-nil P
none_of P f (e ∷ es) none = cc

pub none_written : (text : List ℕ) (a : Allocations) → tables_of a ≡ no_tables → TablesAreWritten text a
none_written text a none = (
  none_of (IsWritten text) link_entry (refdefs_of a) (ap (λ (t : Tables). t.links) none),
  none_of (IsFootnoteWritten text) footnote_label (footdefs_of a) (ap (λ (t : Tables). t.footnotes) none),
)

-- the entries of both tables are written in the text
abbrev EntriesAreWritten : List ℕ → Entries → Type 0
EntriesAreWritten text es = AreWritten text es.links × AreFootnotesWritten text es.footnotes

-- unchanged entries stay so
pub written_stay : (text : List ℕ) (old new : Allocations) → entries new ≡ entries old → TablesAreWritten text old → TablesAreWritten text new
written_stay text old new same each = subst (EntriesAreWritten text) (sym same) each

-- one more link definition
pub one_written : (text : List ℕ) (old new : Allocations) (label : CowStr) (definition : LinkDef)
    → entries new ≡ with_definition (entries old) label definition → IsWritten text (label, definition)
    → TablesAreWritten text old → TablesAreWritten text new
one_written text old new label definition is one each =
    subst (EntriesAreWritten text) (sym is) (each_first (IsWritten text) label definition one (refdefs_of old) each.0, each.1)

-- The head of a footnote definition is at an offset, read in the lines of some containers, inside a table or not.
pub record HeadAt (text : List ℕ) (start : ℕ) (head : ℕ × List ℕ) : Type 0 where
  pub around : Context
  pub nested : Bool
  pub here : footnote_at nested around (drop start text) ≡ Some head

-- one more footnote, whose label is a copy of that of a head
pub footnote_written : (text : List ℕ) (old new : Allocations) (start : ℕ) (head : ℕ × List ℕ) (label : CowStr) → HeadAt text start head
    → text_of label ≡ head.1
    → (text_of label ≡ label_bytes head.0 (drop start text) → Borrows (label_bytes head.0 (drop start text)) label)
    → AddsFootnote (entries old) (entries new) label → TablesAreWritten text old → TablesAreWritten text new
footnote_written text old new start head label begins is borrowed tells each =
    let same = tells.is_copy.same in
    let one : IsFootnoteWritten text (tells.copy, record { use_count = 0 }) = record {
      around = begins.around;
      nested = begins.nested;
      start = start;
      head = head;
      here = begins.here;
      label = same ∙ is;
      borrowed = λ plain. tells.is_copy.borrowed (label_bytes head.0 (drop start text)) (borrowed (sym same ∙ plain));
      unused = refl;
    } in
    subst (EntriesAreWritten text) (sym tells.added)
    (each.0, each_first (IsFootnoteWritten text) tells.copy (record { use_count = 0 }) one (footdefs_of old) each.1)

-- the definition that was found at an offset
pub written_here : (pass : BlockPass) (at : ℕ) (answer : Option (ℕ × CowStr × LinkDef)) (found : ℕ × CowStr × LinkDef) → Answers pass at answer
    → IfSome answer (λ f. BorrowsLabel (context_in pass) (in_table (tree_of pass).nodes (tree_of pass).spine) (drop (at + 1) (source_text pass)) f.1)
    → IfSome answer (λ f. HasParts (source_text pass) f.2) → answer ≡ Some found
    → IsWritten (source_text pass) (found.1, found.2)
written_here pass at answer found said borrowed parts is =
    let text = source_text pass in
    let around = context_in pass in
    let nested = in_table (tree_of pass).nodes (tree_of pass).spine in
    let (x, here, h) = found_by _ answer found (answer ≡ None) (IsReference nested at) said (λ none. none) is in
    let d = h.definition in
    let back = sym d.start_is in
    record {
      around = around;
      in_table = nested;
      reference = x;
      here = subst (λ n. reference_definition_at nested around (drop n text) ≡ Some x) back here;
      says = record {
        size = refl;
        label = h.label;
        definition = record {
          dest = d.dest;
          title = d.title;
          start_is = refl;
          end_is = d.end_is ∙ ap (λ n. n + x.size) back;
          places_are = d.places_are ∙ ap (λ n. reference_places n x) back;
        };
      };
      borrowed = subst (λ n. BorrowsLabel around nested (drop (n + 1) text) found.1) back (rw is at borrowed);
      parts = rw is at parts;
    }
