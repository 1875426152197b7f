use Rattle.std.proofs.Common.{◌≡◌, ℕ, ◌+◌, List, drop, None, Some, false, IsCharBoundary, refl, sym, ap, subst, ◌∙◌, if◌then◌else◌, Option}
use Rattle.first_pass_grammar.proofs.Common.{CowStr, LinkDef, line_len, Place, offset, IsPlaceOf, in_table, Rest, reference_definition_at, Context}
use Rattle.first_pass_blocks.proofs.Common.{Source, text_place, tables_of, link_entry, IsReference, context_in, line_stops, PutsDefinitions, BlockPass, Entries}
use Rattle.first_pass_blocks.proofs.LinkDefinitions.{one_written, written_here, none_by, found_here, one_more, stops_by, goes_by, line_is_there, ReferenceFound}
use Rattle.first_pass_blocks.proofs.LinkDefinitions.{run_begun, run_flows, run_ends, run_goes_on, defined_none, text_at, RunWithOne, stops_at, rest_at}
use Rattle.first_pass_blocks.proofs.LinkDefinitions.{puts_none, same_answers}
use Rattle.first_pass_definitions.specs.Found.{IsWritten}
use Rattle.first_pass_blocks.proofs.state.BlockPass.parse_run.Goals.{After-rest_of, In_ok-rest}
use Rattle.first_pass_blocks.proofs.state.BlockPass.parse_run.Goals as goal

pub loop-size-init : goal.loop-size-init
loop-size-init c = record {
  kept = puts_none c.args.self.now;
  boundary = c.requires.boundary;
  so_far = λ p line at i. (p, line, at, run_begun i);
}

pub returns : goal.returns
returns c =
    let first : BlockPass = c.args.self.now in
    let text = first.source.text.now in
    let around = context_in first in
    let nested = in_table first.state.tree.nodes first.state.tree.spine in
    let inv = c.loop-size.invariant in
    let none = (none_by _ c.in_ok-size.field-0 (c.in_ok-size.field-0 ≡ None) (IsReference nested c.loop-size.at)
    (same_answers first c.loop-size.self c.loop-size.at _ inv.kept c.in_ok-size.ensures.value) c.in_default.is).0 in
    record {
      kept = inv.kept;
      run = λ p line at i.
          let r = inv.so_far p line at i in
          run_flows (sym r.2)
          (λ plain. defined_none text around r.0 r.3.stands
          (ap (λ n. reference_definition_at false around (drop n text)) r.2
          ∙ subst (λ z. reference_definition_at z around (drop c.loop-size.at text) ≡ None) plain none)) r.3;
    }

-- the definition that was found is one more
one_put : (c : After-rest_of) → PutsDefinitions c.args.self.now (record c.loop-size.self { allocs = c.define_link.new.self })
one_put c =
    let text = c.args.self.now.source.text.now in
    let now : BlockPass = c.loop-size.self in
    let label = c.in-Some.label in
    let definition = c.in-Some.definition in
    let found : ℕ × CowStr × LinkDef = (c.in-Some.size, label, definition) in
    let kept = c.loop-size.invariant.kept in
    let e = c.in_ok-size.ensures in
    let one = subst (λ (z : Source). IsWritten z.text.now (label, definition)) kept.source
    (written_here now c.loop-size.at c.in_ok-size.field-0 found e.value e.borrowed e.places c.in-Some.is) in
    record {
      source = kept.source;
      front = kept.front;
      state = kept.state;
      names = c.in_ok-define_link.ensures.names ∙ kept.names;
      footnotes = ap (λ (e : Entries). e.footnotes) c.in_ok-define_link.ensures.entries ∙ kept.footnotes;
      written = λ h. one_written text now.allocs c.define_link.new.self label definition c.in_ok-define_link.ensures.entries one (kept.written h);
    }

-- the bytes of the text
abbrev bytes_of : In_ok-rest → List ℕ
bytes_of c = c.args.self.now.source.text.now

-- the bytes of the text from the next line on
abbrev bytes_after : In_ok-rest → List ℕ
bytes_after c = drop c.next_line-next.result (bytes_of c)

text_is : (c : In_ok-rest) → c.as_bytes-bytes.result.now ≡ bytes_of c
text_is c = c.as_bytes-bytes.ensures.value ∙ ap (λ (z : Source). z.text.now) c.loop-size.invariant.kept.source

-- the definition that was found is there
definition_found : (c : In_ok-rest) → ReferenceFound (bytes_of c) (context_in c.args.self.now)
    (in_table c.args.self.now.state.tree.nodes c.args.self.now.state.tree.spine) c.loop-size.at (c.in-Some.size, c.in-Some.label, c.in-Some.definition)
definition_found c =
    let inv = c.loop-size.invariant in
    let e = c.in_ok-size.ensures in
    found_here c.args.self.now c.loop-size.self c.loop-size.at c.in_ok-size.field-0 (c.in-Some.size, c.in-Some.label, c.in-Some.definition)
    inv.kept e.value e.fits c.in-Some.is

-- where the next line begins
next_is : (c : In_ok-rest) → c.next_line-next.result ≡ c.loop-size.at + c.in-Some.size + line_len (drop (c.loop-size.at + c.in-Some.size) (bytes_of c))
next_is c =
    let end = c.loop-size.at + c.in-Some.size in
    c.next_line-next.ensures.value ∙ ap (λ bs. end + line_len (drop end bs)) (text_is c)

next_begins : (c : In_ok-rest) → IsCharBoundary (bytes_of c) c.next_line-next.result
next_begins c = subst (IsCharBoundary (bytes_of c)) (sym (next_is c))
    (line_stops (bytes_of c) (c.loop-size.at + c.in-Some.size) c.requires.utf8 (definition_found c).boundary)

-- with that definition, one more is read in the run that begins at a place
one_read : (c : In_ok-rest) (p : Place) → p.line ≡ c.args.line → offset p ≡ c.args.at → IsPlaceOf (bytes_of c) p
    → (run : RunWithOne (bytes_of c) (context_in c.args.self.now) (in_table c.args.self.now.state.tree.nodes c.args.self.now.state.tree.spine) p
    c.next_line-next.result (tables_of c.args.self.now.allocs) (tables_of c.define_link.new.self))
    × (c.loop-size.line ≡ run.place.line)
one_read c p line at i =
    let r = c.loop-size.invariant.so_far p line at i in (
      record {
        place = r.0;
        mid = tables_of c.loop-size.self.allocs;
        entry = link_entry (c.in-Some.label, c.in-Some.definition);
        so_far = r.3;
        one = one_more c.requires.utf8 r.3.stands r.2 (definition_found c) (next_is c);
        defined = λ plain. c.in_ok-define_link.ensures.tables;
      },
      sym r.1,
    )

-- whether the next line continues the run
abbrev answer_for : Context → List ℕ → Option Rest
answer_for around bs = if stops_at around bs then None else Some (rest_at around bs)

line_answered : (c : In_ok-rest) → c.in_ok-rest.rest ≡ answer_for (context_in c.args.self.now) (bytes_after c)
line_answered c =
    let kept = c.loop-size.invariant.kept in
    (rw (kept.source, kept.state) at c.in_ok-rest.ensures.value)
    ∙ ap (answer_for (context_in c.args.self.now)) (c.rest_of.ensures.value ∙ ap (drop c.next_line-next.result) (text_is c))

pub returns-in_default-rest : goal.returns-in_default-rest
returns-in_default-rest c =
    let here = (goal.at.returns-in_default-rest c).In_ok-rest in
    let around = context_in c.args.self.now in
    record {
      kept = one_put (goal.at.returns-in_default-rest c).After-rest_of;
      run = λ p line at i.
          let w = one_read here p line at i in
          run_ends w.0 c.loop-size.line w.1
          (λ within. stops_by (stops_at around (bytes_after here)) (rest_at around (bytes_after here)) c.in_ok-rest.rest (line_answered here)
          c.in_default-rest.is);
    }

pub loop-size-preserved : goal.loop-size-preserved
loop-size-preserved c =
    let here = (goal.at.loop-size-preserved c).In_ok-rest in
    let text = bytes_of here in
    let next = c.next_line-next.result in
    let around = context_in c.args.self.now in
    let goes = goes_by (stops_at around (bytes_after here)) (rest_at around (bytes_after here)) c.in-Some-rest.rest c.in_ok-rest.rest (line_answered here)
    c.in-Some-rest.is in
    let there = (text_place text next around.path c.requires.utf8 (next_begins here)).0 in
    let place_is : offset (text_at text around.path next) ≡ next + c.bytes_scanned.result =
    ap (λ (z : Rest). next + z.taken) (sym goes.1) ∙ ap (λ n. next + n) (sym c.bytes_scanned.ensures) in
    record {
      kept = one_put (goal.at.loop-size-preserved c).After-rest_of;
      boundary = subst (IsCharBoundary text) place_is there.boundary;
      so_far = λ p line at i. (
        text_at text around.path next,
        refl,
        place_is,
        run_goes_on (one_read here p line at i).0 c.requires.utf8 (line_is_there text around next goes.0) goes.0,
      );
    }
