use Rattle.std.proofs.Common.{◌≡◌, ℕ, ◌+◌, ◌<◌, false, true, ◌++◌, ◌∷◌, [], Some, length, drop, IsCharBoundary, refl, sym, ap, ◌∙◌, arith}
use Rattle.std.proofs.Common.{string_bytes}
use Rattle.first_pass_grammar.proofs.Common.{list_any, IsCharBoundary-start, IsCharBoundary-after_ascii, line_feed, on_err, is_line_end, begins}
use Rattle.first_pass_grammar.proofs.Common.{unescaped_upto, first_byte, title_prefix}
use Rattle.std.proofs.lemmas.Str.{encode_ascii}
use Rattle.first_pass_links.specs.Units.{part}
use Rattle.first_pass_links.proofs.Parts.{of_text}
use Rattle.first_pass_open.specs.Path.{context_of}
use Rattle.first_pass_definitions.specs.Reading.{stops_title_line, goes_on_at}
use Rattle.first_pass_definitions.proofs.Titles.{TitleLine, after_nothing, whole_title, stop_place, title_found, no_title, title_further, any_last, closes-low}
use Rattle.first_pass_definitions.proofs.Asks.{asks_at, goes_asks, table_asks}
use Rattle.first_pass_definitions.proofs.title.scan_title_text.Goals as goal
use Rattle.first_pass_definitions.proofs.title.scan_title_text.Goals.{After-begins, In-Some}

pub loop-bytes-init : goal.loop-bytes-init
loop-bytes-init c =
    record {
      boundary = IsCharBoundary-start c.args.text.now c.utf8.text;
      nothing = λ h. c.new-written.ensures.bytes;
      lines = λ l. absurd (omega arith);
      asked = λ l. absurd (omega arith);
      title = rw c.new-written.ensures.bytes
          (after_nothing _ ∙ whole_title (title_prefix (context_of c.args.source.now.options c.args.tree.now)) c.args.close c.args.text.now);
    }

-- the offset at which the line stops
line_stops : (c : After-begins)
    → c.loop-bytes.from + c.scan_title_line.result
    ≡ c.loop-bytes.from + unescaped_upto (stops_title_line c.args.close) 0 (drop c.loop-bytes.from c.args.text.now)
line_stops c =
    ap (λ k. c.loop-bytes.from + k) (of_text (unescaped_upto (stops_title_line c.args.close) 0) _ c.scan_title_line.ensures.value c.rest_of.ensures.value
    c.as_bytes-bytes.ensures.value)

stop_is : (c : After-begins) → c.begins.result ≡ begins c.args.close (drop (c.loop-bytes.from + c.scan_title_line.result) c.args.text.now)
stop_is c = of_text (begins c.args.close) _ c.begins.ensures.value c.rest_of-in-loop-bytes.ensures.value c.as_bytes-bytes.ensures.value

stop_at : (c : After-begins) → IsCharBoundary c.args.text.now (c.loop-bytes.from + c.scan_title_line.result)
stop_at c =
    let w = c.scan_title_line.ensures.within in
    let l = c.rest_of.ensures.whole in
    let b = ap length c.as_bytes-bytes.ensures.value in
    stop_place c.args.close c.loop-bytes.from (c.loop-bytes.from + c.scan_title_line.result) c.args.text.now c.requires.close (line_stops c) (omega arith)

-- the line, after the bytes that are written
line_of : (c : After-begins) → TitleLine (title_prefix (context_of c.args.source.now.options c.args.tree.now)) c.args.close c.loop-bytes.from
    (c.loop-bytes.from + c.scan_title_line.result) (string_bytes c.loop-bytes.written) c.args.text.now
line_of c = record { closes = c.requires.close; title = c.loop-bytes.invariant.title; stop = line_stops c }

pub returns-then-begins-clause-value : goal.returns-then-begins-clause-value
returns-then-begins-clause-value c =
    let at = (goal.at.returns-then-begins-clause-value c).After-begins in
    rw (title_found (line_of at) (sym (stop_is at) ∙ c.if-begins.true)) (refl, c.in_ok-finish.ensures.value)

pub returns-then-begins-clause-fits : goal.returns-then-begins-clause-fits
returns-then-begins-clause-fits c =
    let there = first_byte c.args.close c.args.text.now (c.loop-bytes.from + c.scan_title_line.result)
    (sym (stop_is (goal.at.returns-then-begins-clause-fits c).After-begins) ∙ c.if-begins.true) in
    let low = closes-low c.args.close c.requires.close in
    (omega arith, IsCharBoundary-after_ascii c.args.text.now (c.loop-bytes.from + c.scan_title_line.result) c.utf8.text there.0 (omega (arith, there.1, low)))

pub scan_title_break-requires-clause-at : goal.scan_title_break-requires-clause-at
scan_title_break-requires-clause-at c =
    rw c.as_bytes-bytes.ensures.value (stop_at (goal.at.scan_title_break-requires-clause-at c).After-begins)

pub returns-in_default-clause-value : goal.returns-in_default-clause-value
returns-in_default-clause-value c =
    let at = (goal.at.returns-in_default-clause-value c).After-begins in
    rw (no_title (line_of at) (sym (stop_is at) ∙ c.if-begins.false)
    (rw c.as_bytes-bytes.ensures.value at (sym c.in_default.is ∙ c.in_ok-next.ensures.value))) refl

-- the offset at which the title continues after a line ending
next_is : (c : In-Some) → Some c.in-Some.next
    ≡ goes_on_at (title_prefix (context_of c.args.source.now.options c.args.tree.now)) c.args.text.now (c.loop-bytes.from + c.scan_title_line.result)
next_is c = rw c.as_bytes-bytes.ensures.value at (sym c.in-Some.is ∙ c.in_ok-next.ensures.value)

pub loop-bytes-preserved : goal.loop-bytes-preserved
loop-bytes-preserved c =
    let at = (goal.at.loop-bytes-preserved c).After-begins in
    let text = c.args.text.now in
    let stop : ℕ = c.loop-bytes.from + c.scan_title_line.result in
    let place : (stop < c.in-Some.next) × IsCharBoundary text c.in-Some.next =
    rw c.as_bytes-bytes.ensures.value at (rw c.in-Some.is at c.in_ok-next.ensures.place) in
    let inside = place.1.0 in
    let further = place.0 in
    let plain = rw c.as_bytes-bytes.ensures.value at (rw c.in-Some.is at c.in_ok-next.ensures.texts) in
    let k = next_is (goal.at.loop-bytes-preserved c).In-Some in
    let written : string_bytes c.push.new.self ≡ (string_bytes c.loop-bytes.written ++ part text c.loop-bytes.from stop) ++ line_feed ∷ [] =
    c.in_ok-push.ensures.bytes ∙ ap (λ xs. string_bytes c.push_str.new.self ++ xs) (encode_ascii line_feed (omega arith))
    ∙ ap (λ xs. xs ++ line_feed ∷ []) (c.in_ok-push_str.ensures.bytes ∙ ap (λ xs. string_bytes c.loop-bytes.written ++ xs) c.range.ensures.value)
    in
    record {
      boundary = place.1;
      nothing = λ h. absurd (omega arith);
      lines = λ l. ap (list_any is_line_end) written ∙ any_last (string_bytes c.loop-bytes.written ++ part text c.loop-bytes.from stop);
      asked = λ l. goes_asks (context_of c.args.source.now.options c.args.tree.now) c.args.close c.loop-bytes.from stop c.in-Some.next text
          c.loop-bytes.invariant.asked (line_stops at) (sym k);
      title = rw written (title_further c.in-Some.next (line_of at) (omega arith) k plain);
    }

-- the title continues over a line ending, or may
pub returns-in_err-next-clause-err : goal.returns-in_err-next-clause-err
returns-in_err-next-clause-err c =
    let at = (goal.at.returns-in_err-next-clause-err c).After-begins in
    let around = context_of c.args.source.now.options c.args.tree.now in
    let stop : ℕ = c.loop-bytes.from + c.scan_title_line.result in
    on_err c.from_residual-in_err-next.result
    (asks_at around c.args.close c.loop-bytes.from stop c.args.text.now c.loop-bytes.invariant.asked (line_stops at)
    (table_asks around c.args.text.now stop _ (rw c.as_bytes-bytes.ensures.value at c.in_err-next.ensures.err)))

pub returns-in_err-push_str-clause-err : goal.returns-in_err-push_str-clause-err
returns-in_err-push_str-clause-err c = grind (arith, on_err, goes_asks, line_stops, next_is)

pub returns-in_err-push-clause-err : goal.returns-in_err-push-clause-err
returns-in_err-push-clause-err c = grind (arith, on_err, goes_asks, line_stops, next_is)
