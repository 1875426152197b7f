use Rattle.std.proofs.Common.{◌≡◌, ℕ, ◌+◌, List, ◌++◌, map, length, sym, ap, ◌∙◌, append_assoc, length-append, arith, append-nil}
use Rattle.first_pass_grammar.proofs.Common.{Range, map-append, on_err}
use Rattle.first_pass_places.specs.declared.attributes.AttributeRanges.{AttributeRanges}
use Rattle.first_pass_places.specs.AttributePlaces.{attribute_place, word_range, word_ranges}
use Rattle.first_pass_places.proofs.WordPlaces.{one_word_range, next_word, no_words}
use Rattle.first_pass_places.proofs.attributes.add_words.Goals as goal

pub loop-from-preserved : goal.loop-from-preserved
loop-from-preserved c =
    let text : List ℕ = c.args.text.now in
    let end : ℕ = c.args.end in
    let from : ℕ = c.loop-from.from in
    let next : ℕ = from + c.scan_word.result in
    let items : List AttributeRanges = c.loop-from.places.items in
    let first : List (Range ℕ) = word_range from next in
    let rest : List (Range ℕ) = word_ranges text (next + 1) end in
    let words : word_ranges text from end ≡ first ++ rest =
    next_word text from end c.scan_word.result c.loop-from-test.true c.requires c.scan_word.ensures.value in
    let size = ap length words ∙ length-append first rest in
    let fewer = c.loop-from.invariant.fewer in
    record {
      added = ap (λ l. l ++ map (attribute_place text) rest) c.in_ok-add_word.ensures.value
          ∙ append_assoc items (map (attribute_place text) first) (map (attribute_place text) rest)
          ∙ ap (λ l. items ++ l) (sym (map-append (attribute_place text) first rest) ∙ ap (map (attribute_place text)) (sym words))
          ∙ c.loop-from.invariant.added;
      fewer = omega (arith, size, fewer);
    }

pub returns-in_err-add_word-clause-err : goal.returns-in_err-add_word-clause-err
returns-in_err-add_word-clause-err c =
    let text : List ℕ = c.args.text.now in
    let end : ℕ = c.args.end in
    let from : ℕ = c.loop-from.from in
    let next : ℕ = from + c.scan_word.result in
    let rest : List (Range ℕ) = word_ranges text (next + 1) end in
    let words : word_ranges text from end ≡ word_range from next ++ rest =
    next_word text from end c.scan_word.result c.loop-from-test.true c.requires c.scan_word.ensures.value in
    let size = ap length words ∙ length-append (word_range from next) rest in
    let one = one_word_range from next c.in_err-add_word.ensures.err in
    let fewer = c.loop-from.invariant.fewer in
    on_err c.from_residual.result (omega (arith, size, one, fewer))

pub returns-clause-value : goal.returns-clause-value
returns-clause-value c =
    let text : List ℕ = c.args.text.now in
    let items : List AttributeRanges = c.loop-from.places.items in
    let none = no_words text c.loop-from.from c.args.end c.loop-from-test.false in
    sym (append-nil items) ∙ ap (λ l. items ++ map (attribute_place text) l) (sym none) ∙ c.loop-from.invariant.added
