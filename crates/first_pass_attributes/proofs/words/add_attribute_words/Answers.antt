use Rattle.std.proofs.Common.{◌≡◌, ℕ, ◌+◌, ◌-◌, ◌<◌, ◌∷◌, [], List, filter, length, take, drop, not, refl, sym, ap, subst, ◌∙◌, arith}
use Rattle.std.specs.List.{prefix_len}
use Rattle.std.proofs.lemmas.List.{take_rest}
use Rattle.first_pass_items.proofs.ResultFacts.{on_err}
use Rattle.first_pass_attributes.specs.Attributes.{Attributes, is_between_words, is_attribute_word, words, with_words, attributes_in}
use Rattle.first_pass_attributes.proofs.AttributeFacts.{with-next}
use Rattle.first_pass_attributes.proofs.MemoryFacts.{several-left}
use Rattle.first_pass_attributes.proofs.WordFacts.{words-next, words-last, word-end, word-start, ahead-long, ahead-next}
use Rattle.first_pass_attributes.proofs.words.add_attribute_words.Goals as goal

pub loop-rest-init : goal.loop-rest-init
loop-rest-init c = record { utf8 = c.utf8.inside_attr_block; left = refl; ahead = c.requires }

pub scan_word_within-end-requires : goal.scan_word_within-end-requires
scan_word_within-end-requires c = ahead-long c.loop-rest.rest.now c.loop-rest.ahead.now c.loop-rest.invariant.ahead

pub range-requires-clause-end_boundary : goal.range-requires-clause-end_boundary
range-requires-clause-end_boundary c = grind (arith, word-end)

pub range_from-rest-requires : goal.range_from-rest-requires
range_from-rest-requires c some = grind (arith, word-start)

pub returns-then-end-rest-clause-value : goal.returns-then-end-rest-clause-value
returns-then-end-rest-clause-value c = grind (arith, words-last)

pub returns-in_err-add_word-clause-err : goal.returns-in_err-add_word-clause-err
returns-in_err-add_word-clause-err c = grind (arith, on_err, several-left)

pub loop-rest-preserved : goal.loop-rest-preserved
loop-rest-preserved c =
    let before : Attributes = attributes_in c.loop-rest.attributes in
    let text : List ℕ = c.loop-rest.rest.now in
    let end : ℕ = c.scan_word_within-end.result in
    let word : List ℕ = take end text in
    let rest : List ℕ = c.range_from-rest.result.now in
    let less : end < length text = grind arith in
    let on : rest ≡ drop (end + 1) text = c.range_from-rest.ensures.value in
    let next = words-next text end
    (c.scan_word_within-end.ensures.value ∙ ap (prefix_len (λ b. not (is_between_words b))) (sym c.loop-rest.invariant.ahead)) less in
    let whole : end - 0 ≡ end = omega arith in
    let added : attributes_in c.add_word.new.attributes ≡ with_words before (filter is_attribute_word (word ∷ [])) =
    c.in_ok-add_word.ensures.value ∙ ap (λ x. with_words before (filter is_attribute_word (x ∷ []))) (c.range.ensures.value ∙ ap (λ n. take n text) whole) in
    record {
      utf8 = c.range_from-rest.utf8;
      left = ap (λ a. with_words a (filter is_attribute_word (words rest))) added
          ∙ sym (with-next before word (words rest))
          ∙ ap (λ bs. with_words before (filter is_attribute_word (word ∷ words bs))) on
          ∙ ap (with_words before) (sym next)
          ∙ c.loop-rest.invariant.left;
      ahead = subst (λ (xs : List ℕ). rest ≡ take (length rest) xs) (sym (take_rest c.loop-rest.ahead.now (end + 1)))
          (subst (λ (bs : List ℕ). bs ≡ take (length bs) (drop (end + 1) c.loop-rest.ahead.now)) (sym on)
          (ahead-next text c.loop-rest.ahead.now end c.loop-rest.invariant.ahead
          (ahead-long text c.loop-rest.ahead.now c.loop-rest.invariant.ahead) less));
    }
