use Rattle.std.proofs.Common.{◌≡◌, ℕ, true, false, ◌∷◌, [], ◌++◌, List, map, drop, get_or, Some, refl, sym, ap, ◌∙◌, arith}
use Rattle.std.proofs.lemmas.List.{map-append, length-map}
use Rattle.first_pass_items.proofs.ResultFacts.{on_err}
use Rattle.first_pass_attributes.specs.Attributes.{Attributes, is_attribute_word, pair_in, attributes_in}
use Rattle.first_pass_attributes.proofs.AttributeFacts.{same_parts, told-none, told-id, told-class, told-key, begins-mark, begins-other}
use Rattle.first_pass_attributes.proofs.MemoryFacts.{several-class, several-key}
use Rattle.first_pass_attributes.proofs.words.add_word.Goals as goal

pub returns-then-not-is_attribute_word-clause-value : goal.returns-then-not-is_attribute_word-clause-value
returns-then-not-is_attribute_word-clause-value c = grind (arith, told-none)

pub returns-then-mark-eq35-clause-value : goal.returns-then-mark-eq35-clause-value
returns-then-mark-eq35-clause-value c =
    let word : List ℕ = c.args.word.now in
    let tells : is_attribute_word word ≡ true = cc in
    let mark : get_or word 0 0 ≡ 35 = grind arith in
    let id = c.without_mark.ensures in
    same_parts (ap Some id) refl refl
    ∙ sym (told-id (attributes_in c.args.attributes.now) word (drop 1 word) tells (begins-mark 35 word tells mark))

pub returns-then-mark-eq46-clause-value : goal.returns-then-mark-eq46-clause-value
returns-then-mark-eq46-clause-value c =
    let before : Attributes = attributes_in c.args.attributes.now in
    let word : List ℕ = c.args.word.now in
    let class = c.without_mark-then-mark-eq46.result in
    let classes = c.args.attributes.now.classes in
    let tells : is_attribute_word word ≡ true = cc in
    let mark : get_or word 0 0 ≡ 46 = grind arith in
    let added = ap (map (λ text. text.now)) c.in_ok-push.ensures.value ∙ map-append (λ text. text.now) classes (class ∷ []) in
    same_parts refl (added ∙ ap (λ text. map (λ text. text.now) classes ++ text ∷ []) c.without_mark-then-mark-eq46.ensures) refl
    ∙ sym (told-class before word (drop 1 word) tells (begins-mark 46 word tells mark))

pub returns-clause-value : goal.returns-clause-value
returns-clause-value c =
    let before : Attributes = attributes_in c.args.attributes.now in
    let word : List ℕ = c.args.word.now in
    let pair = c.key_and_value.result in
    let pairs = c.args.attributes.now.attrs in
    let tells : is_attribute_word word ≡ true = cc in
    let added = ap (map pair_in) c.in_ok-push-2.ensures.value ∙ map-append pair_in pairs (pair ∷ []) in
    same_parts refl refl (added ∙ ap (λ q. map pair_in pairs ++ q ∷ []) c.key_and_value.ensures)
    ∙ sym (told-key before word tells
    (begins-other 35 word tells (λ e. c.if-mark-eq35.false (grind arith)))
    (begins-other 46 word tells (λ e. c.if-mark-eq46.false (grind arith))))

-- a second class or key
pub returns-in_err-push-clause-err : goal.returns-in_err-push-clause-err
returns-in_err-push-clause-err c =
    let word : List ℕ = c.args.word.now in
    let tells : is_attribute_word word ≡ true = cc in
    let mark : get_or word 0 0 ≡ 46 = grind arith in
    let size = length-map c.args.attributes.now.classes (λ text. text.now) in
    on_err _ (several-class (attributes_in c.args.attributes.now) word (drop 1 word) tells (begins-mark 46 word tells mark)
    (omega (arith, size, c.in_err-push.ensures.err)))

pub returns-in_err-push-2-clause-err : goal.returns-in_err-push-2-clause-err
returns-in_err-push-2-clause-err c =
    let word : List ℕ = c.args.word.now in
    let tells : is_attribute_word word ≡ true = cc in
    let size = length-map c.args.attributes.now.attrs pair_in in
    on_err _ (several-key (attributes_in c.args.attributes.now) word tells
    (begins-other 35 word tells (λ e. c.if-mark-eq35.false (grind arith)))
    (begins-other 46 word tells (λ e. c.if-mark-eq46.false (grind arith)))
    (omega (arith, size, c.in_err-push-2.ensures.err)))
