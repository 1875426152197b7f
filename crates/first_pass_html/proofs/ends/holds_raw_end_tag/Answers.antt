use Rattle.std.proofs.Common.{◌≡◌, ℕ, suc, ◌+◌, ◌||◌, Bool, List, ◌∷◌, drop, Some, sym, ap, ◌∙◌, arith, drop-drop}
use Rattle.memchr.specs.Find.{IsFirstByte, is_byte}
use Rattle.first_pass_items.specs.Bytes.{less_than}
use Rattle.first_pass_html.specs.Ends.{begins_raw_end_tag, holds_raw_end_tag}
use Rattle.first_pass_html.proofs.EndFacts.{none_held, next_held}
use Rattle.first_pass_html.proofs.ends.holds_raw_end_tag.Goals as goal

-- the next `<`, and whether an end tag begins there
next : (bytes rest : List ℕ) (from before : ℕ) (t : Bool) → rest ≡ drop from bytes → IsFirstByte (is_byte less_than) rest (Some before)
    → begins_raw_end_tag (less_than ∷ drop (from + (before + 1)) bytes) ≡ t → holds_raw_end_tag bytes ≡ holds_raw_end_tag (drop from bytes)
    → holds_raw_end_tag bytes ≡ (t || holds_raw_end_tag (drop (from + (before + 1)) bytes))
next bytes rest from before t rest_is found is none =
    let one : suc before ≡ before + 1 = omega arith in
    let following : drop (suc before) rest ≡ drop (from + (before + 1)) bytes =
    ap (λ k. drop k rest) one ∙ ap (drop (before + 1)) rest_is ∙ drop-drop (before + 1) from bytes in
    none ∙ ap holds_raw_end_tag (sym rest_is)
    ∙ next_held rest before t found.0.high found.0.before found.1 (ap (λ bs. begins_raw_end_tag (less_than ∷ bs)) following ∙ is)
    ∙ ap (λ bs. t || holds_raw_end_tag bs) following

pub returns-then-ends_raw_text : goal.returns-then-ends_raw_text
returns-then-ends_raw_text c =
    let is = ap (λ bs. begins_raw_end_tag (less_than ∷ bs)) (sym c.rest_of-in-Some.ensures.value) ∙ sym c.ends_raw_text.ensures ∙ c.if-ends_raw_text.true in
    sym (next c.args.bytes.now c.rest_of.result.now c.loop-before.from c.in-Some.before _ c.rest_of.ensures.value c.in-Some.ensures is
    c.loop-before.invariant.none)

pub loop-before-preserved : goal.loop-before-preserved
loop-before-preserved c =
    let is = ap (λ bs. begins_raw_end_tag (less_than ∷ bs)) (sym c.rest_of-in-Some.ensures.value) ∙ sym c.ends_raw_text.ensures ∙ c.if-ends_raw_text.false in
    let whole = c.rest_of.ensures.whole in
    let high = c.in-Some.ensures.0.high in
    record {
      within = omega arith;
      none = next c.args.bytes.now c.rest_of.result.now c.loop-before.from c.in-Some.before _ c.rest_of.ensures.value c.in-Some.ensures is
          c.loop-before.invariant.none;
    }

pub returns : goal.returns
returns c = grind (arith, none_held)
