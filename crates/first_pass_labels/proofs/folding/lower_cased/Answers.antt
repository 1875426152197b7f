use Rattle.std.proofs.Common.{◌≡◌, ℕ, List, ◌∷◌, ◌++◌, [], ◌+◌, ◌<◌, ◌∙◌, ap, ap₂, sym, arith, map, length, take, IsAscii, get_or, subst, IsUtf8, slice_set}
use Rattle.std.proofs.Common.{length-set}
use Rattle.std.specs.Char.{to_ascii_lowercase}
use Rattle.std.proofs.lemmas.List.{take_more, take_more_set, map-append}
use Rattle.std.proofs.lemmas.Str.{IsUtf8-from_ascii, IsAscii-take}
use Rattle.std.proofs.lemmas.Str.Ascii.{IsAscii-map, lowercase_ascii}
use Rattle.first_pass_labels.proofs.folding.lower_cased.Goals as goal

-- one more byte
lower_more : (bytes spelled : List ℕ) (at b : ℕ) → at < length bytes → at < length spelled → b ≡ to_ascii_lowercase (get_or spelled at 0)
    → take at bytes ≡ map to_ascii_lowercase (take at spelled)
    → take (at + 1) (slice_set bytes at b) ≡ map to_ascii_lowercase (take (at + 1) spelled)
lower_more bytes spelled at b lt here is lower =
    take_more_set bytes at b lt ∙ ap₂ ◌++◌ lower (ap (λ x. x ∷ []) is)
    ∙ sym (map-append to_ascii_lowercase (take at spelled) (get_or spelled at 0 ∷ [])) ∙ ap (map to_ascii_lowercase) (sym (take_more spelled at 0 here))

pub loop-at-preserved : goal.loop-at-preserved
loop-at-preserved c =
    let long = c.loop-at.invariant.long in
    record {
      long = length-set c.loop-at.bytes c.loop-at.at _ ∙ long;
      lower =
          lower_more c.loop-at.bytes c.as_bytes-spelled.result.now c.loop-at.at _
          (omega (arith, long, c.requires.short, c.loop-at-test.true, ap length c.as_bytes-spelled.ensures.value))
          c.loop-at-test.true c.to_ascii_lowercase.ensures.value c.loop-at.invariant.lower;
    }

ascii_lower : (bytes spelled text : List ℕ) (at n : ℕ) → IsAscii text → spelled ≡ text → take at bytes ≡ map to_ascii_lowercase (take at spelled)
    → at ≡ n → IsUtf8 (take n bytes)
ascii_lower bytes spelled text at n ascii same lower end =
    let front = IsUtf8-from_ascii _ (IsAscii-map to_ascii_lowercase _ lowercase_ascii (IsAscii-take text at ascii)) in
    subst (λ (k : ℕ). IsUtf8 (take k bytes)) end (subst IsUtf8 (sym (lower ∙ ap (λ l. map to_ascii_lowercase (take at l)) same)) front)

pub returns-in_default : goal.returns-in_default
returns-in_default c = λ other. absurd (c.in_default.ensures.cases.0
    (ascii_lower c.loop-at.bytes c.as_bytes-spelled.result.now c.args.text.now c.loop-at.at (length c.as_bytes-spelled.result.now) c.requires.ascii
    c.as_bytes-spelled.ensures.value c.loop-at.invariant.lower (omega (arith, c.loop-at-test.false, c.loop-at.auto.at-end))))
