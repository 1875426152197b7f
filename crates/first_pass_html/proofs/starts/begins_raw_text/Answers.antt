use Rattle.std.proofs.Common.{codes, ◌||◌, false, sym, ap, ◌∙◌, arith}
use Rattle.std.proofs.Math.Bool.{or-false}
use Rattle.std.proofs.lemmas.Bool.Decides.{nat_tests}
use Rattle.first_pass_html.specs.Starts.{begins_raw}
use Rattle.first_pass_html.proofs.RawFacts.{raw_in_none, raw_by_letter}
use Rattle.first_pass_html.proofs.starts.begins_raw_text.Goals as goal

pub returns-in_default : goal.returns-in_default
returns-in_default c = sym (raw_in_none c.args.bytes.now c.in_default.len_below)

pub returns-in-112 : goal.returns-in-112
returns-in-112 c =
    c.begins_raw.ensures
    ∙ sym (raw_by_letter c.args.bytes.now _ c.in-len1-up.len_at_least c.to_ascii_lowercase.ensures.value ∙ rw c.in-112.is (or-false _))

pub returns-then-begins_raw : goal.returns-then-begins_raw
returns-then-begins_raw c = grind (arith, raw_by_letter)

pub returns-else-begins_raw : goal.returns-else-begins_raw
returns-else-begins_raw c =
    let bs = c.args.bytes.now in
    c.begins_raw-else-begins_raw.ensures ∙ sym (raw_by_letter bs _ c.in-len1-up.len_at_least c.to_ascii_lowercase.ensures.value
    ∙ rw c.in-115.is (ap (λ t. t || (begins_raw (codes "style") bs || false)) (sym c.begins_raw-in-115.ensures ∙ c.if-begins_raw.false) ∙ or-false _))

pub returns-in-116 : goal.returns-in-116
returns-in-116 c = grind (arith, raw_by_letter)

pub returns-in_default-to_ascii_lowercase : goal.returns-in_default-to_ascii_lowercase
returns-in_default-to_ascii_lowercase c = grind (arith, nat_tests, raw_by_letter)
