use Rattle.std.proofs.Common.{◌≡◌, ◌∙◌, ap, sym, subst, IsUtf8, slice_range}
use Rattle.first_pass_json.proofs.RangeTexts.{broken_text, whole_text}
use Rattle.first_pass_json.proofs.placed.text_between.Goals as goal

pub returns-in-Ok : goal.returns-in-Ok
returns-in-Ok c =
    let bytes = slice_range c.args.text.now c.args.start c.args.«end» in
    let are : c.bytes_between.result.now ≡ bytes = c.bytes_between.ensures ∙ ap (λ t. slice_range t c.args.start c.args.«end») c.as_bytes.ensures.value in
    whole_text bytes _ (c.in-Ok.ensures.cases.0 ∙ are) (subst IsUtf8 are c.in-Ok.ensures.cases.1)

pub returns-in-Err : goal.returns-in-Err
returns-in-Err c =
    let bytes = slice_range c.args.text.now c.args.start c.args.«end» in
    let are : c.bytes_between.result.now ≡ bytes = c.bytes_between.ensures ∙ ap (λ t. slice_range t c.args.start c.args.«end») c.as_bytes.ensures.value in
    broken_text bytes (λ utf8. c.in-Err.ensures.cases.0 (subst IsUtf8 (sym are) utf8))
