use Rattle.std.proofs.Common.{List, ℕ, ◌++◌, encode_utf8, refl, sym, ap, ◌∙◌, arith}
use Rattle.first_pass_tokens.proofs.Common.{times}
use Rattle.first_pass_tokens.proofs.DashLemmas.{em_dash, en_dash, em_bytes, en_bytes, en_utf8, half_boundary, middle}
use Rattle.first_pass_tokens.proofs.named.short_dashes.Goals as goal

pub range-requires-clause-end_boundary : goal.range-requires-clause-end_boundary
range-requires-clause-end_boundary c = half_boundary em_dash en_dash refl refl en_utf8 c.args.em c.args.en (omega arith) (omega arith)

pub returns : goal.returns
returns c =
    c.range.ensures.value
    ∙ middle em_dash en_dash refl refl en_utf8 c.args.em c.args.en (omega arith) (omega arith)
    ∙ ap (λ (xs : List ℕ). times c.args.em xs ++ times c.args.en en_dash) (sym em_bytes)
    ∙ ap (λ (xs : List ℕ). times c.args.em (encode_utf8 0x2014) ++ times c.args.en xs) (sym en_bytes)
