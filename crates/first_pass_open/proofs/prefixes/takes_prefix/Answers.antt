use Rattle.std.proofs.Common.{refl, sym, ◌∙◌, arith}
use Rattle.first_pass_open.proofs.Common.{container_of}
use Rattle.first_pass_open.proofs.PathLemmas.{columns_prefix, quote_prefix, empty_prefix, by_quote}
use Rattle.first_pass_open.proofs.prefixes.takes_prefix.Goals as goal

pub returns-in-Some : goal.returns-in-Some
returns-in-Some c =
    rw (columns_prefix (container_of c.args.options c.args.body.now) c.in-Some.columns c.args.line_start.now (sym c.columns_needed.ensures ∙ c.in-Some.is))
    c.takes_columns.ensures

pub returns-then-is_quote : goal.returns-then-is_quote
returns-then-is_quote c = grind (arith, by_quote, quote_prefix)

pub returns : goal.returns
returns c =
    rw (empty_prefix (container_of c.args.options c.args.body.now) c.args.line_start.now (sym c.columns_needed.ensures ∙ c.in_default.is)
    (sym (c.is_quote.ensures c.args.options) ∙ c.if-is_quote.false))
    (refl, refl)
