use Rattle.std.proofs.Common.{◌≡◌, Bool, true, false, MatchOption, Option, Some, None, rules, arith}
use Rattle.first_pass_lines.specs.Rest.{Rest, after_columns}
use Rattle.first_pass_grammar.proofs.Common.{past_quote, prefix}
use Rattle.first_pass_open.proofs.PlainLemmas.{inert_prefix}
use Rattle.first_pass_open.proofs.prefixes.scan_quote.Goals as goal

-- a search that found no marker took nothing
untaken : (o : Option Rest) (found : Bool) (new old : Rest) → found ≡ false
    → MatchOption o ((found ≡ false) × (new ≡ old)) (λ next. (found ≡ true) × (new ≡ after_columns 1 next)) → new ≡ old
untaken None found new old none h = h.1
untaken (Some n) found new old none h = cc

-- In each of these cases, the first search found no marker and took nothing.
pub returns-then-is_at_inert : goal.returns-then-is_at_inert
returns-then-is_at_inert c = grind (arith, inert_prefix)

pub returns-then-not-scan_blockquote_marker : goal.returns-then-not-scan_blockquote_marker
unfolding prefix
returns-then-not-scan_blockquote_marker c =
    let same = untaken (past_quote c.args.line_start.now) _ _ _ c.if-scan_blockquote_marker.false c.scan_blockquote_marker.ensures in
    rw (← same) (search rules)

pub returns : goal.returns
unfolding prefix
returns c =
    let same = untaken (past_quote c.args.line_start.now) _ _ _ c.if-scan_blockquote_marker.false c.scan_blockquote_marker.ensures in
    rw (← same) (search rules)
