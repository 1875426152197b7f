use Rattle.std.proofs.Common.{◌≡◌, ◌+◌, ◌-◌, false, sym, subst, ◌∙◌, arith}
use Rattle.first_pass_open.proofs.Common.{has_quote_after}
use Rattle.first_pass_open.proofs.FrontLemmas.{place_within}
use Rattle.first_pass_open.proofs.QuoteLemmas.{none_after_more}
use Rattle.first_pass_open.proofs.prefixes.nodes_to_quote.Goals as goal

pub index-requires : goal.index-requires
index-requires c = grind (arith, place_within)

pub loop-end-preserved : goal.loop-end-preserved
loop-end-preserved c =
    let within = c.loop-end.invariant.within in
    let some = c.loop-end-test.true in
    let z : c.loop-end.end - 1 + 1 ≡ c.loop-end.end = omega arith in
    record {
      within = omega arith;
      none = λ options. none_after_more options c.args.tree.now c.walk_spine-spine.result.now (c.loop-end.end - 1) c.index.result.now
          c.walk_spine-spine.ensures (omega arith) c.index.ensures (sym (c.is_quote.ensures options) ∙ c.if-is_quote.false)
          (subst (λ n. has_quote_after options c.args.tree.now n ≡ false) (sym z) (c.loop-end.invariant.none options));
    }
