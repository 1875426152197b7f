use Rattle.std.proofs.Common.{◌≡◌, ◌⊎◌, ◌≤◌, ◌+◌, [], ◌∷◌, length, None, refl, inl, inr, arith, of_calls}
use Rattle.first_pass_walk.proofs.Common.{cases_lt}
use Rattle.first_pass_walk.proofs.WalkLemmas.{walks_from_sum}
use Rattle.first_pass_walk.proofs.walk.walk_special_bytes.Goals as goal

pub loop-at-preserved : goal.loop-at-preserved
loop-at-preserved g c =
    let sum = c.in-Some.at + c.in-ContinueAndSkip.skip + 1 in
    let ends : (c.saturating_add-from.result ≡ sum) ⊎ ((length c.args.bytes.now ≤ c.saturating_add-from.result) × (length c.args.bytes.now ≤ sum)) =
    elim (cases_lt sum 0x1_0000_0000_0000_0000) [ inl fits ↦ inl (omega arith) | inr past ↦ inr (omega arith, omega arith) ] in (
      search of_calls,
      λ skips answer last w. c.loop-at.invariant.1 (c.in-ContinueAndSkip.skip ∷ skips) answer last (
        c.in-Some.at,
        c.in-Some.ensures.found,
        c.callback.new.self,
        c.in-ContinueAndSkip.ensures,
        walks_from_sum (λ f k b i h. goal.F-step g f k b i h) _ _ _ skips c.callback.new.self answer last ends w,
      ),
    )

pub returns-in-BreakAtWith : goal.returns-in-BreakAtWith
returns-in-BreakAtWith g c =
    let all = c.loop-at.invariant.1 [] (c.in-BreakAtWith.end, c.in-BreakAtWith.value) c.callback.new.self
    (inr (c.in-Some.at, c.in-Some.ensures.found, c.in-BreakAtWith.ensures)) in
    record { skips = all.0; walk = all.1 }

pub returns : goal.returns
returns g c =
    let all = c.loop-at.invariant.1 [] (length c.args.bytes.now, None) c.loop-at.callback (inl (c.in_default.ensures.none, refl, refl)) in
    record { skips = all.0; walk = all.1 }
