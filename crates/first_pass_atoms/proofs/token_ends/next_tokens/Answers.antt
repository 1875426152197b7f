use Rattle.std.proofs.Common.{◌≡◌, ℕ, ◌+◌, ◌-◌, List, [], ◌∷◌, ◌++◌, length, Option, sym, ap, subst, ◌∙◌, arith, rules, replicate, length-append}
use Rattle.std.proofs.lemmas.List.{length-replicate}
use Rattle.first_pass_atoms.specs.NextTokens.{KeysIn, IsNextFrom}
use Rattle.first_pass_atoms.proofs.NextFacts.{next_empty, next_start, last_start, none_sought, keys_below}
use Rattle.first_pass_atoms.proofs.token_ends.next_tokens.Goals as goal

pub returns-in_default : goal.returns-in_default
returns-in_default c =
    let none = subst (λ (o : Option ℕ). KeysIn c.args.mark c.args.tokens.now (length c.args.tokens.now) o) c.in_default.is c.greatest_key.ensures in
    next_empty c.args.mark c.args.tokens.now 0 c.new.result.items (none_sought c.args.mark c.args.tokens.now none)

pub loop-at-init : goal.loop-at-init
loop-at-init c =
    let n : ℕ = length c.args.tokens.now in
    let most : ℕ = c.in-Some.most in
    let items : List ℕ = c.push.new.self.items in
    let keys = subst (λ (o : Option ℕ). KeysIn c.args.mark c.args.tokens.now n o) c.in-Some.is c.greatest_key.ensures in
    let first : c.in_ok-last.last.items ≡ replicate most n = c.in_ok-last.ensures.items_if_clones_equal (λ y k. search rules) in
    let all : items ≡ replicate most n ++ n ∷ [] = c.in_ok-push.ensures.items ∙ ap (λ l. l ++ n ∷ []) first in
    let size : length items ≡ most + 1 = omega (arith, ap length all, length-append (replicate most n) (n ∷ []), length-replicate most n) in
    record {
      within = omega arith;
      keys = keys_below c.args.mark c.args.tokens.now most (length items) keys (sym size);
      last = last_start c.args.mark c.args.tokens.now most items all;
      size = search rules;
      next = next_start c.args.mark c.args.tokens.now c.in_ok-next.next.items;
    }

pub write_next-requires-clause-next : goal.write_next-requires-clause-next
write_next-requires-clause-next c =
    let here : c.loop-at.at ≡ c.loop-at.at - 1 + 1 = omega (arith, c.loop-at-test.true) in
    subst (λ k. IsNextFrom c.args.mark c.args.tokens.now k c.loop-at.next.items) here c.loop-at.invariant.next

pub returns : goal.returns
returns c =
    let start : c.loop-at.at ≡ 0 = omega (arith, c.loop-at-test.false) in
    subst (λ k. IsNextFrom c.args.mark c.args.tokens.now k c.loop-at.next.items) start c.loop-at.invariant.next
