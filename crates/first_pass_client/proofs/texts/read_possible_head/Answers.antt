use Rattle.std.proofs.Common.{◌≡◌, ℕ, List, true, IsCharBoundary, sym, subst, ◌∙◌, arith}
use Rattle.first_pass_client.proofs.Common.{MayAddAt, PassState, source_text, state_of, tree_of, with_tree, HoldsChain, is_break, appended}
use Rattle.first_pass_client.proofs.Moves.{given, may_add_here, same_text}
use Rattle.first_pass_client.proofs.texts.read_possible_head.Goals as goal

pub returns-in_default : goal.returns-in_default
returns-in_default c =
    let h = c.requires.place in
    let old = c.args.pass.now in
    let new = c.parse_line.new.self in
    let e = c.in_ok-next.ensures in
    let same = e.tokens.kept.source in
    record {
      place = may_add_here old new c.in_ok-next.next same (e.tokens.may_add tt h.boundary h.from h.low h.order) (e.tokens.boundary tt h.boundary);
      to = c.in_ok-next.next;
      near = omega arith;
      chain = subst (λ (t : List ℕ). HoldsChain t (tree_of new) c.args.block c.in_ok-next.next) (same_text old new same)
          (e.block.chain tt h.boundary c.args.block c.requires.to c.requires.near c.requires.chain).chain;
    }

pub returns-then-not-is_break : goal.returns-then-not-is_break
returns-then-not-is_break c =
    let h = c.requires.place in
    let old = c.args.pass.now in
    let new = c.parse_line.new.self in
    let e = c.in_ok-next.ensures in
    let same = e.tokens.kept.source in
    record {
      place = may_add_here old new c.in_ok-next.next same (e.tokens.may_add tt h.boundary h.from h.low h.order) (e.tokens.boundary tt h.boundary);
      to = c.in_ok-next.next;
      near = omega arith;
      chain = subst (λ (t : List ℕ). HoldsChain t (tree_of new) c.args.block c.in_ok-next.next) (same_text old new same)
          (e.block.chain tt h.boundary c.args.block c.requires.to c.requires.near c.requires.chain).chain;
    }

pub returns : goal.returns
returns c =
    let h = c.requires.place in
    let old = c.args.pass.now in
    let read = c.parse_line.new.self in
    let x = c.in-Some.item in
    let next = c.in_ok-next.next in
    let state : PassState = c.add_break.new.state in
    let e = c.in_ok-next.ensures in
    let texts = same_text old read e.tokens.kept.source in
    let kind : is_break x.body ≡ true = sym c.is_break.ensures ∙ c.if-not-is_break.false in
    let is : state ≡ with_tree (state_of read) (appended (tree_of read) x) = c.in_ok-add_break.ensures in
    record {
      place = record {
        from = next;
        low = omega arith;
        order = subst (λ (t : List ℕ). MayAddAt t state next) texts
            (subst (λ (r : PassState). MayAddAt (source_text old) r next) (sym is)
            (given c.in_ok-next.found x _ c.in-Some.is (e.block.broken tt h.boundary h.from h.low h.order) kind));
        boundary = subst (λ (t : List ℕ). IsCharBoundary t next) texts (e.tokens.boundary tt h.boundary);
      };
      to = next;
      near = omega arith;
      chain = subst (λ (t : List ℕ). HoldsChain t state.tree c.args.block next) texts
          (subst (λ (r : PassState). HoldsChain (source_text old) r.tree c.args.block next) (sym is)
          (given c.in_ok-next.found x _ c.in-Some.is (e.block.chain tt h.boundary c.args.block c.requires.to c.requires.near c.requires.chain).broken kind));
    }
