use Rattle.std.proofs.Common.{◌≡◌, ℕ, List, IsCharBoundary, ap, subst, arith}
use Rattle.first_pass_client.proofs.Common.{MayAddAt, after_row}
use Rattle.first_pass_client.proofs.Moves.{may_add_here, same_text}
use Rattle.first_pass_client.proofs.tables.read_row.Goals as goal

pub returns-in_default : goal.returns-in_default
returns-in_default c =
    let h = c.requires.place in
    let text = c.args.pass.now.pass.source.text.now in
    let new = c.parse_table_row.new.self in
    let at = c.args.at in
    let e = c.in_ok-end.ensures.reads in
    let ends : after_row c.in_ok-end.field-0 at ≡ at = ap (λ r. after_row r at) c.in_default.is in
    let both = e.may_add c.requires.table h.boundary h.from h.low h.order in
    record {
      place = may_add_here c.args.pass.now new at e.kept.source (subst (λ (k : ℕ). MayAddAt text new.pass.state k) ends both.0) h.boundary;
      table = both.1;
      node = e.open_node h.boundary c.requires.node;
    }

pub returns : goal.returns
returns c =
    let h = c.requires.place in
    let text = c.args.pass.now.pass.source.text.now in
    let new = c.parse_table_row.new.self in
    let at = c.args.at in
    let e = c.in_ok-end.ensures.reads in
    let ends : after_row c.in_ok-end.field-0 at ≡ c.in-Some.end = ap (λ r. after_row r at) c.in-Some.is in
    let both = e.may_add c.requires.table h.boundary h.from h.low h.order in
    let same = same_text c.args.pass.now new e.kept.source in
    record {
      place = record {
        from = c.in-Some.end;
        low = omega arith;
        order = subst (λ (t : List ℕ). MayAddAt t new.pass.state c.in-Some.end) same
            (subst (λ (k : ℕ). MayAddAt text new.pass.state k) ends both.0);
        boundary = subst (λ (t : List ℕ). IsCharBoundary t c.in-Some.end) same
            (subst (λ (k : ℕ). IsCharBoundary text k) ends (e.boundary h.boundary));
      };
      table = both.1;
      node = e.open_node h.boundary c.requires.node;
    }
