use Rattle.std.proofs.Common.{◌≡◌, Some, length, refl, sym, subst, arith}
use Rattle.first_pass_client.proofs.Common.{MayAddAt, PassState, Table, top_body, with_block}
use Rattle.first_pass_open.specs.OpenBlock.{IsJustPushed}
use Rattle.first_pass_tables.specs.Appends.{IsOpenNode}
use Rattle.first_pass_client.proofs.tables.begin_table.Goals as goal

pub returns : goal.returns
returns c =
    let h = c.requires in
    let text = c.args.pass.now.pass.source.text.now in
    let old : PassState = c.args.pass.now.pass.state in
    let at = c.args.at in
    let state_is = c.in_ok-open_block.ensures.0 in
    let law = c.block_begins.ensures in
    let pushed = law.pushed at (Table c.args.alignments) (with_block old old.tree) in
    record {
      inside = record {
        place = record {
          from = at;
          low = omega arith;
          order = subst (λ (r : PassState). MayAddAt text r at) (sym state_is)
              (law.may_add text old h.from at (Table c.args.alignments) h.order h.low h.boundary refl);
          boundary = h.boundary;
        };
        table = (
          c.args.alignments,
          subst (λ (r : PassState). top_body r.tree ≡ Some (Table c.args.alignments)) (sym state_is)
              (law.innermost at (Table c.args.alignments) (with_block old old.tree)),
        );
        node = subst (λ (r : PassState). IsOpenNode r.tree) (sym state_is) pushed.1;
      };
      block = record { 0 = length old.tree.nodes };
      pushed = subst (λ (r : PassState). IsJustPushed r.tree (record { 0 = length old.tree.nodes })) (sym state_is) pushed.0;
    }
