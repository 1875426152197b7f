use Rattle.std.proofs.Common.{ap, subst, rules}
use Rattle.std.specs.Io.KnownBytes.{Appends}
use Rattle.std.proofs.lemmas.Result.{on_ok_weaker, on_err_weaker}
use Rattle.first_pass_items.proofs.ResultFacts.{on_err}
use Rattle.first_pass_host.specs.Streams.{AppendsFront}
use Rattle.first_pass_host.proofs.HeldLines.{none_written, all_written, next_held, piece_written, front_written, front_so_far}
use Rattle.first_pass_host.proofs.output.write_each.Goals as goal

pub loop-item-init : goal.loop-item-init
loop-item-init g c = (
  search rules,
  search rules,
  λ line lines are. none_written _ _ _ _ c.new-held.ensures.items (ap lines c.into_iter-item-iterator.ensures.into_iter_gives),
)

pub loop-item-preserved : goal.loop-item-preserved
loop-item-preserved g c = (
  search rules,
  search rules,
  λ line lines are. piece_written _ _ _ _ _ _ _ c.in_ok-write_piece.ensures.ok
      (next_held _ _ _ _ _ _ _ (are.next _ _ _ c.in-Some.ensures.steps) (are.appended _ _ _ c.in_ok-append.ensures) (c.loop-item.invariant.2 line lines are)),
)

pub returns-in_err-append : goal.returns-in_err-append
returns-in_err-append g c = λ line lines are. record {
  ok = search rules;
  front = on_err c.from_residual.result (front_so_far _ _ _ _ _ (c.loop-item.invariant.2 line lines are));
  fault = search rules;
}

pub returns-in_err-write_piece : goal.returns-in_err-write_piece
returns-in_err-write_piece g c = λ line lines are. record {
  ok = search rules;
  front = on_err c.from_residual-in_err-write_piece.result (front_written _ _ _ _ _ _
      (next_held _ _ _ _ _ _ _ (are.next _ _ _ c.in-Some.ensures.steps) (are.appended _ _ _ c.in_ok-append.ensures) (c.loop-item.invariant.2 line lines are))
      c.in_err-write_piece.ensures.front);
  fault = search rules;
}

pub returns : goal.returns
returns g c = λ line lines are.
    let so_far = c.loop-item.invariant.2 line lines are in record {
      ok = on_ok_weaker c.write_whole.result (λ last. all_written _ _ _ _ _ _ (are.none _ _ c.in-None.ensures.steps) so_far
          (subst (Appends _ _) c.as_slice.ensures.value last)) c.write_whole.ensures.ok;
      front = on_err_weaker c.write_whole.result (λ front. front_written _ _ _ _ _ _ so_far (subst (AppendsFront _ _) c.as_slice.ensures.value front))
          c.write_whole.ensures.front;
      fault = search rules;
    }
