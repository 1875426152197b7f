use Rattle.std.proofs.Common.{◌≡◌, ◌∙◌, ap, sym, refl, arith, rules, [], append-nil}
use Rattle.first_pass_inline.specs.Sequences.{first_of}
use Rattle.first_pass_inline.proofs.Steps.{empty, popped, single_read, stray_read}
use Rattle.first_pass_inline.proofs.walk.read.Goals as goal

pub look-requires-clause-known : goal.look-requires-clause-known
look-requires-clause-known c = c.requires.before.known

pub close-requires-clause-before : goal.close-requires-clause-before
close-requires-clause-before c =
    popped c.args.chain.now c.args.walk.now _ c.args.at c.in-Closes.next c.in-Some.bracket c.in-Closes.mark c.requires.before (record {
      marks_are = search rules;
      brackets_are = search rules;
      links_are = search rules;
      notes_are = search rules;
      pipe_is = search rules;
    }) (search rules) (sym c.in-Closes.ensures.value)

pub returns-in_ok-push-in-Piece-clause-before : goal.returns-in_ok-push-in-Piece-clause-before
returns-in_ok-push-in-Piece-clause-before c =
    single_read c.args.chain.now c.args.walk.now _ c.args.at c.in-Piece.next c.in-Piece.mark c.requires.before (sym c.in-Piece.ensures.value) (record {
      marks_are = c.in_ok-push-in-Piece.ensures.items;
      brackets_are = refl;
      links_are = refl;
      notes_are = refl;
      waited_is = refl;
      pipe_is = c.first_of-walk.ensures ∙ ap (first_of c.args.walk.now.pipe) c.piece_pipe.ensures;
      known = c.in-Piece.ensures.known;
    })

pub returns-in_ok-open-in-Opens-clause-before : goal.returns-in_ok-open-in-Opens-clause-before
returns-in_ok-open-in-Opens-clause-before c =
    let before = c.requires.before in
    c.in_ok-open-in-Opens.ensures c.args.chain.now c.args.at c.in-Opens.next (record {
      levels = before.levels;
      are_levels = before.are_levels;
      marks_are = before.marks_are;
      stack_is = before.stack_is;
      links_are = before.links_are;
      notes_are = before.notes_are;
      waited_is = before.waited_is;
      pipe_is = before.pipe_is;
      known = c.in-Opens.ensures.known;
    }) (sym c.in-Opens.ensures.value)

pub returns-in_ok-push-in-None-clause-before : goal.returns-in_ok-push-in-None-clause-before
returns-in_ok-push-in-None-clause-before c =
    let none : c.args.walk.now.brackets.items ≡ [] = empty c.args.walk.now.brackets.items (search (rules, c.in-None.ensures.cases)) in
    stray_read c.args.chain.now c.args.walk.now _ c.args.at c.in-Closes.next c.in-Closes.mark c.requires.before none (sym c.in-Closes.ensures.value) (record {
      marks_are = c.in_ok-push-in-None.ensures.items;
      brackets_are = sym (c.in-None.ensures.items ∙ append-nil c.pop.new.self.items);
      links_are = refl;
      notes_are = refl;
      waited_is = refl;
      pipe_is = refl;
      known = c.in-Closes.ensures.known;
    })
