use Rattle.std.proofs.Common.{rules}
use Rattle.first_pass_inline.proofs.Steps.{open_read}
use Rattle.first_pass_inline.proofs.walk.open.Goals as goal

pub returns : goal.returns
returns c =
    λ chain at next before opens. open_read chain c.args.walk.now _ at next c.args.mark before opens (record {
      marks_are = search rules;
      brackets_are = search rules;
      links_are = search rules;
      notes_are = search rules;
      waited_is = search rules;
      pipe_is = search rules;
      ends_are = search rules;
    })
