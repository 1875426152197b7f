use Rattle.std.proofs.Common.{◌-◌, length}
use Rattle.first_pass_tokens.proofs.Common.{content_in, AreMore, spot}
use Rattle.first_pass_tokens.proofs.SoFar.{IsRead}
use Rattle.first_pass_tokens.proofs.line.append_pieces.Given as goal

-- the content is read up to here
abbrev pub invariant-loop-at : goal.invariant-loop-at
invariant-loop-at l = record {
  read : IsRead l.texts.items
      (content_in l.text l.content l.fn.braces) l.fn.tree l.tree l.pending (spot l.from l.braces);
  more : AreMore l.texts.items l.fn.texts.items;
}

abbrev pub decreases-loop-at : goal.decreases-loop-at
decreases-loop-at l = length l.text - l.from
