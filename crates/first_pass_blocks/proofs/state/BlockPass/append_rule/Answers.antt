use Rattle.std.proofs.Common.{refl, ◌∙◌, arith}
use Rattle.first_pass_blocks.proofs.Common.{extends_none, place_end}
use Rattle.first_pass_blocks.proofs.Leaves.KindBlocks.{rule_end, rule_added, found_at, found_says, line_read, leaf_added}
use Rattle.first_pass_blocks.proofs.state.BlockPass.append_rule.Goals as goal

pub parse_hrule-requires : goal.parse_hrule-requires
parse_hrule-requires c =
    let f = c.requires.2 in
    let ends = rule_end c.requires.0 c.args.at c.args.size (found_says f) f.found.at_is in
    let w = (place_end c.args.self.now.source.text.now c.requires.0 f.utf8 f.place).0 in
    let short = c.recall_length.ensures in
    omega arith

pub returns : goal.returns
returns c = λ p columns f.
    let i = found_at f in
    let e = c.in_ok-next.ensures in
    let ends = rule_end p c.args.at c.args.size (found_says f) f.found.at_is in
    let text = c.args.self.now.source.text.now in
    let last = place_end text p f.utf8 f.place in
    leaf_added f refl refl (record { names = extends_none _; entries = refl }) refl refl (line_read f (e.following ∙ ends))
    (λ from low. rw e.following (e.fits text from low i.boundary (rw ends last))) (rule_added i c.args.size (e.following ∙ ends) e.block)
