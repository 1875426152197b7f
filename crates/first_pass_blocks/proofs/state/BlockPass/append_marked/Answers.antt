use Rattle.first_pass_blocks.proofs.state.BlockPass.append_marked.Goals as goal

pub returns-in_ok-next-in-Metadata : goal.returns-in_ok-next-in-Metadata
returns-in_ok-next-in-Metadata c =
    rw c.in-Metadata.is (c.in_ok-next-in-Metadata.ensures c.args.place c.args.columns (rw c.in-Metadata.is at c.requires))

pub returns-in_ok-next-in-ThematicBreak : goal.returns-in_ok-next-in-ThematicBreak
returns-in_ok-next-in-ThematicBreak c =
    rw c.in-ThematicBreak.is (c.in_ok-next-in-ThematicBreak.ensures c.args.place c.args.columns (rw c.in-ThematicBreak.is at c.requires))

pub returns-in_ok-next-in-AtxHeading : goal.returns-in_ok-next-in-AtxHeading
returns-in_ok-next-in-AtxHeading c =
    rw c.in-AtxHeading.is (c.in_ok-next-in-AtxHeading.ensures c.args.place c.args.columns (rw c.in-AtxHeading.is at c.requires))
