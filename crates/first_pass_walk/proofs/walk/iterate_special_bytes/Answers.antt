use Rattle.first_pass_walk.proofs.walk.iterate_special_bytes.Goals as goal

pub returns : goal.returns
returns g c = (c.walk_special_bytes.new.callback, c.walk_special_bytes.ensures)
