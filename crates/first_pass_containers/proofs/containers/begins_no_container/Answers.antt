use Rattle.first_pass_containers.proofs.Openings.Indented.{plain_begins_none}
use Rattle.first_pass_containers.proofs.containers.begins_no_container.Goals as goal

pub returns-then-is_at_plain : goal.returns-then-is_at_plain
returns-then-is_at_plain c = λ plain. plain_begins_none c.args.rest.now (c.is_at_plain.ensures.owed plain) (c.is_at_plain.ensures.plain plain)
