use Rattle.std.proofs.Common.{◌≡◌, ◌++◌, ◌∷◌, [], if◌then◌else◌, string_bytes, arith}
use Rattle.first_pass_items.specs.Bytes.{space}
use Rattle.first_pass_links.specs.Units.{part}
use Rattle.first_pass_links.proofs.Parts.{unit_kept, unit_changed, unit_read}
use Rattle.first_pass_links.proofs.label.write_unit.Goals as goal
use Rattle.first_pass_links.proofs.label.write_unit.Goals.{In_ok-push_str-2}

pub returns-then-unit-clause-bytes : goal.returns-then-unit-clause-bytes
returns-then-unit-clause-bytes c = unit_kept c.args.text.now _ c.args.from c.args.at c.args.unit c.requires.read c.requires.unit c.if-unit.true

written : (c : In_ok-push_str-2) → string_bytes c.push_str-2.new.self
    ≡ (string_bytes c.args.written.now ++ part c.args.text.now c.args.from c.args.unit.paused) ++ (if c.args.unit.space then space ∷ [] else [])
written c = grind arith

pub returns-clause-read : goal.returns-clause-read
returns-clause-read c =
    rw (written c) (unit_read c.args.text.now _ c.args.from c.args.at c.args.unit c.requires.read c.requires.unit c.if-unit.false)

pub returns-clause-bytes : goal.returns-clause-bytes
returns-clause-bytes c =
    rw (written c) (unit_changed c.args.text.now _ c.args.from c.args.at c.args.unit c.requires.read c.requires.unit)
