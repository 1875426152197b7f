use Rattle.std.proofs.Common.{sym, subst}
use Rattle.first_pass_c.specs.Memory.{memory}
use Rattle.first_pass_c.specs.Parsed.{form_of}
use Rattle.first_pass_c.specs.Reading.{IsTooSmall}
use Rattle.first_pass_c.proofs.Readings.{is_read, is_too_small, long_at_5, no_room_at_4, small_at_4, small_unless_5}
use Rattle.first_pass_c.proofs.first_pass_parse_into.Goals.{in-TooSmall, in_default}
use Rattle.first_pass_c.proofs.first_pass_parse_into.Goals as goal

pub returns-in-Ok-write_into-clause-read : goal.returns-in-Ok-write_into-clause-read
returns-in-Ok-write_into-clause-read c zero =
    is_read c.args.text.now c.args.bits c.in-Ok.parsed _ _ c.counts.result c.in-Ok.ensures.ok c.counts.ensures c.in-Ok-write_into.ensures.ok

pub returns-clause-too_small : goal.returns-clause-too_small
returns-clause-too_small c four =
    let fault = c.in-Err-write_into.fault in
    let is = small_at_4 fault c.status_of-in-Err-write_into.result c.status_of-in-Err-write_into.ensures four in
    let arrays = memory c.args.nodes.now c.args.attributes.now c.args.definitions.now c.args.strings.now in
    let no_room = no_room_at_4 fault (form_of c.in-Ok.parsed) arrays is c.in-Err-write_into.ensures.fault in
    elim c.match-fault.branch [
      | in-TooSmall w ↦
          subst (λ counts. IsTooSmall c.args.text.now c.args.bits arrays counts) (sym w.counts-is)
          (is_too_small c.args.text.now c.args.bits c.in-Ok.parsed arrays _ c.in-Ok.ensures.ok w.counts-in-TooSmall.ensures no_room)
      | in_default w ↦ absurd (w.in_default.not-TooSmall is)
    ]

pub returns-clause-too_long : goal.returns-clause-too_long
returns-clause-too_long c five =
    long_at_5 c.args.text.now c.args.bits c.in-Ok.parsed _ c.in-Err-write_into.fault c.status_of-in-Err-write_into.result c.in-Ok.ensures.ok
    c.in-Err-write_into.ensures.fault c.status_of-in-Err-write_into.ensures five

pub returns-clause-unchanged : goal.returns-clause-unchanged
returns-clause-unchanged c failed other =
    let arrays = memory c.args.nodes.now c.args.attributes.now c.args.definitions.now c.args.strings.now in
    c.in-Err-write_into.ensures.unchanged
    (small_unless_5 c.in-Err-write_into.fault (form_of c.in-Ok.parsed) arrays c.status_of-in-Err-write_into.result
    c.in-Err-write_into.ensures.fault c.status_of-in-Err-write_into.ensures other)
