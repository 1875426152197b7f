use Rattle.std.proofs.Common.{◌≡◌, map, drop}
use Rattle.first_pass_html.specs.Names.{borrowed_bytes, first_name_len}
use Rattle.first_pass_html.proofs.names.first_name_len.Given as goal

abbrev pub invariant-loop-name : goal.invariant-loop-name
invariant-loop-name l = first_name_len (map borrowed_bytes l.known) l.bytes ≡ first_name_len (map borrowed_bytes (drop l.name-index l.known)) l.bytes
