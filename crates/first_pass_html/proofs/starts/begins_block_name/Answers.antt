use Rattle.std.proofs.Common.{ap, ◌∙◌}
use Rattle.std.proofs.lemmas.Bool.Decides.{same_from_decides}
use Rattle.first_pass_html.specs.Starts.{ends_block_name, begins_block_name}
use Rattle.first_pass_html.proofs.NameFacts.{has_name_then, has_name_else}
use Rattle.first_pass_html.proofs.StartFacts.{block_start_iff}
use Rattle.first_pass_html.proofs.starts.begins_block_name.Goals as goal

pub returns-then-len-gt0 : goal.returns-then-len-gt0
returns-then-len-gt0 c =
    let bs = c.args.bytes.now in
    let has = has_name_then bs c.block_name_len-len.result c.ends_block_name.result c.block_name_len-len.ensures c.if-len-gt0.true
    (c.ends_block_name.ensures ∙ ap ends_block_name c.rest_of.ensures.value) in
    record { value = has; begins = same_from_decides c.ends_block_name.result (begins_block_name bs) has (block_start_iff bs) }

pub returns-else-len-gt0 : goal.returns-else-len-gt0
returns-else-len-gt0 c =
    let bs = c.args.bytes.now in
    let has = has_name_else bs c.block_name_len-len.result c.block_name_len-len.ensures c.if-len-gt0.false in
    record { value = has; begins = same_from_decides _ (begins_block_name bs) has (block_start_iff bs) }
