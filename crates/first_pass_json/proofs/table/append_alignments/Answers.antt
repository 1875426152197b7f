use Rattle.first_pass_json.proofs.table.append_alignments.Goals as goal

pub returns : goal.returns
returns c = c.append_array.ensures
