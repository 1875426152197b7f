use Rattle.first_pass_content.proofs.Growth.{built_size}
use Rattle.first_pass_content.proofs.builder.ContentBuilder.len.Goals as goal

pub returns : goal.returns
returns c = λ text is. built_size text c.args.self.now.bytes.items c.args.self.now.runs.items c.args.self.now.last is
