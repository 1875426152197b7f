use Rattle.std.proofs.Common.{arith}
use Rattle.first_pass_order.proofs.InsertedCells.{all_nodes}
use Rattle.first_pass.proofs.laws.nodes_are_counted.Goals as goal

pub returns-clause-all : goal.returns-clause-all
returns-clause-all c = λ names f whole. all_nodes names f.nodes whole.whole

pub returns-clause-bound : goal.returns-clause-bound
returns-clause-bound c = λ names f at whole few. (let all = all_nodes names f.nodes whole.whole in omega arith)
