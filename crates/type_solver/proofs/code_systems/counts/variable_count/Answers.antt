use Rattle.std.proofs.Common.{arith}
use Rattle.type_constraints.specs.CodeSettings.{setting_of}
use Rattle.type_solver.proofs.Steps.{all_arguments}
use Rattle.type_solver.proofs.code_systems.counts.variable_count.Goals as goal

pub returns : goal.returns
returns c = all_arguments (setting_of c.args.setting) c.loop-index.index c.loop-index.first (omega arith) c.loop-index.invariant
