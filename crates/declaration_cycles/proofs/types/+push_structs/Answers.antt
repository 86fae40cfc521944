use Rattle.std.proofs.Common.{arith}
use Rattle.std.proofs.lemmas.Grind.{common_steps}
use Rattle.declaration_cycles.proofs.Naming.{structs_all}
use Rattle.declaration_cycles.proofs.types.+push_structs.Goals as goal

pub push_structs_all-returns : goal.push_structs_all-returns
push_structs_all-returns t c = rw (structs_all c.args.terms.now) (grind (arith, common_steps))
