use Rattle.ematching.proofs.SaidLemmas.{inner_itself, inner_found}
use Rattle.ematching.proofs.instances.said.inner_of.Goals as goal

pub returns-then-is_denied : goal.returns-then-is_denied
returns-then-is_denied c = inner_found c.args.pool.now c.args.is_denied c.if-is_denied.true c.args.formula c.denied.result c.denied.ensures

pub returns : goal.returns
returns c = inner_itself c.args.pool.now c.args.is_denied c.if-is_denied.false c.args.formula c.requires
