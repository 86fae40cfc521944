use Rattle.std.proofs.Common.{subst}
use Rattle.term_pool.specs.Pools.{IsMade}
use Rattle.term_pool.specs.declared.node.Node.TheVariants.{One as OneNode}
use Rattle.row_reasoning.proofs.SideLemmas.{over_denial}
use Rattle.row_reasoning.proofs.comparison.one_sides.Goals as goal

pub returns-in-Not : goal.returns-in-Not
returns-in-Not c = λ n made. over_denial c.args.pool.now n c.args.a (subst (λ k. IsMade c.args.pool.now n (OneNode k c.args.a)) c.in-Not.is made) c.denied.result c.denied.ensures
