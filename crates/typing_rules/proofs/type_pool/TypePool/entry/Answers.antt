use Rattle.typing_rules.proofs.Stated.{type_read}
use Rattle.typing_rules.proofs.type_pool.TypePool.entry.Goals as goal

pub returns-clause-one : goal.returns-clause-one
returns-clause-one c = type_read c.args.self.now c.args.number c.stored.result.now c.stored.ensures.entry c.stored.ensures.below
