use Rattle.std.proofs.Common.{refl}
use Rattle.typing_rules.specs.Pools.{plain_type}
use Rattle.typing_rules.specs.declared.type_pool.PoolType.TheVariants.{Plain}
use Rattle.unification.proofs.Pooling.{ok_keeps, ok_type}
use Rattle.unification.proofs.solution.pooled.add_plain.Goals as goal

pub returns-clause-keeps : goal.returns-clause-keeps
returns-clause-keeps c = ok_keeps c.add.result c.args.pool.now c.add.new.self (Plain c.args.of) c.add.ensures.entries c.add.ensures.types

pub returns-clause-is : goal.returns-clause-is
returns-clause-is c = ok_type c.add.result c.args.pool.now c.add.new.self (Plain c.args.of) (plain_type c.args.of) refl c.add.ensures.number c.add.ensures.types
