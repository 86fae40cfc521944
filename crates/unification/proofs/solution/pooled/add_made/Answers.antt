use Rattle.std.proofs.Common.{refl}
use Rattle.typing_rules.specs.Sorts.{made}
use Rattle.typing_rules.specs.Pools.{type_at, types}
use Rattle.typing_rules.specs.declared.type_pool.PoolType.TheVariants.{Made}
use Rattle.unification.proofs.Pooling.{ok_keeps, ok_type}
use Rattle.unification.proofs.solution.pooled.add_made.Goals as goal

pub returns-clause-keeps : goal.returns-clause-keeps
returns-clause-keeps c = ok_keeps c.add.result c.args.pool.now c.add.new.self (Made c.args.wrap c.args.part) c.add.ensures.entries c.add.ensures.types

pub returns-clause-is : goal.returns-clause-is
returns-clause-is c = ok_type c.add.result c.args.pool.now c.add.new.self (Made c.args.wrap c.args.part) (made c.args.wrap (type_at (types c.args.pool.now) c.args.part)) refl c.add.ensures.number c.add.ensures.types
