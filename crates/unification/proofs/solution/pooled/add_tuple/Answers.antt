use Rattle.std.proofs.Common.{map, refl}
use Rattle.base.specs.TypeData.{TupleType, types_of}
use Rattle.typing_rules.specs.Pools.{type_at, types}
use Rattle.typing_rules.specs.declared.type_pool.PoolType.TheVariants.{Tuple}
use Rattle.unification.proofs.Pooling.{ok_keeps, ok_type}
use Rattle.unification.proofs.solution.pooled.add_tuple.Goals as goal

pub returns-clause-keeps : goal.returns-clause-keeps
returns-clause-keeps c = ok_keeps c.add.result c.args.pool.now c.add.new.self (Tuple c.args.parts) c.add.ensures.entries c.add.ensures.types

pub returns-clause-is : goal.returns-clause-is
returns-clause-is c = ok_type c.add.result c.args.pool.now c.add.new.self (Tuple c.args.parts) (TupleType (types_of (map (type_at (types c.args.pool.now)) c.args.parts))) refl c.add.ensures.number c.add.ensures.types
