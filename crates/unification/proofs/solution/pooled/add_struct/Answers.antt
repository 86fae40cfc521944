use Rattle.std.proofs.Common.{map, ap}
use Rattle.base.specs.TypeData.{StructType, types_of}
use Rattle.base.specs.declared.types.StructId.{StructId}
use Rattle.typing_rules.specs.Pools.{type_at, types}
use Rattle.typing_rules.specs.declared.type_pool.PoolType.TheVariants.{Struct}
use Rattle.unification.proofs.Pooling.{ok_keeps, ok_type}
use Rattle.unification.proofs.solution.pooled.add_struct.Goals as goal

pub returns-clause-keeps : goal.returns-clause-keeps
returns-clause-keeps c = ok_keeps c.add.result c.args.pool.now c.add.new.self (Struct c.in_ok-try_clone.field-0 c.args.parts) c.add.ensures.entries c.add.ensures.types

pub returns-clause-is : goal.returns-clause-is
returns-clause-is c = ok_type c.add.result c.args.pool.now c.add.new.self (Struct c.in_ok-try_clone.field-0 c.args.parts)
    (StructType c.args.id.now (types_of (map (type_at (types c.args.pool.now)) c.args.parts)))
    (ap (λ (s : StructId). StructType s (types_of (map (type_at (types c.args.pool.now)) c.args.parts))) c.in_ok-try_clone.ensures) c.add.ensures.number c.add.ensures.types
