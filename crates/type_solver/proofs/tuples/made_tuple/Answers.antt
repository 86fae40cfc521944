use Rattle.std.proofs.Common.{sym, ap, subst}
use Rattle.base.specs.TypeData.{TypeData}
use Rattle.unification.specs.Slots.{value}
use Rattle.type_solver.specs.Tuples.{TupleIs}
use Rattle.type_solver.proofs.tuples.made_tuple.Goals as goal

pub returns-in-Grouped-clause-is : goal.returns-in-Grouped-clause-is
returns-in-Grouped-clause-is c t m = subst (λ (a : TypeData). TupleIs t a c.group_tuple.result) (ap (value t) (sym c.in-Grouped.is)) (c.group_tuple.ensures.is t)
