use Rattle.std.proofs.Common.{sym, ap}
use Rattle.unification.specs.Slots.{value}
use Rattle.unification.specs.declared.type_variables.slots.Term.TheVariants.{Grouped}
use Rattle.unification.proofs.Heading.{struct_moved}
use Rattle.unification.proofs.type_variables.heads.made_struct.Goals as goal

pub returns-in-Grouped-clause-is : goal.returns-in-Grouped-clause-is
returns-in-Grouped-clause-is c t m = struct_moved t (value t (Grouped c.in-Grouped.group c.in-Grouped.first c.in-Grouped.count)) (value t c.args.term) c.group_struct.result (ap (value t) (sym c.in-Grouped.is)) (c.group_struct.ensures.is t)
