use Rattle.std.proofs.Common.{subst}
use Rattle.unification.specs.declared.type_variables.slots.Wrap.{Wrap}
use Rattle.unification.specs.declared.type_variables.heads.KindSeen.TheVariants.{To}
use Rattle.type_solver.specs.Equations.{KindSaid}
use Rattle.type_solver.proofs.Returning.{part_vector, part_shared, part_lent}
use Rattle.type_solver.proofs.returned.lent_to.Goals as goal

pub returns-in_ok-shared-in-Mutable-clause-said : goal.returns-in_ok-shared-in-Mutable-clause-said
returns-in_ok-shared-in-Mutable-clause-said c before seen e i wanted at said shared = part_lent before seen c.args.slots.now.items c.wrap_term.new.slots.items e i c.args.variable wanted c.args.to c.in_ok-shared-in-Mutable.shared at
    (subst (λ (k : Wrap). KindSaid seen c.args.slots.now.items c.args.variable (To k c.args.to)) c.in-Mutable.is said) shared c.in_ok-shared-in-Mutable.ensures.grows c.in_ok-shared-in-Mutable.ensures.is

pub returns-in-Vector-clause-said : goal.returns-in-Vector-clause-said
returns-in-Vector-clause-said c before seen e i wanted at said shared = part_vector before seen c.args.slots.now.items e i c.args.variable wanted c.args.to
    (subst (λ (k : Wrap). KindSaid seen c.args.slots.now.items c.args.variable (To k c.args.to)) c.in-Vector.is said)

pub returns-in-Shared-clause-said : goal.returns-in-Shared-clause-said
returns-in-Shared-clause-said c before seen e i wanted at said shared = part_shared before seen c.args.slots.now.items e i c.args.variable wanted c.args.to
    (subst (λ (k : Wrap). KindSaid seen c.args.slots.now.items c.args.variable (To k c.args.to)) c.in-Shared.is said)
