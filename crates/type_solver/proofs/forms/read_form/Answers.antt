use Rattle.std.proofs.Common.{sym, subst, refl}
use Rattle.std.proofs.lemmas.Result.{IfOk-weaker}
use Rattle.base.specs.TypeData.{TypeData}
use Rattle.type_constraints.specs.Seen.{read_data}
use Rattle.type_constraints.specs.declared.constraint.ReadType.{ReadType}
use Rattle.type_constraints.proofs.SpecReading.{read_plain}
use Rattle.unification.specs.declared.type_variables.slots.Term.TheVariants.{Closed}
use Rattle.type_solver.specs.Equations.{TermSaid}
use Rattle.type_solver.proofs.Forming.{said_same}
use Rattle.type_solver.proofs.forms.read_form.Goals as goal

pub returns-in-Known-clause-said : goal.returns-in-Known-clause-said
returns-in-Known-clause-said c =
    subst (λ (r : ReadType). TermSaid c.args.slots.now.items c.args.slots.now.items (Closed c.in-Known.known) (λ t. read_data r)) (sym c.in-Known.is)
    (said_same c.args.slots.now.items (Closed c.in-Known.known) (λ t. c.in-Known.known.now) c.requires.fits tt (λ t. refl))

pub returns-in-Read-clause-said : goal.returns-in-Read-clause-said
returns-in-Read-clause-said c = IfOk-weaker c.read.result _ _ (λ q s.
    subst (λ (r : ReadType). TermSaid c.args.slots.now.items c.read.new.slots.items q (λ t. read_data r)) (sym c.in-Read.is)
    (subst (λ (of : TypeData). TermSaid c.args.slots.now.items c.read.new.slots.items q (λ t. of)) (read_plain c.in-Read.written.now) s)) c.read.ensures.said

pub returns-in-ReadIn-clause-said : goal.returns-in-ReadIn-clause-said
returns-in-ReadIn-clause-said c = IfOk-weaker c.read-in-ReadIn.result _ _ (λ q s.
    subst (λ (r : ReadType). TermSaid c.args.slots.now.items c.read-in-ReadIn.new.slots.items q (λ t. read_data r)) (sym c.in-ReadIn.is) s) c.read-in-ReadIn.ensures.said
