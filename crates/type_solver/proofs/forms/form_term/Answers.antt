use Rattle.std.proofs.Common.{sym, subst}
use Rattle.std.proofs.lemmas.Result.{IfOk-weaker}
use Rattle.type_constraints.specs.Seen.{plain_type, seen_form}
use Rattle.type_constraints.specs.declared.constraint.TypeForm.{TypeForm}
use Rattle.typing_rules.specs.Constraint.{form_type}
use Rattle.type_solver.specs.Equations.{TermSaid}
use Rattle.std.proofs.Common.{◌≤◌, ◌+◌, length, ap}
use Rattle.base.specs.TypeData.{StructType}
use Rattle.unification.specs.declared.type_variables.slots.Term.TheVariants.{Grouped}
use Rattle.unification.specs.declared.type_variables.slots.Group.TheVariants.{Struct}
use Rattle.typing_rules.specs.Constraint.{types_at}
use Rattle.type_solver.specs.Within.{FormWithin}
use Rattle.type_solver.proofs.Bridges.{types_at_same}
use Rattle.type_solver.proofs.Forming.{said_same}
use Rattle.type_solver.proofs.forms.form_term.Goals as goal

pub returns-in-Declared-clause-said : goal.returns-in-Declared-clause-said
returns-in-Declared-clause-said c = IfOk-weaker c.declared.result _ _ (λ q s. subst (λ (f : TypeForm). TermSaid c.args.slots.now.items c.declared.new.slots.items q (λ t. form_type t (seen_form f))) (sym c.in-Declared.is) s) c.declared.ensures.said

pub returns-in-DeclaredRead-clause-said : goal.returns-in-DeclaredRead-clause-said
returns-in-DeclaredRead-clause-said c = IfOk-weaker c.read.result _ _ (λ q s. subst (λ (f : TypeForm). TermSaid c.args.slots.now.items c.read.new.slots.items q (λ t. form_type t (seen_form f))) (sym c.in-DeclaredRead.is) s) c.read.ensures.said

pub returns-in-Read-clause-said : goal.returns-in-Read-clause-said
returns-in-Read-clause-said c = IfOk-weaker c.read_form.result _ _ (λ q s. subst (λ (f : TypeForm). TermSaid c.args.slots.now.items c.read_form.new.slots.items q (λ t. form_type t (seen_form f))) (sym c.in-Read.is) s) c.read_form.ensures.said

pub returns-in-Builtin-clause-said : goal.returns-in-Builtin-clause-said
returns-in-Builtin-clause-said c = IfOk-weaker c.builtin.result _ _ (λ q s. subst (λ (f : TypeForm). TermSaid c.args.slots.now.items c.builtin.new.slots.items q (λ t. form_type t (seen_form f))) (sym c.in-Builtin.is) s) c.builtin.ensures.said

pub returns-in-Plain-clause-said : goal.returns-in-Plain-clause-said
returns-in-Plain-clause-said c =
    subst (λ (f : TypeForm). TermSaid c.args.slots.now.items c.args.slots.now.items c.plain_term.result (λ t. form_type t (seen_form f))) (sym c.in-Plain.is)
    (said_same c.args.slots.now.items c.plain_term.result (λ t. plain_type c.in-Plain.plain) c.requires.fits (c.plain_term.ensures.within (length c.args.slots.now.items)) c.plain_term.ensures.is)

pub returns-in-Applied-clause-said : goal.returns-in-Applied-clause-said
returns-in-Applied-clause-said c =
    let le : c.in-Applied.first + c.in-Applied.count ≤ length c.args.slots.now.items = subst (λ (f : TypeForm). FormWithin (length c.args.slots.now.items) (seen_form f)) c.in-Applied.is c.requires.within in
    subst (λ (f : TypeForm). TermSaid c.args.slots.now.items c.args.slots.now.items (Grouped (Struct c.in-Applied.id) c.in-Applied.first c.in-Applied.count) (λ t. form_type t (seen_form f))) (sym c.in-Applied.is)
    (said_same c.args.slots.now.items (Grouped (Struct c.in-Applied.id) c.in-Applied.first c.in-Applied.count) (λ t. StructType c.in-Applied.id.now (types_at t c.in-Applied.first c.in-Applied.count)) c.requires.fits le
    (λ t. ap (StructType c.in-Applied.id.now) (types_at_same t c.in-Applied.first c.in-Applied.count)))
