use Rattle.std.proofs.Common.{sym, subst, ◌∙◌, length}
use Rattle.type_constraints.specs.Seen.{builtin_type, plain_type}
use Rattle.type_constraints.specs.declared.constraint.BuiltinType.{BuiltinType}
use Rattle.typing_rules.specs.Constraint.{arguments}
use Rattle.typing_rules.specs.Instances.{instance}
use Rattle.type_solver.specs.Equations.{TermSaid}
use Rattle.type_solver.proofs.Forming.{said_same, plain_instance}
use Rattle.type_solver.proofs.forms.builtin.Goals as goal

pub returns-in-Plain-clause-said : goal.returns-in-Plain-clause-said
returns-in-Plain-clause-said c =
    subst (λ (b : BuiltinType). TermSaid c.args.slots.now.items c.args.slots.now.items c.plain_term.result (λ t. instance (arguments t c.args.parameters.base c.args.parameters.count) (builtin_type b))) (sym c.in-Plain.is)
    (said_same c.args.slots.now.items c.plain_term.result (λ t. instance (arguments t c.args.parameters.base c.args.parameters.count) (plain_type c.in-Plain.plain)) c.requires.fits (c.plain_term.ensures.within (length c.args.slots.now.items))
    (λ t. c.plain_term.ensures.is t ∙ sym (plain_instance (arguments t c.args.parameters.base c.args.parameters.count) c.in-Plain.plain)))
