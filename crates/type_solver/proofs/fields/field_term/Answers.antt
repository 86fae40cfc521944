use Rattle.std.proofs.Common.{Bool, sym, subst}
use Rattle.std.proofs.lemmas.Result.{IfOk-weaker}
use Rattle.typing_rules.specs.Constraint.{arguments}
use Rattle.typing_rules.specs.Instances.{instance, read_type}
use Rattle.type_solver.specs.Equations.{TermSaid}
use Rattle.type_solver.proofs.fields.field_term.Goals as goal

pub returns-then-is_spec-clause-said : goal.returns-then-is_spec-clause-said
returns-then-is_spec-clause-said c = IfOk-weaker c.read.result _ _ (λ q s.
    subst (λ (b : Bool). TermSaid c.args.slots.now.items c.read.new.slots.items q (λ t. instance (arguments t c.args.parameters.base c.args.parameters.count) (read_type b c.args.of.now)))
    (sym c.if-is_spec.true) s) c.read.ensures.said

pub returns-else-is_spec-clause-said : goal.returns-else-is_spec-clause-said
returns-else-is_spec-clause-said c = IfOk-weaker c.declared.result _ _ (λ q s.
    subst (λ (b : Bool). TermSaid c.args.slots.now.items c.declared.new.slots.items q (λ t. instance (arguments t c.args.parameters.base c.args.parameters.count) (read_type b c.args.of.now)))
    (sym c.if-is_spec.false) s) c.declared.ensures.said
