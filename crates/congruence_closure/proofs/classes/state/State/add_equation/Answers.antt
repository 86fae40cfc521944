use Rattle.std.proofs.Common.{◌∙◌}
use Rattle.congruence_closure.proofs.EquationLemmas.{equation_in}
use Rattle.congruence_closure.proofs.classes.state.State.add_equation.Goals as goal

pub returns-clause-kept : goal.returns-clause-kept
returns-clause-kept c =
    equation_in _ _ c.args.left c.args.right c.requires.left c.requires.right _ _ _ _ _ _ c.push.new.self.items c.push-2.new.self.items c.len.result c.requires.kept c.in_ok-push.ensures.items c.in_ok-push-2.ensures.items (c.len.ensures ∙ c.args.self.now.equations.ok.0)
