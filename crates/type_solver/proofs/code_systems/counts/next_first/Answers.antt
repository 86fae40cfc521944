use Rattle.std.proofs.Common.{ℕ, ◌+◌, ap, ◌∙◌}
use Rattle.std.proofs.lemmas.Result.{IfOk-weaker}
use Rattle.type_constraints.specs.CodeSettings.{setting_of}
use Rattle.type_solver.proofs.Steps.{next_argument}
use Rattle.type_solver.proofs.code_systems.counts.next_first.Goals as goal

pub returns : goal.returns
returns c = IfOk-weaker c.sum.result _ _
    (λ next e. next_argument (setting_of c.args.setting) c.args.index next c.args.first c.node.result.now c.node.ensures.node c.requires.first (e ∙ ap (λ (n : ℕ). c.args.first + n) c.node_arity-count.ensures))
    c.sum.ensures
