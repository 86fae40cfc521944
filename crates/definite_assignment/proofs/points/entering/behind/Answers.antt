use Rattle.std.proofs.Common.{ap, ◌∙◌}
use Rattle.typing_rules.specs.Flows.{Onward}
use Rattle.definite_assignment.specs.LocalEffects.{LocalEffect, at_some}
use Rattle.definite_assignment.specs.Views.{is_in}
use Rattle.definite_assignment.proofs.points.entering.behind.Goals as goal

pub returns : goal.returns
returns c = λ i base f state h shows.
    c.from_states.ensures.ends i Onward state
    ∙ ap (λ (e : LocalEffect). at_some (λ s. is_in c.args.states s i) (λ had. e.ends had Onward state)) (shows.shown i h)
