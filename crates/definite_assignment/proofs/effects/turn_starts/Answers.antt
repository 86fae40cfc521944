use Rattle.std.proofs.Common.{true, false, ap, ◌∙◌}
use Rattle.typing_rules.specs.Flows.{Onward}
use Rattle.definite_assignment.specs.LocalEffects.{LocalEffect, then_of, to_next_of}
use Rattle.definite_assignment.specs.Views.{view}
use Rattle.definite_assignment.proofs.StateLaws.{effect_same}
use Rattle.definite_assignment.proofs.effects.turn_starts.Goals as goal

pub returns-clause-lacking : goal.returns-clause-lacking
returns-clause-lacking c i false h = c.all-all.ensures i h
returns-clause-lacking c i true h =
    c.then-turn.ensures.ends i false Onward true
    ∙ ap (λ (e : LocalEffect). (then_of (view c.args.test.now i) e).ends false Onward true) (effect_same (view c.to_next.result i) (to_next_of (view c.args.body.now i)) (c.to_next.ensures.ends i) (c.to_next.ensures.broken i))

pub returns-clause-having : goal.returns-clause-having
returns-clause-having c i false h =
    c.then-turn.ensures.ends i true Onward false
    ∙ ap (λ (e : LocalEffect). (then_of (view c.args.test.now i) e).ends true Onward false) (effect_same (view c.to_next.result i) (to_next_of (view c.args.body.now i)) (c.to_next.ensures.ends i) (c.to_next.ensures.broken i))
returns-clause-having c i true h = c.all-all.ensures i h
