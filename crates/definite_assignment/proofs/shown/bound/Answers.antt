use Rattle.std.proofs.Common.{◌+◌, false, sym, ◌∙◌}
use Rattle.definite_assignment.specs.LocalEffects.{is_among}
use Rattle.definite_assignment.proofs.EventLaws.{step_shown, bound_step}
use Rattle.definite_assignment.proofs.shown.bound.Goals as goal

pub returns : goal.returns
returns c = λ base ls means. record {
  shown = λ i h.
      step_shown c.effects.result c.args.locals c.none.result.loses c.none.result.needs c.none.result.leaves c.effects.ensures.ends c.effects.ensures.broken i h (is_among (base + i) ls) false false false (means.meant i h) (c.none.ensures.loses i) (c.none.ensures.needs i) (c.none.ensures.leaves i) ∙ sym (bound_step (base + i) ls);
}
