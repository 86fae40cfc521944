use Rattle.step_checks.proofs.ChoiceLemmas.{chosen_decided}
use Rattle.step_checks.proofs.elimination.choices.is_chosen.Goals as goal

pub returns : goal.returns
returns c = chosen_decided c.args.rows.now c.args.before.now c.args.values.now c.args.value.now c.in_ok-bounds.bounds.items c.as_slice.result.now c.is_between.result c.in_ok-bounds.ensures c.as_slice.ensures.value c.is_between.ensures
