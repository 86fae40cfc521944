use Rattle.tree_checks.proofs.GrownKeptLemmas.{kept_stays}
use Rattle.tree_checks.proofs.GrownTruthLemmas.{on_ok}
use Rattle.tree_checks.proofs.grown.growing.is_growing.Goals as goal

pub returns-in-Parts-clause-kept : goal.returns-in-Parts-clause-kept
returns-in-Parts-clause-kept c = on_ok c.are_parts_growing.result (kept_stays c.args.pool.now c.are_parts_growing.new.pool c.are_parts_growing.ensures.extends c.args.branch.now c.requires.over c.args.kept.now c.requires.kept)

pub returns-in-Parts-clause-exact : goal.returns-in-Parts-clause-exact
returns-in-Parts-clause-exact c = c.are_parts_growing.ensures.exact c.args.shapes.now

pub returns-in-Name-clause-exact : goal.returns-in-Name-clause-exact
returns-in-Name-clause-exact c = c.is_name_growing.ensures.exact c.args.shapes.now

pub returns-in-Instance-clause-exact : goal.returns-in-Instance-clause-exact
returns-in-Instance-clause-exact c = c.is_instance_growing.ensures.exact c.args.shapes.now

pub returns-in-Split-clause-kept : goal.returns-in-Split-clause-kept
returns-in-Split-clause-kept c = on_ok c.are_cases_growing.result (kept_stays c.args.pool.now c.are_cases_growing.new.pool c.are_cases_growing.ensures.extends c.args.branch.now c.requires.over c.args.kept.now c.requires.kept)

pub returns-in-Split-clause-exact : goal.returns-in-Split-clause-exact
returns-in-Split-clause-exact c = c.are_cases_growing.ensures.exact c.args.shapes.now

pub returns-in-Cut-clause-exact : goal.returns-in-Cut-clause-exact
returns-in-Cut-clause-exact c = c.is_cut_growing.ensures.exact c.args.shapes.now

pub returns-in-Bound-clause-kept : goal.returns-in-Bound-clause-kept
returns-in-Bound-clause-kept c = on_ok c.are_bounds_growing.result (kept_stays c.args.pool.now c.are_bounds_growing.new.pool c.are_bounds_growing.ensures.extends c.args.branch.now c.requires.over c.args.kept.now c.requires.kept)

pub returns-in-Bound-clause-exact : goal.returns-in-Bound-clause-exact
returns-in-Bound-clause-exact c = c.are_bounds_growing.ensures.exact c.args.shapes.now
