use Rattle.step_checks.proofs.GivenLemmas.{no_parts, parts_given}
use Rattle.step_checks.proofs.applications.entries.are_parts_due.Goals as goal

pub returns-in_default-clause-exact : goal.returns-in_default-clause-exact
returns-in_default-clause-exact c =
    no_parts c.args.pool.now c.parts_at.new.pool c.parts_at.ensures.extends c.args.branch.now c.requires.over c.args.entry c.args.formulas.now c.requires.formulas (rw c.in_default.is at c.in_ok-found.ensures.due).none

pub returns-clause-exact : goal.returns-clause-exact
returns-clause-exact c =
    parts_given c.args.pool.now c.parts_at.new.pool c.parts_at.ensures.extends c.args.branch.now c.requires.over c.args.entry c.args.formulas.now c.requires.formulas c.one_number.ensures c.in-Some.found.items (rw c.in-Some.is at c.in_ok-found.ensures.due) c.are_same.result (rw c.as_slice.ensures.value at c.are_same.ensures)
