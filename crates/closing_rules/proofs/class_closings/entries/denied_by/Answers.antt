use Rattle.std.proofs.Common.{sym}
use Rattle.fol.specs.FormulaData.{NotFormula}
use Rattle.closing_rules.proofs.ClashLemmas.{past_says, no_denial_said}
use Rattle.closing_rules.proofs.class_closings.entries.denied_by.Goals as goal

pub returns-in_default : goal.returns-in_default
returns-in_default c = absurd (past_says c.args.pool.now c.args.branch.now c.args.entry (NotFormula c.requires.denies.formula) c.in_default.ensures c.requires.denies.denies)

pub returns-in-Some-denied : goal.returns-in-Some-denied
returns-in-Some-denied c = record { entry = c.in-Some.found; found = sym c.in-Some.ensures; denial = c.in-Some-denied.ensures }

pub returns-in-None : goal.returns-in-None
returns-in-None c = absurd (no_denial_said c.args.pool.now c.args.branch.now c.args.entry c.in-Some.found (sym c.in-Some.ensures) c.in-None.ensures c.requires.denies.formula c.requires.denies.denies)
