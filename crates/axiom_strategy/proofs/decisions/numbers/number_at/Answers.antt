use Rattle.std.proofs.Common.{sym}
use Rattle.axiom_strategy.proofs.NumberLemmas.{past_number, entry_number}
use Rattle.axiom_strategy.proofs.decisions.numbers.number_at.Goals as goal

pub number_said-requires : goal.number_said-requires
number_said-requires c = c.requires.formulas c.args.i c.in-Some.entry (sym c.in-Some.ensures)

pub returns-in-Some : goal.returns-in-Some
returns-in-Some c = entry_number c.args.pool.now c.args.branch.now c.args.i c.in-Some.entry (sym c.in-Some.ensures) c.number_said.result c.number_said.ensures

pub returns-in-None : goal.returns-in-None
returns-in-None c = past_number c.args.pool.now c.args.branch.now c.args.i (sym c.in-None.ensures)
