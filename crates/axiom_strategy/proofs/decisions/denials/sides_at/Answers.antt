use Rattle.std.proofs.Common.{sym}
use Rattle.axiom_strategy.proofs.DenialLemmas.{past_denies, entry_denies}
use Rattle.axiom_strategy.proofs.decisions.denials.sides_at.Goals as goal

pub sides_denied-requires : goal.sides_denied-requires
sides_denied-requires c = c.requires.formulas c.args.i c.in-Some.entry (sym c.in-Some.ensures)

pub returns-in-Some : goal.returns-in-Some
returns-in-Some c = entry_denies c.args.pool.now c.args.branch.now c.args.i c.in-Some.entry (sym c.in-Some.ensures) c.sides_denied.result c.sides_denied.ensures

pub returns-in-None : goal.returns-in-None
returns-in-None c = past_denies c.args.pool.now c.args.branch.now c.args.i (sym c.in-None.ensures)
