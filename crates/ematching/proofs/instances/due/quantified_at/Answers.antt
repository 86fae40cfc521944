use Rattle.std.proofs.Common.{sym, ◌∙◌}
use Rattle.term_pool.specs.Pools.{item_at}
use Rattle.ematching.proofs.QuantifierLemmas.{free_formula}
use Rattle.ematching.proofs.StepLemmas.{nothing_at, too_old, not_quantified, entry_quantified}
use Rattle.ematching.proofs.instances.due.quantified_at.Goals as goal

pub returns-in_default-clause-is : goal.returns-in_default-clause-is
returns-in_default-clause-is c = nothing_at c.args.pool.now c.args.branch.now c.requires.over c.args.i (sym c.in_default.ensures)

pub returns-then-entry-ge-MOST_GENERATIONS-clause-is : goal.returns-then-entry-ge-MOST_GENERATIONS-clause-is
returns-then-entry-ge-MOST_GENERATIONS-clause-is c = too_old c.args.pool.now c.args.branch.now c.requires.over c.args.i c.in-Some.entry (sym c.in-Some.ensures) c.if-entry-ge-MOST_GENERATIONS.true

pub quantified-requires : goal.quantified-requires
quantified-requires c = c.requires.over.formulas c.args.i c.in-Some.entry (sym c.in-Some.ensures)

pub returns-in_default-quantified-clause-is : goal.returns-in_default-quantified-clause-is
returns-in_default-quantified-clause-is c = not_quantified c.args.pool.now c.args.branch.now c.requires.over c.args.i c.in-Some.entry (sym c.in-Some.ensures) c.in_default-quantified.ensures

pub is_free-requires : goal.is_free-requires
is_free-requires c = record { free = c.requires.free; number = c.in-Some-quantified.ensures.body.within }

pub returns-clause-is : goal.returns-clause-is
returns-clause-is c = entry_quantified c.args.pool.now c.args.branch.now c.requires.over c.args.i c.in-Some.entry (sym c.in-Some.ensures) c.in-Some-quantified.universal c.in-Some-quantified.ensures c.in_ok-is_free.is_free (c.in_ok-is_free.ensures.is ∙ free_formula (item_at c.args.pool.now c.in-Some-quantified.universal.body) c.in-Some-quantified.ensures.body.sort)
