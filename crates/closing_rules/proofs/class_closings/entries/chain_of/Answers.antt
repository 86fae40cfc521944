use Rattle.std.proofs.Common.{◌∙◌}
use Rattle.tableau.specs.PoolBranches.{branch_in}
use Rattle.closing_rules.proofs.EntryLemmas.{entries_are}
use Rattle.closing_rules.proofs.class_closings.entries.chain_of.Goals as goal

pub returns-clause-formulas : goal.returns-clause-formulas
returns-clause-formulas c = c.in_ok-chain.ensures.formulas ∙ c.as_slice.ensures.value ∙ c.in_ok-numbers.ensures

pub returns-clause-chain : goal.returns-clause-chain
returns-clause-chain c = λ ns over most. c.in_ok-chain.ensures.chain ns (branch_in ns c.args.branch.now) (entries_are ns c.args.branch.now over c.as_slice.result.now (c.as_slice.ensures.value ∙ c.in_ok-numbers.ensures)) most
