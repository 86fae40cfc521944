use Rattle.std.proofs.Common.{◌∙◌}
use Rattle.std.proofs.lemmas.List.{take_all}
use Rattle.explanations.proofs.ChainLemmas.{begun}
use Rattle.explanations.proofs.chain.Chain.of.Goals as goal

pub returns-clause-chain : goal.returns-clause-chain
returns-clause-chain c = λ ns b entries most. begun ns b c.args.entries.now _ (c.loop-formula.invariant.formulas ∙ take_all c.loop-formula.formula-index c.args.entries.now c.loop-formula-test.false) c.new.ensures.items entries most
