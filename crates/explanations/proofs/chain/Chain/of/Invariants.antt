use Rattle.std.proofs.Common.{◌≡◌, take, nat_eq}
use Rattle.indexmap.specs.IndexMap.{get}
use Rattle.explanations.specs.Chains.{ArePositions}
use Rattle.explanations.proofs.chain.Chain.of.Given as goal

abbrev pub invariant-loop-formula : goal.invariant-loop-formula
invariant-loop-formula l = record {
  positions : ArePositions l.formulas.items (get nat_eq l.positions);
  formulas : l.formulas.items ≡ take l.formula-index l.entries;
}
