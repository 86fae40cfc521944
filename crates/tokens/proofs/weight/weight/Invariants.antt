use Rattle.std.proofs.Common.{◌≡◌, ◌≤◌, max, drop}
use Rattle.tokens.specs.Weight.{greatest_weight, greatest, weights, weight_of}
use Rattle.tokens.proofs.weight.weight.Given as goal

abbrev pub invariant-loop-token : goal.invariant-loop-token
invariant-loop-token l =
    (weight_of l.levels ≤ 200) × (l.greatest ≤ 200) × (max l.greatest (greatest (weights l.levels (drop l.token-index l.token-items))) ≡ greatest_weight l.tokens)
