use Rattle.std.proofs.Common.{◌<◌, ◌≤◌, ◌-◌, length, take}
use Rattle.unification.specs.Unifiers.{HasUnifier, HasNoUnifier}
use Rattle.unification.proofs.unify.first_clash.Given as goal

abbrev pub invariant-loop-high : goal.invariant-loop-high
invariant-loop-high l = record {
  between : l.low < l.high;
  within : l.high ≤ length l.pairs;
  before : HasUnifier l.variables (take l.low l.pairs);
  none : HasNoUnifier l.variables (take l.high l.pairs);
}

abbrev pub decreases-loop-high : goal.decreases-loop-high
decreases-loop-high l = l.high - l.low
