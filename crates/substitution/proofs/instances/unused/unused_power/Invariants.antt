use Rattle.std.proofs.Common.{◌-◌, ◌<◌, ◌^◌}
use Rattle.substitution.proofs.instances.unused.unused_power.Given as goal

abbrev pub invariant-loop-low : goal.invariant-loop-low
invariant-loop-low l = 0 < l.low

-- the first number doubles until it overflows 32 bits
abbrev pub decreases-loop-low : goal.decreases-loop-low
decreases-loop-low l = 2 ^ 32 - l.low
