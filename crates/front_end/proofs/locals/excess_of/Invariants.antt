use Rattle.std.proofs.Common.{◌≡◌, take}
use Rattle.std.specs.Prelude.{None}
use Rattle.front_end.specs.LocalCounts.{excess_of_module, first_of}
use Rattle.front_end.proofs.locals.excess_of.Given as goal

abbrev pub invariant-loop-module : goal.invariant-loop-module
invariant-loop-module l = first_of excess_of_module (take l.module-index l.modules) ≡ None
