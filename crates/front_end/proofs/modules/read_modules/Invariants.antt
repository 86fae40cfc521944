use Rattle.std.proofs.Common.{take}
use Rattle.front_end.specs.Modules.{numbered}
use Rattle.front_end.specs.ModuleReading.{AreRead}
use Rattle.front_end.proofs.modules.read_modules.Given as goal

abbrev pub invariant-loop-number : goal.invariant-loop-number
invariant-loop-number l = AreRead (numbered 0 (take l.number l.sources)) l.found.modules.items l.found.taken
