use Rattle.std.proofs.Common.{◌<◌, length}
use Rattle.std.specs.List.{AllByRecursion}
use Rattle.front_end_tests.proofs.limit_tests.read.Given as goal

-- each file is short
abbrev pub invariant-loop-text : goal.invariant-loop-text
invariant-loop-text g l = AllByRecursion (λ bytes. length bytes < 4294967296) l.files.items
