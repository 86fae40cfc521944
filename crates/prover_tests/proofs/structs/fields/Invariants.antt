use Rattle.std.proofs.Common.{◌≡◌, length}
use Rattle.prover_tests.proofs.structs.fields.Given as goal

abbrev pub invariant-loop-position : goal.invariant-loop-position
invariant-loop-position l = length l.items.items ≡ l.position
