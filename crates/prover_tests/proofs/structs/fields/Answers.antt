use Rattle.std.proofs.Common.{List, length, ap, arith}
use Rattle.base.specs.TypeData.{TypeData, list_of_types-types_of}
use Rattle.prover_tests.proofs.structs.fields.Goals as goal

pub returns : goal.returns
returns c = let same = ap (λ (ts : List TypeData). length ts) (list_of_types-types_of c.loop-position.items.items) in let long = c.loop-position.invariant in omega (arith, same, long)
