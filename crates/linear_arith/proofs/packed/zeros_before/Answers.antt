use Rattle.std.proofs.Common.{◌≡◌, List, [], ◌∷◌, refl, length}
use Rattle.std.specs.Prelude.{slice_get}
use Rattle.std.proofs.Common.{None}
use Rattle.std.proofs.lemmas.Option.{none-some}
use Rattle.linear_arith.specs.declared.packed.Entry.{Entry}
use Rattle.linear_arith.proofs.PackedLemmas.{ahead_none}
use Rattle.linear_arith.proofs.packed.zeros_before.Goals as goal

no_first : (rest : List Entry) → None ≡ slice_get rest 0 → length rest ≡ 0
no_first [] e = refl
no_first (entry ∷ rest) e = absurd (none-some entry e)

pub returns-in-None : goal.returns-in-None
returns-in-None c = ahead_none 18446744073709551615 c.args.rest.now (no_first c.args.rest.now (rw c.in-None.is at c.first.ensures.value))
