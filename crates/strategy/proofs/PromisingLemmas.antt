-- Applications found by a heuristic.
use Rattle.std.proofs.Common.{Option, Some, None}
use Rattle.std.specs.Prelude.{IfSome, MatchOption}
use Rattle.search.specs.declared.trees.application.Extension.{Extension}

-- a result that is right in both cases is right if something is found
pub found_of : (P : Type 0) (R : Extension → Type 0) (o : Option Extension) → MatchOption o P R → IfSome o R
found_of P R None h = tt
found_of P R (Some extension) h = h
