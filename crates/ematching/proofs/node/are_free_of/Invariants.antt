use Rattle.std.proofs.Common.{◌≡◌, false, take}
use Rattle.std.specs.Prelude.{All}
use Rattle.substitution.specs.Free.{free_in}
use Rattle.ematching.specs.Numbers.{formula_at}
use Rattle.ematching.proofs.node.are_free_of.Given as goal

abbrev pub invariant-loop-variable : goal.invariant-loop-variable
invariant-loop-variable l =
    All (λ n. free_in n (formula_at l.pool l.formula) ≡ false) (take l.variable-index l.variables)
