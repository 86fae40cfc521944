use Rattle.std.proofs.Common.{take}
use Rattle.std.specs.Prelude.{All}
use Rattle.certificates.specs.Due.{IsShallow}
use Rattle.tableau.specs.Numbers.{formula_at}
use Rattle.tableau.proofs.rules.stands.are_shallow.Given as goal

abbrev pub invariant-loop-formula : goal.invariant-loop-formula
invariant-loop-formula l = All (λ n. IsShallow (formula_at l.pool n)) (take l.formula-index l.formulas)
