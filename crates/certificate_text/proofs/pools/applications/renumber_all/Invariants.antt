use Rattle.std.proofs.Common.{◌≡◌, ◌++◌, map, take, drop}
use Rattle.certificate_text.specs.Nodes.{new_number}
use Rattle.certificate_text.proofs.pools.applications.renumber_all.Given as goal

abbrev pub invariant-loop-formula : goal.invariant-loop-formula
invariant-loop-formula l = l.formulas ≡ map (new_number l.numbers) (take l.formula-index l.fn.formulas) ++ drop l.formula-index l.fn.formulas
