use Rattle.std.proofs.Common.{◌≡◌, ◌∷◌, drop}
use Rattle.typing_rules.specs.CodeConstraints.{last_constraints}
use Rattle.type_constraints.proofs.code.many.add_last.Given as goal

abbrev pub invariant-loop-part : goal.invariant-loop-part
invariant-loop-part l = last_constraints l.variable (l.last ∷ drop l.part-index l.rest) ≡ last_constraints l.variable l.parts
