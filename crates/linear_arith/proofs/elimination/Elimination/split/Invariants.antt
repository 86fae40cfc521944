use Rattle.std.proofs.Common.{◌≡◌, ◌∷◌, ◌++◌, [], ℕ, List, pos, ◌<ℤ◌, ◌⊎◌}
use Rattle.std.specs.Prelude.{All, Contains}
use Rattle.linear_arith.specs.Inequality.{Inequality, coefficient}
use Rattle.linear_arith.specs.declared.elimination.Derived.{Derived}
use Rattle.linear_arith.specs.Stages.{IsDerived, IsStage, IsUnderWay}
use Rattle.linear_arith.proofs.elimination.Elimination.split.Given as goal

abbrev pub invariant-loop-made : goal.invariant-loop-made
invariant-loop-made l = record {
  unknown : l.stage.unknown ≡ l.unknown;
  unknowns : l.self.unknowns.items ≡ l.fn.self.unknowns.items ++ l.unknown ∷ [];
  found : l.self.found ≡ l.fn.self.found;
  keys : l.self.keys ≡ l.fn.self.keys;
  stages : l.self.stages ≡ l.fn.self.stages;
  rest : (width : ℕ) (rows : List Inequality) → IsUnderWay width rows l.fn.self → All (IsDerived width rows l.fn.self.unknowns.items) l.made-iterator.rest.items;
  stage : (width : ℕ) (rows : List Inequality) → IsUnderWay width rows l.fn.self → IsStage width rows l.fn.self.unknowns.items l.stage;
  live : (width : ℕ) (rows : List Inequality) → IsUnderWay width rows l.fn.self → All (IsDerived width rows (l.fn.self.unknowns.items ++ l.unknown ∷ [])) l.self.live.items;
  upper : (made : Derived) → Contains l.fn.self.live.items made → pos 0 <ℤ coefficient l.unknown made.total → Contains l.made-iterator.rest.items made ⊎ Contains l.stage.upper.items made;
  lower : (made : Derived) → Contains l.fn.self.live.items made → coefficient l.unknown made.total <ℤ pos 0 → Contains l.made-iterator.rest.items made ⊎ Contains l.stage.lower.items made;
  other : (made : Derived) → Contains l.fn.self.live.items made → coefficient l.unknown made.total ≡ pos 0 → Contains l.made-iterator.rest.items made ⊎ Contains l.self.live.items made;
  rest_from : (made : Derived) → Contains l.made-iterator.rest.items made → Contains l.fn.self.live.items made;
  upper_from : (made : Derived) → Contains l.stage.upper.items made → Contains l.fn.self.live.items made;
  lower_from : (made : Derived) → Contains l.stage.lower.items made → Contains l.fn.self.live.items made;
  other_from : (made : Derived) → Contains l.self.live.items made → Contains l.fn.self.live.items made;
}
