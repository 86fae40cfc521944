use Rattle.std.proofs.Common.{◌≡◌, ℕ, ◌<◌, get_or}
use Rattle.std.specs.Prelude.{All}
use Rattle.linear_arith.specs.Closure.{HasSum}
use Rattle.linear_arith.specs.Stages.{IsStageBefore, IsUnderWay, IsExtended}
use Rattle.linear_arith.specs.declared.elimination.Derived.{Derived}
use Rattle.linear_arith.proofs.elimination.Elimination.add_sums.Given as goal

abbrev pub invariant-loop-upper : goal.invariant-loop-upper
invariant-loop-upper l = record {
  unknowns : l.self.unknowns.items ≡ l.fn.self.unknowns.items;
  under_way : IsUnderWay l.system.width l.system.rows.now l.self;
  before : IsStageBefore l.system.width l.system.rows.now l.self.found l.self.unknowns.items l.stage;
  grown : IsExtended l.fn.self l.self;
  sums : (k : ℕ) (d : Derived) → k < l.upper-index → All (λ (lower : Derived). HasSum l.self.found l.stage.unknown (get_or l.stage.upper.items k d).row lower.row) l.stage.lower.items;
}

abbrev pub invariant-loop-lower : goal.invariant-loop-lower
invariant-loop-lower l = record {
  unknowns : l.self.unknowns.items ≡ l.fn.self.unknowns.items;
  under_way : IsUnderWay l.system.width l.system.rows.now l.self;
  before : IsStageBefore l.system.width l.system.rows.now l.self.found l.self.unknowns.items l.stage;
  grown : IsExtended l.fn.self l.self;
  sums : (k : ℕ) (d : Derived) → k < l.upper-index → All (λ (lower : Derived). HasSum l.self.found l.stage.unknown (get_or l.stage.upper.items k d).row lower.row) l.stage.lower.items;
  here : (k : ℕ) (d : Derived) → k < l.lower-index → HasSum l.self.found l.stage.unknown l.upper.row (get_or l.stage.lower.items k d).row;
}
