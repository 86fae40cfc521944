use Rattle.std.proofs.Common.{◌≡◌, ◌++◌, ℕ, map, take, cond, nat_eq}
use Rattle.base.specs.Lists.{list_in}
use Rattle.axiom_strategy.specs.Positions.{at_group}
use Rattle.axiom_strategy.proofs.decisions.positions.Positions.put.Given as goal

abbrev pub invariant-loop-term : goal.invariant-loop-term
invariant-loop-term l = record {
  all : l.self.all.items ≡ l.fn.self.all.items ++ map (at_group l.group) (take l.term-index l.terms);
  by_group : (k : ℕ) → list_in l.self.by_group k ≡ cond (nat_eq k l.group) (list_in l.fn.self.by_group k ++ take l.term-index l.terms) (list_in l.fn.self.by_group k);
}
