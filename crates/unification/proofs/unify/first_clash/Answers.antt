use Rattle.std.proofs.Common.{◌≡◌, ◌+◌, length, take, subst, arith, ℕ}
use Rattle.base.specs.TypeData.{BoolType}
use Rattle.unification.specs.Unifiers.{HasNoUnifier}
use Rattle.unification.proofs.Solving.{some_pairs}
use Rattle.unification.proofs.unify.first_clash.Goals as goal

pub loop-high-init : goal.loop-high-init
loop-high-init c = record {
  between = some_pairs c.args.variables (length c.args.pairs.now) c.args.pairs.now c.requires;
  within = omega arith;
  before = ((λ p. BoolType), tt);
  none = c.requires;
}

pub returns : goal.returns
returns c =
    let e : c.loop-high.high ≡ c.loop-high.low + 1 = omega (arith, c.loop-high.invariant.between, c.loop-high-test.false) in
    record {
      within = omega (arith, c.loop-high.invariant.between, c.loop-high.invariant.within);
      before = c.loop-high.invariant.before;
      none = subst (λ (n : ℕ). HasNoUnifier c.args.variables (take n c.args.pairs.now)) e c.loop-high.invariant.none;
    }
