use Rattle.tableau.specs.Numbers.{formula_at}
use Rattle.axiom_strategy.specs.Known.{list_at}
use Rattle.strategy.proofs.RangeLemmas.{no_range, no_range_untyped, range_listed, listed_range}
use Rattle.strategy.proofs.early.ranges.is_range.Goals as goal

pub returns-in_default-clause-is : goal.returns-in_default-clause-is
returns-in_default-clause-is c = (
  λ e. absurd (cc),
  λ h. absurd (no_range (formula_at c.args.pool.now c.args.formula) c.in_default.ensures h),
)

pub returns-in_default-typing_of-clause-is : goal.returns-in_default-typing_of-clause-is
returns-in_default-typing_of-clause-is c = (
  λ e. absurd (cc),
  λ h. absurd (no_range_untyped c.args.pool.now (formula_at c.args.pool.now c.args.formula) c.in-Some.left c.in-Some.ensures c.in_default-typing_of.ensures h),
)

pub position_of-requires-clause-asker : goal.position_of-requires-clause-asker
position_of-requires-clause-asker c = record { of = c.in-Some-typing_of.ensures.of; term = c.in-Some-typing_of.ensures.term }

pub returns-clause-is : goal.returns-clause-is
returns-clause-is c =
    let ns = c.args.pool.now in
    let ms = c.position_of.new.pool in
    let xs = list_at c.position_of.new.self c.in_ok-position.position in
    let grown = c.position_of.ensures.extends in
    let all = c.in_ok-position.ensures.all in
    let listed = rw c.list.ensures at c.lists_range.ensures in (
      λ e. range_listed ns ms grown c.one_number.ensures c.args.formula c.requires.formula c.args.shapes.now c.in-Some.left c.in-Some.ensures c.in-Some-typing_of.typing c.in-Some-typing_of.ensures xs all (listed.0 e),
      λ h. listed.1 (listed_range ns ms grown c.one_number.ensures c.args.formula c.requires.formula c.args.shapes.now c.in-Some.left c.in-Some.ensures c.in-Some-typing_of.typing c.in-Some-typing_of.ensures xs all h),
    )
