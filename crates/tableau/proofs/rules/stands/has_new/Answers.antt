use Rattle.std.proofs.Common.{refl}
use Rattle.std.proofs.lemmas.List.Elements.{All-more}
use Rattle.certificates.specs.BranchesBranch.{Stands}
use Rattle.tableau.specs.PoolBranches.{branch_in}
use Rattle.tableau.specs.Numbers.{formula_at}
use Rattle.tableau.proofs.StandLemmas.{none_new_taken}
use Rattle.tableau.proofs.rules.stands.has_new.Goals as goal

pub loop-formula-preserved : goal.loop-formula-preserved
loop-formula-preserved c =
    All-more (λ n. Stands (branch_in c.args.pool.now c.args.branch.now) (formula_at c.args.pool.now n)) c.args.formulas.now c.loop-formula.formula-index 0 c.loop-formula-test.true c.loop-formula.invariant (c.if-not-stands.ensures.0 refl)

pub returns : goal.returns
returns c = (
  λ e. absurd (cc),
  λ h. absurd (none_new_taken c.args.pool.now (branch_in c.args.pool.now c.args.branch.now) c.args.formulas.now c.loop-formula.formula-index c.loop-formula-test.false c.loop-formula.invariant h),
)
