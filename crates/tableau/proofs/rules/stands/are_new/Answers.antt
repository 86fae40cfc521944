use Rattle.std.proofs.Common.{◌≡◌, true, false, refl}
use Rattle.std.proofs.lemmas.List.Elements.{All-more}
use Rattle.certificates.specs.BranchesBranch.{IsNew}
use Rattle.tableau.specs.PoolBranches.{branch_in}
use Rattle.tableau.specs.Numbers.{formula_at}
use Rattle.tableau.proofs.StandLemmas.{not_all, all_taken}
use Rattle.tableau.proofs.rules.stands.are_new.Goals as goal

pub returns-then-stands : goal.returns-then-stands
returns-then-stands c = (
  λ e. absurd (cc),
  λ all. absurd (not_all (IsNew (branch_in c.args.pool.now c.args.branch.now)) (formula_at c.args.pool.now) c.args.formulas.now c.loop-formula.formula-index c.loop-formula-test.true (λ new. new.new (c.if-stands.ensures.0 refl)) all),
)

pub loop-formula-preserved : goal.loop-formula-preserved
loop-formula-preserved c =
    All-more (λ n. IsNew (branch_in c.args.pool.now c.args.branch.now) (formula_at c.args.pool.now n)) c.args.formulas.now c.loop-formula.formula-index 0 c.loop-formula-test.true c.loop-formula.invariant (record { new = λ s. (let both : false ≡ true = c.if-stands.ensures.1 s in absurd (cc)) })

pub returns : goal.returns
returns c = (
  λ e. all_taken (IsNew (branch_in c.args.pool.now c.args.branch.now)) (formula_at c.args.pool.now) c.args.formulas.now c.loop-formula.formula-index c.loop-formula-test.false c.loop-formula.invariant,
  λ all. refl,
)
