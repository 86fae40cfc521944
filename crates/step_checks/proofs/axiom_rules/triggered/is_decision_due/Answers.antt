use Rattle.std.proofs.Common.{◌≡◌, true, false, refl}
use Rattle.tableau.specs.PoolBranches.{branch_in}
use Rattle.tableau.specs.Numbers.{formula_at}
use Rattle.tableau.proofs.NumberLemmas.{vec_ok}
use Rattle.step_checks.proofs.AxiomLemmas.{other_axiom, that_axiom}
use Rattle.step_checks.proofs.axiom_rules.triggered.is_decision_due.Goals as goal

pub returns-then-not-is_trichotomy-clause-exact : goal.returns-then-not-is_trichotomy-clause-exact
returns-then-not-is_trichotomy-clause-exact c =
    other_axiom (branch_in c.args.pool.now c.args.branch.now) c.args.step.name (formula_at c.args.pool.now c.args.step.formula) c.args.step.generation (λ e. (let both : false ≡ true = c.if-not-is_trichotomy.ensures.1 e in absurd (cc)))

pub returns-clause-exact : goal.returns-clause-exact
returns-clause-exact c =
    vec_ok c.is_order_due.result (λ known h. that_axiom (branch_in c.args.pool.now c.args.branch.now) c.args.step.name (formula_at c.args.pool.now c.args.step.formula) c.args.step.generation (c.if-not-is_trichotomy.ensures.0 refl) known h) c.is_order_due.ensures.exact
