use Rattle.std.proofs.Common.{◌≡◌, true, false, refl}
use Rattle.tableau.specs.PoolBranches.{branch_in}
use Rattle.tableau.proofs.StandLemmas.{shallow_at, too_deep_at}
use Rattle.axiom_strategy.specs.Instances.{triggered_in}
use Rattle.axiom_strategy.proofs.DueLemmas.{formula_number, stands_already, is_too_deep, due_with}
use Rattle.axiom_strategy.proofs.due.due_generation.Goals as goal

pub stands-requires-clause-formula : goal.stands-requires-clause-formula
stands-requires-clause-formula c = formula_number c.requires.triggered.formula

pub returns-then-stands : goal.returns-then-stands
returns-then-stands c =
    stands_already (branch_in c.args.pool.now c.args.branch.now) (triggered_in c.args.pool.now c.args.triggered) (λ new. new.new (c.if-stands.ensures.0 refl))

pub depth-requires : goal.depth-requires
depth-requires c = c.requires.triggered.formula.within

pub returns-then-depth-gt-MOST_DEPTH : goal.returns-then-depth-gt-MOST_DEPTH
returns-then-depth-gt-MOST_DEPTH c =
    is_too_deep (branch_in c.args.pool.now c.args.branch.now) (triggered_in c.args.pool.now c.args.triggered) (too_deep_at c.args.pool.now c.args.triggered.formula c.depth.result (formula_number c.requires.triggered.formula) c.depth.ensures c.if-depth-gt-MOST_DEPTH.true)

pub generation-requires-clause-terms : goal.generation-requires-clause-terms
generation-requires-clause-terms c = c.requires.triggered.terms

pub returns : goal.returns
returns c =
    due_with (branch_in c.args.pool.now c.args.branch.now) (triggered_in c.args.pool.now c.args.triggered)
    (record { new = λ s. (let both : false ≡ true = c.if-stands.ensures.1 s in absurd (cc)) })
    (shallow_at c.args.pool.now c.args.triggered.formula c.depth.result (formula_number c.requires.triggered.formula) c.depth.ensures c.if-depth-gt-MOST_DEPTH.false)
    c.generation.result c.generation.ensures
