use Rattle.std.proofs.Common.{◌≡◌, true, false, refl}
use Rattle.tableau.specs.PoolBranches.{branch_in}
use Rattle.tableau.specs.Terms.{term_at}
use Rattle.step_checks.proofs.CutLemmas.{cut_due, shallow_both, not_triggered, not_open, left_deep, right_deep, cut_so}
use Rattle.step_checks.proofs.decisions.cuts.is_cut_due.Goals as goal

pub returns-then-not-triggered-clause-exact : goal.returns-then-not-triggered-clause-exact
returns-then-not-triggered-clause-exact c =
    not_triggered (branch_in c.args.pool.now c.args.branch.now) (term_at c.args.pool.now c.args.left) (term_at c.args.pool.now c.args.right) c.in_ok-triggered.triggered c.if-not-triggered.true c.in_ok-triggered.ensures

pub is_undecided-requires-clause-left : goal.is_undecided-requires-clause-left
is_undecided-requires-clause-left c = record { number = c.requires.left; stands = (c.in_ok-triggered.ensures.0 c.if-not-triggered.false).is_term }

pub is_undecided-requires-clause-right : goal.is_undecided-requires-clause-right
is_undecided-requires-clause-right c = record { number = c.requires.right; stands = (c.in_ok-triggered.ensures.0 c.if-not-triggered.false).is_other_term }

pub returns-then-not-is_undecided-clause-exact : goal.returns-then-not-is_undecided-clause-exact
returns-then-not-is_undecided-clause-exact c =
    not_open (branch_in c.args.pool.now c.args.branch.now) (term_at c.args.pool.now c.args.left) (term_at c.args.pool.now c.args.right) (λ h. (let both : false ≡ true = c.if-not-is_undecided.ensures.1 h in absurd (cc)))

pub returns-then-not-is_shallow-clause-exact : goal.returns-then-not-is_shallow-clause-exact
returns-then-not-is_shallow-clause-exact c =
    left_deep c.args.pool.now (branch_in c.args.pool.now c.args.branch.now) c.args.left c.args.right c.requires.left (λ h. (let both : false ≡ true = c.if-not-is_shallow.ensures.1 h in absurd (cc)))

pub returns-then-not-is_shallow-2-clause-exact : goal.returns-then-not-is_shallow-2-clause-exact
returns-then-not-is_shallow-2-clause-exact c =
    right_deep c.args.pool.now (branch_in c.args.pool.now c.args.branch.now) c.args.left c.args.right c.requires.right (λ h. (let both : false ≡ true = c.if-not-is_shallow-2.ensures.1 h in absurd (cc)))

pub returns-clause-exact : goal.returns-clause-exact
returns-clause-exact c =
    let ns = c.args.pool.now in
    let b = branch_in ns c.args.branch.now in
    let indexes = c.in_ok-triggered.ensures.0 c.if-not-triggered.false in
    cut_so b (term_at ns c.args.left) (term_at ns c.args.right) c.in_ok-numbers.numbers c.in_ok-numbers.ensures.exact
    (λ none. cut_due ns c.one_number.ensures c.args.branch.now c.requires.over c.args.classes.now c.requires.classes c.exact.ensures c.args.left c.args.right (record { number = c.requires.left; stands = indexes.is_term }) (record { number = c.requires.right; stands = indexes.is_other_term }) indexes (c.if-not-is_undecided.ensures.0 refl) (shallow_both ns c.args.left c.args.right c.requires.left c.requires.right (c.if-not-is_shallow.ensures.0 refl) (c.if-not-is_shallow-2.ensures.0 refl)) none)
