use Rattle.std.proofs.Common.{◌≡◌, true, false, refl}
use Rattle.tableau.specs.PoolBranches.{branch_in}
use Rattle.tableau.proofs.BranchLemmas.{known_term}
use Rattle.step_checks.proofs.ReadLemmas.{indexes_so, not_left, not_right}
use Rattle.step_checks.proofs.decisions.indexes.are_indexes.Goals as goal

pub returns-then-not-is_term : goal.returns-then-not-is_term
returns-then-not-is_term c = not_left c.args.pool.now (branch_in c.args.pool.now c.args.branch.now) c.args.left c.args.right c.requires.left (λ s. (let both : false ≡ true = c.if-not-is_term.ensures.1 s in absurd (cc)))

pub returns-then-not-is_term-2 : goal.returns-then-not-is_term-2
returns-then-not-is_term-2 c = not_right c.args.pool.now (branch_in c.args.pool.now c.args.branch.now) c.args.left c.args.right c.requires.right (λ s. (let both : false ≡ true = c.if-not-is_term-2.ensures.1 s in absurd (cc)))

pub class-one-requires : goal.class-one-requires
class-one-requires c = known_term c.args.pool.now c.one_number.ensures c.args.branch.now c.requires.over c.args.classes.now c.requires.classes c.args.left (c.if-not-is_term.ensures.0 refl)

pub class-other-requires : goal.class-other-requires
class-other-requires c = known_term c.args.pool.now c.one_number.ensures c.args.branch.now c.requires.over c.args.classes.now c.requires.classes c.args.right (c.if-not-is_term-2.ensures.0 refl)

pub returns : goal.returns
returns c =
    indexes_so c.args.pool.now c.one_number.ensures c.args.branch.now c.requires.over c.args.classes.now c.requires.classes c.exact.ensures c.in_ok-near.near.items c.in_ok-near.ensures c.args.left c.args.right (c.if-not-is_term.ensures.0 refl) (c.if-not-is_term-2.ensures.0 refl) c.class-one.result c.class-other.result c.class-one.ensures c.class-other.ensures c.are_read_in_one.result (rw c.as_slice-2.ensures.value at c.are_read_in_one.ensures)
