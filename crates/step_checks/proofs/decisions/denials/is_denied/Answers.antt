use Rattle.std.proofs.Common.{◌≡◌, true, false, refl, arith}
use Rattle.tableau.specs.PoolBranches.{branch_in}
use Rattle.tableau.proofs.BranchLemmas.{known_term}
use Rattle.step_checks.proofs.DenyLemmas.{none_first, none_next, denied_at, none_denied}
use Rattle.step_checks.proofs.decisions.denials.is_denied.Goals as goal

pub class-one-requires : goal.class-one-requires
class-one-requires c = known_term c.args.pool.now c.one_number.ensures c.args.branch.now c.requires.over c.args.classes.now c.requires.classes c.args.left c.requires.left

pub class-other-requires : goal.class-other-requires
class-other-requires c = known_term c.args.pool.now c.one_number.ensures c.args.branch.now c.requires.over c.args.classes.now c.requires.classes c.args.right c.requires.right

pub loop-i-init : goal.loop-i-init
loop-i-init c = none_first c.args.pool.now (branch_in c.args.pool.now c.args.branch.now) c.args.classes.now c.class-one.result c.class-other.result

pub returns-then-denies_classes : goal.returns-then-denies_classes
returns-then-denies_classes c = (
  λ t. denied_at c.args.pool.now c.one_number.ensures c.args.branch.now c.requires.over c.args.classes.now c.requires.classes c.exact.ensures c.args.left c.args.right c.requires.left c.requires.right c.loop-i.i c.class-one.result c.class-other.result c.class-one.ensures c.class-other.ensures (c.if-denies_classes.ensures.0 refl),
  λ h. refl,
)

pub loop-i-preserved : goal.loop-i-preserved
loop-i-preserved c =
    none_next c.args.pool.now (branch_in c.args.pool.now c.args.branch.now) c.args.classes.now c.class-one.result c.class-other.result c.loop-i.i c.loop-i.invariant (λ m. (let both : false ≡ true = c.if-denies_classes.ensures.1 m in absurd (cc)))

pub returns : goal.returns
returns c = (
  λ t. absurd (cc),
  λ h. absurd (none_denied c.args.pool.now c.one_number.ensures c.args.branch.now c.requires.over c.args.classes.now c.requires.classes c.exact.ensures c.args.left c.args.right c.requires.left c.requires.right c.class-one.result c.class-other.result c.loop-i.i c.class-one.ensures c.class-other.ensures (omega (arith, c.len-i-end.ensures, c.loop-i-test.false)) c.loop-i.invariant h),
)
