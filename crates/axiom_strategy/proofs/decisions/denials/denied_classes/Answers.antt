use Rattle.std.proofs.Common.{ℕ, sym, subst, arith}
use Rattle.base.specs.KeyedPairs.{AreMore}
use Rattle.tableau.specs.PoolBranches.{branch_in}
use Rattle.congruence_closure.specs.Known.{class_of}
use Rattle.tableau.proofs.BranchLemmas.{known_term}
use Rattle.axiom_strategy.proofs.DenialLemmas.{AreDeniedBefore, denied_begun, denied_same, denied_more, denied_done}
use Rattle.axiom_strategy.proofs.decisions.denials.denied_classes.Goals as goal

pub loop-i-init : goal.loop-i-init
loop-i-init c =
    let b = branch_in c.args.pool.now c.args.branch.now in
    subst (AreDeniedBefore c.args.pool.now b c.args.classes.now 0) (sym c.new-denied.ensures) (denied_begun c.args.pool.now b c.args.classes.now)

pub class-one-requires : goal.class-one-requires
class-one-requires c = known_term c.args.pool.now c.one_number.ensures c.args.branch.now c.requires.over c.args.classes.now c.requires.classes c.in-Some.left c.in-Some.ensures.left

pub class-other-requires : goal.class-other-requires
class-other-requires c = known_term c.args.pool.now c.one_number.ensures c.args.branch.now c.requires.over c.args.classes.now c.requires.classes c.in-Some.right c.in-Some.ensures.right

pub loop-i-preserved-in_default : goal.loop-i-preserved-in_default
loop-i-preserved-in_default c = denied_same c.args.pool.now (branch_in c.args.pool.now c.args.branch.now) c.args.classes.now c.loop-i.i c.loop-i.denied c.loop-i.invariant c.in_default.ensures

pub loop-i-preserved : goal.loop-i-preserved
loop-i-preserved c =
    let d = c.args.classes.now in
    let added : AreMore c.loop-i.denied c.add.new.self (class_of d c.in-Some.left, class_of d c.in-Some.right) =
    subst (λ (x : ℕ). AreMore c.loop-i.denied c.add.new.self (x, class_of d c.in-Some.right)) c.class-one.ensures
    (subst (λ (y : ℕ). AreMore c.loop-i.denied c.add.new.self (c.class-one.result, y)) c.class-other.ensures c.in_ok-add.ensures.pairs) in
    denied_more c.args.pool.now (branch_in c.args.pool.now c.args.branch.now) d c.one_number.ensures c.loop-i.i c.loop-i.denied c.add.new.self (c.in-Some.left, c.in-Some.right) c.loop-i.invariant c.in-Some.ensures added

pub returns : goal.returns
returns c = denied_done c.args.pool.now c.args.branch.now c.args.classes.now c.loop-i.i c.loop-i.denied (omega (arith, c.len-i-end.ensures, c.loop-i-test.false)) c.loop-i.invariant
