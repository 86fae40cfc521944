use Rattle.std.proofs.Common.{◌≡◌, ℕ, List, length, subst, arith}
use Rattle.tableau.specs.PoolBranches.{branch_in}
use Rattle.axiom_strategy.specs.Vectors.{AreMoreAskers, IsPairOf, AreDeniedPairs}
use Rattle.axiom_strategy.proofs.VectorLemmas.{denied_begun, denied_passed, denied_put, vectors_ask}
use Rattle.axiom_strategy.proofs.vectors.vector_askers.Goals as goal

pub loop-i-init : goal.loop-i-init
loop-i-init c =
    rw c.new-askers.ensures.items (denied_begun c.args.pool.now (branch_in c.args.pool.now c.args.branch.now) c.in_ok-types.types.lists c.in_ok-types.types.pairs)

pub loop-i-preserved-in_default : goal.loop-i-preserved-in_default
loop-i-preserved-in_default c =
    denied_passed c.args.pool.now (branch_in c.args.pool.now c.args.branch.now) c.in_ok-types.types.lists c.in_ok-types.types.pairs c.loop-i.invariant c.in_default.ensures

pub loop-i-preserved : goal.loop-i-preserved
loop-i-preserved c =
    let pairs = c.in_ok-types.types.pairs in
    let put = subst (λ (xs : List ℕ). AreMoreAskers c.loop-i.askers.items c.add_pair.new.askers.items (IsPairOf xs pairs c.in-Some.left c.in-Some.right)) c.at-of_left.ensures c.in_ok-add_pair.ensures in
    denied_put c.args.pool.now (branch_in c.args.pool.now c.args.branch.now) c.in_ok-types.types.lists pairs c.one_number.ensures (c.in-Some.left, c.in-Some.right) c.loop-i.invariant c.in-Some.ensures put

pub returns : goal.returns
returns c =
    let ns = c.args.pool.now in
    let lists = c.in_ok-types.types.lists in
    let pairs = c.in_ok-types.types.pairs in
    let all : c.loop-i.i ≡ length c.args.branch.now.entries = omega (arith, c.len-i-end.ensures, c.loop-i-test.false, c.loop-i.auto.i-end) in
    vectors_ask ns c.one_number.ensures c.args.branch.now c.args.typings.now c.requires.typings lists pairs c.in_ok-types.ensures.pairs c.in_ok-types.ensures.types c.loop-i.askers.items
    (subst (λ n. AreDeniedPairs ns (branch_in ns c.args.branch.now) lists pairs n c.loop-i.askers.items) all c.loop-i.invariant)
