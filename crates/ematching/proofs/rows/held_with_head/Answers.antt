use Rattle.std.proofs.Common.{◌≡◌, ◌+◌, ℕ, true, false, get_or, refl, sym, subst}
use Rattle.tableau.specs.PoolBranches.{branch_in}
use Rattle.ematching.specs.Heads.{HasHead}
use Rattle.ematching.specs.Listed.{AreThose}
use Rattle.tableau.specs.Terms.{IsBranchTerm}
use Rattle.ematching.proofs.ListedLemmas.{those_none, those_same, those_push, IsFirst, first_push, first_skip, first_all}
use Rattle.ematching.proofs.rows.held_with_head.Goals as goal

pub with_head-requires : goal.with_head-requires
with_head-requires c = record { nodes = c.args.pool.now; index = c.requires.index }

pub loop-number-init : goal.loop-number-init
loop-number-init c =
    those_none (IsFirst (IsBranchTerm c.args.pool.now (branch_in c.args.pool.now c.args.branch.now)) c.deref-number-items.result.now 0) c.new-numbers.result.items c.new-numbers.ensures.items (λ n q. q.0)

pub loop-number-preserved-then-not-is_term : goal.loop-number-preserved-then-not-is_term
loop-number-preserved-then-not-is_term c =
    let held = IsBranchTerm c.args.pool.now (branch_in c.args.pool.now c.args.branch.now) in
    let xs = c.deref-number-items.result.now in
    let i = c.loop-number.number-index in
    those_same (IsFirst held xs i) (IsFirst held xs (i + 1)) c.loop-number.numbers.items (first_skip held xs i c.loop-number-test.true (λ h. (let both : false ≡ true = c.if-not-is_term.ensures.1 h in absurd (cc)))) c.loop-number.invariant

pub loop-number-preserved : goal.loop-number-preserved
loop-number-preserved c =
    let held = IsBranchTerm c.args.pool.now (branch_in c.args.pool.now c.args.branch.now) in
    let xs = c.deref-number-items.result.now in
    let i = c.loop-number.number-index in
    those_push (IsFirst held xs i) (IsFirst held xs (i + 1)) c.loop-number.numbers.items c.push.new.self.items (get_or xs i 0) c.in_ok-push.ensures.items (first_push held xs i c.loop-number-test.true (c.if-not-is_term.ensures.0 refl)) c.loop-number.invariant

pub returns : goal.returns
returns c =
    let ns = c.args.pool.now in
    let held = IsBranchTerm ns (branch_in ns c.args.branch.now) in
    let xs = c.deref-number-items.result.now in
    let i = c.loop-number.number-index in
    those_same (IsFirst held xs i) (λ (n : ℕ). HasHead ns c.args.head n × held n) c.loop-number.numbers.items (first_all held (HasHead ns c.args.head) xs i c.loop-number-test.false (subst (AreThose (HasHead ns c.args.head)) (sym c.deref-number-items.ensures.value) (c.in_ok-all.ensures ns c.requires.index))) c.loop-number.invariant
