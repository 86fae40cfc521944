use Rattle.std.proofs.Common.{ℕ, List, [], get_or, take, sym, subst}
use Rattle.std.proofs.lemmas.List.{take_more, take_all}
use Rattle.base.specs.KeyedPairs.{AreMore}
use Rattle.tableau.specs.PoolBranches.{branch_in}
use Rattle.congruence_closure.specs.Known.{class_of}
use Rattle.tableau.proofs.BranchLemmas.{known_term}
use Rattle.tableau.proofs.NearLemmas.{nth_term}
use Rattle.axiom_strategy.proofs.PositionLemmas.{AreSeen, seen_begun, seen_same, seen_more, read_terms}
use Rattle.step_checks.proofs.ReadLemmas.{reads_done}
use Rattle.step_checks.proofs.decisions.indexes.reads.Goals as goal

pub loop-number-init : goal.loop-number-init
loop-number-init c = subst (AreSeen c.args.pool.now c.args.classes.now c.args.groups.now []) (sym c.new-seen.ensures) (seen_begun c.args.pool.now c.args.classes.now c.args.groups.now)

pub read_at-requires : goal.read_at-requires
read_at-requires c = (nth_term c.args.pool.now (branch_in c.args.pool.now c.args.branch.now) c.args.terms.now c.requires.terms c.loop-number.number-index c.loop-number-test.true).number.within

pub class-class-requires : goal.class-class-requires
class-class-requires c =
    let ns = c.args.pool.now in
    let n = get_or c.args.terms.now c.loop-number.number-index 0 in
    let term = nth_term ns (branch_in ns c.args.branch.now) c.args.terms.now c.requires.terms c.loop-number.number-index c.loop-number-test.true in
    known_term ns c.one_number.ensures c.args.branch.now c.requires.over c.args.classes.now c.requires.classes c.in-Some.position (read_terms ns c.one_number.ensures c.args.branch.now c.requires.over c.args.classes.now c.requires.classes n (c.in-Some.from, c.in-Some.position) term c.in-Some.ensures).1

pub loop-number-preserved-in_default : goal.loop-number-preserved-in_default
loop-number-preserved-in_default c = subst (λ (xs : List ℕ). AreSeen c.args.pool.now c.args.classes.now c.args.groups.now xs c.loop-number.seen) (sym (take_more c.args.terms.now c.loop-number.number-index 0 c.loop-number-test.true)) (seen_same c.args.pool.now c.args.classes.now c.args.groups.now (take c.loop-number.number-index c.args.terms.now) c.loop-number.seen (get_or c.args.terms.now c.loop-number.number-index 0) c.loop-number.invariant c.in_default.ensures)

pub loop-number-preserved : goal.loop-number-preserved
loop-number-preserved c =
    let d = c.args.classes.now in
    let added : AreMore c.loop-number.seen c.add.new.self (get_or c.args.groups.now c.in-Some.from 0, class_of d c.in-Some.position) = subst (λ (k : ℕ). AreMore c.loop-number.seen c.add.new.self (get_or c.args.groups.now c.in-Some.from 0, k)) c.class-class.ensures c.in_ok-add.ensures.pairs in
    subst (λ (xs : List ℕ). AreSeen c.args.pool.now d c.args.groups.now xs c.add.new.self) (sym (take_more c.args.terms.now c.loop-number.number-index 0 c.loop-number-test.true)) (seen_more c.args.pool.now d c.args.groups.now (take c.loop-number.number-index c.args.terms.now) c.loop-number.seen c.add.new.self (get_or c.args.terms.now c.loop-number.number-index 0) (c.in-Some.from, c.in-Some.position) c.loop-number.invariant c.in-Some.ensures added)

pub returns : goal.returns
returns c =
    reads_done c.args.pool.now (branch_in c.args.pool.now c.args.branch.now) c.args.classes.now c.args.groups.now c.args.terms.now c.loop-number.seen c.requires.terms
    (subst (λ (xs : List ℕ). AreSeen c.args.pool.now c.args.classes.now c.args.groups.now xs c.loop-number.seen) (take_all c.loop-number.number-index c.args.terms.now c.loop-number-test.false) c.loop-number.invariant)
