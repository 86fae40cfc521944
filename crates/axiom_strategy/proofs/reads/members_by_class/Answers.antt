use Rattle.std.proofs.Common.{ℕ, List, get_or, subst}
use Rattle.std.proofs.lemmas.List.{take_all}
use Rattle.tableau.specs.PoolBranches.{branch_in}
use Rattle.tableau.proofs.BranchLemmas.{known_term}
use Rattle.tableau.proofs.NearLemmas.{nth_term}
use Rattle.axiom_strategy.specs.Keyed.{AreListed}
use Rattle.axiom_strategy.specs.Reads.{IsMember}
use Rattle.axiom_strategy.proofs.KeyedLemmas.{added}
use Rattle.axiom_strategy.proofs.ReadClassLemmas.{no_members, member_taken}
use Rattle.axiom_strategy.proofs.reads.members_by_class.Goals as goal

pub loop-term-init : goal.loop-term-init
loop-term-init c = rw c.new-lists.ensures (no_members c.args.classes.now)

pub class-class-requires : goal.class-class-requires
class-class-requires c =
    let ns = c.args.pool.now in
    let i = c.loop-term.term-index in
    known_term ns c.one_number.ensures c.args.branch.now c.requires.over c.args.classes.now c.requires.classes (get_or c.args.terms.now i 0) (nth_term ns (branch_in ns c.args.branch.now) c.args.terms.now c.requires.terms i c.loop-term-test.true)

pub loop-term-preserved : goal.loop-term-preserved
loop-term-preserved c =
    member_taken c.args.classes.now c.args.terms.now c.loop-term.term-index c.loop-term-test.true c.class-class.ensures c.loop-term.invariant (added c.loop-term.lists _ c.class-class.result (get_or c.args.terms.now c.loop-term.term-index 0) c.in_ok-add.ensures)

pub returns : goal.returns
returns c =
    subst (λ (xs : List ℕ). AreListed (IsMember c.args.classes.now xs) c.loop-term.lists) (take_all c.loop-term.term-index c.args.terms.now c.loop-term-test.false) c.loop-term.invariant
