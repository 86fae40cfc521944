use Rattle.std.proofs.Common.{◌≡◌, true, false, ℕ, List, get_or, refl, subst, arith}
use Rattle.std.specs.Prelude.{All}
use Rattle.std.proofs.lemmas.List.{take_all}
use Rattle.std.proofs.lemmas.List.Elements.{All-more, Contains-get_or}
use Rattle.tableau.specs.PoolBranches.{branch_in}
use Rattle.tableau.proofs.BranchLemmas.{known_term}
use Rattle.tableau.proofs.NearLemmas.{nth_term}
use Rattle.axiom_strategy.proofs.PositionLemmas.{read_terms}
use Rattle.step_checks.specs.Pairs.{IsMeeting}
use Rattle.step_checks.proofs.ReadLemmas.{met, not_met}
use Rattle.step_checks.proofs.decisions.indexes.are_read_in_one.Goals as goal

pub is_meeting-requires-clause-number : goal.is_meeting-requires-clause-number
is_meeting-requires-clause-number c = (nth_term c.args.pool.now (branch_in c.args.pool.now c.args.branch.now) c.args.terms.now c.requires.terms c.loop-number.number-index c.loop-number-test.true).number.within

pub is_meeting-requires-clause-from : goal.is_meeting-requires-clause-from
is_meeting-requires-clause-from c = λ p read. (
    let ns = c.args.pool.now in
    let term = nth_term ns (branch_in ns c.args.branch.now) c.args.terms.now c.requires.terms c.loop-number.number-index c.loop-number-test.true in
    let within = (read_terms ns c.one_number.ensures c.args.branch.now c.requires.over c.args.classes.now c.requires.classes (get_or c.args.terms.now c.loop-number.number-index 0) p term read).0.number.within in
    let long = c.requires.groups.one_each in
    omega (arith, within, long))

pub is_meeting-requires-clause-position : goal.is_meeting-requires-clause-position
is_meeting-requires-clause-position c = λ p read. (
    let ns = c.args.pool.now in
    let term = nth_term ns (branch_in ns c.args.branch.now) c.args.terms.now c.requires.terms c.loop-number.number-index c.loop-number-test.true in
    known_term ns c.one_number.ensures c.args.branch.now c.requires.over c.args.classes.now c.requires.classes p.1 (read_terms ns c.one_number.ensures c.args.branch.now c.requires.over c.args.classes.now c.requires.classes (get_or c.args.terms.now c.loop-number.number-index 0) p term read).1)

pub returns-then-is_meeting : goal.returns-then-is_meeting
returns-then-is_meeting c = (
  λ t. met c.args.pool.now (branch_in c.args.pool.now c.args.branch.now) c.args.classes.now c.args.groups.now c.args.terms.now c.requires.terms c.args.reads.now c.requires.reads c.args.one c.args.other (get_or c.args.terms.now c.loop-number.number-index 0) (Contains-get_or c.args.terms.now c.loop-number.number-index 0 c.loop-number-test.true) (c.if-is_meeting.ensures.0 refl),
  λ h. refl,
)

pub loop-number-preserved : goal.loop-number-preserved
loop-number-preserved c =
    All-more (λ n. IsMeeting c.args.pool.now c.args.classes.now c.args.groups.now c.args.reads.now c.args.one c.args.other n → ⊥) c.args.terms.now c.loop-number.number-index 0 c.loop-number-test.true c.loop-number.invariant (λ m. (let both : false ≡ true = c.if-is_meeting.ensures.1 m in absurd (cc)))

pub returns : goal.returns
returns c = (
  λ t. absurd (cc),
  λ h. absurd (not_met c.args.pool.now (branch_in c.args.pool.now c.args.branch.now) c.args.classes.now c.args.groups.now c.args.terms.now c.requires.terms c.args.reads.now c.requires.reads c.args.one c.args.other (subst (λ (xs : List ℕ). All (λ n. IsMeeting c.args.pool.now c.args.classes.now c.args.groups.now c.args.reads.now c.args.one c.args.other n → ⊥) xs) (take_all c.loop-number.number-index c.args.terms.now c.loop-number-test.false) c.loop-number.invariant) h),
)
