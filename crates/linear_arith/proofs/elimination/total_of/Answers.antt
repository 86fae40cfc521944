use Rattle.std.proofs.Common.{refl, subst, sym, ◌∙◌, List, ℤ}
use Rattle.linear_arith.specs.Closure.{IsDue}
use Rattle.linear_arith.specs.Combination.{IsContradiction}
use Rattle.linear_arith.proofs.ContradictionLemmas.{contradicts}
use Rattle.std.proofs.lemmas.Bool.{false≢true}
use Rattle.linear_arith.proofs.StageLemmas.{sound_of}
use Rattle.linear_arith.proofs.elimination.total_of.Goals as goal
use Rattle.linear_arith.proofs.elimination.total_of.Goals.{in-Some+else-is_contradiction, in_default}

pub returns-then-is_contradiction-clause-err : goal.returns-then-is_contradiction-clause-err
returns-then-is_contradiction-clause-err c = λ due.
    let system = c.args.system.now in
    let made = rw c.in-Some.is at c.in_ok-total.ensures in
    let so = c.if-is_contradiction.ensures.0 refl in
    let same = c.new-shown.ensures ∙ c.in_ok-numbers.ensures in
    let shown = contradicts system.width c.args.multipliers.now system.rows.now c.in-Some.row c.requires.one_each c.requires.not_negative system.within made.0 made.1 so.0 so.1 in
    (subst (λ (ms : List ℤ). IsContradiction system.rows.now ms) (sym same) shown, tt, tt, tt, tt, subst (λ (ms : List ℤ). IsDue system.rows.now ms) (sym same) due)

pub returns-clause-sound : goal.returns-clause-sound
returns-clause-sound c = elim c.match-total.branch [
  | in-Some+else-is_contradiction w ↦ rw w.in-Some.is (sound_of w.in-Some.row (λ h. false≢true (w.if-is_contradiction.ensures.1 h)))
  | in_default w ↦ rw w.in_default.is tt
]
