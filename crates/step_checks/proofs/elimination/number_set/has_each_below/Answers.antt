use Rattle.std.proofs.Common.{◌<◌, ℕ, sym, ◌∙◌, arith, below_more}
use Rattle.std.specs.Prelude.{Contains}
use Rattle.std.proofs.lemmas.Bool.{false≢true}
use Rattle.step_checks.proofs.CheckLemmas.{decided_true, decided_false}
use Rattle.step_checks.proofs.elimination.number_set.has_each_below.Goals as goal

pub loop-number-init : goal.loop-number-init
loop-number-init c = λ numbers s n l. absurd (omega (arith, l))

pub loop-number-preserved : goal.loop-number-preserved
loop-number-preserved c = λ numbers s.
    let here : Contains numbers c.loop-number.number-counter = (s.has c.loop-number.number-counter).0 (sym c.contains.ensures ∙ c.if-not-contains.false) in
    below_more (λ (n : ℕ). Contains numbers n) c.loop-number.number-counter (c.loop-number.invariant numbers s) here

pub returns-then-not-contains : goal.returns-then-not-contains
returns-then-not-contains c = λ numbers s.
    decided_false ((n : ℕ) → n < c.args.limit → Contains numbers n) (λ h. false≢true (sym c.if-not-contains.true ∙ c.contains.ensures ∙ (s.has c.loop-number.number-counter).1 (h c.loop-number.number-counter (omega arith))))

pub returns : goal.returns
returns c = λ numbers s.
    decided_true ((n : ℕ) → n < c.args.limit → Contains numbers n) (λ n l. c.loop-number.invariant numbers s n (omega (arith, l)))
