use Rattle.std.proofs.Common.{sym, subst, IsTrue, true, false}
use Rattle.std.proofs.lemmas.Result.{IfOk-weaker}
use Rattle.unification.specs.Grown.{Grows}
use Rattle.type_solver.specs.Equations.{Solved}
use Rattle.type_solver.specs.declared.equation.Equation.{Equation}
use Rattle.type_solver.proofs.Stepping.{always, never}
use Rattle.type_solver.proofs.step.apply.Goals as goal

pub returns-in-Always : goal.returns-in-Always
returns-in-Always c = subst (λ (e : Equation). Grows c.args.slots.now.items (λ t. Solved t e) c.args.slots.now.items (λ t. IsTrue true)) (sym c.in-Always.is) (always c.args.slots.now.items (λ t. Unit {0}) c.requires.fits (λ t. tt))

pub returns-in-Never : goal.returns-in-Never
returns-in-Never c = subst (λ (e : Equation). Grows c.args.slots.now.items (λ t. Solved t e) c.args.slots.now.items (λ t. IsTrue false)) (sym c.in-Never.is) (never c.args.slots.now.items (λ t. ⊥) c.requires.fits (λ t h. h))

pub returns-in-Unsettled : goal.returns-in-Unsettled
returns-in-Unsettled c = subst (λ (e : Equation). Grows c.args.slots.now.items (λ t. Solved t e) c.args.slots.now.items (λ t. IsTrue false)) (sym c.in-Unsettled.is) (never c.args.slots.now.items (λ t. ⊥) c.requires.fits (λ t h. h))

pub returns-in-Equal : goal.returns-in-Equal
returns-in-Equal c = IfOk-weaker c.equal.result _ _ (λ answer g. subst (λ (e : Equation). Grows c.args.slots.now.items (λ t. Solved t e) c.equal.new.slots.items (λ t. IsTrue answer)) (sym c.in-Equal.is) g) c.equal.ensures

pub returns-in-Lent : goal.returns-in-Lent
returns-in-Lent c = IfOk-weaker c.lend.result _ _ (λ answer g. subst (λ (e : Equation). Grows c.args.slots.now.items (λ t. Solved t e) c.lend.new.slots.items (λ t. IsTrue answer)) (sym c.in-Lent.is) g) c.lend.ensures

pub returns-in-Sorted : goal.returns-in-Sorted
returns-in-Sorted c = subst (λ (e : Equation). Grows c.args.slots.now.items (λ t. Solved t e) c.is_of.new.slots.items (λ t. IsTrue c.is_of.result)) (sym c.in-Sorted.is) c.is_of.ensures
