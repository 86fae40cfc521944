use Rattle.std.proofs.Common.{◌≡◌, ℕ, [], ◌∷◌, ◌++◌, cond, nat_eq, get_or, take, sym, subst}
use Rattle.std.proofs.lemmas.List.{take_more, take_all}
use Rattle.base.specs.Lists.{list_in}
use Rattle.axiom_strategy.specs.Positions.{AreByClass}
use Rattle.axiom_strategy.proofs.PositionLemmas.{classed_begun, classed_more}
use Rattle.axiom_strategy.proofs.decisions.positions.by_class.Goals as goal

pub loop-candidate-init : goal.loop-candidate-init
loop-candidate-init c = subst (AreByClass c.args.classes.now []) (sym c.new-lists.ensures) (classed_begun c.args.classes.now)

pub class-class-requires : goal.class-class-requires
class-class-requires c = c.requires c.loop-candidate.candidate-index 0 c.loop-candidate-test.true

pub loop-candidate-preserved : goal.loop-candidate-preserved
loop-candidate-preserved c =
    let xs = c.args.candidates.now in
    let i = c.loop-candidate.candidate-index in
    let n = get_or xs i 0 in
    subst (λ ys. AreByClass c.args.classes.now ys c.add.new.self) (sym (take_more xs i 0 c.loop-candidate-test.true))
    (classed_more c.args.classes.now (take i xs) c.loop-candidate.lists c.add.new.self n c.loop-candidate.invariant
    (subst (λ (m : ℕ). (k : ℕ) → list_in c.add.new.self k ≡ cond (nat_eq k m) (list_in c.loop-candidate.lists k ++ n ∷ []) (list_in c.loop-candidate.lists k)) c.class-class.ensures c.in_ok-add.ensures))

pub returns : goal.returns
returns c = subst (λ ys. AreByClass c.args.classes.now ys c.loop-candidate.lists) (take_all c.loop-candidate.candidate-index c.args.candidates.now c.loop-candidate-test.false) c.loop-candidate.invariant
