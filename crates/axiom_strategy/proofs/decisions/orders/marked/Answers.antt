use Rattle.std.proofs.Common.{ℕ, List, [], ◌∷◌, ◌++◌, get_or, take, sym, subst}
use Rattle.std.proofs.lemmas.List.{take_more}
use Rattle.axiom_strategy.specs.Orders.{AreMarked}
use Rattle.axiom_strategy.proofs.OrderLemmas.{marked_begun, marked_same, marked_more}
use Rattle.axiom_strategy.proofs.decisions.orders.marked.Goals as goal

pub loop-term-init : goal.loop-term-init
loop-term-init c = subst (AreMarked c.args.marks.now []) (sym c.new-found.ensures.items) (marked_begun c.args.marks.now)

pub loop-term-preserved-then-not-marks-term : goal.loop-term-preserved-then-not-marks-term
loop-term-preserved-then-not-marks-term c =
    let terms = c.args.terms.now in
    let i = c.loop-term.term-index in
    subst (λ (xs : List ℕ). AreMarked c.args.marks.now xs c.loop-term.found.items) (sym (take_more terms i 0 c.loop-term-test.true))
    (marked_same c.args.marks.now (take i terms) c.loop-term.found.items (get_or terms i 0) c.loop-term.invariant c.if-not-marks-term.true)

pub loop-term-preserved : goal.loop-term-preserved
loop-term-preserved c =
    let terms = c.args.terms.now in
    let i = c.loop-term.term-index in
    let n = get_or c.args.terms.now c.loop-term.term-index 0 in
    subst (λ (xs : List ℕ). AreMarked c.args.marks.now xs c.push.new.self.items) (sym (take_more terms i 0 c.loop-term-test.true))
    (subst (AreMarked c.args.marks.now (take i terms ++ n ∷ [])) (sym c.in_ok-push.ensures.items)
    (marked_more c.args.marks.now (take i terms) c.loop-term.found.items n c.loop-term.invariant c.if-not-marks-term.false))
