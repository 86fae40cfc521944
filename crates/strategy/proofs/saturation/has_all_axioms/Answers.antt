use Rattle.tableau.specs.PoolBranches.{branch_in}
use Rattle.term_pool.proofs.GrowthLemmas.{extends_then}
use Rattle.tableau.proofs.PushLemmas.{over_still}
use Rattle.axiom_strategy.specs.declared.due.WantedAxioms.TheVariants.{All as Everything}
use Rattle.axiom_strategy.specs.Due.{NoAxiom, IsAxiomStep}
use Rattle.axiom_strategy.specs.Orders.{NoOrder, IsOrder}
use Rattle.strategy.specs.Families.{HasAllAxioms}
use Rattle.strategy.proofs.SaturationLemmas.{one_of, none_of, decided, there, back, classes_stay, all_axioms}
use Rattle.strategy.proofs.saturation.has_all_axioms.Goals as goal

pub next_axiom-requires-clause-known : goal.next_axiom-requires-clause-known
next_axiom-requires-clause-known c = c.new-known.ensures c.args.shapes.now c.args.pool.now

pub returns-then-is_some-clause-exact : goal.returns-then-is_some-clause-exact
returns-then-is_some-clause-exact c = λ all. (
    let shapes = c.args.shapes.now in
    let ms = c.next_axiom.new.pool in
    let b = branch_in ms c.args.branch.now in
    let found = one_of (NoAxiom shapes b Everything) (IsAxiomStep ms shapes b Everything) c.in_ok-axiom.axiom c.in_ok-axiom.ensures.due c.if-is_some.ensures in
    (there c.args.pool.now ms c.next_axiom.ensures.extends c.args.branch.now c.requires.over (HasAllAxioms shapes) all).none found.0.name found.1.formula found.0.generation found.1.due)

pub next_order-requires-clause-over : goal.next_order-requires-clause-over
next_order-requires-clause-over c = over_still c.args.pool.now c.next_axiom.new.pool c.next_axiom.ensures.extends c.args.branch.now c.requires.over

pub next_order-requires-clause-classes : goal.next_order-requires-clause-classes
next_order-requires-clause-classes c = classes_stay c.args.pool.now c.next_axiom.new.pool c.next_axiom.ensures.extends c.args.branch.now c.requires.over c.args.classes.now c.requires.classes

pub returns-clause-exact : goal.returns-clause-exact
returns-clause-exact c =
    let shapes = c.args.shapes.now in
    let ns = c.args.pool.now in
    let d = c.args.branch.now in
    let ms1 = c.next_axiom.new.pool in
    let ms2 = c.next_order.new.pool in
    let e1 = c.next_axiom.ensures.extends in
    let e2 = extends_then e1 c.next_order.ensures.extends in
    let b1 = branch_in ms1 d in
    let b2 = branch_in ms2 d in
    let table = none_of (NoAxiom shapes b1 Everything) (IsAxiomStep ms1 shapes b1 Everything) c.in_ok-axiom.axiom c.in_ok-axiom.ensures.due c.if-is_some.ensures in
    decided (NoOrder b2) (IsOrder ms2 b2) (HasAllAxioms shapes (branch_in ns d))
    (λ orders. all_axioms shapes (branch_in ns d) (back ns ms1 e1 d c.requires.over (λ b. NoAxiom shapes b Everything) table) (back ns ms2 e2 d c.requires.over NoOrder orders))
    (λ step is all. (there ns ms2 e2 d c.requires.over (HasAllAxioms shapes) all).none _ is.formula step.generation (is.due shapes))
    c.in_ok-order.order c.is_none.result c.in_ok-order.ensures.due c.is_none.ensures
