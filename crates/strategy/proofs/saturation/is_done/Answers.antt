use Rattle.std.proofs.Common.{subst}
use Rattle.std.specs.Prelude.{MatchBool}
use Rattle.tableau.specs.PoolBranches.{branch_in}
use Rattle.term_pool.proofs.GrowthLemmas.{extends_then}
use Rattle.tableau.proofs.PushLemmas.{over_still}
use Rattle.certificates.specs.Due.{IsSaturated}
use Rattle.tableau.proofs.GraphLemmas.{ok_map}
use Rattle.axiom_strategy.specs.Families.{HasVariable}
use Rattle.ematching.specs.Instances.{NoInstance}
use Rattle.strategy.specs.Families.{IsReduced, IsSettled, HasAllAxioms}
use Rattle.strategy.proofs.SaturationLemmas.{there, back, classes_stay, all_done, reduced_so, settled_so, axioms_so, instances_so, weaker}
use Rattle.strategy.proofs.saturation.is_done.Goals as goal

pub returns-then-not-branch-clause-exact : goal.returns-then-not-branch-clause-exact
returns-then-not-branch-clause-exact c = λ saturated. (
    let b = branch_in c.args.pool.now c.args.branch.now in
    let never = subst (λ r. MatchBool r (IsReduced b) (IsReduced b → ⊥)) c.if-not-branch.true c.in_ok-is_reduced.ensures.exact in
    never (reduced_so c.args.shapes.now b saturated))

pub is_settled-requires-clause-over : goal.is_settled-requires-clause-over
is_settled-requires-clause-over c = over_still c.args.pool.now c.is_reduced.new.pool c.is_reduced.ensures.extends c.args.branch.now c.requires.over

pub is_settled-requires-clause-classes : goal.is_settled-requires-clause-classes
is_settled-requires-clause-classes c = classes_stay c.args.pool.now c.is_reduced.new.pool c.is_reduced.ensures.extends c.args.branch.now c.requires.over c.args.state.now.classes c.requires.classes

pub returns-then-not-branch-2-clause-exact : goal.returns-then-not-branch-2-clause-exact
returns-then-not-branch-2-clause-exact c = λ saturated. (
    let ms = c.is_reduced.new.pool in
    let b = branch_in ms c.args.branch.now in
    let never = subst (λ r. MatchBool r (IsSettled b) (IsSettled b → ⊥)) c.if-not-branch-2.true c.in_ok-is_settled.ensures.exact in
    never (settled_so c.args.shapes.now b (there c.args.pool.now ms c.is_reduced.ensures.extends c.args.branch.now c.requires.over (IsSaturated c.args.shapes.now) saturated)))

pub has_all_axioms-requires-clause-over : goal.has_all_axioms-requires-clause-over
has_all_axioms-requires-clause-over c = over_still c.args.pool.now c.is_settled.new.pool (extends_then c.is_reduced.ensures.extends c.is_settled.ensures.extends) c.args.branch.now c.requires.over

pub has_all_axioms-requires-clause-classes : goal.has_all_axioms-requires-clause-classes
has_all_axioms-requires-clause-classes c = classes_stay c.args.pool.now c.is_settled.new.pool (extends_then c.is_reduced.ensures.extends c.is_settled.ensures.extends) c.args.branch.now c.requires.over c.args.state.now.classes c.requires.classes

pub has_all_axioms-requires-clause-room : goal.has_all_axioms-requires-clause-room
has_all_axioms-requires-clause-room c = there c.args.pool.now c.is_settled.new.pool (extends_then c.is_reduced.ensures.extends c.is_settled.ensures.extends) c.args.branch.now c.requires.over HasVariable c.requires.room

pub returns-then-not-branch-3-clause-exact : goal.returns-then-not-branch-3-clause-exact
returns-then-not-branch-3-clause-exact c = λ saturated. (
    let shapes = c.args.shapes.now in
    let ms = c.is_settled.new.pool in
    let b = branch_in ms c.args.branch.now in
    let never = subst (λ r. MatchBool r (HasAllAxioms shapes b) (HasAllAxioms shapes b → ⊥)) c.if-not-branch-3.true c.in_ok-has_all_axioms.ensures.exact in
    never (axioms_so shapes b (there c.args.pool.now ms (extends_then c.is_reduced.ensures.extends c.is_settled.ensures.extends) c.args.branch.now c.requires.over (IsSaturated shapes) saturated)))

pub has_all_instances-requires : goal.has_all_instances-requires
has_all_instances-requires c = record { over = over_still c.args.pool.now c.has_all_axioms.new.pool (extends_then (extends_then c.is_reduced.ensures.extends c.is_settled.ensures.extends) c.has_all_axioms.ensures.extends) c.args.branch.now c.requires.over }

pub returns-clause-exact : goal.returns-clause-exact
returns-clause-exact c =
    let shapes = c.args.shapes.now in
    let ns = c.args.pool.now in
    let d = c.args.branch.now in
    let ms1 = c.is_reduced.new.pool in
    let ms2 = c.is_settled.new.pool in
    let ms3 = c.has_all_axioms.new.pool in
    let e1 = c.is_reduced.ensures.extends in
    let e2 = extends_then e1 c.is_settled.ensures.extends in
    let e3 = extends_then e2 c.has_all_axioms.ensures.extends in
    let b = branch_in ns d in
    let b1 = branch_in ms1 d in
    let b2 = branch_in ms2 d in
    let b3 = branch_in ms3 d in
    let reduced = subst (λ r. MatchBool r (IsReduced b) (IsReduced b → ⊥)) c.if-not-branch.false c.in_ok-is_reduced.ensures.exact in
    let settled = subst (λ r. MatchBool r (IsSettled b1) (IsSettled b1 → ⊥)) c.if-not-branch-2.false c.in_ok-is_settled.ensures.exact in
    let axioms = subst (λ r. MatchBool r (HasAllAxioms shapes b2) (HasAllAxioms shapes b2 → ⊥)) c.if-not-branch-3.false c.in_ok-has_all_axioms.ensures.exact in
    ok_map c.has_all_instances.result
    (λ r h. weaker (NoInstance b3) (IsSaturated shapes b)
    (λ instances. all_done shapes b reduced (back ns ms1 e1 d c.requires.over IsSettled settled) (back ns ms2 e2 d c.requires.over (HasAllAxioms shapes) axioms) (back ns ms3 e3 d c.requires.over NoInstance instances))
    (λ saturated. instances_so shapes b3 (there ns ms3 e3 d c.requires.over (IsSaturated shapes) saturated))
    r h)
    c.has_all_instances.ensures.exact
