use Rattle.std.proofs.Common.{◌↔◌, ◌<◌, ◌^◌, IsTrue, subst, arith}
use Rattle.std.specs.Int.{w128}
use Rattle.std.proofs.lemmas.Int.{to_z-of_z}
use Rattle.certificates.specs.BranchesBranch.{formulas}
use Rattle.certificates.specs.Names.{above_all}
use Rattle.tableau.specs.PoolBranches.{branch_in}
use Rattle.tableau.specs.Terms.{term_at}
use Rattle.tableau.proofs.AboveLemmas.{all_new}
use Rattle.tableau.proofs.VariablesLemmas.{above_grown}
use Rattle.tree_checks.specs.Firsts.{AskForBound}
use Rattle.tree_checks.proofs.BoundsTruthLemmas.{never, refuted}
use Rattle.tree_checks.proofs.AskLemmas.{bound_asks, bound_exactly}
use Rattle.tree_checks.proofs.bounds.bound.is_bound_by.Goals as goal

pub returns-then-crowded-clause-exact : goal.returns-then-crowded-clause-exact
returns-then-crowded-clause-exact c = never (λ h. (
    let room = h.room in
    let past = c.is_past-crowded.ensures.0 c.if-crowded.true in
    let same = c.in_ok-above.ensures.is in
    omega (arith, room, past, same)))

pub returns-then-not-triggered-clause-exact : goal.returns-then-not-triggered-clause-exact
returns-then-not-triggered-clause-exact c =
    let ns = c.args.pool.now in
    let grounds = c.args.grounds.now in
    let triggered = subst (λ z. IsTrue c.in_ok-triggered.triggered ↔ AskForBound ns (branch_in ns c.args.branch.now) (term_at ns c.args.term) z grounds.values grounds.elimination) (to_z-of_z w128 c.args.number c.ranges.number) c.in_ok-triggered.ensures in
    never (λ h. refuted c.in_ok-triggered.triggered c.if-not-triggered.true triggered (bound_asks c.args.shapes.now ns (branch_in ns c.args.branch.now) (term_at ns c.args.term) c.args.number grounds.values grounds.elimination h))

pub is_saturated-requires-clause-room : goal.is_saturated-requires-clause-room
is_saturated-requires-clause-room c =
    let b = branch_in c.args.pool.now c.args.branch.now in
    let left = refuted c.is_past-crowded.result c.if-crowded.false c.is_past-crowded.ensures in
    let same = c.in_ok-above.ensures.is in
    record { number = above_all (formulas b); is_variable = omega (arith, left, same); is_new = all_new (above_all (formulas b)) (formulas b) (omega arith) }

pub returns-clause-above : goal.returns-clause-above
returns-clause-above c = above_grown c.args.pool.now c.is_saturated.new.pool c.is_saturated.ensures.extends c.args.branch.now c.requires.over c.above_all.new.self c.in_ok-above.ensures.above

pub returns-clause-exact : goal.returns-clause-exact
returns-clause-exact c =
    let ns = c.args.pool.now in
    let b = branch_in ns c.args.branch.now in
    let grounds = c.args.grounds.now in
    let left = refuted c.is_past-crowded.result c.if-crowded.false c.is_past-crowded.ensures in
    let same = c.in_ok-above.ensures.is in
    let room : above_all (formulas b) < 2 ^ 32 = omega (arith, left, same) in
    let triggered = subst (λ z. IsTrue c.in_ok-triggered.triggered ↔ AskForBound ns b (term_at ns c.args.term) z grounds.values grounds.elimination) (to_z-of_z w128 c.args.number c.ranges.number) c.in_ok-triggered.ensures in
    bound_exactly c.args.shapes.now ns b (term_at ns c.args.term) c.args.number grounds.values grounds.elimination room (triggered.0 c.if-not-triggered.false) c.in_ok-saturated.saturated c.in_ok-saturated.ensures.exact
