use mir.Syntax.{w128}
use Rattle.std.proofs.Common.{◌↔◌, IsTrue, [], pos, ◌+ℤ◌, subst}
use Rattle.std.proofs.lemmas.Int.{to_z-of_z}
use Rattle.std.proofs.lemmas.List.Elements.{All-head}
use Rattle.fol.specs.FormulaData.{NumTerm, LeFormula}
use Rattle.tableau.specs.PoolBranches.{branch_in, IsTermNumber}
use Rattle.search.specs.Applications.{term_at}
use Rattle.search.specs.declared.trees.application.Reason.TheVariants.{Bound}
use Rattle.tree_checks.specs.Sides.{AreBoundsOf}
use Rattle.tree_checks.proofs.BoundLemmas.{no_bounds, said_tells}
use Rattle.tree_checks.proofs.GrowthLemmas.{other_generation, not_due, due_tells, no_two, left_number, right_number, terms_named}
use Rattle.tree_checks.proofs.GrownTruthLemmas.{refuted}
use Rattle.tree_checks.proofs.grown.bound.are_bounds_growing.Goals as goal

pub returns-then-not-own-clause-exact : goal.returns-then-not-own-clause-exact
returns-then-not-own-clause-exact c = λ shapes. (
    let ns = c.args.pool.now in
    other_generation shapes ns (branch_in ns c.args.branch.now) c.args.extension.now (Bound c.args.entry c.args.term c.args.number) c.requires.reason c.requires.numbers (refuted c.is_own-own.result c.if-not-own.true (c.is_own-own.ensures ns)))

pub returns-in_default-clause-exact : goal.returns-in_default-clause-exact
returns-in_default-clause-exact c = λ shapes. (
    let ns = c.args.pool.now in
    let g = c.args.extension.now in
    let t = term_at ns c.args.term in
    let k = c.args.number in
    not_due shapes ns (branch_in ns c.args.branch.now) g (Bound c.args.entry c.args.term k) c.requires.reason c.requires.numbers (λ d. no_two ns g.formulas.items (rw c.as_slice.ensures.value at c.in_default.ensures) (LeFormula t (NumTerm k)) (LeFormula (NumTerm (k +ℤ pos 1)) t) d.0))

pub are_bounds-bounds-requires-clause-below : goal.are_bounds-bounds-requires-clause-below
are_bounds-bounds-requires-clause-below c = left_number c.args.pool.now c.args.extension.now.formulas.items (c.in-Some.below, c.in-Some.above) (rw c.as_slice.ensures.value at c.in-Some.ensures) c.requires.numbers.formulas

pub are_bounds-bounds-requires-clause-above : goal.are_bounds-bounds-requires-clause-above
are_bounds-bounds-requires-clause-above c = right_number c.args.pool.now c.args.extension.now.formulas.items (c.in-Some.below, c.in-Some.above) (rw c.as_slice.ensures.value at c.in-Some.ensures) c.requires.numbers.formulas

pub are_bounds-bounds-requires-clause-term : goal.are_bounds-bounds-requires-clause-term
are_bounds-bounds-requires-clause-term c =
    let ns = c.args.pool.now in
    All-head (IsTermNumber ns) c.args.term [] (terms_named [] ns (branch_in ns c.args.branch.now) c.args.extension.now (Bound c.args.entry c.args.term c.args.number) c.requires.reason c.requires.numbers)

pub returns-then-not-bounds-clause-exact : goal.returns-then-not-bounds-clause-exact
returns-then-not-bounds-clause-exact c = λ shapes. (
    let ns = c.args.pool.now in
    let b = branch_in ns c.args.branch.now in
    let g = c.args.extension.now in
    let tells : IsTrue c.are_bounds-bounds.result ↔ AreBoundsOf ns (term_at ns c.args.term) c.args.number c.in-Some.below c.in-Some.above = subst (λ z. IsTrue c.are_bounds-bounds.result ↔ AreBoundsOf ns (term_at ns c.args.term) z c.in-Some.below c.in-Some.above) (to_z-of_z w128 c.args.number c.ranges.number) c.are_bounds-bounds.ensures in
    let none = refuted c.are_bounds-bounds.result c.if-not-bounds.true tells in
    not_due shapes ns b g (Bound c.args.entry c.args.term c.args.number) c.requires.reason c.requires.numbers (no_bounds ns (term_at ns c.args.term) c.args.number c.in-Some.below c.in-Some.above g.formulas.items (rw c.as_slice.ensures.value at c.in-Some.ensures) b c.args.entry none))

pub is_said-requires-clause-term : goal.is_said-requires-clause-term
is_said-requires-clause-term c =
    let ns = c.args.pool.now in
    All-head (IsTermNumber ns) c.args.term [] (terms_named [] ns (branch_in ns c.args.branch.now) c.args.extension.now (Bound c.args.entry c.args.term c.args.number) c.requires.reason c.requires.numbers)

pub returns-clause-exact : goal.returns-clause-exact
returns-clause-exact c = λ shapes. (
    let ns = c.args.pool.now in
    let b = branch_in ns c.args.branch.now in
    let g = c.args.extension.now in
    let tells : IsTrue c.are_bounds-bounds.result ↔ AreBoundsOf ns (term_at ns c.args.term) c.args.number c.in-Some.below c.in-Some.above = subst (λ z. IsTrue c.are_bounds-bounds.result ↔ AreBoundsOf ns (term_at ns c.args.term) z c.in-Some.below c.in-Some.above) (to_z-of_z w128 c.args.number c.ranges.number) c.are_bounds-bounds.ensures in
    let bounds = tells.0 c.if-not-bounds.false in
    due_tells shapes ns b g (Bound c.args.entry c.args.term c.args.number) c.requires.reason c.requires.numbers ((c.is_own-own.ensures ns).0 c.if-not-own.false) c.in_ok-known.known
    (said_tells ns (term_at ns c.args.term) c.args.number c.in-Some.below c.in-Some.above g.formulas.items (rw c.as_slice.ensures.value at c.in-Some.ensures) b c.args.entry bounds c.in_ok-known.known c.in_ok-known.ensures.exact))
