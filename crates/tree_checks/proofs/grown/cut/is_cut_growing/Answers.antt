use Rattle.std.proofs.Common.{ℕ, [], ◌∷◌}
use Rattle.std.proofs.lemmas.List.Elements.{All-head, All-tail}
use Rattle.fol.specs.FormulaData.{EqFormula}
use Rattle.axioms.specs.Forms.{DifferFormula}
use Rattle.tableau.specs.PoolBranches.{branch_in, IsTermNumber}
use Rattle.search.specs.Applications.{term_at}
use Rattle.search.specs.declared.trees.application.Reason.TheVariants.{Cut}
use Rattle.tree_checks.proofs.GrowthLemmas.{not_due, due_tells, no_two, left_number, right_number, two_are, first_is, second_is, terms_named}
use Rattle.tree_checks.proofs.GrownKeptLemmas.{kept_stays}
use Rattle.tree_checks.proofs.GrownTruthLemmas.{refuted, weaker}
use Rattle.tree_checks.proofs.grown.cut.is_cut_growing.Goals as goal

pub returns-in_default-clause-exact : goal.returns-in_default-clause-exact
returns-in_default-clause-exact c = λ shapes. (
    let ns = c.args.pool.now in
    let g = c.args.extension.now in
    let t = term_at ns c.args.left in
    let u = term_at ns c.args.right in
    not_due shapes ns (branch_in ns c.args.branch.now) g (Cut c.args.left c.args.right) c.requires.reason c.requires.numbers (λ d. no_two ns g.formulas.items (rw c.as_slice.ensures.value at c.in_default.ensures) (EqFormula t u) (DifferFormula t u) d.0))

pub are_cut_sides-sides-requires-clause-left : goal.are_cut_sides-sides-requires-clause-left
are_cut_sides-sides-requires-clause-left c =
    let ns = c.args.pool.now in
    All-head (IsTermNumber ns) c.args.left (c.args.right ∷ []) (terms_named [] ns (branch_in ns c.args.branch.now) c.args.extension.now (Cut c.args.left c.args.right) c.requires.reason c.requires.numbers)

pub are_cut_sides-sides-requires-clause-right : goal.are_cut_sides-sides-requires-clause-right
are_cut_sides-sides-requires-clause-right c =
    let ns = c.args.pool.now in
    All-head (IsTermNumber ns) c.args.right [] (All-tail (IsTermNumber ns) c.args.left (c.args.right ∷ []) (terms_named [] ns (branch_in ns c.args.branch.now) c.args.extension.now (Cut c.args.left c.args.right) c.requires.reason c.requires.numbers))

pub are_cut_sides-sides-requires-clause-equation : goal.are_cut_sides-sides-requires-clause-equation
are_cut_sides-sides-requires-clause-equation c = left_number c.args.pool.now c.args.extension.now.formulas.items (c.in-Some.equation, c.in-Some.denial) (rw c.as_slice.ensures.value at c.in-Some.ensures) c.requires.numbers.formulas

pub are_cut_sides-sides-requires-clause-denial : goal.are_cut_sides-sides-requires-clause-denial
are_cut_sides-sides-requires-clause-denial c = right_number c.args.pool.now c.args.extension.now.formulas.items (c.in-Some.equation, c.in-Some.denial) (rw c.as_slice.ensures.value at c.in-Some.ensures) c.requires.numbers.formulas

pub returns-then-not-sides-clause-exact : goal.returns-then-not-sides-clause-exact
returns-then-not-sides-clause-exact c = λ shapes. (
    let ns = c.args.pool.now in
    let g = c.args.extension.now in
    let t = term_at ns c.args.left in
    let u = term_at ns c.args.right in
    let pair : ℕ × ℕ = (c.in-Some.equation, c.in-Some.denial) in
    let is = rw c.as_slice.ensures.value at c.in-Some.ensures in
    let none = refuted c.are_cut_sides-sides.result c.if-not-sides.true c.are_cut_sides-sides.ensures in
    not_due shapes ns (branch_in ns c.args.branch.now) g (Cut c.args.left c.args.right) c.requires.reason c.requires.numbers (λ d. none (first_is ns g.formulas.items pair is (EqFormula t u) (DifferFormula t u) d.0, second_is ns g.formulas.items pair is (EqFormula t u) (DifferFormula t u) d.0)))

pub returns-then-not-fits-clause-exact : goal.returns-then-not-fits-clause-exact
returns-then-not-fits-clause-exact c = λ shapes. (
    let ns = c.args.pool.now in
    let none = refuted c.is_generation_of-fits.result c.if-not-fits.true c.is_generation_of-fits.ensures in
    not_due shapes ns (branch_in ns c.args.branch.now) c.args.extension.now (Cut c.args.left c.args.right) c.requires.reason c.requires.numbers (λ d. none d.1.1))

pub returns-clause-kept : goal.returns-clause-kept
returns-clause-kept c =
    kept_stays c.args.pool.now c.is_cut_due.new.pool c.is_cut_due.ensures.extends c.args.branch.now c.requires.over _ (record { above = c.requires.kept.above; state = c.in_ok-follow_classes.ensures.state; heads = c.requires.kept.heads; quantifiers = c.requires.kept.quantifiers })

pub returns-clause-exact : goal.returns-clause-exact
returns-clause-exact c = λ shapes. (
    let ns = c.args.pool.now in
    let g = c.args.extension.now in
    let t = term_at ns c.args.left in
    let u = term_at ns c.args.right in
    let sides = c.are_cut_sides-sides.ensures.0 c.if-not-sides.false in
    let fits = c.is_generation_of-fits.ensures.0 c.if-not-fits.false in
    due_tells shapes ns (branch_in ns c.args.branch.now) g (Cut c.args.left c.args.right) c.requires.reason c.requires.numbers tt c.in_ok-known.known
    (weaker c.in_ok-known.known (λ due. (two_are ns g.formulas.items (c.in-Some.equation, c.in-Some.denial) (rw c.as_slice.ensures.value at c.in-Some.ensures) (EqFormula t u) (DifferFormula t u) sides.0 sides.1, (due, fits))) (λ d. d.1.0) c.in_ok-known.ensures.exact))

pub is_generation_of-fits-requires-clause-left : goal.is_generation_of-fits-requires-clause-left
is_generation_of-fits-requires-clause-left c =
    let ns = c.args.pool.now in
    All-head (IsTermNumber ns) c.args.left (c.args.right ∷ []) (terms_named [] ns (branch_in ns c.args.branch.now) c.args.extension.now (Cut c.args.left c.args.right) c.requires.reason c.requires.numbers)

pub is_generation_of-fits-requires-clause-right : goal.is_generation_of-fits-requires-clause-right
is_generation_of-fits-requires-clause-right c =
    let ns = c.args.pool.now in
    All-head (IsTermNumber ns) c.args.right [] (All-tail (IsTermNumber ns) c.args.left (c.args.right ∷ []) (terms_named [] ns (branch_in ns c.args.branch.now) c.args.extension.now (Cut c.args.left c.args.right) c.requires.reason c.requires.numbers))

pub is_cut_due-requires-clause-left : goal.is_cut_due-requires-clause-left
is_cut_due-requires-clause-left c =
    let ns = c.args.pool.now in
    All-head (IsTermNumber ns) c.args.left (c.args.right ∷ []) (terms_named [] ns (branch_in ns c.args.branch.now) c.args.extension.now (Cut c.args.left c.args.right) c.requires.reason c.requires.numbers)

pub is_cut_due-requires-clause-right : goal.is_cut_due-requires-clause-right
is_cut_due-requires-clause-right c =
    let ns = c.args.pool.now in
    All-head (IsTermNumber ns) c.args.right [] (All-tail (IsTermNumber ns) c.args.left (c.args.right ∷ []) (terms_named [] ns (branch_in ns c.args.branch.now) c.args.extension.now (Cut c.args.left c.args.right) c.requires.reason c.requires.numbers))
