use Rattle.std.proofs.Common.{◌∙◌, sym, subst}
use Rattle.step_checks.proofs.RestLemmas.{Vanishes, holds, nothing_is_left, below_is_less, false_not}
use Rattle.step_checks.proofs.met_rows.rest.is_true.Goals as goal

pub returns-then-not-are_zero : goal.returns-then-not-are_zero
returns-then-not-are_zero c = λ form h. (
  λ t. absurd (false_not t),
  λ t. (
      let left = nothing_is_left form c.args.rest.now h t in
      sym c.if-not-are_zero.true ∙ c.are_zero.ensures.1 (subst Vanishes (sym c.as_slice.ensures.value) left)),
)

pub returns : goal.returns
returns c = λ form h. (
  λ t. holds form c.args.rest.now h (subst Vanishes c.as_slice.ensures.value (c.are_zero.ensures.0 c.if-not-are_zero.false)) (c.is_at_most.ensures.0 t),
  λ t. c.is_at_most.ensures.1 (below_is_less form c.args.rest.now h t),
)
