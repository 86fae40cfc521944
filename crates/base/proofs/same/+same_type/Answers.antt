use Rattle.std.proofs.Common.{sym, ◌∙◌, ap}
use Rattle.base.specs.TypeData.{types_of, types_of_injective}
use Rattle.base.proofs.same.+same_type.Goals as goal

pub same_types-returns : goal.same_types-returns
same_types-returns t c = (
  λ h. sym c.left.view_is ∙ ap types_of (sym c.as_slice.ensures.value ∙ c.same_slices.ensures.0 h ∙ c.as_slice-2.ensures.value) ∙ c.right.view_is,
  λ e. c.same_slices.ensures.1 (c.as_slice.ensures.value ∙ types_of_injective _ _ (c.left.view_is ∙ e ∙ sym c.right.view_is) ∙ sym c.as_slice-2.ensures.value),
)
