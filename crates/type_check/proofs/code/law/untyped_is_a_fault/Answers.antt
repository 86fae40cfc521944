use Rattle.std.proofs.Common.{inl, inr, refl}
use Rattle.type_check.proofs.code.law.untyped_is_a_fault.Goals as goal

pub returns : goal.returns
returns c = λ program h. (
  h.function.span,
  elim h.untyped [
    | inl none ↦ inl (inl ((h.id, h.function), h.declared, refl, inl (inl none)))
    | inr ambiguous ↦ inr (inl ((h.id, h.function), h.declared, refl, ambiguous))
  ],
)
