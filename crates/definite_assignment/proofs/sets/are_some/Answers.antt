use Rattle.std.proofs.Common.{eqb, sym, ◌∙◌, arith, inl, inr}
use Rattle.std.proofs.lemmas.Bool.{eqb-false, eqb-true, true≢false, not-true, not_from_false, cases_Bool}
use Rattle.definite_assignment.proofs.SetLaws.{none_at, some_at}
use Rattle.definite_assignment.proofs.sets.are_some.Goals as goal

pub returns : goal.returns
returns c =
    let bits = c.args.bits in (
      λ h. let apart = eqb-false bits 0 (not-true (eqb bits 0) h) in some_at bits (omega (arith, apart)) c.ranges.bits.fits,
      λ found. not_from_false (eqb bits 0) (elim (cases_Bool (eqb bits 0)) [
        | inl e ↦ absurd (true≢false (sym found.2 ∙ none_at bits found.0 (eqb-true bits 0 e)))
        | inr e ↦ e
      ]),
    )
