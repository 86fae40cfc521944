use Rattle.std.proofs.Common.{refl}
use Rattle.fol.specs.FormulaData.{terms_of, triggers_of, formulas_of}
use Rattle.certificates.specs.Lengths.{terms_length, triggers_length, formulas_length}
use Rattle.certificates.proofs.LengthLaws.{counted_end}
use Rattle.certificates.proofs.bytes.lengths.+len.Goals as goal

pub terms_len-returns : goal.terms_len-returns
terms_len-returns t c = counted_end (λ ts. terms_length (terms_of ts)) refl _ _ _ c.loop-term-test.false c.loop-term.invariant.0 c.loop-term.invariant.1

pub triggers_len-returns : goal.triggers_len-returns
triggers_len-returns t c = counted_end (λ ts. triggers_length (triggers_of ts)) refl _ _ _ c.loop-trigger-test.false c.loop-trigger.invariant.0 c.loop-trigger.invariant.1

pub formulas_len-returns : goal.formulas_len-returns
formulas_len-returns t c = counted_end (λ ps. formulas_length (formulas_of ps)) refl _ _ _ c.loop-formula-test.false c.loop-formula.invariant.0 c.loop-formula.invariant.1
