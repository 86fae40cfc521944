use Rattle.std.proofs.Common.{◌↔◌, subst}
use Rattle.std.specs.Prelude.{IsTrue}
use Rattle.fol.specs.FormulaData.{FormulaData}
use Rattle.certificates.specs.Closes.{IsWithin}
use Rattle.certificates.proofs.LinearLemmas.{one_more, all_pass}
use Rattle.certificates.proofs.steps.are_within.Goals as goal

pub loop-formula-preserved : goal.loop-formula-preserved
loop-formula-preserved c =
    one_more (IsWithin c.args.limit) _ _ c.formula-item.result _ c.loop-formula-test.true (subst (λ (p : FormulaData). IsTrue c.is_within.result ↔ IsWithin c.args.limit p) c.formula-item.is c.is_within.ensures) c.if-not-is_within.false c.loop-formula.invariant

pub returns : goal.returns
returns c = all_pass (IsWithin c.args.limit) _ _ c.loop-formula-test.false c.loop-formula.invariant
