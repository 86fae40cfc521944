use Rattle.std.proofs.Common.{◌≡◌, ◌<◌, false, length, get_or, arith}
use Rattle.fol.specs.declared.operators.Junction.TheVariants.{AllOf}
use Rattle.fol.specs.FormulaData.{FormulaData, NoFormulas, JoinFormula}
use Rattle.substitution.specs.Free.{free_in}
use Rattle.certificates.specs.Branch.{entries_of}
use Rattle.certificates.specs.Quantified.{IsNew}
use Rattle.certificates.proofs.LinearLemmas.{one_more, all_pass, fails}
use Rattle.certificates.proofs.quantified.is_new.Goals as goal

any : FormulaData
any = JoinFormula AllOf NoFormulas

pub loop-index-preserved : goal.loop-index-preserved
loop-index-preserved c =
    let here : c.loop-index.index < length (entries_of c.args.branch.now) = omega arith in
    one_more (λ (p : FormulaData). free_in c.args.variable p ≡ false) _ _ any _ here (c.is_new_at.ensures any) c.if-not-is_new_at.false c.loop-index.invariant

pub returns-then-not-is_new_at : goal.returns-then-not-is_new_at
returns-then-not-is_new_at c =
    let here : c.loop-index.index < length (entries_of c.args.branch.now) = omega arith in
    fails (free_in c.args.variable (get_or (entries_of c.args.branch.now) c.loop-index.index any) ≡ false) (IsNew c.args.variable (entries_of c.args.branch.now)) _ (c.is_new_at.ensures any) c.if-not-is_new_at.true (λ n. n c.loop-index.index any here)

pub returns : goal.returns
returns c = all_pass (λ (p : FormulaData). free_in c.args.variable p ≡ false) (entries_of c.args.branch.now) c.loop-index.index (omega arith) c.loop-index.invariant
