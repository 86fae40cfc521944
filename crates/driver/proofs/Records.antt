-- The record of a function is right if those of its conditions are.
use Rattle.std.proofs.Common.{◌≡◌, ℕ, List, [], ◌∷◌, true, map, sym, ap, ◌∙◌, subst}
use Rattle.base.proofs.TruthValues.{both_true}
use Rattle.vc_gen.specs.declared.condition.VerificationCondition.{VerificationCondition}
use Rattle.vc_gen.specs.Decided.{AreValid, Decide}
use Rattle.vc_gen.specs.Keys.{keys_of}
use Rattle.fol.specs.FormulaData.{FormulaData}
use Rattle.fol.specs.Validity.{Valid}
use Rattle.report.specs.declared.report.ConditionVerdict.{ConditionVerdict}
use Rattle.search.specs.declared.end.End.{End}
use Rattle.certificate_text.specs.declared.prover.answer.Answer.{Answer}
use Rattle.certificate_text.specs.declared.prover.answer.Search.{Search}
use Rattle.base.specs.Pairs.{Paired}
use Rattle.sum_tree.specs.SpecifiedData.{SpecifiedFunctionData}
use Rattle.sum_tree.specs.SumModuleData.{SumModuleData}
use Rattle.report.specs.ReportData.{ParameterValueData, ConditionRecordData, FunctionRecordData}
use Rattle.report.specs.ReportText.{is_proved}
use Rattle.driver.specs.Verdicts.{IsShownBy, ByProof, ByValues, BySteps, ByLinks, ByTwoRows, ByRows, ByBranch, IsShown, BySearch, ByBytes, ByNumeral}
use Rattle.driver.specs.Verified.{IsConditionRecord, IsFunctionRecord, is_condition_proved, are_proved}

-- the formula of a condition whose record is `proved` is valid
valid_by : (p : FormulaData) (parameters : List (List ℕ)) (s : Search) {e : End} {verdict : ConditionVerdict} {values : List ParameterValueData} → IsShownBy p parameters s e verdict values → is_condition_proved verdict ≡ true → Valid [] p
valid_by p parameters s (ByProof h) e = h.valid
valid_by p parameters s (ByValues v values h are) e = absurd (cc)
valid_by p parameters s (BySteps h) e = absurd (cc)
valid_by p parameters s (ByLinks c done h) e = absurd (cc)
valid_by p parameters s (ByTwoRows first second h) e = absurd (cc)
valid_by p parameters s (ByRows rows h) e = absurd (cc)
valid_by p parameters s (ByBranch h) e = absurd (cc)

valid_of_shown : (p : FormulaData) (parameters : List (List ℕ)) {a : Answer} {verdict : ConditionVerdict} {values : List ParameterValueData} → IsShown p parameters a verdict values → is_condition_proved verdict ≡ true → Valid [] p
valid_of_shown p parameters (BySearch s verdict values none h) e = valid_by p parameters s h e
valid_of_shown p parameters (ByBytes s len none h) e = absurd (cc)
valid_of_shown p parameters (ByNumeral u h) e = absurd (cc)

valid_if_proved : (bytes : List ℕ) (file : ℕ) (parameters : List (List ℕ)) (conditions : List VerificationCondition) (found : List ConditionRecordData) → Paired (IsConditionRecord bytes file parameters) conditions found → are_proved found ≡ true → AreValid [] conditions
valid_if_proved bytes file ps [] [] p e = tt
valid_if_proved bytes file ps [] (r ∷ rs) p e = absurd p
valid_if_proved bytes file ps (c ∷ cs) [] p e = absurd p
valid_if_proved bytes file ps (c ∷ cs) (r ∷ rs) p e =
    let both = both_true (is_condition_proved r.verdict) (are_proved rs) e in
    (valid_of_shown c.formula ps p.0.shown both.0, valid_if_proved bytes file ps cs rs p.1 both.1)

pub function_record : (bytes : List ℕ) (m : SumModuleData) (f : SpecifiedFunctionData) (made shown : List VerificationCondition) (judged : List ConditionRecordData) (found : FunctionRecordData) (ps : List (List ℕ)) → ps ≡ f.function.parameters → map (λ (c : VerificationCondition). c.key) made ≡ keys_of f.function f.clauses → Decide f.function f.clauses made → shown ≡ made → Paired (IsConditionRecord bytes m.file ps) shown found.conditions → judged ≡ found.conditions → is_proved found.verdict ≡ are_proved judged → found.address ≡ m.address → found.module_name ≡ m.name → found.name ≡ f.function.name → IsFunctionRecord bytes m f found
function_record bytes m f made shown judged found ps params e decide same paired same_found verdict a n k =
    let all = subst (λ names. Paired (IsConditionRecord bytes m.file names) made found.conditions) params (subst (λ conditions. Paired (IsConditionRecord bytes m.file ps) conditions found.conditions) same paired) in
    let judgement = verdict ∙ ap are_proved same_found in
    record {
      address_is = a;
      module_is = n;
      name_is = k;
      conditions = made;
      keys = e;
      decide = decide;
      records = all;
      verdict = judgement;
      keeps = λ h. decide.sound [] (valid_if_proved bytes m.file f.function.parameters made found.conditions all (sym judgement ∙ h));
    }
