-- Instances of axioms are true for all values of their variables and all types of their type parameters.
use Rattle.std.proofs.Common.{◌≡◌, List, Bool, true, false, ◌||◌, refl, sym, ap, ◌∙◌, subst}
use Rattle.base.proofs.TruthValues.{true_is}
use Rattle.fol.specs.declared.shapes.Shape.{Shape}
use Rattle.fol.specs.FormulaData.{FormulaData}
use Rattle.fol.specs.Val.{Val, same_value, same_value_itself}
use Rattle.fol.specs.Truth.{Interpretation, Assignment, value_of, truth_of}
use Rattle.fol.specs.Validity.{AnswersRight, Valid}
use Rattle.axioms.specs.declared.axiom.Axiom.{Axiom}
use Rattle.axioms.specs.declared.axiom.Axiom.TheVariants.{Equal, EqualUnless, Cases, Implied, Exactly, Plain, OfStruct}
use Rattle.axioms.specs.Axioms.{IsAxiom}
use Rattle.axioms.proofs.EquationTruth.{one_value}
use Rattle.axioms.proofs.ExceptionTruth.{one_value_unless}
use Rattle.axioms.proofs.AlternativeTruth.{alternative_true}
use Rattle.axioms.proofs.RuleTruth.{rule_true}
use Rattle.axioms.proofs.EquivalenceTruth.{equivalence_true}
use Rattle.axioms.proofs.FactTruth.{fact_true}
use Rattle.axioms.proofs.StructTruth.{struct_axiom_true}

one_true : (v w : Val) → v ≡ w → same_value v w ≡ true
one_true v w e = ap (same_value v) (sym e) ∙ same_value_itself v

unless : (b : Bool) (v w : Val) → (b ≡ false → v ≡ w) → b || (same_value v w || false) ≡ true
unless true v w h = refl
unless false v w h = ap (λ c. c || false) (one_true v w (h refl))

pub axiom_true : (m : Interpretation) → AnswersRight m.all → (s : Assignment) (name : Axiom) (p : FormulaData) → IsAxiom m.shapes name p → truth_of m p s ≡ true
axiom_true m right s (Equal name) p h =
    ap (λ x. truth_of m x s) h.3 ∙ one_true (value_of m h.0 s) (value_of m h.1 s) (one_value m s name h.0 h.1 h.2)
axiom_true m right s (EqualUnless name) p h =
    ap (λ x. truth_of m x s) h.4 ∙ unless (truth_of m h.0 s) (value_of m h.1 s) (value_of m h.2 s) (one_value_unless m s name h.0 h.1 h.2 h.3)
axiom_true m right s (Cases name) p h = ap (λ x. truth_of m x s) h.2 ∙ alternative_true m right s name h.0 h.1
axiom_true m right s (Implied name) p h = ap (λ x. truth_of m x s) h.3 ∙ rule_true m s name h.0 h.1 h.2
axiom_true m right s (Exactly name) p h = ap (λ x. truth_of m x s) h.3 ∙ equivalence_true m s name h.0 h.1 h.2
axiom_true m right s (Plain name) p h = fact_true m s name p h
axiom_true m right s (OfStruct name) p h = struct_axiom_true m s name p h

pub axiom_valid : (shapes : List Shape) (name : Axiom) (p : FormulaData) → IsAxiom shapes name p → Valid shapes p
axiom_valid shapes name p h =
    record { holds = λ m reads s. true_is _ (axiom_true m reads.answers_right s name p (subst (λ (x : List Shape). IsAxiom x name p) (sym reads.same_shapes) h)) }
