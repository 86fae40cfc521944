-- What comes first, what closes a branch, and late applications.
use Rattle.std.proofs.Common.{◌↔◌, inl, inr, Bool, false, IsTrue, List, ap, ◌∙◌, subst}
use Rattle.fol.specs.declared.shapes.Shape.{Shape}
use Rattle.fol.specs.FormulaData.{NotFormula}
use Rattle.term_pool.specs.declared.node.Node.{Node}
use Rattle.certificates.specs.BranchesBranch.{Branch}
use Rattle.certificates.specs.Due.{AxiomDue, IsNotClosed}
use Rattle.certificates.specs.ProofTraces.{NothingEarly, IsLate}
use Rattle.axiom_strategy.specs.declared.due.WantedAxioms.TheVariants.{Ranges}
use Rattle.axiom_strategy.specs.declared.due.AxiomStep.{AxiomStep}
use Rattle.axiom_strategy.specs.Due.{IsAxiomStep, NothingOfRanges}
use Rattle.closing_rules.specs.Clashes.{IsClashOf}
use Rattle.closing_rules.specs.declared.clashes.clash.Clash.{Clash}
use Rattle.closing_rules.specs.declared.clashes.clash.Clash.TheVariants.{Opposed, Differing, False}
use Rattle.search.specs.declared.values.OpenValues.{OpenValues}
use Rattle.step_checks.specs.Rows.{IsMet}
use Rattle.tree_checks.specs.Late.{HasNoEntryApplication, HasNoRangeApplication, IsLateBy}
use Rattle.tree_checks.proofs.FamilyLemmas.{never, weaker}

-- ---- ranges

pub range_due : (ns : List Node) (shapes : List Shape) (b : Branch) (step : AxiomStep) → IsAxiomStep ns shapes b Ranges step → NothingOfRanges shapes b → ⊥
range_due ns shapes b step h none = elim h.is_wanted [
  | inl e ↦ none.no_range h.formula step.generation (subst (λ n. AxiomDue shapes b n h.formula step.generation) e h.due)
  | inr e ↦ none.no_whole h.formula step.generation (subst (λ n. AxiomDue shapes b n h.formula step.generation) e h.due)
]

-- ---- nothing early

module _ (shapes : List Shape) (b : Branch) where
  nothing_early : HasNoEntryApplication b → HasNoRangeApplication shapes b → NothingEarly shapes b
  nothing_early entries ranges = record {
    no_parts = λ i ps due. (entries.no_parts.each i).none ps due;
    no_name = λ i v p due. (entries.no_name.each i).none v p due;
    no_range = ranges.no_axiom.no_range;
    no_whole = ranges.no_axiom.no_whole;
    no_range_split = λ i p ps says is due. (ranges.no_split.each i).none p ps says is due;
  }

  no_entry_application : NothingEarly shapes b → HasNoEntryApplication b
  no_entry_application h = record {
    no_parts = record { each = λ i. record { none = λ ps due. h.no_parts i ps due } };
    no_name = record { each = λ i. record { none = λ v p due. h.no_name i v p due } };
  }

  no_range_application : NothingEarly shapes b → HasNoRangeApplication shapes b
  no_range_application h = record {
    no_axiom = record { no_range = h.no_range; no_whole = h.no_whole };
    no_split = record { each = λ i. record { none = λ p ps says is due. h.no_range_split i p ps says is due } };
  }

  pub entries_early : (HasNoEntryApplication b → ⊥) → IsTrue false ↔ NothingEarly shapes b
  entries_early none = never (λ h. none (no_entry_application h))

  pub ranges_tell : HasNoEntryApplication b → (known : Bool) → IsTrue known ↔ HasNoRangeApplication shapes b → IsTrue known ↔ NothingEarly shapes b
  ranges_tell entries known h = weaker known (nothing_early entries) no_range_application h

-- ---- what closes a branch

pub closes : (b : Branch) (clash : Clash) → IsClashOf b clash → IsNotClosed b → ⊥
closes b (Opposed said denied) h n = n.no_clash h.formula h.other (record { position = said; says = h.says }) (record { position = denied; says = h.denies }) h.alike
closes b (Differing i) h n =
    n.no_differing h.equates.left h.equates.right (record { position = i; says = record { entry = h.denies.entry; found = h.denies.found; is = h.denies.is ∙ ap NotFormula h.equates.is } }) h.equates.joined
closes b (False i) h n = n.no_false h.formula (record { position = i; says = h.says }) h.is_false

-- ---- late applications

module _ (shapes : List Shape) (ns : List Node) (b : Branch) (v : OpenValues) where
  pub not_met : (IsMet ns b v → ⊥) → IsTrue false ↔ IsLateBy shapes ns b v
  not_met none = never (λ h. none h.met)

  pub is_closed : (IsNotClosed b → ⊥) → IsTrue false ↔ IsLateBy shapes ns b v
  is_closed none = never (λ h. none h.not_closed)

  pub late_so : IsMet ns b v → IsNotClosed b → (known : Bool) → IsTrue known ↔ NothingEarly shapes b → IsTrue known ↔ IsLateBy shapes ns b v
  late_so met open_still known h = weaker known (λ nothing. record { nothing_early = nothing; not_closed = open_still; met = met }) (λ late. late.nothing_early) h

  pub is_late : (known : Bool) → IsTrue known ↔ IsLateBy shapes ns b v → IsTrue known → IsLate shapes b
  is_late known h so =
      let late = h.0 so in
      let has = late.met.has in
      record {
        nothing_early = late.nothing_early;
        not_closed = late.not_closed;
        values = v.values;
        met = record { class = has.class; classes = v.classes.items; rows = late.met.rows; are_rows = has.are_rows; solution = late.met.solution };
      }
