-- Extensions that add what is due are due.
use Rattle.std.proofs.Common.{◌≡◌, inl, inr, ℕ, ◌<◌, max, List, [], ◌∷◌, length, length-append, map, Option, Some, None, sym, ap, ◌∙◌, subst, arith}
use Rattle.std.specs.Prelude.{All, MatchOption}
use Rattle.std.proofs.lemmas.List.Elements.{All-nil, All-cons}
use Rattle.fol.specs.declared.shapes.Shape.{Shape}
use Rattle.fol.specs.FormulaData.{TermData, FormulaData, EqFormula, NotFormula}
use Rattle.axioms.specs.Forms.{DifferFormula}
use Rattle.axioms.specs.declared.axiom.Axiom.{Axiom as AxiomName}
use Rattle.term_pool.specs.Items.{sort_of, term_in}
use Rattle.term_pool.specs.Pools.{Extends}
use Rattle.term_pool.proofs.ItemLemmas.{item_kept}
use Rattle.term_pool.specs.declared.node.Node.{Node}
use Rattle.certificates.specs.BranchesBranch.{Branch, IsTerm, IsGeneration}
use Rattle.certificates.specs.Due.{PartsDue, SplitDue, NameDue, InstanceDue, AxiomDue, CutDue, AreGenerations, OfNone, OfMore}
use Rattle.certificates.specs.Decisions.{AreIndexes}
use Rattle.certificates.specs.ProofTraces.{PartsApplication, NameApplication, InstanceApplication, AxiomApplication, SplitApplication, CutApplication, generation_at, IsSplitTime, IsLate}
use Rattle.tableau.specs.PoolBranches.{IsFormulaNumber, IsTermNumber, IsNoTerm}
use Rattle.tableau.specs.Numbers.{formula_at, AreFormulas, IsNumberOf}
use Rattle.tableau.proofs.NumberLemmas.{number_stays, formula_stays}
use Rattle.tableau.specs.Steps.{ArePartsDue, AreCasesDue}
use Rattle.tableau.specs.Names.{IsNameStep}
use Rattle.tableau.specs.declared.names.NameStep.{NameStep}
use Rattle.axiom_strategy.specs.Cuts.{IsCut}
use Rattle.axiom_strategy.specs.declared.decisions.cuts.CutStep.{CutStep}
use Rattle.search.specs.Applications.{terms_of, entry_of, term_at, IsGenerationFrom, IsAddedFor, AsParts, AsName, AsInstance, AsAxiom, AsSplit, AsCut}
use Rattle.search.specs.declared.trees.application.Extension.{Extension}
use Rattle.search.specs.declared.trees.application.Reason.TheVariants.{Parts, Name, Instance, Axiom, Split, Cut}
use Rattle.search.specs.Decisions.{IsExtensionDue}

module _ (shapes : List Shape) (ns : List Node) (b : Branch) where
  pub parts_due : (g : Extension) (i : ℕ) → g.reason ≡ Parts i → g.generation ≡ generation_at b i → ArePartsDue ns b i g.formulas.items → IsExtensionDue shapes ns b g
  parts_due g i reason generation h = record {
    application = PartsApplication i (map (formula_at ns) g.formulas.items);
    is = record {
      formulas = h.numbered.formulas;
      terms = subst (λ r. All (λ t. t < length ns) (terms_of r)) (sym reason) (All-nil (λ t. t < length ns));
      added = subst (λ r. IsAddedFor ns (map (formula_at ns) g.formulas.items) r g.generation (PartsApplication i (map (formula_at ns) g.formulas.items))) (sym reason) (AsParts i g.generation);
    };
    from = subst (λ r. IsGenerationFrom b (entry_of r) g.generation) (sym reason) generation;
    due = subst (PartsDue b i) (sym h.numbered.are) h.due;
  }

  pub split_due : (g : Extension) (i : ℕ) → g.reason ≡ Split i → g.generation ≡ generation_at b i → AreCasesDue ns b i g.formulas.items → IsSplitTime shapes b i → IsExtensionDue shapes ns b g
  split_due g i reason generation h time = record {
    application = SplitApplication i (map (formula_at ns) g.formulas.items);
    is = record {
      formulas = h.numbered.formulas;
      terms = subst (λ r. All (λ t. t < length ns) (terms_of r)) (sym reason) (All-nil (λ t. t < length ns));
      added = subst (λ r. IsAddedFor ns (map (formula_at ns) g.formulas.items) r g.generation (SplitApplication i (map (formula_at ns) g.formulas.items))) (sym reason) (AsSplit i g.generation);
    };
    from = subst (λ r. IsGenerationFrom b (entry_of r) g.generation) (sym reason) generation;
    due = (subst (SplitDue b i) (sym h.numbered.are) h.due, time);
  }

  pub name_due : (g : Extension) (step : NameStep) (i : ℕ) → i ≡ step.entry → g.reason ≡ Name i step.variable → g.generation ≡ generation_at b step.entry → g.formulas.items ≡ step.formula ∷ [] → IsNameStep ns b step → IsExtensionDue shapes ns b g
  name_due g step i same reason generation formulas h =
      let one : map (formula_at ns) g.formulas.items ≡ h.formula ∷ [] = ap (map (formula_at ns)) formulas ∙ ap (λ p. p ∷ []) h.numbered.is in
      record {
        application = NameApplication i step.variable h.formula;
        is = record {
          formulas = subst (AreFormulas ns) (sym formulas) (record { each = All-cons (IsFormulaNumber ns) step.formula [] h.numbered.number (All-nil (IsFormulaNumber ns)) });
          terms = subst (λ r. All (λ t. t < length ns) (terms_of r)) (sym reason) (All-nil (λ t. t < length ns));
          added = subst (λ r. IsAddedFor ns (map (formula_at ns) g.formulas.items) r g.generation (NameApplication i step.variable h.formula)) (sym reason) (AsName i step.variable g.generation h.formula one);
        };
        from = subst (λ r. IsGenerationFrom b (entry_of r) g.generation) (sym reason) (generation ∙ ap (generation_at b) (sym same));
        due = subst (λ k. NameDue b k step.variable h.formula) (sym same) h.due;
      }

  pub axiom_due : (g : Extension) (name : AxiomName) (formula : ℕ) (p : FormulaData) → g.reason ≡ Axiom name → g.formulas.items ≡ formula ∷ [] → IsNumberOf ns p formula → AxiomDue shapes b name p g.generation → IsExtensionDue shapes ns b g
  axiom_due g name formula p reason formulas numbered due =
      let one : map (formula_at ns) g.formulas.items ≡ p ∷ [] = ap (map (formula_at ns)) formulas ∙ ap (λ q. q ∷ []) numbered.is in
      record {
        application = AxiomApplication name p g.generation;
        is = record {
          formulas = subst (AreFormulas ns) (sym formulas) (record { each = All-cons (IsFormulaNumber ns) formula [] numbered.number (All-nil (IsFormulaNumber ns)) });
          terms = subst (λ r. All (λ t. t < length ns) (terms_of r)) (sym reason) (All-nil (λ t. t < length ns));
          added = subst (λ r. IsAddedFor ns (map (formula_at ns) g.formulas.items) r g.generation (AxiomApplication name p g.generation)) (sym reason) (AsAxiom name g.generation p one);
        };
        from = subst (λ r. IsGenerationFrom b (entry_of r) g.generation) (sym reason) tt;
        due = due;
      }

  pub instance_due : (g : Extension) (i term formula : ℕ) (p : FormulaData) → g.reason ≡ Instance i term → g.formulas.items ≡ formula ∷ [] → IsTermNumber ns term → IsNumberOf ns p formula → InstanceDue b i (term_at ns term) p g.generation → IsExtensionDue shapes ns b g
  instance_due g i term formula p reason formulas number numbered due =
      let one : map (formula_at ns) g.formulas.items ≡ p ∷ [] = ap (map (formula_at ns)) formulas ∙ ap (λ q. q ∷ []) numbered.is in
      record {
        application = InstanceApplication i (term_at ns term) p g.generation;
        is = record {
          formulas = subst (AreFormulas ns) (sym formulas) (record { each = All-cons (IsFormulaNumber ns) formula [] numbered.number (All-nil (IsFormulaNumber ns)) });
          terms = subst (λ r. All (λ t. t < length ns) (terms_of r)) (sym reason) (All-cons (λ t. t < length ns) term [] number.within (All-nil (λ t. t < length ns)));
          added = subst (λ r. IsAddedFor ns (map (formula_at ns) g.formulas.items) r g.generation (InstanceApplication i (term_at ns term) p g.generation)) (sym reason) (AsInstance i term g.generation p one);
        };
        from = subst (λ r. IsGenerationFrom b (entry_of r) g.generation) (sym reason) tt;
        due = due;
      }

  -- both terms are on the branch, since their equation is not negated there
  pub cut_terms : (t u : TermData) → CutDue b t u → AreIndexes b t u
  cut_terms t u due = elim due.triggered [
    | inl indexes ↦ indexes
    | inr denied ↦ absurd (due.denial_is_new.new denied)
  ]

  pub cut_due : (g : Extension) (left right equation denial l r : ℕ) → g.reason ≡ Cut left right → g.generation ≡ max l r → g.formulas.items ≡ equation ∷ denial ∷ [] → IsTermNumber ns left → IsTermNumber ns right → IsNumberOf ns (EqFormula (term_at ns left) (term_at ns right)) equation → IsNumberOf ns (NotFormula (EqFormula (term_at ns left) (term_at ns right))) denial → IsGeneration b (term_at ns left) l → IsGeneration b (term_at ns right) r → CutDue b (term_at ns left) (term_at ns right) → IsLate shapes b → IsExtensionDue shapes ns b g
  cut_due g left right equation denial l r reason generation formulas one other equal differ first second due late =
      let t : TermData = term_at ns left in
      let u : TermData = term_at ns right in
      let two : map (formula_at ns) g.formulas.items ≡ EqFormula t u ∷ DifferFormula t u ∷ [] = ap (map (formula_at ns)) formulas ∙ (λ i. equal.is i ∷ differ.is i ∷ []) in
      let of_both : AreGenerations b (t ∷ u ∷ []) (max l (max r 0)) = OfMore t (u ∷ []) l (max r 0) first (OfMore u [] r 0 second OfNone) in
      let same : max l (max r 0) ≡ g.generation = ap (max l) (max-zero r) ∙ sym generation in
      record {
        application = CutApplication t u g.generation;
        is = record {
          formulas = subst (AreFormulas ns) (sym formulas) (record { each = All-cons (IsFormulaNumber ns) equation (denial ∷ []) equal.number (All-cons (IsFormulaNumber ns) denial [] differ.number (All-nil (IsFormulaNumber ns))) });
          terms = subst (λ q. All (λ n. n < length ns) (terms_of q)) (sym reason) (All-cons (λ n. n < length ns) left (right ∷ []) one.within (All-cons (λ n. n < length ns) right [] other.within (All-nil (λ n. n < length ns))));
          added = subst (λ q. IsAddedFor ns (map (formula_at ns) g.formulas.items) q g.generation (CutApplication t u g.generation)) (sym reason) (AsCut left right g.generation two);
        };
        from = subst (λ q. IsGenerationFrom b (entry_of q) g.generation) (sym reason) tt;
        due = (due, subst (AreGenerations b (t ∷ u ∷ [])) same of_both, late);
      }
    where
      max-zero : (n : ℕ) → max n 0 ≡ n
      max-zero n = omega arith

-- the result of a look-up of a generation
pub found_generation : (b : Branch) (t : TermData) (o : Option ℕ) (g : ℕ) → o ≡ Some g → MatchOption o (IsNoTerm b t) (IsGeneration b t) → IsGeneration b t g
found_generation b t o g e h = subst (λ x. MatchOption x (IsNoTerm b t) (IsGeneration b t)) e h

pub no_generation : (b : Branch) (t : TermData) (o : Option ℕ) → o ≡ None → MatchOption o (IsNoTerm b t) (IsGeneration b t) → IsTerm b t → ⊥
no_generation b t o e h term = (subst (λ x. MatchOption x (IsNoTerm b t) (IsGeneration b t)) e h).none term

module _ (ns ms : List Node) (grown : Extends ns ms) where
  pub term_number_stays : (n : ℕ) → IsTermNumber ns n → IsTermNumber ms n
  term_number_stays n h = record {
    within = (let l = ap length grown.is in omega (arith, l, length-append ns grown.more, h.within));
    sort = ap sort_of (item_kept ns ms grown n h.within) ∙ h.sort;
  }

  pub term_stays : (n : ℕ) → IsTermNumber ns n → term_at ms n ≡ term_at ns n
  term_stays n h = ap term_in (item_kept ns ms grown n h.within)

  -- a cut in the pool that also has its negation
  pub cut_in_more : (shapes : List Shape) (b : Branch) (step : CutStep) → IsCut ns b step → (g : Extension) (denial l r : ℕ) → g.reason ≡ Cut step.left step.right → g.generation ≡ max l r → g.formulas.items ≡ step.equation ∷ denial ∷ [] → IsNumberOf ms (NotFormula (formula_at ns step.equation)) denial → IsGeneration b (term_at ns step.left) l → IsGeneration b (term_at ns step.right) r → IsLate shapes b → IsExtensionDue shapes ms b g
  cut_in_more shapes b step cut g denial l r reason generation formulas denied first second late =
      let one : term_at ns step.left ≡ term_at ms step.left = sym (term_stays step.left cut.left) in
      let other : term_at ns step.right ≡ term_at ms step.right = sym (term_stays step.right cut.right) in
      let equation : IsNumberOf ms (EqFormula (term_at ms step.left) (term_at ms step.right)) step.equation = record { number = number_stays ns ms grown step.equation cut.equation.number; is = formula_stays ns ms grown step.equation cut.equation.number ∙ cut.equation.is ∙ (λ i. EqFormula (one i) (other i)) } in
      let denied_is = subst (λ p. IsNumberOf ms p denial) (λ i. NotFormula ((cut.equation.is ∙ (λ j. EqFormula (one j) (other j))) i)) denied in
      cut_due shapes ms b g step.left step.right step.equation denial l r reason generation formulas (term_number_stays step.left cut.left) (term_number_stays step.right cut.right) equation denied_is (subst (λ t. IsGeneration b t l) one first) (subst (λ t. IsGeneration b t r) other second) (subst (λ u. CutDue b (term_at ms step.left) u) other (subst (λ t. CutDue b t (term_at ns step.right)) one cut.due)) late
