-- When the application of a step is due, by its reason.
use Rattle.std.proofs.Common.{◌≡◌, ◌↔◌, ℕ, ◌<◌, ◌^◌, pos, ◌+ℤ◌, Bool, false, IsTrue, List, [], ◌∷◌, length, map, refl, sym, ap, ◌∙◌, subst}
use Rattle.std.specs.Prelude.{All}
use Rattle.std.proofs.lemmas.List.Elements.{All-head, All-tail, All-weaker}
use Rattle.fol.specs.declared.shapes.Shape.{Shape}
use Rattle.fol.specs.FormulaData.{NumTerm, FormulaData, EqFormula, LeFormula}
use Rattle.axioms.specs.Forms.{DifferFormula}
use Rattle.term_pool.specs.declared.node.Node.{Node}
use Rattle.certificates.specs.BranchesBranch.{Branch, formulas}
use Rattle.certificates.specs.Due.{PartsDue, SplitDue, NameDue, InstanceDue, AxiomDue, CutDue, AreGenerations}
use Rattle.certificates.specs.Names.{above_all}
use Rattle.certificates.specs.ProofTraces.{Application, PartsApplication, NameApplication, InstanceApplication, AxiomApplication, SplitApplication, CutApplication, BoundApplication}
use Rattle.tableau.specs.PoolBranches.{IsFormulaNumber, IsTermNumber}
use Rattle.tableau.specs.Numbers.{formula_at, AreFormulas}
use Rattle.search.specs.Applications.{term_at, terms_of, entry_of, IsGenerationFrom, IsAddedFor, AsParts, AsName, AsInstance, AsAxiom, AsSplit, AsCut, AsBound, formulas_of}
use Rattle.search.specs.declared.trees.application.Extension.{Extension}
use Rattle.search.specs.declared.trees.application.Reason.{Reason}
use Rattle.search.specs.declared.trees.application.Reason.TheVariants.{Parts, Name, Instance, Axiom, Split, Cut, Bound}
use Rattle.tree_checks.specs.Grown.{BoundsDue, IsDueWhenever}
use Rattle.tree_checks.specs.Lists.{IsOne, IsNotOne, IsPair, IsNoPair}
use Rattle.tree_checks.specs.Steps.{HasNumbers, HasRoomFor, IsGrowing}
use Rattle.tree_checks.proofs.GrownTruthLemmas.{never, weaker}

abbrev pub DueFor : List Shape → List Node → Branch → List FormulaData → Reason → ℕ → Type 0
DueFor shapes ns b ps (Parts i) g = PartsDue b i ps
DueFor shapes ns b ps (Name i v) g = (p : FormulaData) × (ps ≡ p ∷ []) × NameDue b i v p
DueFor shapes ns b ps (Instance i t) g = (p : FormulaData) × (ps ≡ p ∷ []) × InstanceDue b i (term_at ns t) p g
DueFor shapes ns b ps (Axiom name) g = (p : FormulaData) × (ps ≡ p ∷ []) × (AxiomDue shapes b name p g × (above_all (formulas b) < 2 ^ 32))
DueFor shapes ns b ps (Split i) g = SplitDue b i ps
DueFor shapes ns b ps (Cut t u) g = (ps ≡ EqFormula (term_at ns t) (term_at ns u) ∷ DifferFormula (term_at ns t) (term_at ns u) ∷ []) × (CutDue b (term_at ns t) (term_at ns u) × AreGenerations b (term_at ns t ∷ term_at ns u ∷ []) g)
DueFor shapes ns b ps (Bound i t k) g = (ps ≡ LeFormula (term_at ns t) (NumTerm k) ∷ LeFormula (NumTerm (k +ℤ pos 1)) (term_at ns t) ∷ []) × BoundsDue b i (term_at ns t) k

-- some application for the reason is due
record IsApplicationFor (shapes : List Shape) (ns : List Node) (b : Branch) (ps : List FormulaData) (r : Reason) (g : ℕ) : Type 0 where
  application : Application
  added : IsAddedFor ns ps r g application
  due : IsDueWhenever shapes b application
  room : HasRoomFor r b

module _ (shapes : List Shape) (ns : List Node) (b : Branch) (ps : List FormulaData) where
  due_for : (r : Reason) (g : ℕ) (application : Application) → IsAddedFor ns ps r g application → IsDueWhenever shapes b application → HasRoomFor r b → DueFor shapes ns b ps r g
  due_for r g application (AsParts i k) due room = due
  due_for r g application (AsName i v k p is) due room = (p, is, due)
  due_for r g application (AsInstance i t k p is) due room = (p, is, due)
  due_for r g application (AsAxiom name k p is) due room = (p, is, (due, room))
  due_for r g application (AsSplit i k) due room = due
  due_for r g application (AsCut t u k is) due room = (is, due)
  due_for r g application (AsBound i t k z is) due room = (is, due)

  application_for : (r : Reason) (g : ℕ) → DueFor shapes ns b ps r g → IsApplicationFor shapes ns b ps r g
  application_for (Parts i) g h = record { application = PartsApplication i ps; added = AsParts i g; due = h; room = tt }
  application_for (Name i v) g h = record { application = NameApplication i v h.0; added = AsName i v g h.0 h.1; due = h.2; room = tt }
  application_for (Instance i t) g h = record { application = InstanceApplication i (term_at ns t) h.0 g; added = AsInstance i t g h.0 h.1; due = h.2; room = tt }
  application_for (Axiom name) g h = record { application = AxiomApplication name h.0 g; added = AsAxiom name g h.0 h.1; due = h.2.0; room = h.2.1 }
  application_for (Split i) g h = record { application = SplitApplication i ps; added = AsSplit i g; due = h; room = tt }
  application_for (Cut t u) g h = record { application = CutApplication (term_at ns t) (term_at ns u) g; added = AsCut t u g h.0; due = h.1; room = tt }
  application_for (Bound i t k) g h = record { application = BoundApplication i (term_at ns t) k; added = AsBound i t g k h.0; due = h.1; room = tt }

-- ---- steps of one reason

pub number_within : (ns : List Node) (xs : List ℕ) → All (IsTermNumber ns) xs → All (λ t. t < length ns) xs
number_within ns xs h = All-weaker (IsTermNumber ns) (λ t. t < length ns) (λ t n. n.within) xs h

module _ (shapes : List Shape) (ns : List Node) (b : Branch) (g : Extension) (r : Reason) (is : g.reason ≡ r) (numbers : HasNumbers ns g) where
  to_due : IsGrowing shapes ns b g → DueFor shapes ns b (formulas_of ns g) r g.generation
  to_due h = subst (λ x. DueFor shapes ns b (formulas_of ns g) x g.generation) is (due_for shapes ns b (formulas_of ns g) g.reason g.generation h.application h.is.added h.due h.room)

  from_due : IsGenerationFrom b (entry_of r) g.generation → DueFor shapes ns b (formulas_of ns g) r g.generation → IsGrowing shapes ns b g
  from_due from due =
      let found : IsApplicationFor shapes ns b (formulas_of ns g) g.reason g.generation = application_for shapes ns b (formulas_of ns g) g.reason g.generation (subst (λ x. DueFor shapes ns b (formulas_of ns g) x g.generation) (sym is) due) in
      record {
        application = found.application;
        is = record { formulas = numbers.formulas; terms = number_within ns (terms_of g.reason) numbers.terms; added = found.added };
        from = subst (λ x. IsGenerationFrom b (entry_of x) g.generation) (sym is) from;
        due = found.due;
        room = found.room;
      }

  pub other_generation : (IsGenerationFrom b (entry_of r) g.generation → ⊥) → IsTrue false ↔ IsGrowing shapes ns b g
  other_generation none = never (λ h. none (subst (λ x. IsGenerationFrom b (entry_of x) g.generation) is h.from))

  pub not_due : (DueFor shapes ns b (formulas_of ns g) r g.generation → ⊥) → IsTrue false ↔ IsGrowing shapes ns b g
  not_due none = never (λ h. none (to_due h))

  pub due_tells : IsGenerationFrom b (entry_of r) g.generation → (known : Bool) → IsTrue known ↔ DueFor shapes ns b (formulas_of ns g) r g.generation → IsTrue known ↔ IsGrowing shapes ns b g
  due_tells from known h = weaker known (from_due from) to_due h

  -- the terms in the reason have numbers
  pub terms_named : All (IsTermNumber ns) (terms_of r)
  terms_named = subst (λ x. All (IsTermNumber ns) (terms_of x)) is numbers.terms

-- ---- reasons that add one formula

module _ (ns : List Node) (xs : List ℕ) where
  not_one_formula : IsNotOne xs → (p : FormulaData) → map (formula_at ns) xs ≡ p ∷ [] → ⊥
  not_one_formula none p e = go xs none p e
    where
      go : (ys : List ℕ) → IsNotOne ys → (q : FormulaData) → map (formula_at ns) ys ≡ q ∷ [] → ⊥
      go [] h q e = absurd (cc)
      go (y ∷ []) h q e = h.none y refl
      go (y ∷ z ∷ zs) h q e = (let both : formula_at ns y ∷ formula_at ns z ∷ map (formula_at ns) zs ≡ q ∷ [] = e in absurd (cc))

  -- no application is due
  pub no_formula : (P : FormulaData → Type 0) → IsNotOne xs → ((p : FormulaData) × (map (formula_at ns) xs ≡ p ∷ []) × P p) → ⊥
  no_formula P none h = not_one_formula none h.0 h.1

  module _ (x : ℕ) (is : IsOne xs x) where
    pub one_number : AreFormulas ns xs → IsFormulaNumber ns x
    one_number h = All-head (IsFormulaNumber ns) x [] (subst (All (IsFormulaNumber ns)) is.is h.each)

    pub one_formula : map (formula_at ns) xs ≡ formula_at ns x ∷ []
    one_formula = ap (map (formula_at ns)) is.is

    pub one_tells : (P : FormulaData → Type 0) (known : Bool) → IsTrue known ↔ P (formula_at ns x) → IsTrue known ↔ ((p : FormulaData) × (map (formula_at ns) xs ≡ p ∷ []) × P p)
    one_tells P known h = (
      λ t. (formula_at ns x, one_formula, h.0 t),
      λ d. (
          let both : formula_at ns x ∷ [] ≡ d.0 ∷ [] = sym one_formula ∙ d.1 in
          let same : d.0 ≡ formula_at ns x = cc in
          h.1 (subst P same d.2)),
    )

-- ---- reasons that add two formulas

module _ (ns : List Node) (xs : List ℕ) where
  pub no_two : IsNoPair xs → (p q : FormulaData) → map (formula_at ns) xs ≡ p ∷ q ∷ [] → ⊥
  no_two none p q e = go xs none e
    where
      go : (ys : List ℕ) → IsNoPair ys → map (formula_at ns) ys ≡ p ∷ q ∷ [] → ⊥
      go [] h e = absurd (cc)
      go (y ∷ []) h e = (let both : formula_at ns y ∷ [] ≡ p ∷ q ∷ [] = e in absurd (cc))
      go (y ∷ z ∷ []) h e = h.none y z refl
      go (y ∷ z ∷ w ∷ ws) h e = (let both : formula_at ns y ∷ formula_at ns z ∷ formula_at ns w ∷ map (formula_at ns) ws ≡ p ∷ q ∷ [] = e in absurd (cc))

  module _ (pair : ℕ × ℕ) (is : IsPair xs pair) where
    both_numbers : AreFormulas ns xs → All (IsFormulaNumber ns) (pair.0 ∷ pair.1 ∷ [])
    both_numbers h = subst (All (IsFormulaNumber ns)) is.is h.each

    pub left_number : AreFormulas ns xs → IsFormulaNumber ns pair.0
    left_number h = All-head (IsFormulaNumber ns) pair.0 (pair.1 ∷ []) (both_numbers h)

    pub right_number : AreFormulas ns xs → IsFormulaNumber ns pair.1
    right_number h = All-head (IsFormulaNumber ns) pair.1 [] (All-tail (IsFormulaNumber ns) pair.0 (pair.1 ∷ []) (both_numbers h))

    two_formulas : map (formula_at ns) xs ≡ formula_at ns pair.0 ∷ formula_at ns pair.1 ∷ []
    two_formulas = ap (map (formula_at ns)) is.is

    pub two_are : (p q : FormulaData) → formula_at ns pair.0 ≡ p → formula_at ns pair.1 ≡ q → map (formula_at ns) xs ≡ p ∷ q ∷ []
    two_are p q e f = two_formulas ∙ (λ i. e i ∷ f i ∷ [])

    pub first_is : (p q : FormulaData) → map (formula_at ns) xs ≡ p ∷ q ∷ [] → formula_at ns pair.0 ≡ p
    first_is p q e = (let both : formula_at ns pair.0 ∷ formula_at ns pair.1 ∷ [] ≡ p ∷ q ∷ [] = sym two_formulas ∙ e in cc)

    pub second_is : (p q : FormulaData) → map (formula_at ns) xs ≡ p ∷ q ∷ [] → formula_at ns pair.1 ≡ q
    second_is p q e = (let both : formula_at ns pair.0 ∷ formula_at ns pair.1 ∷ [] ≡ p ∷ q ∷ [] = sym two_formulas ∙ e in cc)
