-- Instances of axioms by number, and whether they are due.
use Rattle.std.specs.Prelude.{◌≡◌, ℕ, Bool, true, false, List, [], ◌∷◌, slice_get, Some}
use Rattle.fol.specs.FormulaData.{TermData, FormulaData}
use Rattle.axioms.specs.declared.axiom.Axiom.{Axiom}
use Rattle.axioms.specs.declared.axiom.Axiom.TheVariants.{Exactly, Plain}
use Rattle.axioms.specs.declared.axiom.Equivalence.TheVariants.{Range}
use Rattle.axioms.specs.declared.axiom.Fact.TheVariants.{Whole}
use Rattle.term_pool.specs.Items.{FormulaItem}
use Rattle.term_pool.specs.Pools.{IsItem}
use Rattle.term_pool.specs.declared.node.Node.{Node}
use Rattle.certificates.specs.BranchesBranch.{Branch, IsNew}
use Rattle.certificates.specs.Due.{IsShallow, AreGenerations}
use Rattle.axiom_instances.specs.declared.triggered.TriggeredTerms.{TriggeredTerms}
use Rattle.axiom_instances.specs.declared.triggered.TriggeredTerms.TheVariants.{None as NoTerms, One as OneTerm, Two as TwoTerms}
use Rattle.axiom_instances.specs.declared.triggered.TriggeredAxiom.{TriggeredAxiom}
use Rattle.axiom_instances.specs.Lists.{Triggered, AreTerms}
use Rattle.axiom_instances.specs.Numbers.{term_at, formula_at}
use Rattle.axiom_strategy.specs.declared.due.WantedAxioms.{WantedAxioms}
use Rattle.axiom_strategy.specs.declared.due.WantedAxioms.TheVariants.{Ranges, All}

-- ---- wanted axioms

-- decides whether the axiom is a range axiom
abbrev pub is_of_ranges : Axiom → Bool
is_of_ranges (Exactly Range) = true
is_of_ranges (Plain Whole) = true
is_of_ranges _ = false

abbrev pub is_wanted : WantedAxioms → Axiom → Bool
is_wanted Ranges name = is_of_ranges name
is_wanted All name = true

-- ---- instances by number

-- the terms with these numbers
abbrev pub terms_in : List Node → TriggeredTerms → List TermData
terms_in ns NoTerms = []
terms_in ns (OneTerm i) = term_at ns i ∷ []
terms_in ns (TwoTerms i j) = term_at ns i ∷ term_at ns j ∷ []

abbrev pub triggered_in : List Node → TriggeredAxiom → Triggered
triggered_in ns x = record { name = x.name; terms = terms_in ns x.terms; formula = formula_at ns x.formula }

-- the numbers are those of terms and of a formula
pub record IsInstance (ns : List Node) (x : TriggeredAxiom) : Type 0 where
  pub terms : AreTerms ns x.terms (terms_in ns x.terms)
  pub formula : IsItem ns x.formula (FormulaItem (formula_at ns x.formula))

pub record AreInstances (ns : List Node) (xs : List TriggeredAxiom) : Type 0 where
  pub each : (k : ℕ) (x : TriggeredAxiom) → slice_get xs k ≡ Some x → IsInstance ns x

-- some term of these is not on the branch
pub record HaveNoGenerations (b : Branch) (ts : List TermData) : Type 0 where
  pub none : (g : ℕ) → AreGenerations b ts g → ⊥

-- the instance is new and shallow, and its terms have this generation
pub record IsDueNow (b : Branch) (a : Triggered) (generation : ℕ) : Type 0 where
  pub generations : AreGenerations b a.terms generation
  pub is_new : IsNew b a.formula
  pub shallow : IsShallow a.formula

pub record IsNotDue (b : Branch) (a : Triggered) : Type 0 where
  pub none : (g : ℕ) → IsDueNow b a g → ⊥

-- this instance alone
pub record IsOnly (a : Triggered) (name : Axiom) (ts : List TermData) (p : FormulaData) : Type 0 where
  pub is : a ≡ record { name = name; terms = ts; formula = p }

-- the instances of a list
pub record IsListed (ns : List Node) (xs : List TriggeredAxiom) (name : Axiom) (ts : List TermData) (p : FormulaData) : Type 0 where
  pub position : ℕ
  pub instance : TriggeredAxiom
  pub found : slice_get xs position ≡ Some instance
  pub is : triggered_in ns instance ≡ record { name = name; terms = ts; formula = p }
