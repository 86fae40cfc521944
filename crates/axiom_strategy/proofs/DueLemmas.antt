-- Due instances of lists, and of several triggers.
use Rattle.std.proofs.Common.{◌≡◌, ◌⊎◌, inl, inr, ℕ, zero, suc, ◌+◌, ◌<◌, ◌≤◌, max, true, false, List, [], ◌∷◌, length, Option, Some, None, refl, sym, ap, ◌∙◌, subst, arith}
use Rattle.std.specs.Prelude.{slice_get, MatchOption}
use Rattle.std.proofs.lemmas.Bool.{cases_lt}
use Rattle.std.proofs.lemmas.Option.{slice_get_within}
use Rattle.fol.specs.FormulaData.{TermData, FormulaData}
use Rattle.axioms.specs.declared.axiom.Axiom.{Axiom}
use Rattle.axioms.specs.declared.axiom.Axiom.TheVariants.{Equal, EqualUnless, Cases, Implied, Exactly, Plain, OfStruct}
use Rattle.axioms.specs.declared.axiom.Equivalence.TheVariants.{Range, BoolTyped}
use Rattle.axioms.specs.declared.axiom.Fact.TheVariants.{LenFromZero, QuotientBounds, MaxBound, Whole, EmptyTyped, ShlTyped, NothingUntyped, TruthsDiffer, TrueHolds, FalseFails, NothingFails}
use Rattle.term_pool.specs.Items.{TermItem, FormulaItem, sort_of, term_in, formula_in}
use Rattle.term_pool.specs.Pools.{IsItem, Extends}
use Rattle.term_pool.specs.declared.node.Node.{Node}
use Rattle.term_pool.proofs.GrowthLemmas.{item_stays}
use Rattle.certificates.specs.BranchesBranch.{Branch, IsNew, IsTerm, IsGeneration}
use Rattle.certificates.specs.Due.{IsShallow, AreGenerations, OfNone as NoGenerations, OfMore as MoreGenerations}
use Rattle.tableau.specs.PoolBranches.{IsFormulaNumber, IsTermNumber as IsNumberOfTerm, IsNoTerm}
use Rattle.axiom_instances.specs.declared.triggered.TriggeredTerms.{TriggeredTerms}
use Rattle.axiom_instances.specs.declared.triggered.TriggeredTerms.TheVariants.{One as OneTerm, Two as TwoTerms}
use Rattle.axiom_instances.specs.declared.triggered.TriggeredAxiom.{TriggeredAxiom}
use Rattle.axiom_instances.specs.Lists.{Triggered, AreTerms, OfNone, OfOne, OfTwo, IsTriggered, AreTriggered, NoneTriggered, MoreTriggered, IsAmong, IsHere, IsLater, AreOnly, ListsAll}
use Rattle.axiom_instances.specs.Numbers.{formula_at}
use Rattle.axiom_strategy.specs.declared.due.WantedAxioms.{WantedAxioms}
use Rattle.axiom_strategy.specs.declared.due.WantedAxioms.TheVariants.{Ranges, All as Everything}
use Rattle.axiom_strategy.specs.declared.due.AxiomStep.{AxiomStep}
use Rattle.axiom_strategy.specs.Due.{Asking, IsWanted, IsDue, NoneDue, IsDueStep, AsksOfSome}
use Rattle.axiom_strategy.specs.Instances.{is_of_ranges, is_wanted, terms_in, triggered_in, IsInstance, AreInstances, HaveNoGenerations, IsDueNow, IsNotDue, IsOnly, IsListed}

-- ---- wanted axioms

of_ranges : (name : Axiom) → is_of_ranges name ≡ true → (name ≡ Exactly Range) ⊎ (name ≡ Plain Whole)
of_ranges (Exactly Range) e = inl refl
of_ranges (Plain Whole) e = inr refl
of_ranges (Exactly BoolTyped) e = absurd (cc)
of_ranges (Plain LenFromZero) e = absurd (cc)
of_ranges (Plain QuotientBounds) e = absurd (cc)
of_ranges (Plain MaxBound) e = absurd (cc)
of_ranges (Plain EmptyTyped) e = absurd (cc)
of_ranges (Plain ShlTyped) e = absurd (cc)
of_ranges (Plain NothingUntyped) e = absurd (cc)
of_ranges (Plain TruthsDiffer) e = absurd (cc)
of_ranges (Plain TrueHolds) e = absurd (cc)
of_ranges (Plain FalseFails) e = absurd (cc)
of_ranges (Plain NothingFails) e = absurd (cc)
of_ranges (Equal x) e = absurd (cc)
of_ranges (EqualUnless x) e = absurd (cc)
of_ranges (Cases x) e = absurd (cc)
of_ranges (Implied x) e = absurd (cc)
of_ranges (OfStruct x) e = absurd (cc)

pub wanted_yes : (wanted : WantedAxioms) (name : Axiom) → is_wanted wanted name ≡ true → IsWanted wanted name
wanted_yes Ranges name e = of_ranges name e
wanted_yes Everything name e = tt

pub wanted_no : (wanted : WantedAxioms) (name : Axiom) → is_wanted wanted name ≡ false → IsWanted wanted name → ⊥
wanted_no Ranges name e (inl h) = let both : true ≡ false = sym (ap is_of_ranges h) ∙ e in absurd (cc)
wanted_no Ranges name e (inr h) = let both : true ≡ false = sym (ap is_of_ranges h) ∙ e in absurd (cc)
wanted_no Everything name e w = absurd (cc)

-- ---- generations

pub term_number : {ns : List Node} {i : ℕ} {t : TermData} → IsItem ns i (TermItem t) → IsNumberOfTerm ns i
term_number h = record { within = h.within; sort = ap sort_of h.is }

pub formula_number : {ns : List Node} {i : ℕ} {p : FormulaData} → IsItem ns i (FormulaItem p) → IsFormulaNumber ns i
formula_number h = record { within = h.within; sort = ap sort_of h.is }

pub one_number : {ns : List Node} {i : ℕ} {ts : List TermData} → AreTerms ns (OneTerm i) ts → IsNumberOfTerm ns i
one_number (OfOne i t h) = term_number h

pub left_number : {ns : List Node} {i j : ℕ} {ts : List TermData} → AreTerms ns (TwoTerms i j) ts → IsNumberOfTerm ns i
left_number (OfTwo i j t u h k) = term_number h

pub right_number : {ns : List Node} {i j : ℕ} {ts : List TermData} → AreTerms ns (TwoTerms i j) ts → IsNumberOfTerm ns j
right_number (OfTwo i j t u h k) = term_number k

stands : {b : Branch} {t : TermData} {g : ℕ} → IsGeneration b t g → IsTerm b t
stands {g = g} h = record { generation = g; holds = h.holds }

data FirstGeneration (b : Branch) (t : TermData) (ts : List TermData) : ℕ → Type 0 where
  TheFirst : (g h : ℕ) → IsGeneration b t g → AreGenerations b ts h → FirstGeneration b t ts (max g h)

split : {b : Branch} {us : List TermData} {g : ℕ} → AreGenerations b us g → (t : TermData) (ts : List TermData) → us ≡ t ∷ ts → FirstGeneration b t ts g
split NoGenerations t ts e = absurd (cc)
split {b} (MoreGenerations u us g h of rest) t ts e =
    let first : u ≡ t = cc in
    let others : us ≡ ts = cc in
    TheFirst g h (subst (λ x. IsGeneration b x g) first of) (subst (λ xs. AreGenerations b xs h) others rest)

no_first : {b : Branch} {t : TermData} {ts : List TermData} {g : ℕ} → IsNoTerm b t → FirstGeneration b t ts g → ⊥
no_first none (TheFirst g h of rest) = none.none (stands of)

no_other : {b : Branch} {t u : TermData} {g : ℕ} → IsNoTerm b u → FirstGeneration b t (u ∷ []) g → ⊥
no_other {u = u} none (TheFirst g h of rest) = no_first none (split rest u [] refl)

one_generation : {b : Branch} {t : TermData} {g : ℕ} → IsGeneration b t g → AreGenerations b (t ∷ []) g
one_generation {b} {t} {g} h = let e : max g 0 ≡ g = omega arith in subst (AreGenerations b (t ∷ [])) e (MoreGenerations t [] g 0 h NoGenerations)

pub of_no_terms : (b : Branch) → AreGenerations b [] 0
of_no_terms b = NoGenerations

pub of_one_term : (b : Branch) (t : TermData) (o : Option ℕ) → MatchOption o (IsNoTerm b t) (IsGeneration b t) → MatchOption o (HaveNoGenerations b (t ∷ [])) (AreGenerations b (t ∷ []))
of_one_term b t None none = record { none = λ g h. no_first none (split h t [] refl) }
of_one_term b t (Some g) h = one_generation h

module _ (b : Branch) (t u : TermData) where
  pub left_lacks : IsNoTerm b t → HaveNoGenerations b (t ∷ u ∷ [])
  left_lacks none = record { none = λ g h. no_first none (split h t (u ∷ []) refl) }

  pub right_lacks : IsNoTerm b u → HaveNoGenerations b (t ∷ u ∷ [])
  right_lacks none = record { none = λ g h. no_other none (split h t (u ∷ []) refl) }

  pub both_generations : (g h : ℕ) → IsGeneration b t g → IsGeneration b u h → AreGenerations b (t ∷ u ∷ []) (max g h)
  both_generations g h k l = MoreGenerations t (u ∷ []) g h k (one_generation l)

-- ---- one instance

module _ (b : Branch) (a : Triggered) where
  pub stands_already : (IsNew b a.formula → ⊥) → IsNotDue b a
  stands_already d = record { none = λ g h. d h.is_new }

  pub is_too_deep : (IsShallow a.formula → ⊥) → IsNotDue b a
  is_too_deep d = record { none = λ g h. d h.shallow }

  pub due_with : IsNew b a.formula → IsShallow a.formula → (o : Option ℕ) → MatchOption o (HaveNoGenerations b a.terms) (AreGenerations b a.terms) → MatchOption o (IsNotDue b a) (IsDueNow b a)
  due_with new shallow None h = record { none = λ g now. h.none g now.generations }
  due_with new shallow (Some g) h = record { generations = h; is_new = new; shallow = shallow }

  only_due : (name : Axiom) (p : FormulaData) (g : ℕ) → IsDue b (IsOnly a) name p g → IsDueNow b a g
  only_due name p g h = record {
    generations = subst (λ (x : Triggered). AreGenerations b x.terms g) (sym h.triggered.is) h.generations;
    is_new = subst (λ (x : Triggered). IsNew b x.formula) (sym h.triggered.is) h.is_new;
    shallow = subst (λ (x : Triggered). IsShallow x.formula) (sym h.triggered.is) h.shallow;
  }

  pub not_wanted : (wanted : WantedAxioms) → (IsWanted wanted a.name → ⊥) → NoneDue b wanted (IsOnly a)
  not_wanted wanted d = record { none = λ name p g w h. d (subst (λ (x : Triggered). IsWanted wanted x.name) (sym h.triggered.is) w) }

  pub not_due : (wanted : WantedAxioms) → IsNotDue b a → NoneDue b wanted (IsOnly a)
  not_due wanted none = record { none = λ name p g w h. none.none g (only_due name p g h) }

pub only_step : {ns : List Node} {b : Branch} {wanted : WantedAxioms} (x : TriggeredAxiom) (g : ℕ) → IsInstance ns x → IsWanted wanted x.name → IsDueNow b (triggered_in ns x) g → IsDueStep ns b wanted (IsOnly (triggered_in ns x)) (record { name = x.name; formula = x.formula; generation = g })
only_step {ns} x g instance w now = record {
  formula = formula_at ns x.formula;
  number = instance.formula;
  is_wanted = w;
  due = record { terms = terms_in ns x.terms; triggered = record { is = refl }; generations = now.generations; is_new = now.is_new; shallow = now.shallow };
}

-- ---- triggers of more or of fewer instances

module _ {b : Branch} {asks more : Asking} where
  pub due_as : ((name : Axiom) (ts : List TermData) (p : FormulaData) → asks name ts p → more name ts p) → {name : Axiom} {p : FormulaData} {g : ℕ} → IsDue b asks name p g → IsDue b more name p g
  due_as f {name} {p} h = record { terms = h.terms; triggered = f name h.terms p h.triggered; generations = h.generations; is_new = h.is_new; shallow = h.shallow }

module _ {b : Branch} {wanted : WantedAxioms} {asks more : Asking} where
  pub step_as : {ns : List Node} {step : AxiomStep} → ((name : Axiom) (ts : List TermData) (p : FormulaData) → asks name ts p → more name ts p) → IsDueStep ns b wanted asks step → IsDueStep ns b wanted more step
  step_as f h = record { formula = h.formula; number = h.number; is_wanted = h.is_wanted; due = due_as f h.due }

  pub none_as : ((name : Axiom) (ts : List TermData) (p : FormulaData) → asks name ts p → more name ts p) → NoneDue b wanted more → NoneDue b wanted asks
  none_as f h = record { none = λ name p g w due. h.none name p g w (due_as f due) }

-- the same instances are triggered
pub answer_as : (ns : List Node) (b : Branch) (wanted : WantedAxioms) (asks more : Asking) (o : Option AxiomStep) → ((name : Axiom) (ts : List TermData) (p : FormulaData) → asks name ts p → more name ts p) → ((name : Axiom) (ts : List TermData) (p : FormulaData) → more name ts p → asks name ts p) → MatchOption o (NoneDue b wanted asks) (IsDueStep ns b wanted asks) → MatchOption o (NoneDue b wanted more) (IsDueStep ns b wanted more)
answer_as ns b wanted asks more None f g h = none_as g h
answer_as ns b wanted asks more (Some step) f g h = step_as f h

-- a step over a pool is also one over each extension of the pool
pub step_stays : {ns ms : List Node} {b : Branch} {wanted : WantedAxioms} {asks : Asking} {step : AxiomStep} → Extends ns ms → IsDueStep ns b wanted asks step → IsDueStep ms b wanted asks step
step_stays e h = record { formula = h.formula; number = item_stays e h.number; is_wanted = h.is_wanted; due = h.due }

-- ---- lists of instances

same_terms : {ns : List Node} {x : TriggeredTerms} {ts : List TermData} → AreTerms ns x ts → terms_in ns x ≡ ts
same_terms OfNone = refl
same_terms (OfOne i t h) = ap (λ u. u ∷ []) (ap term_in h.is)
same_terms (OfTwo i j t u h k) = λ n. ap term_in h.is n ∷ ap term_in k.is n ∷ []

-- an instance by its parts
abbrev spelled : Triggered → Triggered
spelled a = record { name = a.name; terms = a.terms; formula = a.formula }

same_triggered : {ns : List Node} {x : TriggeredAxiom} {a : Triggered} → IsTriggered ns x a → triggered_in ns x ≡ spelled a
same_triggered h = λ i. record { name = h.name i; terms = same_terms h.terms i; formula = ap formula_in h.formula.is i }

an_instance : {ns : List Node} {x : TriggeredAxiom} {a : Triggered} → IsTriggered ns x a → IsInstance ns x
an_instance {ns} {x} h = record {
  terms = subst (AreTerms ns x.terms) (sym (same_terms h.terms)) h.terms;
  formula = record { within = h.formula.within; is = h.formula.is ∙ ap FormulaItem (sym (ap formula_in h.formula.is)) };
}

first_is : {x y : TriggeredAxiom} → Some x ≡ Some y → x ≡ y
first_is e = cc

instances_at : {ns : List Node} {xs : List TriggeredAxiom} {as' : List Triggered} → AreTriggered ns xs as' → (k : ℕ) (y : TriggeredAxiom) → slice_get xs k ≡ Some y → IsInstance ns y
instances_at NoneTriggered k y e = absurd (cc)
instances_at {ns} (MoreTriggered x a xs as' h r) zero y e = subst (IsInstance ns) (first_is e) (an_instance h)
instances_at (MoreTriggered x a xs as' h r) (suc k) y e = instances_at r k y e

pub instances_of : {ns : List Node} {xs : List TriggeredAxiom} {asks : Asking} → ListsAll ns xs asks → AreInstances ns xs
instances_of h = record { each = instances_at h.are }

module _ (asks : Asking) where
  triggered_at : {ns : List Node} {xs : List TriggeredAxiom} {as' : List Triggered} → AreTriggered ns xs as' → AreOnly asks as' → (k : ℕ) (y : TriggeredAxiom) → slice_get xs k ≡ Some y → asks (triggered_in ns y).name (triggered_in ns y).terms (triggered_in ns y).formula
  triggered_at NoneTriggered only k y e = absurd (cc)
  triggered_at {ns} (MoreTriggered x a xs as' h r) only zero y e =
      let here = subst (λ (c : Triggered). asks c.name c.terms c.formula) (sym (same_triggered h)) only.0 in
      subst (λ (z : TriggeredAxiom). asks z.name (terms_in ns z.terms) (formula_at ns z.formula)) (first_is e) here
  triggered_at (MoreTriggered x a xs as' h r) only (suc k) y e = triggered_at r only.1 k y e

  pub listed_asks : {ns : List Node} {xs : List TriggeredAxiom} → ListsAll ns xs asks → (name : Axiom) (ts : List TermData) (p : FormulaData) → IsListed ns xs name ts p → asks name ts p
  listed_asks h name ts p l = subst (λ (c : Triggered). asks c.name c.terms c.formula) l.is (triggered_at h.are h.exactly.only l.position l.instance l.found)

pub among_listed : {ns : List Node} {a : Triggered} {xs : List TriggeredAxiom} {as' : List Triggered} {name : Axiom} {ts : List TermData} {p : FormulaData} → IsAmong a as' → AreTriggered ns xs as' → a ≡ record { name = name; terms = ts; formula = p } → IsListed ns xs name ts p
among_listed (IsHere _) (MoreTriggered x a xs as' h r) e = record { position = 0; instance = x; found = refl; is = same_triggered h ∙ ap spelled e }
among_listed (IsLater _ _ m) (MoreTriggered x a xs as' h r) e =
    let rest = among_listed m r e in record { position = suc rest.position; instance = rest.instance; found = rest.found; is = rest.is }

-- the result for a list of all instances of a trigger
pub answer_listed : {ns : List Node} {xs : List TriggeredAxiom} (b : Branch) (wanted : WantedAxioms) (asks : Asking) (o : Option AxiomStep) → ListsAll ns xs asks → MatchOption o (NoneDue b wanted (IsListed ns xs)) (IsDueStep ns b wanted (IsListed ns xs)) → MatchOption o (NoneDue b wanted asks) (IsDueStep ns b wanted asks)
answer_listed {ns} {xs} b wanted asks o h answer =
    answer_as ns b wanted (IsListed ns xs) asks o (listed_asks asks h) (λ name ts p a. among_listed (h.exactly.all name ts p a) h.are refl) answer

-- ---- the first of a list

-- none of the first instances is due
pub record NoneBefore (ns : List Node) (b : Branch) (wanted : WantedAxioms) (xs : List TriggeredAxiom) (count : ℕ) : Type 0 where
  pub none : (k : ℕ) (x : TriggeredAxiom) → k < count → slice_get xs k ≡ Some x → NoneDue b wanted (IsOnly (triggered_in ns x))

module _ (ns : List Node) (b : Branch) (wanted : WantedAxioms) (xs : List TriggeredAxiom) where
  pub before_none : NoneBefore ns b wanted xs 0
  before_none = record { none = λ k x w e. absurd (omega (arith, w)) }

  pub before_more : (i : ℕ) (x : TriggeredAxiom) → slice_get xs i ≡ Some x → NoneBefore ns b wanted xs i → NoneDue b wanted (IsOnly (triggered_in ns x)) → NoneBefore ns b wanted xs (i + 1)
  before_more i x found h here = record { none = none }
    where
      none : (k : ℕ) (y : TriggeredAxiom) → k < i + 1 → slice_get xs k ≡ Some y → NoneDue b wanted (IsOnly (triggered_in ns y))
      none k y w e = elim (cases_lt k i) [ inl l ↦ h.none k y l e | inr l ↦ (let same : i ≡ k = omega (arith, w, l) in let both : Some x ≡ Some y = sym found ∙ ap (slice_get xs) same ∙ e in subst (λ z. NoneDue b wanted (IsOnly (triggered_in ns z))) (first_is both) here) ]

  listed_only : (name : Axiom) (p : FormulaData) (g : ℕ) (l : IsDue b (IsListed ns xs) name p g) → IsDue b (IsOnly (triggered_in ns l.triggered.instance)) name p g
  listed_only name p g l = record { terms = l.terms; triggered = record { is = l.triggered.is }; generations = l.generations; is_new = l.is_new; shallow = l.shallow }

  pub before_all : (i : ℕ) → length xs ≤ i → NoneBefore ns b wanted xs i → NoneDue b wanted (IsListed ns xs)
  before_all i w h = record {
    none = λ name p g wants due. (h.none due.triggered.position due.triggered.instance (let v = slice_get_within xs due.triggered.position due.triggered.instance due.triggered.found in omega (arith, v, w)) due.triggered.found).none name p g wants (listed_only name p g due);
  }

  pub listed_step : (i : ℕ) (x : TriggeredAxiom) (step : AxiomStep) → slice_get xs i ≡ Some x → IsDueStep ns b wanted (IsOnly (triggered_in ns x)) step → IsDueStep ns b wanted (IsListed ns xs) step
  listed_step i x step found h = step_as (λ name ts p a. record { position = i; instance = x; found = found; is = a.is }) h

-- ---- one of the first triggers

module _ {b : Branch} {wanted : WantedAxioms} (asks : ℕ → Asking) where
  pub some_none : NoneDue b wanted (AsksOfSome 0 asks)
  some_none = record { none = λ name p g w due. (let v = due.triggered.before in absurd (omega (arith, v))) }

  pub some_more : (i : ℕ) → NoneDue b wanted (AsksOfSome i asks) → NoneDue b wanted (asks i) → NoneDue b wanted (AsksOfSome (i + 1) asks)
  some_more i h here = record { none = none }
    where
      none : (name : Axiom) (p : FormulaData) (g : ℕ) → IsWanted wanted name → IsDue b (AsksOfSome (i + 1) asks) name p g → ⊥
      none name p g w due = elim (cases_lt due.triggered.position i) [ inl l ↦ h.none name p g w (record { terms = due.terms; triggered = record { position = due.triggered.position; before = l; triggered = due.triggered.triggered }; generations = due.generations; is_new = due.is_new; shallow = due.shallow }) | inr l ↦ (let v = due.triggered.before in let same : due.triggered.position ≡ i = omega (arith, v, l) in here.none name p g w (record { terms = due.terms; triggered = subst (λ k. asks k name due.terms p) same due.triggered.triggered; generations = due.generations; is_new = due.is_new; shallow = due.shallow })) ]

  pub some_all : (i n : ℕ) → n ≤ i → NoneDue b wanted (AsksOfSome i asks) → NoneDue b wanted (AsksOfSome n asks)
  some_all i n w h = none_as (λ name ts p a. record { position = a.position; before = (let v = a.before in omega (arith, v, w)); triggered = a.triggered }) h

  pub some_step : {ns : List Node} {step : AxiomStep} (i n : ℕ) → i < n → IsDueStep ns b wanted (asks i) step → IsDueStep ns b wanted (AsksOfSome n asks) step
  some_step i n w h = step_as (λ name ts p a. record { position = i; before = w; triggered = a }) h
