-- Triggers of axiom instances while the pool is extended, and on a branch.
use Rattle.std.proofs.Common.{◌≡◌, ℕ, zero, suc, ◌<◌, List, [], ◌∷◌, length, Option, refl, sym, ap, subst, arith}
use Rattle.std.specs.Prelude.{slice_index_or, MatchOption, All, Contains}
use Rattle.fol.specs.declared.shapes.Shape.{Shape}
use Rattle.fol.specs.FormulaData.{TermData, FormulaData}
use Rattle.axioms.specs.declared.axiom.Axiom.{Axiom}
use Rattle.term_pool.specs.Pools.{Extends}
use Rattle.term_pool.specs.declared.node.Node.{Node}
use Rattle.certificates.specs.BranchesBranch.{Branch}
use Rattle.certificates.specs.Due.{ByTable}
use Rattle.certificates.specs.Table.{Asks}
use Rattle.tableau.specs.PoolBranches.{BranchData, branch_in, IsOver}
use Rattle.tableau.proofs.EntryLemmas.{still_says}
use Rattle.axiom_instances.specs.declared.triggered.TriggeredAxiom.{TriggeredAxiom}
use Rattle.axiom_instances.specs.Asks.{AsksOfTerm, AsksOfType, AsksOfTypeAlone, AsksOfTypeBeside, AsksOfRead, AsksOfItem}
use Rattle.axiom_instances.specs.Lists.{ListsAll}
use Rattle.axiom_instances.specs.Numbers.{term_at, type_at}
use Rattle.axiom_instances.specs.Present.{IsTriggeredOn, Always as AtAllTimes, OfTerm, OfType, OfTypeAlone, OfTypeBeside, OfRead, OfItem, OfVectors}
use Rattle.axiom_instances.proofs.NumberLemmas.{term_kept, number_stays}
use Rattle.axiom_instances.proofs.PresentLaws.{triggered}
use Rattle.axiom_instances.proofs.StructAxiomsNumberLemmas.{type_kept, type_stays}
use Rattle.axiom_instances.specs.VectorRows.{AsksOfPair}
use Rattle.axiom_strategy.specs.declared.askers.Asker.{Asker}
use Rattle.axiom_strategy.specs.declared.askers.Asker.TheVariants.{Always, Term, Typing, TypeAlone, Beside, Read, Item, Vectors}
use Rattle.axiom_strategy.specs.declared.due.WantedAxioms.{WantedAxioms}
use Rattle.axiom_strategy.specs.declared.due.AxiomStep.{AxiomStep}
use Rattle.axiom_strategy.specs.Due.{Asking, NoneDue, IsDueStep, AsksOfSome, IsAxiomStep}
use Rattle.axiom_strategy.specs.Instances.{IsListed}
use Rattle.axiom_strategy.specs.Askers.{AreTypeAndTerm, AreTwoTerms, AreTypeAndTerms, IsAsker, AreAskers, asks_of, asks_at, IsPresent}
use Rattle.axiom_strategy.proofs.DueLemmas.{answer_listed}

-- ---- a pool that is extended

module _ {ns ms : List Node} (grown : Extends ns ms) where
  type_and_term : {a t : ℕ} → AreTypeAndTerm ns a t → AreTypeAndTerm ms a t
  type_and_term h = record { of = type_stays grown h.of; term = number_stays grown h.term }

  two_terms : {t u : ℕ} → AreTwoTerms ns t u → AreTwoTerms ms t u
  two_terms h = record { first = number_stays grown h.first; second = number_stays grown h.second }

  type_and_terms : {a t u : ℕ} → AreTypeAndTerms ns a t u → AreTypeAndTerms ms a t u
  type_and_terms h = record { of = type_stays grown h.of; first = number_stays grown h.first; second = number_stays grown h.second }

  pub asker_stays : (x : Asker) → IsAsker ns x → IsAsker ms x
  asker_stays Always h = tt
  asker_stays (Term t) h = number_stays grown h
  asker_stays (Typing a t) h = type_and_term h
  asker_stays (TypeAlone a) h = type_stays grown h
  asker_stays (Beside a t) h = type_and_term h
  asker_stays (Read t k) h = two_terms h
  asker_stays (Item a v i) h = type_and_terms h
  asker_stays (Vectors a v u) h = type_and_terms h

  pub asks_kept : (shapes : List Shape) (x : Asker) → IsAsker ns x → asks_of shapes ms x ≡ asks_of shapes ns x
  asks_kept shapes Always h = refl
  asks_kept shapes (Term t) h = ap (λ u. AsksOfTerm shapes u) (term_kept grown h)
  asks_kept shapes (Typing a t) h = λ i. AsksOfType shapes (type_kept grown h.of i) (term_kept grown h.term i)
  asks_kept shapes (TypeAlone a) h = ap (λ b. AsksOfTypeAlone b) (type_kept grown h)
  asks_kept shapes (Beside a t) h = λ i. AsksOfTypeBeside (type_kept grown h.of i) (term_kept grown h.term i)
  asks_kept shapes (Read t k) h = λ i. AsksOfRead (term_kept grown h.first i) (term_kept grown h.second i)
  asks_kept shapes (Item a v i) h = λ j. AsksOfItem (type_kept grown h.of j) (term_kept grown h.first j) (term_kept grown h.second j)
  asks_kept shapes (Vectors a v u) h = λ i. AsksOfPair (type_kept grown h.of i) (term_kept grown h.first i) (term_kept grown h.second i)

  pub askers_stay : (xs : List Asker) (k : ℕ) → AreAskers ns xs → k < length xs → IsAsker ms (slice_index_or xs k Always)
  askers_stay xs k h w = asker_stays (slice_index_or xs k Always) (h.each k w)

module _ (ns ms : List Node) (grown : Extends ns ms) (d : BranchData) (over : IsOver ns d) where
  -- what is due on the branch over the extended pool is due on the branch
  answer_before : (ks : List Node) (wanted : WantedAxioms) (asks : Asking) (o : Option AxiomStep) → MatchOption o (NoneDue (branch_in ms d) wanted asks) (IsDueStep ks (branch_in ms d) wanted asks) → MatchOption o (NoneDue (branch_in ns d) wanted asks) (IsDueStep ks (branch_in ns d) wanted asks)
  answer_before ks wanted asks o h =
      subst (λ (b : Branch). MatchOption o (NoneDue b wanted asks) (IsDueStep ks b wanted asks)) (still_says ns ms grown d over) h

  -- the result for a list that was computed while the pool was extended
  pub answer_made : {xs : List TriggeredAxiom} (wanted : WantedAxioms) (asks : Asking) (o : Option AxiomStep) → ListsAll ms xs asks → MatchOption o (NoneDue (branch_in ms d) wanted (IsListed ms xs)) (IsDueStep ms (branch_in ms d) wanted (IsListed ms xs)) → MatchOption o (NoneDue (branch_in ns d) wanted asks) (IsDueStep ms (branch_in ns d) wanted asks)
  answer_made wanted asks o all h = answer_before ms wanted asks o (answer_listed (branch_in ms d) wanted asks o all h)

  -- the result for a trigger over the extended pool
  pub answer_still : (ks : List Node) (wanted : WantedAxioms) (shapes : List Shape) (x : Asker) (o : Option AxiomStep) → IsAsker ns x → MatchOption o (NoneDue (branch_in ms d) wanted (asks_of shapes ms x)) (IsDueStep ks (branch_in ms d) wanted (asks_of shapes ms x)) → MatchOption o (NoneDue (branch_in ns d) wanted (asks_of shapes ns x)) (IsDueStep ks (branch_in ns d) wanted (asks_of shapes ns x))
  answer_still ks wanted shapes x o number h =
      answer_before ks wanted (asks_of shapes ns x) o
      (subst (λ (asks : Asking). MatchOption o (NoneDue (branch_in ms d) wanted asks) (IsDueStep ks (branch_in ms d) wanted asks)) (asks_kept grown shapes x number) h)

-- ---- triggers on the branch

asks_there : (shapes : List Shape) (ns : List Node) (b : Branch) (x : Asker) {name : Axiom} {ts : List TermData} {p : FormulaData} → IsPresent ns b x → asks_of shapes ns x name ts p → IsTriggeredOn shapes b name ts p
asks_there shapes ns b Always s h = AtAllTimes h
asks_there shapes ns b (Term t) s h = OfTerm (term_at ns t) s h
asks_there shapes ns b (Typing a t) s h = OfType (type_at ns a) (term_at ns t) s h
asks_there shapes ns b (TypeAlone a) s h = OfTypeAlone (type_at ns a) s h
asks_there shapes ns b (Beside a t) s h = OfTypeBeside (type_at ns a) (term_at ns t) s.0 s.1 h
asks_there shapes ns b (Read t k) s h = OfRead (term_at ns t) (term_at ns k) s.0 s.1 s.2 h
asks_there shapes ns b (Item a v i) s h = OfItem (type_at ns a) (term_at ns v) (term_at ns i) s.0 s.1 s.2 h
asks_there shapes ns b (Vectors a v u) s h = OfVectors (type_at ns a) (term_at ns v) (term_at ns u) s.0 s.1 s.2 h.triggered

-- the table triggers what they trigger
pub askers_ask : (shapes : List Shape) (ns : List Node) (b : Branch) (xs : List Asker) → All (IsPresent ns b) xs → (name : Axiom) (ts : List TermData) (p : FormulaData) → AsksOfSome (length xs) (asks_at shapes ns xs) name ts p → Asks shapes b name ts p
askers_ask shapes ns b xs all name ts p a =
    triggered shapes b (asks_there shapes ns b (slice_index_or xs a.position Always) (all a.position Always a.before) a.triggered)

position_of : (xs : List Asker) (x : Asker) (k : ℕ) → k < length xs → slice_index_or xs k x ≡ x → slice_index_or xs k Always ≡ x
position_of [] x k w e = absurd (omega (arith, w))
position_of (y ∷ xs) x zero w e = e
position_of (y ∷ xs) x (suc k) w e = position_of xs x k (omega (arith, w)) e

-- they trigger what one of them triggers
pub one_asks : (shapes : List Shape) (ns : List Node) (xs : List Asker) (x : Asker) → Contains xs x → {name : Axiom} {ts : List TermData} {p : FormulaData} → asks_of shapes ns x name ts p → AsksOfSome (length xs) (asks_at shapes ns xs) name ts p
one_asks shapes ns xs x (k, w, e) {name} {ts} {p} h = record {
  position = k;
  before = w;
  triggered = subst (λ (y : Asker). asks_of shapes ns y name ts p) (sym (position_of xs x k w e)) h;
}

-- what is due by the table is due
pub axiom_step : {shapes : List Shape} {b : Branch} {wanted : WantedAxioms} {ks : List Node} {step : AxiomStep} → IsDueStep ks b wanted (Asks shapes b) step → IsAxiomStep ks shapes b wanted step
axiom_step {step = step} h = record {
  formula = h.formula;
  number = h.number;
  is_wanted = h.is_wanted;
  due = record { terms = h.due.terms; triggered = ByTable step.name h.due.terms h.formula h.due.triggered; generations = h.due.generations; is_new = h.due.is_new; shallow = h.due.shallow };
}
