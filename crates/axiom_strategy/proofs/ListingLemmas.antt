-- Lists of all due instances, while they are extended.
use Rattle.std.proofs.Common.{◌≡◌, inl, inr, ◌↔◌, ℕ, ◌+◌, max, List, [], ◌∷◌, ◌++◌, length, get_or, refl, sym, ap, ◌∙◌, subst, append_assoc, append-nil, arith}
use Rattle.std.specs.Prelude.{All}
use Rattle.std.proofs.lemmas.Bool.{cases_lt}
use Rattle.std.proofs.lemmas.List.Elements.{All-append, All-cons, All-nil, Contains-append_left, Contains-append_right}
use Rattle.std.proofs.lemmas.Option.{slice_get-get_or, slice_get_within, get_or_from_slice_get}
use Rattle.fol.specs.declared.shapes.Shape.{Shape}
use Rattle.fol.specs.FormulaData.{TermData, FormulaData}
use Rattle.axioms.specs.declared.axiom.Axiom.{Axiom}
use Rattle.axioms.specs.declared.axiom.Axiom.TheVariants.{Equal}
use Rattle.axioms.specs.declared.axiom.Equation.TheVariants.{Itself}
use Rattle.term_pool.specs.Items.{FormulaItem}
use Rattle.term_pool.specs.Pools.{IsItem, Extends}
use Rattle.term_pool.specs.declared.node.Node.{Node}
use Rattle.term_pool.proofs.GrowthLemmas.{item_stays}
use Rattle.certificates.specs.BranchesBranch.{Branch, IsGeneration}
use Rattle.certificates.specs.Due.{AreGenerations, OfNone as NoGenerations, OfMore as MoreGenerations}
use Rattle.certificates.specs.Table.{Asks}
use Rattle.tableau.specs.PoolBranches.{BranchData, branch_in, IsOver}
use Rattle.tableau.proofs.EntryLemmas.{still_says}
use Rattle.axiom_instances.specs.declared.triggered.TriggeredTerms.TheVariants.{None as NoTerms}
use Rattle.axiom_instances.specs.declared.triggered.TriggeredAxiom.{TriggeredAxiom}
use Rattle.axiom_instances.specs.Lists.{Triggered, ListsAll}
use Rattle.axiom_instances.proofs.PresentLaws.{stands}
use Rattle.axiom_strategy.specs.declared.askers.Asker.{Asker}
use Rattle.axiom_strategy.specs.declared.due.WantedAxioms.TheVariants.{All as AllAxioms}
use Rattle.axiom_strategy.specs.declared.due.AxiomStep.{AxiomStep}
use Rattle.axiom_strategy.specs.Due.{Asking, IsDue, NoneDue, IsDueStep, AsksOfSome, NoAxiom, IsAxiomStep}
use Rattle.axiom_strategy.specs.Instances.{triggered_in, IsOnly, IsListed}
use Rattle.axiom_strategy.specs.Askers.{IsAsker, asks_of, asks_at}
use Rattle.axiom_strategy.specs.Families.{AskEverything}
use Rattle.axiom_strategy.specs.Listing.{IsListedStep, AreDueSteps, AddsDueSteps, AreDueInstances}
use Rattle.axiom_strategy.proofs.DueLemmas.{due_as, step_as, step_stays, listed_asks, among_listed, some_none, some_step}
use Rattle.axiom_strategy.proofs.AskerLemmas.{asks_kept, askers_ask, axiom_step}
use Rattle.axiom_strategy.proofs.NextLemmas.{present}

-- ---- generations

same_generation : {b : Branch} {t : TermData} {g h : ℕ} → IsGeneration b t g → IsGeneration b t h → g ≡ h
same_generation {g = g} {h = h} p q = let v = p.least h q.holds in let w = q.least g p.holds in omega (arith, v, w)

same_generations : {b : Branch} {ts : List TermData} {g h : ℕ} → AreGenerations b ts g → AreGenerations b ts h → g ≡ h
same_generations NoGenerations NoGenerations = refl
same_generations (MoreGenerations t ts g h of rest) (MoreGenerations u us k l other others) = λ i. max (same_generation of other i) (same_generations rest others i)

-- ---- none, and one

none_listed : {ns : List Node} {b : Branch} {asks : Asking} → NoneDue b AllAxioms asks → AreDueSteps ns b asks []
none_listed h = record { due = λ k d w. absurd (omega (arith, w)); all = λ name p g due. absurd (h.none name p g tt due) }

abbrev triggered_as : Axiom → List TermData → FormulaData → Triggered
triggered_as name ts p = record { name = name; terms = ts; formula = p }

same_instance : {b : Branch} {a : Triggered} {name other : Axiom} {p q : FormulaData} {g h : ℕ} → (x : IsDue b (IsOnly a) name p g) → (y : IsDue b (IsOnly a) other q h) → triggered_as name x.terms p ≡ triggered_as other y.terms q
same_instance x y = sym x.triggered.is ∙ y.triggered.is

one_listed : {ns : List Node} {b : Branch} {a : Triggered} (step : AxiomStep) → IsDueStep ns b AllAxioms (IsOnly a) step → AreDueSteps ns b (IsOnly a) (step ∷ [])
one_listed {ns} {b} {a} step h = record { due = All-cons (IsDueStep ns b AllAxioms (IsOnly a)) step [] h (All-nil (IsDueStep ns b AllAxioms (IsOnly a))); all = all }
  where
    all : (name : Axiom) (p : FormulaData) (g : ℕ) → IsDue b (IsOnly a) name p g → IsListedStep ns (step ∷ []) name p g
    all name p g due =
        let same = same_instance h.due due in
        record {
          step = step;
          among = (0, omega arith, refl);
          same_name = ap (λ (x : Triggered). x.name) same;
          number = subst (λ (q : FormulaData). IsItem ns step.formula (FormulaItem q)) (ap (λ (x : Triggered). x.formula) same) h.number;
          same_generation = same_generations (subst (λ (us : List TermData). AreGenerations b us step.generation) (ap (λ (x : Triggered). x.terms) same) h.due.generations) due.generations;
        }

-- ---- the same instances are triggered, and the pool is extended

listed_as : {ns : List Node} {b : Branch} {asks more : Asking} {xs : List AxiomStep} → ((name : Axiom) (ts : List TermData) (p : FormulaData) → asks name ts p → more name ts p) → ((name : Axiom) (ts : List TermData) (p : FormulaData) → more name ts p → asks name ts p) → AreDueSteps ns b asks xs → AreDueSteps ns b more xs
listed_as f g h = record { due = λ k d w. step_as f (h.due k d w); all = λ name p n due. h.all name p n (due_as g due) }

adds_as : {ns : List Node} {b : Branch} {asks more : Asking} {old new : List AxiomStep} → ((name : Axiom) (ts : List TermData) (p : FormulaData) → asks name ts p → more name ts p) → ((name : Axiom) (ts : List TermData) (p : FormulaData) → more name ts p → asks name ts p) → AddsDueSteps ns b asks old new → AddsDueSteps ns b more old new
adds_as f g h = record { more = h.more; is = h.is; are_due = listed_as f g h.are_due }

module _ {ns ms : List Node} (grown : Extends ns ms) where
  step_listed : {xs : List AxiomStep} {name : Axiom} {p : FormulaData} {g : ℕ} → IsListedStep ns xs name p g → IsListedStep ms xs name p g
  step_listed h = record { step = h.step; among = h.among; same_name = h.same_name; number = item_stays grown h.number; same_generation = h.same_generation }

  still_listed : {b : Branch} {asks : Asking} {xs : List AxiomStep} → AreDueSteps ns b asks xs → AreDueSteps ms b asks xs
  still_listed h = record { due = λ k d w. step_stays grown (h.due k d w); all = λ name p g due. step_listed (h.all name p g due) }

-- ---- one of the first triggers

in_first : {ns : List Node} {xs : List AxiomStep} (ys : List AxiomStep) {name : Axiom} {p : FormulaData} {g : ℕ} → IsListedStep ns xs name p g → IsListedStep ns (xs ++ ys) name p g
in_first {xs} ys h = record { step = h.step; among = Contains-append_left xs ys h.step h.among; same_name = h.same_name; number = h.number; same_generation = h.same_generation }

in_second : {ns : List Node} (xs : List AxiomStep) {ys : List AxiomStep} {name : Axiom} {p : FormulaData} {g : ℕ} → IsListedStep ns ys name p g → IsListedStep ns (xs ++ ys) name p g
in_second xs {ys} h = record { step = h.step; among = Contains-append_right xs ys h.step h.among; same_name = h.same_name; number = h.number; same_generation = h.same_generation }

module _ {ns : List Node} {b : Branch} (asks : ℕ → Asking) where
  pub no_steps : AreDueSteps ns b (AsksOfSome 0 asks) []
  no_steps = none_listed (some_none asks)

  pub more_steps : (i : ℕ) (xs ys : List AxiomStep) → AreDueSteps ns b (AsksOfSome i asks) xs → AreDueSteps ns b (asks i) ys → AreDueSteps ns b (AsksOfSome (i + 1) asks) (xs ++ ys)
  more_steps i xs ys h here = record {
    due = All-append (IsDueStep ns b AllAxioms (AsksOfSome (i + 1) asks)) xs ys
        (λ k d w. step_as (λ name ts p a. record { position = a.position; before = (let v = a.before in omega (arith, v)); triggered = a.triggered }) (h.due k d w))
        (λ k d w. some_step asks i (i + 1) (omega arith) (here.due k d w));
    all = all;
  }
    where
      all : (name : Axiom) (p : FormulaData) (g : ℕ) → IsDue b (AsksOfSome (i + 1) asks) name p g → IsListedStep ns (xs ++ ys) name p g
      all name p g due = elim (cases_lt due.triggered.position i) [ inl l ↦ in_first ys (h.all name p g (record { terms = due.terms; triggered = record { position = due.triggered.position; before = l; triggered = due.triggered.triggered }; generations = due.generations; is_new = due.is_new; shallow = due.shallow })) | inr l ↦ (let v = due.triggered.before in let same : due.triggered.position ≡ i = omega (arith, v, l) in in_second xs (here.all name p g (record { terms = due.terms; triggered = subst (λ k. asks k name due.terms p) same due.triggered.triggered; generations = due.generations; is_new = due.is_new; shallow = due.shallow }))) ]

  pub adds_none : (old : List AxiomStep) → AddsDueSteps ns b (AsksOfSome 0 asks) old old
  adds_none old = record { more = []; is = sym (append-nil old); are_due = no_steps }

  adds_more : (i : ℕ) (old new newer ys : List AxiomStep) → AddsDueSteps ns b (AsksOfSome i asks) old new → AreDueSteps ns b (asks i) ys → newer ≡ new ++ ys → AddsDueSteps ns b (AsksOfSome (i + 1) asks) old newer
  adds_more i old new newer ys h here e = record {
    more = h.more ++ ys;
    is = e ∙ ap (λ xs. xs ++ ys) h.is ∙ append_assoc old h.more ys;
    are_due = more_steps i h.more ys h.are_due here;
  }

  pub adds_no_more : (i : ℕ) (old new : List AxiomStep) → AddsDueSteps ns b (AsksOfSome i asks) old new → NoneDue b AllAxioms (asks i) → AddsDueSteps ns b (AsksOfSome (i + 1) asks) old new
  adds_no_more i old new h none = adds_more i old new new [] h (none_listed none) (sym (append-nil new))

-- ---- the instances of a list

abbrev pub no_instance : TriggeredAxiom
no_instance = record { name = Equal Itself; terms = NoTerms; formula = 0 }

-- the instance at this index
abbrev pub only_at : List Node → List TriggeredAxiom → ℕ → Asking
only_at ns xs k = IsOnly (triggered_in ns (get_or xs k no_instance))

module _ (ns : List Node) (b : Branch) (xs : List TriggeredAxiom) where
  pub adds_one : (i : ℕ) (old new newer : List AxiomStep) (step : AxiomStep) → AddsDueSteps ns b (AsksOfSome i (only_at ns xs)) old new → IsDueStep ns b AllAxioms (only_at ns xs i) step → newer ≡ new ++ step ∷ [] → AddsDueSteps ns b (AsksOfSome (i + 1) (only_at ns xs)) old newer
  adds_one i old new newer step h due e = adds_more (only_at ns xs) i old new newer (step ∷ []) h (one_listed step due) e

  as_listed : (name : Axiom) (ts : List TermData) (p : FormulaData) → AsksOfSome (length xs) (only_at ns xs) name ts p → IsListed ns xs name ts p
  as_listed name ts p a = record {
    position = a.position;
    instance = get_or xs a.position no_instance;
    found = slice_get-get_or xs a.position no_instance a.before;
    is = a.triggered.is;
  }

  from_listed : (name : Axiom) (ts : List TermData) (p : FormulaData) → IsListed ns xs name ts p → AsksOfSome (length xs) (only_at ns xs) name ts p
  from_listed name ts p l = record {
    position = l.position;
    before = slice_get_within xs l.position l.instance l.found;
    triggered = record { is = ap (triggered_in ns) (get_or_from_slice_get xs l.position l.instance no_instance l.found) ∙ l.is };
  }

  pub adds_listed : (i : ℕ) (old new : List AxiomStep) → i ≡ length xs → AddsDueSteps ns b (AsksOfSome i (only_at ns xs)) old new → AddsDueSteps ns b (IsListed ns xs) old new
  adds_listed i old new all h = adds_as as_listed from_listed (subst (λ n. AddsDueSteps ns b (AsksOfSome n (only_at ns xs)) old new) all h)

-- ---- triggers

module _ (ns ms : List Node) (grown : Extends ns ms) (d : BranchData) (over : IsOver ns d) where
  adds_before : (ks : List Node) (asks : Asking) (old new : List AxiomStep) → AddsDueSteps ks (branch_in ms d) asks old new → AddsDueSteps ks (branch_in ns d) asks old new
  adds_before ks asks old new h = subst (λ (b : Branch). AddsDueSteps ks b asks old new) (still_says ns ms grown d over) h

  -- what a list adds that was computed while the pool was extended
  pub adds_made : (xs : List TriggeredAxiom) (asks : Asking) (old new : List AxiomStep) → ListsAll ms xs asks → AddsDueSteps ms (branch_in ms d) (IsListed ms xs) old new → AddsDueSteps ms (branch_in ns d) asks old new
  adds_made xs asks old new all h = adds_before ms asks old new (adds_as (listed_asks asks all) (λ name ts p a. among_listed (all.exactly.all name ts p a) all.are refl) h)

  -- what a trigger over the extended pool adds
  pub adds_still : (ks : List Node) (shapes : List Shape) (x : Asker) (old new : List AxiomStep) → IsAsker ns x → AddsDueSteps ks (branch_in ms d) (asks_of shapes ms x) old new → AddsDueSteps ks (branch_in ns d) (asks_of shapes ns x) old new
  adds_still ks shapes x old new number h =
      adds_before ks (asks_of shapes ns x) old new (subst (λ (asks : Asking). AddsDueSteps ks (branch_in ms d) asks old new) (asks_kept grown shapes x number) h)

-- the steps so far, and those of one more trigger
pub steps_after : {ns ms : List Node} {b : Branch} (asks : ℕ → Asking) (i : ℕ) (old new : List AxiomStep) → Extends ns ms → AreDueSteps ns b (AsksOfSome i asks) old → AddsDueSteps ms b (asks i) old new → AreDueSteps ms b (AsksOfSome (i + 1) asks) new
steps_after {ms = ms} {b} asks i old new grown h adds =
    subst (AreDueSteps ms b (AsksOfSome (i + 1) asks)) (sym adds.is) (more_steps asks i old adds.more (still_listed grown h) adds.are_due)

-- ---- the table

pub all_due : (shapes : List Shape) (ns ks : List Node) (d : BranchData) → IsOver ns d → (askers : List Asker) → AskEverything ns (branch_in ns d) askers → Extends ns ks → (steps : List AxiomStep) → AreDueSteps ks (branch_in ns d) (AsksOfSome (length askers) (asks_at shapes ns askers)) steps → AreDueInstances ks shapes (branch_in ks d) steps
all_due shapes ns ks d over askers h grown steps due =
    let b = branch_in ns d in
    subst (λ (c : Branch). AreDueInstances ks shapes c steps) (sym (still_says ns ks grown d over))
    (listed_as (askers_ask shapes ns b askers (present ns b askers h)) (λ name ts p a. h.all shapes name ts p (stands shapes b a)) due)

pub listed_due : (ns : List Node) (shapes : List Shape) (b : Branch) (steps : List AxiomStep) → AreDueInstances ns shapes b steps → All (IsAxiomStep ns shapes b AllAxioms) steps
listed_due ns shapes b steps h = λ k d w. axiom_step (h.due k d w)

not_listed : {ns : List Node} {name : Axiom} {p : FormulaData} {g : ℕ} (steps : List AxiomStep) → steps ≡ [] → IsListedStep ns steps name p g → ⊥
not_listed steps e l = let w = l.among.1 in let none = ap length e in omega (arith, w, none)

one_is_due : (ns : List Node) (shapes : List Shape) (b : Branch) (step : AxiomStep) → IsDueStep ns b AllAxioms (Asks shapes b) step → NoAxiom shapes b AllAxioms → ⊥
one_is_due ns shapes b step h none = none.none step.name h.formula step.generation tt h.due

empty_where_none : (ns : List Node) (shapes : List Shape) (b : Branch) (steps : List AxiomStep) → AreDueInstances ns shapes b steps → NoAxiom shapes b AllAxioms → steps ≡ []
empty_where_none ns shapes b [] h none = refl
empty_where_none ns shapes b (step ∷ steps) h none = absurd (one_is_due ns shapes b step (h.due 0 step (omega arith)) none)

pub empty_exactly : (ns : List Node) (shapes : List Shape) (b : Branch) (steps : List AxiomStep) → AreDueInstances ns shapes b steps → (steps ≡ []) ↔ NoAxiom shapes b AllAxioms
empty_exactly ns shapes b steps h = (λ e. record { none = λ name p g w due. not_listed steps e (h.all name p g due) }, empty_where_none ns shapes b steps h)
