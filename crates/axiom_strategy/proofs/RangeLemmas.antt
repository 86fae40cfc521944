-- The range axioms are triggered by terms and by types that entries give to terms or deny them.
use Rattle.std.proofs.Common.{◌≡◌, inl, inr, ℕ, List, length, map, Option, Some, None, refl, sym, ap, ◌∙◌, subst, arith}
use Rattle.std.specs.Prelude.{slice_index_or, MatchOption, All, Contains}
use Rattle.std.proofs.lemmas.List.{length-map, get_or-map}
use Rattle.std.proofs.lemmas.List.Elements.{All-append, All-map, Contains-get_or, Contains-append_left, Contains-append_right}
use Rattle.std.proofs.lemmas.Option.{slice_get_within, slice_get-get_or, get_or_from_slice_get}
use Rattle.base.specs.TypeData.{TypeData}
use Rattle.fol.specs.declared.shapes.Shape.{Shape}
use Rattle.fol.specs.FormulaData.{TermData, FormulaData, IsFormula, NotFormula}
use Rattle.axioms.specs.declared.axiom.Axiom.{Axiom}
use Rattle.axioms.specs.declared.axiom.Axiom.TheVariants.{Exactly, Plain, Cases}
use Rattle.axioms.specs.declared.axiom.Alternative.TheVariants.{Trichotomy}
use Rattle.axioms.specs.declared.axiom.Equivalence.TheVariants.{Range}
use Rattle.axioms.specs.declared.axiom.Fact.TheVariants.{Whole}
use Rattle.term_pool.specs.Items.{term_in}
use Rattle.term_pool.specs.Pools.{item_at, IsOneNumber, Extends}
use Rattle.term_pool.specs.declared.node.Node.{Node}
use Rattle.term_pool.proofs.ShapeLemmas.{a_term}
use Rattle.certificates.specs.BranchesBranch.{Branch, IsTerm, Says, IsTyped, Said, Denied}
use Rattle.certificates.specs.Due.{AsksAxiom, ByTable, AsDecision}
use Rattle.certificates.specs.Table.{Asks}
use Rattle.tableau.specs.PoolBranches.{BranchData, branch_in, IsOver}
use Rattle.tableau.proofs.EntryLemmas.{says_within, still_says}
use Rattle.tableau.specs.Terms.{IsBranchTerm, AreBranchTerms}
use Rattle.tableau.proofs.BranchLemmas.{term_number}
use Rattle.axiom_instances.specs.Asks.{AlwaysTriggered, TruthsDiffering, TrueHolding, FalseFailing, NothingFailing, AsksOfTerm, AsksOfType, AsksOfTypeAlone, ByNothing, AsksOfTypeBeside, ByEmptyTyped, BySetTyped, ByPushTyped, ByPopTyped, AsksOfRead, ByStoreRead, ByPushRead, ByPopRead, BySetRead, AsksOfItem, ByItem, AsksOfVectors, ByVectors}
use Rattle.axiom_instances.specs.Present.{IsTriggeredOn, Always as AtAllTimes, OfTerm, OfType, OfTypeAlone, OfTypeBeside, OfRead, OfItem, OfVectors}
use Rattle.axiom_instances.specs.Numbers.{term_at, type_at}
use Rattle.axiom_instances.proofs.PresentLaws.{stands}
use Rattle.axiom_strategy.specs.declared.askers.Asker.{Asker}
use Rattle.axiom_strategy.specs.declared.askers.Asker.TheVariants.{Always, Term}
use Rattle.axiom_strategy.specs.declared.due.WantedAxioms.TheVariants.{Ranges}
use Rattle.axiom_strategy.specs.declared.due.AxiomStep.{AxiomStep}
use Rattle.axiom_strategy.specs.declared.typings.Typing.{Typing as TypingPair}
use Rattle.axiom_strategy.specs.Due.{Asking, IsWanted, NoneDue, IsDueStep, AsksOfSome, NoAxiom, IsAxiomStep, NothingOfRanges}
use Rattle.axiom_strategy.specs.Askers.{IsAsker, AreAskers, asks_at, IsPresent, term_asker, typing_asker, range_askers}
use Rattle.axiom_strategy.specs.Typings.{IsTyping, Gives, Denies, IsGivenOrDenied, IsListedTyping, AreTypings}
use Rattle.axiom_strategy.proofs.DueLemmas.{step_as}
use Rattle.axiom_strategy.proofs.AskerLemmas.{askers_ask, one_asks, axiom_step}

-- ---- triggers of other axioms only

other : (name : Axiom) → IsWanted Ranges name → (name ≡ Exactly Range → ⊥) → (name ≡ Plain Whole → ⊥) → ⊥
other name (inl h) d e = d h
other name (inr h) d e = e h

not_always : {name : Axiom} {ts : List TermData} {p : FormulaData} → AlwaysTriggered name ts p → IsWanted Ranges name → ⊥
not_always TruthsDiffering w = other _ w (λ e. cc) (λ e. cc)
not_always TrueHolding w = other _ w (λ e. cc) (λ e. cc)
not_always FalseFailing w = other _ w (λ e. cc) (λ e. cc)
not_always NothingFailing w = other _ w (λ e. cc) (λ e. cc)

not_alone : {a : TypeData} {name : Axiom} {ts : List TermData} {p : FormulaData} → AsksOfTypeAlone a name ts p → IsWanted Ranges name → ⊥
not_alone (ByNothing a) w = other _ w (λ e. cc) (λ e. cc)

not_beside : {a : TypeData} {t : TermData} {name : Axiom} {ts : List TermData} {p : FormulaData} → AsksOfTypeBeside a t name ts p → IsWanted Ranges name → ⊥
not_beside (ByEmptyTyped a) w = other _ w (λ e. cc) (λ e. cc)
not_beside (BySetTyped a v i x) w = other _ w (λ e. cc) (λ e. cc)
not_beside (ByPushTyped a v x) w = other _ w (λ e. cc) (λ e. cc)
not_beside (ByPopTyped a v) w = other _ w (λ e. cc) (λ e. cc)

not_read : {t k : TermData} {name : Axiom} {ts : List TermData} {p : FormulaData} → AsksOfRead t k name ts p → IsWanted Ranges name → ⊥
not_read (ByStoreRead m a v k) w = other _ w (λ e. cc) (λ e. cc)
not_read (ByPushRead v x i) w = other _ w (λ e. cc) (λ e. cc)
not_read (ByPopRead v i) w = other _ w (λ e. cc) (λ e. cc)
not_read (BySetRead v i x j) w = other _ w (λ e. cc) (λ e. cc)

not_item : {a : TypeData} {v i : TermData} {name : Axiom} {ts : List TermData} {p : FormulaData} → AsksOfItem a v i name ts p → IsWanted Ranges name → ⊥
not_item (ByItem a v i) w = other _ w (λ e. cc) (λ e. cc)

not_vectors : {a : TypeData} {v u : TermData} {name : Axiom} {ts : List TermData} {p : FormulaData} → AsksOfVectors a v u name ts p → IsWanted Ranges name → ⊥
not_vectors (ByVectors a v u i f) w = other _ w (λ e. cc) (λ e. cc)

-- ---- terms and types by number

pub contains_map : {X : Type 0} (f : X → Asker) (xs : List X) (x : X) → Contains xs x → Contains (map f xs) (f x)
contains_map f xs x (k, w, e) = (k, omega (arith, w, length-map xs f), get_or-map f xs k x (f x) w ∙ ap f e)

pub typed_by : (ns : List Node) (b : Branch) (typing : TypingPair) → IsGivenOrDenied ns b typing → IsTyped b (type_at ns typing.of) (term_at ns typing.term)
typed_by ns b typing h = go h.entry.says h.entry.is.is
  where
    go : {q : FormulaData} {a : TypeData} {t : TermData} → Says b h.position q → IsTyping q a t → IsTyped b a t
    go s (Gives a t) = Said (record { position = h.position; says = s })
    go s (Denies a t) = Denied (record { position = h.position; says = s })

module _ (ns : List Node) (b : Branch) (terms : List ℕ) (are : AreBranchTerms ns b terms) (count : ℕ) (typings : List TypingPair) (typed : AreTypings ns b count typings) where
  of_terms : (P : Asker → Type 0) → ((n : ℕ) → IsBranchTerm ns b n → P (term_asker n)) → All P (map term_asker terms)
  of_terms P f = All-map P term_asker terms (λ k d w. f (slice_index_or terms k d) ((are.each (slice_index_or terms k d)).0 (Contains-get_or terms k d w)))

  of_typings : (P : Asker → Type 0) → ((x : TypingPair) → IsGivenOrDenied ns b x → P (typing_asker x)) → All P (map typing_asker typings)
  of_typings P f = All-map P typing_asker typings (λ k d w. f (slice_index_or typings k d) (typed.each k (slice_index_or typings k d) (slice_get-get_or typings k d w)))

  both : (P : Asker → Type 0) → ((n : ℕ) → IsBranchTerm ns b n → P (term_asker n)) → ((x : TypingPair) → IsGivenOrDenied ns b x → P (typing_asker x)) → All P (range_askers terms typings)
  both P f g = All-append P (map term_asker terms) (map typing_asker typings) (of_terms P f) (of_typings P g)

  pub askers_numbered : All (IsAsker ns) (range_askers terms typings)
  askers_numbered = both (IsAsker ns) (λ n h. record { within = h.number.within; is = sym (a_term (item_at ns n) h.number.sort) }) (λ x h. record { of = h.entry.is.of; term = h.entry.is.term })

  pub askers_are : AreAskers ns (range_askers terms typings)
  askers_are = record { each = λ k w. askers_numbered k Always w }

  pub askers_stand : All (IsPresent ns b) (range_askers terms typings)
  askers_stand = both (IsPresent ns b) (λ n h. h.stands) (λ x h. typed_by ns b x h)

module _ (shapes : List Shape) (ns : List Node) (one : IsOneNumber ns) (d : BranchData) (over : IsOver ns d) (terms : List ℕ) (are : AreBranchTerms ns (branch_in ns d) terms) (typings : List TypingPair) (typed : AreTypings ns (branch_in ns d) (length d.entries) typings) where
  abbrev b : Branch
  b = branch_in ns d

  abbrev askers : List Asker
  askers = range_askers terms typings

  abbrev AsksHere : Asking
  AsksHere = AsksOfSome (length askers) (asks_at shapes ns askers)

  pub of_term : (t : TermData) → IsTerm b t → {name : Axiom} {ts : List TermData} {p : FormulaData} → AsksOfTerm shapes t name ts p → AsksHere name ts p
  of_term t h {name} {ts} {p} a =
      let numbered = term_number ns one d over t h in
      let among = Contains-append_left (map term_asker terms) (map typing_asker typings) (term_asker numbered.number) (contains_map term_asker terms numbered.number ((are.each numbered.number).1 numbered.term)) in
      one_asks shapes ns askers (Term numbered.number) among (subst (λ u. AsksOfTerm shapes u name ts p) (sym (ap term_in numbered.is)) a)

  of_listed : {a : TypeData} {t : TermData} {name : Axiom} {ts : List TermData} {p : FormulaData} → IsListedTyping ns typings a t → AsksOfType shapes a t name ts p → AsksHere name ts p
  of_listed {a} {t} {name} {ts} {p} l h =
      let within = slice_get_within typings l.position l.typing l.found in
      let here : Contains typings l.typing = (l.position, within, get_or_from_slice_get typings l.position l.typing l.typing l.found) in
      let among = Contains-append_right (map term_asker terms) (map typing_asker typings) (typing_asker l.typing) (contains_map typing_asker typings l.typing here) in
      one_asks shapes ns askers (typing_asker l.typing) among (subst (λ c. AsksOfType shapes c (term_at ns l.typing.term) name ts p) (sym l.type_is) (subst (λ u. AsksOfType shapes a u name ts p) (sym l.term_is) h))

  pub of_type : {a : TypeData} {t : TermData} {name : Axiom} {ts : List TermData} {p : FormulaData} → IsTyped b a t → AsksOfType shapes a t name ts p → AsksHere name ts p
  of_type {a} {t} (Said s) h = of_listed (typed.all s.position (IsFormula a t) a t (says_within ns d s.position (IsFormula a t) s.says) s.says (Gives a t)) h
  of_type {a} {t} (Denied s) h = of_listed (typed.all s.position (NotFormula (IsFormula a t)) a t (says_within ns d s.position (NotFormula (IsFormula a t)) s.says) s.says (Denies a t)) h

  of_ranges : {name : Axiom} {ts : List TermData} {p : FormulaData} → IsWanted Ranges name → IsTriggeredOn shapes b name ts p → AsksHere name ts p
  of_ranges w (AtAllTimes h) = absurd (not_always h w)
  of_ranges w (OfTerm t s h) = of_term t s h
  of_ranges w (OfType a t s h) = of_type s h
  of_ranges w (OfTypeAlone a s h) = absurd (not_alone h w)
  of_ranges w (OfTypeBeside a t s z h) = absurd (not_beside h w)
  of_ranges w (OfRead t k s z r h) = absurd (not_read h w)
  of_ranges w (OfItem a v i s z r h) = absurd (not_item h w)
  of_ranges w (OfVectors a v u s z r h) = absurd (not_vectors h w)

  no_ranges : NoneDue b Ranges AsksHere → NoAxiom shapes b Ranges
  no_ranges h = record {
    none = λ name p g w due. h.none name p g w (record { terms = due.terms; triggered = of_ranges w (stands shapes b due.triggered); generations = due.generations; is_new = due.is_new; shallow = due.shallow });
  }

  pub ranges_answer : {ks : List Node} → Extends ns ks → (o : Option AxiomStep) → MatchOption o (NoneDue b Ranges AsksHere) (IsDueStep ks b Ranges AsksHere) → MatchOption o (NoAxiom shapes (branch_in ks d) Ranges) (IsAxiomStep ks shapes (branch_in ks d) Ranges)
  ranges_answer {ks} grown None h = subst (λ (c : Branch). NoAxiom shapes c Ranges) (sym (still_says ns ks grown d over)) (no_ranges h)
  ranges_answer {ks} grown (Some step) h =
      subst (λ (c : Branch). IsAxiomStep ks shapes c Ranges step) (sym (still_says ns ks grown d over)) (axiom_step (step_as (askers_ask shapes ns b askers (askers_stand ns b terms are (length d.entries) typings typed)) h))

-- ---- what comes first

table_asks : {shapes : List Shape} {b : Branch} {name : Axiom} {ts : List TermData} {p : FormulaData} → AsksAxiom shapes b name ts p → (name ≡ Cases Trichotomy → ⊥) → Asks shapes b name ts p
table_asks (ByTable name ts p h) d = h
table_asks (AsDecision t u x y z) d = absurd (d refl)

pub ranges_first : (shapes : List Shape) (b : Branch) → NoAxiom shapes b Ranges → NothingOfRanges shapes b
ranges_first shapes b h = record {
  no_range = λ p g due. h.none (Exactly Range) p g (inl refl) (record { terms = due.terms; triggered = table_asks due.triggered (λ e. cc); generations = due.generations; is_new = due.is_new; shallow = due.shallow });
  no_whole = λ p g due. h.none (Plain Whole) p g (inr refl) (record { terms = due.terms; triggered = table_asks due.triggered (λ e. cc); generations = due.generations; is_new = due.is_new; shallow = due.shallow });
}
