-- All triggers on a branch, and their due instances.
use Rattle.std.proofs.Common.{◌≡◌, ℕ, Bool, true, false, ◌||◌, true≢false, List, ◌++◌, length, map, Option, Some, None, refl, sym, ap, ◌∙◌, subst, arith}
use Rattle.std.specs.Prelude.{slice_index_or, MatchOption, All}
use Rattle.std.proofs.lemmas.List.{length-map, get_or-map}
use Rattle.std.proofs.lemmas.List.Elements.{All-append, Contains-get_or, Contains-append_left, Contains-append_right}
use Rattle.std.proofs.lemmas.Option.{slice_get_within, get_or_from_slice_get}
use Rattle.fol.specs.declared.shapes.Shape.{Shape}
use Rattle.fol.specs.FormulaData.{TermData, FormulaData}
use Rattle.axioms.specs.declared.axiom.Axiom.{Axiom}
use Rattle.axioms.specs.Forms.{DifferFormula}
use Rattle.substitution.specs.Free.{free_in_term, free_in}
use Rattle.term_pool.specs.Pools.{IsOneNumber, Extends}
use Rattle.term_pool.specs.declared.node.Node.{Node}
use Rattle.certificates.specs.BranchesBranch.{Branch, formula_of, Stands}
use Rattle.tableau.specs.PoolBranches.{BranchData, branch_in, IsOver}
use Rattle.tableau.proofs.EntryLemmas.{still_says}
use Rattle.tableau.specs.Terms.{AreBranchTerms}
use Rattle.axiom_instances.specs.Present.{IsTriggeredOn, Always as AtAllTimes, OfTerm, OfType, OfTypeAlone, OfTypeBeside, OfRead, OfItem, OfVectors}
use Rattle.axiom_instances.proofs.PresentLaws.{stands}
use Rattle.axiom_instances.specs.Fresh.{HasFresh}
use Rattle.axiom_strategy.specs.declared.askers.Asker.{Asker}
use Rattle.axiom_strategy.specs.declared.askers.Asker.TheVariants.{Always}
use Rattle.axiom_strategy.specs.declared.due.WantedAxioms.TheVariants.{All as Everything}
use Rattle.axiom_strategy.specs.declared.due.AxiomStep.{AxiomStep}
use Rattle.axiom_strategy.specs.declared.typings.Typing.{Typing}
use Rattle.axiom_strategy.specs.Due.{NoneDue, IsDueStep, AsksOfSome, NoAxiom, IsAxiomStep}
use Rattle.axiom_strategy.specs.Askers.{AreAskers, asks_at, IsPresent, range_askers}
use Rattle.axiom_strategy.specs.Typings.{AreTypings}
use Rattle.axiom_strategy.specs.Families.{IsAskerOn, AskAll, AsksOfTypes, ByAlways, ByType, ByTypeBeside, AsksOfReads, ByRead, AsksOfItems, ByItemRead, AsksOfPairs, ByPair, HasVariable, AskEverything}
use Rattle.axiom_strategy.proofs.DueLemmas.{none_as, step_as}
use Rattle.axiom_strategy.proofs.AskerLemmas.{askers_ask, one_asks, axiom_step}
use Rattle.axiom_strategy.proofs.RangeLemmas.{askers_numbered, askers_stand, of_term, of_type}

-- ---- a variable that is free in no entry

left_false : (a c : Bool) → a || c ≡ false → a ≡ false
left_false false c e = refl
left_false true c e = absurd (true≢false e)

right_false : (a c : Bool) → a || c ≡ false → c ≡ false
right_false false c e = e
right_false true c e = absurd (true≢false e)

not_free : (b : Branch) (n : ℕ) (p : FormulaData) → All (λ (q : FormulaData). free_in n q ≡ false) (map formula_of b) → Stands b p → free_in n p ≡ false
not_free b n p new s =
    let e = s.says.entry in
    let w = slice_get_within b s.position e s.says.found in
    let found : slice_index_or (map formula_of b) s.position (formula_of e) ≡ p = get_or-map formula_of b s.position e (formula_of e) w ∙ ap formula_of (get_or_from_slice_get b s.position e e s.says.found) ∙ s.says.is in
    ap (free_in n) (sym found) ∙ new s.position (formula_of e) (omega (arith, w, length-map b formula_of))

has_fresh : {b : Branch} {v u : TermData} → HasVariable b → Stands b (DifferFormula v u) → HasFresh v u
has_fresh {b} {v} {u} room s =
    let free = not_free b room.number (DifferFormula v u) room.is_new s in
    record {
      number = room.number;
      is_variable = room.is_variable;
      not_left = left_false (free_in_term room.number v) (free_in_term room.number u) free;
      not_right = right_false (free_in_term room.number v) (free_in_term room.number u) free;
    }

-- ---- two lists

module _ (ns : List Node) (shapes : List Shape) (xs ys : List Asker) {name : Axiom} {ts : List TermData} {p : FormulaData} where
  triggered_left : AsksOfSome (length xs) (asks_at shapes ns xs) name ts p → AsksOfSome (length (xs ++ ys)) (asks_at shapes ns (xs ++ ys)) name ts p
  triggered_left h = one_asks shapes ns (xs ++ ys) (slice_index_or xs h.position Always) (Contains-append_left xs ys (slice_index_or xs h.position Always) (Contains-get_or xs h.position Always h.before)) h.triggered

  triggered_right : AsksOfSome (length ys) (asks_at shapes ns ys) name ts p → AsksOfSome (length (xs ++ ys)) (asks_at shapes ns (xs ++ ys)) name ts p
  triggered_right h = one_asks shapes ns (xs ++ ys) (slice_index_or ys h.position Always) (Contains-append_right xs ys (slice_index_or ys h.position Always) (Contains-get_or ys h.position Always h.before)) h.triggered

-- ---- all lists

module _ (ns : List Node) (one : IsOneNumber ns) (d : BranchData) (over : IsOver ns d) (terms : List ℕ) (are : AreBranchTerms ns (branch_in ns d) terms) (typings : List Typing) (typed : AreTypings ns (branch_in ns d) (length d.entries) typings) (room : HasVariable (branch_in ns d)) where
  abbrev b : Branch
  b = branch_in ns d

  abbrev ranges : List Asker
  ranges = range_askers terms typings

  module _ (types reads items pairs : List Asker) (by_types : AskAll ns b types (AsksOfTypes b)) (by_reads : AskAll ns b reads (AsksOfReads b)) (by_items : AskAll ns b items (AsksOfItems b)) (by_pairs : AskAll ns b pairs (AsksOfPairs b)) where
    abbrev two : List Asker
    two = ranges ++ types

    abbrev three : List Asker
    three = two ++ reads

    abbrev four : List Asker
    four = three ++ items

    abbrev five : List Asker
    five = four ++ pairs

    ranges_on : All (IsAskerOn ns b) ranges
    ranges_on = λ k x w. record { numbers = askers_numbered ns b terms are (length d.entries) typings typed k x w; stands = askers_stand ns b terms are (length d.entries) typings typed k x w }

    all_on : All (IsAskerOn ns b) five
    all_on =
        All-append (IsAskerOn ns b) four pairs
        (All-append (IsAskerOn ns b) three items (All-append (IsAskerOn ns b) two reads (All-append (IsAskerOn ns b) ranges types ranges_on by_types.on) by_reads.on) by_items.on)
        by_pairs.on

    module _ (shapes : List Shape) {name : Axiom} {ts : List TermData} {p : FormulaData} where
      in_two : AsksOfSome (length two) (asks_at shapes ns two) name ts p → AsksOfSome (length five) (asks_at shapes ns five) name ts p
      in_two h = triggered_left ns shapes four pairs (triggered_left ns shapes three items (triggered_left ns shapes two reads h))

      in_ranges : AsksOfSome (length ranges) (asks_at shapes ns ranges) name ts p → AsksOfSome (length five) (asks_at shapes ns five) name ts p
      in_ranges h = in_two (triggered_left ns shapes ranges types h)

      in_types : AsksOfTypes b name ts p → AsksOfSome (length five) (asks_at shapes ns five) name ts p
      in_types h = in_two (triggered_right ns shapes ranges types (by_types.all shapes name ts p h))

      all_triggered : IsTriggeredOn shapes b name ts p → AsksOfSome (length five) (asks_at shapes ns five) name ts p
      all_triggered (AtAllTimes h) = in_types (ByAlways h)
      all_triggered (OfTerm t s h) = in_ranges (of_term shapes ns one d over terms are typings typed t s h)
      all_triggered (OfType a t s h) = in_ranges (of_type shapes ns one d over terms are typings typed s h)
      all_triggered (OfTypeAlone a s h) = in_types (ByType a s h)
      all_triggered (OfTypeBeside a t s z h) = in_types (ByTypeBeside a t s z h)
      all_triggered (OfRead t k s z r h) = triggered_left ns shapes four pairs (triggered_left ns shapes three items (triggered_right ns shapes two reads (by_reads.all shapes name ts p (ByRead t k s z r h))))
      all_triggered (OfItem a v i s z r h) = triggered_left ns shapes four pairs (triggered_right ns shapes three items (by_items.all shapes name ts p (ByItemRead a v i s z r h)))
      all_triggered (OfVectors a v u s z r h) = triggered_right ns shapes four pairs (by_pairs.all shapes name ts p (ByPair a v u s z r (record { fresh = has_fresh room s; triggered = h })))

    pub everything : (askers : List Asker) → askers ≡ five → AskEverything ns b askers
    everything askers e = subst (AskEverything ns b) (sym e) (record { on = all_on; all = λ shapes name ts p h. all_triggered shapes h })

-- ---- due instances

pub askers_of : (ns : List Node) (b : Branch) (askers : List Asker) → AskEverything ns b askers → AreAskers ns askers
askers_of ns b askers h = record { each = λ k w. (h.on k Always w).numbers }

pub present : (ns : List Node) (b : Branch) (askers : List Asker) → AskEverything ns b askers → All (IsPresent ns b) askers
present ns b askers h = λ k x w. (h.on k x w).stands

module _ (shapes : List Shape) (ns : List Node) (d : BranchData) (over : IsOver ns d) (askers : List Asker) (h : AskEverything ns (branch_in ns d) askers) where
  abbrev here : Branch
  here = branch_in ns d

  pub next_answer : {ks : List Node} → Extends ns ks → (o : Option AxiomStep) → MatchOption o (NoneDue here Everything (AsksOfSome (length askers) (asks_at shapes ns askers))) (IsDueStep ks here Everything (AsksOfSome (length askers) (asks_at shapes ns askers))) → MatchOption o (NoAxiom shapes (branch_in ks d) Everything) (IsAxiomStep ks shapes (branch_in ks d) Everything)
  next_answer {ks} grown None none =
      subst (λ (c : Branch). NoAxiom shapes c Everything) (sym (still_says ns ks grown d over)) (none_as (λ name ts p a. h.all shapes name ts p (stands shapes here a)) none)
  next_answer {ks} grown (Some step) due =
      subst (λ (c : Branch). IsAxiomStep ks shapes c Everything step) (sym (still_says ns ks grown d over)) (axiom_step (step_as (askers_ask shapes ns here askers (present ns here askers h)) due))
