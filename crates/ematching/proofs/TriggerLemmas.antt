-- Terms that match by a trigger, one trigger after another.
use Rattle.std.proofs.Common.{Result, Ok, Err, IfOk, not, ◌≡◌, ◌⊎◌, inl, inr, ℕ, Bool, true, false, List, [], ◌∷◌, ◌++◌, Option, Some, None, refl, sym, ap, ◌∙◌, subst, append_assoc, append-nil}
use Rattle.std.specs.Prelude.{◌↔◌, IsTrue, All, Contains}
use Rattle.std.proofs.lemmas.Bool.{or_cases, or_left, or_right}
use Rattle.std.proofs.lemmas.List.Elements.{All-nil, All-cons, All-head, All-tail, All-contains}
use Rattle.std.proofs.lemmas.Option.{slice_get_within}
use Rattle.fol.specs.declared.operators.Quantifier.TheVariants.{ForAll, Exists}
use Rattle.fol.specs.FormulaData.{TermData, VarTerm, TermsData, TriggersData, NoTriggers, MoreTriggers, FormulaData, NotFormula, QuantifyFormula, list_of_terms, list_of_triggers, terms_of, terms_of-list_of_terms}
use Rattle.substitution.specs.Free.{free_in_terms, free_in_triggers}
use Rattle.term_pool.specs.Items.{Item, TermItem, TriggersItem, TriggersSort, sort_of, term_in, triggers_in}
use Rattle.term_pool.specs.Pools.{item_at, IsMade, IsOneNumber}
use Rattle.term_pool.specs.declared.node.Leaf.TheVariants.{Var}
use Rattle.term_pool.specs.declared.node.Node.{Node}
use Rattle.term_pool.specs.declared.node.Node.TheVariants.{Leaf as LeafNode}
use Rattle.term_pool.proofs.ShapeLemmas.{a_term}
use Rattle.certificates.specs.BranchesBranch.{Branch, IsTerm}
use Rattle.certificates.specs.Match.{IsFilled, OfVariable, AreFilled, IsTriggered, IsMatch, ByTrigger, ByType, bound_in}
use Rattle.certificates.specs.Due.{IsMatched, ForAllMatched, NoneMatched}
use Rattle.tableau.specs.Logs.{value_in, change_of}
use Rattle.tableau.specs.PoolBranches.{IsTermNumber}
use Rattle.tableau.specs.declared.log.Change.{Change}
use Rattle.ematching.specs.Numbers.{IsAmong, AreAll, IsOnce, IsOfSort, term_at, terms_at, triggers_at, formula_at}
use Rattle.ematching.specs.Walks.{free_in_item, AreBound}
use Rattle.ematching.specs.Fits.{IsFilledItem, IsPatternSort, AreTaken, Whole, IsKeptPair, IsFilling, Meets}
use Rattle.ematching.specs.Quantified.{for_all, IsQuantified, IsNotQuantified}
use Rattle.ematching.specs.Joins.{IsWanted, IsJoined, AreJoined}
use Rattle.ematching.specs.Matches.{AreMatches, IsMeant, AreMeant, AreAdded, IsMatchedBy, IsMatchOf, IsFirstTriggerOf, HasTrigger, IsBegun, IsTypedMatch}
use Rattle.ematching.specs.declared.quantified.Universal.{Universal}
use Rattle.ematching.specs.declared.joins.Wanted.{Wanted}
use Rattle.ematching.proofs.ListLemmas.{among_first, among_push, among_push_cases, among_contains, contains_among}
use Rattle.ematching.proofs.FillLemmas.{by_variable, list_filled_with}
use Rattle.ematching.proofs.ApartLemmas.{as_term}
use Rattle.ematching.proofs.FitLemmas.{has_now, has_cases}
use Rattle.ematching.proofs.HeldLemmas.{filled_item}
use Rattle.ematching.proofs.TypeLemmas.{added_none, added_same}

all_to : {X : Type 0} (P : X → Type 0) (xs : List X) → AreAll P xs → All P xs
all_to P [] h = All-nil P
all_to P (x ∷ xs) h = All-cons P x xs h.0 (all_to P xs h.1)

all_from : {X : Type 0} (P : X → Type 0) (xs : List X) → All P xs → AreAll P xs
all_from P [] h = tt
all_from P (x ∷ xs) h = (All-head P x xs h, all_from P xs (All-tail P x xs h))

pub if_both : {X E : Type 0} {P Q R : X → Type 0} (r : Result X E) → ((x : X) → P x → Q x → R x) → IfOk r P → IfOk r Q → IfOk r R
if_both (Ok x) f h g = f x h g
if_both (Err e) f h g = h

pub not_empty : {X : Type 0} (xs : List X) (b : Bool) → IsTrue b ↔ (xs ≡ []) → IsTrue (not b) ↔ (xs ≡ [] → ⊥)
not_empty xs true h = (λ t. absurd (cc), λ none. absurd (none (h.0 refl)))
not_empty xs false h = (λ t e. (let both : false ≡ true = h.1 e in absurd (cc)), λ none. refl)

pub triggers_free : (x : ℕ) (i : Item) → sort_of i ≡ TriggersSort → free_in_item x i ≡ free_in_triggers x (triggers_in i)
triggers_free x (TriggersItem t) e = refl
triggers_free x _ e = absurd (cc)

-- ---- the matches that are recorded at first

module _ (ns : List Node) (bound : List ℕ) (w : Wanted) where
  pub begun_none : (cs : List Change) → cs ≡ [] → IsBegun ns bound w.variable None cs
  begun_none cs e = record {
    filling = record { each = λ p t f. absurd (nothing p t f) };
    meets = λ at v number is. (λ m. tt, λ g. record { each = λ p t f. absurd (nothing p t f) });
  }
    where
      nothing : (p t : ℕ) → value_in cs p ≡ Some t → ⊥
      nothing p t f = (let both : None ≡ Some t = ap (λ xs. value_in xs p) (sym e) ∙ f in absurd (cc))

  module _ (one : IsOneNumber ns) (wanted : IsWanted ns bound w) (t : ℕ) (number : IsTermNumber ns t) (node : Node) (made : IsMade ns t node) where
    abbrev cs : List Change
    cs = [] ++ change_of [] w.number t ∷ []

    is_item : item_at ns w.number ≡ TermItem (VarTerm w.variable)
    is_item = wanted.number.item

    kept : value_in cs w.number ≡ Some t
    kept = has_now [] w.number t refl

    only : (p u : ℕ) → value_in cs p ≡ Some u → (p ≡ w.number) × (u ≡ t)
    only p u e = go (has_cases [] w.number t refl p u e)
      where
        go : (value_in [] p ≡ Some u) ⊎ ((p ≡ w.number) × (u ≡ t)) → (p ≡ w.number) × (u ≡ t)
        go (inl f) = absurd (cc)
        go (inr h) = h

    whole : AreTaken ns bound (LeafNode (Var w.variable)) node []
    whole = Whole wanted.is_bound

    filling : IsFilling ns bound cs []
    filling = record { each = λ p u e. (let h = only p u e in subst (λ k. IsKeptPair ns bound cs [] k u) (sym h.0) (subst (IsKeptPair ns bound cs [] w.number) (sym h.1) pair)) }
      where
        pair : IsKeptPair ns bound cs [] w.number t
        pair = record {
          pair = record { pattern_within = slice_get_within ns w.number (LeafNode (Var w.variable)) wanted.number.found; target_within = number.within; sort = subst IsPatternSort (sym (ap sort_of is_item)) tt; same_sort = number.sort ∙ sym (ap sort_of is_item) };
          left = LeafNode (Var w.variable);
          right = node;
          is_left = wanted.number;
          is_right = made;
          parts = [];
          taken = whole;
          kept = record { each = λ a b z. absurd z };
        }

    variable_to : (at : ℕ → TermData) → Meets ns bound at cs → at w.variable ≡ term_at ns t
    variable_to at m = by_variable bound at (term_in (item_at ns w.number)) (term_at ns t) w.variable (as_term bound at (item_at ns w.number) (item_at ns t) (ap sort_of is_item) (m.each w.number t kept)) (ap term_in is_item) wanted.is_bound

    meets_from : (at : ℕ → TermData) → at w.variable ≡ term_at ns t → Meets ns bound at cs
    meets_from at e = record { each = λ p u f. (let h = only p u f in subst (λ k. IsFilledItem bound at (item_at ns k) (item_at ns u)) (sym h.0) (subst (λ k. IsFilledItem bound at (item_at ns w.number) (item_at ns k)) (sym h.1) filled)) }
      where
        variable : IsFilled bound at (VarTerm w.variable) (term_at ns t)
        variable = subst (IsFilled bound at (VarTerm w.variable)) e (OfVariable w.variable wanted.is_bound)

        filled : IsFilledItem bound at (item_at ns w.number) (item_at ns t)
        filled = filled_item bound at (item_at ns w.number) (item_at ns t) (term_at ns t) (ap sort_of is_item) (sym (a_term (item_at ns t) number.sort)) (subst (λ u. IsFilled bound at u (term_at ns t)) (sym (ap term_in is_item)) variable)

    same_term : (v : ℕ) → IsTermNumber ns v → term_at ns v ≡ term_at ns t → v ≡ t
    same_term v h e = one.one v t h.within number.within (sym (a_term (item_at ns v) h.sort) ∙ ap TermItem e ∙ a_term (item_at ns t) number.sort)

    pub begun_some : (ds : List Change) → ds ≡ cs → IsBegun ns bound w.variable (Some t) ds
    begun_some ds e = subst (IsBegun ns bound w.variable (Some t)) (sym e) (record {
      filling = filling;
      meets = λ at v h is. (λ m. same_term v h (sym is ∙ variable_to at m), λ g. meets_from at (is ∙ ap (term_at ns) g));
    })

-- ---- a trigger

module _ (ns : List Node) (b : Branch) (bound : List ℕ) (x : ℕ) (given : Option ℕ) (trigger : TermsData) where
  abbrev IsBy : ℕ → Type 0
  IsBy v = IsTriggered b bound x (term_at ns v) trigger

  pub not_free : free_in_terms x trigger ≡ false → (found more : List ℕ) → more ≡ found → AreAdded ns given (λ v. IsTriggered b bound x (term_at ns v) trigger) found more
  not_free e found more f = added_none ns b given IsBy found more f (λ v number is h. (let both : true ≡ false = sym h.has_variable ∙ e in absurd (cc)))

  pub ready_terms : (ts : List TermData) → ts ≡ list_of_terms trigger → free_in_terms x trigger ≡ true → free_in_terms x (terms_of ts) ≡ true
  ready_terms ts e free = ap (λ us. free_in_terms x (terms_of us)) e ∙ ap (free_in_terms x) (terms_of-list_of_terms trigger) ∙ free

  pub by_join : free_in_terms x trigger ≡ true → (cs : List Change) → IsBegun ns bound x given cs → (ts : List TermData) → ts ≡ list_of_terms trigger → (found more : List ℕ) → AreJoined ns b bound x cs ts found more → AreAdded ns given (λ v. IsTriggered b bound x (term_at ns v) trigger) found more
  by_join free cs begun ts e found more h = record { each = λ v. (λ a. to v ((h.each v).0 a), λ q. (h.each v).1 (from v q)) }
    where
      to : (v : ℕ) → IsAmong v found ⊎ IsJoined ns b bound x cs ts v → IsAmong v found ⊎ IsMeant ns given IsBy v
      to v (inl a) = inl a
      to v (inr j) = inr (record {
        number = j.number;
        is_given = (begun.meets j.at v j.number j.for_variable).0 j.meets;
        holds = record { has_variable = free; at = j.at; for_variable = j.for_variable; filled = j.filled; are_filled = subst (λ us. AreFilled bound j.at us j.filled) e j.are_filled; stand = all_to (IsTerm b) j.filled j.stand };
      })

      from : (v : ℕ) → IsAmong v found ⊎ IsMeant ns given IsBy v → IsAmong v found ⊎ IsJoined ns b bound x cs ts v
      from v (inl a) = inl a
      from v (inr m) = inr (record {
        number = m.number;
        at = m.holds.at;
        meets = (begun.meets m.holds.at v m.number m.holds.for_variable).1 m.is_given;
        for_variable = m.holds.for_variable;
        filled = m.holds.filled;
        are_filled = subst (λ us. AreFilled bound m.holds.at us m.holds.filled) (sym e) m.holds.are_filled;
        stand = all_from (IsTerm b) m.holds.filled m.holds.stand;
      })

-- ---- one trigger after another

module _ (ns : List Node) (b : Branch) (bound : List ℕ) (x : ℕ) (given : Option ℕ) (list : ℕ) (found : List ℕ) where
  -- the triggers so far, and the rest of a list
  pub record IsTriggering (rest : ℕ) (more : List ℕ) : Type 0 where
    pub done : List TermsData
    pub sort : IsOfSort ns TriggersSort rest
    pub all : done ++ list_of_triggers (triggers_at ns rest) ≡ list_of_triggers (triggers_at ns list)
    pub added : AreAdded ns given (HasTrigger b bound x done ns) found more

  pub triggers_begun : (more : List ℕ) → more ≡ found → IsOfSort ns TriggersSort list → IsTriggering list more
  triggers_begun more e sort = record {
    done = [];
    sort = sort;
    all = refl;
    added = added_none ns b given (HasTrigger b bound x [] ns) found more e (λ v number is h. h.among);
  }

  pub triggers_more : (rest : ℕ) (before more : List ℕ) (p : ℕ × ℕ) → IsTriggering rest before → IsFirstTriggerOf ns rest p → AreAdded ns given (λ v. IsTriggered b bound x (term_at ns v) (terms_at ns p.0)) before more → IsTriggering p.1 more
  triggers_more rest before more p h g added = record {
    done = done;
    sort = g.rest;
    all = append_assoc h.done (trigger ∷ []) (list_of_triggers (triggers_at ns p.1)) ∙ ap (λ ts. h.done ++ ts) (sym g.is) ∙ h.all;
    added = record { each = λ v. (λ a. to v ((added.each v).0 a), λ q. (added.each v).1 (from v q)) };
  }
    where
      trigger : TermsData
      trigger = terms_at ns p.0

      done : List TermsData
      done = h.done ++ trigger ∷ []

      early : (v : ℕ) → IsAmong v found ⊎ IsMeant ns given (HasTrigger b bound x h.done ns) v → IsAmong v found ⊎ IsMeant ns given (HasTrigger b bound x done ns) v
      early v (inl a) = inl a
      early v (inr m) = inr (record { number = m.number; is_given = m.is_given; holds = record { trigger = m.holds.trigger; among = among_first m.holds.trigger h.done (trigger ∷ []) m.holds.among; triggered = m.holds.triggered } })

      to : (v : ℕ) → IsAmong v before ⊎ IsMeant ns given (λ u. IsTriggered b bound x (term_at ns u) trigger) v → IsAmong v found ⊎ IsMeant ns given (HasTrigger b bound x done ns) v
      to v (inl a) = early v ((h.added.each v).0 a)
      to v (inr m) = inr (record { number = m.number; is_given = m.is_given; holds = record { trigger = trigger; among = among_push h.done trigger; triggered = m.holds } })

      pick : (v : ℕ) (m : IsMeant ns given (HasTrigger b bound x done ns) v) → IsAmong m.holds.trigger h.done ⊎ (m.holds.trigger ≡ trigger) → IsAmong v before ⊎ IsMeant ns given (λ u. IsTriggered b bound x (term_at ns u) trigger) v
      pick v m (inl k) = inl ((h.added.each v).1 (inr (record { number = m.number; is_given = m.is_given; holds = record { trigger = m.holds.trigger; among = k; triggered = m.holds.triggered } })))
      pick v m (inr e) = inr (record { number = m.number; is_given = m.is_given; holds = subst (IsTriggered b bound x (term_at ns v)) e m.holds.triggered })

      from : (v : ℕ) → IsAmong v found ⊎ IsMeant ns given (HasTrigger b bound x done ns) v → IsAmong v before ⊎ IsMeant ns given (λ u. IsTriggered b bound x (term_at ns u) trigger) v
      from v (inl a) = inl ((h.added.each v).1 (inl a))
      from v (inr m) = pick v m (among_push_cases m.holds.trigger trigger h.done m.holds.among)

-- the same variables in another list
triggered_with : (b : Branch) (xs ys : List ℕ) → ((n : ℕ) → Contains xs n ↔ Contains ys n) → (x : ℕ) (t : TermData) (trigger : TermsData) → IsTriggered b xs x t trigger → IsTriggered b ys x t trigger
triggered_with b xs ys same x t trigger h = record {
  has_variable = h.has_variable;
  at = h.at;
  for_variable = h.for_variable;
  filled = h.filled;
  are_filled = list_filled_with xs ys (λ n. (same n).0) (λ n. (same n).1) h.at (list_of_terms trigger) h.filled h.are_filled;
  stand = h.stand;
}

pub triggers_done : (ns : List Node) (b : Branch) (bound : List ℕ) (x body : ℕ) (given : Option ℕ) (list : ℕ) (found : List ℕ) (rest : ℕ) (more : List ℕ) → AreBound ns x body bound → IsTriggering ns b bound x given list found rest more → list_of_triggers (triggers_at ns rest) ≡ [] → AreAdded ns given (HasTrigger b (x ∷ bound_in (formula_at ns body)) x (list_of_triggers (triggers_at ns list)) ns) found more
triggers_done ns b bound x body given list found rest more are h e = added_same ns b given (HasTrigger b bound x h.done ns) (HasTrigger b all x (list_of_triggers (triggers_at ns list)) ns) (λ v number. (λ g. record { trigger = g.trigger; among = subst (IsAmong g.trigger) done g.among; triggered = triggered_with b bound all are.all x (term_at ns v) g.trigger g.triggered }, λ g. record { trigger = g.trigger; among = subst (IsAmong g.trigger) (sym done) g.among; triggered = triggered_with b all bound (λ n. ((are.all n).1, (are.all n).0)) x (term_at ns v) g.trigger g.triggered })) found more h.added
  where
    all : List ℕ
    all = x ∷ bound_in (formula_at ns body)

    done : h.done ≡ list_of_triggers (triggers_at ns list)
    done = sym (append-nil h.done) ∙ ap (λ ts. h.done ++ ts) (sym e) ∙ h.all

-- ---- matches of a variable

none_has : (x : ℕ) (ts : TriggersData) → free_in_triggers x ts ≡ false → All (λ t. free_in_terms x t ≡ false) (list_of_triggers ts)
none_has x NoTriggers e = All-nil (λ t. free_in_terms x t ≡ false)
none_has x (MoreTriggers t ts) e = All-cons (λ u. free_in_terms x u ≡ false) t (list_of_triggers ts) (first (free_in_terms x t) refl) (none_has x ts (rest (free_in_triggers x ts) refl))
  where
    first : (c : Bool) → free_in_terms x t ≡ c → free_in_terms x t ≡ false
    first true f = (let both : true ≡ false = sym (or_left (free_in_terms x t) (free_in_triggers x ts) f) ∙ e in absurd (cc))
    first false f = f

    rest : (c : Bool) → free_in_triggers x ts ≡ c → free_in_triggers x ts ≡ false
    rest true f = (let both : true ≡ false = sym (or_right (free_in_terms x t) (free_in_triggers x ts) f) ∙ e in absurd (cc))
    rest false f = f

some_has : (x : ℕ) (ts : TriggersData) → free_in_triggers x ts ≡ true → All (λ t. free_in_terms x t ≡ false) (list_of_triggers ts) → ⊥
some_has x NoTriggers e h = absurd (cc)
some_has x (MoreTriggers t ts) e h = go (or_cases (free_in_terms x t) (free_in_triggers x ts) e) (λ f. some_has x ts f (All-tail (λ u. free_in_terms x u ≡ false) t (list_of_triggers ts) h))
  where
    go : (free_in_terms x t ≡ true) ⊎ (free_in_triggers x ts ≡ true) → (free_in_triggers x ts ≡ true → ⊥) → ⊥
    go (inl f) rest = (let both : true ≡ false = sym f ∙ All-head (λ u. free_in_terms x u ≡ false) t (list_of_triggers ts) h in absurd (cc))
    go (inr f) rest = rest f

module _ (ns : List Node) (b : Branch) (q : Universal) (given : Option ℕ) (found more : List ℕ) where
  abbrev bound : List ℕ
  bound = q.variable ∷ bound_in (formula_at ns q.body)

  abbrev triggers : List TermsData
  triggers = list_of_triggers (triggers_at ns q.triggers)

  pub matched_by_trigger : free_in_triggers q.variable (triggers_at ns q.triggers) ≡ true → AreAdded ns given (HasTrigger b (q.variable ∷ bound_in (formula_at ns q.body)) q.variable (list_of_triggers (triggers_at ns q.triggers)) ns) found more → AreAdded ns given (IsMatchOf ns b q) found more
  matched_by_trigger free h = added_same ns b given (HasTrigger b bound q.variable triggers ns) (IsMatchOf ns b q) (λ v number. (λ g. ByTrigger g.trigger (contains_among triggers g.trigger g.among) g.triggered, λ g. back v g)) found more h
    where
      back : (v : ℕ) → IsMatchOf ns b q v → HasTrigger b bound q.variable triggers ns v
      back v (ByTrigger trigger c t) = record { trigger = trigger; among = among_contains triggers trigger c; triggered = t }
      back v (ByType a none begins stands) = absurd (some_has q.variable (triggers_at ns q.triggers) free none)

  pub matched_by_type : free_in_triggers q.variable (triggers_at ns q.triggers) ≡ false → AreAdded ns given (IsTypedMatch b (formula_at ns q.body) q.variable ns) found more → AreAdded ns given (IsMatchOf ns b q) found more
  matched_by_type free h = added_same ns b given (IsTypedMatch b (formula_at ns q.body) q.variable ns) (IsMatchOf ns b q) (λ v number. (λ g. ByType g.type none g.begins g.stands, λ g. back v g)) found more h
    where
      none : All (λ t. free_in_terms q.variable t ≡ false) triggers
      none = none_has q.variable (triggers_at ns q.triggers) free

      back : (v : ℕ) → IsMatchOf ns b q v → IsTypedMatch b (formula_at ns q.body) q.variable ns v
      back v (ByTrigger trigger c t) = (let both : true ≡ false = sym t.has_variable ∙ All-contains (λ u. free_in_terms q.variable u ≡ false) triggers trigger none c in absurd (cc))
      back v (ByType a others begins stands) = record { type = a; begins = begins; stands = stands }

-- ---- the formula

module _ (b : Branch) (t : TermData) where
  matched_for_all : (denied : Bool) (n : ℕ) (ts : TriggersData) (body p : FormulaData) → p ≡ for_all denied n ts body → IsMatch b n ts body t → IsMatched b t p
  matched_for_all false n ts body p e h = subst (IsMatched b t) (sym e) (ForAllMatched n ts body h)
  matched_for_all true n ts body p e h = subst (IsMatched b t) (sym e) (NoneMatched n ts body h)

  -- the universal formula of a matched formula
  record IsMatchFor (p : FormulaData) : Type 0 where
    denied : Bool
    variable : ℕ
    triggers : TriggersData
    body : FormulaData
    is : p ≡ for_all denied variable triggers body
    match_is : IsMatch b variable triggers body t

  match_for : (p : FormulaData) → IsMatched b t p → IsMatchFor p
  match_for _ (ForAllMatched n ts body h) = record { denied = false; variable = n; triggers = ts; body = body; is = refl; match_is = h }
  match_for _ (NoneMatched n ts body h) = record { denied = true; variable = n; triggers = ts; body = body; is = refl; match_is = h }

  same_match : (d c : Bool) (n m : ℕ) (ts us : TriggersData) (p q : FormulaData) → for_all d n ts p ≡ for_all c m us q → IsMatch b n ts p t → IsMatch b m us q t
  same_match false false n m ts us p q e h =
      let both : QuantifyFormula ForAll n ts p ≡ QuantifyFormula ForAll m us q = e in
      let same_variable : n ≡ m = cc in
      let same_triggers : ts ≡ us = cc in
      let same_body : p ≡ q = cc in
      subst (λ k. IsMatch b k us q t) same_variable (subst (λ vs. IsMatch b n vs q t) same_triggers (subst (λ r. IsMatch b n ts r t) same_body h))
  same_match true true n m ts us p q e h =
      let both : NotFormula (QuantifyFormula Exists n ts p) ≡ NotFormula (QuantifyFormula Exists m us q) = e in
      let same_variable : n ≡ m = cc in
      let same_triggers : ts ≡ us = cc in
      let same_body : p ≡ q = cc in
      subst (λ k. IsMatch b k us q t) same_variable (subst (λ vs. IsMatch b n vs q t) same_triggers (subst (λ r. IsMatch b n ts r t) same_body h))
  same_match false true n m ts us p q e h = absurd (cc)
  same_match true false n m ts us p q e h = absurd (cc)

module _ (ns : List Node) (b : Branch) (p : FormulaData) (given : Option ℕ) (numbers : List ℕ) where
  pub not_matched : IsNotQuantified p → numbers ≡ [] → AreMeant ns given (IsMatchedBy ns b p) numbers
  not_matched none e = record { each = λ v. (λ a. absurd (subst (IsAmong v) e a), λ m. (let it = match_for b (term_at ns v) p m.holds in absurd (none.none it.denied it.variable it.triggers it.body it.is))) }

  pub matched_is : (q : Universal) → IsQuantified ns p q → AreAdded ns given (IsMatchOf ns b q) [] numbers → AreMeant ns given (IsMatchedBy ns b p) numbers
  matched_is q is h = record { each = λ v. (λ a. to v ((h.each v).0 a), λ m. (h.each v).1 (inr (from v m))) }
    where
      to : (v : ℕ) → IsAmong v [] ⊎ IsMeant ns given (IsMatchOf ns b q) v → IsMeant ns given (IsMatchedBy ns b p) v
      to v (inl z) = absurd z
      to v (inr m) = record { number = m.number; is_given = m.is_given; holds = matched_for_all b (term_at ns v) q.is_denied q.variable (triggers_at ns q.triggers) (formula_at ns q.body) p is.is m.holds }

      from : (v : ℕ) → IsMeant ns given (IsMatchedBy ns b p) v → IsMeant ns given (IsMatchOf ns b q) v
      from v m =
          let it = match_for b (term_at ns v) p m.holds in
          record { number = m.number; is_given = m.is_given; holds = same_match b (term_at ns v) it.denied q.is_denied it.variable q.variable it.triggers (triggers_at ns q.triggers) it.body (formula_at ns q.body) (sym it.is ∙ is.is) it.match_is }

pub all_matches : (ns : List Node) (b : Branch) (p : FormulaData) (numbers listed : List ℕ) → listed ≡ numbers → IsOnce listed → AreMeant ns None (IsMatchedBy ns b p) numbers → AreMatches ns b p listed
all_matches ns b p numbers listed e once h = record {
  each = λ v. (λ a. (let m = (h.each v).0 (subst (IsAmong v) e a) in record { number = m.number; matched = m.holds }), λ m. subst (IsAmong v) (sym e) ((h.each v).1 (record { number = m.number; is_given = tt; holds = m.matched })));
  once = once;
}

pub one_match : (ns : List Node) (b : Branch) (p : FormulaData) (t : ℕ) → IsTermNumber ns t → (numbers : List ℕ) → AreMeant ns (Some t) (IsMatchedBy ns b p) numbers → (numbers ≡ [] → ⊥) ↔ IsMatched b (term_at ns t) p
one_match ns b p t number numbers h = (λ some. to numbers refl some, λ m e. subst (IsAmong t) e ((h.each t).1 (record { number = number; is_given = refl; holds = m })))
  where
    to : (xs : List ℕ) → numbers ≡ xs → (numbers ≡ [] → ⊥) → IsMatched b (term_at ns t) p
    to [] e some = absurd (some e)
    to (v ∷ xs) e some =
        let m = (h.each v).0 (subst (IsAmong v) (sym e) (inl refl)) in
        subst (λ k. IsMatched b (term_at ns k) p) m.is_given m.holds
