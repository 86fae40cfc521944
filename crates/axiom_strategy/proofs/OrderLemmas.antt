-- Decisions on two numbers, by number.
use Rattle.std.proofs.Common.{◌≡◌, inl, inr, ℕ, ◌+◌, ◌<◌, ◌≤◌, max, Bool, true, false, List, [], ◌∷◌, ◌++◌, length, get_or, Option, Some, None, Result, Ok, Err, IfOk, refl, sym, ap, ◌∙◌, subst, arith}
use Rattle.std.specs.Prelude.{Contains, MatchOption, IfSome}
use Rattle.std.proofs.lemmas.Bool.{cases_lt}
use Rattle.std.proofs.lemmas.List.Elements.{Contains-push, Contains-push_cases, Contains-append_left, Contains-get_or}
use Rattle.fol.specs.declared.shapes.Shape.{Shape}
use Rattle.fol.specs.FormulaData.{TermData, FormulaData, EqFormula, NotFormula}
use Rattle.axioms.specs.declared.axiom.Axiom.{Axiom}
use Rattle.axioms.specs.declared.axiom.Axiom.TheVariants.{Cases}
use Rattle.axioms.specs.declared.axiom.Alternative.TheVariants.{Trichotomy}
use Rattle.term_pool.specs.Items.{TermItem, term_in}
use Rattle.term_pool.specs.Pools.{item_at, IsItem, IsOneNumber, Extends}
use Rattle.term_pool.specs.declared.node.Node.{Node}
use Rattle.term_pool.proofs.GrowthLemmas.{extends_then}
use Rattle.term_pool.proofs.ShapeLemmas.{a_term}
use Rattle.certificates.specs.BranchesBranch.{Branch, Stands, IsNew, IsTerm, IsGeneration}
use Rattle.certificates.specs.Table.{Asks, OfMax}
use Rattle.certificates.specs.Decisions.{AreIndexes, AsksDecision, AreNumbers}
use Rattle.certificates.specs.Due.{IsShallow, trichotomy_axiom, AsksAxiom, ByTable, AsDecision, AreGenerations, OfNone, OfMore, AxiomDue}
use Rattle.tableau.specs.PoolBranches.{BranchData, branch_in, IsTermNumber, IsOver}
use Rattle.congruence_closure.specs.Known.{BranchClassesData, class_of, AreExact}
use Rattle.tableau.specs.Numbers.{formula_at, IsNumberOf}
use Rattle.tableau.proofs.NumberLemmas.{number_of_item}
use Rattle.tableau.proofs.EntryLemmas.{says_within}
use Rattle.axiom_instances.specs.declared.triggered.TriggeredAxiom.{TriggeredAxiom}
use Rattle.axiom_instances.specs.Lists.{Triggered, IsTriggered, AreTriggered, NoneTriggered, MoreTriggered, Adds}
use Rattle.base.specs.Lists.{list_in}
use Rattle.tableau.specs.Terms.{term_at, IsBranchTerm, AreBranchTerms, AreClassesOf}
use Rattle.tableau.specs.Groups.{AreGroups}
use Rattle.tableau.proofs.BranchLemmas.{term_number}
use Rattle.tableau.proofs.NearLemmas.{joined_of_class, class_of_joined}
use Rattle.axiom_strategy.specs.Numbers.{mark_at, AreBothMarked, AreNumberMarks}
use Rattle.axiom_strategy.specs.Denials.{DeniesSides, DeniesNone}
use Rattle.axiom_strategy.specs.Positions.{at_group, ArePositions}
use Rattle.axiom_strategy.specs.Orders.{NoOrder, IsOrder, order_row, IsFresh, NotFresh, IsFreshStep, IsAddable, IsWith, IsListed, IsInGroup, AreOfBranch, NoneFresh, IsFreshPair, AreMarked, IsDeniedAt, NoneDeniedAt, IsDeniedPair, AreDeniedPairs, IsNumberPair, AreNumberPositions}
use Rattle.axiom_strategy.specs.declared.decisions.positions.Position.{Position}
use Rattle.axiom_strategy.specs.declared.decisions.orders.OrderStep.{OrderStep}
use Rattle.axiom_strategy.proofs.DenialLemmas.{left_stands, right_stands, same_sides}
use Rattle.axiom_strategy.proofs.CutLemmas.{indexes_read, read_indexes}
use Rattle.axiom_strategy.proofs.GrownLemmas.{term_grown, branch_grown, branch_term_grown, so_before, so_after}

-- ---- the number of the instance for two terms

pub triggered_item : (ns : List Node) (n : ℕ) → IsTermNumber ns n → IsItem ns n (TermItem (term_at ns n))
triggered_item ns n h = record { within = h.within; is = sym (a_term (item_at ns n) h.sort) }

-- a list of one instance
pub record HasOne (ns : List Node) (xs : List TriggeredAxiom) (a : Triggered) : Type 0 where
  pub first : TriggeredAxiom
  pub is : xs ≡ first ∷ []
  pub triggered : IsTriggered ns first a

none_triggered : (ns : List Node) (xs : List TriggeredAxiom) (as' : List Triggered) → AreTriggered ns xs as' → as' ≡ [] → xs ≡ []
none_triggered ns _ _ NoneTriggered e = refl
none_triggered ns _ _ (MoreTriggered x a xs as' h r) e = absurd (cc)

one_triggered : (ns : List Node) (xs : List TriggeredAxiom) (as' : List Triggered) (a : Triggered) → AreTriggered ns xs as' → as' ≡ a ∷ [] → HasOne ns xs a
one_triggered ns _ _ a NoneTriggered e = absurd (cc)
one_triggered ns _ _ a (MoreTriggered x a' xs as' h r) e =
    let head : a' ≡ a = cc in
    let rest : as' ≡ [] = cc in
    record { first = x; is = ap (λ zs. x ∷ zs) (none_triggered ns xs as' r rest); triggered = subst (IsTriggered ns x) head h }

pub one_added : (ns ms : List Node) (xs ys : List TriggeredAxiom) (a : Triggered) → xs ≡ [] → Adds ns ms xs ys (a ∷ []) → HasOne ms ys a
one_added ns ms xs ys a e h =
    let one = one_triggered ms h.more (a ∷ []) a h.are refl in
    record { first = one.first; is = h.is ∙ ap (λ us. us ++ h.more) e ∙ one.is; triggered = one.triggered }

pub one_long : (ns : List Node) (xs : List TriggeredAxiom) (a : Triggered) → HasOne ns xs a → 0 < length xs
one_long ns xs a h = let l = ap length h.is in omega (arith, l)

pub instance_number : (ns : List Node) (xs : List TriggeredAxiom) (t u : TermData) (x : TriggeredAxiom) → HasOne ns xs (order_row t u) → x ≡ get_or xs 0 x → IsNumberOf ns (trichotomy_axiom t u) x.formula
instance_number ns xs t u x h e =
    let same : x ≡ h.first = e ∙ ap (λ us. get_or us 0 x) h.is in
    subst (λ (y : TriggeredAxiom). IsNumberOf ns (trichotomy_axiom t u) y.formula) (sym same) (number_of_item ns (trichotomy_axiom t u) h.first.formula h.triggered.formula)

-- ---- fresh instances

module _ (b : Branch) (t u : TermData) where
  pub turned_stands : Stands b (trichotomy_axiom u t) → NotFresh b t u
  turned_stands h = record { not = λ f. f.unordered.not_turned h }

  pub not_addable : (IsAddable b (trichotomy_axiom t u) → ⊥) → NotFresh b t u
  not_addable h = record { not = λ f. h (record { is_new = f.is_new; shallow = f.shallow }) }

  pub two_generations : (g h : ℕ) → IsGeneration b t g → IsGeneration b u h → AreGenerations b (t ∷ u ∷ []) (max g h)
  two_generations g h p q =
      let same : max g (max h 0) ≡ max g h = omega arith in
      subst (AreGenerations b (t ∷ u ∷ [])) same (OfMore t (u ∷ []) g (max h 0) p (OfMore u [] h 0 q OfNone))

-- whether the instance, in an extended pool, may be added
module _ (ns ms : List Node) (grown : Extends ns ms) (d : BranchData) (over : IsOver ns d) where
  pub addable_before : (p : FormulaData) (n : ℕ) → IsNumberOf ms p n → IsAddable (branch_in ms d) (formula_at ms n) → IsAddable (branch_in ns d) p
  addable_before p n h a = subst (λ b. IsAddable b p) (branch_grown ns ms grown d over) (subst (IsAddable (branch_in ms d)) h.is a)

  pub addable_after : (p : FormulaData) (n : ℕ) → IsNumberOf ms p n → IsAddable (branch_in ns d) p → IsAddable (branch_in ms d) (formula_at ms n)
  addable_after p n h a = subst (IsAddable (branch_in ms d)) (sym h.is) (subst (λ b. IsAddable b p) (sym (branch_grown ns ms grown d over)) a)

  -- the number of the instance for terms of the smaller pool
  pub number_before : (i j k : ℕ) (ks : List Node) → IsTermNumber ns i → IsTermNumber ns j → IsNumberOf ks (trichotomy_axiom (term_at ms i) (term_at ms j)) k → IsNumberOf ks (trichotomy_axiom (term_at ns i) (term_at ns j)) k
  number_before i j k ks s t h =
      subst (λ x. IsNumberOf ks (trichotomy_axiom x (term_at ns j)) k) (term_grown ns ms grown i s)
      (subst (λ x. IsNumberOf ks (trichotomy_axiom (term_at ms i) x) k) (term_grown ns ms grown j t) h)

  -- ---- pairs of terms in the two pools

  pub of_branch_after : (P : ℕ → ℕ → Type 0) → AreOfBranch ns (branch_in ns d) P → AreOfBranch ms (branch_in ms d) P
  of_branch_after P h = record { each = λ t u p. (let r = h.each t u p in (branch_term_grown ns ms grown d over t r.0, branch_term_grown ns ms grown d over u r.1)) }

  pub none_before : (P : ℕ → ℕ → Type 0) → AreOfBranch ns (branch_in ns d) P → NoneFresh ms (branch_in ms d) P → NoneFresh ns (branch_in ns d) P
  none_before P are h = record { none = λ t u p f. (let r = are.each t u p in h.none t u p (so_after ns ms grown d over IsFresh t u r.0.number r.1.number f)) }

  pub pair_before : (P : ℕ → ℕ → Type 0) (ks : List Node) (step : OrderStep) → AreOfBranch ns (branch_in ns d) P → IsFreshPair ms ks (branch_in ms d) P step → IsFreshPair ns ks (branch_in ns d) P step
  pair_before P ks step are h =
      let r = are.each h.left h.right h.is_pair in
      record { left = h.left; right = h.right; is_pair = h.is_pair; is_step = so_before ns ms grown d over (λ b t u. IsFreshStep ks b t u step) h.left h.right r.0.number r.1.number h.is_step }

  pub not_before : (i j : ℕ) → IsTermNumber ns i → IsTermNumber ns j → NotFresh (branch_in ms d) (term_at ms i) (term_at ms j) → NotFresh (branch_in ns d) (term_at ns i) (term_at ns j)
  not_before i j s t h = so_before ns ms grown d over NotFresh i j s t h

  pub step_before : (ks : List Node) (step : OrderStep) (i j : ℕ) → IsTermNumber ns i → IsTermNumber ns j → IsFreshStep ks (branch_in ms d) (term_at ms i) (term_at ms j) step → IsFreshStep ks (branch_in ns d) (term_at ns i) (term_at ns j) step
  step_before ks step i j s t h = so_before ns ms grown d over (λ b t u. IsFreshStep ks b t u step) i j s t h

-- terms of one class
pub joined_not : (ns : List Node) (one : IsOneNumber ns) (d : BranchData) (over : IsOver ns d) (c : BranchClassesData) (classes : AreClassesOf ns d c) (exact : AreExact c) (i j : ℕ) → IsBranchTerm ns (branch_in ns d) i → IsBranchTerm ns (branch_in ns d) j → class_of c i ≡ class_of c j → NotFresh (branch_in ns d) (term_at ns i) (term_at ns j)
joined_not ns one d over c classes exact i j s t e = record { not = λ f. f.unordered.not_joined (joined_of_class ns one d over c classes exact i j s t e) }

pub fresh_step : (ns ms : List Node) (one : IsOneNumber ns) (d : BranchData) (over : IsOver ns d) (c : BranchClassesData) (classes : AreClassesOf ns d c) (exact : AreExact c) (i j g h k : ℕ) → IsBranchTerm ns (branch_in ns d) i → IsBranchTerm ns (branch_in ns d) j → (class_of c i ≡ class_of c j → ⊥) → (Stands (branch_in ns d) (trichotomy_axiom (term_at ns j) (term_at ns i)) → ⊥) → IsAddable (branch_in ns d) (trichotomy_axiom (term_at ns i) (term_at ns j)) → IsNumberOf ms (trichotomy_axiom (term_at ns i) (term_at ns j)) k → IsGeneration (branch_in ns d) (term_at ns i) g → IsGeneration (branch_in ns d) (term_at ns j) h → (m : ℕ) → m ≡ max g h → IsFreshStep ms (branch_in ns d) (term_at ns i) (term_at ns j) (record { formula = k; generation = m })
fresh_step ns ms one d over c classes exact i j g h k s t apart turned addable number p q m e = record {
  fresh = record {
    unordered = record { not_joined = λ z. apart (class_of_joined ns one d over c classes exact i j s t z); not_turned = turned };
    is_new = addable.is_new;
    shallow = addable.shallow;
  };
  numbered = number;
  generations = subst (AreGenerations (branch_in ns d) (term_at ns i ∷ term_at ns j ∷ [])) (sym e) (two_generations (branch_in ns d) (term_at ns i) (term_at ns j) g h p q);
}

-- ---- pairs visited one after another

module _ (ns : List Node) (b : Branch) where
  pub with_begun : (t : ℕ) → NoneFresh ns b (IsWith t [])
  with_begun t = record { none = λ x u p f. absurd (let w = p.among.1 in omega (arith, w)) }

  pub with_more : (t u : ℕ) (others : List ℕ) → NoneFresh ns b (IsWith t others) → NotFresh b (term_at ns t) (term_at ns u) → NoneFresh ns b (IsWith t (others ++ u ∷ []))
  with_more t u others h not = record { none = none }
    where
      none : (x y : ℕ) → IsWith t (others ++ u ∷ []) x y → IsFresh b (term_at ns x) (term_at ns y) → ⊥
      none x y p f = elim (Contains-push_cases others u y p.among) [
        | inl o ↦ h.none x y (record { is_left = p.is_left; among = o }) f
        | inr o ↦ not.not (subst (λ k. IsFresh b (term_at ns k) (term_at ns u)) p.is_left (subst (λ k. IsFresh b (term_at ns x) (term_at ns k)) (sym o) f))
      ]

  pub listed_begun : NoneFresh ns b (IsListed [])
  listed_begun = record { none = λ x u p f. absurd (let w = p.among.1 in omega (arith, w)) }

  pub listed_more : (pairs : List (ℕ × ℕ)) (p : ℕ × ℕ) → NoneFresh ns b (IsListed pairs) → NotFresh b (term_at ns p.0) (term_at ns p.1) → NoneFresh ns b (IsListed (pairs ++ p ∷ []))
  listed_more pairs p h not = record { none = none }
    where
      none : (x y : ℕ) → IsListed (pairs ++ p ∷ []) x y → IsFresh b (term_at ns x) (term_at ns y) → ⊥
      none x y q f = elim (Contains-push_cases pairs p (x, y) q.among) [
        | inl o ↦ h.none x y (record { among = o }) f
        | inr o ↦ not.not (subst (λ (k : ℕ × ℕ). IsFresh b (term_at ns k.0) (term_at ns k.1)) (sym o) f)
      ]

  module _ (lists : List (ℕ × List ℕ)) where
    pub groups_begun : NoneFresh ns b (IsInGroup [] lists)
    groups_begun = record { none = λ x u p f. absurd (let w = p.one.1 in omega (arith, w)) }

    pub groups_more : (all : List Position) (p : Position) → NoneFresh ns b (IsInGroup all lists) → NoneFresh ns b (IsWith p.term (list_in lists p.group)) → NoneFresh ns b (IsInGroup (all ++ p ∷ []) lists)
    groups_more all p h one = record { none = none }
      where
        none : (x y : ℕ) → IsInGroup (all ++ p ∷ []) lists x y → IsFresh b (term_at ns x) (term_at ns y) → ⊥
        none x y q f = elim (Contains-push_cases all p (at_group q.group x) q.one) [
          | inl o ↦ h.none x y (record { group = q.group; one = o; other = q.other }) f
          | inr o ↦ one.none x y (record { is_left = ap (λ (k : Position). k.term) (sym o); among = subst (λ k. Contains (list_in lists k) y) (ap (λ (k : Position). k.group) (sym o)) q.other }) f
        ]

-- one of these pairs is one of all
pub pair_wider : (ns ms : List Node) (b : Branch) (P Q : ℕ → ℕ → Type 0) (step : OrderStep) → ((t u : ℕ) → P t u → Q t u) → IsFreshPair ns ms b P step → IsFreshPair ns ms b Q step
pair_wider ns ms b P Q step wider h = record { left = h.left; right = h.right; is_pair = wider h.left h.right h.is_pair; is_step = h.is_step }

pub of_branch_narrower : (ns : List Node) (b : Branch) (P Q : ℕ → ℕ → Type 0) → ((t u : ℕ) → P t u → Q t u) → AreOfBranch ns b Q → AreOfBranch ns b P
of_branch_narrower ns b P Q wider h = record { each = λ t u p. h.each t u (wider t u p) }

-- the others of the group of an index term
pub with_in_group : (all : List Position) (lists : List (ℕ × List ℕ)) (i : ℕ) (d : Position) → i < length all → (t u : ℕ) → IsWith (get_or all i d).term (list_in lists (get_or all i d).group) t u → IsInGroup all lists t u
with_in_group all lists i d w t u h = record {
  group = (get_or all i d).group;
  one = subst (λ k. Contains all (at_group (get_or all i d).group k)) (sym h.is_left) (Contains-get_or all i d w);
  other = h.among;
}

-- ---- marked terms

module _ (marks : List Bool) where
  pub marked_begun : AreMarked marks [] []
  marked_begun = record { each = λ t. (λ h. absurd (let w = h.1 in omega (arith, w)), λ h. absurd (let w = h.0.1 in omega (arith, w))) }

  pub marked_more : (terms found : List ℕ) (n : ℕ) → AreMarked marks terms found → mark_at marks n ≡ true → AreMarked marks (terms ++ n ∷ []) (found ++ n ∷ [])
  marked_more terms found n h e = record { each = λ t. (there t, back t) }
    where
      there : (t : ℕ) → Contains (found ++ n ∷ []) t → Contains (terms ++ n ∷ []) t × (mark_at marks t ≡ true)
      there t m = elim (Contains-push_cases found n t m) [
        | inl o ↦ (let r = (h.each t).0 o in (Contains-append_left terms (n ∷ []) t r.0, r.1))
        | inr o ↦ (subst (Contains (terms ++ n ∷ [])) o (Contains-push terms n), subst (λ k. mark_at marks k ≡ true) o e)
      ]

      back : (t : ℕ) → Contains (terms ++ n ∷ []) t × (mark_at marks t ≡ true) → Contains (found ++ n ∷ []) t
      back t m = elim (Contains-push_cases terms n t m.0) [
        | inl o ↦ Contains-append_left found (n ∷ []) t ((h.each t).1 (o, m.1))
        | inr o ↦ subst (Contains (found ++ n ∷ [])) o (Contains-push found n)
      ]

  pub marked_same : (terms found : List ℕ) (n : ℕ) → AreMarked marks terms found → mark_at marks n ≡ false → AreMarked marks (terms ++ n ∷ []) found
  marked_same terms found n h e = record { each = λ t. (there t, back t) }
    where
      there : (t : ℕ) → Contains found t → Contains (terms ++ n ∷ []) t × (mark_at marks t ≡ true)
      there t m = let r = (h.each t).0 m in (Contains-append_left terms (n ∷ []) t r.0, r.1)

      back : (t : ℕ) → Contains (terms ++ n ∷ []) t × (mark_at marks t ≡ true) → Contains found t
      back t m = elim (Contains-push_cases terms n t m.0) [
        | inl o ↦ (h.each t).1 (o, m.1)
        | inr o ↦ absurd (let never : false ≡ true = sym e ∙ ap (mark_at marks) o ∙ m.1 in cc)
      ]

-- ---- negated equations of numbers

-- those negated by the first entries
pub record ArePairsBefore (ns : List Node) (b : Branch) (count : ℕ) (pairs : List (ℕ × ℕ)) : Type 0 where
  pub are : (p : ℕ × ℕ) → Contains pairs p → IsDeniedPair ns b p
  pub all : (i : ℕ) (p : ℕ × ℕ) → i < count → IsDeniedAt ns b i p → Contains pairs p

module _ (ns : List Node) (b : Branch) where
  pub pairs_begun : ArePairsBefore ns b 0 []
  pairs_begun = record { are = λ p h. absurd (let w = h.1 in omega (arith, w)); all = λ i p w h. absurd (omega (arith, w)) }

  pub pairs_same : (count : ℕ) (pairs : List (ℕ × ℕ)) → ArePairsBefore ns b count pairs → NoneDeniedAt ns b count → ArePairsBefore ns b (count + 1) pairs
  pairs_same count pairs h none = record {
    are = h.are;
    all = λ i p w k. elim (cases_lt i count) [ inl l ↦ h.all i p l k | inr l ↦ absurd (let at : i ≡ count = omega (arith, w, l) in none.none p (subst (λ m. IsDeniedAt ns b m p) at k)) ];
  }

module _ (ns : List Node) (one : IsOneNumber ns) (d : BranchData) (over : IsOver ns d) where
  abbrev b : Branch
  b = branch_in ns d

  pub pairs_more : (count : ℕ) (pairs : List (ℕ × ℕ)) (p : ℕ × ℕ) → ArePairsBefore ns b count pairs → IsDeniedAt ns b count p → ArePairsBefore ns b (count + 1) (pairs ++ p ∷ [])
  pairs_more count pairs p h at = record { are = are; all = all }
    where
      are : (q : ℕ × ℕ) → Contains (pairs ++ p ∷ []) q → IsDeniedPair ns b q
      are q m = elim (Contains-push_cases pairs p q m) [
        | inl o ↦ h.are q o
        | inr o ↦ subst (IsDeniedPair ns b) o (record { position = count; at = at })
      ]

      all : (i : ℕ) (q : ℕ × ℕ) → i < count + 1 → IsDeniedAt ns b i q → Contains (pairs ++ p ∷ []) q
      all i q w k = elim (cases_lt i count) [
        | inl l ↦ Contains-append_left pairs (p ∷ []) q (h.all i q l k)
        | inr l ↦ (
            let position : i ≡ count = omega (arith, w, l) in
            subst (Contains (pairs ++ p ∷ [])) (same_sides ns one b count p q at.sides (subst (λ m. DeniesSides ns b m q) position k.sides)) (Contains-push pairs p))
      ]

  pub pairs_done : (count : ℕ) (pairs : List (ℕ × ℕ)) → length d.entries ≤ count → ArePairsBefore ns b count pairs → AreDeniedPairs ns b pairs
  pairs_done count pairs w h = record { each = λ p. (h.are p, back p) }
    where
      back : (p : ℕ × ℕ) → IsDeniedPair ns b p → Contains pairs p
      back p k = h.all k.position p (let l = says_within ns d k.position (NotFormula (EqFormula (term_at ns p.0) (term_at ns p.1))) k.at.sides.says in omega (arith, l, w)) k.at

  -- ---- the equation that one entry negates

  pub none_denies : (i : ℕ) → DeniesNone b i → NoneDeniedAt ns b i
  none_denies i none = record { none = λ p h. none.none (term_at ns p.0) (term_at ns p.1) h.sides.says }

  module _ (marks : List Bool) (numbers : AreNumberMarks ns b marks) where
    pub both_denied : (i : ℕ) (p : ℕ × ℕ) → DeniesSides ns b i p → AreBothMarked marks p.0 p.1 → IsDeniedAt ns b i p
    both_denied i p sides h = record { sides = sides; numbers = record { left = (numbers.each p.0 sides.left.number).0 h.left; right = (numbers.each p.1 sides.right.number).0 h.right } }

    pub unmarked_denied : (i : ℕ) (p : ℕ × ℕ) → DeniesSides ns b i p → (AreBothMarked marks p.0 p.1 → ⊥) → NoneDeniedAt ns b i
    unmarked_denied i p sides unmarked = record { none = none }
      where
        none : (q : ℕ × ℕ) → IsDeniedAt ns b i q → ⊥
        none q h =
            let same : q ≡ p = same_sides ns one b i q p h.sides sides in
            let both : AreNumbers b (term_at ns p.0) (term_at ns p.1) = subst (λ (x : ℕ × ℕ). AreNumbers b (term_at ns x.0) (term_at ns x.1)) same h.numbers in
            unmarked (record { left = (numbers.each p.0 sides.left.number).1 both.left; right = (numbers.each p.1 sides.right.number).1 both.right })

    -- ---- numbers as indexes

    module _ (c : BranchClassesData) (classes : AreClassesOf ns d c) (exact : AreExact c) (groups : List ℕ) (near : AreGroups ns b groups) (terms found : List ℕ) (are : AreBranchTerms ns b terms) (marked : AreMarked marks terms found) (all : List Position) (lists : List (ℕ × List ℕ)) (positions : ArePositions ns b c groups found all lists) where
      pub number_positions : AreNumberPositions ns b all lists
      number_positions = record { each = λ t u. (there t u, back t u) }
        where
          there : (t u : ℕ) → IsInGroup all lists t u → IsNumberPair ns b t u
          there t u h =
              let p = (positions.positions h.group t).0 h.one in
              let q = (positions.by_group h.group u).0 h.other in
              let x = (marked.each t).0 p.candidate in
              let y = (marked.each u).0 q.candidate in
              let s = (are.each t).0 x.0 in
              let r = (are.each u).0 y.0 in
              record {
                left = s;
                right = r;
                indexes = read_indexes ns one d over c classes exact groups near t u s r (record { group = h.group; one_read = p.read; other_read = q.read });
                numbers = record { left = (numbers.each t s.number).0 x.1; right = (numbers.each u r.number).0 y.1 };
              }

          back : (t u : ℕ) → IsNumberPair ns b t u → IsInGroup all lists t u
          back t u h =
              let r = indexes_read ns one d over c classes exact groups near t u h.left h.right h.indexes in
              record {
                group = r.group;
                one = (positions.positions r.group t).1 (record { candidate = (marked.each t).1 ((are.each t).1 h.left, (numbers.each t h.left.number).1 h.numbers.left); read = r.one_read });
                other = (positions.by_group r.group u).1 (record { candidate = (marked.each u).1 ((are.each u).1 h.right, (numbers.each u h.right.number).1 h.numbers.right); read = r.other_read });
              }

-- ---- due instances

no_row : (shapes : List Shape) (b : Branch) (name : Axiom) (ts : List TermData) (p : FormulaData) → Asks shapes b name ts p → name ≡ Cases Trichotomy → ⊥
no_row shapes b _ _ _ (OfMax h) e = absurd (cc)
no_row shapes b _ _ _ _ e = absurd (cc)

module _ (b : Branch) where
  pub order_due : (t u : TermData) (g : ℕ) → AsksDecision b t u → AreNumbers b t u → IsFresh b t u → AreGenerations b (t ∷ u ∷ []) g → (shapes : List Shape) → AxiomDue shapes b (Cases Trichotomy) (trichotomy_axiom t u) g
  order_due t u g triggered numbers fresh generations shapes = record {
    terms = t ∷ u ∷ [];
    triggered = AsDecision t u fresh.unordered triggered numbers;
    generations = generations;
    is_new = fresh.is_new;
    shallow = fresh.shallow;
  }

  of_decisions : (shapes : List Shape) (name : Axiom) (ts : List TermData) (p : FormulaData) → AsksAxiom shapes b name ts p → name ≡ Cases Trichotomy → IsNew b p → IsShallow p → ((t u : TermData) → AsksDecision b t u → AreNumbers b t u → IsFresh b t u → ⊥) → ⊥
  of_decisions shapes _ _ _ (ByTable name ts p h) e is_new shallow none = no_row shapes b name ts p h e
  of_decisions shapes _ _ _ (AsDecision t u unordered triggered numbers) e is_new shallow none = none t u triggered numbers (record { unordered = unordered; is_new = is_new; shallow = shallow })

  pub no_order : ((t u : TermData) → AsksDecision b t u → AreNumbers b t u → IsFresh b t u → ⊥) → NoOrder b
  no_order none = record { none = λ shapes p g h. of_decisions shapes (Cases Trichotomy) h.terms p h.triggered refl h.is_new h.shallow none }

-- for numbers as indexes

module _ (ns : List Node) (d : BranchData) (over : IsOver ns d) (all : List Position) (lists : List (ℕ × List ℕ)) (positions : AreNumberPositions ns (branch_in ns d) all lists) where
  abbrev at_positions : Branch
  at_positions = branch_in ns d

  pub groups_of_branch : AreOfBranch ns at_positions (IsInGroup all lists)
  groups_of_branch = record { each = λ t u p. (let h = (positions.each t u).0 p in (h.left, h.right)) }

  pub group_order : (ms : List Node) (step : OrderStep) → IsFreshPair ns ms at_positions (IsInGroup all lists) step → IsOrder ms at_positions step
  group_order ms step h =
      let k = (positions.each h.left h.right).0 h.is_pair in
      record {
        formula = trichotomy_axiom (term_at ns h.left) (term_at ns h.right);
        numbered = h.is_step.numbered;
        due = order_due at_positions (term_at ns h.left) (term_at ns h.right) step.generation (inl k.indexes) k.numbers h.is_step.fresh h.is_step.generations;
      }

  pub equal_answer : {E : Type 0} (ks : List Node) (grown : Extends ns ks) → (r : Result (Option OrderStep) E) → IfOk r (λ found. IfSome found (IsFreshPair ns ks at_positions (IsInGroup all lists))) → IfOk r (λ found. IfSome found (IsOrder ks (branch_in ks d)))
  equal_answer ks grown (Ok None) h = h
  equal_answer ks grown (Ok (Some step)) h = subst (λ b. IsOrder ks b step) (sym (branch_grown ns ks grown d over)) (group_order ks step h)
  equal_answer ks grown (Err e) h = h

module _ (ns : List Node) (one : IsOneNumber ns) (d : BranchData) (over : IsOver ns d) (pairs : List (ℕ × ℕ)) (denied : AreDeniedPairs ns (branch_in ns d) pairs) (all : List Position) (lists : List (ℕ × List ℕ)) (positions : AreNumberPositions ns (branch_in ns d) all lists) where
  abbrev branch : Branch
  branch = branch_in ns d

  pub pairs_of_branch : AreOfBranch ns branch (IsListed pairs)
  pairs_of_branch = record { each = λ t u p. (let h = (denied.each (t, u)).0 p.among in (h.at.sides.left, h.at.sides.right)) }

  pub listed_order : (ms : List Node) (step : OrderStep) → IsFreshPair ns ms branch (IsListed pairs) step → IsOrder ms branch step
  listed_order ms step h =
      let k = (denied.each (h.left, h.right)).0 h.is_pair.among in
      let stands : Stands branch (NotFormula (EqFormula (term_at ns h.left) (term_at ns h.right))) = record { position = k.position; says = k.at.sides.says } in
      record {
        formula = trichotomy_axiom (term_at ns h.left) (term_at ns h.right);
        numbered = h.is_step.numbered;
        due = order_due branch (term_at ns h.left) (term_at ns h.right) step.generation (inr stands) k.at.numbers h.is_step.fresh h.is_step.generations;
      }

  -- a pair of terms by their numbers
  at_numbers : (t u : TermData) → IsTerm branch t → IsTerm branch u → (P : TermData → TermData → Type 0) → P t u → ((i j : ℕ) → IsBranchTerm ns branch i → IsBranchTerm ns branch j → P (term_at ns i) (term_at ns j) → ⊥) → ⊥
  at_numbers t u ht hu P h none =
      let i = term_number ns one d over t ht in
      let j = term_number ns one d over u hu in
      let t_is : t ≡ term_at ns i.number = sym (ap term_in i.is) in
      let u_is : u ≡ term_at ns j.number = sym (ap term_in j.is) in
      none i.number j.number i.term j.term (subst (λ x. P x (term_at ns j.number)) t_is (subst (P t) u_is h))

  pub none_left : NoneFresh ns branch (IsListed pairs) → NoneFresh ns branch (IsInGroup all lists) → NoOrder branch
  none_left no_listed no_grouped = no_order branch go
    where
      go : (t u : TermData) → AsksDecision branch t u → AreNumbers branch t u → IsFresh branch t u → ⊥
      go t u (inl h) numbers fresh =
          at_numbers t u h.is_term h.is_other_term (λ x y. AreIndexes branch x y × AreNumbers branch x y × IsFresh branch x y) (h, numbers, fresh)
          (λ i j s r k. no_grouped.none i j ((positions.each i j).1 (record { left = s; right = r; indexes = k.0; numbers = k.1 })) k.2)
      go t u (inr h) numbers fresh =
          at_numbers t u (left_stands branch t u h) (right_stands branch t u h) (λ x y. Stands branch (NotFormula (EqFormula x y)) × AreNumbers branch x y × IsFresh branch x y) (h, numbers, fresh)
          (λ i j s r k. no_listed.none i j (record { among = (denied.each (i, j)).1 (record { position = k.0.position; at = record { sides = record { left = s; right = r; says = k.0.says }; numbers = k.1 } }) }) k.2)

  -- ---- results in an extended pool

  pub first_answer : (ks : List Node) (grown : Extends ns ks) (step : OrderStep) → IsFreshPair ns ks branch (IsListed pairs) step → IsOrder ks (branch_in ks d) step
  first_answer ks grown step h = subst (λ b. IsOrder ks b step) (sym (branch_grown ns ks grown d over)) (listed_order ks step h)

  pub last_answer : {E : Type 0} (ms ks : List Node) (grown : Extends ns ms) (wider : Extends ms ks) → NoneFresh ns branch (IsListed pairs) → (r : Result (Option OrderStep) E) → IfOk r (λ found. MatchOption found (NoneFresh ms (branch_in ms d) (IsInGroup all lists)) (IsFreshPair ms ks (branch_in ms d) (IsInGroup all lists))) → IfOk r (λ found. MatchOption found (NoOrder (branch_in ks d)) (IsOrder ks (branch_in ks d)))
  last_answer ms ks grown wider none (Ok None) h = subst NoOrder (sym (branch_grown ns ks (extends_then grown wider) d over)) (none_left none (none_before ns ms grown d over (IsInGroup all lists) (groups_of_branch ns d over all lists positions) h))
  last_answer ms ks grown wider none (Ok (Some step)) h = subst (λ b. IsOrder ks b step) (sym (branch_grown ns ks (extends_then grown wider) d over)) (group_order ns d over all lists positions ks step (pair_before ns ms grown d over (IsInGroup all lists) ks step (groups_of_branch ns d over all lists positions) h))
  last_answer ms ks grown wider none (Err e) h = h
