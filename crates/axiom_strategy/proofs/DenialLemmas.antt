-- Equations that entries negate, up to classes.
use Rattle.std.proofs.Common.{◌≡◌, ◌⊎◌, inl, inr, ℕ, ◌+◌, ◌<◌, ◌≤◌, false, List, [], length, Option, Some, None, refl, sym, ap, ◌∙◌, subst, arith}
use Rattle.std.specs.Prelude.{slice_get, Contains, MatchOption}
use Rattle.std.proofs.lemmas.Bool.{cases_lt}
use Rattle.std.proofs.lemmas.List.Elements.{All-nil}
use Rattle.fol.specs.declared.operators.Comparison.TheVariants.{Eq}
use Rattle.fol.specs.FormulaData.{TermData, FormulaData, CompareFormula, EqFormula, NotFormula}
use Rattle.substitution.specs.Free.{free_in_term}
use Rattle.term_pool.specs.Items.{term_in}
use Rattle.term_pool.specs.Pools.{IsOneNumber}
use Rattle.term_pool.specs.declared.node.Node.{Node}
use Rattle.base.specs.KeyedPairs.{AreMore}
use Rattle.certificates.specs.BranchesParts.{IsInFormula, Itself, InLeft, InRight, InDenied}
use Rattle.certificates.specs.BranchesBranch.{Branch, Says, Stands, IsTerm}
use Rattle.certificates.specs.Joined.{Joined, IsAlike, OfOneClass, Compared}
use Rattle.certificates.specs.Decisions.{IsDenied}
use Rattle.tableau.specs.PoolBranches.{BranchData, branch_in, IsOver}
use Rattle.tableau.specs.declared.entry.PoolEntry.{PoolEntry}
use Rattle.congruence_closure.specs.Known.{BranchClassesData, class_of, AreExact}
use Rattle.congruence_closure.proofs.AlikeLemmas.{joined_alike}
use Rattle.tableau.specs.Numbers.{formula_at}
use Rattle.tableau.proofs.EntryLemmas.{entry_says, said_is, says_within}
use Rattle.tableau.specs.Terms.{term_at, IsBranchTerm, AreClassesOf}
use Rattle.tableau.proofs.BranchLemmas.{term_number}
use Rattle.tableau.proofs.NearLemmas.{joined_of_class, class_of_joined}
use Rattle.axiom_strategy.specs.Denials.{AreSidesDenied, DeniesSides, DeniesNone, IsDeniedClass, AreDenied}
use Rattle.axiom_strategy.proofs.NumberLemmas.{says_one, past_says, same_term}

-- the sides of a negated equation are terms of the branch
pub left_stands : (b : Branch) (t u : TermData) → Stands b (NotFormula (EqFormula t u)) → IsTerm b t
left_stands b t u h = record { generation = h.says.entry.generation; holds = record { position = h.position; entry = h.says.entry; found = h.says.found; inside = subst (λ p. IsInFormula t p) (sym h.says.is) (InDenied (EqFormula t u) (InLeft Eq t u Itself)); same = refl } }

pub right_stands : (b : Branch) (t u : TermData) → Stands b (NotFormula (EqFormula t u)) → IsTerm b u
right_stands b t u h = record { generation = h.says.entry.generation; holds = record { position = h.position; entry = h.says.entry; found = h.says.found; inside = subst (λ p. IsInFormula u p) (sym h.says.is) (InDenied (EqFormula t u) (InRight Eq t u Itself)); same = refl } }

-- an equation up to classes
record AreSidesJoined (b : Branch) (p : FormulaData) (t u : TermData) : Type 0 where
  one : TermData
  other : TermData
  is : p ≡ EqFormula one other
  left : Joined b one t
  right : Joined b other u

sides_joined : (b : Branch) (p q : FormulaData) → IsAlike b [] p q → (t u : TermData) → q ≡ EqFormula t u → AreSidesJoined b p t u
sides_joined b _ _ (Compared _ o v w x y h k) t u e =
    let head : o ≡ Eq = cc in
    let left : x ≡ t = cc in
    let right : y ≡ u = cc in
    record { one = v; other = w; is = ap (λ r. CompareFormula r v w) head; left = subst (Joined b v) left (joined_alike b v x h); right = subst (Joined b w) right (joined_alike b w y k) }
sides_joined b _ _ _ t u e = absurd (cc)

pub equation_alike : (b : Branch) (v w t u : TermData) → Joined b v t → Joined b w u → IsAlike b [] (EqFormula v w) (EqFormula t u)
equation_alike b v w t u h k =
    Compared [] Eq v w t u (OfOneClass [] v t (All-nil (λ n. free_in_term n v ≡ false)) (All-nil (λ n. free_in_term n t ≡ false)) h) (OfOneClass [] w u (All-nil (λ n. free_in_term n w ≡ false)) (All-nil (λ n. free_in_term n u ≡ false)) k)

-- ---- the equation that one entry negates

pub past_denies : (ns : List Node) (d : BranchData) (i : ℕ) → slice_get d.entries i ≡ None → DeniesNone (branch_in ns d) i
past_denies ns d i none = record { none = λ t u h. past_says ns d i (NotFormula (EqFormula t u)) none h }

pub entry_denies : (ns : List Node) (d : BranchData) (i : ℕ) (e : PoolEntry) → slice_get d.entries i ≡ Some e → (o : Option (ℕ × ℕ)) → MatchOption o ((t u : TermData) → formula_at ns e.formula ≡ NotFormula (EqFormula t u) → ⊥) (AreSidesDenied ns e.formula) → MatchOption o (DeniesNone (branch_in ns d) i) (DeniesSides ns (branch_in ns d) i)
entry_denies ns d i e found None h = record { none = λ t u k. h t u (sym (said_is ns d i e (NotFormula (EqFormula t u)) found k)) }
entry_denies ns d i e found (Some p) h =
    let says : Says (branch_in ns d) i (NotFormula (EqFormula (term_at ns p.0) (term_at ns p.1))) = subst (Says (branch_in ns d) i) h.is (entry_says ns d i e found) in
    let stands : Stands (branch_in ns d) (NotFormula (EqFormula (term_at ns p.0) (term_at ns p.1))) = record { position = i; says = says } in
    record {
      left = record { number = h.left; stands = left_stands (branch_in ns d) (term_at ns p.0) (term_at ns p.1) stands };
      right = record { number = h.right; stands = right_stands (branch_in ns d) (term_at ns p.0) (term_at ns p.1) stands };
      says = says;
    }

-- an entry negates at most one equation
pub same_sides : (ns : List Node) (one : IsOneNumber ns) (b : Branch) (i : ℕ) (p q : ℕ × ℕ) → DeniesSides ns b i p → DeniesSides ns b i q → p ≡ q
same_sides ns one b i p q h k =
    let both : NotFormula (EqFormula (term_at ns p.0) (term_at ns p.1)) ≡ NotFormula (EqFormula (term_at ns q.0) (term_at ns q.1)) = says_one b i (NotFormula (EqFormula (term_at ns p.0) (term_at ns p.1))) (NotFormula (EqFormula (term_at ns q.0) (term_at ns q.1))) h.says k.says in
    let left : term_at ns p.0 ≡ term_at ns q.0 = cc in
    let right : term_at ns p.1 ≡ term_at ns q.1 = cc in
    let l : p.0 ≡ q.0 = same_term ns one p.0 q.0 h.left.number k.left.number left in
    let r : p.1 ≡ q.1 = same_term ns one p.1 q.1 h.right.number k.right.number right in
    λ z. (l z, r z)

-- ---- entry after entry

-- one of the first entries states that terms of these classes differ
pub record IsDeniedBefore (ns : List Node) (b : Branch) (c : BranchClassesData) (count one other : ℕ) : Type 0 where
  pub denied : IsDeniedClass ns b c one other
  pub before : denied.position < count

-- the last of them does
record IsDeniedLast (ns : List Node) (b : Branch) (c : BranchClassesData) (count one other : ℕ) : Type 0 where
  denied : IsDeniedClass ns b c one other
  last : denied.position ≡ count

pub record AreDeniedBefore (ns : List Node) (b : Branch) (c : BranchClassesData) (count : ℕ) (denied : List (ℕ × ℕ)) : Type 0 where
  pub are : (one other : ℕ) → Contains denied (one, other) → IsDeniedBefore ns b c count one other
  pub all : (one other : ℕ) → IsDeniedBefore ns b c count one other → Contains denied (one, other)

module _ (ns : List Node) (b : Branch) (c : BranchClassesData) where
  later : (count x y : ℕ) → IsDeniedBefore ns b c count x y → IsDeniedBefore ns b c (count + 1) x y
  later count x y h = record { denied = h.denied; before = (let w = h.before in omega (arith, w)) }

  -- by an earlier one, or by the last of them
  denied_cases : (count x y : ℕ) → IsDeniedBefore ns b c (count + 1) x y → IsDeniedBefore ns b c count x y ⊎ IsDeniedLast ns b c count x y
  denied_cases count x y h = elim (cases_lt h.denied.position count) [
    | inl w ↦ inl (record { denied = h.denied; before = w })
    | inr w ↦ inr (record { denied = h.denied; last = (let l = h.before in omega (arith, l, w)) })
  ]

  pub denied_begun : AreDeniedBefore ns b c 0 []
  denied_begun = record {
    are = λ x y h. absurd (let w = h.1 in omega (arith, w));
    all = λ x y h. absurd (let w = h.before in omega (arith, w));
  }

  pub denied_same : (count : ℕ) (denied : List (ℕ × ℕ)) → AreDeniedBefore ns b c count denied → DeniesNone b count → AreDeniedBefore ns b c (count + 1) denied
  denied_same count denied h none = record {
    are = λ x y m. later count x y (h.are x y m);
    all = λ x y s. elim (denied_cases count x y s) [ inl o ↦ h.all x y o | inr o ↦ absurd (none.none (term_at ns o.denied.sides.0) (term_at ns o.denied.sides.1) (subst (λ k. Says b k (NotFormula (EqFormula (term_at ns o.denied.sides.0) (term_at ns o.denied.sides.1)))) o.last o.denied.denies.says)) ];
  }

  module _ (one : IsOneNumber ns) where
    pub denied_more : (count : ℕ) (denied more : List (ℕ × ℕ)) (p : ℕ × ℕ) → AreDeniedBefore ns b c count denied → DeniesSides ns b count p → AreMore denied more (class_of c p.0, class_of c p.1) → AreDeniedBefore ns b c (count + 1) more
    denied_more count denied more p h denies added = record { are = are; all = all }
      where
        new : IsDeniedBefore ns b c (count + 1) (class_of c p.0) (class_of c p.1)
        new = record { denied = record { position = count; sides = p; denies = denies; is_one = refl; is_other = refl }; before = omega arith }

        are : (x y : ℕ) → Contains more (x, y) → IsDeniedBefore ns b c (count + 1) x y
        are x y m = elim (added.only (x, y) m) [
          | inl o ↦ later count x y (h.are x y o)
          | inr o ↦ (
              let left : class_of c p.0 ≡ x = ap (λ (q : ℕ × ℕ). q.0) (sym o) in
              let right : class_of c p.1 ≡ y = ap (λ (q : ℕ × ℕ). q.1) (sym o) in
              subst (λ k. IsDeniedBefore ns b c (count + 1) k y) left (subst (IsDeniedBefore ns b c (count + 1) (class_of c p.0)) right new))
        ]

        all : (x y : ℕ) → IsDeniedBefore ns b c (count + 1) x y → Contains more (x, y)
        all x y s = elim (denied_cases count x y s) [
          | inl o ↦ added.kept (x, y) (h.all x y o)
          | inr o ↦ (
              let same : p ≡ o.denied.sides = same_sides ns one b count p o.denied.sides denies (subst (λ k. DeniesSides ns b k o.denied.sides) o.last o.denied.denies) in
              let x_is : class_of c p.0 ≡ x = ap (λ (q : ℕ × ℕ). class_of c q.0) same ∙ o.denied.is_one in
              let y_is : class_of c p.1 ≡ y = ap (λ (q : ℕ × ℕ). class_of c q.1) same ∙ o.denied.is_other in
              subst (Contains more) (λ i. (x_is i, y_is i)) added.has)
        ]

pub denied_done : (ns : List Node) (d : BranchData) (c : BranchClassesData) (count : ℕ) (denied : List (ℕ × ℕ)) → length d.entries ≤ count → AreDeniedBefore ns (branch_in ns d) c count denied → AreDenied ns (branch_in ns d) c denied
denied_done ns d c count denied w h = record { each = λ x y. (λ m. (h.are x y m).denied, λ k. h.all x y (record { denied = k; before = (let l = says_within ns d k.position (NotFormula (EqFormula (term_at ns k.sides.0) (term_at ns k.sides.1))) k.denies.says in omega (arith, l, w)) })) }

module _ (ns : List Node) (one : IsOneNumber ns) (d : BranchData) (over : IsOver ns d) (c : BranchClassesData) (classes : AreClassesOf ns d c) where
  abbrev b : Branch
  b = branch_in ns d

  -- ---- negated up to classes

  module _ (exact : AreExact c) where
    stands_so : (x y : ℕ) (h : IsDeniedClass ns b c x y) → Stands b (NotFormula (EqFormula (term_at ns h.sides.0) (term_at ns h.sides.1)))
    stands_so x y h = record { position = h.position; says = h.denies.says }

    sides_are : (i j : ℕ) → IsBranchTerm ns b i → IsBranchTerm ns b j → (h : IsDeniedClass ns b c (class_of c i) (class_of c j)) → IsAlike b [] (EqFormula (term_at ns h.sides.0) (term_at ns h.sides.1)) (EqFormula (term_at ns i) (term_at ns j))
    sides_are i j s t h =
        equation_alike b (term_at ns h.sides.0) (term_at ns h.sides.1) (term_at ns i) (term_at ns j)
        (joined_of_class ns one d over c classes exact h.sides.0 i h.denies.left s h.is_one)
        (joined_of_class ns one d over c classes exact h.sides.1 j h.denies.right t h.is_other)

    pub denied_by : (i j : ℕ) → IsBranchTerm ns b i → IsBranchTerm ns b j → IsDeniedClass ns b c (class_of c i) (class_of c j) → IsDenied b (term_at ns i) (term_at ns j)
    denied_by i j s t h = record { formula = EqFormula (term_at ns h.sides.0) (term_at ns h.sides.1); stands = stands_so (class_of c i) (class_of c j) h; alike = inl (sides_are i j s t h) }

    pub turned_by : (i j : ℕ) → IsBranchTerm ns b i → IsBranchTerm ns b j → IsDeniedClass ns b c (class_of c j) (class_of c i) → IsDenied b (term_at ns i) (term_at ns j)
    turned_by i j s t h = record { formula = EqFormula (term_at ns h.sides.0) (term_at ns h.sides.1); stands = stands_so (class_of c j) (class_of c i) h; alike = inr (sides_are j i t s h) }

    of_sides : (i j : ℕ) → IsBranchTerm ns b i → IsBranchTerm ns b j → (p : FormulaData) → Stands b (NotFormula p) → AreSidesJoined b p (term_at ns i) (term_at ns j) → IsDeniedClass ns b c (class_of c i) (class_of c j)
    of_sides i j s t p stands h =
        let said : Stands b (NotFormula (EqFormula h.one h.other)) = subst (λ q. Stands b (NotFormula q)) h.is stands in
        let l = term_number ns one d over h.one (left_stands b h.one h.other said) in
        let r = term_number ns one d over h.other (right_stands b h.one h.other said) in
        let left : term_at ns l.number ≡ h.one = ap term_in l.is in
        let right : term_at ns r.number ≡ h.other = ap term_in r.is in
        record {
          position = said.position;
          sides = (l.number, r.number);
          denies = record {
            left = l.term;
            right = r.term;
            says = subst (λ x. Says b said.position (NotFormula (EqFormula x (term_at ns r.number)))) (sym left) (subst (λ x. Says b said.position (NotFormula (EqFormula h.one x))) (sym right) said.says);
          };
          is_one = class_of_joined ns one d over c classes exact l.number i l.term s (subst (λ x. Joined b x (term_at ns i)) (sym left) h.left);
          is_other = class_of_joined ns one d over c classes exact r.number j r.term t (subst (λ x. Joined b x (term_at ns j)) (sym right) h.right);
        }

    pub classes_denied : (i j : ℕ) → IsBranchTerm ns b i → IsBranchTerm ns b j → IsDenied b (term_at ns i) (term_at ns j) → IsDeniedClass ns b c (class_of c i) (class_of c j) ⊎ IsDeniedClass ns b c (class_of c j) (class_of c i)
    classes_denied i j s t h = go h.alike
      where
        go : IsAlike b [] h.formula (EqFormula (term_at ns i) (term_at ns j)) ⊎ IsAlike b [] h.formula (EqFormula (term_at ns j) (term_at ns i)) → IsDeniedClass ns b c (class_of c i) (class_of c j) ⊎ IsDeniedClass ns b c (class_of c j) (class_of c i)
        go (inl a) = inl (of_sides i j s t h.formula h.stands (sides_joined b h.formula (EqFormula (term_at ns i) (term_at ns j)) a (term_at ns i) (term_at ns j) refl))
        go (inr a) = inr (of_sides j i t s h.formula h.stands (sides_joined b h.formula (EqFormula (term_at ns j) (term_at ns i)) a (term_at ns j) (term_at ns i) refl))
