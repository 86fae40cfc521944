-- Equations that entries negate, up to congruence.
use Rattle.std.proofs.Common.{◌≡◌, ◌↔◌, ◌⊎◌, inl, inr, ℕ, ◌+◌, ◌<◌, ◌≤◌, Bool, false, IsTrue, List, length, sym, subst, arith}
use Rattle.std.proofs.lemmas.Bool.{cases_lt}
use Rattle.term_pool.specs.Pools.{IsOneNumber}
use Rattle.term_pool.specs.declared.node.Node.{Node}
use Rattle.certificates.specs.BranchesBranch.{Branch}
use Rattle.certificates.specs.Decisions.{IsDenied}
use Rattle.tableau.specs.PoolBranches.{BranchData, branch_in, IsOver}
use Rattle.congruence_closure.specs.Known.{BranchClassesData, class_of, AreExact}
use Rattle.tableau.proofs.EntryLemmas.{says_within}
use Rattle.tableau.specs.Terms.{term_at, IsBranchTerm, AreClassesOf}
use Rattle.axiom_strategy.specs.Denials.{DeniesSides, DeniesNone, IsDeniedClass}
use Rattle.axiom_strategy.proofs.DenialLemmas.{same_sides, denied_by, turned_by, classes_denied}
use Rattle.step_checks.specs.Pairs.{DeniesClasses}
use Rattle.step_checks.proofs.DecisionsTruthLemmas.{never}

-- ---- one entry

-- the two numbers are these, in either order
abbrev pub AreThey : ℕ → ℕ → ℕ → ℕ → Type 0
AreThey x y one other = ((x ≡ one) × (y ≡ other)) ⊎ ((x ≡ other) × (y ≡ one))

module _ (ns : List Node) (b : Branch) (c : BranchClassesData) (i one other : ℕ) where
  pub denies_none : DeniesNone b i → IsTrue false ↔ DeniesClasses ns b c i one other
  denies_none none = never (λ h. none.none _ _ h.denies.says)

  pub denies_so : IsOneNumber ns → (p : ℕ × ℕ) → DeniesSides ns b i p → (x y : ℕ) → x ≡ class_of c p.0 → y ≡ class_of c p.1 → (known : Bool) → IsTrue known ↔ (((x ≡ one) × (y ≡ other)) ⊎ ((x ≡ other) × (y ≡ one))) → IsTrue known ↔ DeniesClasses ns b c i one other
  denies_so number p denies x y e f known h = (
    λ t. record { sides = p; denies = denies; are = subst (λ (z : ℕ). AreThey z (class_of c p.1) one other) e (subst (λ (z : ℕ). AreThey x z one other) f (h.0 t)) },
    λ d. (
        let same : d.sides ≡ p = same_sides ns number b i d.sides p d.denies denies in
        let are : AreThey (class_of c p.0) (class_of c p.1) one other = subst (λ (q : ℕ × ℕ). AreThey (class_of c q.0) (class_of c q.1) one other) same d.are in
        h.1 (subst (λ (z : ℕ). AreThey z y one other) (sym e) (subst (λ (z : ℕ). AreThey (class_of c p.0) z one other) (sym f) are))),
  )

-- ---- all entries

-- none of the first entries does
pub record NoneDenies (ns : List Node) (b : Branch) (c : BranchClassesData) (one other count : ℕ) : Type 0 where
  pub each : (i : ℕ) → i < count → DeniesClasses ns b c i one other → ⊥

module _ (ns : List Node) (b : Branch) (c : BranchClassesData) (one other : ℕ) where
  pub none_first : NoneDenies ns b c one other 0
  none_first = record { each = λ i w. absurd (omega (arith, w)) }

  pub none_next : (count : ℕ) → NoneDenies ns b c one other count → (DeniesClasses ns b c count one other → ⊥) → NoneDenies ns b c one other (count + 1)
  none_next count h none = record { each = λ i w. go i w (cases_lt i count) }
    where
      go : (i : ℕ) → i < count + 1 → (i < count) ⊎ (count ≤ i) → DeniesClasses ns b c i one other → ⊥
      go i w (inl l) d = h.each i l d
      go i w (inr l) d = (let at : i ≡ count = omega (arith, w, l) in none (subst (λ k. DeniesClasses ns b c k one other) at d))

module _ (ns : List Node) (number : IsOneNumber ns) (d : BranchData) (over : IsOver ns d) (c : BranchClassesData) (classes : AreClassesOf ns d c) (exact : AreExact c) (l r : ℕ) (s : IsBranchTerm ns (branch_in ns d) l) (t : IsBranchTerm ns (branch_in ns d) r) where
  by_classes : (i : ℕ) → DeniesClasses ns (branch_in ns d) c i (class_of c l) (class_of c r) → IsDenied (branch_in ns d) (term_at ns l) (term_at ns r)
  by_classes i h = elim h.are [
    | inl q ↦ denied_by ns number d over c classes exact l r s t (record { position = i; sides = h.sides; denies = h.denies; is_one = q.0; is_other = q.1 })
    | inr q ↦ turned_by ns number d over c classes exact l r s t (record { position = i; sides = h.sides; denies = h.denies; is_one = q.0; is_other = q.1 })
  ]

  pub denied_at : (i x y : ℕ) → x ≡ class_of c l → y ≡ class_of c r → DeniesClasses ns (branch_in ns d) c i x y → IsDenied (branch_in ns d) (term_at ns l) (term_at ns r)
  denied_at i x y e f h = by_classes i (subst (λ (z : ℕ). DeniesClasses ns (branch_in ns d) c i z (class_of c r)) e (subst (λ (z : ℕ). DeniesClasses ns (branch_in ns d) c i x z) f h))

  one_way : (x y count : ℕ) → length d.entries ≤ count → NoneDenies ns (branch_in ns d) c x y count → (h : IsDeniedClass ns (branch_in ns d) c x y) → ⊥
  one_way x y count w none h =
      none.each h.position (let within = says_within ns d h.position _ h.denies.says in omega (arith, w, within)) (record { sides = h.sides; denies = h.denies; are = inl (h.is_one, h.is_other) })

  other_way : (x y count : ℕ) → length d.entries ≤ count → NoneDenies ns (branch_in ns d) c x y count → (h : IsDeniedClass ns (branch_in ns d) c y x) → ⊥
  other_way x y count w none h =
      none.each h.position (let within = says_within ns d h.position _ h.denies.says in omega (arith, w, within)) (record { sides = h.sides; denies = h.denies; are = inr (h.is_one, h.is_other) })

  pub none_denied : (x y count : ℕ) → x ≡ class_of c l → y ≡ class_of c r → length d.entries ≤ count → NoneDenies ns (branch_in ns d) c x y count → IsDenied (branch_in ns d) (term_at ns l) (term_at ns r) → ⊥
  none_denied x y count e f w none h =
      let so = subst (λ (z : ℕ). NoneDenies ns (branch_in ns d) c z (class_of c r) count) e (subst (λ (z : ℕ). NoneDenies ns (branch_in ns d) c x z count) f none) in
      elim (classes_denied ns number d over c classes exact l r s t h) [
        | inl q ↦ one_way (class_of c l) (class_of c r) count w so q
        | inr q ↦ other_way (class_of c l) (class_of c r) count w so q
      ]
