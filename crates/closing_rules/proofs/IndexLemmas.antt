-- One entry for each class, stored entry by entry.
use Rattle.std.proofs.Common.{◌≡◌, inl, inr, ℕ, ◌+◌, ◌<◌, ◌≤◌, Bool, true, false, cond, nat_eq, length, Option, Some, None, refl, sym, ap, ◌∙◌, subst, arith}
use Rattle.std.specs.Prelude.{slice_get}
use Rattle.std.proofs.lemmas.Bool.{cases_lt, eqb-true, eq-eqb}
use Rattle.std.proofs.lemmas.Option.{slice_get_within}
use Rattle.tableau.specs.PoolBranches.{BranchData}
use Rattle.tableau.specs.declared.entry.PoolEntry.{PoolEntry}
use Rattle.congruence_closure.specs.Known.{BranchClassesData, class_of}
use Rattle.closing_rules.specs.Indexes.{IsOfClass, HasEntry, AreEntriesBefore, AreEntriesByClass}

module _ (d : BranchData) (c : BranchClassesData) where
  pub entries_begun : (find : ℕ → Option ℕ) → ((k : ℕ) → find k ≡ None) → AreEntriesBefore d c 0 find
  entries_begun find none = record {
    right = λ class i f. absurd (let never : None ≡ Some i = sym (none class) ∙ f in cc);
    all = λ i e w f. absurd (omega (arith, w));
  }

  -- there is no such entry
  pub entries_same : (count : ℕ) (find : ℕ → Option ℕ) → slice_get d.entries count ≡ None → AreEntriesBefore d c count find → AreEntriesBefore d c (count + 1) find
  entries_same count find none h = record { right = h.right; all = all }
    where
      all : (i : ℕ) (e : PoolEntry) → i < count + 1 → slice_get d.entries i ≡ Some e → HasEntry find (class_of c e.formula)
      all i e w f = elim (cases_lt i count) [
        | inl l ↦ h.all i e l f
        | inr l ↦ absurd (
            let last : i ≡ count = omega (arith, w, l) in
            let never : None ≡ Some e = sym none ∙ ap (slice_get d.entries) (sym last) ∙ f in
            cc)
      ]

  pub entries_more : (count : ℕ) (find more : ℕ → Option ℕ) (e : PoolEntry) → slice_get d.entries count ≡ Some e → ((k : ℕ) → more k ≡ cond (nat_eq (class_of c e.formula) k) (Some count) (find k)) → AreEntriesBefore d c count find → AreEntriesBefore d c (count + 1) more
  entries_more count find more e found is h = record { right = λ class i f. right class i (nat_eq (class_of c e.formula) class) refl (sym (is class) ∙ f); all = all }
    where
      right : (class i : ℕ) (t : Bool) → nat_eq (class_of c e.formula) class ≡ t → cond t (Some count) (find class) ≡ Some i → IsOfClass d c class i
      right class i true q f =
          let same : count ≡ i = cc in
          subst (IsOfClass d c class) same (record { entry = e; found = found; is = eqb-true (class_of c e.formula) class q })
      right class i false q f = h.right class i f

      kept : (class : ℕ) → HasEntry find class → (t : Bool) → nat_eq (class_of c e.formula) class ≡ t → HasEntry more class
      kept class o true q = record { entry = count; found = is class ∙ ap (λ t. cond t (Some count) (find class)) q }
      kept class o false q = record { entry = o.entry; found = is class ∙ ap (λ t. cond t (Some count) (find class)) q ∙ o.found }

      new : HasEntry more (class_of c e.formula)
      new = record { entry = count; found = is (class_of c e.formula) ∙ ap (λ t. cond t (Some count) (find (class_of c e.formula))) (eq-eqb (class_of c e.formula) (class_of c e.formula) refl) }

      all : (i : ℕ) (o : PoolEntry) → i < count + 1 → slice_get d.entries i ≡ Some o → HasEntry more (class_of c o.formula)
      all i o w f = elim (cases_lt i count) [
        | inl l ↦ kept (class_of c o.formula) (h.all i o l f) (nat_eq (class_of c e.formula) (class_of c o.formula)) refl
        | inr l ↦ (
            let last : count ≡ i = omega (arith, w, l) in
            let both : Some e ≡ Some o = sym found ∙ ap (slice_get d.entries) last ∙ f in
            let same : e ≡ o = cc in
            subst (λ (x : PoolEntry). HasEntry more (class_of c x.formula)) same new)
      ]

  pub entries_done : (count : ℕ) (find : ℕ → Option ℕ) → length d.entries ≤ count → AreEntriesBefore d c count find → AreEntriesByClass d c find
  entries_done count find w h = record {
    right = h.right;
    all = λ i e f. h.all i e (let l = slice_get_within d.entries i e f in omega (arith, l, w)) f;
  }
