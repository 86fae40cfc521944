-- The numbers on cycles are those that have a target with their own label.
use Rattle.std.proofs.Common.{◌≡◌, ◌↔◌, ℕ, ◌<◌, ◌≤◌, ◌+◌, inl, inr, List, [], ◌∷◌, ◌++◌, length, get_or, false, Option, None, refl, sym, ◌∙◌, ap, subst, arith}
use Rattle.std.specs.Prelude.{Contains}
use Rattle.std.specs.Bool.{IsTrue}
use Rattle.std.proofs.lemmas.Bool.{cases_eq}
use Rattle.std.proofs.lemmas.List.{get_or_read}
use Rattle.std.proofs.lemmas.List.Elements.{Contains-push, Contains-push_cases, Contains-append_left}
use Rattle.base.specs.declared.cycles.walk.Mark.{Mark}
use Rattle.base.specs.GraphReachability.{IsEdge, IsOnCycle, AreMirrored}
use Rattle.base.specs.Walking.{IsSeen, IsWalk}
use Rattle.base.specs.Labelling.{label, NoneIsOpen, IsLabelling}
use Rattle.base.proofs.EdgeLemmas.{edge_begins}
use Rattle.base.proofs.ReachLemmas.{targets_are}
use Rattle.base.proofs.CycleLemmas.{same_root, cycle_root}

-- one of these targets has the label of i
abbrev pub HasLabel : List ℕ → List (Option ℕ) → Option ℕ → Type 0
HasLabel targets labels own = (k : ℕ) × (k < length targets) × (label labels (get_or targets k 0) ≡ own)

module _ (graph sources : List (List ℕ)) (marks : List Mark) (order : List ℕ) (labels : List (Option ℕ)) (mirrored : AreMirrored graph sources) (walk : IsWalk graph marks order []) (seen : (i : ℕ) → i < length graph → IsSeen marks i) (labelling : IsLabelling sources order 0 labels [] NoneIsOpen) (i : ℕ) (targets : List ℕ) (are : targets ≡ get_or graph i []) (own : Option ℕ) (is : own ≡ label labels i) where
  pub has_cycle : HasLabel targets labels own → IsOnCycle graph i
  has_cycle h =
      let e : IsEdge graph i (get_or targets h.0 0) = subst (λ (xs : List ℕ). (k : ℕ) × (k < length xs) × (get_or xs k 0 ≡ get_or targets h.0 0)) are (h.0, h.1, refl) in
      (get_or targets h.0 0, e, same_root graph sources marks order labels mirrored walk seen labelling i (get_or targets h.0 0) e (h.2 ∙ is))

  pub cycle_has : IsOnCycle graph i → HasLabel targets labels own
  cycle_has o =
      let r = cycle_root graph sources marks order labels mirrored walk seen labelling i o.0 o.1 o.2 in
      let e = subst (λ (xs : List ℕ). (k : ℕ) × (k < length xs) × (get_or xs k 0 ≡ o.0)) (sym are) o.1 in
      (e.0, e.1, ap (λ (x : ℕ). label labels x) e.2 ∙ r ∙ sym is)

-- ---- the same for the values that the code reads

module _ (graph g sources : List (List ℕ)) (marks : List Mark) (order o : List ℕ) (labels ls : List (Option ℕ)) (same : g ≡ graph) (mirrored : AreMirrored graph sources) (walk : IsWalk g marks order []) (seen : (i : ℕ) → i < length g → IsSeen marks i) (ordered : o ≡ order) (labelling : IsLabelling sources o 0 labels [] NoneIsOpen) (valued : ls ≡ labels) (i : ℕ) (inside : i < length g) (read slice : List ℕ) (reads : read ≡ get_or g i read) (sliced : slice ≡ read) (own : Option ℕ) (owned : own ≡ get_or labels i own) where
  walk_read : IsWalk graph marks order []
  walk_read = subst (λ (x : List (List ℕ)). IsWalk x marks order []) same walk

  seen_read : (k : ℕ) → k < length graph → IsSeen marks k
  seen_read = subst (λ (x : List (List ℕ)). (k : ℕ) → k < length x → IsSeen marks k) same seen

  labelling_read : IsLabelling sources order 0 ls [] NoneIsOpen
  labelling_read =
      subst (λ (x : List (Option ℕ)). IsLabelling sources order 0 x [] NoneIsOpen) (sym valued)
      (subst (λ (x : List ℕ). IsLabelling sources x 0 labels [] NoneIsOpen) ordered labelling)

  slice_is : slice ≡ get_or graph i []
  slice_is = targets_are g i read slice inside reads sliced ∙ ap (λ (x : List (List ℕ)). get_or x i []) same

  own_is : own ≡ label ls i
  own_is =
      let long = labelling.long in
      let size = mirrored.same in
      let q = ap (λ (x : List (List ℕ)). length x) same in
      let within : i < length labels = omega arith in
      get_or_read labels i own within owned None ∙ ap (λ (x : List (Option ℕ)). label x i) (sym valued)

  pub read_cycle : HasLabel slice ls own → IsOnCycle graph i
  read_cycle = has_cycle graph sources marks order ls mirrored walk_read seen_read labelling_read i slice slice_is own own_is

  pub cycle_read : IsOnCycle graph i → HasLabel slice ls own
  cycle_read = cycle_has graph sources marks order ls mirrored walk_read seen_read labelling_read i slice slice_is own own_is

-- ---- the numbers that are found

module _ (graph : List (List ℕ)) (found : List ℕ) where
  -- the numbers below this one that are on a cycle are those that are found
  abbrev pub AreFound : ℕ → Type 0
  AreFound i = (j : ℕ) → Contains found j ↔ ((j < i) × IsOnCycle graph j)

  pub not_found : (i : ℕ) → ¬ IsOnCycle graph i → AreFound i → AreFound (i + 1)
  not_found i n h j = (
    λ c. (let o = (h j).0 c in let b = o.0 in (omega arith, o.1)),
    λ o. elim (cases_eq j i) [
      | inl e ↦ absurd (n (subst (λ (x : ℕ). IsOnCycle graph x) e o.1))
      | inr d ↦ (h j).1 (let b = o.0 in omega arith, o.1)
    ],
  )

  pub all_found : (i : ℕ) → length graph ≤ i → AreFound i → (j : ℕ) → Contains found j ↔ IsOnCycle graph j
  all_found i m h j = (
    λ c. ((h j).0 c).1,
    λ o. (h j).1 (let b = edge_begins graph j o.0 o.1 in omega arith, o),
  )

pub none_found : (graph : List (List ℕ)) → AreFound graph [] 0
none_found graph j = (λ c. (let b = c.1 in absurd (omega arith)), λ o. (let b = o.0 in absurd (omega arith)))

pub one_found : (graph : List (List ℕ)) (found : List ℕ) (i : ℕ) → IsOnCycle graph i → AreFound graph found i → AreFound graph (found ++ i ∷ []) (i + 1)
one_found graph found i on h j = (
  λ c. elim (Contains-push_cases found i j c) [
    | inl old ↦ (let o = (h j).0 old in let b = o.0 in (omega arith, o.1))
    | inr e ↦ (omega arith, subst (λ (x : ℕ). IsOnCycle graph x) e on)
  ],
  λ o. elim (cases_eq j i) [
    | inl e ↦ subst (λ (x : ℕ). Contains (found ++ i ∷ []) x) (sym e) (Contains-push found i)
    | inr d ↦ Contains-append_left found (i ∷ []) j ((h j).1 (let b = o.0 in omega arith, o.1))
  ],
)

-- ---- the cases of a test

pub not_true : IsTrue false → ⊥
not_true h = cc
