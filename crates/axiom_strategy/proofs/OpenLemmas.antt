-- Pairs of terms visited one after another.
use Rattle.std.proofs.Common.{◌≡◌, inl, inr, ◌↔◌, ℕ, ◌<◌, Bool, true, false, not, List, [], ◌∷◌, ◌++◌, length, get_or, refl, sym, subst, arith}
use Rattle.std.specs.Prelude.{Contains, All, IsTrue}
use Rattle.std.proofs.lemmas.List.Elements.{Contains-push_cases, Contains-get_or}
use Rattle.base.specs.Lists.{list_in}
use Rattle.congruence_closure.specs.Known.{BranchClassesData, class_of}
use Rattle.axiom_strategy.specs.Numbers.{AreBothMarked}
use Rattle.axiom_strategy.specs.Positions.{at_group}
use Rattle.axiom_strategy.specs.Cuts.{IsDeniedEither, IsOpen, NoneOpenWith, IsOpenWith, NoOpenPair, IsOpenPair, IsKnownBelow, AreAllKnown}
use Rattle.axiom_strategy.specs.declared.decisions.positions.Position.{Position}

module _ (c : BranchClassesData) (marks : List Bool) (denied : List (ℕ × ℕ)) where
  -- ---- of two terms

  pub open_answer : (t u : ℕ) (both : Bool) → (class_of c t ≡ class_of c u → ⊥) → (IsDeniedEither denied (class_of c t) (class_of c u) → ⊥) → IsTrue both ↔ AreBothMarked marks t u → IsTrue (not both) ↔ IsOpen c marks denied t u
  open_answer t u true apart not_denied h = (λ e. absurd (cc), λ o. absurd (o.not_both (h.0 refl)))
  open_answer t u false apart not_denied h = (λ e. record { apart = apart; not_denied = not_denied; not_both = λ m. (let never : false ≡ true = h.1 m in absurd (cc)) }, λ o. refl)

  -- ---- with others

  pub none_begun : (t : ℕ) → NoneOpenWith c marks denied t []
  none_begun t = record { none = λ u h. absurd (let w = h.1 in omega (arith, w)) }

  pub none_more : (t u : ℕ) (others : List ℕ) → NoneOpenWith c marks denied t others → (IsOpen c marks denied t u → ⊥) → NoneOpenWith c marks denied t (others ++ u ∷ [])
  none_more t u others h not = record { none = λ v m o. elim (Contains-push_cases others u v m) [ inl p ↦ h.none v p o | inr p ↦ not (subst (IsOpen c marks denied t) (sym p) o) ] }

  -- ---- index terms

  module _ (lists : List (ℕ × List ℕ)) where
    -- none of these index terms is in such a pair
    pub record NoneOpenAt (positions : List Position) : Type 0 where
      pub none : (p : Position) → Contains positions p → NoneOpenWith c marks denied p.term (list_in lists p.group)

    pub positions_begun : NoneOpenAt []
    positions_begun = record { none = λ p h. absurd (let w = h.1 in omega (arith, w)) }

    pub positions_more : (positions : List Position) (p : Position) → NoneOpenAt positions → NoneOpenWith c marks denied p.term (list_in lists p.group) → NoneOpenAt (positions ++ p ∷ [])
    positions_more positions p h none = record { none = λ q m. elim (Contains-push_cases positions p q m) [ inl o ↦ h.none q o | inr o ↦ subst (λ (x : Position). NoneOpenWith c marks denied x.term (list_in lists x.group)) o none ] }

    pub positions_done : (positions : List Position) → NoneOpenAt positions → NoOpenPair c marks denied positions lists
    positions_done positions h = record { none = λ g t u m n o. (h.none (at_group g t) m).none u n o }

    pub position_opens : (positions : List Position) (i : ℕ) (d : Position) (u : ℕ) → i < length positions → IsOpenWith c marks denied (get_or positions i d).term (list_in lists (get_or positions i d).group) u → IsOpenPair c marks denied positions lists ((get_or positions i d).term, u)
    position_opens positions i d u w h = record { group = (get_or positions i d).group; one = Contains-get_or positions i d w; other = h.among; is_open = h.is_open }

-- ---- facts about all index terms

pub position_known : (c : BranchClassesData) (count : ℕ) (all : List Position) (lists : List (ℕ × List ℕ)) → AreAllKnown c count all lists → (i : ℕ) (d : Position) → i < length all → IsKnownBelow c count (get_or all i d).term
position_known c count all lists h i d w = h.positions (get_or all i d).group (get_or all i d).term (Contains-get_or all i d w)

pub others_known : (c : BranchClassesData) (count : ℕ) (all : List Position) (lists : List (ℕ × List ℕ)) → AreAllKnown c count all lists → (group : ℕ) → All (IsKnownBelow c count) (list_in lists group)
others_known c count all lists h group = λ i d w. h.by_group group (get_or (list_in lists group) i d) (Contains-get_or (list_in lists group) i d w)
