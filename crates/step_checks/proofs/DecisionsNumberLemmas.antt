-- Terms that entries state to be whole numbers, equations that they negate, and generations of two terms.
use Rattle.std.proofs.Common.{◌≡◌, ◌↔◌, ℕ, max, Bool, false, IsTrue, List, [], ◌∷◌, length, refl, sym, subst, arith}
use Rattle.base.specs.TypeData.{NumType}
use Rattle.fol.specs.declared.operators.Comparison.TheVariants.{Eq}
use Rattle.fol.specs.FormulaData.{TermData, FormulaData, EqFormula, IsFormula, NotFormula}
use Rattle.term_pool.specs.Items.{FormulaItem}
use Rattle.term_pool.specs.Pools.{HasParts, IsItem, IsMade, Extends}
use Rattle.term_pool.specs.declared.node.Leaf.TheVariants.{TypeNum}
use Rattle.term_pool.specs.declared.node.One.TheVariants.{Not}
use Rattle.term_pool.specs.declared.node.Two.TheVariants.{Compare, Is}
use Rattle.term_pool.specs.declared.node.Node.{Node}
use Rattle.term_pool.specs.declared.node.Node.TheVariants.{Leaf as LeafNode, One as OneNode, Two as TwoNode}
use Rattle.term_pool.proofs.GrowthLemmas.{item_stays, leaf_made, one_parts, one_made, one_is, two_parts, two_made, two_is}
use Rattle.certificates.specs.BranchesBranch.{Branch, Stands, IsTerm, IsGeneration}
use Rattle.certificates.specs.Decisions.{AreNumbers}
use Rattle.certificates.specs.Due.{AreGenerations, OfNone, OfMore}
use Rattle.tableau.specs.PoolBranches.{BranchData, branch_in, IsTermNumber, IsOver, IsNoTerm}
use Rattle.tableau.specs.Numbers.{formula_at, IsNumberOf}
use Rattle.tableau.proofs.NumberLemmas.{number_of_item}
use Rattle.tableau.specs.Terms.{term_at}
use Rattle.axiom_strategy.proofs.CutLemmas.{equation_parts}
use Rattle.axiom_strategy.proofs.GrownLemmas.{term_grown, branch_grown, stands_before, stands_after}
use Rattle.axiom_strategy.proofs.OrderLemmas.{triggered_item, two_generations}
use Rattle.step_checks.proofs.DecisionsTruthLemmas.{never, weaker}

-- ---- formulas on the branch, by their numbers in an extended pool

pub known_before : (ns ms : List Node) → Extends ns ms → (d : BranchData) → IsOver ns d → (p : FormulaData) (k : ℕ) → IsNumberOf ms p k → (known : Bool) → IsTrue known ↔ Stands (branch_in ms d) (formula_at ms k) → IsTrue known ↔ Stands (branch_in ns d) p
known_before ns ms grown d over p k number known h = weaker known (stands_before ns ms grown d over p k number) (stands_after ns ms grown d over p k number) h

-- ---- whole numbers

module _ (ns ms : List Node) (grown : Extends ns ms) (term of : ℕ) (t : IsTermNumber ns term) (made : IsMade ms of (LeafNode TypeNum)) where
  pub number_parts : HasParts ms (length ms) (TwoNode Is of term)
  number_parts = two_parts Is (leaf_made TypeNum made) (item_stays grown (triggered_item ns term t)) refl refl

  pub number_made : (os : List Node) → Extends ms os → (k : ℕ) → IsMade os k (TwoNode Is of term) → IsNumberOf os (IsFormula NumType (term_at ns term)) k
  number_made os further k m =
      number_of_item os (IsFormula NumType (term_at ns term)) k (two_is Is (leaf_made TypeNum made) (item_stays grown (triggered_item ns term t)) (two_made Is further number_parts m))

pub number_there : (ns ms : List Node) → Extends ns ms → (d : BranchData) → IsOver ns d → (n : ℕ) → IsTermNumber ns n → (known : Bool) → IsTrue known ↔ Stands (branch_in ms d) (IsFormula NumType (term_at ms n)) → IsTrue known ↔ Stands (branch_in ns d) (IsFormula NumType (term_at ns n))
number_there ns ms grown d over n number known h =
    subst (λ b. IsTrue known ↔ Stands b (IsFormula NumType (term_at ns n))) (branch_grown ns ms grown d over) (subst (λ t. IsTrue known ↔ Stands (branch_in ms d) (IsFormula NumType t)) (term_grown ns ms grown n number) h)

pub not_both : (b : Branch) (t u : TermData) (one : Bool) → one ≡ false → IsTrue one ↔ Stands b (IsFormula NumType t) → IsTrue false ↔ AreNumbers b t u
not_both b t u one e h = never (λ both. (let yes = h.1 both.left in absurd (cc)))

pub both_so : (b : Branch) (t u : TermData) → Stands b (IsFormula NumType t) → (known : Bool) → IsTrue known ↔ Stands b (IsFormula NumType u) → IsTrue known ↔ AreNumbers b t u
both_so b t u left known h = (λ yes. record { left = left; right = h.0 yes }, λ both. h.1 both.right)

-- ---- negated equations

module _ (ns ms : List Node) (grown : Extends ns ms) (i j k : ℕ) (s : IsTermNumber ns i) (t : IsTermNumber ns j) (made : IsMade ms k (TwoNode (Compare Eq) i j)) where
  equation_item : IsItem ms k (FormulaItem (EqFormula (term_at ns i) (term_at ns j)))
  equation_item = two_is (Compare Eq) (triggered_item ns i s) (triggered_item ns j t) (two_made (Compare Eq) grown (equation_parts ns i j s t) made)

  pub denial_parts : HasParts ms (length ms) (OneNode Not k)
  denial_parts = one_parts Not equation_item refl

  pub denial_made : (os : List Node) → Extends ms os → (m : ℕ) → IsMade os m (OneNode Not k) → IsNumberOf os (NotFormula (EqFormula (term_at ns i) (term_at ns j))) m
  denial_made os further m h = number_of_item os (NotFormula (EqFormula (term_at ns i) (term_at ns j))) m (one_is Not equation_item (one_made Not further denial_parts h))

-- ---- generations of two terms

record AreTwo (b : Branch) (t u : TermData) (g : ℕ) : Type 0 where
  one : ℕ
  other : ℕ
  one_is : IsGeneration b t one
  other_is : IsGeneration b u other
  greatest : g ≡ max one other

of_nothing : {b : Branch} {us : List TermData} {g : ℕ} → AreGenerations b us g → us ≡ [] → g ≡ 0
of_nothing OfNone e = refl
of_nothing (OfMore x xs g h p rest) e = absurd (cc)

of_one : {b : Branch} {us : List TermData} {g : ℕ} → AreGenerations b us g → (u : TermData) → us ≡ u ∷ [] → IsGeneration b u g
of_one OfNone u e = absurd (cc)
of_one {b} (OfMore x xs g h p rest) u e =
    let head : x ≡ u = cc in
    let tail : xs ≡ [] = cc in
    let zero : h ≡ 0 = of_nothing rest tail in
    let same : max g h ≡ g = omega (arith, zero) in
    subst (IsGeneration b u) (sym same) (subst (λ y. IsGeneration b y g) head p)

of_two : {b : Branch} {us : List TermData} {g : ℕ} → AreGenerations b us g → (t u : TermData) → us ≡ t ∷ u ∷ [] → AreTwo b t u g
of_two OfNone t u e = absurd (cc)
of_two {b} (OfMore x xs g h p rest) t u e =
    let head : x ≡ t = cc in
    let tail : xs ≡ u ∷ [] = cc in
    record { one = g; other = h; one_is = subst (λ y. IsGeneration b y g) head p; other_is = of_one rest u tail; greatest = refl }

one_generation : (b : Branch) (t : TermData) (g h : ℕ) → IsGeneration b t g → IsGeneration b t h → g ≡ h
one_generation b t g h is also = (let l = is.least h also.holds in let m = also.least g is.holds in omega (arith, l, m))

module _ (b : Branch) (t u : TermData) (g : ℕ) where
  pub left_nowhere : IsNoTerm b t → IsTrue false ↔ AreGenerations b (t ∷ u ∷ []) g
  left_nowhere none = never (λ h. (let two = of_two h t u refl in none.none (record { generation = two.one; holds = two.one_is.holds })))

  pub right_nowhere : IsNoTerm b u → IsTrue false ↔ AreGenerations b (t ∷ u ∷ []) g
  right_nowhere none = never (λ h. (let two = of_two h t u refl in none.none (record { generation = two.other; holds = two.other_is.holds })))

  pub greatest_so : (one other : ℕ) → IsGeneration b t one → IsGeneration b u other → (known : Bool) → IsTrue known ↔ (g ≡ max one other) → IsTrue known ↔ AreGenerations b (t ∷ u ∷ []) g
  greatest_so one other p q known h = (
    λ yes. subst (AreGenerations b (t ∷ u ∷ [])) (sym (h.0 yes)) (two_generations b t u one other p q),
    λ are. (
        let two = of_two are t u refl in
        let first = one_generation b t two.one one two.one_is p in
        let second = one_generation b u two.other other two.other_is q in
        let greatest = two.greatest in
        h.1 (omega (arith, first, second, greatest))),
  )

-- both terms are on the branch
pub two_stand : {b : Branch} {t u : TermData} {g : ℕ} → AreGenerations b (t ∷ u ∷ []) g → IsTerm b t × IsTerm b u
two_stand {b} {t} {u} {g} h =
    let two = of_two h t u refl in
    (record { generation = two.one; holds = two.one_is.holds }, record { generation = two.other; holds = two.other_is.holds })
