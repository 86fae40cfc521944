-- Equations of a term with itself, by their nodes.
use Rattle.std.proofs.Common.{◌≡◌, ◌↔◌, ℕ, Bool, true, false, IsTrue, cond, nat_eq, List, Option, Some, None, refl, sym, ap, ◌∙◌, subst, arith}
use Rattle.std.specs.Prelude.{MatchOption}
use Rattle.std.proofs.lemmas.Bool.{eqb-true, eq-eqb}
use Rattle.std.proofs.lemmas.Option.{slice_get_within}
use Rattle.fol.specs.declared.operators.Comparison.TheVariants.{Eq}
use Rattle.fol.specs.FormulaData.{TermData, FormulaData, EqFormula}
use Rattle.axioms.specs.declared.axiom.Axiom.TheVariants.{Equal}
use Rattle.axioms.specs.declared.axiom.Equation.TheVariants.{Itself}
use Rattle.term_pool.specs.Items.{Item, TermItem, term_in, formula_in, leaf_item, one_item, two_item, three_item, first_of_two, second_of_two}
use Rattle.term_pool.specs.Pools.{item_at, IsMade, IsOneNumber}
use Rattle.term_pool.specs.declared.node.Leaf.{Leaf}
use Rattle.term_pool.specs.declared.node.Leaf.TheVariants.{Var}
use Rattle.term_pool.specs.declared.node.One.{One}
use Rattle.term_pool.specs.declared.node.One.TheVariants.{Unary}
use Rattle.term_pool.specs.declared.node.Two.{Two}
use Rattle.term_pool.specs.declared.node.Two.TheVariants.{Binary, Compare}
use Rattle.term_pool.specs.declared.node.Three.{Three}
use Rattle.term_pool.specs.declared.node.Three.TheVariants.{Ternary}
use Rattle.term_pool.specs.declared.node.Node.{Node}
use Rattle.term_pool.specs.declared.node.Node.TheVariants.{Leaf as LeafNode, One as OneNode, Two as TwoNode, Three as ThreeNode}
use Rattle.term_pool.proofs.ShapeLemmas.{a_term}
use Rattle.certificates.specs.BranchesBranch.{Branch}
use Rattle.certificates.specs.Inside.{StandsInside}
use Rattle.certificates.specs.ProofTraces.{IsItself}
use Rattle.tableau.specs.Numbers.{formula_at}
use Rattle.explanations.specs.Chains.{term_at}
use Rattle.step_checks.specs.Links.{both_sides, IsNotReflexive, IsReflexiveAt}
use Rattle.step_checks.proofs.ClosingsTruthLemmas.{never}

-- ---- nodes that are no equations

no_leaf : (h : Leaf) (t u : TermData) → formula_in (leaf_item h) ≡ EqFormula t u → ⊥
no_leaf (Var n) t u e = cc
no_leaf h t u e = cc

no_one : (h : One) (x : Item) (t u : TermData) → formula_in (one_item h x) ≡ EqFormula t u → ⊥
no_one (Unary o) x t u e = cc
no_one h x t u e = cc

no_three : (h : Three) (x y z : Item) (t u : TermData) → formula_in (three_item h x y z) ≡ EqFormula t u → ⊥
no_three (Ternary o) x y z t u e = cc
no_three h x y z t u e = cc

record IsEquation (h : Two) (x y : Item) (t u : TermData) : Type 0 where
  head : h ≡ Compare Eq
  left : term_in x ≡ t
  right : term_in y ≡ u

an_equation : (h : Two) (x y : Item) (t u : TermData) → formula_in (two_item h x y) ≡ EqFormula t u → IsEquation h x y t u
an_equation (Compare o) x y t u e = record { head = ap Compare (cc); left = cc; right = cc }
an_equation (Binary o) x y t u e = absurd (cc)
an_equation h x y t u e = absurd (cc)

-- ---- the term on both sides

module _ (ns : List Node) (one : IsOneNumber ns) (n : ℕ) where
  -- parts that are one term have one number
  one_part : (h : Two) (a b : ℕ) → IsMade ns n (TwoNode h a b) → (t : TermData) → IsEquation h (item_at ns a) (item_at ns b) t t → a ≡ b
  one_part h a b made t e =
      let w = slice_get_within ns n (TwoNode h a b) made.found in
      let l = made.parts.0.earlier in
      let r = made.parts.1.earlier in
      let left : TermItem t ≡ item_at ns a = ap TermItem (sym e.left) ∙ a_term (item_at ns a) (made.parts.0.sort ∙ ap first_of_two e.head) in
      let right : TermItem t ≡ item_at ns b = ap TermItem (sym e.right) ∙ a_term (item_at ns b) (made.parts.1.sort ∙ ap second_of_two e.head) in
      one.one a b (omega (arith, w, l)) (omega (arith, w, r)) (sym left ∙ right)

  not_reflexive : (node : Node) → IsMade ns n node → None ≡ both_sides node → (t : TermData) → formula_at ns n ≡ EqFormula t t → ⊥
  not_reflexive (LeafNode h) made none t e = no_leaf h t t (ap formula_in (sym made.item) ∙ e)
  not_reflexive (OneNode h a) made none t e = no_one h (item_at ns a) t t (ap formula_in (sym made.item) ∙ e)
  not_reflexive (TwoNode h a b) made none t e =
      let is = an_equation h (item_at ns a) (item_at ns b) t t (ap formula_in (sym made.item) ∙ e) in
      let same : nat_eq a b ≡ true = eq-eqb a b (one_part h a b made t is) in
      let never : None ≡ Some a = none ∙ ap (λ k. both_sides (TwoNode k a b)) is.head ∙ ap (λ v. cond v (Some a) None) same in
      cc
  not_reflexive (ThreeNode h a b c) made none t e = no_three h (item_at ns a) (item_at ns b) (item_at ns c) t t (ap formula_in (sym made.item) ∙ e)

  reflexive : (node : Node) → IsMade ns n node → (m : ℕ) → Some m ≡ both_sides node → IsReflexiveAt ns (formula_at ns n) m
  reflexive (TwoNode (Compare Eq) a b) made m some = go (nat_eq a b) refl some
    where
      go : (v : Bool) → nat_eq a b ≡ v → Some m ≡ cond v (Some a) None → IsReflexiveAt ns (formula_at ns n) m
      go true e s =
          let w = slice_get_within ns n (TwoNode (Compare Eq) a b) made.found in
          let l = made.parts.0.earlier in
          let first : a ≡ m = cc in
          let both : b ≡ a = sym (eqb-true a b e) in
          subst (IsReflexiveAt ns (formula_at ns n)) first (record {
            number = record { within = omega (arith, w, l); sort = made.parts.0.sort };
            is = ap formula_in made.item ∙ ap (λ k. EqFormula (term_at ns a) (term_at ns k)) both;
          })
      go false e s = absurd (cc)
  reflexive (TwoNode _ a b) made m some = absurd (cc)
  reflexive (LeafNode h) made m some = absurd (cc)
  reflexive (OneNode h a) made m some = absurd (cc)
  reflexive (ThreeNode h a b c) made m some = absurd (cc)

  pub reflexive_answer : (node : Node) → IsMade ns n node → (o : Option ℕ) → o ≡ both_sides node → MatchOption o (IsNotReflexive (formula_at ns n)) (IsReflexiveAt ns (formula_at ns n))
  reflexive_answer node made None e = record { none = not_reflexive node made e }
  reflexive_answer node made (Some m) e = reflexive node made m e

-- ---- whether the term occurs in an entry

pub not_itself : (b : Branch) (p : FormulaData) → IsNotReflexive p → IsTrue false ↔ IsItself b (Equal Itself) p
not_itself b p h = never (λ is. h.none is.term is.is)

-- given whether the term occurs
pub itself_given : (ns : List Node) (b : Branch) (p : FormulaData) (n : ℕ) → IsReflexiveAt ns p n → (known : Bool) → IsTrue known ↔ StandsInside b (term_at ns n) → IsTrue known ↔ IsItself b (Equal Itself) p
itself_given ns b p n r known h = (
  λ yes. record { is_axiom = refl; term = term_at ns n; stands = h.0 yes; is = r.is },
  λ is. h.1 (
      let both : EqFormula is.term is.term ≡ EqFormula (term_at ns n) (term_at ns n) = sym is.is ∙ r.is in
      let same : is.term ≡ term_at ns n = cc in
      subst (StandsInside b) same is.stands),
)
