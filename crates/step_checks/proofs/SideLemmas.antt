-- The two numbers in an instance of the trichotomy axiom.
use Rattle.std.proofs.Common.{◌≡◌, ℕ, List, [], ◌∷◌, Option, sym, ap, ◌∙◌, subst}
use Rattle.std.specs.Prelude.{MatchOption}
use Rattle.base.specs.TypeData.{TypeData, NumType}
use Rattle.fol.specs.declared.operators.Junction.TheVariants.{AnyOf}
use Rattle.fol.specs.FormulaData.{TermData, SubTerm, FormulaData, EqFormula, LeFormula, IsFormula, NotFormula, JoinFormula, ConnectFormula, FormulasData, NoFormulas, MoreFormulas, formulas_of}
use Rattle.axioms.specs.Forms.{number}
use Rattle.term_pool.specs.Items.{sort_of, formulas_in}
use Rattle.term_pool.specs.Pools.{item_at}
use Rattle.term_pool.specs.Lists.{IsFirstFormula}
use Rattle.term_pool.specs.declared.node.Node.{Node}
use Rattle.certificates.specs.Due.{trichotomy_axiom}
use Rattle.tableau.specs.Numbers.{formula_at}
use Rattle.tableau.specs.Compounds.{HasNoConnective, IsCompound}
use Rattle.tableau.specs.declared.rules.compounds.Compound.{Compound}
use Rattle.tableau.specs.declared.rules.compounds.Compound.TheVariants.{Join, Not, Connect}
use Rattle.axiom_strategy.specs.Typings.{IsTyping, Gives, Denies, IsUntyped, IsTypingOf}
use Rattle.axiom_strategy.specs.declared.typings.Typing.{Typing}
use Rattle.step_checks.specs.Sides.{IsNotJoined, IsJoinedOf, list_in, HasFewer, AreFirstTwo, HasNoSides, AreSides}

-- ---- joined lists

pub no_connective : (p : FormulaData) → HasNoConnective p → IsNotJoined p
no_connective p h = record { none = λ o ps e. subst HasNoConnective e h }

module _ (ns : List Node) (p : FormulaData) where
  by_kind : (k : Compound) → IsCompound ns p k → MatchOption (list_in k) (IsNotJoined p) (IsJoinedOf ns p)
  by_kind (Join o list) h = record { operator = o; is = h }
  by_kind (Not inner) h = record { none = λ o ps e. (let both : NotFormula (formula_at ns inner) ≡ JoinFormula o ps = sym h.is ∙ e in absurd (cc)) }
  by_kind (Connect o l r) h = record { none = λ q ps e. (let both : ConnectFormula o (formula_at ns l) (formula_at ns r) ≡ JoinFormula q ps = sym h.is ∙ e in absurd (cc)) }

  pub joined_answer : (k : Compound) → IsCompound ns p k → (o : Option ℕ) → o ≡ list_in k → MatchOption o (IsNotJoined p) (IsJoinedOf ns p)
  joined_answer k h o e = subst (λ (x : Option ℕ). MatchOption x (IsNotJoined p) (IsJoinedOf ns p)) (sym e) (by_kind k h)

-- ---- the first two formulas of a list

pub none_first : (ps : FormulasData) → ps ≡ NoFormulas → HasFewer ps
none_first ps h = record { none = λ p q rest e. (let both : NoFormulas ≡ MoreFormulas p (MoreFormulas q rest) = sym h ∙ e in absurd (cc)) }

module _ (ns : List Node) (list : ℕ) (pair : ℕ × ℕ) (h : IsFirstFormula ns list pair) where
  pub none_second : formulas_in (item_at ns pair.1) ≡ NoFormulas → HasFewer (formulas_in (item_at ns list))
  none_second f = record {
    none = λ p q rest e. (
        let both : MoreFormulas (formula_at ns pair.0) (formulas_in (item_at ns pair.1)) ≡ MoreFormulas p (MoreFormulas q rest) = sym h.is ∙ e in
        let others : formulas_in (item_at ns pair.1) ≡ MoreFormulas q rest = cc in
        let never : NoFormulas ≡ MoreFormulas q rest = sym f ∙ others in
        absurd (cc));
  }

  pub first_two_are : (next : ℕ × ℕ) → IsFirstFormula ns pair.1 next → AreFirstTwo ns (formulas_in (item_at ns list)) (pair.0, next.0)
  first_two_are next g = record { rest = formulas_in (item_at ns next.1); is = h.is ∙ ap (MoreFormulas (formula_at ns pair.0)) g.is }

-- ---- sides

abbrev others : TermData → TermData → FormulasData
others t u = formulas_of (EqFormula t u ∷ LeFormula t (SubTerm u (number 1)) ∷ LeFormula u (SubTerm t (number 1)) ∷ [])

abbrev no_number : TermData → FormulaData
no_number t = NotFormula (IsFormula NumType t)

pub no_join : (p : FormulaData) → IsNotJoined p → HasNoSides p
no_join p h = record { none = λ t u e. h.none AnyOf (MoreFormulas (no_number t) (MoreFormulas (no_number u) (others t u))) e }

list_is : (ns : List Node) (p : FormulaData) (list : ℕ) → IsJoinedOf ns p list → (t u : TermData) → p ≡ trichotomy_axiom t u → formulas_in (item_at ns list) ≡ MoreFormulas (no_number t) (MoreFormulas (no_number u) (others t u))
list_is ns p list j t u e =
    let both : JoinFormula j.operator (formulas_in (item_at ns list)) ≡ JoinFormula AnyOf (MoreFormulas (no_number t) (MoreFormulas (no_number u) (others t u))) = sym j.is ∙ e in
    cc

pub fewer : (ns : List Node) (p : FormulaData) (list : ℕ) → IsJoinedOf ns p list → HasFewer (formulas_in (item_at ns list)) → HasNoSides p
fewer ns p list j h = record { none = λ t u e. h.none (no_number t) (no_number u) (others t u) (list_is ns p list j t u e) }

untyped : (q : FormulaData) → IsUntyped q → (t : TermData) → q ≡ NotFormula (IsFormula NumType t) → ⊥
untyped q h t e = h.none NumType t (subst (λ z. IsTyping z NumType t) (sym e) (Denies NumType t))

typing_term : {q : FormulaData} {a : TypeData} {x : TermData} → IsTyping q a x → (t : TermData) → q ≡ NotFormula (IsFormula NumType t) → x ≡ t
typing_term (Gives a x) t e = absurd (cc)
typing_term (Denies a x) t e = (let both : NotFormula (IsFormula a x) ≡ NotFormula (IsFormula NumType t) = e in cc)

module _ (ns : List Node) (p : FormulaData) (list : ℕ) (j : IsJoinedOf ns p list) (pair : ℕ × ℕ) (f : AreFirstTwo ns (formulas_in (item_at ns list)) pair) where
  heads : (t u : TermData) → p ≡ trichotomy_axiom t u → MoreFormulas (formula_at ns pair.0) (MoreFormulas (formula_at ns pair.1) f.rest) ≡ MoreFormulas (no_number t) (MoreFormulas (no_number u) (others t u))
  heads t u e = sym f.is ∙ list_is ns p list j t u e

  first_is : (t u : TermData) → p ≡ trichotomy_axiom t u → formula_at ns pair.0 ≡ NotFormula (IsFormula NumType t)
  first_is t u e = (let both = heads t u e in cc)

  second_is : (t u : TermData) → p ≡ trichotomy_axiom t u → formula_at ns pair.1 ≡ NotFormula (IsFormula NumType u)
  second_is t u e = (let both = heads t u e in cc)

  pub first_untyped : IsUntyped (formula_at ns pair.0) → HasNoSides p
  first_untyped h = record { none = λ t u e. untyped (formula_at ns pair.0) h t (first_is t u e) }

  pub second_untyped : IsUntyped (formula_at ns pair.1) → HasNoSides p
  second_untyped h = record { none = λ t u e. untyped (formula_at ns pair.1) h u (second_is t u e) }

  pub sides_are : (l r : Typing) → IsTypingOf ns (formula_at ns pair.0) l → IsTypingOf ns (formula_at ns pair.1) r → AreSides ns p (l.term, r.term)
  sides_are l r g h = record {
    left = record { within = g.term.within; sort = ap sort_of g.term.is };
    right = record { within = h.term.within; sort = ap sort_of h.term.is };
    only = λ t u e. (typing_term g.is t (first_is t u e), typing_term h.is u (second_is t u e));
  }
