-- Clashes at one entry, and their absence.
use Rattle.std.proofs.Common.{◌≡◌, ◌↔◌, inl, inr, ℕ, ◌+◌, ◌≤◌, Bool, false, List, [], length, Option, Some, None, refl, sym, ap, ◌∙◌, subst, arith, below_more}
use Rattle.std.specs.Prelude.{slice_get, IsTrue}
use Rattle.std.proofs.lemmas.Bool.{eqb-true, eq-eqb}
use Rattle.fol.specs.FormulaData.{TermData, FormulaData, EqFormula, NotFormula}
use Rattle.axioms.specs.Forms.{DifferFormula}
use Rattle.certificates.specs.Closes.{IsFalseForm}
use Rattle.term_pool.specs.Items.{FormulaItem}
use Rattle.term_pool.specs.Pools.{item_at, IsOneNumber}
use Rattle.term_pool.specs.declared.node.One.TheVariants.{Not}
use Rattle.term_pool.specs.declared.node.Two.TheVariants.{Compare}
use Rattle.fol.specs.declared.operators.Comparison.TheVariants.{Eq}
use Rattle.term_pool.specs.declared.node.Node.{Node}
use Rattle.term_pool.specs.declared.node.Node.TheVariants.{One as OneNode, Two as TwoNode}
use Rattle.term_pool.proofs.ShapeLemmas.{a_formula}
use Rattle.certificates.specs.BranchesBranch.{Branch, Says, Stands}
use Rattle.certificates.specs.Joined.{Joined, IsAlike}
use Rattle.certificates.specs.Due.{IsNotClosed}
use Rattle.tableau.specs.PoolBranches.{BranchData, branch_in, IsFormulaNumber, IsOver}
use Rattle.tableau.specs.declared.entry.PoolEntry.{PoolEntry}
use Rattle.tableau.proofs.AnswerLemmas.{stored}
use Rattle.congruence_closure.specs.Known.{BranchClassesData, IsKnown, class_of, TellsJoined, AreExact}
use Rattle.congruence_closure.proofs.OverLemmas.{part_known}
use Rattle.tableau.specs.Numbers.{formula_at}
use Rattle.tableau.proofs.EntryLemmas.{entry_says, said_is, says_within}
use Rattle.tableau.specs.Terms.{term_at, AreClassesOf}
use Rattle.tableau.proofs.BranchLemmas.{entries_of, entry_known}
use Rattle.closing_rules.specs.Clashes.{AreOpposed, EquatesJoined, DeniesJoined, IsFalseEntry, IsNotClosedAt, IsNotClosedBefore}
use Rattle.term_pool.specs.Forms.{IsNoDenial, IsDenialOf, IsNoEquation, IsEquationOf}
use Rattle.closing_rules.specs.Indexes.{AreKnownEntries, AreEntriesByClass}
use Rattle.closing_rules.proofs.FormLemmas.{denial_is, denial_number, equation_is, left_number, right_number, item_of_number}

-- a number past the entries states nothing
pub past_says : (ns : List Node) (d : BranchData) (i : ℕ) (p : FormulaData) → None ≡ slice_get d.entries i → Says (branch_in ns d) i p → ⊥
past_says ns d i p none h =
    let it = stored ns d.entries i h.entry h.found in
    let never : None ≡ Some it.entry = none ∙ it.found in
    cc

-- an entry by its number
pub record IsPresent (ns : List Node) (d : BranchData) (i : ℕ) (p : FormulaData) : Type 0 where
  pub entry : PoolEntry
  pub found : slice_get d.entries i ≡ Some entry
  pub is : formula_at ns entry.formula ≡ p

pub present : (ns : List Node) (d : BranchData) (i : ℕ) (p : FormulaData) → Says (branch_in ns d) i p → IsPresent ns d i p
present ns d i p h =
    let it = stored ns d.entries i h.entry h.found in
    record { entry = it.entry; found = it.found; is = sym (said_is ns d i it.entry p it.found h) }

-- the item of the formula with this number
pub formula_item : (ns : List Node) (n : ℕ) (p : FormulaData) → IsFormulaNumber ns n → formula_at ns n ≡ p → item_at ns n ≡ FormulaItem p
formula_item ns n p number e = sym (a_formula (item_at ns n) number.sort) ∙ ap FormulaItem e

pub no_equates : (b : Branch) (p : FormulaData) → IsNoEquation p → IsTrue false ↔ EquatesJoined b p
no_equates b p none = (λ t. absurd (cc), λ h. absurd (none.none h.left h.right h.is))

module _ (ns : List Node) (one : IsOneNumber ns) (d : BranchData) (over : IsOver ns d) (c : BranchClassesData) (classes : AreClassesOf ns d c) where
  abbrev b : Branch
  b = branch_in ns d

  pub known_entries : AreKnownEntries d c
  known_entries = record { each = entry_known ns one d over c classes }

  pub left_known : (n : ℕ) (sides : ℕ × ℕ) → IsKnown c n → IsEquationOf ns n sides → IsKnown c sides.0
  left_known n sides known h = part_known ns c n sides.0 (TwoNode (Compare Eq) sides.0 sides.1) classes.over known h.found (inl refl)

  pub right_known : (n : ℕ) (sides : ℕ × ℕ) → IsKnown c n → IsEquationOf ns n sides → IsKnown c sides.1
  right_known n sides known h = part_known ns c n sides.1 (TwoNode (Compare Eq) sides.0 sides.1) classes.over known h.found (inr refl)

  pub denied_known : (i inner : ℕ) (e : PoolEntry) → slice_get d.entries i ≡ Some e → IsDenialOf ns e.formula inner → IsKnown c inner
  denied_known i inner e found h = part_known ns c e.formula inner (OneNode Not inner) classes.over (entry_known ns one d over c classes i e found) h.found refl

  pub equates_answer : (n : ℕ) (sides : ℕ × ℕ) (r : Bool) → IsEquationOf ns n sides → TellsJoined c sides.0 sides.1 r → IsTrue r ↔ EquatesJoined b (formula_at ns n)
  equates_answer n sides r h tells = (there, back)
    where
      exactly : IsTrue r ↔ Joined b (term_at ns sides.0) (term_at ns sides.1)
      exactly = tells.tells ns b (term_at ns sides.0) (term_at ns sides.1) (entries_of ns one d over c classes) (item_of_number ns sides.0 (left_number ns n sides h)) (item_of_number ns sides.1 (right_number ns n sides h))

      there : IsTrue r → EquatesJoined b (formula_at ns n)
      there t = record { left = term_at ns sides.0; right = term_at ns sides.1; is = equation_is ns n sides h; joined = exactly.0 t }

      back : EquatesJoined b (formula_at ns n) → IsTrue r
      back e =
          let both : EqFormula e.left e.right ≡ EqFormula (term_at ns sides.0) (term_at ns sides.1) = sym e.is ∙ equation_is ns n sides h in
          let left : e.left ≡ term_at ns sides.0 = cc in
          let right : e.right ≡ term_at ns sides.1 = cc in
          exactly.1 (subst (λ t. Joined b t (term_at ns sides.1)) left (subst (Joined b e.left) right e.joined))

-- ---- at one entry

module _ (ns : List Node) (d : BranchData) (i : ℕ) where
  abbrev the_branch : Branch
  the_branch = branch_in ns d

  pub past_entries : None ≡ slice_get d.entries i → IsNotClosedAt the_branch i
  past_entries none = record {
    no_clash = λ p q s h a. past_says ns d i (NotFormula q) none h;
    no_differing = λ t u h j. past_says ns d i (DifferFormula t u) none h;
    no_false = λ p h f. past_says ns d i p none h;
  }

  module _ (e : PoolEntry) (found : slice_get d.entries i ≡ Some e) where
    says : Says the_branch i (formula_at ns e.formula)
    says = entry_says ns d i e found

    pub false_entry : IsFalseForm (formula_at ns e.formula) → IsFalseEntry the_branch i
    false_entry f = record { formula = formula_at ns e.formula; says = says; is_false = f }

    pub not_false : (IsFalseForm (formula_at ns e.formula) → ⊥) → (p : FormulaData) → Says the_branch i p → IsFalseForm p → ⊥
    not_false fails p h f = fails (subst IsFalseForm (said_is ns d i e p found h) f)

    -- a formula that is no negation is not that of a negating entry
    pub no_denial_said : IsNoDenial (formula_at ns e.formula) → (q : FormulaData) → Says the_branch i (NotFormula q) → ⊥
    no_denial_said none q h = none.none q (sym (said_is ns d i e (NotFormula q) found h))

    pub no_denial_at : (IsFalseForm (formula_at ns e.formula) → ⊥) → IsNoDenial (formula_at ns e.formula) → IsNotClosedAt the_branch i
    no_denial_at fails none = record {
      no_clash = λ p q s h a. no_denial_said none q h;
      no_differing = λ t u h j. no_denial_said none (EqFormula t u) h;
      no_false = not_false fails;
    }

    module _ (inner : ℕ) (denial : IsDenialOf ns e.formula inner) where
      pub denies : Says the_branch i (NotFormula (formula_at ns inner))
      denies = subst (Says the_branch i) (denial_is ns e.formula inner denial) says

      -- the negated formula
      pub denied_is : (q : FormulaData) → Says the_branch i (NotFormula q) → formula_at ns inner ≡ q
      denied_is q h =
          let both : NotFormula (formula_at ns inner) ≡ NotFormula q = sym (denial_is ns e.formula inner denial) ∙ sym (said_is ns d i e (NotFormula q) found h) in
          cc

      pub differing : EquatesJoined the_branch (formula_at ns inner) → DeniesJoined the_branch i
      differing j = record { formula = formula_at ns inner; denies = denies; equates = j }

      module _ (one : IsOneNumber ns) (over : IsOver ns d) (c : BranchClassesData) (classes : AreClassesOf ns d c) (exact : AreExact c) (find : ℕ → Option ℕ) (index : AreEntriesByClass d c find) where
        -- an entry's formula is in the class of the negated formula exactly if the two are alike
        alike : (j : ℕ) (o : PoolEntry) (p : FormulaData) → slice_get d.entries j ≡ Some o → formula_at ns o.formula ≡ p → (class_of c o.formula ≡ class_of c inner) ↔ IsAlike the_branch [] p (formula_at ns inner)
        alike j o p at is =
            let tells = (exact.alike o.formula inner (entry_known ns one d over c classes j o at) (denied_known ns one d over c classes i inner e found denial)).tells ns the_branch p (formula_at ns inner) (entries_of ns one d over c classes) (formula_item ns o.formula p (over.formulas j o at) is) (formula_item ns inner (formula_at ns inner) (denial_number ns e.formula inner denial) refl) in
            (λ s. tells.0 (eq-eqb (class_of c o.formula) (class_of c inner) s), λ a. eqb-true (class_of c o.formula) (class_of c inner) (tells.1 a))

        pub opposed : (said : ℕ) → Some said ≡ find (class_of c inner) → AreOpposed the_branch said i
        opposed said h =
            let it = index.right (class_of c inner) said (sym h) in
            record {
              formula = formula_at ns it.entry.formula;
              other = formula_at ns inner;
              says = entry_says ns d said it.entry it.found;
              denies = denies;
              alike = (alike said it.entry (formula_at ns it.entry.formula) it.found refl).0 it.is;
            }

        pub unopposed : (IsFalseForm (formula_at ns e.formula) → ⊥) → (EquatesJoined the_branch (formula_at ns inner) → ⊥) → None ≡ find (class_of c inner) → IsNotClosedAt the_branch i
        unopposed fails apart none = record { no_clash = no_clash; no_differing = no_differing; no_false = not_false fails }
          where
            no_clash : (p q : FormulaData) → Stands the_branch p → Says the_branch i (NotFormula q) → IsAlike the_branch [] p q → ⊥
            no_clash p q s h a =
                let it = present ns d s.position p s.says in
                let same : class_of c it.entry.formula ≡ class_of c inner = (alike s.position it.entry p it.found it.is).1 (subst (IsAlike the_branch [] p) (sym (denied_is q h)) a) in
                let has = index.all s.position it.entry it.found in
                let never : None ≡ Some has.entry = none ∙ ap find (sym same) ∙ has.found in
                cc

            no_differing : (t u : TermData) → Says the_branch i (DifferFormula t u) → Joined the_branch t u → ⊥
            no_differing t u h j = apart (record { left = t; right = u; is = denied_is (EqFormula t u) h; joined = j })

-- ---- entry after entry

pub none_closed : (b : Branch) → IsNotClosedBefore b 0
none_closed b = record { each = λ i w. absurd (omega (arith, w)) }

pub one_more : (b : Branch) (i : ℕ) → IsNotClosedBefore b i → IsNotClosedAt b i → IsNotClosedBefore b (i + 1)
one_more b i h at = record { each = below_more (IsNotClosedAt b) i h.each at }

pub not_closed : (ns : List Node) (d : BranchData) (count : ℕ) → length d.entries ≤ count → IsNotClosedBefore (branch_in ns d) count → IsNotClosed (branch_in ns d)
not_closed ns d count w h = record {
  no_clash = λ p q s n a. (at n.position (NotFormula q) n.says).no_clash p q s n.says a;
  no_differing = λ t u n j. (at n.position (DifferFormula t u) n.says).no_differing t u n.says j;
  no_false = λ p s f. (at s.position p s.says).no_false p s.says f;
}
  where
    at : (i : ℕ) (p : FormulaData) → Says (branch_in ns d) i p → IsNotClosedAt (branch_in ns d) i
    at i p says = h.each i (let l = says_within ns d i p says in omega (arith, l, w))
