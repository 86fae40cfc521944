-- Whether a cut on the equality of two terms is due.
use Rattle.std.proofs.Common.{◌≡◌, ◌↔◌, inl, inr, ℕ, Bool, false, not, IsTrue, List, sym, ap, ◌∙◌, arith}
use Rattle.fol.specs.Depth.{term_depth}
use Rattle.fol.specs.FormulaData.{TermData, EqFormula}
use Rattle.axioms.specs.Forms.{DifferFormula}
use Rattle.term_pool.specs.Depths.{item_depth}
use Rattle.term_pool.specs.Pools.{item_at, IsOneNumber}
use Rattle.term_pool.specs.declared.node.Node.{Node}
use Rattle.term_pool.proofs.ShapeLemmas.{a_term}
use Rattle.certificates.specs.BranchesBranch.{Branch}
use Rattle.certificates.specs.Joined.{Joined, ByEntry}
use Rattle.certificates.specs.Decisions.{AreIndexes, AreNumbers, IsDenied, IsUndecided}
use Rattle.certificates.specs.Due.{IsShallow, CutDue}
use Rattle.tableau.specs.PoolBranches.{BranchData, branch_in, IsTermNumber, IsOver}
use Rattle.congruence_closure.specs.Known.{BranchClassesData, class_of, AreExact}
use Rattle.tableau.specs.Terms.{term_at, IsBranchTerm, AreClassesOf}
use Rattle.tableau.proofs.NearLemmas.{joined_of_class, class_of_joined}
use Rattle.axiom_strategy.specs.Cuts.{IsShallowTerm}
use Rattle.axiom_strategy.proofs.DenialLemmas.{equation_alike}
use Rattle.step_checks.proofs.DecisionsTruthLemmas.{never, not_so}

-- ---- open or not

module _ (ns : List Node) (number : IsOneNumber ns) (d : BranchData) (over : IsOver ns d) (c : BranchClassesData) (classes : AreClassesOf ns d c) (exact : AreExact c) (i j : ℕ) (s : IsBranchTerm ns (branch_in ns d) i) (t : IsBranchTerm ns (branch_in ns d) j) where
  pub one_class : (x y : ℕ) → x ≡ class_of c i → y ≡ class_of c j → x ≡ y → IsTrue false ↔ IsUndecided (branch_in ns d) (term_at ns i) (term_at ns j)
  one_class x y e f same = never (λ h. h.not_joined (joined_of_class ns number d over c classes exact i j s t (sym e ∙ same ∙ f)))

  pub two_classes : (x y : ℕ) → x ≡ class_of c i → y ≡ class_of c j → (x ≡ y → ⊥) → (denied : Bool) → IsTrue denied ↔ IsDenied (branch_in ns d) (term_at ns i) (term_at ns j) → IsTrue (not denied) ↔ IsUndecided (branch_in ns d) (term_at ns i) (term_at ns j)
  two_classes x y e f differ denied h =
      let known = not_so denied h in (
        λ yes. record { not_joined = λ joined. differ (e ∙ class_of_joined ns number d over c classes exact i j s t joined ∙ sym f); not_denied = known.0 yes },
        λ undecided. known.1 undecided.not_denied,
      )

  itself : (n : ℕ) → IsBranchTerm ns (branch_in ns d) n → Joined (branch_in ns d) (term_at ns n) (term_at ns n)
  itself n r = joined_of_class ns number d over c classes exact n n r r (λ k. class_of c n)

  -- no entry states or negates an open equation
  pub cut_due : AreIndexes (branch_in ns d) (term_at ns i) (term_at ns j) → IsUndecided (branch_in ns d) (term_at ns i) (term_at ns j) → IsShallow (DifferFormula (term_at ns i) (term_at ns j)) → (AreNumbers (branch_in ns d) (term_at ns i) (term_at ns j) → ⊥) → CutDue (branch_in ns d) (term_at ns i) (term_at ns j)
  cut_due indexes undecided shallow numbers = record {
    triggered = inl indexes;
    no_numbers = numbers;
    undecided = undecided;
    is_new = record { new = λ h. undecided.not_joined (ByEntry h.position (term_at ns i) (term_at ns j) h.says) };
    denial_is_new = record { new = λ h. undecided.not_denied (record { formula = EqFormula (term_at ns i) (term_at ns j); stands = h; alike = inl (equation_alike (branch_in ns d) (term_at ns i) (term_at ns j) (term_at ns i) (term_at ns j) (itself i s) (itself j t)) }) };
    shallow = shallow;
  }

-- ---- depths

depth_of : (ns : List Node) (n : ℕ) → IsTermNumber ns n → item_depth (item_at ns n) ≡ term_depth (term_at ns n)
depth_of ns n h = ap item_depth (sym (a_term (item_at ns n) h.sort))

pub shallow_both : (ns : List Node) (i j : ℕ) → IsTermNumber ns i → IsTermNumber ns j → IsShallowTerm ns i → IsShallowTerm ns j → IsShallow (DifferFormula (term_at ns i) (term_at ns j))
shallow_both ns i j s t g h = (let e = depth_of ns i s in let f = depth_of ns j t in omega (arith, g, h, e, f))

shallow_left : (ns : List Node) (i j : ℕ) → IsTermNumber ns i → IsShallow (DifferFormula (term_at ns i) (term_at ns j)) → IsShallowTerm ns i
shallow_left ns i j s h = (let e = depth_of ns i s in omega (arith, h, e))

shallow_right : (ns : List Node) (i j : ℕ) → IsTermNumber ns j → IsShallow (DifferFormula (term_at ns i) (term_at ns j)) → IsShallowTerm ns j
shallow_right ns i j t h = (let e = depth_of ns j t in omega (arith, h, e))

-- ---- the requirements of a cut

indexes_of : (b : Branch) (t u : TermData) → CutDue b t u → AreIndexes b t u
indexes_of b t u h = elim h.triggered [ inl q ↦ q | inr q ↦ absurd (h.denial_is_new.new q) ]

pub not_triggered : (b : Branch) (t u : TermData) (known : Bool) → known ≡ false → IsTrue known ↔ AreIndexes b t u → IsTrue false ↔ CutDue b t u
not_triggered b t u known e h = never (λ due. (let yes = h.1 (indexes_of b t u due) in absurd (cc)))

pub not_open : (b : Branch) (t u : TermData) → (IsUndecided b t u → ⊥) → IsTrue false ↔ CutDue b t u
not_open b t u none = never (λ due. none due.undecided)

pub left_deep : (ns : List Node) (b : Branch) (i j : ℕ) → IsTermNumber ns i → (IsShallowTerm ns i → ⊥) → IsTrue false ↔ CutDue b (term_at ns i) (term_at ns j)
left_deep ns b i j s deep = never (λ due. deep (shallow_left ns i j s due.shallow))

pub right_deep : (ns : List Node) (b : Branch) (i j : ℕ) → IsTermNumber ns j → (IsShallowTerm ns j → ⊥) → IsTrue false ↔ CutDue b (term_at ns i) (term_at ns j)
right_deep ns b i j t deep = never (λ due. deep (shallow_right ns i j t due.shallow))

pub cut_so : (b : Branch) (t u : TermData) (numbers : Bool) → IsTrue numbers ↔ AreNumbers b t u → ((AreNumbers b t u → ⊥) → CutDue b t u) → IsTrue (not numbers) ↔ CutDue b t u
cut_so b t u numbers h due = (let known = not_so numbers h in (λ yes. due (known.0 yes), λ d. known.1 d.no_numbers))
