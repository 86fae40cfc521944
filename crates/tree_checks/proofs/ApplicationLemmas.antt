-- Case splits and cuts, given whether a late application may come on the branch.
use Rattle.std.proofs.Common.{◌≡◌, ◌↔◌, ℕ, Bool, true, false, IsTrue, List, [], ◌∷◌, Some, None, refl, sym, ◌∙◌, subst}
use Rattle.std.specs.Prelude.{slice_get}
use Rattle.fol.specs.declared.shapes.Shape.{Shape}
use Rattle.fol.specs.FormulaData.{TermData, FormulaData}
use Rattle.term_pool.specs.Pools.{Extends}
use Rattle.term_pool.specs.declared.node.Node.{Node}
use Rattle.certificates.specs.BranchesBranch.{Branch}
use Rattle.certificates.specs.Due.{SplitDue, CutDue, AreGenerations, IsRange}
use Rattle.certificates.specs.ProofTraces.{SplitApplication, CutApplication, IsDueApplication, IsSplitTime, OfRange, Late, IsLate}
use Rattle.tableau.specs.PoolBranches.{BranchData, branch_in, IsOver}
use Rattle.tableau.specs.declared.entry.PoolEntry.{PoolEntry}
use Rattle.tableau.proofs.AnswerLemmas.{stored}
use Rattle.tableau.specs.Numbers.{formula_at}
use Rattle.tableau.proofs.EntryLemmas.{entry_says, said_is, still_says}
use Rattle.tree_checks.specs.Late.{IsRangeEntry}
use Rattle.tree_checks.proofs.FamilyLemmas.{never}

-- ---- instances of the axiom on ranges

pub no_range_entry : (ns : List Node) (d : BranchData) (i : ℕ) → slice_get d.entries i ≡ None → IsTrue false ↔ IsRangeEntry (branch_in ns d) i
no_range_entry ns d i none = never (λ h. (let it = stored ns d.entries i h.says.entry h.says.found in let both : Some it.entry ≡ None = sym it.found ∙ none in absurd (cc)))

pub range_known : (ns : List Node) (d : BranchData) (i : ℕ) (e : PoolEntry) → slice_get d.entries i ≡ Some e → (known : Bool) → IsTrue known ↔ IsRange (formula_at ns e.formula) → IsTrue known ↔ IsRangeEntry (branch_in ns d) i
range_known ns d i e found known h = (
  λ yes. record { formula = formula_at ns e.formula; says = entry_says ns d i e found; is_range = h.0 yes },
  λ range. h.1 (subst IsRange (said_is ns d i e range.formula found range.says) range.is_range),
)

pub range_back : (ns ms : List Node) (grown : Extends ns ms) (d : BranchData) (over : IsOver ns d) (i : ℕ) (known : Bool) → IsTrue known ↔ IsRangeEntry (branch_in ms d) i → IsTrue known ↔ IsRangeEntry (branch_in ns d) i
range_back ns ms grown d over i known h = subst (λ b. IsTrue known ↔ IsRangeEntry b i) (still_says ns ms grown d over) h

-- ---- case splits

module _ (shapes : List Shape) (b : Branch) (i : ℕ) (ps : List FormulaData) where
  pub no_cases : (SplitDue b i ps → ⊥) → IsTrue false ↔ IsDueApplication shapes b (SplitApplication i ps)
  no_cases none = never (λ due. none due.0)

  pub late_split : SplitDue b i ps → IsLate shapes b → IsTrue true ↔ IsDueApplication shapes b (SplitApplication i ps)
  late_split due late = (λ yes. (due, Late late), λ application. refl)

  of_entry : SplitDue b i ps → IsRangeEntry b i → IsDueApplication shapes b (SplitApplication i ps)
  of_entry due h = (due, OfRange h.formula h.says h.is_range)

  time_is : (IsLate shapes b → ⊥) → IsSplitTime shapes b i → IsRangeEntry b i
  time_is none (OfRange p says range) = record { formula = p; says = says; is_range = range }
  time_is none (Late late) = absurd (none late)

  pub range_split : SplitDue b i ps → (IsLate shapes b → ⊥) → (known : Bool) → IsTrue known ↔ IsRangeEntry b i → IsTrue known ↔ IsDueApplication shapes b (SplitApplication i ps)
  range_split due none known h = (λ yes. of_entry due (h.0 yes), λ application. h.1 (time_is none application.1))

  pub range_shows : SplitDue b i ps → (known : Bool) → IsTrue known ↔ IsRangeEntry b i → IsTrue known → IsDueApplication shapes b (SplitApplication i ps)
  range_shows due known h so = of_entry due (h.0 so)

pub not_late : {late : Bool} {P : Type 0} → late ≡ false → IsTrue late ↔ P → P → ⊥
not_late e h p = (let yes = h.1 p in absurd (cc))

-- ---- cuts

module _ (shapes : List Shape) (b : Branch) (t u : TermData) (g : ℕ) where
  pub early_cut : (IsLate shapes b → ⊥) → IsTrue false ↔ IsDueApplication shapes b (CutApplication t u g)
  early_cut none = never (λ application. none application.2)

  pub other_generation : (AreGenerations b (t ∷ u ∷ []) g → ⊥) → IsTrue false ↔ IsDueApplication shapes b (CutApplication t u g)
  other_generation none = never (λ application. none application.1)

  pub cut_tells : IsLate shapes b → AreGenerations b (t ∷ u ∷ []) g → (known : Bool) → IsTrue known ↔ CutDue b t u → IsTrue known ↔ IsDueApplication shapes b (CutApplication t u g)
  cut_tells late generations known h = (λ yes. (h.0 yes, generations, late), λ application. h.1 application.0)
