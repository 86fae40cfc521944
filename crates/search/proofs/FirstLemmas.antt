-- Each open branch of a trace begins with the negation of the formula; if that is deeper than a step may add, it is
-- full.
use Rattle.std.proofs.Common.{ℕ, pos, ◌+ℤ◌, List, [], ◌∷◌, ◌++◌, map, refl, subst, arith}
use Rattle.std.specs.Prelude.{All}
use Rattle.std.proofs.lemmas.List.Elements.{All-nil, All-cons, All-head, All-tail, All-append}
use Rattle.fol.specs.declared.shapes.Shape.{Shape}
use Rattle.fol.specs.FormulaData.{FormulaData, EqFormula, LeFormula, NotFormula, NumTerm}
use Rattle.axioms.specs.Forms.{DifferFormula}
use Rattle.term_pool.specs.declared.node.Node.{Node}
use Rattle.certificates.specs.BranchesBranch.{Branch, Says}
use Rattle.certificates.specs.Due.{IsShallow}
use Rattle.certificates.specs.ProofTraces.{Application, PartsApplication, NameApplication, InstanceApplication, AxiomApplication, SplitApplication, CutApplication, BoundApplication, CloseApplication, OpenBranches, entry_with, generation_at, left_of, begun, after_applications, Deep}
use Rattle.certificates.specs.declared.branches.origin.Origin.{Origin}
use Rattle.certificates.specs.declared.branches.origin.Origin.TheVariants.{Other}
use Rattle.tableau.specs.PoolBranches.{branch_in}
use Rattle.search.specs.Trees.{IsTree}
use Rattle.search.specs.declared.trees.tree.SearchTree.{SearchTree}
use Rattle.search.specs.Ends.{Claim, ShowsEnd}
use Rattle.search.specs.declared.end.End.TheVariants.{Full}

module _ (p : FormulaData) where
  -- the first entry is the negation
  abbrev Begins : Branch → Type 0
  Begins b = Says b 0 p

  more : (b c : Branch) → Begins b → Begins (b ++ c)
  more [] c h = absurd (let e = h.found in cc)
  more (e ∷ b) c h = record { entry = h.entry; found = h.found; is = h.is }

  each : (g : ℕ) (o : Origin) (b : Branch) (ps : List FormulaData) → Begins b → All Begins (map (λ (q : FormulaData). b ++ entry_with g o q ∷ []) ps)
  each g o b [] h = All-nil Begins
  each g o b (q ∷ qs) h = All-cons Begins (b ++ entry_with g o q ∷ []) (map (λ (r : FormulaData). b ++ entry_with g o r ∷ []) qs) (more b (entry_with g o q ∷ []) h) (each g o b qs h)

  one : (b : Branch) → Begins b → All Begins (b ∷ [])
  one b h = All-cons Begins b [] h (All-nil Begins)

  left_begins : (b : Branch) (application : Application) → Begins b → All Begins (left_of b application)
  left_begins b (PartsApplication i ps) h = one (b ++ map (entry_with _ _) ps) (more b (map (entry_with _ _) ps) h)
  left_begins b (NameApplication i v q) h = one (b ++ entry_with _ _ q ∷ []) (more b (entry_with _ _ q ∷ []) h)
  left_begins b (InstanceApplication i t q g) h = one (b ++ entry_with _ _ q ∷ []) (more b (entry_with _ _ q ∷ []) h)
  left_begins b (AxiomApplication name q g) h = one (b ++ entry_with _ _ q ∷ []) (more b (entry_with _ _ q ∷ []) h)
  left_begins b (SplitApplication i ps) h = each _ _ b ps h
  left_begins b (CutApplication t u g) h = each g Other b (EqFormula t u ∷ DifferFormula t u ∷ []) h
  left_begins b (BoundApplication i t k) h = each (generation_at b i) Other b (LeFormula t (NumTerm k) ∷ LeFormula (NumTerm (k +ℤ pos 1)) t ∷ []) h
  left_begins b (CloseApplication chain by) h = All-nil Begins

  all_begin : (applications : List Application) (bs : OpenBranches) → All Begins bs → All Begins (after_applications bs applications)
  all_begin [] bs h = h
  all_begin (t ∷ ts) [] h = all_begin ts [] h
  all_begin (t ∷ ts) (b ∷ bs) h = all_begin ts (left_of b t ++ bs) (All-append Begins (left_of b t) bs (left_begins b t (All-head Begins b bs h)) (All-tail Begins b bs h))

-- the first entry of each open branch negates the formula
pub begins : (p : FormulaData) (applications : List Application) → All (λ b. Says b 0 (NotFormula p)) (after_applications (begun p) applications)
begins p applications = all_begin (NotFormula p) applications (begun p) (one (NotFormula p) (entry_with 0 Other (NotFormula p) ∷ []) (record { entry = entry_with 0 Other (NotFormula p); found = refl; is = refl }))

-- the search for a formula that is too deep ends at once
pub full_at_once : (shapes : List Shape) (claim : Claim) (ns : List Node) (t : SearchTree) → IsTree shapes claim.formula 0 ns t → (IsShallow (NotFormula claim.formula) → ⊥) → ShowsEnd shapes claim claim.budget ns t Full
full_at_once shapes claim ns t tree deep =
    let all : All (λ b. Says b 0 (NotFormula claim.formula)) (branch_in ns t.branch ∷ _) = subst (All (λ b. Says b 0 (NotFormula claim.formula))) tree.text.branches (begins claim.formula tree.text.applications) in
    record {
      spent = 0;
      sum = omega arith;
      tree = tree;
      shown = Deep 0 (NotFormula claim.formula) (All-head (λ b. Says b 0 (NotFormula claim.formula)) (branch_in ns t.branch) _ all) deep;
    }
