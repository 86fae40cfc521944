-- The entries of a search's branches are no deeper than a step may add, except for negations; and no branch is too
-- long.
use Rattle.std.proofs.Common.{◌≡◌, ◌⊎◌, inl, inr, ℕ, List, [], ◌∷◌, ◌++◌, map, refl, sym, ap, ◌∙◌, subst, arith, append_assoc, append-nil}
use Rattle.std.specs.Prelude.{All}
use Rattle.std.proofs.lemmas.List.Elements.{All-nil, All-cons, All-head, All-tail, All-append}
use Rattle.fol.specs.declared.shapes.Shape.{Shape}
use Rattle.fol.specs.FormulaData.{FormulaData, NotFormula, EqFormula}
use Rattle.axioms.specs.Forms.{DifferFormula}
use Rattle.certificates.specs.BranchesBranch.{Branch, Entry, Says}
use Rattle.certificates.specs.Due.{IsShallow}
use Rattle.certificates.specs.ProofTraces.{Application, PartsApplication, NameApplication, InstanceApplication, AxiomApplication, SplitApplication, CutApplication, BoundApplication, CloseApplication, OpenBranches, IsShortBranch, entry_with, left_of, IsDueApplication, AreDue, begun, after_applications}
use Rattle.certificates.specs.declared.branches.origin.Origin.{Origin}
use Rattle.certificates.specs.declared.branches.origin.Origin.TheVariants.{Other}
use Rattle.tableau.proofs.ListLemmas.{push_cases}
use Rattle.search.specs.Decisions.{IsLevel}

-- no deeper than a step may add, or a negation
abbrev IsLow : FormulaData → Type 0
IsLow p = IsShallow p ⊎ ((q : FormulaData) × (p ≡ NotFormula q))

level_push : (b : Branch) (e : Entry) → IsLevel b → IsLow e.formula → IsLevel (b ++ e ∷ [])
level_push b e level low = record { level = at }
  where
    at : (i : ℕ) (p : FormulaData) → Says (b ++ e ∷ []) i p → IsLow p
    at i p says = elim (push_cases b e i says.entry says.found) [
      | inl f ↦ level.level i p (record { entry = says.entry; found = f; is = says.is })
      | inr f ↦ subst IsLow (sym (ap (λ (x : Entry). x.formula) f.1) ∙ says.is) low
    ]

level_all : (g : ℕ) (o : Origin) (b : Branch) (ps : List FormulaData) → IsLevel b → All IsShallow ps → IsLevel (b ++ map (entry_with g o) ps)
level_all g o b [] level low = subst IsLevel (sym (append-nil b)) level
level_all g o b (p ∷ ps) level low =
    let first = level_push b (entry_with g o p) level (inl (All-head IsShallow p ps low)) in
    subst IsLevel (append_assoc b (entry_with g o p ∷ []) (map (entry_with g o) ps)) (level_all g o (b ++ entry_with g o p ∷ []) ps first (All-tail IsShallow p ps low))

level_each : (g : ℕ) (o : Origin) (b : Branch) (ps : List FormulaData) → IsLevel b → All IsShallow ps → All IsLevel (map (λ (p : FormulaData). b ++ entry_with g o p ∷ []) ps)
level_each g o b [] level low = All-nil IsLevel
level_each g o b (p ∷ ps) level low =
    All-cons IsLevel (b ++ entry_with g o p ∷ []) (map (λ (q : FormulaData). b ++ entry_with g o q ∷ []) ps) (level_push b (entry_with g o p) level (inl (All-head IsShallow p ps low))) (level_each g o b ps level (All-tail IsShallow p ps low))

one_level : (b : Branch) → IsLevel b → All IsLevel (b ∷ [])
one_level b level = All-cons IsLevel b [] level (All-nil IsLevel)

two_level : (b c : Branch) → IsLevel b → IsLevel c → All IsLevel (b ∷ c ∷ [])
two_level b c first second = All-cons IsLevel b (c ∷ []) first (one_level c second)

level_left : (shapes : List Shape) (b : Branch) (application : Application) → IsLevel b → IsDueApplication shapes b application → All IsLevel (left_of b application)
level_left shapes b (PartsApplication i ps) level due = one_level (b ++ map (entry_with _ _) ps) (level_all _ _ b ps level due.shallow)
level_left shapes b (NameApplication i v p) level due = one_level (b ++ entry_with _ _ p ∷ []) (level_push b (entry_with _ _ p) level (inl due.shallow))
level_left shapes b (InstanceApplication i t p g) level due = one_level (b ++ entry_with _ _ p ∷ []) (level_push b (entry_with _ _ p) level (inl due.shallow))
level_left shapes b (AxiomApplication name p g) level due = one_level (b ++ entry_with _ _ p ∷ []) (level_push b (entry_with _ _ p) level (inl due.shallow))
level_left shapes b (SplitApplication i ps) level due = level_each _ _ b ps level due.0.shallow
level_left shapes b (CutApplication t u g) level due =
    let deep = due.0.shallow in
    two_level (b ++ entry_with _ _ (EqFormula t u) ∷ []) (b ++ entry_with _ _ (DifferFormula t u) ∷ []) (level_push b (entry_with _ _ (EqFormula t u)) level (inl (omega (arith, deep)))) (level_push b (entry_with _ _ (DifferFormula t u)) level (inr (EqFormula t u, refl)))
level_left shapes b (BoundApplication i t k) level due =
    let deep = due.shallow in
    two_level (b ++ entry_with _ _ _ ∷ []) (b ++ entry_with _ _ _ ∷ []) (level_push b (entry_with _ _ _) level (inl (omega (arith, deep)))) (level_push b (entry_with _ _ _) level (inl deep))
level_left shapes b (CloseApplication chain by) level due = All-nil IsLevel

level_applications : (shapes : List Shape) (applications : List Application) (bs : OpenBranches) → AreDue shapes bs applications → All IsLevel bs → All IsLevel (after_applications bs applications)
level_applications shapes [] bs due levels = levels
level_applications shapes (t ∷ ts) [] due levels = absurd due.0
level_applications shapes (t ∷ ts) (b ∷ bs) due levels =
    level_applications shapes ts (left_of b t ++ bs) due.1 (All-append IsLevel (left_of b t) bs (level_left shapes b t (All-head IsLevel b bs levels) due.0.0) (All-tail IsLevel b bs levels))

level_begun : (p : FormulaData) → All IsLevel (begun p)
level_begun p = one_level (entry_with 0 Other (NotFormula p) ∷ []) (record { level = at })
  where
    at : (i : ℕ) (q : FormulaData) → Says (entry_with 0 Other (NotFormula p) ∷ []) i q → IsLow q
    at i q says = elim (push_cases [] (entry_with 0 Other (NotFormula p)) i says.entry says.found) [
      | inl f ↦ absurd (cc)
      | inr f ↦ inr (p, sym says.is ∙ ap (λ (x : Entry). x.formula) f.1)
    ]

-- the open branches of a trace whose applications are due are level
pub levels : (shapes : List Shape) (p : FormulaData) (applications : List Application) → AreDue shapes (begun p) applications → All IsLevel (after_applications (begun p) applications)
levels shapes p applications due = level_applications shapes applications (begun p) due (level_begun p)

-- ---- lengths

short_applications : (shapes : List Shape) (applications : List Application) (bs : OpenBranches) → AreDue shapes bs applications → All IsShortBranch bs → All IsShortBranch (after_applications bs applications)
short_applications shapes [] bs due short = short
short_applications shapes (t ∷ ts) [] due short = absurd due.0
short_applications shapes (t ∷ ts) (b ∷ bs) due short =
    short_applications shapes ts (left_of b t ++ bs) due.1 (All-append IsShortBranch (left_of b t) bs due.0.1 (All-tail IsShortBranch b bs short))

-- the open branches of such a trace do not exceed the maximal length
pub shorts : (shapes : List Shape) (p : FormulaData) (applications : List Application) → AreDue shapes (begun p) applications → All IsShortBranch (after_applications (begun p) applications)
shorts shapes p applications due =
    short_applications shapes applications (begun p) due (All-cons IsShortBranch (entry_with 0 Other (NotFormula p) ∷ []) [] (omega arith) (All-nil IsShortBranch))
