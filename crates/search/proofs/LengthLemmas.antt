-- The lengths of the branches that an application leaves.
use Rattle.std.proofs.Common.{◌≡◌, ℕ, ◌<◌, ◌≤◌, Bool, true, false, List, [], ◌∷◌, ◌++◌, length, map, refl, sym, ap, ◌∙◌, subst, arith, length-append}
use Rattle.std.specs.Prelude.{All}
use Rattle.std.proofs.lemmas.List.{length-map}
use Rattle.std.proofs.lemmas.List.Elements.{All-nil, All-cons, All-head}
use Rattle.std.proofs.lemmas.Option.{slice_get_within}
use Rattle.fol.specs.declared.shapes.Shape.{Shape}
use Rattle.fol.specs.FormulaData.{FormulaData}
use Rattle.term_pool.specs.declared.node.Node.{Node}
use Rattle.certificates.specs.BranchesBranch.{Branch, Entry}
use Rattle.certificates.specs.ProofTraces.{Application, entry_with, left_of, IsDueApplication, IsShortBranch, IsFull, Next}
use Rattle.tableau.specs.Numbers.{formula_at}
use Rattle.search.specs.Applications.{is_fork, origin_of, IsAddedFor, AsParts, AsName, AsInstance, AsAxiom, AsSplit, AsCut, AsBound, formulas_of, IsDueOn}
use Rattle.search.specs.declared.trees.application.Extension.{Extension}
use Rattle.search.specs.declared.trees.application.Reason.{Reason}
use Rattle.search.proofs.AddedLemmas.{lefts, left_is}
use Rattle.search.specs.Decisions.{IsExtensionDue, LeavesShort}

each_short : (b : Branch) (es : List Entry) → LeavesShort true (length b) (length es) → All IsShortBranch (lefts true b es)
each_short b [] h = All-nil IsShortBranch
each_short b (e ∷ es) h =
    All-cons IsShortBranch (b ++ e ∷ []) (lefts true b es) (let l = length-append b (e ∷ []) in omega (arith, l, h)) (each_short b es h)

fits_short : (f : Bool) (b : Branch) (es : List Entry) → LeavesShort f (length b) (length es) → All IsShortBranch (lefts f b es)
fits_short false b es h = All-cons IsShortBranch (b ++ es) [] (let l = length-append b es in omega (arith, l, h)) (All-nil IsShortBranch)
fits_short true b es h = each_short b es h

too_long : (f : Bool) (b : Branch) (es : List Entry) → (LeavesShort f (length b) (length es) → ⊥) → 0 < length es → All IsShortBranch (lefts f b es) → ⊥
too_long false b es long some short =
    let one : length (b ++ es) ≤ 4000 = All-head IsShortBranch (b ++ es) [] short in
    let l = length-append b es in
    long (omega (arith, l, one))
too_long true b [] long some short = absurd (omega (arith, some))
too_long true b (e ∷ es) long some short =
    let one : length (b ++ e ∷ []) ≤ 4000 = All-head IsShortBranch (b ++ e ∷ []) (lefts true b es) short in
    let l = length-append b (e ∷ []) in
    long (omega (arith, l, one))

some_items : {X : Type 0} (xs : List X) → (xs ≡ [] → ⊥) → 0 < length xs
some_items [] none = absurd (none refl)
some_items (x ∷ xs) none = omega arith

-- an application that is due adds something
some_added : (shapes : List Shape) (ns : List Node) (b : Branch) (ps : List FormulaData) (r : Reason) (g : ℕ) (application : Application) → IsAddedFor ns ps r g application → IsDueApplication shapes b application → 0 < length ps
some_added shapes ns b ps r g application (AsParts i k) due = (let w = slice_get_within ps due.news.position due.news.formula due.news.found in omega (arith, w))
some_added shapes ns b ps r g application (AsName i v k p is) due = (let l = ap length is in omega (arith, l))
some_added shapes ns b ps r g application (AsInstance i t k p is) due = (let l = ap length is in omega (arith, l))
some_added shapes ns b ps r g application (AsAxiom name k p is) due = (let l = ap length is in omega (arith, l))
some_added shapes ns b ps r g application (AsSplit i k) due = some_items ps due.0.some
some_added shapes ns b ps r g application (AsCut t u k is) due = (let l = ap length is in omega (arith, l))
some_added shapes ns b ps r g application (AsBound i t k z is) due = (let l = ap length is in omega (arith, l))

module _ (shapes : List Shape) (ns : List Node) (b : Branch) (g : Extension) (h : IsExtensionDue shapes ns b g) where
  pub some_formulas : 0 < length g.formulas.items
  some_formulas = (
      let some = some_added shapes ns b (formulas_of ns g) g.reason g.generation h.application h.is.added h.due in
      let l = length-map g.formulas.items (formula_at ns) in
      omega (arith, some, l))

  abbrev entries : List Entry
  entries = map (entry_with g.generation (origin_of g.reason)) (formulas_of ns g)

  as_many : length entries ≡ length g.formulas.items
  as_many = length-map (formulas_of ns g) (entry_with g.generation (origin_of g.reason)) ∙ length-map g.formulas.items (formula_at ns)

  left : left_of b h.application ≡ lefts (is_fork g.reason) b entries
  left = left_is ns (formulas_of ns g) b g.reason g.generation h.application h.is.added h.from

  -- the application leaves no branch that is too long
  pub due_on : LeavesShort (is_fork g.reason) (length b) (length g.formulas.items) → IsDueOn shapes b h.application
  due_on fits = record {
    due = h.due;
    short = subst (All IsShortBranch) (sym left) (fits_short (is_fork g.reason) b entries (subst (LeavesShort (is_fork g.reason) (length b)) (sym as_many) fits));
  }

  -- else the branch is full
  pub full_next : (LeavesShort (is_fork g.reason) (length b) (length g.formulas.items) → ⊥) → IsFull shapes b
  full_next long = Next h.application h.due (λ short. (
      let some = some_formulas in
      let l = as_many in
      too_long (is_fork g.reason) b entries (λ fits. long (subst (LeavesShort (is_fork g.reason) (length b)) l fits)) (omega (arith, some, l)) (subst (All IsShortBranch) left short)))
