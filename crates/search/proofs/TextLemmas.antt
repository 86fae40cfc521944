-- Traces with one more application.
use Rattle.std.proofs.Common.{◌≡◌, ℕ, ◌+◌, List, [], ◌∷◌, ◌++◌, length, refl, sym, ap, ◌∙◌, subst, arith}
use Rattle.std.specs.List.{AllZip}
use Rattle.fol.specs.declared.shapes.Shape.{Shape}
use Rattle.fol.specs.FormulaData.{FormulaData}
use Rattle.term_pool.specs.declared.node.Node.{Node}
use Rattle.certificates.specs.BranchesBranch.{Branch}
use Rattle.certificates.specs.ProofTraces.{Application, PartsApplication, NameApplication, InstanceApplication, AxiomApplication, SplitApplication, CutApplication, BoundApplication, CloseApplication, OpenBranches, AreDue, IsDueIn, begun, left_of, after_application, after_applications, steps_in}
use Rattle.search.specs.Applications.{IsApplicationOf, IsDueOn}
use Rattle.search.specs.Trees.{IsText}
use Rattle.search.specs.declared.trees.application.PoolApplication.{PoolApplication}

after_more : (ts : List Application) (t : Application) (bs : OpenBranches) → after_applications bs (ts ++ t ∷ []) ≡ after_application (after_applications bs ts) t
after_more [] t bs = refl
after_more (u ∷ ts) t bs = after_more ts t (after_application bs u)

due_more : (shapes : List Shape) (ts : List Application) (t : Application) (bs : OpenBranches) → AreDue shapes bs ts → IsDueIn shapes (after_applications bs ts) t → AreDue shapes bs (ts ++ t ∷ [])
due_more shapes [] t bs due now = (now, tt)
due_more shapes (u ∷ ts) t bs due now = (due.0, due_more shapes ts t (after_application bs u) due.1 now)

-- the number of steps of an application
abbrev pub size_of : Application → ℕ
size_of (CloseApplication chain by) = length chain
size_of _ = 1

first_size : (t : Application) (ts : List Application) → steps_in (t ∷ ts) ≡ size_of t + steps_in ts
first_size (PartsApplication i ps) ts = omega arith
first_size (NameApplication i v p) ts = omega arith
first_size (InstanceApplication i t p g) ts = omega arith
first_size (AxiomApplication name p g) ts = omega arith
first_size (SplitApplication i ps) ts = omega arith
first_size (CutApplication t u g) ts = omega arith
first_size (BoundApplication i t k) ts = omega arith
first_size (CloseApplication chain by) ts = omega arith

steps_more : (ts : List Application) (t : Application) → steps_in (ts ++ t ∷ []) ≡ steps_in ts + size_of t
steps_more [] t = (let e = first_size t [] in omega (arith, e))
steps_more (u ∷ ts) t =
    let first = first_size u (ts ++ t ∷ []) in
    let whole = first_size u ts in
    let rest = steps_more ts t in
    omega (arith, first, whole, rest)

zip_more : {A B : Type 0} (R : A → B → Type 0) (xs : List A) (ys : List B) (x : A) (y : B) → AllZip R xs ys → R x y → AllZip R (xs ++ x ∷ []) (ys ++ y ∷ [])
zip_more R [] [] x y h r = (r, tt)
zip_more R [] (z ∷ ys) x y h r = absurd h
zip_more R (z ∷ xs) [] x y h r = absurd h
zip_more R (z ∷ xs) (w ∷ ys) x y h r = (h.0, zip_more R xs ys x y h.1 r)

-- one more application that is due on the first open branch
pub taken : (shapes : List Shape) (p : FormulaData) (spent : ℕ) (ns : List Node) (text : List PoolApplication) (b : Branch) (bs : OpenBranches) (t : PoolApplication) (application : Application) → IsText shapes p spent ns text (b ∷ bs) → IsApplicationOf ns t application → IsDueOn shapes b application → IsText shapes p (spent + size_of application) ns (text ++ t ∷ []) (left_of b application ++ bs)
taken shapes p spent ns text b bs t application h is due = record {
  applications = h.applications ++ application ∷ [];
  are_applications = zip_more (IsApplicationOf ns) text h.applications t application h.are_applications is;
  due = due_more shapes h.applications application (begun p) h.due (subst (λ (os : OpenBranches). IsDueIn shapes os application) (sym h.branches) (due.due, due.short));
  steps = steps_more h.applications application ∙ ap (λ k. k + size_of application) h.steps;
  branches = after_more h.applications application (begun p) ∙ ap (λ (os : OpenBranches). after_application os application) h.branches;
}
