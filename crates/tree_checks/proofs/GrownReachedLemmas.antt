-- The branches that a trace with due applications leaves open are grown.
use Rattle.std.proofs.Common.{◌≡◌, ℕ, zero, suc, ◌+◌, ◌≤◌, max, ℤ, List, [], ◌∷◌, ◌++◌, Some, refl, sym, subst, arith}
use Rattle.std.specs.Prelude.{All, slice_get}
use Rattle.std.proofs.lemmas.List.Elements.{All-nil, All-cons, All-head, All-tail, All-append}
use Rattle.fol.specs.Depth.{term_depth}
use Rattle.fol.specs.declared.shapes.Shape.{Shape}
use Rattle.fol.specs.FormulaData.{TermData, FormulaData}
use Rattle.certificates.specs.BranchesBranch.{Branch}
use Rattle.certificates.specs.ProofTraces.{Application, PartsApplication, NameApplication, InstanceApplication, AxiomApplication, SplitApplication, CutApplication, BoundApplication, CloseApplication, left_of, IsDueApplication, BoundDue, OpenBranches, after_applications, begun, AreDue, IsShortBranch, IsReached}
use Rattle.tree_checks.specs.Grown.{BoundsDue, IsDueWhenever, Step, IsGrownStep, IsGrownFrom, denial, IsGrown}

-- what holds of each element by its index holds of all
pub all_found : {X : Type 0} (P : X → Type 0) (xs : List X) → ((k : ℕ) (x : X) → slice_get xs k ≡ Some x → P x) → All P xs
all_found P [] h = All-nil P
all_found P (x ∷ xs) h = All-cons P x xs (h 0 x refl) (all_found P xs (λ k y e. h (suc k) y e))

pub found : {X : Type 0} (P : X → Type 0) (xs : List X) (k : ℕ) (x : X) → All P xs → slice_get xs k ≡ Some x → P x
found P [] k x h e = absurd (cc)
found P (y ∷ xs) zero x h e = (let same : y ≡ x = cc in subst P same (All-head P y xs h))
found P (y ∷ xs) (suc k) x h e = found P xs k x (All-tail P y xs h) e

sides_turned : (d : ℕ) → 1 + max 1 d ≤ 2000 → 1 + max d 1 ≤ 2000
sides_turned d h = omega (arith, h)

module _ (shapes : List Shape) where
  -- one more step after others
  grown_more : (b c d : Branch) (ss : List Step) (s : Step) → IsGrownFrom shapes b ss c → IsGrownStep shapes c s d → IsGrownFrom shapes b (ss ++ s ∷ []) d
  grown_more b c d [] s h step = (d, subst (λ x. IsGrownStep shapes x s d) (sym h) step, refl)
  grown_more b c d (r ∷ ss) s h step = (h.0, h.1, grown_more h.0 c d ss s h.2 step)

  bounds : (b : Branch) (i : ℕ) (t : TermData) (k : ℤ) → BoundDue shapes b i t k → BoundsDue b i t k
  bounds b i t k h = record { says = h.says; shallow = sides_turned (term_depth t) h.shallow; shallow_next = h.shallow }

  module _ (p : FormulaData) where
    by_steps : (b : Branch) (application : Application) → IsGrown shapes p b → IsDueWhenever shapes b application → All IsShortBranch (left_of b application) → All (IsGrown shapes p) (left_of b application)
    by_steps b application grown due short = all_found (IsGrown shapes p) (left_of b application) (λ k c e. (
        let step : IsGrownStep shapes b (record { application = application; case = k }) c = record { due = due; left = e; short = found IsShortBranch (left_of b application) k c short e } in
        record { steps = grown.steps ++ record { application = application; case = k } ∷ []; grown = grown_more (denial p) b c grown.steps (record { application = application; case = k }) grown.grown step }))

    after_one : (b : Branch) (application : Application) → IsGrown shapes p b → IsDueApplication shapes b application → All IsShortBranch (left_of b application) → All (IsGrown shapes p) (left_of b application)
    after_one b (PartsApplication i ps) grown due short = by_steps b (PartsApplication i ps) grown due short
    after_one b (NameApplication i v q) grown due short = by_steps b (NameApplication i v q) grown due short
    after_one b (InstanceApplication i t q g) grown due short = by_steps b (InstanceApplication i t q g) grown due short
    after_one b (AxiomApplication name q g) grown due short = by_steps b (AxiomApplication name q g) grown due short
    after_one b (SplitApplication i ps) grown due short = by_steps b (SplitApplication i ps) grown due.0 short
    after_one b (CutApplication t u g) grown due short = by_steps b (CutApplication t u g) grown (due.0, due.1) short
    after_one b (BoundApplication i t k) grown due short = by_steps b (BoundApplication i t k) grown (bounds b i t k due) short
    after_one b (CloseApplication chain by) grown due short = All-nil (IsGrown shapes p)

    -- all branches that a trace leaves open are grown if those at its start are
    after_all : (bs : OpenBranches) (applications : List Application) → All (IsGrown shapes p) bs → AreDue shapes bs applications → All (IsGrown shapes p) (after_applications bs applications)
    after_all bs [] grown due = grown
    after_all [] (application ∷ applications) grown due = absurd due.0
    after_all (b ∷ bs) (application ∷ applications) grown due =
        after_all (left_of b application ++ bs) applications (All-append (IsGrown shapes p) (left_of b application) bs (after_one b application (All-head (IsGrown shapes p) b bs grown) due.0.0 due.0.1) (All-tail (IsGrown shapes p) b bs grown)) due.1

    pub reached_is_grown : (applications : List Application) (b : Branch) → IsReached shapes p applications b → IsGrown shapes p b
    reached_is_grown applications b h =
        let first : IsGrown shapes p (denial p) = record { steps = []; grown = refl } in
        let all = after_all (begun p) applications (All-cons (IsGrown shapes p) (denial p) [] first (All-nil (IsGrown shapes p))) h.due in
        All-head (IsGrown shapes p) b h.others (subst (All (IsGrown shapes p)) h.first all)
