-- A trace while it is read: the part read is due, application by application, with the grounds found.
use Rattle.std.proofs.Common.{◌≡◌, ℕ, ◌+◌, List, [], ◌∷◌, ◌++◌, length, map, Option, refl, sym, ap, ◌∙◌, subst, arith}
use Rattle.std.specs.Prelude.{All}
use Rattle.std.specs.List.{AllZip}
use Rattle.std.proofs.lemmas.List.Elements.{All-nil, All-cons, All-head, All-tail, All-append}
use Rattle.fol.specs.declared.shapes.Shape.{Shape}
use Rattle.fol.specs.FormulaData.{FormulaData, NotFormula}
use Rattle.term_pool.specs.Pools.{Extends}
use Rattle.term_pool.specs.declared.node.Node.{Node}
use Rattle.term_pool.proofs.GrowthLemmas.{extends_itself, extends_then}
use Rattle.certificates.specs.ProofTraces.{OpenBranches, begun, entry_with}
use Rattle.certificates.specs.declared.branches.origin.Origin.TheVariants.{Other}
use Rattle.tableau.specs.PoolBranches.{IsFormulaNumber}
use Rattle.tableau.specs.Numbers.{formula_at}
use Rattle.search.specs.Applications.{IsApplicationOf}
use Rattle.search.specs.declared.trees.application.PoolApplication.{PoolApplication}
use Rattle.search.specs.declared.trees.application.PoolApplication.TheVariants.{Grown as PoolGrown, Closed as PoolClosed}
use Rattle.tree_checks.specs.Steps.{first_branch}
use Rattle.tree_checks.proofs.LeadLemmas.{numbers_later}
use Rattle.tree_checks.specs.Partial.{IsNumbered, IsChainNumbered, IsTakenBy, AreTakenBy, steps_in_all, ArePartial, application_of, steps_of as steps_given}
use Rattle.tree_checks.specs.Walks.{opened, IsWalk}
use Rattle.tree_checks.specs.declared.partial.applications.GivenChain.{GivenChain}
use Rattle.tree_checks.specs.declared.partial.applications.GivenApplication.{GivenApplication}
use Rattle.tree_checks.specs.declared.partial.applications.GivenApplication.TheVariants.{Grown, Closed}
use Rattle.tree_checks.specs.declared.partial.walk.Walk.{Walk}
use Rattle.tree_checks.proofs.AfterLemmas.{AreIn, taken_in, first_in}
use Rattle.tree_checks.proofs.PartialKeptLemmas.{kept_still}
use Rattle.tree_checks.proofs.TakenLemmas.{numbered_later, taken_before, ended_before}
use Rattle.tree_checks.proofs.PartialTextLemmas.{IsTextOf, text_of, tree_with}
use Rattle.tree_checks.proofs.WalkLemmas.{opened_same, walk_later}
use Rattle.tree_checks.specs.Numbers.{IsApplicationNumbered}
use Rattle.tree_checks.specs.Texts.{steps_of, IsTakenFor, IsPartialText}

-- ---- a walk over a pool that is extended

pub walk_still : (ns ms : List Node) → Extends ns ms → (w : Walk) → IsWalk ns w → IsWalk ms w
walk_still ns ms grown w h = walk_later ns ms grown w w.kept h (kept_still ns ms grown w.branch h.over w.kept h.kept)

-- ---- applications with their grounds

pub numbers_given : (ns : List Node) (given : GivenApplication) (application : PoolApplication) → application_of given ≡ application → IsApplicationNumbered ns application → IsNumbered ns given
numbers_given ns given application same h = go given (subst (IsApplicationNumbered ns) (sym same) h)
  where
    go : (g : GivenApplication) → IsApplicationNumbered ns (application_of g) → IsNumbered ns g
    go (Grown g) k = k
    go (Closed c) k = k

same_steps : (given : GivenApplication) → steps_given given ≡ steps_of (application_of given)
same_steps (Grown g) = refl
same_steps (Closed c) = refl

steps_more : (gs : List GivenApplication) (g : GivenApplication) → steps_in_all (gs ++ g ∷ []) ≡ steps_in_all gs + steps_given g
steps_more [] g = omega arith
steps_more (x ∷ gs) g = (let rest = steps_more gs g in omega (arith, rest))

applications_more : (gs : List GivenApplication) (g : GivenApplication) (rest : List PoolApplication) → map application_of (gs ++ g ∷ []) ++ rest ≡ map application_of gs ++ application_of g ∷ rest
applications_more [] g rest = refl
applications_more (x ∷ gs) g rest = ap (λ ts. application_of x ∷ ts) (applications_more gs g rest)

pub application_later : (shapes : List Shape) (ns ms : List Node) → Extends ns ms → (application : PoolApplication) → IsApplicationNumbered ns application → IsApplicationNumbered ms application
application_later shapes ns ms grown (PoolGrown g) h = numbers_later ns ms grown g h
application_later shapes ns ms grown (PoolClosed c) h = numbered_later shapes ns ms grown (Closed c) h

pub none_of : (ts : List PoolApplication) → length ts ≡ 0 → ts ≡ []
none_of [] e = refl
none_of (t ∷ ts) e = absurd (omega (arith, e))

none_left : (ts : List PoolApplication) → ts ++ [] ≡ ts
none_left [] = refl
none_left (t ∷ ts) = ap (λ xs. t ∷ xs) (none_left ts)

taken_more : (shapes : List Shape) (ns : List Node) (bs : OpenBranches) (gs : List GivenApplication) (cs : OpenBranches) (g : GivenApplication) (ds : OpenBranches) → AreTakenBy shapes ns bs gs cs → IsTakenBy shapes ns cs g ds → AreTakenBy shapes ns bs (gs ++ g ∷ []) ds
taken_more shapes ns bs [] cs g ds h t = (ds, subst (λ (os : OpenBranches). IsTakenBy shapes ns os g ds) (sym h) t, refl)
taken_more shapes ns bs (x ∷ gs) cs g ds h t = (h.0, h.1, taken_more shapes ns h.0 gs cs g ds h.2 t)

-- ---- the loop

pub record IsRead (shapes : List Shape) (ns ms : List Node) (start : OpenBranches) (text rest : List PoolApplication) (count : ℕ) (w : Walk) (left : ℕ) : Type 0 where
  pub extends : Extends ns ms
  pub walk : IsWalk ms w
  pub inside : AreIn ns (opened ms w)
  pub numbers : All (IsApplicationNumbered ns) rest
  pub givens : List GivenApplication
  pub numbered : All (IsNumbered ns) givens
  pub taken : AreTakenBy shapes ns start givens (opened ms w)
  pub all : map application_of givens ++ rest ≡ text
  pub steps : steps_in_all givens + left ≡ count

module _ (shapes : List Shape) (ns : List Node) (n : ℕ) (text : List PoolApplication) (count : ℕ) where
  abbrev start : OpenBranches
  start = first_branch ns n ∷ []

  pub read_begun : IsFormulaNumber ns n → All (IsApplicationNumbered ns) text → (w : Walk) → IsWalk ns w → opened ns w ≡ start → (rest : List PoolApplication) → rest ≡ text → IsRead shapes ns ns start text rest count w count
  read_begun number numbers w walk is rest all = record {
    extends = extends_itself ns;
    walk = walk;
    inside = subst (AreIn ns) (sym is) (first_in ns n number);
    numbers = subst (All (IsApplicationNumbered ns)) (sym all) numbers;
    givens = [];
    numbered = All-nil (IsNumbered ns);
    taken = sym is;
    all = all;
    steps = omega arith;
  }

  module _ (ms : List Node) (w : Walk) (left : ℕ) where
    -- the trace continues with an application
    module _ (rest later : List PoolApplication) (application : PoolApplication) (reading : IsRead shapes ns ms start text rest count w left) (next : rest ≡ application ∷ later) where
      numbers_now : All (IsApplicationNumbered ns) (application ∷ later)
      numbers_now = subst (All (IsApplicationNumbered ns)) next reading.numbers

      pub application_numbers : IsApplicationNumbered ns application
      application_numbers = All-head (IsApplicationNumbered ns) application later numbers_now

      module _ (ks : List Node) (v : Walk) (t : IsTakenFor shapes ms (opened ms w) application (opened ks v)) where
        taken_first : IsTakenBy shapes ns (opened ms w) t.given (opened ks v)
        taken_first =
            let same : opened t.pool w ≡ opened ms w = opened_same ms t.pool t.extends w reading.walk in
            let walk = walk_still ms t.pool t.extends w reading.walk in
            let inside = subst (AreIn ns) (sym same) reading.inside in
            let numbers = numbers_given ns t.given application t.same application_numbers in
            let there = subst (λ (os : OpenBranches). IsTakenBy shapes t.pool os t.given (opened ks v)) (sym same) t.taken in
            subst (λ (os : OpenBranches). IsTakenBy shapes ns os t.given (opened ks v)) same (taken_before shapes ns t.pool (extends_then reading.extends t.extends) t.one w walk inside t.given numbers (opened ks v) there)

        pub read_on : Extends ms ks → IsWalk ks v → (left_now : ℕ) → steps_of application + left_now ≡ left → IsRead shapes ns ks start text later count v left_now
        read_on grown walk left_now e =
            let numbers = numbers_given ns t.given application t.same application_numbers in
            let one = same_steps t.given ∙ ap steps_of t.same in
            let more = steps_more reading.givens t.given in
            let steps = reading.steps in
            record {
              extends = extends_then reading.extends grown;
              walk = walk;
              inside = taken_in ns shapes t.given (opened ms w) (opened ks v) numbers taken_first reading.inside;
              numbers = All-tail (IsApplicationNumbered ns) application later numbers_now;
              givens = reading.givens ++ t.given ∷ [];
              numbered = All-append (IsNumbered ns) reading.givens (t.given ∷ []) reading.numbered (All-cons (IsNumbered ns) t.given [] numbers (All-nil (IsNumbered ns)));
              taken = taken_more shapes ns start reading.givens (opened ms w) t.given (opened ks v) reading.taken taken_first;
              all = applications_more reading.givens t.given later ∙ ap (λ x. map application_of reading.givens ++ x ∷ later) t.same ∙ ap (λ ts. map application_of reading.givens ++ ts) (sym next) ∙ reading.all;
              steps = omega (arith, one, more, steps, e);
            }

    -- the trace ends
    pub read_through : (rest : List PoolApplication) → rest ≡ [] → IsRead shapes ns ms start text rest count w left → (chain : Option GivenChain) → IsChainNumbered ns chain → ArePartial shapes ms (opened ms w) [] chain left → (p : FormulaData) → formula_at ns n ≡ NotFormula p → IsPartialText shapes ns p text chain count
    read_through rest none reading chain named h p e =
        let ended = ended_before shapes ns ms reading.extends (opened ms w) chain left named h in
        let leads = subst (λ (os : OpenBranches). AreTakenBy shapes ns start reading.givens os) ended.taken reading.taken in
        let it : IsTextOf shapes ns reading.givens (begun p) ended.left = text_of shapes ns reading.givens (begun p) ended.left reading.numbered (subst (λ q. AreTakenBy shapes ns ((entry_with 0 Other q ∷ []) ∷ []) reading.givens ended.left) e leads) in
        let whole : map application_of reading.givens ≡ text = sym (none_left (map application_of reading.givens)) ∙ ap (λ ts. map application_of reading.givens ++ ts) (sym none) ∙ reading.all in
        let steps = reading.steps in
        let last = ended.steps in
        record {
          applications = it.text;
          are_applications = subst (λ ts. AllZip (IsApplicationOf ns) ts it.text) whole it.are;
          partial = tree_with shapes ns p reading.givens ended.left chain count it ended.ends (omega (arith, steps, last));
        }
