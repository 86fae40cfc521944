-- A trace while it is read: the rest is partial, from the branches open now, exactly if all of it is from the start.
use Rattle.std.proofs.Common.{◌≡◌, ◌↔◌, ℕ, ◌+◌, ◌<◌, ◌≤◌, Bool, false, IsTrue, List, [], ◌∷◌, length, drop, get_or, Option, sym, ap, ◌∙◌, subst, arith}
use Rattle.std.specs.Prelude.{All}
use Rattle.std.proofs.lemmas.List.{drop_more, drop_all}
use Rattle.std.proofs.lemmas.List.Elements.{All-get_or}
use Rattle.fol.specs.declared.shapes.Shape.{Shape}
use Rattle.term_pool.specs.Pools.{Extends, IsOneNumber}
use Rattle.term_pool.specs.declared.node.Node.{Node}
use Rattle.term_pool.proofs.GrowthLemmas.{extends_itself, extends_then}
use Rattle.certificates.specs.ProofTraces.{OpenBranches}
use Rattle.tableau.specs.PoolBranches.{IsFormulaNumber}
use Rattle.tree_checks.specs.Steps.{first_branch}
use Rattle.tree_checks.proofs.GrownTruthLemmas.{never}
use Rattle.tree_checks.specs.Partial.{IsNumbered, IsChainNumbered, IsTakenBy, IsNotTakenBy, AreTakenBy, steps_of, ArePartial}
use Rattle.tree_checks.specs.Walks.{opened, IsWalk}
use Rattle.tree_checks.specs.declared.partial.applications.GivenChain.{GivenChain}
use Rattle.tree_checks.specs.declared.partial.applications.GivenApplication.{GivenApplication}
use Rattle.tree_checks.specs.declared.partial.walk.Walk.{Walk}
use Rattle.tree_checks.proofs.AfterLemmas.{taken_once, AreIn, taken_in, first_in}
use Rattle.tree_checks.proofs.TakenLemmas.{taken_before, not_taken_before, numbered_later, ended_before, ended_later}

-- ---- one application of the rest

module _ (shapes : List Shape) (ns : List Node) (bs : OpenBranches) (application : GivenApplication) (applications : List GivenApplication) (chain : Option GivenChain) where
  one_less : (cs : OpenBranches) → IsTakenBy shapes ns bs application cs → (left rest : ℕ) → steps_of application + rest ≡ left → ArePartial shapes ns cs applications chain rest → ArePartial shapes ns bs (application ∷ applications) chain left
  one_less cs taken left rest e h = record { left = h.left; taken = (cs, taken, h.taken); ends = h.ends; steps = (let s = h.steps in omega (arith, s, e)) }

  one_more : (cs : OpenBranches) → IsTakenBy shapes ns bs application cs → (left rest : ℕ) → steps_of application + rest ≡ left → ArePartial shapes ns bs (application ∷ applications) chain left → ArePartial shapes ns cs applications chain rest
  one_more cs taken left rest e h =
      let once : h.taken.0 ≡ cs = taken_once shapes ns application bs h.taken.0 cs h.taken.1 taken in
      record { left = h.left; taken = subst (λ (os : OpenBranches). AreTakenBy shapes ns os applications h.left) once h.taken.2; ends = h.ends; steps = (let s = h.steps in omega (arith, s, e)) }

  none_taken : IsNotTakenBy shapes ns bs application → (left : ℕ) → ArePartial shapes ns bs (application ∷ applications) chain left → ⊥
  none_taken none left h = none.none h.taken.0 h.taken.1

  too_few : (left : ℕ) → left < steps_of application → ArePartial shapes ns bs (application ∷ applications) chain left → ⊥
  too_few left w h = (let s = h.steps in absurd (omega (arith, s, w)))

-- ---- the loop

pub record IsReading (shapes : List Shape) (ns ms : List Node) (start : OpenBranches) (applications : List GivenApplication) (chain : Option GivenChain) (count i : ℕ) (w : Walk) (left : ℕ) : Type 0 where
  pub extends : Extends ns ms
  pub walk : IsWalk ms w
  pub inside : AreIn ns (opened ms w)
  pub rest : ArePartial shapes ns (opened ms w) (drop i applications) chain left ↔ ArePartial shapes ns start applications chain count

module _ (shapes : List Shape) (ns : List Node) (n : ℕ) (applications : List GivenApplication) (chain : Option GivenChain) (count : ℕ) where
  abbrev start : OpenBranches
  start = first_branch ns n ∷ []

  abbrev Whole : Type 0
  Whole = ArePartial shapes ns start applications chain count

  pub reading_begun : IsFormulaNumber ns n → (w : Walk) → IsWalk ns w → opened ns w ≡ start → IsReading shapes ns ns start applications chain count 0 w count
  reading_begun number w walk is = record {
    extends = extends_itself ns;
    walk = walk;
    inside = subst (AreIn ns) (sym is) (first_in ns n number);
    rest = (λ h. subst (λ (os : OpenBranches). ArePartial shapes ns os applications chain count) is h, λ h. subst (λ (os : OpenBranches). ArePartial shapes ns os applications chain count) (sym is) h);
  }

  module _ (ms : List Node) (i : ℕ) (w : Walk) (left : ℕ) (reading : IsReading shapes ns ms start applications chain count i w left) where
    -- the trace ends
    pub read_through : length applications ≤ i → IsChainNumbered ns chain → (known : Bool) → IsTrue known ↔ ArePartial shapes ms (opened ms w) [] chain left → IsTrue known ↔ Whole
    read_through past named known h =
        let none : drop i applications ≡ [] = drop_all i applications past in
        let bs = opened ms w in (
          λ t. reading.rest.0 (subst (λ ts. ArePartial shapes ns bs ts chain left) (sym none) (ended_before shapes ns ms reading.extends bs chain left named (h.0 t))),
          λ whole. h.1 (ended_later shapes ns ms reading.extends bs chain left named (subst (λ ts. ArePartial shapes ns bs ts chain left) none (reading.rest.1 whole))),
        )

    -- the trace continues with an application
    module _ (x : GivenApplication) (within : i < length applications) (is : x ≡ get_or applications i x) (numbers : All (IsNumbered ns) applications) where
      application_numbered : IsNumbered ns x
      application_numbered = subst (IsNumbered ns) (sym is) (All-get_or (IsNumbered ns) applications i x within numbers)

      pub application_numbers : IsNumbered ms x
      application_numbers = numbered_later shapes ns ms reading.extends x application_numbered

      onwards : drop i applications ≡ x ∷ drop (i + 1) applications
      onwards = drop_more applications i x within ∙ ap (λ y. y ∷ drop (i + 1) applications) (sym is)

      next : Whole → ArePartial shapes ns (opened ms w) (x ∷ drop (i + 1) applications) chain left
      next whole = subst (λ ts. ArePartial shapes ns (opened ms w) ts chain left) onwards (reading.rest.1 whole)

      whole_of : ArePartial shapes ns (opened ms w) (x ∷ drop (i + 1) applications) chain left → Whole
      whole_of h = reading.rest.0 (subst (λ ts. ArePartial shapes ns (opened ms w) ts chain left) (sym onwards) h)

      pub steps_lack : left < steps_of x → IsTrue false ↔ Whole
      steps_lack few = never (λ whole. too_few shapes ns (opened ms w) x (drop (i + 1) applications) chain left few (next whole))

      module _ (one : IsOneNumber ms) where
        pub stuck : IsNotTakenBy shapes ms (opened ms w) x → IsTrue false ↔ Whole
        stuck none = never (λ whole. none_taken shapes ns (opened ms w) x (drop (i + 1) applications) chain (not_taken_before shapes ns ms reading.extends one w reading.walk reading.inside x application_numbered none) left (next whole))

        pub read_on : (ks : List Node) (v : Walk) (rest : ℕ) → Extends ms ks → IsWalk ks v → steps_of x + rest ≡ left → IsTakenBy shapes ms (opened ms w) x (opened ks v) → IsReading shapes ns ks start applications chain count (i + 1) v rest
        read_on ks v rest grown walk e h =
            let taken = taken_before shapes ns ms reading.extends one w reading.walk reading.inside x application_numbered (opened ks v) h in
            let later = drop (i + 1) applications in
            record {
              extends = extends_then reading.extends grown;
              walk = walk;
              inside = taken_in ns shapes x (opened ms w) (opened ks v) application_numbered taken reading.inside;
              rest = (λ t. whole_of (one_less shapes ns (opened ms w) x later chain (opened ks v) taken left rest e t), λ t. one_more shapes ns (opened ms w) x later chain (opened ks v) taken left rest e (next t));
            }
