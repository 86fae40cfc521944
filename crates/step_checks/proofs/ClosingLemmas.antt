-- Whether a closing by number closes a branch.
use Rattle.std.proofs.Common.{◌≡◌, ◌↔◌, ◌+◌, ◌≤◌, Bool, false, IsTrue, List, [], ◌∷◌, ◌++◌, length, map, sym, ap, ◌∙◌, subst, arith, length-append}
use Rattle.std.specs.Prelude.{All}
use Rattle.std.proofs.lemmas.List.Elements.{All-nil, All-cons, All-head}
use Rattle.fol.specs.declared.shapes.Shape.{Shape}
use Rattle.fol.specs.FormulaData.{FormulaData}
use Rattle.certificates.specs.CertData.{CloseData}
use Rattle.certificates.specs.Closes.{most_entries, IsStep, IsClose, added}
use Rattle.term_pool.specs.declared.node.Node.{Node}
use Rattle.certificates.specs.BranchesBranch.{Branch, formulas}
use Rattle.certificates.specs.Due.{IsShallow}
use Rattle.certificates.specs.ProofTraces.{AreLinks, after_links, ClosesBranch}
use Rattle.explanations.specs.Chains.{step_in}
use Rattle.explanations.specs.declared.chain.ChainStep.{ChainStep}
use Rattle.explanations.specs.declared.chain.ChainStep.TheVariants.{Itself, Rewritten}
use Rattle.step_checks.specs.Links.{IsShallowStep, AreShallow}
use Rattle.step_checks.proofs.ClosingsTruthLemmas.{never}
use Rattle.step_checks.proofs.LinkLemmas.{adds_one}

module _ (ns : List Node) where
  -- each step extends the list of formulas by one
  after_length : (ps : List FormulaData) (ss : List ChainStep) → length (after_links ps (map (step_in ns) ss)) ≡ length ps + length ss
  after_length ps [] = omega arith
  after_length ps (s ∷ ss) =
      let rest = after_length (ps ++ added (step_in ns s)) ss in
      let one = ap length (adds_one ns s) in
      omega (arith, rest, one, length-append ps (added (step_in ns s)))

  step_shallow : (shapes : List Shape) (ps : List FormulaData) (s : ChainStep) → IsStep shapes ps (step_in ns s) → IsShallowStep ns s
  step_shallow shapes ps (Itself k) h = All-head IsShallow _ [] h.shallow
  step_shallow shapes ps (Rewritten r) h = (h.names, All-head IsShallow _ [] h.shallow)

  links_shallow : (shapes : List Shape) (b : Branch) (ps : List FormulaData) (ss : List ChainStep) → AreLinks shapes b ps (map (step_in ns) ss) → All (IsShallowStep ns) ss
  links_shallow shapes b ps [] h = All-nil (IsShallowStep ns)
  links_shallow shapes b ps (s ∷ ss) h = All-cons (IsShallowStep ns) s ss (step_shallow shapes ps s h.1) (links_shallow shapes b (ps ++ added (step_in ns s)) ss h.2)

  module _ (shapes : List Shape) (b : Branch) (ss : List ChainStep) (by : CloseData) where
    abbrev Closed : Type 0
    Closed = ClosesBranch shapes b (map (step_in ns) ss) by

    -- there are as many trees of entries as entries
    long : (ps : List FormulaData) → ps ≡ formulas b → length (after_links (formulas b) (map (step_in ns) ss)) ≡ length ps + length ss
    long ps e = after_length (formulas b) ss ∙ ap (λ qs. length qs + length ss) (sym e)

    pub too_long : (ps : List FormulaData) → ps ≡ formulas b → (known : Bool) → IsTrue known ↔ (length ps + length ss ≤ most_entries) → known ≡ false → IsTrue false ↔ Closed
    too_long ps e known h fails = never (λ closed. (
        let l = long ps e in
        let s = closed.short in
        let yes = h.1 (omega (arith, l, s)) in
        absurd (cc)))

    pub too_deep : (known : Bool) → IsTrue known ↔ AreShallow ns ss → known ≡ false → IsTrue false ↔ Closed
    too_deep known h fails = never (λ closed. (let yes = h.1 (record { each = links_shallow shapes b (formulas b) ss closed.links }) in absurd (cc)))

    pub no_links : (known : Bool) → IsTrue known ↔ AreLinks shapes b (formulas b) (map (step_in ns) ss) → known ≡ false → IsTrue false ↔ Closed
    no_links known h fails = never (λ closed. (let yes = h.1 closed.links in absurd (cc)))

    pub closed_given : (ps : List FormulaData) → ps ≡ formulas b → length ps + length ss ≤ most_entries → AreLinks shapes b (formulas b) (map (step_in ns) ss) → (line : List FormulaData) → line ≡ after_links (formulas b) (map (step_in ns) ss) → (known : Bool) → IsTrue known ↔ IsClose line by → IsTrue known ↔ Closed
    closed_given ps e few links line leads known h = (
      λ yes. record {
        links = links;
        short = (let l = long ps e in omega (arith, l, few));
        closes = subst (λ qs. IsClose qs by) leads (h.0 yes);
      },
      λ closed. h.1 (subst (λ qs. IsClose qs by) (sym leads) closed.closes),
    )
