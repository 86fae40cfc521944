-- The numbers of entries in rule applications are those of entries of a branch, so a certificate can hold them.
use Rattle.std.proofs.Common.{◌≡◌, ℕ, ◌<◌, ◌≤◌, ◌^◌, true, List, [], ◌∷◌, ◌++◌, length, map, Some, ap, subst, arith, length-append}
use Rattle.std.specs.Prelude.{All, slice_get}
use Rattle.std.specs.List.{AllZip}
use Rattle.std.proofs.lemmas.List.{length-map}
use Rattle.std.proofs.lemmas.List.Elements.{All-nil, All-cons, All-head, All-tail, All-append}
use Rattle.std.proofs.lemmas.Option.{slice_get_within}
use Rattle.fol.specs.declared.shapes.Shape.{Shape}
use Rattle.fol.specs.FormulaData.{FormulaData, NotFormula}
use Rattle.certificates.specs.CertData.{StepData}
use Rattle.certificates.specs.Closes.{added}
use Rattle.term_pool.specs.declared.node.Node.{Node}
use Rattle.certificates.specs.BranchesBranch.{Branch, Says}
use Rattle.certificates.specs.ProofTraces.{Application, entry_with, left_of, IsDueApplication, IsShortBranch, AreLinks, after_links, OpenBranches, AreDue, begun}
use Rattle.certificates.specs.declared.branches.origin.Origin.TheVariants.{Other}
use Rattle.certificates.specs.BranchesBranch.{formulas}
use Rattle.explanations.specs.Chains.{step_in}
use Rattle.explanations.specs.declared.chain.ChainStep.{ChainStep}
use Rattle.explanations.specs.declared.chain.ChainStep.TheVariants.{Itself, Rewritten}
use Rattle.tableau.specs.Numbers.{formula_at}
use Rattle.search.specs.Applications.{formulas_of, IsAddedFor, AsParts, AsName, AsInstance, AsAxiom, AsSplit, AsCut, AsBound, IsExtensionOf, IsClosingOf, IsApplicationOf}
use Rattle.search.specs.declared.trees.application.Reason.{Reason}
use Rattle.search.specs.declared.trees.application.Extension.{Extension}
use Rattle.search.specs.declared.trees.application.Closing.{Closing}
use Rattle.search.specs.declared.trees.application.PoolApplication.{PoolApplication}
use Rattle.search.specs.declared.trees.application.PoolApplication.TheVariants.{Grown, Closed}
use Rattle.certificate_text.specs.Moves.{spells_first, named_entry, FitsExtension, FitsLink, FitsClosing, FitsApplication, DueText, IsTextOf}

-- ---- extensions

entry_small : {X : Type 0} (xs : List X) (i : ℕ) (x : X) → slice_get xs i ≡ Some x → length xs ≤ 4000 → i < 2 ^ 32
entry_small xs i x found short = (let w = slice_get_within xs i x found in omega (arith, w, short))

module _ (shapes : List Shape) (ns : List Node) (b : Branch) (short : length b ≤ 4000) where
  said_small : (i : ℕ) (p : FormulaData) → Says b i p → i < 2 ^ 32
  said_small i p s = entry_small b i s.entry s.found short

  added_small : (ps : List FormulaData) (r : Reason) (g : ℕ) (application : Application) → IsAddedFor ns ps r g application → IsDueApplication shapes b application → named_entry r < 2 ^ 32
  added_small ps r g application (AsParts i k) due = said_small i due.entry due.says
  added_small ps r g application (AsName i v k p is) due = said_small i due.entry due.says
  added_small ps r g application (AsInstance i t k p is) due = entry_small b i due.entry due.found short
  added_small ps r g application (AsAxiom name k p is) due = omega arith
  added_small ps r g application (AsSplit i k) due = said_small i due.0.entry due.0.says
  added_small ps r g application (AsCut t u k is) due = omega arith
  added_small ps r g application (AsBound i t k z is) due = said_small i _ due.says

some_first : (ns : List Node) (ps : List FormulaData) (r : Reason) (g : ℕ) (application : Application) → IsAddedFor ns ps r g application → spells_first r ≡ true → 0 < length ps
some_first ns ps r g application (AsParts i k) e = absurd (cc)
some_first ns ps r g application (AsName i v k p is) e = (let l = ap length is in omega (arith, l))
some_first ns ps r g application (AsInstance i t k p is) e = (let l = ap length is in omega (arith, l))
some_first ns ps r g application (AsAxiom name k p is) e = (let l = ap length is in omega (arith, l))
some_first ns ps r g application (AsSplit i k) e = absurd (cc)
some_first ns ps r g application (AsCut t u k is) e = (let l = ap length is in omega (arith, l))
some_first ns ps r g application (AsBound i t k z is) e = (let l = ap length is in omega (arith, l))

extension_fits : (shapes : List Shape) (ns : List Node) (b : Branch) (g : Extension) (application : Application) → length b ≤ 4000 → IsExtensionOf ns g application → IsDueApplication shapes b application → FitsExtension g
extension_fits shapes ns b g application short h due = record {
  entry = added_small shapes ns b short (formulas_of ns g) g.reason g.generation application h.added due;
  some = λ e. (
      let some = some_first ns (formulas_of ns g) g.reason g.generation application h.added e in
      let l = length-map g.formulas.items (formula_at ns) in
      omega (arith, some, l));
}

-- ---- explanation steps

module _ (shapes : List Shape) (ns : List Node) (b : Branch) where
  links_longer : (ps : List FormulaData) (ss : List StepData) → length ps ≤ length (after_links ps ss)
  links_longer ps [] = omega arith
  links_longer ps (s ∷ ss) = (let l = length-append ps (added s) in let k = links_longer (ps ++ added s) ss in omega (arith, l, k))

  links_fit : (ps : List FormulaData) (ss : List ChainStep) → AreLinks shapes b ps (map (step_in ns) ss) → length (after_links ps (map (step_in ns) ss)) ≤ 4000 → All FitsLink ss
  links_fit ps [] h short = All-nil FitsLink
  links_fit ps (Itself k ∷ ss) h short =
      All-cons FitsLink (Itself k) ss (record { equation = omega arith; source = omega arith })
      (links_fit (ps ++ added (step_in ns (Itself k))) ss h.2 short)
  links_fit ps (Rewritten r ∷ ss) h short =
      let longer = links_longer ps (map (step_in ns) (Rewritten r ∷ ss)) in
      let few : length ps ≤ 4000 = omega (arith, longer, short) in
      let allowed = h.1.allowed in
      All-cons FitsLink (Rewritten r) ss (record {
        equation = entry_small ps r.equation allowed.0 allowed.2 few;
        source = entry_small ps r.source allowed.1 allowed.3 few;
      })
      (links_fit (ps ++ added (step_in ns (Rewritten r))) ss h.2 short)

closing_fits : (shapes : List Shape) (ns : List Node) (b : Branch) (c : Closing) (application : Application) → IsClosingOf ns c application → IsDueApplication shapes b application → FitsClosing c
closing_fits shapes ns b c application h due =
    let here = subst (λ (t : Application). IsDueApplication shapes b t) h.is due in
    record { links = links_fit shapes ns b (formulas b) c.chain.items here.links here.short }

-- ---- traces

application_fits : (shapes : List Shape) (ns : List Node) (b : Branch) (t : PoolApplication) (application : Application) → length b ≤ 4000 → IsApplicationOf ns t application → IsDueApplication shapes b application → FitsApplication t
application_fits shapes ns b (Grown g) application short h due = extension_fits shapes ns b g application short h due
application_fits shapes ns b (Closed c) application short h due = closing_fits shapes ns b c application h due

due_fits : (shapes : List Shape) (ns : List Node) (text : List PoolApplication) (applications : List Application) (bs : OpenBranches) → AllZip (IsApplicationOf ns) text applications → AreDue shapes bs applications → All IsShortBranch bs → All FitsApplication text
due_fits shapes ns [] [] bs zip due short = All-nil FitsApplication
due_fits shapes ns [] (application ∷ applications) bs zip due short = absurd zip
due_fits shapes ns (t ∷ text) [] bs zip due short = absurd zip
due_fits shapes ns (t ∷ text) (application ∷ applications) [] zip due short = absurd due.0
due_fits shapes ns (t ∷ text) (application ∷ applications) (b ∷ bs) zip due short =
    let here : IsShortBranch b = All-head IsShortBranch b bs short in
    let left = All-append IsShortBranch (left_of b application) bs due.0.1 (All-tail IsShortBranch b bs short) in
    All-cons FitsApplication t text (application_fits shapes ns b t application here zip.0 due.0.0) (due_fits shapes ns text applications (left_of b application ++ bs) zip.1 due.1 left)

pub text_fits : (ns : List Node) (text : List PoolApplication) (d : DueText) → IsTextOf ns text d → All FitsApplication text
text_fits ns text d h =
    let first : Branch = entry_with 0 Other (NotFormula d.formula) ∷ [] in
    due_fits d.shapes ns text d.applications (begun d.formula) h.are_applications h.due (All-cons IsShortBranch first [] (let few : length first ≤ 4000 = omega arith in few) (All-nil IsShortBranch))
