-- What a trace that is a partial tableau by number shows about the formula.
use Rattle.std.proofs.Common.{◌≡◌, ℕ, ◌+◌, ℤ, List, [], ◌∷◌, length, map, take, Option, Some, None, refl, sym, ap, ◌∙◌, subst, arith}
use Rattle.std.specs.Prelude.{All}
use Rattle.std.specs.List.{AllZip}
use Rattle.std.proofs.lemmas.List.{length-map, take-append-drop, length-take-le}
use Rattle.std.proofs.lemmas.List.Elements.{All-nil, All-head, All-tail, All-weaker}
use Rattle.fol.specs.declared.shapes.Shape.{Shape}
use Rattle.fol.specs.FormulaData.{TermData, FormulaData, NotFormula}
use Rattle.linear_arith.specs.Answer.{IsSolution}
use Rattle.linear_arith.specs.Values.{AreAllChosen}
use Rattle.certificates.specs.CertView.{close_of_node}
use Rattle.step_checks.proofs.ShownLemmas.{chosen}
use Rattle.term_pool.specs.declared.node.Node.{Node}
use Rattle.certificates.specs.BranchesBranch.{Branch}
use Rattle.certificates.specs.ProofTraces.{Application, PartsApplication, NameApplication, InstanceApplication, AxiomApplication, SplitApplication, CutApplication, BoundApplication, CloseApplication, IsLate, IsSplitTime, OfRange, Late, BoundDue, IsDueApplication, OpenBranches, AreDue, after_applications, steps_in, begun, entry_with, IsShortBranch, ClosesBranch}
use Rattle.certificates.specs.declared.branches.origin.Origin.TheVariants.{Other}
use Rattle.tableau.specs.Numbers.{formula_at}
use Rattle.explanations.specs.Chains.{step_in, NamesInPool}
use Rattle.explanations.specs.declared.chain.ChainStep.{ChainStep}
use Rattle.explanations.specs.declared.chain.ChainStep.TheVariants.{Itself, Rewritten}
use Rattle.search.specs.declared.values.OpenValues.{OpenValues}
use Rattle.search.specs.Applications.{term_at, IsAddedFor, AsParts, AsName, AsInstance, AsAxiom, AsSplit, AsCut, AsBound, formulas_of, IsApplicationOf}
use Rattle.search.specs.declared.trees.application.Reason.{Reason}
use Rattle.search.proofs.TextLemmas.{size_of}
use Rattle.search.proofs.AddedLemmas.{added_size}
use Rattle.step_checks.specs.Links.{IsNamed, AreNamed}
use Rattle.tree_checks.specs.Late.{IsLateBy}
use Rattle.tree_checks.specs.Grown.{BoundsDue, IsDueWhenever}
use Rattle.tree_checks.specs.Steps.{first_branch}
use Rattle.tree_checks.specs.Timely.{IsSplitBy, IsCutBy, IsPutBy, IsTimely}
use Rattle.tree_checks.specs.Partial.{IsNumbered, IsTreeNumbered, AreTakenBy, steps_in_all, links_of, EndsBy, IsPartialBy, application_of, IsTreeWith, ShowsPartial}
use Rattle.tree_checks.specs.declared.partial.applications.Grounds.{Grounds}
use Rattle.tree_checks.specs.declared.partial.applications.Grounds.TheVariants.{Nothing, Late as OfLate, Bound as OfBound}
use Rattle.tree_checks.specs.declared.partial.applications.GivenChain.{GivenChain}
use Rattle.tree_checks.specs.declared.partial.applications.GivenTree.{GivenTree}
use Rattle.tree_checks.specs.declared.partial.applications.GivenApplication.{GivenApplication}
use Rattle.tree_checks.specs.declared.partial.applications.GivenApplication.TheVariants.{Grown, Closed}

-- ---- what the grounds of an application show

module _ (shapes : List Shape) (ns : List Node) (b : Branch) where
  late : (v : OpenValues) → IsLateBy shapes ns b v → IsLate shapes b
  late v h =
      let has = h.met.has in
      record {
        nothing_early = h.nothing_early;
        not_closed = h.not_closed;
        values = v.values;
        met = record { class = has.class; classes = v.classes.items; rows = h.met.rows; are_rows = has.are_rows; solution = h.met.solution };
      }

  split_time : (i : ℕ) (g : Grounds) → IsSplitBy shapes ns b i g → IsSplitTime shapes b i
  split_time i Nothing h = OfRange h.formula h.says h.is_range
  split_time i (OfLate v) h = Late (late v h)
  split_time i (OfBound g) h = absurd h

  cut_time : (g : Grounds) → IsCutBy shapes ns b g → IsLate shapes b
  cut_time Nothing h = absurd h
  cut_time (OfLate v) h = late v h
  cut_time (OfBound g) h = absurd h

  bound_due : (i : ℕ) (t : TermData) (k : ℤ) (g : Grounds) → BoundsDue b i t k → IsPutBy shapes ns b t k g → BoundDue shapes b i t k
  bound_due i t k Nothing due h = absurd h
  bound_due i t k (OfLate v) due h = absurd h
  bound_due i t k (OfBound g) due h = record {
    saturated = h.saturated;
    says = due.says;
    class = h.class;
    classes = g.values.classes.items;
    rows = h.rows;
    are_rows = h.are_rows;
    before = h.first.before;
    value = h.first.value;
    after = h.first.after;
    chosen = subst (AreAllChosen h.rows) h.first.parts (chosen h.rows g.elimination g.values.values h.chosen);
    solution = subst (IsSolution h.rows) h.first.parts h.solution;
    whole_before = h.first.whole_before;
    of_term = h.first.of_term;
    between = h.first.between;
    shallow = due.shallow_next;
  }

  due_application : (ps : List FormulaData) (r : Reason) (k : ℕ) (application : Application) (g : Grounds) → IsAddedFor ns ps r k application → IsDueWhenever shapes b application → IsTimely shapes ns b r g → IsDueApplication shapes b application
  due_application ps r k application g (AsParts i m) due timely = due
  due_application ps r k application g (AsName i v m p is) due timely = due
  due_application ps r k application g (AsInstance i t m p is) due timely = due
  due_application ps r k application g (AsAxiom name m p is) due timely = due
  due_application ps r k application g (AsSplit i m) due timely = (due, split_time i g timely)
  due_application ps r k application g (AsCut t u m is) due timely = (due.0, due.1, cut_time g timely)
  due_application ps r k application g (AsBound i t m z is) due timely = bound_due i (term_at ns t) z g due timely

-- ---- traces

first_size : (t : Application) (ts : List Application) → steps_in (t ∷ ts) ≡ size_of t + steps_in ts
first_size (PartsApplication i ps) ts = omega arith
first_size (NameApplication i v p) ts = omega arith
first_size (InstanceApplication i t p g) ts = omega arith
first_size (AxiomApplication name p g) ts = omega arith
first_size (SplitApplication i ps) ts = omega arith
first_size (CutApplication t u g) ts = omega arith
first_size (BoundApplication i t k) ts = omega arith
first_size (CloseApplication chain by) ts = omega arith

named : (ns : List Node) (ss : List ChainStep) → AreNamed ns ss → All (NamesInPool ns) ss
named ns ss h = All-weaker (IsNamed ns) (NamesInPool ns) go ss h.each
  where
    go : (s : ChainStep) → IsNamed ns s → NamesInPool ns s
    go (Itself n) k = k.within
    go (Rewritten r) k = (k.0.within, k.1.within)

-- the applications of a trace, due one after another
pub record IsTextOf (shapes : List Shape) (ns : List Node) (applications : List GivenApplication) (bs cs : OpenBranches) : Type 0 where
  pub text : List Application
  pub are : AllZip (IsApplicationOf ns) (map application_of applications) text
  pub due : AreDue shapes bs text
  pub leads : after_applications bs text ≡ cs
  pub steps : steps_in text ≡ steps_in_all applications

module _ (shapes : List Shape) (ns : List Node) where
  pub text_of : (applications : List GivenApplication) (bs cs : OpenBranches) → All (IsNumbered ns) applications → AreTakenBy shapes ns bs applications cs → IsTextOf shapes ns applications bs cs
  text_of [] bs cs numbers h = record { text = []; are = tt; due = tt; leads = h; steps = refl }
  text_of (Grown given ∷ applications) bs cs numbers h =
      let it = h.1 in
      let rest = text_of applications h.0 cs (All-tail (IsNumbered ns) (Grown given) applications numbers) h.2 in
      let g = given.extension in
      let application = it.due.growing.application in
      let due = due_application shapes ns it.b (formulas_of ns g) g.reason g.generation application given.grounds it.due.growing.is.added it.due.growing.due it.due.timely in
      let one = added_size ns (formulas_of ns g) g.reason g.generation application it.due.growing.is.added in
      let size = first_size application rest.text in
      let steps = rest.steps in
      record {
        text = application ∷ rest.text;
        are = (it.due.growing.is, rest.are);
        due = subst (λ (os : OpenBranches). AreDue shapes os (application ∷ rest.text)) (sym it.is) ((due, it.short), subst (λ (os : OpenBranches). AreDue shapes os rest.text) it.left rest.due);
        leads = ap (λ (os : OpenBranches). after_applications os (application ∷ rest.text)) it.is ∙ ap (λ (os : OpenBranches). after_applications os rest.text) (sym it.left) ∙ rest.leads;
        steps = omega (arith, size, one, steps);
      }
  text_of (Closed closing ∷ applications) bs cs numbers h =
      let it = h.1 in
      let names = named ns closing.chain.items (All-head (IsNumbered ns) (Closed closing) applications numbers) in
      let rest = text_of applications h.0 cs (All-tail (IsNumbered ns) (Closed closing) applications numbers) h.2 in
      let application : Application = CloseApplication (map (step_in ns) closing.chain.items) (close_of_node closing.by) in
      let l = length-map closing.chain.items (step_in ns) in
      let steps = rest.steps in
      record {
        text = application ∷ rest.text;
        are = (record { named = names; is = refl }, rest.are);
        due = subst (λ (os : OpenBranches). AreDue shapes os (application ∷ rest.text)) (sym it.is) ((it.closes, All-nil IsShortBranch), rest.due);
        leads = ap (λ (os : OpenBranches). after_applications os (application ∷ rest.text)) it.is ∙ rest.leads;
        steps = omega (arith, l, steps);
      }

  pub tree_with : (p : FormulaData) (applications : List GivenApplication) (left : OpenBranches) (chain : Option GivenChain) (count : ℕ) (it : IsTextOf shapes ns applications (begun p) left) → EndsBy shapes ns left chain → steps_in_all applications + links_of chain ≡ count → IsTreeWith shapes ns p it.text chain count
  tree_with p applications left None count it ends steps = record { due = it.due; steps = (let s = it.steps in omega (arith, s, steps)) }
  tree_with p applications left (Some given) count it ends steps =
      let ss = map (step_in ns) given.closing.chain.items in
      let l : length ss ≡ length given.closing.chain.items = length-map given.closing.chain.items (step_in ns) in
      let w = ends.within in
      let done : length (take given.links ss) ≡ given.links = length-take-le given.links ss (omega (arith, l, w)) in
      let s = it.steps in
      record {
        b = ends.b;
        reached = record { others = ends.rest; due = it.due; first = it.leads ∙ ends.is };
        closes = subst (λ xs. ClosesBranch shapes ends.b xs (close_of_node given.closing.by)) (sym (take-append-drop given.links ss)) ends.closes;
        steps = omega (arith, s, done, steps);
      }

  pub shows : (p : FormulaData) (n : ℕ) → formula_at ns n ≡ NotFormula p → (tree : GivenTree) (count : ℕ) → IsTreeNumbered ns tree → IsPartialBy shapes ns (first_branch ns n ∷ []) tree count → ShowsPartial shapes ns p tree count
  shows p n e tree count numbers h =
      let it = text_of tree.applications.items (begun p) h.left numbers.applications (subst (λ q. AreTakenBy shapes ns ((entry_with 0 Other q ∷ []) ∷ []) tree.applications.items h.left) e h.taken) in
      record { applications = it.text; are_applications = it.are; partial = tree_with p tree.applications.items h.left tree.chain count it h.ends h.steps }
