-- Search trees while their pool is extended.
use Rattle.std.proofs.Common.{◌≡◌, ℕ, zero, suc, ◌<◌, pos, ◌+ℤ◌, List, [], ◌∷◌, ◌++◌, length, take, map, reverse, Some, refl, sym, ap, ◌∙◌, subst, arith, length-append}
use Rattle.std.specs.Prelude.{All, slice_get}
use Rattle.std.specs.List.{AllZip}
use Rattle.std.proofs.lemmas.List.Elements.{All-head, All-tail, All-weaker}
use Rattle.fol.specs.declared.shapes.Shape.{Shape}
use Rattle.fol.specs.FormulaData.{NumTerm, FormulaData, EqFormula, LeFormula}
use Rattle.axioms.specs.Forms.{DifferFormula}
use Rattle.axioms.specs.declared.axiom.Axiom.TheVariants.{Equal}
use Rattle.axioms.specs.declared.axiom.Equation.TheVariants.{Itself as SameTerm}
use Rattle.certificates.specs.CertData.{AxiomStep, RewriteStep}
use Rattle.certificates.specs.CertView.{close_of_node}
use Rattle.term_pool.specs.Items.{term_in, formula_in}
use Rattle.term_pool.specs.Pools.{Extends}
use Rattle.term_pool.specs.declared.node.Node.{Node}
use Rattle.term_pool.proofs.ItemLemmas.{item_kept}
use Rattle.certificates.specs.ProofTraces.{Application, PartsApplication, InstanceApplication, SplitApplication, CutApplication, BoundApplication, CloseApplication}
use Rattle.tableau.specs.PoolBranches.{IsFormulaNumber}
use Rattle.tableau.specs.declared.entry.PoolEntry.{PoolEntry}
use Rattle.tableau.proofs.PushLemmas.{over_still, says_still}
use Rattle.explanations.specs.Chains.{step_in, NamesInPool}
use Rattle.explanations.specs.declared.chain.ChainStep.{ChainStep}
use Rattle.explanations.specs.declared.chain.ChainStep.TheVariants.{Itself, Rewritten}
use Rattle.tableau.specs.Numbers.{formula_at}
use Rattle.tableau.proofs.NumberLemmas.{number_stays, formulas_stay, numbers_stay}
use Rattle.search.specs.Applications.{term_at, terms_of, IsAddedFor, AsParts, AsName, AsInstance, AsAxiom, AsSplit, AsCut, AsBound, formulas_of, IsExtensionOf, IsClosingOf, IsApplicationOf}
use Rattle.search.specs.Trees.{branch_of, waiting_in, AreWaiting, IsTree}
use Rattle.search.specs.declared.trees.application.Extension.{Extension}
use Rattle.search.specs.declared.trees.application.Closing.{Closing}
use Rattle.search.specs.declared.trees.application.Reason.{Reason}
use Rattle.search.specs.declared.trees.application.PoolApplication.{PoolApplication}
use Rattle.search.specs.declared.trees.application.PoolApplication.TheVariants.{Grown, Closed}
use Rattle.search.specs.declared.trees.tree.Waiting.{Waiting}
use Rattle.search.specs.declared.trees.tree.SearchTree.{SearchTree}

module _ (ns ms : List Node) (grown : Extends ns ms) where
  longer : (n : ℕ) → n < length ns → n < length ms
  longer n w = (let l = ap length grown.is in let k = length-append ns grown.more in omega (arith, l, k, w))

  term_stays : (n : ℕ) → n < length ns → term_at ms n ≡ term_at ns n
  term_stays n w = ap term_in (item_kept ns ms grown n w)

  formula_same : (n : ℕ) → n < length ns → formula_at ms n ≡ formula_at ns n
  formula_same n w = ap formula_in (item_kept ns ms grown n w)

  -- ---- applications

  added_stays : (ps qs : List FormulaData) (r : Reason) (g : ℕ) (application : Application) → qs ≡ ps → All (λ t. t < length ns) (terms_of r) → IsAddedFor ns ps r g application → IsAddedFor ms qs r g application
  added_stays ps qs r g application same terms (AsParts i k) = subst (λ xs. IsAddedFor ms qs r g (PartsApplication i xs)) same (AsParts i k)
  added_stays ps qs r g application same terms (AsName i v k p is) = AsName i v k p (same ∙ is)
  added_stays ps qs r g application same terms (AsInstance i t k p is) =
      subst (λ u. IsAddedFor ms qs r g (InstanceApplication i u p g)) (term_stays t (All-head (λ n. n < length ns) t [] terms)) (AsInstance i t k p (same ∙ is))
  added_stays ps qs r g application same terms (AsAxiom name k p is) = AsAxiom name k p (same ∙ is)
  added_stays ps qs r g application same terms (AsSplit i k) = subst (λ xs. IsAddedFor ms qs r g (SplitApplication i xs)) same (AsSplit i k)
  added_stays ps qs r g application same terms (AsCut t u k is) =
      let first = term_stays t (All-head (λ n. n < length ns) t (u ∷ []) terms) in
      let second = term_stays u (All-head (λ n. n < length ns) u [] (All-tail (λ n. n < length ns) t (u ∷ []) terms)) in
      let all : qs ≡ EqFormula (term_at ms t) (term_at ms u) ∷ DifferFormula (term_at ms t) (term_at ms u) ∷ [] = same ∙ is ∙ (λ i. EqFormula (sym first i) (sym second i) ∷ DifferFormula (sym first i) (sym second i) ∷ []) in
      subst (λ x. IsAddedFor ms qs r g (CutApplication x (term_at ns u) g)) first (subst (λ x. IsAddedFor ms qs r g (CutApplication (term_at ms t) x g)) second (AsCut t u k all))
  added_stays ps qs r g application same terms (AsBound i t k z is) =
      let first = term_stays t (All-head (λ n. n < length ns) t [] terms) in
      let all : qs ≡ LeFormula (term_at ms t) (NumTerm z) ∷ LeFormula (NumTerm (z +ℤ pos 1)) (term_at ms t) ∷ [] = same ∙ is ∙ (λ j. LeFormula (sym first j) (NumTerm z) ∷ LeFormula (NumTerm (z +ℤ pos 1)) (sym first j) ∷ []) in
      subst (λ x. IsAddedFor ms qs r g (BoundApplication i x z)) first (AsBound i t k z all)

  extension_stays : (g : Extension) (application : Application) → IsExtensionOf ns g application → IsExtensionOf ms g application
  extension_stays g application h = record {
    formulas = formulas_stay ns ms grown g.formulas.items h.formulas;
    terms = All-weaker (λ n. n < length ns) (λ n. n < length ms) longer (terms_of g.reason) h.terms;
    added = added_stays (formulas_of ns g) (formulas_of ms g) g.reason g.generation application ((numbers_stay ns ms grown (formulas_of ns g) g.formulas.items (record { formulas = h.formulas; are = refl })).are) h.terms h.added;
  }

  step_stays : (s : ChainStep) → NamesInPool ns s → step_in ms s ≡ step_in ns s
  step_stays (Itself k) h = ap (AxiomStep (Equal SameTerm)) (formula_same k h)
  step_stays (Rewritten r) h =
      let pattern = formula_same r.pattern h.0 in
      let formula = formula_same r.formula h.1 in
      λ i. RewriteStep r.equation r.source r.variable (pattern i) (formula i)

  named_stays : (s : ChainStep) → NamesInPool ns s → NamesInPool ms s
  named_stays (Itself k) h = longer k h
  named_stays (Rewritten r) h = (longer r.pattern h.0, longer r.formula h.1)

  steps_stay : (ss : List ChainStep) → All (NamesInPool ns) ss → map (step_in ms) ss ≡ map (step_in ns) ss
  steps_stay [] h = refl
  steps_stay (s ∷ ss) h =
      let first = step_stays s (All-head (NamesInPool ns) s ss h) in
      let rest = steps_stay ss (All-tail (NamesInPool ns) s ss h) in
      λ i. first i ∷ rest i

  closing_stays : (c : Closing) (application : Application) → IsClosingOf ns c application → IsClosingOf ms c application
  closing_stays c application h = record {
    named = All-weaker (NamesInPool ns) (NamesInPool ms) named_stays c.chain.items h.named;
    is = h.is ∙ ap (λ ss. CloseApplication ss (close_of_node c.by)) (sym (steps_stay c.chain.items h.named));
  }

  application_stays : (t : PoolApplication) (application : Application) → IsApplicationOf ns t application → IsApplicationOf ms t application
  application_stays (Grown g) application h = extension_stays g application h
  application_stays (Closed c) application h = closing_stays c application h

  applications_stay : (ts : List PoolApplication) (applications : List Application) → AllZip (IsApplicationOf ns) ts applications → AllZip (IsApplicationOf ms) ts applications
  applications_stay [] [] h = h
  applications_stay [] (u ∷ us) h = absurd h
  applications_stay (t ∷ ts) [] h = absurd h
  applications_stay (t ∷ ts) (u ∷ us) h = (application_stays t u h.0, applications_stay ts us h.1)

  -- ---- branches

  abbrev pub AreNumbered : List PoolEntry → Type 0
  AreNumbered es = (i : ℕ) (e : PoolEntry) → slice_get es i ≡ Some e → IsFormulaNumber ns e.formula

  taken_numbered : (k : ℕ) (es : List PoolEntry) → AreNumbered es → AreNumbered (take k es)
  taken_numbered zero es h i e f = absurd (cc)
  taken_numbered (suc k) [] h i e f = absurd (cc)
  taken_numbered (suc k) (x ∷ es) h zero e f = h 0 e f
  taken_numbered (suc k) (x ∷ es) h (suc i) e f = taken_numbered k es (λ j y g. h (suc j) y g) i e f

  pushed_numbered : (es : List PoolEntry) (e : PoolEntry) → AreNumbered es → IsFormulaNumber ns e.formula → AreNumbered (es ++ e ∷ [])
  pushed_numbered [] e h one zero x f = (let same : e ≡ x = cc in subst (λ (y : PoolEntry). IsFormulaNumber ns y.formula) same one)
  pushed_numbered [] e h one (suc i) x f = absurd (cc)
  pushed_numbered (y ∷ es) e h one zero x f = h 0 x f
  pushed_numbered (y ∷ es) e h one (suc i) x f = pushed_numbered es e (λ j z g. h (suc j) z g) one i x f

  pub waiting_stay : (es : List PoolEntry) (ws : List Waiting) → AreNumbered es → AreWaiting ns ws → waiting_in ms es ws ≡ waiting_in ns es ws
  waiting_stay es [] numbered h = refl
  waiting_stay es (w ∷ ws) numbered h =
      let one : IsFormulaNumber ns w.entry.formula = All-head (λ (x : Waiting). IsFormulaNumber ns x.entry.formula) w ws h in
      let first : branch_of ms (take w.mark es ++ w.entry ∷ []) ≡ branch_of ns (take w.mark es ++ w.entry ∷ []) = says_still ns ms grown (take w.mark es ++ w.entry ∷ []) (pushed_numbered (take w.mark es) w.entry (taken_numbered w.mark es numbered) one) in
      let rest = waiting_stay es ws numbered (All-tail (λ (x : Waiting). IsFormulaNumber ns x.entry.formula) w ws h) in
      λ i. first i ∷ rest i

  pub tree_stays : (shapes : List Shape) (p : FormulaData) (spent : ℕ) (t : SearchTree) → IsTree shapes p spent ns t → IsTree shapes p spent ms t
  tree_stays shapes p spent t h = record {
    over = over_still ns ms grown t.branch h.over;
    waiting = All-weaker (λ (x : Waiting). IsFormulaNumber ns x.entry.formula) (λ (x : Waiting). IsFormulaNumber ms x.entry.formula) (λ x one. number_stays ns ms grown x.entry.formula one) (reverse t.waiting.items) h.waiting;
    stacked = h.stacked;
    text = record {
      applications = h.text.applications;
      are_applications = applications_stay t.text.items h.text.applications h.text.are_applications;
      due = h.text.due;
      steps = h.text.steps;
      branches = h.text.branches ∙ (λ i. sym first i ∷ sym rest i);
    };
  }
    where
      first : branch_of ms t.branch.entries ≡ branch_of ns t.branch.entries
      first = says_still ns ms grown t.branch.entries h.over.formulas

      rest : waiting_in ms t.branch.entries (reverse t.waiting.items) ≡ waiting_in ns t.branch.entries (reverse t.waiting.items)
      rest = waiting_stay t.branch.entries (reverse t.waiting.items) h.over.formulas h.waiting
