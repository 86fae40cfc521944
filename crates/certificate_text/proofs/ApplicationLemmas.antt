-- A renumbered trace represents the same rule applications.
use Rattle.std.proofs.Common.{◌≡◌, ℕ, pos, ◌+ℤ◌, ◌<◌, Bool, List, [], ◌∷◌, ◌++◌, length, map, refl, sym, ap, ◌∙◌, subst, arith}
use Rattle.std.specs.Prelude.{All}
use Rattle.std.specs.List.{AllZip, Contains, flat_map}
use Rattle.std.proofs.lemmas.List.Elements.{All-nil, All-cons, All-head, All-tail, Contains-append_left, Contains-append_right}
use Rattle.fol.specs.FormulaData.{TermData, NumTerm, FormulaData, EqFormula, LeFormula}
use Rattle.axioms.specs.Forms.{DifferFormula}
use Rattle.certificates.specs.CertData.{RewriteStep, AxiomStep}
use Rattle.certificates.specs.CertView.{close_of_node}
use Rattle.axioms.specs.declared.axiom.Axiom.TheVariants.{Equal}
use Rattle.axioms.specs.declared.axiom.Equation.TheVariants.{Itself as SameTerm}
use Rattle.term_pool.specs.Items.{sort_of, term_in, formula_in}
use Rattle.term_pool.specs.Pools.{item_at, IsItem}
use Rattle.term_pool.specs.declared.node.Node.{Node}
use Rattle.certificates.specs.ProofTraces.{Application, InstanceApplication, CutApplication, BoundApplication, CloseApplication}
use Rattle.tableau.specs.PoolBranches.{IsFormulaNumber}
use Rattle.tableau.specs.Numbers.{formula_at}
use Rattle.explanations.specs.Chains.{step_in, NamesInPool}
use Rattle.explanations.specs.declared.chain.ChainStep.{ChainStep}
use Rattle.explanations.specs.declared.chain.ChainStep.TheVariants.{Itself, Rewritten}
use Rattle.search.specs.Applications.{term_at, formulas_of, terms_of, IsAddedFor, AsParts, AsName, AsInstance, AsAxiom, AsSplit, AsCut, AsBound, IsExtensionOf, IsClosingOf, IsApplicationOf}
use Rattle.search.specs.declared.trees.application.Reason.{Reason}
use Rattle.search.specs.declared.trees.application.Reason.TheVariants.{Parts, Name, Instance, Axiom, Split, Cut, Bound}
use Rattle.search.specs.declared.trees.application.Extension.{Extension}
use Rattle.search.specs.declared.trees.application.Closing.{Closing}
use Rattle.search.specs.declared.trees.application.PoolApplication.{PoolApplication}
use Rattle.search.specs.declared.trees.application.PoolApplication.TheVariants.{Grown, Closed}
use Rattle.certificate_text.specs.Marks.{AreNeeded, AsNamed}
use Rattle.certificate_text.specs.Names.{named_by, named_by_step}
use Rattle.certificate_text.specs.Nodes.{new_number, AreNumbers}
use Rattle.certificate_text.specs.Applications.{reason_anew, step_anew, IsExtensionAnew, IsClosingAnew, IsApplicationAnew}
use Rattle.certificate_text.proofs.ListLemmas.{at_head, in_tail}

module _ (ns ms : List Node) (ks : List ℕ) where
  -- each of these numbers of the first pool represents the same item in the second one, with its new number
  record Stand (names : List ℕ) : Type 0 where
    each : (k : ℕ) → k < length ns → Contains names k → IsItem ms (new_number ks k) (item_at ns k)

  stand_here : (k : ℕ) (names : List ℕ) → Stand (k ∷ names) → k < length ns → IsItem ms (new_number ks k) (item_at ns k)
  stand_here k names h w = h.each k w (at_head k names)

  stand_then : (k : ℕ) (names : List ℕ) → Stand (k ∷ names) → Stand names
  stand_then k names h = record { each = λ i w c. h.each i w (in_tail k names i c) }

  stand_left : (xs ys : List ℕ) → Stand (xs ++ ys) → Stand xs
  stand_left xs ys h = record { each = λ i w c. h.each i w (Contains-append_left xs ys i c) }

  stand_right : (xs ys : List ℕ) → Stand (xs ++ ys) → Stand ys
  stand_right xs ys h = record { each = λ i w c. h.each i w (Contains-append_right xs ys i c) }

  -- ---- extensions

  formulas_anew : (xs : List ℕ) → Stand xs → All (IsFormulaNumber ns) xs → All (IsFormulaNumber ms) (map (new_number ks) xs)
  formulas_anew [] h all = All-nil (IsFormulaNumber ms)
  formulas_anew (x ∷ xs) h all =
      let first = All-head (IsFormulaNumber ns) x xs all in
      let same = stand_here x xs h first.within in
      All-cons (IsFormulaNumber ms) (new_number ks x) (map (new_number ks) xs) (record { within = same.within; sort = ap sort_of same.is ∙ first.sort })
      (formulas_anew xs (stand_then x xs h) (All-tail (IsFormulaNumber ns) x xs all))

  same_formulas : (xs : List ℕ) → Stand xs → All (IsFormulaNumber ns) xs → map (formula_at ms) (map (new_number ks) xs) ≡ map (formula_at ns) xs
  same_formulas [] h all = refl
  same_formulas (x ∷ xs) h all =
      let first = All-head (IsFormulaNumber ns) x xs all in
      let same = stand_here x xs h first.within in
      let rest = same_formulas xs (stand_then x xs h) (All-tail (IsFormulaNumber ns) x xs all) in
      λ i. formula_in (same.is i) ∷ rest i

  one_term : (t : ℕ) (names : List ℕ) → Stand (t ∷ names) → All (λ t. t < length ns) (t ∷ names) → IsItem ms (new_number ks t) (item_at ns t)
  one_term t names h all = stand_here t names h (All-head (λ t. t < length ns) t names all)

  terms_anew : (r : Reason) → Stand (terms_of r) → All (λ t. t < length ns) (terms_of r) → All (λ t. t < length ms) (terms_of (reason_anew ks r))
  terms_anew (Instance i t) h all = All-cons (λ t. t < length ms) (new_number ks t) [] (one_term t [] h all).within (All-nil (λ t. t < length ms))
  terms_anew (Cut t u) h all =
      let second = one_term u [] (stand_then t (u ∷ []) h) (All-tail (λ t. t < length ns) t (u ∷ []) all) in
      All-cons (λ t. t < length ms) (new_number ks t) (new_number ks u ∷ []) (one_term t (u ∷ []) h all).within
      (All-cons (λ t. t < length ms) (new_number ks u) [] second.within (All-nil (λ t. t < length ms)))
  terms_anew (Bound i t k) h all = All-cons (λ t. t < length ms) (new_number ks t) [] (one_term t [] h all).within (All-nil (λ t. t < length ms))
  terms_anew (Parts i) h all = All-nil (λ t. t < length ms)
  terms_anew (Name i v) h all = All-nil (λ t. t < length ms)
  terms_anew (Axiom name) h all = All-nil (λ t. t < length ms)
  terms_anew (Split i) h all = All-nil (λ t. t < length ms)

  added_anew : (ps : List FormulaData) (r : Reason) (g : ℕ) (application : Application) → Stand (terms_of r) → All (λ t. t < length ns) (terms_of r) → IsAddedFor ns ps r g application → IsAddedFor ms ps (reason_anew ks r) g application
  added_anew ps r g application h all (AsParts i k) = AsParts i k
  added_anew ps r g application h all (AsName i v k p is) = AsName i v k p is
  added_anew ps r g application h all (AsInstance i t k p is) =
      let e : term_at ms (new_number ks t) ≡ term_at ns t = ap term_in (one_term t [] h all).is in
      subst (λ (x : TermData). IsAddedFor ms ps (Instance i (new_number ks t)) k (InstanceApplication i x p k)) e (AsInstance i (new_number ks t) k p is)
  added_anew ps r g application h all (AsAxiom name k p is) = AsAxiom name k p is
  added_anew ps r g application h all (AsSplit i k) = AsSplit i k
  added_anew ps r g application h all (AsCut t u k is) =
      let e : term_at ms (new_number ks t) ≡ term_at ns t = ap term_in (one_term t (u ∷ []) h all).is in
      let f : term_at ms (new_number ks u) ≡ term_at ns u = ap term_in (one_term u [] (stand_then t (u ∷ []) h) (All-tail (λ t. t < length ns) t (u ∷ []) all)).is in
      let cases : ps ≡ EqFormula (term_at ms (new_number ks t)) (term_at ms (new_number ks u)) ∷ DifferFormula (term_at ms (new_number ks t)) (term_at ms (new_number ks u)) ∷ [] =
      is ∙ sym (λ j. EqFormula (e j) (f j) ∷ DifferFormula (e j) (f j) ∷ []) in
      subst (λ (x : TermData × TermData). IsAddedFor ms ps (Cut (new_number ks t) (new_number ks u)) k (CutApplication x.0 x.1 k)) (λ j. (e j, f j)) (AsCut (new_number ks t) (new_number ks u) k cases)
  added_anew ps r g application h all (AsBound i t k z is) =
      let e : term_at ms (new_number ks t) ≡ term_at ns t = ap term_in (one_term t [] h all).is in
      let cases : ps ≡ LeFormula (term_at ms (new_number ks t)) (NumTerm z) ∷ LeFormula (NumTerm (z +ℤ pos 1)) (term_at ms (new_number ks t)) ∷ [] =
      is ∙ sym (λ j. LeFormula (e j) (NumTerm z) ∷ LeFormula (NumTerm (z +ℤ pos 1)) (e j) ∷ []) in
      subst (λ (x : TermData). IsAddedFor ms ps (Bound i (new_number ks t) z) k (BoundApplication i x z)) e (AsBound i (new_number ks t) k z cases)

  extension_anew : (g h : Extension) (application : Application) → IsExtensionAnew ks g h → Stand (terms_of g.reason ++ g.formulas.items) → IsExtensionOf ns g application → IsExtensionOf ms h application
  extension_anew g h application anew stand is =
      let terms = stand_left (terms_of g.reason) g.formulas.items stand in
      let formulas = stand_right (terms_of g.reason) g.formulas.items stand in
      let same : formulas_of ms h ≡ formulas_of ns g = ap (map (formula_at ms)) anew.formulas ∙ same_formulas g.formulas.items formulas is.formulas.each in
      let moved : IsAddedFor ms (formulas_of ns g) (reason_anew ks g.reason) g.generation application = added_anew (formulas_of ns g) g.reason g.generation application terms is.terms is.added in
      let by_reason : IsAddedFor ms (formulas_of ns g) h.reason g.generation application = subst (λ r. IsAddedFor ms (formulas_of ns g) r g.generation application) (sym anew.reason) moved in
      let by_generation : IsAddedFor ms (formulas_of ns g) h.reason h.generation application = subst (λ k. IsAddedFor ms (formulas_of ns g) h.reason k application) (sym anew.generation) by_reason in
      record {
        formulas = record { each = subst (All (IsFormulaNumber ms)) (sym anew.formulas) (formulas_anew g.formulas.items formulas is.formulas.each) };
        terms = subst (λ r. All (λ t. t < length ms) (terms_of r)) (sym anew.reason) (terms_anew g.reason terms is.terms);
        added = subst (λ ps. IsAddedFor ms ps h.reason h.generation application) (sym same) by_generation;
      }

  -- ---- closing applications

  step_names : (s : ChainStep) → Stand (named_by_step s) → NamesInPool ns s → NamesInPool ms (step_anew ks s)
  step_names (Itself k) h w = (stand_here k [] h w).within
  step_names (Rewritten r) h w =
      ((stand_here r.pattern (r.formula ∷ []) h w.0).within, (stand_here r.formula [] (stand_then r.pattern (r.formula ∷ []) h) w.1).within)

  same_step : (s : ChainStep) → Stand (named_by_step s) → NamesInPool ns s → step_in ms (step_anew ks s) ≡ step_in ns s
  same_step (Itself k) h w = ap (λ x. AxiomStep (Equal SameTerm) (formula_in x)) (stand_here k [] h w).is
  same_step (Rewritten r) h w =
      let e : item_at ms (new_number ks r.pattern) ≡ item_at ns r.pattern = (stand_here r.pattern (r.formula ∷ []) h w.0).is in
      let f : item_at ms (new_number ks r.formula) ≡ item_at ns r.formula = (stand_here r.formula [] (stand_then r.pattern (r.formula ∷ []) h) w.1).is in
      λ i. RewriteStep r.equation r.source r.variable (formula_in (e i)) (formula_in (f i))

  chain_names : (ss : List ChainStep) → Stand (flat_map named_by_step ss) → All (NamesInPool ns) ss → All (NamesInPool ms) (map (step_anew ks) ss)
  chain_names [] h all = All-nil (NamesInPool ms)
  chain_names (s ∷ ss) h all =
      let xs = named_by_step s in
      let ys = flat_map named_by_step ss in
      All-cons (NamesInPool ms) (step_anew ks s) (map (step_anew ks) ss) (step_names s (stand_left xs ys h) (All-head (NamesInPool ns) s ss all))
      (chain_names ss (stand_right xs ys h) (All-tail (NamesInPool ns) s ss all))

  same_chain : (ss : List ChainStep) → Stand (flat_map named_by_step ss) → All (NamesInPool ns) ss → map (step_in ms) (map (step_anew ks) ss) ≡ map (step_in ns) ss
  same_chain [] h all = refl
  same_chain (s ∷ ss) h all =
      let xs = named_by_step s in
      let ys = flat_map named_by_step ss in
      let e : step_in ms (step_anew ks s) ≡ step_in ns s = same_step s (stand_left xs ys h) (All-head (NamesInPool ns) s ss all) in
      let f : map (step_in ms) (map (step_anew ks) ss) ≡ map (step_in ns) ss = same_chain ss (stand_right xs ys h) (All-tail (NamesInPool ns) s ss all) in
      λ i. e i ∷ f i

  closing_anew : (c d : Closing) (application : Application) → IsClosingAnew ks c d → Stand (flat_map named_by_step c.chain.items) → IsClosingOf ns c application → IsClosingOf ms d application
  closing_anew c d application anew stand is =
      let e : map (step_in ms) d.chain.items ≡ map (step_in ns) c.chain.items = ap (map (step_in ms)) anew.chain ∙ same_chain c.chain.items stand is.named in
      let f : close_of_node d.by ≡ close_of_node c.by = ap close_of_node anew.by in
      record {
        named = subst (All (NamesInPool ms)) (sym anew.chain) (chain_names c.chain.items stand is.named);
        is = is.is ∙ sym (λ i. CloseApplication (e i) (f i));
      }

  -- ---- traces

  application_anew : (t u : PoolApplication) (application : Application) → IsApplicationAnew ks t u → Stand (named_by t) → IsApplicationOf ns t application → IsApplicationOf ms u application
  application_anew (Grown g) (Grown h) application anew stand is = extension_anew g h application anew stand is
  application_anew (Grown g) (Closed d) application anew stand is = absurd anew
  application_anew (Closed c) (Grown h) application anew stand is = absurd anew
  application_anew (Closed c) (Closed d) application anew stand is = closing_anew c d application anew stand is

  text_anew : (ts us : List PoolApplication) (applications : List Application) → AllZip (IsApplicationAnew ks) ts us → Stand (flat_map named_by ts) → AllZip (IsApplicationOf ns) ts applications → AllZip (IsApplicationOf ms) us applications
  text_anew [] [] applications anew stand are = are
  text_anew [] (u ∷ us) applications anew stand are = absurd anew
  text_anew (t ∷ ts) [] applications anew stand are = absurd anew
  text_anew (t ∷ ts) (u ∷ us) [] anew stand are = absurd are
  text_anew (t ∷ ts) (u ∷ us) (application ∷ applications) anew stand are =
      let xs = named_by t in
      let ys = flat_map named_by ts in
      (application_anew t u application anew.0 (stand_left xs ys stand) are.0, text_anew ts us applications anew.1 (stand_right xs ys stand) are.1)

  pub same_applications : (marks : List Bool) (ts us : List PoolApplication) → AllZip (IsApplicationAnew ks) ts us → AreNeeded ns (flat_map named_by ts) marks → AreNumbers ns ms marks ks → length ks ≡ length ns → (applications : List Application) → AllZip (IsApplicationOf ns) ts applications → AllZip (IsApplicationOf ms) us applications
  same_applications marks ts us anew needed numbers long applications are =
      text_anew ts us applications anew (record { each = λ k w c. numbers.each k (omega (arith, w, long)) ((needed.marked k w).1 (AsNamed k c)) }) are
