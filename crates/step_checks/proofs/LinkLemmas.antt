-- Valid steps by number, one after another.
use Rattle.std.proofs.Common.{◌≡◌, ◌↔◌, ℕ, ◌+◌, ◌<◌, ◌≤◌, Bool, true, false, IsTrue, List, [], ◌∷◌, ◌++◌, length, get_or, drop, map, refl, sym, ap, ◌∙◌, subst, arith, append_assoc, append-nil, length-append}
use Rattle.std.specs.Prelude.{All, Contains}
use Rattle.std.proofs.lemmas.List.{length-map, get_or-map, drop_more, map_push}
use Rattle.std.proofs.lemmas.List.Elements.{All-nil, All-cons, All-head, All-push}
use Rattle.std.proofs.Math.ListN.{drop_of_length-le}
use Rattle.fol.specs.declared.shapes.Shape.{Shape}
use Rattle.fol.specs.FormulaData.{FormulaData}
use Rattle.axioms.specs.declared.axiom.Axiom.TheVariants.{Equal}
use Rattle.axioms.specs.declared.axiom.Equation.TheVariants.{Itself as SameTerm}
use Rattle.certificates.specs.CertData.{StepData}
use Rattle.certificates.specs.Closes.{IsEntry, IsStep, added}
use Rattle.certificates.specs.Rewriting.{IsRewriting}
use Rattle.term_pool.specs.declared.node.Node.{Node}
use Rattle.certificates.specs.BranchesBranch.{Branch}
use Rattle.certificates.specs.Due.{IsShallow}
use Rattle.certificates.specs.ProofTraces.{IsItself, IsLink, AreLinks, after_links}
use Rattle.tableau.specs.PoolBranches.{IsFormulaNumber}
use Rattle.tableau.specs.Numbers.{formula_at, AreFormulas}
use Rattle.explanations.specs.Chains.{step_in}
use Rattle.explanations.specs.declared.chain.ChainStep.{ChainStep}
use Rattle.explanations.specs.declared.chain.ChainStep.TheVariants.{Itself, Rewritten}
use Rattle.explanations.specs.declared.chain.Rewriting.{Rewriting}
use Rattle.step_checks.specs.Links.{number_of, formula_added, IsNamed, IsShallowStep, IsRewritten, IsNextLink, LinksFrom}
use Rattle.step_checks.proofs.ClosingsTruthLemmas.{never}

-- ---- one step

-- each step adds one formula
pub adds_one : (ns : List Node) (s : ChainStep) → added (step_in ns s) ≡ formula_added ns s ∷ []
adds_one ns (Itself k) = refl
adds_one ns (Rewritten r) = refl

pub rewritten_given : (ps : List FormulaData) (r : Rewriting) (read pattern p : FormulaData) → read ≡ pattern → (known : Bool) → IsTrue known ↔ ((e : FormulaData) × (q : FormulaData) × IsEntry ps r.equation e × IsEntry ps r.source q × IsRewriting r.variable read e q p) → IsTrue known ↔ IsRewritten ps r pattern p
rewritten_given ps r read pattern p same known h = (
  λ yes. (
      let all = h.0 yes in
      record { equation = all.0; source = all.1; is_equation = all.2; is_source = all.3; rewriting = subst (λ c. IsRewriting r.variable c all.0 all.1 p) same all.4 }),
  λ is. h.1 (is.equation, is.source, is.is_equation, is.is_source, subst (λ c. IsRewriting r.variable c is.equation is.source p) (sym same) is.rewriting),
)

module _ (ns : List Node) (b : Branch) (ps : List FormulaData) where
  -- a formula that is there is not added
  stood : (s : ChainStep) → Contains ps (formula_added ns s) → IsNextLink b ps (step_in ns s) → ⊥
  stood s c link = All-head (λ p. Contains ps p → ⊥) (formula_added ns s) [] (subst (All (λ p. Contains ps p → ⊥)) (adds_one ns s) link.link.news) c

  pub no_news : (s : ChainStep) → Contains ps (formula_added ns s) → IsTrue false ↔ IsNextLink b ps (step_in ns s)
  no_news s c = never (stood s c)

  one_new : (p : FormulaData) → (Contains ps p → ⊥) → All (λ q. Contains ps q → ⊥) (p ∷ [])
  one_new p new = All-cons (λ q. Contains ps q → ⊥) p [] new (All-nil (λ q. Contains ps q → ⊥))

  pub itself_link : (k : ℕ) → (Contains ps (formula_at ns k) → ⊥) → IsShallow (formula_at ns k) → (known : Bool) → IsTrue known ↔ IsItself b (Equal SameTerm) (formula_at ns k) → IsTrue known ↔ IsNextLink b ps (step_in ns (Itself k))
  itself_link k new shallow known h = (
    λ yes. (
        let is = h.0 yes in
        record {
          link = record { step = is; news = one_new (formula_at ns k) new };
          step = λ shapes. record { shallow = All-cons IsShallow (formula_at ns k) [] shallow (All-nil IsShallow); names = tt; allowed = (is.term, is.term, refl, is.is) };
        }),
    λ link. h.1 link.link.step,
  )

  pub rewritten_link : (r : Rewriting) → (Contains ps (formula_at ns r.formula) → ⊥) → IsShallowStep ns (Rewritten r) → (known : Bool) → IsTrue known ↔ IsRewritten ps r (formula_at ns r.pattern) (formula_at ns r.formula) → IsTrue known ↔ IsNextLink b ps (step_in ns (Rewritten r))
  rewritten_link r new shallow known h = (
    λ yes. (
        let is = h.0 yes in
        record {
          link = record { step = tt; news = one_new (formula_at ns r.formula) new };
          step = λ shapes. record { shallow = All-cons IsShallow (formula_at ns r.formula) [] shallow.1 (All-nil IsShallow); names = shallow.0; allowed = (is.equation, is.source, is.is_equation, is.is_source, is.rewriting) };
        }),
    λ link. (
        let all = (link.step []).allowed in
        h.1 (record { equation = all.0; source = all.1; is_equation = all.2; is_source = all.3; rewriting = all.4 })),
  )

  -- the shapes of structs do not matter to a step
  any_shapes : (s : ChainStep) (shapes others : List Shape) → IsStep shapes ps (step_in ns s) → IsStep others ps (step_in ns s)
  any_shapes (Itself k) shapes others h = record { shallow = h.shallow; names = h.names; allowed = h.allowed }
  any_shapes (Rewritten r) shapes others h = record { shallow = h.shallow; names = h.names; allowed = h.allowed }

  pub next_link : (s : ChainStep) (shapes : List Shape) → IsLink b ps (step_in ns s) → IsStep shapes ps (step_in ns s) → IsNextLink b ps (step_in ns s)
  next_link s shapes link step = record { link = link; step = λ others. any_shapes s shapes others step }

-- ---- steps, one after another

at_step : {X Y : Type 0} (f : X → Y) (xs : List X) (i : ℕ) (d : X) → i < length xs → drop i (map f xs) ≡ f (get_or xs i d) ∷ drop (i + 1) (map f xs)
at_step f xs i d w =
    let within : i < length (map f xs) = omega (arith, w, length-map xs f) in
    drop_more (map f xs) i (f d) within ∙ ap (λ y. y ∷ drop (i + 1) (map f xs)) (get_or-map f xs i d (f d) w)

module _ (ns : List Node) (b : Branch) (start : List FormulaData) (steps : List ChainStep) where
  abbrev ss : List StepData
  ss = map (step_in ns) steps

  pub links_start : LinksFrom b start start ss 0
  links_start = record { rest = λ shapes. (λ h. h, λ h. h); leads = refl }

  module _ (ps : List FormulaData) (i : ℕ) (d : ChainStep) (w : i < length steps) (from : LinksFrom b start ps ss i) where
    abbrev s : ChainStep
    s = get_or steps i d

    here : drop i ss ≡ step_in ns s ∷ drop (i + 1) ss
    here = at_step (step_in ns) steps i d w

    pub links_next : (qs : List FormulaData) → IsNextLink b ps (step_in ns s) → qs ≡ ps ++ formula_added ns s ∷ [] → LinksFrom b start qs ss (i + 1)
    links_next qs link grown =
        let next : qs ≡ ps ++ added (step_in ns s) = grown ∙ ap (λ rs. ps ++ rs) (sym (adds_one ns s)) in
        record {
          rest = λ shapes. (
            λ later. (from.rest shapes).0 (subst (AreLinks shapes b ps) (sym here) (link.link, link.step shapes, subst (λ rs. AreLinks shapes b rs (drop (i + 1) ss)) next later)),
            λ whole. (
                let both = subst (AreLinks shapes b ps) here ((from.rest shapes).1 whole) in
                subst (λ rs. AreLinks shapes b rs (drop (i + 1) ss)) (sym next) both.2),
          );
          leads = ap (λ rs. after_links rs (drop (i + 1) ss)) next ∙ ap (after_links ps) (sym here) ∙ from.leads;
        }

    pub links_fail : (known : Bool) → IsTrue known ↔ IsNextLink b ps (step_in ns s) → known ≡ false → (shapes : List Shape) → IsTrue false ↔ AreLinks shapes b start ss
    links_fail known h fails shapes = never (λ whole. (
        let both = subst (AreLinks shapes b ps) here ((from.rest shapes).1 whole) in
        let yes = h.1 (next_link ns b ps s shapes both.0 both.1) in
        absurd (cc)))

  module _ (ps : List FormulaData) (i : ℕ) (w : length steps ≤ i) (from : LinksFrom b start ps ss i) where
    over : drop i ss ≡ []
    over = (let all : length ss ≤ i = omega (arith, w, length-map steps (step_in ns)) in drop_of_length-le ss all)

    pub links_all : (shapes : List Shape) → IsTrue true ↔ AreLinks shapes b start ss
    links_all shapes = (λ yes. (from.rest shapes).0 (subst (AreLinks shapes b ps) (sym over) tt), λ h. refl)

    pub links_lead : ps ≡ after_links start ss
    links_lead = ap (after_links ps) (sym over) ∙ from.leads

-- ---- the formulas so far, by number

pub line_start : (ns : List Node) (ps qs : List FormulaData) → qs ≡ ps → qs ≡ ps ++ map (formula_at ns) []
line_start ns ps qs e = e ∙ sym (append-nil ps)

module _ (ns : List Node) (xs ys : List ℕ) (s : ChainStep) (n : ℕ) (e : n ≡ number_of s) (more : ys ≡ xs ++ n ∷ []) where
  pub line_more : (start ps qs : List FormulaData) → ps ≡ start ++ map (formula_at ns) xs → qs ≡ ps ++ formula_added ns s ∷ [] → qs ≡ start ++ map (formula_at ns) ys
  line_more start ps qs line grown =
      let f = formula_at ns in
      grown ∙ ap (λ k. ps ++ f k ∷ []) (sym e) ∙ ap (λ rs. rs ++ f n ∷ []) line ∙ append_assoc start (map f xs) (f n ∷ []) ∙ ap (λ rs. start ++ rs) (sym (map_push f xs n)) ∙ ap (λ zs. start ++ map f zs) (sym more)

  pub formulas_more : AreFormulas ns xs → IsNamed ns s → AreFormulas ns ys
  formulas_more h named = subst (AreFormulas ns) (sym more) (record { each = All-push (IsFormulaNumber ns) xs n h.each (subst (IsFormulaNumber ns) (sym e) (added_number s named)) })
    where
      added_number : (s : ChainStep) → IsNamed ns s → IsFormulaNumber ns (number_of s)
      added_number (Itself k) h = h
      added_number (Rewritten r) h = h.1

pub longer_line : (ps qs : List FormulaData) (p : FormulaData) (m i : ℕ) → length ps ≡ m + i → qs ≡ ps ++ p ∷ [] → length qs ≡ m + (i + 1)
longer_line ps qs p m i e grown = (let l = ap length grown in omega (arith, e, l, length-append ps (p ∷ [])))

-- the tree at an index is that of the formula that the step there adds
pub tree_at : (ns : List Node) (steps : List ChainStep) (trees : List FormulaData) (i : ℕ) (d : ChainStep) (p : FormulaData) → trees ≡ map (formula_added ns) steps → i < length steps → p ≡ get_or trees i p → p ≡ formula_added ns (get_or steps i d)
tree_at ns steps trees i d p are w e = e ∙ ap (λ ts. get_or ts i p) are ∙ get_or-map (formula_added ns) steps i d p w

pub step_known : (ns : List Node) (b : Branch) (ps : List FormulaData) (s t : ChainStep) → s ≡ t → (known : Bool) → IsTrue known ↔ IsNextLink b ps (step_in ns t) → IsTrue known ↔ IsNextLink b ps (step_in ns s)
step_known ns b ps s t e known h = subst (λ r. IsTrue known ↔ IsNextLink b ps (step_in ns r)) (sym e) h
