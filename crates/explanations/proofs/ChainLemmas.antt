-- Explanations over a pool that is extended, and with one more step.
use Rattle.std.proofs.Common.{◌≡◌, ◌⊎◌, inl, inr, ℕ, zero, suc, ◌+◌, ◌<◌, ◌≤◌, max, Bool, true, false, cond, nat_eq, List, [], ◌∷◌, ◌++◌, length, map, Option, Some, None, refl, sym, ap, ◌∙◌, subst, arith}
use Rattle.std.specs.Prelude.{slice_get, slice_index_or, MatchOption, All, Contains}
use Rattle.std.proofs.lemmas.Bool.{eqb-true, eq-eqb}
use Rattle.std.proofs.lemmas.List.Elements.{All-nil, All-cons}
use Rattle.fol.specs.declared.shapes.Shape.{Shape}
use Rattle.fol.specs.declared.operators.Comparison.TheVariants.{Eq}
use Rattle.fol.specs.Depth.{term_depth}
use Rattle.fol.specs.FormulaData.{TermData, VarTerm, ConstantTerm, UnaryTerm, BinaryTerm, TernaryTerm, PackTerm, FieldTerm, SetFieldTerm, IfTerm, FormulaData, EqFormula}
use Rattle.substitution.specs.Free.{free_in_term}
use Rattle.axioms.specs.declared.axiom.Axiom.TheVariants.{Equal}
use Rattle.axioms.specs.declared.axiom.Equation.TheVariants.{Itself as SameTerm}
use Rattle.certificates.specs.CertData.{StepData, AxiomStep, RewriteStep}
use Rattle.certificates.specs.Closes.{most_deep, IsWithin, IsStep, added}
use Rattle.certificates.specs.Rewriting.{IsReplaced, IsRewriting}
use Rattle.term_pool.specs.Items.{Item, TermItem, FormulaItem, TermSort, FormulaSort, Sort, sort_of, formula_in}
use Rattle.term_pool.specs.Pools.{item_at, HasPart, IsItem, IsOneNumber, Extends}
use Rattle.term_pool.specs.declared.node.Two.TheVariants.{Compare}
use Rattle.term_pool.specs.declared.node.Node.{Node}
use Rattle.term_pool.proofs.ItemLemmas.{item_kept}
use Rattle.term_pool.proofs.GrowthLemmas.{item_stays, extends_then}
use Rattle.term_pool.proofs.ShapeLemmas.{a_term, a_formula}
use Rattle.certificates.specs.BranchesBranch.{Branch, formulas}
use Rattle.certificates.specs.Names.{above_term, above, above_all}
use Rattle.certificates.specs.ProofTraces.{IsLinkStep, IsLink, AreLinks, after_links}
use Rattle.explanations.specs.Frames.{filled, IsWay}
use Rattle.explanations.specs.Chains.{term_at, formula_at, ChainData, IsNotAmong, IsPositionOf, ArePositions, Keeps, IsAt, step_in, NamesInPool, IsChain, AreEntries, CanBegin, Equates, CanSwap, CanPutRight}
use Rattle.explanations.specs.declared.frame.Frame.{Frame}
use Rattle.explanations.specs.declared.frame.Frame.TheVariants.{SecondOfTwo}
use Rattle.explanations.specs.declared.chain.ChainStep.{ChainStep}
use Rattle.explanations.specs.declared.chain.ChainStep.TheVariants.{Itself, Rewritten}
use Rattle.explanations.specs.declared.chain.Swap.{Swap}
use Rattle.explanations.proofs.FrameLemmas.{filled_sorted, filled_kept, leads_stay, longer}
use Rattle.explanations.proofs.AboveLemmas.{above_item, above_filled}
use Rattle.explanations.proofs.InstanceLemmas.{above_formula, replaced}

-- ---- lists

pub push_kept : {X : Type 0} (xs : List X) (y x : X) (i : ℕ) → slice_get xs i ≡ Some x → slice_get (xs ++ y ∷ []) i ≡ Some x
push_kept [] y x i e = absurd (cc)
push_kept (z ∷ xs) y x zero e = e
push_kept (z ∷ xs) y x (suc i) e = push_kept xs y x i e

pub push_new : {X : Type 0} (xs : List X) (y : X) → slice_get (xs ++ y ∷ []) (length xs) ≡ Some y
push_new [] y = refl
push_new (z ∷ xs) y = push_new xs y

push_cases : {X : Type 0} (xs : List X) (y x : X) (i : ℕ) → slice_get (xs ++ y ∷ []) i ≡ Some x → (slice_get xs i ≡ Some x) ⊎ (y ≡ x)
push_cases [] y x zero e = inr (cc)
push_cases [] y x (suc i) e = absurd (cc)
push_cases (z ∷ xs) y x zero e = inl e
push_cases (z ∷ xs) y x (suc i) e = push_cases xs y x i e

map_push : {X Y : Type 0} (f : X → Y) (xs : List X) (y : X) → map f (xs ++ y ∷ []) ≡ map f xs ++ f y ∷ []
map_push f [] y = refl
map_push f (x ∷ xs) y = ap (λ zs. f x ∷ zs) (map_push f xs y)

map_same : {X Y : Type 0} (f g : X → Y) (xs : List X) → ((i : ℕ) (x : X) → slice_get xs i ≡ Some x → f x ≡ g x) → map f xs ≡ map g xs
map_same f g [] h = refl
map_same f g (x ∷ xs) h = λ i. h zero x refl i ∷ map_same f g xs (λ j y e. h (suc j) y e) i

map_found : {X Y : Type 0} (f : X → Y) (xs : List X) (x : X) (i : ℕ) → slice_get xs i ≡ Some x → slice_get (map f xs) i ≡ Some (f x)
map_found f [] x i e = absurd (cc)
map_found f (y ∷ xs) x zero e = let is : y ≡ x = cc in ap (λ z. Some (f z)) is
map_found f (y ∷ xs) x (suc i) e = map_found f xs x i e

record IsImage {X Y : Type 0} (f : X → Y) (xs : List X) (y : Y) : Type 0 where
  position : ℕ
  item : X
  found : slice_get xs position ≡ Some item
  is : f item ≡ y

image : {X Y : Type 0} (f : X → Y) (xs : List X) (y : Y) (i : ℕ) → i < length (map f xs) → slice_index_or (map f xs) i y ≡ y → IsImage f xs y
image f [] y i w e = absurd (omega arith)
image f (x ∷ xs) y zero w e = record { position = 0; item = x; found = refl; is = e }
image f (x ∷ xs) y (suc i) w e = let r = image f xs y i (omega arith) e in record { position = suc r.position; item = r.item; found = r.found; is = r.is }

-- ---- indices

pub positions_pushed : (ks : List ℕ) (find more : ℕ → Option ℕ) (k : ℕ) → ((i : ℕ) → more i ≡ cond (nat_eq k i) (Some (length ks)) (find i)) → ArePositions ks find → ArePositions (ks ++ k ∷ []) more
positions_pushed ks find more k is h = record { each = λ i. subst (λ o. MatchOption o (IsNotAmong (ks ++ k ∷ []) i) (IsPositionOf (ks ++ k ∷ []) i)) (sym (is i)) (go i (nat_eq k i) refl (find i) (h.each i)) }
  where
    go : (i : ℕ) (b : Bool) → nat_eq k i ≡ b → (o : Option ℕ) → MatchOption o (IsNotAmong ks i) (IsPositionOf ks i) → MatchOption (cond b (Some (length ks)) o) (IsNotAmong (ks ++ k ∷ []) i) (IsPositionOf (ks ++ k ∷ []) i)
    go i true t o m = push_new ks k ∙ ap Some (eqb-true k i t)
    go i false t (Some position) m = push_kept ks k i position m
    go i false t None m = record { none = λ position e. elim (push_cases ks k i position e) [ inl f ↦ m.none position f | inr f ↦ (let both : true ≡ false = sym (eq-eqb k i f) ∙ t in absurd (cc)) ] }

pub no_positions : (find : ℕ → Option ℕ) → ((i : ℕ) → find i ≡ None) → ArePositions [] find
no_positions find is = record { each = λ i. subst (λ o. MatchOption o (IsNotAmong [] i) (IsPositionOf [] i)) (sym (is i)) (record { none = λ position e. (let both : None ≡ Some i = e in absurd (cc)) }) }

pub keeps_itself : (d : ChainData) → Keeps d d
keeps_itself d = record { kept = λ position k e. e; variable = refl }

pub keeps_more : (d e : ChainData) (k : ℕ) → e.formulas ≡ d.formulas ++ k ∷ [] → e.variable ≡ d.variable → Keeps d e
keeps_more d e k is same = record { kept = λ position n f. subst (λ ks. slice_get ks position ≡ Some n) (sym is) (push_kept d.formulas k n position f); variable = same }

-- the number of the added formula
pub at_end : (ns : List Node) (d e : ChainData) (k position : ℕ) (p : FormulaData) → e.formulas ≡ d.formulas ++ k ∷ [] → position ≡ length d.formulas → formula_at ns k ≡ p → IsAt ns e position p
at_end ns d e k position p is there same = record { number = k; found = subst (λ ks. slice_get ks position ≡ Some k) (sym is) (subst (λ i. slice_get (d.formulas ++ k ∷ []) i ≡ Some k) (sym there) (push_new d.formulas k)); is = same }

-- ---- steps, one after another

module _ (shapes : List Shape) (b : Branch) where
  links_more : (ps : List FormulaData) (ss : List StepData) (s : StepData) → AreLinks shapes b ps ss → IsLink b (after_links ps ss) s → IsStep shapes (after_links ps ss) s → AreLinks shapes b ps (ss ++ s ∷ [])
  links_more ps [] s l n t = (n, t, tt)
  links_more ps (r ∷ ss) s l n t = (l.0, l.1, links_more (ps ++ added r) ss s l.2 n t)

after_more : (ps : List FormulaData) (ss : List StepData) (s : StepData) → after_links ps (ss ++ s ∷ []) ≡ after_links ps ss ++ added s
after_more ps [] s = refl
after_more ps (r ∷ ss) s = after_more (ps ++ added r) ss s

-- ---- a pool that is extended

module _ (ns ms : List Node) (grown : Extends ns ms) where
  formula_kept : (k : ℕ) → k < length ns → formula_at ms k ≡ formula_at ns k
  formula_kept k w = ap formula_in (item_kept ns ms grown k w)

  number_kept : (k : ℕ) (s : Sort) → HasPart ns (length ns) k s → HasPart ms (length ms) k s
  number_kept k s p = record { earlier = omega (arith, p.earlier, longer grown); sort = ap sort_of (item_kept ns ms grown k p.earlier) ∙ p.sort }

  step_kept : (s : ChainStep) → NamesInPool ns s → step_in ms s ≡ step_in ns s
  step_kept (Itself k) w = ap (AxiomStep (Equal SameTerm)) (formula_kept k w)
  step_kept (Rewritten r) w = λ i. RewriteStep r.equation r.source r.variable (formula_kept r.pattern w.0 i) (formula_kept r.formula w.1 i)

  named_kept : (s : ChainStep) → NamesInPool ns s → NamesInPool ms s
  named_kept (Itself k) w = omega (arith, w, longer grown)
  named_kept (Rewritten r) w = (omega (arith, w.0, longer grown), omega (arith, w.1, longer grown))

  pub chain_stays : (b : Branch) (d : ChainData) → IsChain ns b d → IsChain ms b d
  chain_stays b d h =
      let steps : map (step_in ms) d.steps ≡ map (step_in ns) d.steps = map_same (step_in ms) (step_in ns) d.steps (λ i s e. step_kept s (h.named i s e)) in
      let stand : map (formula_at ms) d.formulas ≡ map (formula_at ns) d.formulas = map_same (formula_at ms) (formula_at ns) d.formulas (λ i k e. formula_kept k (h.numbers i k e).earlier) in
      record {
        numbers = λ i k e. number_kept k FormulaSort (h.numbers i k e);
        below = λ i k e. subst (λ p. above p ≤ d.variable) (sym (formula_kept k (h.numbers i k e).earlier)) (h.below i k e);
        named = λ i s e. named_kept s (h.named i s e);
        stand = stand ∙ h.stand ∙ sym (ap (after_links (formulas b)) steps);
        links = λ shapes. subst (AreLinks shapes b (formulas b)) (sym steps) (h.links shapes);
      }

-- ---- the explanation without steps

above_each : (ns : List Node) (ks : List ℕ) (v : ℕ) → above_all (map (formula_at ns) ks) ≤ v → (i k : ℕ) → slice_get ks i ≡ Some k → above (formula_at ns k) ≤ v
above_each ns [] v h i k e = absurd (cc)
above_each ns (n ∷ ks) v h zero k e = let same : n ≡ k = cc in subst (λ m. above (formula_at ns m) ≤ v) same (let most : max (above (formula_at ns n)) (above_all (map (formula_at ns) ks)) ≤ v = h in omega arith)
above_each ns (n ∷ ks) v h (suc i) k e = above_each ns ks v (let most : max (above (formula_at ns n)) (above_all (map (formula_at ns) ks)) ≤ v = h in omega arith) i k e

pub begun : (ns : List Node) (b : Branch) (ks : List ℕ) (d : ChainData) → d.formulas ≡ ks → d.steps ≡ [] → AreEntries ns ks b → above_all (formulas b) ≤ d.variable → IsChain ns b d
begun ns b ks d same none entries most = record {
  numbers = λ i k e. entries.numbers i k (subst (λ ns2. slice_get ns2 i ≡ Some k) same e);
  below = λ i k e. above_each ns ks d.variable (subst (λ ps. above_all ps ≤ d.variable) (sym entries.are) most) i k (subst (λ ns2. slice_get ns2 i ≡ Some k) same e);
  named = λ i s e. absurd (let both : None ≡ Some s = subst (λ ss. slice_get ss i ≡ Some s) none e in (cc));
  stand = ap (map (formula_at ns)) same ∙ entries.are ∙ sym (ap (λ ss. after_links (formulas b) (map (step_in ns) ss)) none);
  links = λ shapes. subst (λ ss. AreLinks shapes b (formulas b) (map (step_in ns) ss)) (sym none) tt;
}

-- ---- one more step

same_item : (x y : Item) → sort_of x ≡ FormulaSort → sort_of y ≡ FormulaSort → formula_in x ≡ formula_in y → x ≡ y
same_item x y e f g = sym (a_formula x e) ∙ ap FormulaItem g ∙ a_formula y f

-- the new formula, by its number
record IsNews (ns : List Node) (d : ChainData) (k : ℕ) : Type 0 where
  one_number : IsOneNumber ns
  numbers : (position n : ℕ) → slice_get d.formulas position ≡ Some n → HasPart ns (length ns) n FormulaSort
  number : HasPart ns (length ns) k FormulaSort
  none : IsNotAmong d.formulas k

not_contained : (ns : List Node) (d : ChainData) (k : ℕ) → IsNews ns d k → Contains (map (formula_at ns) d.formulas) (formula_at ns k) → ⊥
not_contained ns d k h c =
    let found = image (formula_at ns) d.formulas (formula_at ns k) c.0 c.1 c.2 in
    let part = h.numbers found.position found.item found.found in
    let same : found.item ≡ k = h.one_number.one found.item k part.earlier h.number.earlier (same_item (item_at ns found.item) (item_at ns k) part.sort h.number.sort found.is) in
    h.none.none found.position (found.found ∙ ap Some same)

pub record IsGrown (ns : List Node) (b : Branch) (d e : ChainData) (k : ℕ) (s : ChainStep) : Type 0 where
  pub chain : IsChain ns b d
  pub formulas : e.formulas ≡ d.formulas ++ k ∷ []
  pub steps : e.steps ≡ d.steps ++ s ∷ []
  pub variable : e.variable ≡ d.variable
  pub one_number : IsOneNumber ns
  pub none : IsNotAmong d.formulas k
  pub number : HasPart ns (length ns) k FormulaSort
  pub below : above (formula_at ns k) ≤ d.variable
  pub named : NamesInPool ns s
  pub adds : added (step_in ns s) ≡ formula_at ns k ∷ []
  pub link : IsLinkStep b (step_in ns s)
  pub step : (shapes : List Shape) → IsStep shapes (map (formula_at ns) d.formulas) (step_in ns s)

pub grown_chain : (ns : List Node) (b : Branch) (d e : ChainData) (k : ℕ) (s : ChainStep) → IsGrown ns b d e k s → IsChain ns b e
grown_chain ns b d e k s g =
    let old : List FormulaData = map (formula_at ns) d.formulas in
    let links : List StepData = map (step_in ns) d.steps in
    let steps : map (step_in ns) e.steps ≡ links ++ step_in ns s ∷ [] = ap (map (step_in ns)) g.steps ∙ map_push (step_in ns) d.steps s in
    let news : All (λ p. Contains old p → ⊥) (added (step_in ns s)) =
    subst (All (λ p. Contains old p → ⊥)) (sym g.adds) (All-cons (λ p. Contains old p → ⊥) (formula_at ns k) [] (not_contained ns d k (record { one_number = g.one_number; numbers = g.chain.numbers; number = g.number; none = g.none })) (All-nil (λ p. Contains old p → ⊥))) in
    let link : IsLink b old (step_in ns s) = record { step = g.link; news = news } in
    record {
      numbers = λ i n f. elim (push_cases d.formulas k n i (subst (λ ks. slice_get ks i ≡ Some n) g.formulas f)) [ inl h ↦ g.chain.numbers i n h | inr h ↦ subst (λ m. HasPart ns (length ns) m FormulaSort) h g.number ];
      below = λ i n f. subst (λ v. above (formula_at ns n) ≤ v) (sym g.variable) (elim (push_cases d.formulas k n i (subst (λ ks. slice_get ks i ≡ Some n) g.formulas f)) [ inl h ↦ g.chain.below i n h | inr h ↦ subst (λ m. above (formula_at ns m) ≤ d.variable) h g.below ]);
      named = λ i r f. elim (push_cases d.steps s r i (subst (λ ss. slice_get ss i ≡ Some r) g.steps f)) [ inl h ↦ g.chain.named i r h | inr h ↦ subst (NamesInPool ns) h g.named ];
      stand =
          ap (map (formula_at ns)) g.formulas ∙ map_push (formula_at ns) d.formulas k ∙ (λ i. g.chain.stand i ++ sym g.adds i)
          ∙ sym (after_more (formulas b) links (step_in ns s)) ∙ sym (ap (after_links (formulas b)) steps);
      links = λ shapes. subst (AreLinks shapes b (formulas b)) (sym steps) (links_more shapes b (formulas b) links (step_in ns s) (g.chain.links shapes) (subst (λ ps. IsLink b ps (step_in ns s)) g.chain.stand link) (subst (λ ps. IsStep shapes ps (step_in ns s)) g.chain.stand (g.step shapes)));
    }

-- ---- reflexivity

-- the equation of a term with itself, added over the larger pool
pub itself_grown : (ns ms : List Node) → Extends ns ms → (b : Branch) (d e : ChainData) (t : TermData) (k : ℕ) → IsOneNumber ms → IsItem ms k (FormulaItem (EqFormula t t)) → IsNotAmong d.formulas k → e.formulas ≡ d.formulas ++ k ∷ [] → e.steps ≡ d.steps ++ Itself k ∷ [] → e.variable ≡ d.variable → IsChain ns b d → CanBegin b d t → IsChain ms b e
itself_grown ns ms x b d e t k one it none fs ss same h c =
    let is : formula_at ms k ≡ EqFormula t t = ap formula_in it.is in
    grown_chain ms b d e k (Itself k) (record {
      chain = chain_stays ns ms x b d h;
      formulas = fs;
      steps = ss;
      variable = same;
      one_number = one;
      none = none;
      number = record { earlier = it.within; sort = ap sort_of it.is };
      below = subst (λ p. above p ≤ d.variable) (sym is) (let low = c.below in omega arith);
      named = it.within;
      adds = refl;
      link = record { is_axiom = refl; term = t; stands = c.stands; is = is };
      step = λ shapes. record {
        shallow = All-cons (IsWithin most_deep) (formula_at ms k) [] (subst (IsWithin most_deep) (sym is) c.shallow) (All-nil (IsWithin most_deep));
        names = tt;
        allowed = (t, t, refl, is);
      };
    })

-- ---- replacement of equals by equals

at_in : (ns : List Node) (d : ChainData) (position : ℕ) (p : FormulaData) → IsAt ns d position p → slice_get (map (formula_at ns) d.formulas) position ≡ Some p
at_in ns d position p h = map_found (formula_at ns) d.formulas h.number position h.found ∙ ap Some h.is

pub at_stays : (ns ms : List Node) → Extends ns ms → (d : ChainData) → ((position k : ℕ) → slice_get d.formulas position ≡ Some k → HasPart ns (length ns) k FormulaSort) → (position : ℕ) (p : FormulaData) → IsAt ns d position p → IsAt ms d position p
at_stays ns ms x d numbers position p h = record { number = h.number; found = h.found; is = formula_kept ns ms x h.number (numbers position h.number h.found).earlier ∙ h.is }

rewriting_by : (x : ℕ) (c p q equation : FormulaData) (t u : TermData) → Equates equation t u → IsReplaced x c t u p q → IsRewriting x c equation p q
rewriting_by x c p q equation t u (inl e) h = subst (λ f. IsRewriting x c f p q) (sym e) (inl h)
rewriting_by x c p q equation t u (inr e) h = subst (λ f. IsRewriting x c f p q) (sym e) (inr h)

above_side : (equation : FormulaData) (t u : TermData) (v : ℕ) → Equates equation t u → above equation ≤ v → above_term u ≤ v
above_side equation t u v (inl e) h = let most : max (above_term t) (above_term u) ≤ v = subst (λ f. above f ≤ v) e h in omega arith
above_side equation t u v (inr e) h = let most : max (above_term u) (above_term t) ≤ v = subst (λ f. above f ≤ v) e h in omega arith

-- the properties of the numbers of a rewriting
pub record IsMadeBy (ns ms : List Node) (d : ChainData) (way : List Frame) (swap : Swap) (formula pattern : ℕ) : Type 0 where
  pub extends : Extends ns ms
  pub leads : IsWay ns way TermSort
  pub from : HasPart ns (length ns) swap.from TermSort
  pub to : HasPart ns (length ns) swap.to TermSort
  pub formula_is : IsItem ms formula (filled ns way (item_at ns swap.to))
  pub pattern_is : IsItem ms pattern (filled ns way (TermItem (VarTerm d.variable)))

-- the formula and the pattern of a rewriting
pub replaced_by : (ns ms : List Node) (b : Branch) (d : ChainData) (way : List Frame) (swap : Swap) (source formula pattern : ℕ) → IsMadeBy ns ms d way swap formula pattern → IsChain ns b d → (can : CanSwap ns d way swap source) → IsRewriting d.variable (formula_at ms pattern) can.equation (formula_in (filled ns way (item_at ns swap.from))) (formula_at ms formula)
replaced_by ns ms b d way swap source formula pattern m h can =
    let v : ℕ = d.variable in
    let t : TermData = term_at ns swap.from in
    let u : TermData = term_at ns swap.to in
    let t_is : TermItem t ≡ item_at ns swap.from = a_term (item_at ns swap.from) m.from.sort in
    let u_is : TermItem u ≡ item_at ns swap.to = a_term (item_at ns swap.to) m.to.sort in
    let low : above (formula_in (filled ns way (item_at ns swap.from))) ≤ v = subst (λ p. above p ≤ v) can.is_source.is (h.below source can.is_source.number can.is_source.found) in
    let plain : IsReplaced v (formula_in (filled ns way (TermItem (VarTerm v)))) t u (formula_in (filled ns way (TermItem t))) (formula_in (filled ns way (TermItem u))) =
    replaced ns way v t u m.leads (subst (λ x. above (formula_in (filled ns way x)) ≤ v) (sym t_is) low) can.free can.other_free in
    let sources : IsReplaced v (formula_in (filled ns way (TermItem (VarTerm v)))) t u (formula_in (filled ns way (item_at ns swap.from))) (formula_in (filled ns way (TermItem u))) =
    subst (λ x. IsReplaced v (formula_in (filled ns way (TermItem (VarTerm v)))) t u (formula_in (filled ns way x)) (formula_in (filled ns way (TermItem u)))) t_is plain in
    let results : IsReplaced v (formula_in (filled ns way (TermItem (VarTerm v)))) t u (formula_in (filled ns way (item_at ns swap.from))) (formula_at ms formula) =
    subst (λ p. IsReplaced v (formula_in (filled ns way (TermItem (VarTerm v)))) t u (formula_in (filled ns way (item_at ns swap.from))) p) (ap (λ x. formula_in (filled ns way x)) u_is ∙ sym (ap formula_in m.formula_is.is)) sources in
    let patterns : IsReplaced v (formula_at ms pattern) t u (formula_in (filled ns way (item_at ns swap.from))) (formula_at ms formula) =
    subst (λ c. IsReplaced v c t u (formula_in (filled ns way (item_at ns swap.from))) (formula_at ms formula)) (sym (ap formula_in m.pattern_is.is)) results in
    rewriting_by v (formula_at ms pattern) (formula_in (filled ns way (item_at ns swap.from))) (formula_at ms formula) can.equation t u can.equates patterns

pub rewritten_grown : (ns ms : List Node) (b : Branch) (d e : ChainData) (way : List Frame) (swap : Swap) (source formula pattern v : ℕ) → v ≡ d.variable → IsMadeBy ns ms d way swap formula pattern → IsOneNumber ms → CanSwap ns d way swap source → IsNotAmong d.formulas formula → e.formulas ≡ d.formulas ++ formula ∷ [] → e.steps ≡ d.steps ++ Rewritten (record { equation = swap.equation; source = source; variable = v; pattern = pattern; formula = formula }) ∷ [] → e.variable ≡ d.variable → IsChain ns b d → IsChain ms b e
rewritten_grown ns ms b d e way swap source formula pattern v vd m one can none fs ss same h =
    let now : IsChain ms b d = chain_stays ns ms m.extends b d h in
    let result : formula_at ms formula ≡ formula_in (filled ns way (item_at ns swap.to)) = ap formula_in m.formula_is.is in
    let sorted : sort_of (filled ns way (item_at ns swap.to)) ≡ FormulaSort = filled_sorted ns FormulaSort TermSort way m.leads.leads (item_at ns swap.to) m.to.sort in
    let source_sorted : sort_of (filled ns way (item_at ns swap.from)) ≡ FormulaSort = filled_sorted ns FormulaSort TermSort way m.leads.leads (item_at ns swap.from) m.from.sort in
    let low : above (formula_in (filled ns way (item_at ns swap.from))) ≤ d.variable = subst (λ p. above p ≤ d.variable) can.is_source.is (h.below source can.is_source.number can.is_source.found) in
    let to_low : above_term (term_at ns swap.to) ≤ d.variable = above_side can.equation (term_at ns swap.from) (term_at ns swap.to) d.variable can.equates (subst (λ p. above p ≤ d.variable) can.is_equation.is (h.below swap.equation can.is_equation.number can.is_equation.found)) in
    let to_item_low : above_item (item_at ns swap.to) ≤ d.variable = subst (λ x. above_item x ≤ d.variable) (a_term (item_at ns swap.to) m.to.sort) to_low in
    let from_item_low : above_item (filled ns way (item_at ns swap.from)) ≤ d.variable = subst (λ n. n ≤ d.variable) (sym (above_formula (filled ns way (item_at ns swap.from)) source_sorted)) low in
    let all_low : above_item (filled ns way (item_at ns swap.to)) ≤ d.variable = above_filled ns d.variable FormulaSort TermSort way m.leads.leads (item_at ns swap.from) (item_at ns swap.to) m.from.sort m.to.sort from_item_low to_item_low in
    grown_chain ms b d e formula (Rewritten (record { equation = swap.equation; source = source; variable = v; pattern = pattern; formula = formula })) (record {
      chain = now;
      formulas = fs;
      steps = ss;
      variable = same;
      one_number = one;
      none = none;
      number = record { earlier = m.formula_is.within; sort = ap sort_of m.formula_is.is ∙ sorted };
      below = subst (λ p. above p ≤ d.variable) (sym result) (subst (λ n. n ≤ d.variable) (above_formula (filled ns way (item_at ns swap.to)) sorted) all_low);
      named = (m.pattern_is.within, m.formula_is.within);
      adds = refl;
      link = tt;
      step = λ shapes. record {
        shallow = All-cons (IsWithin most_deep) (formula_at ms formula) [] (subst (IsWithin most_deep) (sym result) can.shallow) (All-nil (IsWithin most_deep));
        names = subst (IsWithin most_deep) (sym (ap formula_in m.pattern_is.is)) can.pattern_shallow;
        allowed = (
          can.equation,
          formula_in (filled ns way (item_at ns swap.from)),
          at_in ms d swap.equation can.equation (at_stays ns ms m.extends d h.numbers swap.equation can.equation can.is_equation),
          at_in ms d source (formula_in (filled ns way (item_at ns swap.from))) (at_stays ns ms m.extends d h.numbers source (formula_in (filled ns way (item_at ns swap.from))) can.is_source),
          subst (λ x. IsRewriting x (formula_at ms pattern) can.equation (formula_in (filled ns way (item_at ns swap.from))) (formula_at ms formula)) (sym vd) (replaced_by ns ms b d way swap source formula pattern m h can),
        );
      };
    })

-- ---- the items of a rewriting, one after another

pub formula_stays : (ns ms : List Node) → Extends ns ms → (k : ℕ) (x : Item) → IsItem ns k x → formula_at ms k ≡ formula_in x
formula_stays ns ms e k x it = formula_kept ns ms e k it.within ∙ ap formula_in it.is

pub way_stays : (ns ms : List Node) → Extends ns ms → (way : List Frame) (end : Sort) → IsWay ns way end → IsWay ms way end
way_stays ns ms e way end w = record { leads = leads_stay ns ms e FormulaSort end way w.leads }

pub made_by : (ns fs vs ms : List Node) (d : ChainData) (way : List Frame) (swap : Swap) (formula variable pattern v : ℕ) → v ≡ d.variable → Extends ns fs → Extends fs vs → Extends vs ms → IsWay ns way TermSort → HasPart ns (length ns) swap.from TermSort → HasPart ns (length ns) swap.to TermSort → IsItem fs formula (filled ns way (item_at ns swap.to)) → IsItem vs variable (TermItem (VarTerm v)) → IsItem ms pattern (filled vs way (item_at vs variable)) → IsMadeBy ns ms d way swap formula pattern
made_by ns fs vs ms d way swap formula variable pattern v vd e f g w from to is_formula is_variable is_pattern = record {
  extends = extends_then e (extends_then f g);
  leads = w;
  from = from;
  to = to;
  formula_is = item_stays (extends_then f g) is_formula;
  pattern_is = record {
    within = is_pattern.within;
    is = is_pattern.is ∙ filled_kept ns vs (extends_then e f) FormulaSort TermSort way w.leads (item_at vs variable) ∙ ap (filled ns way) (is_variable.is ∙ ap (λ n. TermItem (VarTerm n)) vd);
  };
}

-- ---- the right side of an equation

some_depth : (t : TermData) → 1 ≤ term_depth t
some_depth (VarTerm n) = omega arith
some_depth (ConstantTerm c) = omega arith
some_depth (UnaryTerm o t) = omega arith
some_depth (BinaryTerm o t u) = omega arith
some_depth (TernaryTerm o t u v) = omega arith
some_depth (PackTerm a ts) = omega arith
some_depth (FieldTerm a k t) = omega arith
some_depth (SetFieldTerm a k t u) = omega arith
some_depth (IfTerm p t u) = omega arith

right_shallow : (m n d : ℕ) → 1 ≤ n → 1 + max m n ≤ d → 1 + max m 1 ≤ d
right_shallow m n d h e = omega arith

-- the context of the right side of an equation
abbrev pub right_of : ℕ → Frame
right_of left = SecondOfTwo (Compare Eq) left

pub right_way : (ns : List Node) (left : ℕ) → HasPart ns (length ns) left TermSort → IsWay ns (right_of left ∷ []) TermSort
right_way ns left p = record { leads = (refl, p, refl) }

pub right_swap : (ns : List Node) (d : ChainData) (left : ℕ) (swap : Swap) (source : ℕ) → CanPutRight ns d left swap source → CanSwap ns d (right_of left ∷ []) swap source
right_swap ns d left swap source c = record {
  equation = c.equation;
  is_equation = c.is_equation;
  equates = c.equates;
  is_source = c.is_source;
  free = All-nil (λ n. free_in_term n (term_at ns swap.from) ≡ false);
  other_free = All-nil (λ n. free_in_term n (term_at ns swap.to) ≡ false);
  shallow = c.shallow;
  pattern_shallow = right_shallow (term_depth (term_at ns left)) (term_depth (term_at ns swap.to)) most_deep (some_depth (term_at ns swap.to)) c.shallow;
}
