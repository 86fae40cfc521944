-- The invariants as terms and formulas become known, and as entries are added.
use Rattle.std.proofs.Common.{◌≡◌, ◌⊎◌, inl, inr, ℕ, zero, suc, ◌<◌, ◌≤◌, List, [], ◌∷◌, ◌++◌, length, map, Option, Some, None, Result, Ok, Err, IfOk, Bool, ◌↔◌, refl, sym, ap, ◌∙◌, subst, arith, rules}
use Rattle.std.specs.Prelude.{slice_get}
use Rattle.fol.specs.FormulaData.{TermData, FormulaData}
use Rattle.term_pool.specs.declared.node.Leaf.TheVariants.{Var, TypeParam}
use Rattle.term_pool.specs.declared.node.Two.TheVariants.{Compare}
use Rattle.term_pool.specs.declared.node.Node.{Node}
use Rattle.term_pool.specs.declared.node.Node.TheVariants.{Leaf as LeafNode, One as OneNode, Two as TwoNode, Three as ThreeNode}
use Rattle.term_pool.specs.Items.{Item, TermItem, FormulaItem, TermSort, sort_of, term_in, formula_in, one_item, two_item, three_item}
use Rattle.congruence_closure.specs.Nodes.{IsNode, AreSides, IsEquation, IsSaid, AreEquations}
use Rattle.congruence_closure.specs.Known.{BranchClassesData, IsKnown, IsOuterPart, IsFound, ArePartsFound, class_of, node_in, IsNodeOf, AreKnown, AreExact, formula_at, IsEntry, AreWithin, IsOfEntry, IsOver, StandsInEntry, AreInEntries, AreEntriesOf, TellsJoined, TellsAlike, Keeps, IsWalked, IsPutIn, NoEquation, OneEquation, IsEquated}
use Rattle.congruence_closure.specs.Congruence.{Congruent}
use Rattle.congruence_closure.specs.declared.classes.link.Equation.{Equation}
use Rattle.std.specs.Prelude.{IsTrue, is_some, ◌==◌, unwrap_or}
use Rattle.congruence_closure.specs.Signatures.{class_in}
use Rattle.congruence_closure.proofs.ClassesExactLemmas.{joined_exactly}
use Rattle.fol.specs.FormulaData.{EqFormula}
use Rattle.fol.specs.declared.operators.Comparison.TheVariants.{Eq}
use Rattle.term_pool.specs.Pools.{item_at, item_of, items, HasParts, IsMade, Extends}
use Rattle.term_pool.proofs.ItemLemmas.{item_kept, parts_kept}
use Rattle.congruence_closure.specs.States.{AreClasses, ClassesData}
use Rattle.congruence_closure.specs.declared.branch_classes.numbered.Numbered.{Numbered}
use Rattle.congruence_closure.proofs.ListLemmas.{push_kept, push_new, push_cases}
use Rattle.std.proofs.lemmas.Option.{slice_get_within}
use Rattle.certificates.specs.BranchesBranch.{Branch, formula_of, Says}
use Rattle.congruence_closure.specs.Numbers.{number_at, IsNumbered, ByParts, Bound, Parameter, IsReal, AreNumbered, IsMadeFor, StandsIn, Itself, InPart, AreMoreIn, AreKnownFor, IsKnownFor, AreSidesOf, ArePutIn}
use Rattle.congruence_closure.proofs.NumberLemmas.{less_or, before_append, stays, made_then, nothing_made, stands_below, known_then}
use Rattle.congruence_closure.proofs.WalkLemmas.{node_kept, node_of_kept, node_within, extends_more, nothing_known, none_some, grown_then, walked_then, kept}
use Rattle.congruence_closure.proofs.BranchClassesExactLemmas.{exactly_joined, exactly_alike}

-- ---- equations among formulas

as_term : (x : Item) → sort_of x ≡ TermSort → x ≡ TermItem (term_in x)
as_term (TermItem t) e = refl
as_term _ e = absurd (cc)

pub equation_made : (pool : List Node) (number left right : ℕ) → IsMade pool number (TwoNode (Compare Eq) left right) → formula_at pool number ≡ EqFormula (term_in (item_at pool left)) (term_in (item_at pool right))
equation_made pool number left right m = ap formula_in m.item

pub sides_made : (pool : List Node) (number left right : ℕ) (ns : List Node) (i j : ℕ) → IsMade pool number (TwoNode (Compare Eq) left right) → IsNodeOf pool ns [] left i → IsNodeOf pool ns [] right j → AreSides ns (record { left = i; right = j }) (term_in (item_at pool left)) (term_in (item_at pool right))
sides_made pool number left right ns i j m p q = record {
  left = subst (IsNode ns i []) (as_term (item_at pool left) m.parts.0.sort) p.is;
  right = subst (IsNode ns j []) (as_term (item_at pool right) m.parts.1.sort) q.is;
}

-- ---- the invariants

sides_kept : (ns ms : List Node) → Extends ns ms → (e : Equation) (t u : TermData) → AreSides ns e t u → AreSides ms e t u
sides_kept ns ms g e t u s = record { left = node_kept ns ms g e.left [] (TermItem t) s.left; right = node_kept ns ms g e.right [] (TermItem u) s.right }

equations_kept : (ns ms : List Node) (es : List Equation) (Tells : ℕ → FormulaData → Type 0) → Extends ns ms → AreEquations ns es Tells → AreEquations ms es Tells
equations_kept ns ms es Tells g a = record {
  given = λ k e f. (let s : IsSaid ns Tells e = a.given k e f in record { one = s.one; other = s.other; sides = sides_kept ns ms g e s.one s.other s.sides; position = s.position; says = s.says });
  all = λ i t u h. (let q : IsEquation ns es t u = a.all i t u h in record { position = q.position; equation = q.equation; found = q.found; sides = sides_kept ns ms g q.equation t u q.sides });
}

-- the same equations under another predicate
equations_said : (ns : List Node) (es : List Equation) (Tells Says2 : ℕ → FormulaData → Type 0) → ((i : ℕ) (p : FormulaData) → Tells i p → Says2 i p) → ((i : ℕ) (p : FormulaData) → Says2 i p → Tells i p) → AreEquations ns es Tells → AreEquations ns es Says2
equations_said ns es Tells Says2 to from a = record {
  given = λ k e f. (let s : IsSaid ns Tells e = a.given k e f in record { one = s.one; other = s.other; sides = s.sides; position = s.position; says = to s.position (EqFormula s.one s.other) s.says });
  all = λ i t u h. a.all i t u (from i (EqFormula t u) h);
}

kept_known : (d d2 : BranchClassesData) (number : ℕ) → ((i k : ℕ) → node_in d i ≡ Some k → node_in d2 i ≡ Some k) → IsKnown d number → IsKnown d2 number
kept_known d d2 number h k = record { node = k.node; found = h number k.node k.found }

pub keeps_known : (d d2 : BranchClassesData) → ((i k : ℕ) → node_in d i ≡ Some k → node_in d2 i ≡ Some k) → Keeps d d2
keeps_known d d2 h = record { known = λ number k. kept_known d d2 number h k }

sides_stay : (pool ns ms : List Node) (whole : ℕ) (numbers after : List ℕ) (number : ℕ) (e : Equation) → AreNumbered pool ns numbers → AreMoreIn pool whole ns ms numbers after → AreSidesOf pool ns numbers number e → AreSidesOf pool ms after number e
sides_stay pool ns ms whole numbers after number e a g s = record { left = s.left; right = s.right; made = s.made; left_made = made_then a g s.left_made; right_made = made_then a g s.right_made }

pub over_walked : (pool : List Node) (d d2 : BranchClassesData) (number node : ℕ) → IsOver pool d → d2.classes.equations ≡ d.classes.equations → d2.entries ≡ d.entries → IsWalked pool [] number d.classes.nodes d2.classes.nodes (node_in d) (node_in d2) node → IsKnownFor pool number d.classes.nodes d2.classes.nodes d.numbers d2.numbers (node_in d2) node → IsOver pool d2
over_walked pool d d2 number node over ee en w k = record {
  nodes = w.grown.nodes;
  known = w.grown.known;
  entries = λ position i f. kept_known d d2 i w.grown.stays (over.entries position i (subst (λ ks. slice_get ks position ≡ Some i) en f));
  equations = subst (λ es. AreEquations d2.classes.nodes es (IsEntry pool d2.entries)) (sym ee) (subst (λ ks. AreEquations d2.classes.nodes d.classes.equations (IsEntry pool ks)) (sym en) (equations_kept d.classes.nodes d2.classes.nodes d.classes.equations (IsEntry pool d.entries) w.grown.extends over.equations));
  numbered = k.grown.more.numbered;
  made = k.grown.all_made;
  sides = λ i e f. sides e (over.sides i e (subst (λ es. slice_get es i ≡ Some e) ee f));
}
  where
    sides : (e : Equation) → IsOfEntry pool d e → IsOfEntry pool d2 e
    sides e h = record { position = h.position; number = h.number; found = subst (λ ks. slice_get ks h.position ≡ Some h.number) (sym en) h.found; sides = sides_stay pool d.classes.nodes d2.classes.nodes number d.numbers d2.numbers h.number e over.numbered k.grown.more h.sides }

nowhere : {X : Type 0} (xs : List X) → xs ≡ [] → (k : ℕ) (x : X) → slice_get xs k ≡ Some x → ⊥
nowhere xs none k x e = let never : None ≡ Some x = sym (ap (λ ys. slice_get ys k) none) ∙ e in absurd (cc)

pub nothing_over : (pool : List Node) (d : BranchClassesData) → d.classes.nodes ≡ [] → d.classes.equations ≡ [] → d.numbers ≡ [] → d.known ≡ [] → d.entries ≡ [] → IsOver pool d
nothing_over pool d nodes equations numbers known entries = record {
  nodes = record { each = λ i w. absurd (let l = ap length nodes in omega (arith, l, w)) };
  known = nothing_known pool d.classes.nodes [] d.known known;
  entries = λ position number e. absurd (nowhere d.entries entries position number e);
  equations = record { given = λ k e f. absurd (nowhere d.classes.equations equations k e f); all = λ i t u s. absurd (nowhere d.entries entries i s.number s.found) };
  numbered = record {
    long = ap length numbers ∙ sym (ap length nodes);
    parts = λ i n e. absurd (nowhere d.classes.nodes nodes i n e);
    inside = λ i w. absurd (none i w);
    numbered = λ i w. absurd (none i w);
  };
  made = nothing_made pool d.classes.nodes d.numbers d.known known;
  sides = λ k e f. absurd (nowhere d.classes.equations equations k e f);
}
  where
    none : (i : ℕ) → i < length d.classes.nodes → ⊥
    none i w = let l = ap length nodes in omega (arith, l, w)

pub nothing_inside : (pool : List Node) (d : BranchClassesData) → d.classes.nodes ≡ [] → AreInEntries pool d
nothing_inside pool d nodes = record { each = λ i w. absurd (let l = ap length nodes in omega (arith, l, w)) }

-- ---- one more entry

entry_more : (pool : List Node) (entries : List ℕ) (number position : ℕ) (p : FormulaData) → IsEntry pool entries position p → IsEntry pool (entries ++ number ∷ []) position p
entry_more pool entries number position p e = record { number = e.number; found = push_kept entries number position e.number e.found; is = e.is }

pub put_in : (pool ns : List Node) (es es2 : List Equation) (entries : List ℕ) (number : ℕ) → IsPutIn pool number ns es es2 → AreEquations ns es (IsEntry pool entries) → AreEquations ns es2 (IsEntry pool (entries ++ number ∷ []))
put_in pool ns es es2 entries number (NoEquation same none) a = subst (λ xs. AreEquations ns xs (IsEntry pool (entries ++ number ∷ []))) (sym same) (record { given = given; all = all })
  where
    given : (k : ℕ) (e : Equation) → slice_get es k ≡ Some e → IsSaid ns (IsEntry pool (entries ++ number ∷ [])) e
    given k e f =
        let s : IsSaid ns (IsEntry pool entries) e = a.given k e f in
        record { one = s.one; other = s.other; sides = s.sides; position = s.position; says = entry_more pool entries number s.position (EqFormula s.one s.other) s.says }

    all : (i : ℕ) (t u : TermData) → IsEntry pool (entries ++ number ∷ []) i (EqFormula t u) → IsEquation ns es t u
    all i t u h = go (push_cases entries number i h.number h.found)
      where
        go : (slice_get entries i ≡ Some h.number) ⊎ ((i ≡ length entries) × (h.number ≡ number)) → IsEquation ns es t u
        go (inl f) = a.all i t u (record { number = h.number; found = f; is = h.is })
        go (inr p) = absurd (none t u (ap (formula_at pool) (sym p.1) ∙ h.is))
put_in pool ns es es2 entries number (OneEquation e t u more is sides) a = subst (λ xs. AreEquations ns xs (IsEntry pool (entries ++ number ∷ []))) (sym more) (record { given = given; all = all })
  where
    given : (k : ℕ) (d : Equation) → slice_get (es ++ e ∷ []) k ≡ Some d → IsSaid ns (IsEntry pool (entries ++ number ∷ [])) d
    given k d f = go (push_cases es e k d f)
      where
        go : (slice_get es k ≡ Some d) ⊎ ((k ≡ length es) × (d ≡ e)) → IsSaid ns (IsEntry pool (entries ++ number ∷ [])) d
        go (inl g) =
            let s : IsSaid ns (IsEntry pool entries) d = a.given k d g in
            record { one = s.one; other = s.other; sides = s.sides; position = s.position; says = entry_more pool entries number s.position (EqFormula s.one s.other) s.says }
        go (inr p) = subst (IsSaid ns (IsEntry pool (entries ++ number ∷ []))) (sym p.1) (record { one = t; other = u; sides = sides; position = length entries; says = record { number = number; found = push_new entries number; is = is } })

    all : (i : ℕ) (v w : TermData) → IsEntry pool (entries ++ number ∷ []) i (EqFormula v w) → IsEquation ns (es ++ e ∷ []) v w
    all i v w h = go (push_cases entries number i h.number h.found)
      where
        go : (slice_get entries i ≡ Some h.number) ⊎ ((i ≡ length entries) × (h.number ≡ number)) → IsEquation ns (es ++ e ∷ []) v w
        go (inl f) =
            let q : IsEquation ns es v w = a.all i v w (record { number = h.number; found = f; is = h.is }) in
            record { position = q.position; equation = q.equation; found = push_kept es e q.position q.equation q.found; sides = q.sides }
        go (inr p) =
            let same : EqFormula t u ≡ EqFormula v w = sym is ∙ ap (formula_at pool) (sym p.1) ∙ h.is in
            let st : t ≡ v = cc in
            let su : u ≡ w = cc in
            record { position = length es; equation = e; found = push_new es e; sides = subst (λ x. AreSides ns e x w) st (subst (λ x. AreSides ns e t x) su sides) }

pub over_entry : (pool : List Node) (d d2 : BranchClassesData) (number : ℕ) → IsOver pool d → d2.entries ≡ d.entries ++ number ∷ [] → IsEquated pool number d.classes d2.classes (node_in d) (node_in d2) → AreKnownFor pool number d.classes.nodes d2.classes.nodes d.numbers d2.numbers (node_in d2) → ArePutIn pool d2.classes.nodes d2.numbers number d.classes.equations d2.classes.equations → IsOver pool d2
over_entry pool d d2 number over en q k p = record {
  nodes = q.walked.grown.nodes;
  known = q.walked.grown.known;
  entries = λ position i f. go position i (push_cases d.entries number position i (subst (λ ks. slice_get ks position ≡ Some i) en f));
  equations = subst (λ ks. AreEquations d2.classes.nodes d2.classes.equations (IsEntry pool ks)) (sym en)
      (put_in pool d2.classes.nodes d.classes.equations d2.classes.equations d.entries number q.equations (equations_kept d.classes.nodes d2.classes.nodes d.classes.equations (IsEntry pool d.entries) q.walked.grown.extends over.equations));
  numbered = k.more.numbered;
  made = k.all_made;
  sides = λ i e f. sides e (elim (p.each i e f) [ inl h ↦ inl (over.sides i e h) | inr h ↦ inr h ]);
}
  where
    later : (position i : ℕ) → slice_get d.entries position ≡ Some i → slice_get d2.entries position ≡ Some i
    later position i f = subst (λ ks. slice_get ks position ≡ Some i) (sym en) (push_kept d.entries number position i f)

    sides : (e : Equation) → IsOfEntry pool d e ⊎ AreSidesOf pool d2.classes.nodes d2.numbers number e → IsOfEntry pool d2 e
    sides e (inl h) = record { position = h.position; number = h.number; found = later h.position h.number h.found; sides = sides_stay pool d.classes.nodes d2.classes.nodes number d.numbers d2.numbers h.number e over.numbered k.more h.sides }
    sides e (inr h) = record { position = length d.entries; number = number; found = subst (λ ks. slice_get ks (length d.entries) ≡ Some number) (sym en) (push_new d.entries number); sides = h }

    go : (position k : ℕ) → (slice_get d.entries position ≡ Some k) ⊎ ((position ≡ length d.entries) × (k ≡ number)) → IsKnown d2 k
    go position k (inl f) = kept_known d d2 k q.walked.grown.stays (over.entries position k f)
    go position k (inr p) = subst (IsKnown d2) (sym p.1) (record { node = q.node; found = q.found })

-- the items that occur in entries, after one more entry
pub still_inside : (pool : List Node) (d d2 : BranchClassesData) (number : ℕ) → IsOver pool d → d2.entries ≡ d.entries ++ number ∷ [] → AreKnownFor pool number d.classes.nodes d2.classes.nodes d.numbers d2.numbers (node_in d2) → AreInEntries pool d → AreInEntries pool d2
still_inside pool d d2 number over en k inside = record { each = λ i w. go i w (less_or i (length d.classes.nodes)) }
  where
    go : (i : ℕ) → i < length d2.classes.nodes → (i < length d.classes.nodes) ⊎ (length d.classes.nodes ≤ i) → StandsInEntry pool d2.entries (number_at d2.numbers i)
    go i w (inl v) =
        let s = inside.each i v in
        let same : number_at d2.numbers i ≡ number_at d.numbers i = stays pool d.classes.nodes d2.classes.nodes d.numbers d2.numbers k.more.more k.more.nodes k.more.is over.numbered i v in
        record { position = s.position; entry = s.entry; found = subst (λ ks. slice_get ks s.position ≡ Some s.entry) (sym en) (push_kept d.entries number s.position s.entry s.found); stands = subst (λ j. StandsIn pool j s.entry) (sym same) s.stands }
    go i w (inr v) = record { position = length d.entries; entry = number; found = subst (λ ks. slice_get ks (length d.entries) ≡ Some number) (sym en) (push_new d.entries number); stands = k.more.each i v w }

-- the sides of an equation were walked and joined
pub equated_by : {E : Type 0} (pool : List Node) (number left right : ℕ) (d0 d1 d2 d3 : ClassesData) (f0 f1 f2 f3 : ℕ → Option ℕ) (node i j : ℕ) (r : Result Numbered E) → IsMade pool number (TwoNode (Compare Eq) left right) → d1.equations ≡ d0.equations → d2.equations ≡ d1.equations → d3.equations ≡ d2.equations → IsWalked pool [] number d0.nodes d1.nodes f0 f1 node → f1 number ≡ Some node → IsWalked pool [] left d1.nodes d2.nodes f1 f2 i → IsWalked pool [] right d2.nodes d3.nodes f2 f3 j → IfOk r (λ new. new.classes.nodes ≡ d3.nodes) → IfOk r (λ new. new.classes.equations ≡ d3.equations ++ record { left = i; right = j } ∷ []) → IfOk r (λ new. IsEquated pool number d0 new.classes f0 f3)
equated_by pool number left right d0 d1 d2 d3 f0 f1 f2 f3 node i j (Ok new) made e1 e2 e3 u found v w en ee =
    let e : Equation = record { left = i; right = j } in
    let all : IsWalked pool [] number d0.nodes d3.nodes f0 f3 node = walked_then u (grown_then v.grown w.grown) in
    let sides : AreSides d3.nodes e (term_in (item_at pool left)) (term_in (item_at pool right)) = sides_made pool number left right d3.nodes i j made (node_of_kept pool d2.nodes d3.nodes [] left i w.grown.extends v.is) w.is in
    record {
      node = node;
      walked = subst (λ ns. IsWalked pool [] number d0.nodes ns f0 f3 node) (sym en) all;
      found = w.grown.stays number node (v.grown.stays number node found);
      equations = OneEquation e (term_in (item_at pool left)) (term_in (item_at pool right)) (ee ∙ ap (λ es. es ++ e ∷ []) (e3 ∙ e2 ∙ e1)) (equation_made pool number left right made)
          (subst (λ ns. AreSides ns e (term_in (item_at pool left)) (term_in (item_at pool right))) (sym en) sides);
    }
equated_by pool number left right d0 d1 d2 d3 f0 f1 f2 f3 node i j (Err x) made e1 e2 e3 u found v w en ee = en

pub none_put : (pool ns : List Node) (numbers : List ℕ) (number : ℕ) (es es2 : List Equation) → es2 ≡ es → ArePutIn pool ns numbers number es es2
none_put pool ns numbers number es es2 same = record { each = λ k e f. inl (subst (λ xs. slice_get xs k ≡ Some e) same f) }

-- the equation that was added is that of the sides
pub sides_put : {E : Type 0} (pool : List Node) (number left right : ℕ) (n1 n2 n3 : List Node) (m1 m2 m3 : List ℕ) (f2 f3 : ℕ → Option ℕ) (es0 es1 es2 es3 : List Equation) (i j : ℕ) (r : Result Numbered E) → IsMade pool number (TwoNode (Compare Eq) left right) → es1 ≡ es0 → es2 ≡ es1 → es3 ≡ es2 → IsKnownFor pool left n1 n2 m1 m2 f2 i → IsKnownFor pool right n2 n3 m2 m3 f3 j → IfOk r (λ new. new.classes.nodes ≡ n3) → IfOk r (λ new. new.numbers.items ≡ m3) → IfOk r (λ new. new.classes.equations ≡ es3 ++ record { left = i; right = j } ∷ []) → IfOk r (λ new. ArePutIn pool new.classes.nodes new.numbers.items number es0 new.classes.equations)
sides_put pool number left right n1 n2 n3 m1 m2 m3 f2 f3 es0 es1 es2 es3 i j (Ok new) made e1 e2 e3 v w en em ee = record { each = λ k e f. go k e (push_cases es3 (record { left = i; right = j }) k e (subst (λ es. slice_get es k ≡ Some e) ee f)) }
  where
    sides : AreSidesOf pool n3 m3 number (record { left = i; right = j })
    sides = record { left = left; right = right; made = made; left_made = made_then v.grown.more.numbered w.grown.more v.made; right_made = w.made }

    go : (k : ℕ) (e : Equation) → (slice_get es3 k ≡ Some e) ⊎ ((k ≡ length es3) × (e ≡ record { left = i; right = j })) → (slice_get es0 k ≡ Some e) ⊎ AreSidesOf pool new.classes.nodes new.numbers.items number e
    go k e (inl h) = inl (subst (λ es. slice_get es k ≡ Some e) (e3 ∙ e2 ∙ e1) h)
    go k e (inr h) = inr (subst (λ ns. AreSidesOf pool ns new.numbers.items number e) (sym en) (subst (λ ms. AreSidesOf pool n3 ms number e) (sym em) (subst (AreSidesOf pool n3 m3 number) (sym h.1) sides)))
sides_put pool number left right n1 n2 n3 m1 m2 m3 f2 f3 es0 es1 es2 es3 i j (Err x) made e1 e2 e3 v w en em ee = en

-- the known numbers after the sides were walked too
pub equation_known : {E : Type 0} (pool : List Node) (number left right : ℕ) (n0 n1 n2 n3 : List Node) (m0 m1 m2 m3 : List ℕ) (f1 f2 f3 : ℕ → Option ℕ) (node i j : ℕ) (r : Result Numbered E) → IsMade pool number (TwoNode (Compare Eq) left right) → IsKnownFor pool number n0 n1 m0 m1 f1 node → IsKnownFor pool left n1 n2 m1 m2 f2 i → IsKnownFor pool right n2 n3 m2 m3 f3 j → IfOk r (λ new. new.classes.nodes ≡ n3) → IfOk r (λ new. new.numbers.items ≡ m3) → IfOk r (λ new. AreKnownFor pool number n0 new.classes.nodes m0 new.numbers.items f3)
equation_known pool number left right n0 n1 n2 n3 m0 m1 m2 m3 f1 f2 f3 node i j (Ok new) made u v w en em =
    let all : AreKnownFor pool number n0 n3 m0 m3 f3 = known_then (known_then u.grown (stands_below (TwoNode (Compare Eq) left right) made (inl refl)) v.grown) (stands_below (TwoNode (Compare Eq) left right) made (inr refl)) w.grown in
    subst (λ ns. AreKnownFor pool number n0 ns m0 new.numbers.items f3) (sym en) (subst (λ ms. AreKnownFor pool number n0 n3 m0 ms f3) (sym em) all)
equation_known pool number left right n0 n1 n2 n3 m0 m1 m2 m3 f1 f2 f3 node i j (Err x) made u v w en em = en

pub known_within : (pool ns : List Node) (known : ℕ → Option ℕ) → AreKnown pool ns [] known → AreWithin ns known
known_within pool ns known a = record { each = λ number node e. node_within pool ns [] number node (a.each number node e) }

-- ---- known numbers

pub known_test : (d : BranchClassesData) (number : ℕ) (r : Bool) → r ≡ is_some (node_in d number) → IsTrue r ↔ IsKnown d number
known_test d number r e = subst (λ s. IsTrue s ↔ IsKnown d number) (sym e) (go (node_in d number) refl)
  where
    go : (o : Option ℕ) → node_in d number ≡ o → IsTrue (is_some o) ↔ IsKnown d number
    go (Some k) f = (λ t. record { node = k; found = f }, λ k. search rules)
    go None f = (λ t. absurd (search rules), λ k. absurd (let never : None ≡ Some k.node = sym f ∙ k.found in none_some never))

pub part_known : (pool : List Node) (d : BranchClassesData) (number part : ℕ) (n : Node) → IsOver pool d → IsKnown d number → slice_get pool number ≡ Some n → IsOuterPart part n → IsKnown d part
part_known pool d number part n over k e o =
    let f : IsFound (node_in d) part = (over.known.parts number k.node k.found).each n part e o in
    record { node = f.node; found = f.found }

-- ---- a pool that was extended

module _ (pool more : List Node) (g : Extends pool more) where
  -- the item of a node whose parts are earlier
  same_made : (i : ℕ) → i < length pool → (n : Node) → HasParts pool i n → item_of (items pool) n ≡ item_of (items more) n
  same_made i w (LeafNode h) p = refl
  same_made i w (OneNode h a) p = let e = p.earlier in ap (one_item h) (sym (item_kept pool more g a (omega (arith, w, e))))
  same_made i w (TwoNode h a b) p =
      let e = p.0.earlier in
      let f = p.1.earlier in
      let same : item_at pool a ≡ item_at more a = sym (item_kept pool more g a (omega (arith, w, e))) in
      let other : item_at pool b ≡ item_at more b = sym (item_kept pool more g b (omega (arith, w, f))) in
      λ k. two_item h (same k) (other k)
  same_made i w (ThreeNode h a b c) p =
      let e = p.0.earlier in
      let f = p.1.earlier in
      let d = p.2.earlier in
      let first : item_at pool a ≡ item_at more a = sym (item_kept pool more g a (omega (arith, w, e))) in
      let second : item_at pool b ≡ item_at more b = sym (item_kept pool more g b (omega (arith, w, f))) in
      let third : item_at pool c ≡ item_at more c = sym (item_kept pool more g c (omega (arith, w, d))) in
      λ k. three_item h (first k) (second k) (third k)

  pub made_more : (i : ℕ) (n : Node) → IsMade pool i n → IsMade more i n
  made_more i n m =
      let w : i < length pool = slice_get_within pool i n m.found in
      record { found = kept pool more g i n m.found; item = item_kept pool more g i w ∙ m.item ∙ same_made i w n m.parts; parts = parts_kept pool more g i n (omega (arith, w)) m.parts }

  pub stands_more : {number whole : ℕ} → StandsIn pool number whole → StandsIn more number whole
  stands_more Itself = Itself
  stands_more (InPart whole part n made o s) = InPart whole part n (made_more whole n made) o (stands_more s)

  module _ (ns : List Node) (numbers : List ℕ) where
    real_more : (i : ℕ) → IsReal pool ns numbers i → IsReal more ns numbers i
    real_more i r = record { made = λ n e. made_more (number_at numbers i) (LeafNode (TypeParam n)) (r.made n e) }

    pub made_for_more : (number node : ℕ) → IsMadeFor pool ns numbers number node → IsMadeFor more ns numbers number node
    made_for_more number node m = record { within = m.within; is = m.is; real = real_more node m.real }

    numbered_more : (i : ℕ) → IsNumbered pool ns numbers i → IsNumbered more ns numbers i
    numbered_more i (ByParts n f m r) = ByParts n f (made_more (number_at numbers i) _ m) (λ p o. real_more p (r p o))
    numbered_more i (Bound p n f h m) = Bound p n f h (made_more (number_at numbers i) (LeafNode (Var n)) m)
    numbered_more i (Parameter n f) = Parameter n f

    pub all_numbered_more : AreNumbered pool ns numbers → AreNumbered more ns numbers
    all_numbered_more a = record { long = a.long; parts = a.parts; inside = λ i w. extends_more pool more g (number_at numbers i) (a.inside i w); numbered = λ i w. numbered_more i (a.numbered i w) }

pub inside_more : (pool more : List Node) (d : BranchClassesData) → Extends pool more → AreInEntries pool d → AreInEntries more d
inside_more pool more d g inside = record { each = λ i w. (let s = inside.each i w in record { position = s.position; entry = s.entry; found = s.found; stands = stands_more pool more g s.stands }) }

pub still_over : (pool more : List Node) (d : BranchClassesData) → Extends pool more → IsOver pool d → IsOver more d
still_over pool more d g over = record {
  nodes = over.nodes;
  known = record { each = λ number node e. known number node (over.known.each number node e); parts = parts };
  entries = over.entries;
  equations = equations_said d.classes.nodes d.classes.equations (IsEntry pool d.entries) (IsEntry more d.entries) to from over.equations;
  numbered = all_numbered_more pool more g d.classes.nodes d.numbers over.numbered;
  made = record { each = λ number node e. made_for_more pool more g d.classes.nodes d.numbers number node (over.made.each number node e) };
  sides = λ k e f. (let h = over.sides k e f in let s = h.sides in record {
    position = h.position;
    number = h.number;
    found = h.found;
    sides = record {
      left = s.left;
      right = s.right;
      made = made_more pool more g h.number (TwoNode (Compare Eq) s.left s.right) s.made;
      left_made = made_for_more pool more g d.classes.nodes d.numbers s.left e.left s.left_made;
      right_made = made_for_more pool more g d.classes.nodes d.numbers s.right e.right s.right_made;
    };
  });
}
  where
    known : (number node : ℕ) → IsNodeOf pool d.classes.nodes [] number node → IsNodeOf more d.classes.nodes [] number node
    known number node n = record { within = extends_more pool more g number n.within; is = subst (IsNode d.classes.nodes node []) (sym (item_kept pool more g number n.within)) n.is }

    parts : (number node : ℕ) → node_in d number ≡ Some node → ArePartsFound more (node_in d) number
    parts number node e = record {
      each = λ n part f o. (over.known.parts number node e).each n part (before_append pool g.more number n (over.known.each number node e).within (subst (λ ks. slice_get ks number ≡ Some n) g.is f)) o;
    }

    within : (i number : ℕ) → slice_get d.entries i ≡ Some number → number < length pool
    within i number e = (let k : IsKnown d number = over.entries i number e in (over.known.each number k.node k.found).within)

    to : (i : ℕ) (p : FormulaData) → IsEntry pool d.entries i p → IsEntry more d.entries i p
    to i p e = record { number = e.number; found = e.found; is = ap formula_in (item_kept pool more g e.number (within i e.number e.found)) ∙ e.is }

    from : (i : ℕ) (p : FormulaData) → IsEntry more d.entries i p → IsEntry pool d.entries i p
    from i p e = record { number = e.number; found = e.found; is = ap formula_in (sym (item_kept pool more g e.number (within i e.number e.found))) ∙ e.is }

-- ---- the branch of the entries

record IsMapped {X Y : Type 0} (f : X → Y) (xs : List X) (i : ℕ) (y : Y) : Type 0 where
  item : X
  found : slice_get xs i ≡ Some item
  is : f item ≡ y

mapped : {X Y : Type 0} (f : X → Y) (xs : List X) (i : ℕ) (y : Y) → slice_get (map f xs) i ≡ Some y → IsMapped f xs i y
mapped f [] i y e = absurd (cc)
mapped f (x ∷ xs) zero y e = let same : f x ≡ y = cc in record { item = x; found = refl; is = same }
mapped f (x ∷ xs) (suc i) y e = let m = mapped f xs i y e in record { item = m.item; found = m.found; is = m.is }

map_at : {X Y : Type 0} (f : X → Y) (xs : List X) (i : ℕ) (x : X) → slice_get xs i ≡ Some x → slice_get (map f xs) i ≡ Some (f x)
map_at f [] i x e = absurd (cc)
map_at f (y ∷ xs) zero x e = let same : y ≡ x = cc in ap (λ z. Some (f z)) same
map_at f (y ∷ xs) (suc i) x e = map_at f xs i x e

module _ (pool : List Node) (d : BranchClassesData) (b : Branch) (of : AreEntriesOf pool d b) where
  pub to_branch : (i : ℕ) (p : FormulaData) → IsEntry pool d.entries i p → Says b i p
  to_branch i p e =
      let at : slice_get (map formula_of b) i ≡ Some (formula_at pool e.number) = ap (λ qs. slice_get qs i) of.formulas ∙ map_at (formula_at pool) d.entries i e.number e.found in
      let m : IsMapped formula_of b i (formula_at pool e.number) = mapped formula_of b i (formula_at pool e.number) at in
      record { entry = m.item; found = m.found; is = m.is ∙ e.is }

  from_branch : (i : ℕ) (p : FormulaData) → Says b i p → IsEntry pool d.entries i p
  from_branch i p s =
      let at : slice_get (map (formula_at pool) d.entries) i ≡ Some s.entry.formula = ap (λ qs. slice_get qs i) (sym of.formulas) ∙ map_at formula_of b i s.entry s.found in
      let m : IsMapped (formula_at pool) d.entries i s.entry.formula = mapped (formula_at pool) d.entries i s.entry.formula at in
      record { number = m.item; found = m.found; is = m.is ∙ s.is }

  branch_equations : AreEquations d.classes.nodes d.classes.equations (Says b)
  branch_equations = equations_said d.classes.nodes d.classes.equations (IsEntry pool d.entries) (Says b) to_branch from_branch of.over.equations

  known_node : (number node : ℕ) (x : Item) → node_in d number ≡ Some node → item_at pool number ≡ x → IsNode d.classes.nodes node [] x
  known_node number node x e f = subst (IsNode d.classes.nodes node []) f (of.over.known.each number node e).is

both : {A B C : Type 0} → A ↔ B → B ↔ C → A ↔ C
both p q = (λ a. q.0 (p.0 a), λ c. p.1 (q.1 c))

tells_joined : (d : BranchClassesData) (left right i j : ℕ) (answer : Bool) → AreClasses d.classes.nodes d.classes.equations d.classes.names d.classes.links → node_in d left ≡ Some i → node_in d right ≡ Some j → IsTrue answer ↔ Congruent d.classes.nodes d.classes.equations i j → TellsJoined d left right answer
tells_joined d left right i j answer classes e f h = record {
  tells = λ pool b t u of x y. both h (exactly_joined d.classes.nodes d.classes.equations d.classes.names d.classes.links classes of.over.nodes b (branch_equations pool d b of) i j t u (known_node pool d b of left i (TermItem t) e x) (known_node pool d b of right j (TermItem u) f y));
}

tells_alike : (d : BranchClassesData) (left right i j : ℕ) (answer : Bool) → AreClasses d.classes.nodes d.classes.equations d.classes.names d.classes.links → node_in d left ≡ Some i → node_in d right ≡ Some j → IsTrue answer ↔ Congruent d.classes.nodes d.classes.equations i j → TellsAlike d left right answer
tells_alike d left right i j answer classes e f h = record {
  tells = λ pool b p q of x y. both h (exactly_alike d.classes.nodes d.classes.equations d.classes.names d.classes.links classes of.over.nodes b (branch_equations pool d b of) i j p q (known_node pool d b of left i (FormulaItem p) e x) (known_node pool d b of right j (FormulaItem q) f y));
}

-- ---- representatives

module _ (d : BranchClassesData) (classes : AreClasses d.classes.nodes d.classes.equations d.classes.names d.classes.links) (within : AreWithin d.classes.nodes (node_in d)) where
  class_is : (number : ℕ) (k : IsKnown d number) → class_of d number ≡ class_in d.classes.names k.node
  class_is number k = ap (λ o. class_in d.classes.names (unwrap_or o 0)) k.found

  named : (left right : ℕ) (k : IsKnown d left) (l : IsKnown d right) → IsTrue (class_of d left == class_of d right) ↔ Congruent d.classes.nodes d.classes.equations k.node l.node
  named left right k l = joined_exactly d.classes.nodes d.classes.equations d.classes.names d.classes.links classes k.node l.node (class_of d left) (class_of d right) (within.each left k.node k.found) (within.each right l.node l.found) (class_is left k) (class_is right l)

  pub exact : AreExact d
  exact = record {
    joined = λ left right k l. tells_joined d left right k.node l.node (class_of d left == class_of d right) classes k.found l.found (named left right k l);
    alike = λ left right k l. tells_alike d left right k.node l.node (class_of d left == class_of d right) classes k.found l.found (named left right k l);
  }
