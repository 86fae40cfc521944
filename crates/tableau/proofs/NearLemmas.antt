-- The components of the graph are the groups of aliasing memories and vectors.
use Rattle.std.proofs.Common.{◌≡◌, inl, ◌↔◌, ℕ, ◌<◌, List, length, get_or, Option, Some, None, refl, sym, ap, ◌∙◌, subst, arith}
use Rattle.std.specs.Prelude.{◌==◌, IsTrue}
use Rattle.std.proofs.lemmas.Bool.{eqb-true, eq-eqb}
use Rattle.std.proofs.lemmas.List.Elements.{Contains-get_or}
use Rattle.fol.specs.declared.operators.Unary.TheVariants.{Pop}
use Rattle.fol.specs.declared.operators.Binary.TheVariants.{Push}
use Rattle.fol.specs.declared.operators.Ternary.{Ternary as TernaryOperator}
use Rattle.fol.specs.declared.operators.Ternary.TheVariants.{Store, Set}
use Rattle.fol.specs.FormulaData.{TermData, UnaryTerm, BinaryTerm, TernaryTerm, PopTerm, PushTerm, StoreTerm, SetTerm}
use Rattle.term_pool.specs.Items.{TermItem, sort_of, term_in}
use Rattle.term_pool.specs.Pools.{item_at, IsMade, IsOneNumber}
use Rattle.term_pool.specs.declared.node.One.TheVariants.{Unary}
use Rattle.term_pool.specs.declared.node.Two.TheVariants.{Binary}
use Rattle.term_pool.specs.declared.node.Three.TheVariants.{Ternary}
use Rattle.term_pool.specs.declared.node.Node.{Node}
use Rattle.term_pool.specs.declared.node.Node.TheVariants.{Leaf as LeafNode, One as OneNode, Two as TwoNode, Three as ThreeNode}
use Rattle.term_pool.proofs.ShapeLemmas.{Shape, LeafShape, OneShape, TwoShape, ThreeShape, shape_of, leaf_shape, one_shape, two_shape, three_shape}
use Rattle.base.specs.GraphReachability.{Reaches, Here, Along, AreRoots}
use Rattle.base.proofs.ReachLemmas.{reach_join}
use Rattle.certificates.specs.BranchesBranch.{Branch, IsTerm}
use Rattle.certificates.specs.Joined.{Joined, Turned as Back, Chained as Then}
use Rattle.certificates.specs.Decisions.{IsNear, OfOneClass, ByStore, BySet, ByPush, ByPop, Turned, Chained}
use Rattle.tableau.specs.Marks.{outer_parts, IsOneOf}
use Rattle.tableau.specs.PoolBranches.{BranchData, branch_in, IsTermNumber, IsOver}
use Rattle.congruence_closure.specs.Known.{BranchClassesData, class_of, AreExact}
use Rattle.tableau.specs.Terms.{term_at, IsBranchTerm, AreBranchTerms, AreClassesOf}
use Rattle.tableau.specs.Groups.{changed, AreGroups}
use Rattle.tableau.specs.Graphs.{IsChangeOf, IsLink, OneClass, Change, Changed, IsClassed, IsLinking}
use Rattle.tableau.proofs.BranchLemmas.{term_item, made_of, part_of_term, term_number, entries_of, known_term}
use Rattle.tableau.proofs.GraphLemmas.{reach_back}

-- ---- the memory or vector that a term updates, by its node

abbrev pub node_shape : List Node → Node → Shape
node_shape ns (LeafNode h) = LeafShape h
node_shape ns (OneNode h a) = OneShape h (item_at ns a)
node_shape ns (TwoNode h a b) = TwoShape h (item_at ns a) (item_at ns b)
node_shape ns (ThreeNode h a b c) = ThreeShape h (item_at ns a) (item_at ns b) (item_at ns c)

pub made_shape : (ns : List Node) (n : ℕ) (node : Node) → IsMade ns n node → shape_of (item_at ns n) ≡ node_shape ns node
made_shape ns n (LeafNode h) m = ap shape_of m.item ∙ leaf_shape h
made_shape ns n (OneNode h a) m = ap shape_of m.item ∙ one_shape h (item_at ns a) m.parts.sort
made_shape ns n (TwoNode h a b) m = ap shape_of m.item ∙ two_shape h (item_at ns a) (item_at ns b) m.parts.0.sort m.parts.1.sort
made_shape ns n (ThreeNode h a b c) m = ap shape_of m.item ∙ three_shape h (item_at ns a) (item_at ns b) (item_at ns c) m.parts.0.sort m.parts.1.sort m.parts.2.sort

-- the memory or vector that a term updates
abbrev changed_term : TermData → Option TermData
changed_term (UnaryTerm Pop v) = Some v
changed_term (BinaryTerm Push v x) = Some v
changed_term (TernaryTerm o m a v) = Some m
changed_term _ = None

record HasChanged (ns : List Node) (node : Node) (m : TermData) : Type 0 where
  part : ℕ
  is : changed node ≡ Some part
  item : item_at ns part ≡ TermItem m

by_pop : (ns : List Node) (v : TermData) (node : Node) → OneShape (Unary Pop) (TermItem v) ≡ node_shape ns node → HasChanged ns node v
by_pop ns v (LeafNode h) e = absurd (cc)
by_pop ns v (OneNode h a) e =
    let head : Unary Pop ≡ h = cc in
    let item : TermItem v ≡ item_at ns a = cc in
    record { part = a; is = ap (λ k. changed (OneNode k a)) (sym head); item = sym item }
by_pop ns v (TwoNode h a b) e = absurd (cc)
by_pop ns v (ThreeNode h a b c) e = absurd (cc)

by_push : (ns : List Node) (v x : TermData) (node : Node) → TwoShape (Binary Push) (TermItem v) (TermItem x) ≡ node_shape ns node → HasChanged ns node v
by_push ns v x (LeafNode h) e = absurd (cc)
by_push ns v x (OneNode h a) e = absurd (cc)
by_push ns v x (TwoNode h a b) e =
    let head : Binary Push ≡ h = cc in
    let item : TermItem v ≡ item_at ns a = cc in
    record { part = a; is = ap (λ k. changed (TwoNode k a b)) (sym head); item = sym item }
by_push ns v x (ThreeNode h a b c) e = absurd (cc)

by_write : (ns : List Node) (o : TernaryOperator) (m a v : TermData) (node : Node) → ThreeShape (Ternary o) (TermItem m) (TermItem a) (TermItem v) ≡ node_shape ns node → HasChanged ns node m
by_write ns o m a v (LeafNode h) e = absurd (cc)
by_write ns o m a v (OneNode h i) e = absurd (cc)
by_write ns o m a v (TwoNode h i j) e = absurd (cc)
by_write ns o m a v (ThreeNode h i j k) e =
    let head : Ternary o ≡ h = cc in
    let item : TermItem m ≡ item_at ns i = cc in
    record { part = i; is = ap (λ g. changed (ThreeNode g i j k)) (sym head); item = sym item }

change_found : (ns : List Node) (n : ℕ) (node : Node) (t m : TermData) → IsMade ns n node → item_at ns n ≡ TermItem t → changed_term t ≡ Some m → HasChanged ns node m
change_found ns n node (UnaryTerm Pop v) m made e f =
    let same : v ≡ m = cc in
    subst (HasChanged ns node) same (by_pop ns v node (sym (ap shape_of e) ∙ made_shape ns n node made))
change_found ns n node (BinaryTerm Push v x) m made e f =
    let same : v ≡ m = cc in
    subst (HasChanged ns node) same (by_push ns v x node (sym (ap shape_of e) ∙ made_shape ns n node made))
change_found ns n node (TernaryTerm o k a v) m made e f =
    let same : k ≡ m = cc in
    subst (HasChanged ns node) same (by_write ns o k a v node (sym (ap shape_of e) ∙ made_shape ns n node made))
change_found ns n node _ m made e f = absurd (cc)

-- it is a part, and a term's number
record IsChangedPart (ns : List Node) (node : Node) (p : ℕ) : Type 0 where
  outer : IsOneOf p (outer_parts node)
  number : IsTermNumber ns p

pub within_pool : (ns : List Node) (n p : ℕ) (node : Node) → IsMade ns n node → n < length ns → changed node ≡ Some p → p < length ns
within_pool ns n p (LeafNode h) made w e = absurd (cc)
within_pool ns n p (OneNode (Unary Pop) a) made w e = let same : a ≡ p = cc in let l = made.parts.earlier in omega (arith, same, l, w)
within_pool ns n p (OneNode _ a) made w e = absurd (cc)
within_pool ns n p (TwoNode (Binary Push) a b) made w e = let same : a ≡ p = cc in let l = made.parts.0.earlier in omega (arith, same, l, w)
within_pool ns n p (TwoNode _ a b) made w e = absurd (cc)
within_pool ns n p (ThreeNode (Ternary o) a b c) made w e = let same : a ≡ p = cc in let l = made.parts.0.earlier in omega (arith, same, l, w)
within_pool ns n p (ThreeNode _ a b c) made w e = absurd (cc)

changed_part : (ns : List Node) (n p : ℕ) (node : Node) → IsMade ns n node → n < length ns → changed node ≡ Some p → IsChangedPart ns node p
changed_part ns n p (LeafNode h) made w e = absurd (cc)
changed_part ns n p (OneNode (Unary Pop) a) made w e =
    let same : p ≡ a = cc in
    record { outer = inl same; number = record { within = within_pool ns n p (OneNode (Unary Pop) a) made w e; sort = ap (λ k. sort_of (item_at ns k)) same ∙ made.parts.sort } }
changed_part ns n p (OneNode _ a) made w e = absurd (cc)
changed_part ns n p (TwoNode (Binary Push) a b) made w e =
    let same : p ≡ a = cc in
    record { outer = inl same; number = record { within = within_pool ns n p (TwoNode (Binary Push) a b) made w e; sort = ap (λ k. sort_of (item_at ns k)) same ∙ made.parts.0.sort } }
changed_part ns n p (TwoNode _ a b) made w e = absurd (cc)
changed_part ns n p (ThreeNode (Ternary o) a b c) made w e =
    let same : p ≡ a = cc in
    record { outer = inl same; number = record { within = within_pool ns n p (ThreeNode (Ternary o) a b c) made w e; sort = ap (λ k. sort_of (item_at ns k)) same ∙ made.parts.0.sort } }
changed_part ns n p (ThreeNode _ a b c) made w e = absurd (cc)

-- an update aliases the memory or vector that it updates
near_write : (b : Branch) (o : TernaryOperator) (m a v : TermData) → IsTerm b (TernaryTerm o m a v) → IsNear b (TernaryTerm o m a v) m
near_write b Store m a v h = ByStore m a v h
near_write b Set v i x h = BySet v i x h

near_changed : (ns : List Node) (b : Branch) (n p : ℕ) (node : Node) → IsMade ns n node → changed node ≡ Some p → IsTerm b (term_at ns n) → IsNear b (term_at ns n) (term_at ns p)
near_changed ns b n p (LeafNode g) made e h = absurd (cc)
near_changed ns b n p (OneNode (Unary Pop) a) made e h =
    let same : a ≡ p = cc in
    let is : term_at ns n ≡ PopTerm (term_at ns a) = ap term_in made.item in
    subst (λ k. IsNear b (term_at ns n) (term_at ns k)) same (subst (λ t. IsNear b t (term_at ns a)) (sym is) (ByPop (term_at ns a) (subst (IsTerm b) is h)))
near_changed ns b n p (OneNode _ a) made e h = absurd (cc)
near_changed ns b n p (TwoNode (Binary Push) a x) made e h =
    let same : a ≡ p = cc in
    let is : term_at ns n ≡ PushTerm (term_at ns a) (term_at ns x) = ap term_in made.item in
    subst (λ k. IsNear b (term_at ns n) (term_at ns k)) same (subst (λ t. IsNear b t (term_at ns a)) (sym is) (ByPush (term_at ns a) (term_at ns x) (subst (IsTerm b) is h)))
near_changed ns b n p (TwoNode _ a x) made e h = absurd (cc)
near_changed ns b n p (ThreeNode (Ternary o) m a v) made e h =
    let same : m ≡ p = cc in
    let is : term_at ns n ≡ TernaryTerm o (term_at ns m) (term_at ns a) (term_at ns v) = ap term_in made.item in
    subst (λ k. IsNear b (term_at ns n) (term_at ns k)) same (subst (λ t. IsNear b t (term_at ns m)) (sym is) (near_write b o (term_at ns m) (term_at ns a) (term_at ns v) (subst (IsTerm b) is h)))
near_changed ns b n p (ThreeNode _ m a v) made e h = absurd (cc)

-- the terms of the branch, one by one
pub nth_term : (ns : List Node) (b : Branch) (terms : List ℕ) → AreBranchTerms ns b terms → (i : ℕ) → i < length terms → IsBranchTerm ns b (get_or terms i 0)
nth_term ns b terms are i w = (are.each (get_or terms i 0)).0 (Contains-get_or terms i 0 w)

-- ---- aliasing terms, over the graph

module _ (ns : List Node) (one : IsOneNumber ns) (d : BranchData) (over : IsOver ns d) (c : BranchClassesData) (classes : AreClassesOf ns d c) (exact : AreExact c) where
  abbrev b : Branch
  b = branch_in ns d

  tells : (i j : ℕ) → IsBranchTerm ns b i → IsBranchTerm ns b j → IsTrue (class_of c i == class_of c j) ↔ Joined b (term_at ns i) (term_at ns j)
  tells i j s t = (exact.joined i j (known_term ns one d over c classes i s) (known_term ns one d over c classes j t)).tells ns b (term_at ns i) (term_at ns j) (entries_of ns one d over c classes) (term_item ns b i s) (term_item ns b j t)

  pub joined_of_class : (i j : ℕ) → IsBranchTerm ns b i → IsBranchTerm ns b j → class_of c i ≡ class_of c j → Joined b (term_at ns i) (term_at ns j)
  joined_of_class i j s t e = (tells i j s t).0 (eq-eqb (class_of c i) (class_of c j) e)

  pub class_of_joined : (i j : ℕ) → IsBranchTerm ns b i → IsBranchTerm ns b j → Joined b (term_at ns i) (term_at ns j) → class_of c i ≡ class_of c j
  class_of_joined i j s t h = eqb-true (class_of c i) (class_of c j) ((tells i j s t).1 h)

  -- a term is joined with the term of its number
  pub number_joined : (i : ℕ) (t : TermData) → IsBranchTerm ns b i → item_at ns i ≡ TermItem t → Joined b t (term_at ns i)
  number_joined i t s e = subst (λ u. Joined b u (term_at ns i)) (ap term_in e) (joined_of_class i i s s refl)

  pub change_term : (n m : ℕ) → IsBranchTerm ns b n → IsChangeOf ns n m → IsBranchTerm ns b m
  change_term n m s h =
      let part = changed_part ns n m h.node h.made s.number.within h.is in
      part_of_term ns one d over n m h.node s h.made part.outer part.number

  module _ (terms : List ℕ) (all : AreBranchTerms ns b terms) (graph : List (List ℕ)) (firsts : ℕ → Option ℕ) (linking : IsLinking ns b c terms graph firsts) where
    near_link : (i j : ℕ) → IsBranchTerm ns b i → IsBranchTerm ns b j → IsLink ns c i j → IsNear b (term_at ns i) (term_at ns j)
    near_link i j s t (OneClass e) = OfOneClass (term_at ns i) (term_at ns j) (joined_of_class i j s t e)
    near_link i j s t (Change h) = near_changed ns b i j h.node h.made h.is s.stands
    near_link i j s t (Changed h) = Turned (term_at ns j) (term_at ns i) (near_changed ns b j i h.node h.made h.is t.stands)

    near_reach : (i j : ℕ) → IsBranchTerm ns b i → Reaches graph i j → IsNear b (term_at ns i) (term_at ns j)
    near_reach i _ s Here = OfOneClass (term_at ns i) (term_at ns i) (joined_of_class i i s s refl)
    near_reach i j s (Along {j = k} e p) =
        let l = linking.sound i k e in
        Chained (term_at ns i) (term_at ns k) (term_at ns j) (near_link i k s l.other l.link) (near_reach k j l.other p)

    classed : (n : ℕ) → IsBranchTerm ns b n → IsClassed c graph firsts n
    classed n s = linking.classed n ((all.each n).1 s)

    reach_class : (i j : ℕ) → IsBranchTerm ns b i → IsBranchTerm ns b j → Joined b (term_at ns i) (term_at ns j) → Reaches graph i j
    reach_class i j s t h =
        let p = classed i s in
        let q = classed j t in
        let both : Some p.first ≡ Some q.first = sym p.found ∙ ap firsts (class_of_joined i j s t h) ∙ q.found in
        let same : p.first ≡ q.first = cc in
        reach_join p.reached (subst (λ k. Reaches graph k j) (sym same) (reach_back linking.turned q.reached))

    -- terms, also off the branch, that are of one class, or whose classes the graph connects
    data IsReached (t u : TermData) : Type 0 where
      ByClass : Joined b t u → IsReached t u
      ByGraph : (i j : ℕ) → IsBranchTerm ns b i → IsBranchTerm ns b j → Joined b t (term_at ns i) → Reaches graph i j → Joined b (term_at ns j) u → IsReached t u

    by_change : (t m : TermData) → IsTerm b t → changed_term t ≡ Some m → IsReached t m
    by_change t m h e =
        let n = term_number ns one d over t h in
        let node = made_of ns one d over n.number n.term in
        let found = change_found ns n.number node.node t m node.made n.is e in
        let change : IsChangeOf ns n.number found.part = record { node = node.node; made = node.made; is = found.is } in
        let part = change_term n.number found.part n.term change in
        ByGraph n.number found.part n.term part (number_joined n.number t n.term n.is) (Along (linking.changes n.number found.part ((all.each n.number).1 n.term) change) Here) (Back m (term_at ns found.part) (number_joined found.part m part found.item))

    turned_reached : (t u : TermData) → IsReached t u → IsReached u t
    turned_reached t u (ByClass h) = ByClass (Back t u h)
    turned_reached t u (ByGraph i j si sj h r k) = ByGraph j i sj si (Back (term_at ns j) u k) (reach_back linking.turned r) (Back t (term_at ns i) h)

    chained_reached : (t u v : TermData) → IsReached t u → IsReached u v → IsReached t v
    chained_reached t u v (ByClass h) (ByClass k) = ByClass (Then t u v h k)
    chained_reached t u v (ByClass h) (ByGraph i j si sj g r k) = ByGraph i j si sj (Then t u (term_at ns i) h g) r k
    chained_reached t u v (ByGraph i j si sj g r k) (ByClass h) = ByGraph i j si sj g r (Then (term_at ns j) u v k h)
    chained_reached t u v (ByGraph i j si sj g r k) (ByGraph l m sl sm h s f) =
        ByGraph i m si sm g (reach_join r (reach_join (reach_class j l sj sl (Then (term_at ns j) u (term_at ns l) k h)) s)) f

    near_reached : (t u : TermData) → IsNear b t u → IsReached t u
    near_reached _ _ (OfOneClass t u h) = ByClass h
    near_reached _ _ (ByStore m a v h) = by_change (StoreTerm m a v) m h refl
    near_reached _ _ (BySet v i x h) = by_change (SetTerm v i x) v h refl
    near_reached _ _ (ByPush v x h) = by_change (PushTerm v x) v h refl
    near_reached _ _ (ByPop v h) = by_change (PopTerm v) v h refl
    near_reached _ _ (Turned t u h) = turned_reached t u (near_reached t u h)
    near_reached _ _ (Chained t u v h k) = chained_reached t u v (near_reached t u h) (near_reached u v k)

    reach_near : (i j : ℕ) → IsBranchTerm ns b i → IsBranchTerm ns b j → IsReached (term_at ns i) (term_at ns j) → Reaches graph i j
    reach_near i j s t (ByClass h) = reach_class i j s t h
    reach_near i j s t (ByGraph k m sk sm h r g) = reach_join (reach_class i k s sk h) (reach_join r (reach_class m j sm t g))

    pub are_groups : (roots : List ℕ) → AreRoots graph roots → AreGroups ns b roots
    are_groups roots r = record { one_each = r.same ∙ linking.one_each; within = within; exact = λ i j s t. (there i j s t, back i j s t) }
      where
        within : (i : ℕ) → i < length ns → get_or roots i 0 < length ns
        within i w = let l = linking.one_each in let v = r.within i (omega (arith, l, w)) in omega (arith, l, v)

        inside : (i : ℕ) → IsBranchTerm ns b i → i < length graph
        inside i s = let l = linking.one_each in let w = s.number.within in omega (arith, l, w)

        there : (i j : ℕ) → IsBranchTerm ns b i → IsBranchTerm ns b j → get_or roots i 0 ≡ get_or roots j 0 → IsNear b (term_at ns i) (term_at ns j)
        there i j s t e = near_reach i j s (reach_join (r.led i (inside i s)).there (subst (λ k. Reaches graph k j) (sym e) (r.led j (inside j t)).back))

        back : (i j : ℕ) → IsBranchTerm ns b i → IsBranchTerm ns b j → IsNear b (term_at ns i) (term_at ns j) → get_or roots i 0 ≡ get_or roots j 0
        back i j s t h =
            let p = reach_near i j s t (near_reached (term_at ns i) (term_at ns j) h) in
            r.one i j (inside i s) (inside j t) (record { there = p; back = reach_back linking.turned p })
