-- Graphs to which edges are added both ways.
use Rattle.std.proofs.Common.{◌≡◌, ◌⊎◌, inl, inr, ℕ, ◌<◌, Bool, true, false, List, [], ◌∷◌, ◌++◌, length, get_or, set, replicate, cond, Option, Some, None, Result, Ok, Err, OnOk, IfOk, refl, sym, ap, ◌∙◌, subst, arith}
use Rattle.std.specs.Prelude.{nat_eq}
use Rattle.std.proofs.lemmas.Bool.{eqb-true, eq-eqb}
use Rattle.std.proofs.lemmas.List.{length-set, length-replicate}
use Rattle.std.proofs.lemmas.List.Elements.{Contains-push_cases}
use Rattle.term_pool.specs.declared.node.Node.{Node}
use Rattle.base.specs.GraphReachability.{IsEdge, Reaches, Here, Along}
use Rattle.base.proofs.EdgeLemmas.{no_edge, edge_kept, edge_new, edge_pushed}
use Rattle.base.proofs.ReachLemmas.{reach_push}
use Rattle.certificates.specs.BranchesBranch.{Branch}
use Rattle.congruence_closure.specs.Known.{BranchClassesData, class_of}
use Rattle.tableau.specs.Terms.{IsBranchTerm}
use Rattle.tableau.specs.Graphs.{IsJoined, IsChangeOf, IsChangeJoined, NoChange, OneChange, IsClassJoined, ToFirst, AsFirst, IsLink, OneClass, Change, Changed, AreLinked, IsFirst, IsClassed, IsLinking}

-- ---- properties of results

pub ok_then : {T E : Type 0} {P Q : Type 0} (r : Result T E) → (P → Q) → OnOk r P → OnOk r Q
ok_then (Ok x) f h = f h
ok_then (Err e) f h = h

pub ok_map : {V E : Type 0} {P Q : V → Type 0} (r : Result V E) → ((v : V) → P v → Q v) → IfOk r P → IfOk r Q
ok_map (Ok v) f h = f v h
ok_map (Err e) f h = h

-- ---- edges both ways

abbrev pub with_edge : List (List ℕ) → ℕ → ℕ → List (List ℕ)
with_edge graph i j = set graph i (get_or graph i [] ++ j ∷ [])

pub joined_by : (g g1 g2 : List (List ℕ)) (i j : ℕ) → i < length g → j < length g → g1 ≡ with_edge g i j → g2 ≡ with_edge g1 j i → IsJoined g g2 i j
joined_by g g1 g2 i j wi wj e f = subst (λ h. IsJoined g h i j) (sym (f ∙ ap (λ h. with_edge h j i) e)) both
  where
    long : length (with_edge g i j) ≡ length g
    long = length-set g i (get_or g i [] ++ j ∷ [])

    within : j < length (with_edge g i j)
    within = omega (arith, long, wj)

    only : (k m : ℕ) → IsEdge (with_edge (with_edge g i j) j i) k m → IsEdge g k m ⊎ (((k ≡ i) × (m ≡ j)) ⊎ ((k ≡ j) × (m ≡ i)))
    only k m h = elim (edge_pushed (with_edge g i j) j i k m within h) [
      | inl o ↦ elim (edge_pushed g i j k m wi o) [ inl p ↦ inl p | inr p ↦ inr (inl p) ]
      | inr o ↦ inr (inr o)
    ]

    both : IsJoined g (with_edge (with_edge g i j) j i) i j
    both = record {
      same = length-set (with_edge g i j) j (get_or (with_edge g i j) j [] ++ i ∷ []) ∙ long;
      kept = λ k m h. edge_kept (with_edge g i j) j i k m (edge_kept g i j k m h);
      there = edge_kept (with_edge g i j) j i i j (edge_new g i j wi);
      back = edge_new (with_edge g i j) j i within;
      only = only;
    }

pub reach_kept : {g h : List (List ℕ)} {i j : ℕ} → ((k m : ℕ) → IsEdge g k m → IsEdge h k m) → Reaches g i j → Reaches h i j
reach_kept kept Here = Here
reach_kept kept (Along {i} {j} e p) = Along (kept i j e) (reach_kept kept p)

pub reach_back : {g : List (List ℕ)} {i j : ℕ} → ((k m : ℕ) → IsEdge g k m → IsEdge g m k) → Reaches g i j → Reaches g j i
reach_back turned Here = Here
reach_back turned (Along {i} {j} e p) = reach_push (reach_back turned p) (turned i j e)

-- ---- the aliasing graph

module _ (ns : List Node) (b : Branch) (c : BranchClassesData) where
  turned_link : (i j : ℕ) → IsLink ns c i j → IsLink ns c j i
  turned_link i j (OneClass e) = OneClass (sym e)
  turned_link i j (Change h) = Changed h
  turned_link i j (Changed h) = Change h

  linked_back : (i j : ℕ) → AreLinked ns b c i j → AreLinked ns b c j i
  linked_back i j h = record { one = h.other; other = h.one; link = turned_link i j h.link }

  pub linking_begun : (graph : List (List ℕ)) (firsts : ℕ → Option ℕ) → graph ≡ replicate (length ns) [] → ((k : ℕ) → firsts k ≡ None) → IsLinking ns b c [] graph firsts
  linking_begun graph firsts e none = record {
    one_each = ap length e ∙ length-replicate {A = List ℕ} (length ns) [];
    turned = λ i j h. absurd (no_edge (length ns) i j (subst (λ g. IsEdge g i j) e h));
    sound = λ i j h. absurd (no_edge (length ns) i j (subst (λ g. IsEdge g i j) e h));
    firsts_are = λ k first f. absurd (let never : None ≡ Some first = sym (none k) ∙ f in cc);
    classed = λ n h. absurd (let w = h.1 in omega (arith, w));
    changes = λ n m h. absurd (let w = h.1 in omega (arith, w));
  }

  -- two terms that alias were joined
  linking_joined : (done : List ℕ) (g h : List (List ℕ)) (firsts : ℕ → Option ℕ) (i j : ℕ) → IsLinking ns b c done g firsts → AreLinked ns b c i j → IsJoined g h i j → IsLinking ns b c done h firsts
  linking_joined done g h firsts i j l link e = record {
    one_each = e.same ∙ l.one_each;
    turned = turned;
    sound = sound;
    firsts_are = l.firsts_are;
    classed = λ n m. (let k = l.classed n m in record { first = k.first; found = k.found; reached = reach_kept e.kept k.reached });
    changes = λ n m k o. e.kept n m (l.changes n m k o);
  }
    where
      turned : (k m : ℕ) → IsEdge h k m → IsEdge h m k
      turned k m o = elim (e.only k m o) [
        | inl p ↦ e.kept m k (l.turned k m p)
        | inr q ↦ elim q [
          | inl p ↦ subst (λ x. IsEdge h x k) (sym p.1) (subst (λ x. IsEdge h j x) (sym p.0) e.back)
          | inr p ↦ subst (λ x. IsEdge h x k) (sym p.1) (subst (λ x. IsEdge h i x) (sym p.0) e.there)
        ]
      ]

      sound : (k m : ℕ) → IsEdge h k m → AreLinked ns b c k m
      sound k m o = elim (e.only k m o) [
        | inl p ↦ l.sound k m p
        | inr q ↦ elim q [
          | inl p ↦ subst (λ x. AreLinked ns b c x m) (sym p.0) (subst (λ x. AreLinked ns b c i x) (sym p.1) link)
          | inr p ↦ subst (λ x. AreLinked ns b c x m) (sym p.0) (subst (λ x. AreLinked ns b c j x) (sym p.1) (linked_back i j link))
        ]
      ]

  -- a term is joined with the one that it updates
  pub record IsHalf (done : List ℕ) (graph : List (List ℕ)) (firsts : ℕ → Option ℕ) (n : ℕ) : Type 0 where
    pub linking : IsLinking ns b c done graph firsts
    pub changes : (m : ℕ) → IsChangeOf ns n m → IsEdge graph n m

  same_change : (n m k : ℕ) → IsChangeOf ns n m → IsChangeOf ns n k → m ≡ k
  same_change n m k h g =
      let node : Some h.node ≡ Some g.node = sym h.made.found ∙ g.made.found in
      let same : h.node ≡ g.node = cc in
      let f = h.is in
      let e = g.is in
      cc

  pub half_done : (done : List ℕ) (g h : List (List ℕ)) (firsts : ℕ → Option ℕ) (n : ℕ) → IsLinking ns b c done g firsts → IsBranchTerm ns b n → ((m : ℕ) → IsChangeOf ns n m → IsBranchTerm ns b m) → IsChangeJoined ns n g h → IsHalf done h firsts n
  half_done done g h firsts n l term parts (NoChange e none) = record { linking = subst (λ x. IsLinking ns b c done x firsts) (sym e) l; changes = λ m o. absurd (none m o) }
  half_done done g h firsts n l term parts (OneChange m o e) = record {
    linking = linking_joined done g h firsts n m l (record { one = term; other = parts m o; link = Change o }) e;
    changes = λ k p. subst (IsEdge h n) (same_change n m k o p) e.there;
  }

  -- one more term that has all its edges
  one_more : (done : List ℕ) (g : List (List ℕ)) (firsts : ℕ → Option ℕ) (n : ℕ) → IsLinking ns b c done g firsts → ((m : ℕ) → IsChangeOf ns n m → IsEdge g n m) → IsClassed c g firsts n → IsLinking ns b c (done ++ n ∷ []) g firsts
  one_more done g firsts n l changes classed = record {
    one_each = l.one_each;
    turned = l.turned;
    sound = l.sound;
    firsts_are = l.firsts_are;
    classed = λ k h. elim (Contains-push_cases done n k h) [ inl o ↦ l.classed k o | inr e ↦ subst (IsClassed c g firsts) e classed ];
    changes = λ k m h o. elim (Contains-push_cases done n k h) [ inl p ↦ l.changes k m p o | inr e ↦ subst (λ x. IsEdge g x m) e (changes m (subst (λ x. IsChangeOf ns x m) (sym e) o)) ];
  }

  -- the first number of a class is recorded
  noted : (done : List ℕ) (g : List (List ℕ)) (before after : ℕ → Option ℕ) (n : ℕ) → IsLinking ns b c done g before → IsBranchTerm ns b n → before (class_of c n) ≡ None → ((k : ℕ) → after k ≡ cond (nat_eq (class_of c n) k) (Some n) (before k)) → IsLinking ns b c done g after
  noted done g before after n l term none e = record {
    one_each = l.one_each;
    turned = l.turned;
    sound = l.sound;
    firsts_are = λ k first f. firsts k first (nat_eq (class_of c n) k) refl (sym (e k) ∙ f);
    classed = λ k h. (let o = l.classed k h in record { first = o.first; found = e (class_of c k) ∙ kept (class_of c k) o.first (nat_eq (class_of c n) (class_of c k)) refl o.found; reached = o.reached });
    changes = l.changes;
  }
    where
      firsts : (k first : ℕ) (t : Bool) → nat_eq (class_of c n) k ≡ t → cond t (Some n) (before k) ≡ Some first → IsFirst ns b c k first
      firsts k first true q f =
          let same : n ≡ first = cc in
          subst (IsFirst ns b c k) same (record { term = term; is = eqb-true (class_of c n) k q })
      firsts k first false q f = l.firsts_are k first f

      kept : (k first : ℕ) (t : Bool) → nat_eq (class_of c n) k ≡ t → before k ≡ Some first → cond t (Some n) (before k) ≡ Some first
      kept k first true q f = absurd (let at : class_of c n ≡ k = eqb-true (class_of c n) k q in let never : None ≡ Some first = sym none ∙ ap before at ∙ f in cc)
      kept k first false q f = f

  pub whole_done : (done : List ℕ) (g h : List (List ℕ)) (before after : ℕ → Option ℕ) (n : ℕ) → IsHalf done g before n → IsBranchTerm ns b n → IsClassJoined (class_of c n) n g h before after → IsLinking ns b c (done ++ n ∷ []) h after
  whole_done done g h before after n half term (ToFirst first found same e) =
      subst (IsLinking ns b c (done ++ n ∷ []) h) (sym same)
      (one_more done h before n (linking_joined done g h before n first half.linking link e) (λ m o. e.kept n m (half.changes m o)) (record { first = first; found = found; reached = Along e.there Here }))
    where
      is_first : IsFirst ns b c (class_of c n) first
      is_first = half.linking.firsts_are (class_of c n) first found

      link : AreLinked ns b c n first
      link = record { one = term; other = is_first.term; link = OneClass (sym is_first.is) }
  whole_done done g h before after n half term (AsFirst none same e) =
      subst (λ x. IsLinking ns b c (done ++ n ∷ []) x after) (sym same)
      (one_more done g after n (noted done g before after n half.linking term none e) half.changes (record { first = n; found = e (class_of c n) ∙ ap (λ t. cond t (Some n) (before (class_of c n))) (eq-eqb (class_of c n) (class_of c n) refl); reached = Here }))
