-- Terms at whose classes something is read, by groups.
use Rattle.std.proofs.Common.{◌≡◌, ◌⊎◌, inl, inr, ℕ, Bool, true, false, List, [], ◌∷◌, ◌++◌, map, get_or, cond, Option, Some, None, refl, sym, ap, ◌∙◌, subst, arith, append-nil, append_assoc}
use Rattle.std.specs.Prelude.{Contains, nat_eq, MatchOption}
use Rattle.std.proofs.lemmas.Bool.{eqb-true, eq-eqb}
use Rattle.std.proofs.lemmas.List.{map_push}
use Rattle.std.proofs.lemmas.List.Elements.{Contains-push, Contains-push_cases, Contains-append_left, Contains-append_right, Contains-append_cases}
use Rattle.std.proofs.lemmas.Option.{slice_get_within}
use Rattle.fol.specs.declared.operators.Binary.{Binary as BinaryOperator}
use Rattle.fol.specs.declared.operators.Binary.TheVariants.{Select, At}
use Rattle.fol.specs.FormulaData.{TermData, SelectTerm, AtTerm}
use Rattle.term_pool.specs.Items.{TermItem, term_in}
use Rattle.term_pool.specs.Pools.{item_at, IsMade, IsOneNumber}
use Rattle.term_pool.specs.declared.node.Two.TheVariants.{Binary}
use Rattle.term_pool.specs.declared.node.Node.{Node}
use Rattle.term_pool.specs.declared.node.Node.TheVariants.{Leaf as LeafNode, One as OneNode, Two as TwoNode, Three as ThreeNode}
use Rattle.term_pool.proofs.ShapeLemmas.{TwoShape, shape_of}
use Rattle.base.specs.Lists.{list_in}
use Rattle.base.specs.KeyedPairs.{AreMore}
use Rattle.certificates.specs.BranchesBranch.{Branch, IsTerm}
use Rattle.certificates.specs.Joined.{Joined}
use Rattle.certificates.specs.Decisions.{IsIndex}
use Rattle.tableau.specs.Marks.{outer_parts, IsOneOf}
use Rattle.tableau.specs.PoolBranches.{BranchData, branch_in, IsTermNumber, IsOver}
use Rattle.congruence_closure.specs.Known.{BranchClassesData, class_of, AreExact}
use Rattle.tableau.specs.Terms.{term_at, IsBranchTerm, AreBranchTerms, AreClassesOf}
use Rattle.tableau.proofs.BranchLemmas.{made_of, part_of_term, term_number}
use Rattle.tableau.proofs.NearLemmas.{node_shape, made_shape, joined_of_class, class_of_joined}
use Rattle.axiom_strategy.specs.Positions.{read_of, IsReadAt, AreByClass, at_group, IsPosition, ArePositions, AreSpread}
use Rattle.axiom_strategy.specs.declared.decisions.positions.Position.{Position}

-- ---- reads by number

no_read : (ns : List Node) (n : ℕ) (node : Node) → IsMade ns n node → read_of node ≡ None → (p : ℕ × ℕ) → IsReadAt ns n p → ⊥
no_read ns n node made none p h =
    let both : Some h.node ≡ Some node = sym h.made.found ∙ made.found in
    let same : h.node ≡ node = cc in
    let never : None ≡ Some p = sym none ∙ ap read_of (sym same) ∙ h.is in
    cc

pub read_answer : (ns : List Node) (n : ℕ) (node : Node) → IsMade ns n node → (o : Option (ℕ × ℕ)) → o ≡ read_of node → MatchOption o ((p : ℕ × ℕ) → IsReadAt ns n p → ⊥) (IsReadAt ns n)
read_answer ns n node made None e = no_read ns n node made (sym e)
read_answer ns n node made (Some p) e = record { node = node; made = made; is = sym e }

-- the parts of a read: they occur in it outside quantifiers, and are terms
record AreReadParts (ns : List Node) (node : Node) (p : ℕ × ℕ) : Type 0 where
  from : IsOneOf p.0 (outer_parts node)
  position : IsOneOf p.1 (outer_parts node)
  from_number : IsTermNumber ns p.0
  position_number : IsTermNumber ns p.1

binary_parts : (ns : List Node) (n : ℕ) (o : BinaryOperator) (a x : ℕ) → IsMade ns n (TwoNode (Binary o) a x) → AreReadParts ns (TwoNode (Binary o) a x) (a, x)
binary_parts ns n o a x made =
    let w = slice_get_within ns n (TwoNode (Binary o) a x) made.found in
    let first = made.parts.0.earlier in
    let second = made.parts.1.earlier in
    record { from = inl refl; position = inr (inl refl); from_number = record { within = omega (arith, w, first); sort = made.parts.0.sort }; position_number = record { within = omega (arith, w, second); sort = made.parts.1.sort } }

read_parts : (ns : List Node) (n : ℕ) (node : Node) (p : ℕ × ℕ) → IsMade ns n node → read_of node ≡ Some p → AreReadParts ns node p
read_parts ns n (TwoNode (Binary Select) a x) p made e = let same : (a, x) ≡ p = cc in subst (AreReadParts ns (TwoNode (Binary Select) a x)) same (binary_parts ns n Select a x made)
read_parts ns n (TwoNode (Binary At) a x) p made e = let same : (a, x) ≡ p = cc in subst (AreReadParts ns (TwoNode (Binary At) a x)) same (binary_parts ns n At a x made)
read_parts ns n (TwoNode _ a x) p made e = absurd (cc)
read_parts ns n (LeafNode h) p made e = absurd (cc)
read_parts ns n (OneNode h a) p made e = absurd (cc)
read_parts ns n (ThreeNode h a x y) p made e = absurd (cc)

-- the node of a read term
record IsReadNode (ns : List Node) (node : Node) (m k : TermData) : Type 0 where
  parts : ℕ × ℕ
  is : read_of node ≡ Some parts
  from : item_at ns parts.0 ≡ TermItem m
  position : item_at ns parts.1 ≡ TermItem k

select_node : (ns : List Node) (node : Node) (m k : TermData) → TwoShape (Binary Select) (TermItem m) (TermItem k) ≡ node_shape ns node → IsReadNode ns node m k
select_node ns (LeafNode h) m k e = absurd (cc)
select_node ns (OneNode h a) m k e = absurd (cc)
select_node ns (TwoNode h a x) m k e =
    let head : Binary Select ≡ h = cc in
    let from : TermItem m ≡ item_at ns a = cc in
    let position : TermItem k ≡ item_at ns x = cc in
    record { parts = (a, x); is = ap (λ g. read_of (TwoNode g a x)) (sym head); from = sym from; position = sym position }
select_node ns (ThreeNode h a x y) m k e = absurd (cc)

at_node : (ns : List Node) (node : Node) (m k : TermData) → TwoShape (Binary At) (TermItem m) (TermItem k) ≡ node_shape ns node → IsReadNode ns node m k
at_node ns (LeafNode h) m k e = absurd (cc)
at_node ns (OneNode h a) m k e = absurd (cc)
at_node ns (TwoNode h a x) m k e =
    let head : Binary At ≡ h = cc in
    let from : TermItem m ≡ item_at ns a = cc in
    let position : TermItem k ≡ item_at ns x = cc in
    record { parts = (a, x); is = ap (λ g. read_of (TwoNode g a x)) (sym head); from = sym from; position = sym position }
at_node ns (ThreeNode h a x y) m k e = absurd (cc)

-- ---- indexes and reads

module _ (ns : List Node) (one : IsOneNumber ns) (d : BranchData) (over : IsOver ns d) (c : BranchClassesData) (classes : AreClassesOf ns d c) where
  abbrev b : Branch
  b = branch_in ns d

  pub read_terms : (n : ℕ) (p : ℕ × ℕ) → IsBranchTerm ns b n → IsReadAt ns n p → IsBranchTerm ns b p.0 × IsBranchTerm ns b p.1
  read_terms n p s h =
      let q = read_parts ns n h.node p h.made h.is in
      (part_of_term ns one d over n p.0 h.node s h.made q.from q.from_number, part_of_term ns one d over n p.1 h.node s h.made q.position q.position_number)

  module _ (exact : AreExact c) where
    -- the term reads something of the class of m at an index of the class of t
    pub record IsIndexNumber (m : TermData) (t : ℕ) : Type 0 where
      pub number : ℕ
      pub term : IsBranchTerm ns b number
      pub parts : ℕ × ℕ
      pub read : IsReadAt ns number parts
      pub from : Joined b (term_at ns parts.0) m
      pub same_class : class_of c parts.1 ≡ class_of c t

    by_node : (n : ℕ) (node : Node) (memory position m : TermData) (t : ℕ) → IsBranchTerm ns b n → IsMade ns n node → IsReadNode ns node memory position → IsBranchTerm ns b t → Joined b memory m → Joined b position (term_at ns t) → IsIndexNumber m t
    by_node n node memory position m t s made r st from at =
        let read : IsReadAt ns n r.parts = record { node = node; made = made; is = r.is } in
        let terms = read_terms n r.parts s read in
        let m_is : term_at ns r.parts.0 ≡ memory = ap term_in r.from in
        let k_is : term_at ns r.parts.1 ≡ position = ap term_in r.position in
        record {
          number = n;
          term = s;
          parts = r.parts;
          read = read;
          from = subst (λ x. Joined b x m) (sym m_is) from;
          same_class = class_of_joined ns one d over c classes exact r.parts.1 t terms.1 st (subst (λ x. Joined b x (term_at ns t)) (sym k_is) at);
        }

    pub index_number : (m : TermData) (t : ℕ) → IsBranchTerm ns b t → IsIndex b m (term_at ns t) → IsIndexNumber m t
    index_number m t s (inl h) =
        let n = term_number ns one d over (SelectTerm h.memory h.position) h.stands in
        let node = made_of ns one d over n.number n.term in
        by_node n.number node.node h.memory h.position m t n.term node.made (select_node ns node.node h.memory h.position (sym (ap shape_of n.is) ∙ made_shape ns n.number node.node node.made)) s h.same_memory h.same_position
    index_number v t s (inr h) =
        let n = term_number ns one d over (AtTerm h.vector h.position) h.stands in
        let node = made_of ns one d over n.number n.term in
        by_node n.number node.node h.vector h.position v t n.term node.made (at_node ns node.node h.vector h.position (sym (ap shape_of n.is) ∙ made_shape ns n.number node.node node.made)) s h.same_vector h.same_position

    itself : (n : ℕ) → IsBranchTerm ns b n → Joined b (term_at ns n) (term_at ns n)
    itself n s = joined_of_class ns one d over c classes exact n n s s refl

    read_node : (n t : ℕ) (node : Node) (p : ℕ × ℕ) → IsMade ns n node → read_of node ≡ Some p → IsTerm b (term_at ns n) → Joined b (term_at ns p.0) (term_at ns p.0) → Joined b (term_at ns p.1) (term_at ns t) → IsIndex b (term_at ns p.0) (term_at ns t)
    read_node n t (TwoNode (Binary Select) m k) p made e h from at =
        let same : p ≡ (m, k) = cc in
        let is : term_at ns n ≡ SelectTerm (term_at ns p.0) (term_at ns p.1) = ap term_in made.item ∙ ap (λ (q : ℕ × ℕ). SelectTerm (term_at ns q.0) (term_at ns q.1)) (sym same) in
        inl (record { memory = term_at ns p.0; position = term_at ns p.1; stands = subst (IsTerm b) is h; same_memory = from; same_position = at })
    read_node n t (TwoNode (Binary At) m k) p made e h from at =
        let same : p ≡ (m, k) = cc in
        let is : term_at ns n ≡ AtTerm (term_at ns p.0) (term_at ns p.1) = ap term_in made.item ∙ ap (λ (q : ℕ × ℕ). AtTerm (term_at ns q.0) (term_at ns q.1)) (sym same) in
        inr (record { vector = term_at ns p.0; position = term_at ns p.1; stands = subst (IsTerm b) is h; same_vector = from; same_position = at })
    read_node n t (TwoNode _ m k) p made e h from at = absurd (cc)
    read_node n t (LeafNode g) p made e h from at = absurd (cc)
    read_node n t (OneNode g a) p made e h from at = absurd (cc)
    read_node n t (ThreeNode g a x y) p made e h from at = absurd (cc)

    pub read_index : (n t : ℕ) (p : ℕ × ℕ) → IsBranchTerm ns b n → IsReadAt ns n p → IsBranchTerm ns b t → class_of c p.1 ≡ class_of c t → IsIndex b (term_at ns p.0) (term_at ns t)
    read_index n t p s h st e =
        let terms = read_terms n p s h in
        read_node n t h.node p h.made h.is s.stands (itself p.0 terms.0) (joined_of_class ns one d over c classes exact p.1 t terms.1 st e)

-- ---- candidates by class

module _ (c : BranchClassesData) where
  no_members : (n : ℕ) → Contains [] n → ⊥
  no_members n h = let w = h.1 in omega (arith, w)

  pub classed_begun : AreByClass c [] []
  classed_begun = record { each = λ k t. (λ h. absurd (no_members t h), λ h. absurd (no_members t h.0)) }

  pub classed_more : (candidates : List ℕ) (lists more : List (ℕ × List ℕ)) (n : ℕ) → AreByClass c candidates lists → ((k : ℕ) → list_in more k ≡ cond (nat_eq k (class_of c n)) (list_in lists k ++ n ∷ []) (list_in lists k)) → AreByClass c (candidates ++ n ∷ []) more
  classed_more candidates lists more n h e = record { each = λ k t. (there k t, back k t) }
    where
      there : (k t : ℕ) → Contains (list_in more k) t → Contains (candidates ++ n ∷ []) t × (class_of c t ≡ k)
      there k t m = go (nat_eq k (class_of c n)) refl (subst (λ xs. Contains xs t) (e k) m)
        where
          go : (s : Bool) → nat_eq k (class_of c n) ≡ s → Contains (cond s (list_in lists k ++ n ∷ []) (list_in lists k)) t → Contains (candidates ++ n ∷ []) t × (class_of c t ≡ k)
          go true q o = elim (Contains-push_cases (list_in lists k) n t o) [
            | inl p ↦ (let r = (h.each k t).0 p in (Contains-append_left candidates (n ∷ []) t r.0, r.1))
            | inr p ↦ (subst (Contains (candidates ++ n ∷ [])) p (Contains-push candidates n), ap (class_of c) (sym p) ∙ sym (eqb-true k (class_of c n) q))
          ]
          go false q o = let r = (h.each k t).0 o in (Contains-append_left candidates (n ∷ []) t r.0, r.1)

      back : (k t : ℕ) → Contains (candidates ++ n ∷ []) t × (class_of c t ≡ k) → Contains (list_in more k) t
      back k t m = subst (λ xs. Contains xs t) (sym (e k)) (go (nat_eq k (class_of c n)) refl (Contains-push_cases candidates n t m.0))
        where
          go : (s : Bool) → nat_eq k (class_of c n) ≡ s → Contains candidates t ⊎ (n ≡ t) → Contains (cond s (list_in lists k ++ n ∷ []) (list_in lists k)) t
          go true q (inl o) = Contains-append_left (list_in lists k) (n ∷ []) t ((h.each k t).1 (o, m.1))
          go true q (inr o) = subst (Contains (list_in lists k ++ n ∷ [])) o (Contains-push (list_in lists k) n)
          go false q (inl o) = (h.each k t).1 (o, m.1)
          go false q (inr o) = absurd (let is : k ≡ class_of c n = sym m.1 ∙ ap (class_of c) (sym o) in let never : true ≡ false = sym (eq-eqb k (class_of c n) is) ∙ q in cc)

-- ---- index terms

-- one of the first terms reads something of the group at an index of the class
pub record IsReadAmong (ns : List Node) (c : BranchClassesData) (groups done : List ℕ) (group class : ℕ) : Type 0 where
  pub number : ℕ
  pub among : Contains done number
  pub parts : ℕ × ℕ
  pub read : IsReadAt ns number parts
  pub same_group : get_or groups parts.0 0 ≡ group
  pub same_class : class_of c parts.1 ≡ class

-- the pairs seen are those that the first terms read
pub record AreSeen (ns : List Node) (c : BranchClassesData) (groups done : List ℕ) (seen : List (ℕ × ℕ)) : Type 0 where
  pub are : (group class : ℕ) → Contains seen (group, class) → IsReadAmong ns c groups done group class
  pub all : (n : ℕ) (p : ℕ × ℕ) → Contains done n → IsReadAt ns n p → Contains seen (get_or groups p.0 0, class_of c p.1)

module _ (c : BranchClassesData) (candidates : List ℕ) where
  pub spread_begun : AreSpread c candidates [] [] []
  spread_begun = record {
    positions = λ g t. (λ h. absurd (let w = h.1 in omega (arith, w)), λ h. absurd (let w = h.1.1 in omega (arith, w)));
    by_group = λ g t. (λ h. absurd (let w = h.1 in omega (arith, w)), λ h. absurd (let w = h.1.1 in omega (arith, w)));
  }

  -- a pair that was seen before
  pub spread_same : (seen more : List (ℕ × ℕ)) (all : List Position) (lists : List (ℕ × List ℕ)) (group class : ℕ) → AreSpread c candidates seen all lists → AreMore seen more (group, class) → Contains seen (group, class) → AreSpread c candidates more all lists
  spread_same seen more all lists group class h added old = record {
    positions = λ g t. (λ m. (let r = (h.positions g t).0 m in (r.0, added.kept (g, class_of c t) r.1)), λ m. (h.positions g t).1 (m.0, was (g, class_of c t) m.1));
    by_group = λ g t. (λ m. (let r = (h.by_group g t).0 m in (r.0, added.kept (g, class_of c t) r.1)), λ m. (h.by_group g t).1 (m.0, was (g, class_of c t) m.1));
  }
    where
      was : (p : ℕ × ℕ) → Contains more p → Contains seen p
      was p m = elim (added.only p m) [ inl o ↦ o | inr o ↦ subst (Contains seen) (sym o) old ]

  the_one : {X : Type 0} (p q : X) → Contains (p ∷ []) q → p ≡ q
  the_one p q m = elim (Contains-push_cases [] p q m) [ inl z ↦ absurd (let w = z.1 in omega (arith, w)) | inr e ↦ e ]

  contains_map : (group t : ℕ) (ts : List ℕ) → Contains ts t → Contains (map (at_group group) ts) (at_group group t)
  contains_map group t [] h = absurd (let w = h.1 in omega (arith, w))
  contains_map group t (x ∷ ts) h = elim (Contains-append_cases (x ∷ []) ts t h) [
    | inl o ↦ subst (λ k. Contains (map (at_group group) (x ∷ ts)) (at_group group k)) (the_one x t o) (Contains-append_left (at_group group x ∷ []) (map (at_group group) ts) (at_group group x) (Contains-push [] (at_group group x)))
    | inr o ↦ Contains-append_right (at_group group x ∷ []) (map (at_group group) ts) (at_group group t) (contains_map group t ts o)
  ]

  mapped : (group g t : ℕ) (ts : List ℕ) → Contains (map (at_group group) ts) (at_group g t) → (g ≡ group) × Contains ts t
  mapped group g t [] h = absurd (let w = h.1 in omega (arith, w))
  mapped group g t (x ∷ ts) h = elim (Contains-append_cases (at_group group x ∷ []) (map (at_group group) ts) (at_group g t) h) [
    | inl o ↦ (
        let same = the_one (at_group group x) (at_group g t) o in
        (sym (ap (λ (p : Position). p.group) same), subst (Contains (x ∷ ts)) (ap (λ (p : Position). p.term) same) (Contains-append_left (x ∷ []) ts x (Contains-push [] x))))
    | inr o ↦ (let r = mapped group g t ts o in (r.0, Contains-append_right (x ∷ []) ts t r.1))
  ]

  -- the terms of a class, by a group in which it was not seen before
  pub spread_more : (seen more : List (ℕ × ℕ)) (all : List Position) (lists next : List (ℕ × List ℕ)) (by_class : List (ℕ × List ℕ)) (group class : ℕ) → AreByClass c candidates by_class → AreSpread c candidates seen all lists → AreMore seen more (group, class) → ((k : ℕ) → list_in next k ≡ cond (nat_eq k group) (list_in lists k ++ list_in by_class class) (list_in lists k)) → AreSpread c candidates more (all ++ map (at_group group) (list_in by_class class)) next
  spread_more seen more all lists next by_class group class members h added e = record { positions = λ g t. (position_there g t, position_back g t); by_group = λ g t. (there g t, back g t) }
    where
      -- a member of the class
      member : (t : ℕ) → Contains (list_in by_class class) t → Contains candidates t × Contains more (group, class_of c t)
      member t m = let r = (members.each class t).0 m in (r.0, subst (λ k. Contains more (group, k)) (sym r.1) added.has)

      old : (g t : ℕ) → Contains candidates t × Contains seen (g, class_of c t) → Contains candidates t × Contains more (g, class_of c t)
      old g t m = (m.0, added.kept (g, class_of c t) m.1)

      is_member : (g t : ℕ) → Contains candidates t → ◌≡◌ {A = ℕ × ℕ} (g, class_of c t) (group, class) → (g ≡ group) × Contains (list_in by_class class) t
      is_member g t m o = (ap (λ (p : ℕ × ℕ). p.0) o, (members.each class t).1 (m, ap (λ (p : ℕ × ℕ). p.1) o))

      position_there : (g t : ℕ) → Contains (all ++ map (at_group group) (list_in by_class class)) (at_group g t) → Contains candidates t × Contains more (g, class_of c t)
      position_there g t m = elim (Contains-append_cases all (map (at_group group) (list_in by_class class)) (at_group g t) m) [
        | inl o ↦ old g t ((h.positions g t).0 o)
        | inr o ↦ (let r = mapped group g t (list_in by_class class) o in subst (λ k. Contains candidates t × Contains more (k, class_of c t)) (sym r.0) (member t r.1))
      ]

      position_back : (g t : ℕ) → Contains candidates t × Contains more (g, class_of c t) → Contains (all ++ map (at_group group) (list_in by_class class)) (at_group g t)
      position_back g t m = elim (added.only (g, class_of c t) m.1) [
        | inl o ↦ Contains-append_left all (map (at_group group) (list_in by_class class)) (at_group g t) ((h.positions g t).1 (m.0, o))
        | inr o ↦ (let r = is_member g t m.0 o in Contains-append_right all (map (at_group group) (list_in by_class class)) (at_group g t) (subst (λ k. Contains (map (at_group group) (list_in by_class class)) (at_group k t)) (sym r.0) (contains_map group t (list_in by_class class) r.1)))
      ]

      there : (g t : ℕ) → Contains (list_in next g) t → Contains candidates t × Contains more (g, class_of c t)
      there g t m = go (nat_eq g group) refl (subst (λ xs. Contains xs t) (e g) m)
        where
          go : (s : Bool) → nat_eq g group ≡ s → Contains (cond s (list_in lists g ++ list_in by_class class) (list_in lists g)) t → Contains candidates t × Contains more (g, class_of c t)
          go true q o = elim (Contains-append_cases (list_in lists g) (list_in by_class class) t o) [
            | inl p ↦ old g t ((h.by_group g t).0 p)
            | inr p ↦ subst (λ k. Contains candidates t × Contains more (k, class_of c t)) (sym (eqb-true g group q)) (member t p)
          ]
          go false q o = old g t ((h.by_group g t).0 o)

      back : (g t : ℕ) → Contains candidates t × Contains more (g, class_of c t) → Contains (list_in next g) t
      back g t m = subst (λ xs. Contains xs t) (sym (e g)) (go (nat_eq g group) refl (added.only (g, class_of c t) m.1))
        where
          go : (s : Bool) → nat_eq g group ≡ s → Contains seen (g, class_of c t) ⊎ (◌≡◌ {A = ℕ × ℕ} (g, class_of c t) (group, class)) → Contains (cond s (list_in lists g ++ list_in by_class class) (list_in lists g)) t
          go true q (inl o) = Contains-append_left (list_in lists g) (list_in by_class class) t ((h.by_group g t).1 (m.0, o))
          go true q (inr o) = Contains-append_right (list_in lists g) (list_in by_class class) t (is_member g t m.0 o).1
          go false q (inl o) = (h.by_group g t).1 (m.0, o)
          go false q (inr o) = absurd (let never : true ≡ false = sym (eq-eqb g group (is_member g t m.0 o).0) ∙ q in cc)

-- terms added to the index terms of a group one after another
pub put_begun : (b : Bool) (xs : List ℕ) → xs ≡ cond b (xs ++ []) xs
put_begun true xs = sym (append-nil xs)
put_begun false xs = refl

pub put_more : (b : Bool) (xs ys start done more : List ℕ) (t : ℕ) → xs ≡ cond b (start ++ done) start → ys ≡ cond b (xs ++ t ∷ []) xs → more ≡ done ++ t ∷ [] → ys ≡ cond b (start ++ more) start
put_more true xs ys start done more t e f g = f ∙ ap (λ zs. zs ++ t ∷ []) e ∙ append_assoc start done (t ∷ []) ∙ ap (λ zs. start ++ zs) (sym g)
put_more false xs ys start done more t e f g = f ∙ e

pub all_more : (group : ℕ) (xs ys start : List Position) (done more : List ℕ) (t : ℕ) → xs ≡ start ++ map (at_group group) done → ys ≡ xs ++ at_group group t ∷ [] → more ≡ done ++ t ∷ [] → ys ≡ start ++ map (at_group group) more
all_more group xs ys start done more t e f g =
    f ∙ ap (λ zs. zs ++ at_group group t ∷ []) e ∙ append_assoc start (map (at_group group) done) (at_group group t ∷ []) ∙ ap (λ zs. start ++ zs) (sym (ap (map (at_group group)) g ∙ map_push (at_group group) done t))

module _ (ns : List Node) (c : BranchClassesData) (groups : List ℕ) where
  pub seen_begun : AreSeen ns c groups [] []
  seen_begun = record {
    are = λ g k h. absurd (let w = h.1 in omega (arith, w));
    all = λ n p h r. absurd (let w = h.1 in omega (arith, w));
  }

  among_more : (done : List ℕ) (n g k : ℕ) → IsReadAmong ns c groups done g k → IsReadAmong ns c groups (done ++ n ∷ []) g k
  among_more done n g k h = record { number = h.number; among = Contains-append_left done (n ∷ []) h.number h.among; parts = h.parts; read = h.read; same_group = h.same_group; same_class = h.same_class }

  pub seen_same : (done : List ℕ) (seen : List (ℕ × ℕ)) (n : ℕ) → AreSeen ns c groups done seen → ((p : ℕ × ℕ) → IsReadAt ns n p → ⊥) → AreSeen ns c groups (done ++ n ∷ []) seen
  seen_same done seen n h none = record {
    are = λ g k m. among_more done n g k (h.are g k m);
    all = λ m p o r. elim (Contains-push_cases done n m o) [ inl q ↦ h.all m p q r | inr q ↦ absurd (none p (subst (λ x. IsReadAt ns x p) (sym q) r)) ];
  }

  same_read : (n : ℕ) (p q : ℕ × ℕ) → IsReadAt ns n p → IsReadAt ns n q → p ≡ q
  same_read n p q h g =
      let both : Some h.node ≡ Some g.node = sym h.made.found ∙ g.made.found in
      let same : h.node ≡ g.node = cc in
      let parts : Some p ≡ Some q = sym h.is ∙ ap read_of same ∙ g.is in
      cc

  pub seen_more : (done : List ℕ) (seen more : List (ℕ × ℕ)) (n : ℕ) (p : ℕ × ℕ) → AreSeen ns c groups done seen → IsReadAt ns n p → AreMore seen more (get_or groups p.0 0, class_of c p.1) → AreSeen ns c groups (done ++ n ∷ []) more
  seen_more done seen more n p h read added = record { are = are; all = all }
    where
      new : IsReadAmong ns c groups (done ++ n ∷ []) (get_or groups p.0 0) (class_of c p.1)
      new = record { number = n; among = Contains-push done n; parts = p; read = read; same_group = refl; same_class = refl }

      are : (g k : ℕ) → Contains more (g, k) → IsReadAmong ns c groups (done ++ n ∷ []) g k
      are g k m = elim (added.only (g, k) m) [
        | inl o ↦ among_more done n g k (h.are g k o)
        | inr o ↦ subst (λ x. IsReadAmong ns c groups (done ++ n ∷ []) x k) (ap (λ (q : ℕ × ℕ). q.0) (sym o)) (subst (IsReadAmong ns c groups (done ++ n ∷ []) (get_or groups p.0 0)) (ap (λ (q : ℕ × ℕ). q.1) (sym o)) new)
      ]

      all : (m : ℕ) (q : ℕ × ℕ) → Contains (done ++ n ∷ []) m → IsReadAt ns m q → Contains more (get_or groups q.0 0, class_of c q.1)
      all m q o r = elim (Contains-push_cases done n m o) [
        | inl i ↦ added.kept (get_or groups q.0 0, class_of c q.1) (h.all m q i r)
        | inr i ↦ subst (λ (x : ℕ × ℕ). Contains more (get_or groups x.0 0, class_of c x.1)) (same_read n p q read (subst (λ x. IsReadAt ns x q) (sym i) r)) added.has
      ]

-- all terms are visited
pub positions_done : (ns : List Node) (b : Branch) (c : BranchClassesData) (groups terms candidates : List ℕ) (seen : List (ℕ × ℕ)) (all : List Position) (lists : List (ℕ × List ℕ)) → AreBranchTerms ns b terms → AreSeen ns c groups terms seen → AreSpread c candidates seen all lists → ArePositions ns b c groups candidates all lists
positions_done ns b c groups terms candidates seen all lists are h spread = record {
  positions = λ g t. (λ m. there g t ((spread.positions g t).0 m), λ m. (spread.positions g t).1 (back g t m));
  by_group = λ g t. (λ m. there g t ((spread.by_group g t).0 m), λ m. (spread.by_group g t).1 (back g t m));
}
  where
    there : (g t : ℕ) → Contains candidates t × Contains seen (g, class_of c t) → IsPosition ns b c groups candidates g t
    there g t m =
        let r = h.are g (class_of c t) m.1 in
        record { candidate = m.0; read = record { number = r.number; term = (are.each r.number).0 r.among; parts = r.parts; read = r.read; same_group = r.same_group; same_class = r.same_class } }

    back : (g t : ℕ) → IsPosition ns b c groups candidates g t → Contains candidates t × Contains seen (g, class_of c t)
    back g t m =
        let r = m.read in
        (m.candidate, subst (λ x. Contains seen (x, class_of c t)) r.same_group (subst (λ x. Contains seen (get_or groups r.parts.0 0, x)) r.same_class (h.all r.number r.parts ((are.each r.number).1 r.term) r.read)))
