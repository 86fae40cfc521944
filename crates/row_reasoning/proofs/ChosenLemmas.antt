-- Terms that are no sums, by their nodes, and the choice of one for each class.
use Rattle.std.proofs.Common.{◌≡◌, ◌↔◌, inl, inr, ℕ, ◌<◌, ◌≤◌, Bool, true, false, cond, nat_eq, nat_lt, List, [], ◌∷◌, ◌++◌, length, take, drop, Option, Some, None, refl, sym, ap, ◌∙◌, subst, arith}
use Rattle.std.specs.Prelude.{slice_index, Contains, IsTrue, All, MatchOption, MatchBool}
use Rattle.std.proofs.lemmas.Bool.{eqb-true, eq-eqb, ltb-true, cases_lt, lt-ltb}
use Rattle.std.proofs.lemmas.List.{take-append-drop}
use Rattle.std.proofs.lemmas.List.Elements.{Contains-push, Contains-push_cases, Contains-append_left, All-contains}
use Rattle.fol.specs.declared.operators.Constant.TheVariants.{Num}
use Rattle.fol.specs.FormulaData.{TermData, MulTerm}
use Rattle.certificates.specs.Linear.{numeral_of}
use Rattle.term_pool.specs.Items.{Item, term_in, leaf_item, one_item, two_item, three_item}
use Rattle.term_pool.specs.Pools.{item_at, IsMade}
use Rattle.term_pool.specs.declared.node.Leaf.{Leaf}
use Rattle.term_pool.specs.declared.node.Leaf.TheVariants.{Constant}
use Rattle.term_pool.specs.declared.node.One.{One}
use Rattle.term_pool.specs.declared.node.One.TheVariants.{Unary}
use Rattle.term_pool.specs.declared.node.Two.{Two}
use Rattle.term_pool.specs.declared.node.Two.TheVariants.{Binary}
use Rattle.term_pool.specs.declared.node.Three.{Three}
use Rattle.term_pool.specs.declared.node.Three.TheVariants.{Ternary}
use Rattle.term_pool.specs.declared.node.Node.{Node}
use Rattle.term_pool.specs.declared.node.Node.TheVariants.{Leaf as LeafNode, One as OneNode, Two as TwoNode, Three as ThreeNode}
use Rattle.tableau.specs.PoolBranches.{IsTermNumber}
use Rattle.row_reasoning.specs.Shapes.{term_at, numeral_in}
use Rattle.row_reasoning.proofs.ShapeLemmas.{numeral_made}
use Rattle.row_reasoning.specs.Chosen.{IsNoSum}
use Rattle.row_reasoning.specs.Shallowest.{is_numeral_node, HasNumeral, IsNoSumNode, depth_at, IsCandidate, IsNoCandidate, IsShallowest, AreShallowest, AreWithin, IsBetter, First, Shallower, IsNoBetter}

pub holds : {A : Type 0} → A → IsTrue true ↔ A
holds a = (λ t. a, λ b. refl)

pub never : {A : Type 0} → (A → ⊥) → IsTrue false ↔ A
never f = (λ t. absurd (cc), λ a. absurd (f a))

-- ---- numerals

abbrev IsNumeralAs : Bool → TermData → Type 0
IsNumeralAs r t = MatchBool r (HasNumeral t) (numeral_of t ≡ None)

numeral_node : (t : TermData) (node : Node) → numeral_in node ≡ numeral_of t → IsNumeralAs (is_numeral_node node) t
numeral_node t (LeafNode (Constant (Num i))) e = record { number = i; is = sym e }
numeral_node t (LeafNode (Constant _)) e = sym e
numeral_node t (LeafNode _) e = sym e
numeral_node t (OneNode h a) e = sym e
numeral_node t (TwoNode h a b) e = sym e
numeral_node t (ThreeNode h a b c) e = sym e

pub numeral_answer : (ns : List Node) (n : ℕ) (node : Node) → IsMade ns n node → (r : Bool) → r ≡ is_numeral_node node → MatchBool r (HasNumeral (term_at ns n)) (numeral_of (term_at ns n) ≡ None)
numeral_answer ns n node made r e = subst (λ b. IsNumeralAs b (term_at ns n)) (sym e) (numeral_node (term_at ns n) node (numeral_made ns n node made))

pub left_numeral : (t u : TermData) → HasNumeral t → IsNoSum (MulTerm t u) → ⊥
left_numeral t u h k = let both : Some h.number ≡ None = sym h.is ∙ k.0 in cc

pub right_numeral : (t u : TermData) → HasNumeral u → IsNoSum (MulTerm t u) → ⊥
right_numeral t u h k = let both : Some h.number ≡ None = sym h.is ∙ k.1 in cc

-- ---- terms by their nodes

no_sum_leaf : (ns : List Node) (h : Leaf) → IsNoSumNode ns (LeafNode h) ↔ IsNoSum (term_in (leaf_item h))
no_sum_leaf ns (Constant (Num i)) = (λ z. z, λ z. z)
no_sum_leaf ns (Constant _) = (λ z. z, λ z. z)
no_sum_leaf ns _ = (λ z. z, λ z. z)

no_sum_one : (h : One) (x : Item) → IsNoSum (term_in (one_item h x))
no_sum_one (Unary o) x = tt
no_sum_one h x = tt

no_sum_two : (ns : List Node) (h : Two) (a b : ℕ) → IsNoSumNode ns (TwoNode h a b) ↔ IsNoSum (term_in (two_item h (item_at ns a) (item_at ns b)))
no_sum_two ns (Binary o) a b = (λ z. z, λ z. z)
no_sum_two ns h a b = (λ z. tt, λ z. tt)

no_sum_three : (h : Three) (x y z : Item) → IsNoSum (term_in (three_item h x y z))
no_sum_three (Ternary o) x y z = tt
no_sum_three h x y z = tt

no_sum_made : (ns : List Node) (n : ℕ) (node : Node) → IsMade ns n node → IsNoSumNode ns node ↔ IsNoSum (term_at ns n)
no_sum_made ns n (LeafNode h) made = subst (λ x. IsNoSumNode ns (LeafNode h) ↔ IsNoSum (term_in x)) (sym made.item) (no_sum_leaf ns h)
no_sum_made ns n (OneNode h a) made = subst (λ x. Unit {0} ↔ IsNoSum (term_in x)) (sym made.item) (λ z. no_sum_one h (item_at ns a), λ z. tt)
no_sum_made ns n (TwoNode h a b) made = subst (λ x. IsNoSumNode ns (TwoNode h a b) ↔ IsNoSum (term_in x)) (sym made.item) (no_sum_two ns h a b)
no_sum_made ns n (ThreeNode h a b c) made = subst (λ x. Unit {0} ↔ IsNoSum (term_in x)) (sym made.item) (λ z. no_sum_three h (item_at ns a) (item_at ns b) (item_at ns c), λ z. tt)

pub no_sum_answer : (ns : List Node) (n : ℕ) (node : Node) → IsMade ns n node → (r : Bool) → IsTrue r ↔ IsNoSumNode ns node → IsTrue r ↔ IsNoSum (term_at ns n)
no_sum_answer ns n node made r h = let m = no_sum_made ns n node made in (λ t. m.0 (h.0 t), λ k. h.1 (m.1 k))

-- ---- choices

pub better : (ns : List Node) (find : ℕ → Option ℕ) (class term other x y : ℕ) → Some other ≡ find class → x ≡ depth_at ns term → y ≡ depth_at ns other → (r : Bool) → nat_lt x y ≡ r → MatchBool r (IsBetter ns find class term) (IsNoBetter ns find class term)
better ns find class term other x y found is other_is true e = Shallower other (sym found) (let l = ltb-true x y e in omega (arith, is, other_is, l))
better ns find class term other x y found is other_is false e =
    record { other = other; found = sym found; deeper = elim (cases_lt x y) [ inl l ↦ absurd (let lies : true ≡ false = sym (lt-ltb x y l) ∙ e in cc) | inr l ↦ omega (arith, is, other_is, l) ] }

module _ (ns : List Node) (names : List ℕ) where
  -- the first terms, and one more
  module _ (terms : List ℕ) (term : ℕ) where
    candidate_kept : (class n : ℕ) → IsCandidate ns names terms class n → IsCandidate ns names (terms ++ term ∷ []) class n
    candidate_kept class n h = record { among = Contains-append_left terms (term ∷ []) n h.among; no_sum = h.no_sum; of_class = h.of_class }

    -- a candidate is one of the first terms, or the last one
    candidate_cases : (class n : ℕ) (P : Type 0) → IsCandidate ns names (terms ++ term ∷ []) class n → (IsCandidate ns names terms class n → P) → (term ≡ n → P) → P
    candidate_cases class n P h f g = elim (Contains-push_cases terms term n h.among) [ inl o ↦ f (record { among = o; no_sum = h.no_sum; of_class = h.of_class }) | inr e ↦ g e ]

    -- of a class in which the last term is no candidate
    other_class : (class : ℕ) → (IsCandidate ns names (terms ++ term ∷ []) class term → ⊥) → (o : Option ℕ) → MatchOption o (IsNoCandidate ns names terms class) (IsShallowest ns names terms class) → MatchOption o (IsNoCandidate ns names (terms ++ term ∷ []) class) (IsShallowest ns names (terms ++ term ∷ []) class)
    other_class class fails None h = record { none = λ n c. candidate_cases class n ⊥ c (h.none n) (λ e. fails (subst (IsCandidate ns names (terms ++ term ∷ []) class) (sym e) c)) }
    other_class class fails (Some k) h = record {
      candidate = candidate_kept class k h.candidate;
      least = λ m c. candidate_cases class m (depth_at ns k ≤ depth_at ns m) c (h.least m) (λ e. absurd (fails (subst (IsCandidate ns names (terms ++ term ∷ []) class) (sym e) c)));
    }

    pub passed : (find : ℕ → Option ℕ) → (IsNoSum (term_at ns term) → ⊥) → AreShallowest ns names terms find → AreShallowest ns names (terms ++ term ∷ []) find
    passed find fails h = record { each = λ class. other_class class (λ c. fails c.no_sum) (find class) (h.each class) }

    pub as_shallow : (find : ℕ → Option ℕ) → IsNoBetter ns find (slice_index names term) term → AreShallowest ns names terms find → AreShallowest ns names (terms ++ term ∷ []) find
    as_shallow find none h = record { each = λ class. at class (nat_eq (slice_index names term) class) refl }
      where
        at : (class : ℕ) (t : Bool) → nat_eq (slice_index names term) class ≡ t → MatchOption (find class) (IsNoCandidate ns names (terms ++ term ∷ []) class) (IsShallowest ns names (terms ++ term ∷ []) class)
        at class true e =
            let same : slice_index names term ≡ class = eqb-true (slice_index names term) class e in
            let found : find class ≡ Some none.other = ap find (sym same) ∙ none.found in
            let old : IsShallowest ns names terms class none.other = subst (λ o. MatchOption o (IsNoCandidate ns names terms class) (IsShallowest ns names terms class)) found (h.each class) in
            subst (λ o. MatchOption o (IsNoCandidate ns names (terms ++ term ∷ []) class) (IsShallowest ns names (terms ++ term ∷ []) class)) (sym found) (record {
              candidate = candidate_kept class none.other old.candidate;
              least = λ m c. candidate_cases class m (depth_at ns none.other ≤ depth_at ns m) c (old.least m) (λ q. subst (λ k. depth_at ns none.other ≤ depth_at ns k) q none.deeper);
            })
        at class false e = other_class class (λ c. (let lies : true ≡ false = sym (eq-eqb (slice_index names term) class c.of_class) ∙ e in cc)) (find class) (h.each class)

    module _ (find more : ℕ → Option ℕ) (no_sum : IsNoSum (term_at ns term)) (best : IsBetter ns find (slice_index names term) term) (is : (k : ℕ) → more k ≡ cond (nat_eq (slice_index names term) k) (Some term) (find k)) (h : AreShallowest ns names terms find) where
      new : (class : ℕ) → slice_index names term ≡ class → IsCandidate ns names (terms ++ term ∷ []) class term
      new class e = record { among = Contains-push terms term; no_sum = no_sum; of_class = e }

      -- no term before it is shallower
      least : (class : ℕ) → slice_index names term ≡ class → IsBetter ns find (slice_index names term) term → (m : ℕ) → IsCandidate ns names terms class m → depth_at ns term ≤ depth_at ns m
      least class e (First none) m c =
          let old : IsNoCandidate ns names terms class = subst (λ o. MatchOption o (IsNoCandidate ns names terms class) (IsShallowest ns names terms class)) (ap find (sym e) ∙ none) (h.each class) in
          absurd (old.none m c)
      least class e (Shallower other found w) m c =
          let old : IsShallowest ns names terms class other = subst (λ o. MatchOption o (IsNoCandidate ns names terms class) (IsShallowest ns names terms class)) (ap find (sym e) ∙ found) (h.each class) in
          let l = old.least m c in
          omega (arith, w, l)

      pub improved : AreShallowest ns names (terms ++ term ∷ []) more
      improved = record { each = λ class. subst (λ o. MatchOption o (IsNoCandidate ns names (terms ++ term ∷ []) class) (IsShallowest ns names (terms ++ term ∷ []) class)) (sym (is class)) (at class (nat_eq (slice_index names term) class) refl) }
        where
          at : (class : ℕ) (t : Bool) → nat_eq (slice_index names term) class ≡ t → MatchOption (cond t (Some term) (find class)) (IsNoCandidate ns names (terms ++ term ∷ []) class) (IsShallowest ns names (terms ++ term ∷ []) class)
          at class true e =
              let same : slice_index names term ≡ class = eqb-true (slice_index names term) class e in
              record {
                candidate = new class same;
                least = λ m c. candidate_cases class m (depth_at ns term ≤ depth_at ns m) c (least class same best m) (λ q. subst (λ k. depth_at ns term ≤ depth_at ns k) q (omega arith));
              }
          at class false e = other_class class (λ c. (let lies : true ≡ false = sym (eq-eqb (slice_index names term) class c.of_class) ∙ e in cc)) (find class) (h.each class)

  pub none_chosen : (find : ℕ → Option ℕ) → ((k : ℕ) → find k ≡ None) → AreShallowest ns names [] find
  none_chosen find none = record { each = λ class. subst (λ o. MatchOption o (IsNoCandidate ns names [] class) (IsShallowest ns names [] class)) (sym (none class)) (record { none = λ n c. (let w = c.among.1 in omega (arith, w)) }) }

-- ---- term by term

of_first : (terms : List ℕ) (i n : ℕ) → Contains (take i terms) n → Contains terms n
of_first terms i n h = subst (λ xs. Contains xs n) (take-append-drop i terms) (Contains-append_left (take i terms) (drop i terms) n h)

-- each chosen term is one of the terms
pub chosen_within : (ns : List Node) (names all : List ℕ) (i : ℕ) (find : ℕ → Option ℕ) → All (IsTermNumber ns) all → AreShallowest ns names (take i all) find → AreWithin ns find
chosen_within ns names all i find numbers h = record { each = within }
  where
    within : (class n : ℕ) → find class ≡ Some n → n < length ns
    within class n e =
        let best : IsShallowest ns names (take i all) class n = subst (λ o. MatchOption o (IsNoCandidate ns names (take i all) class) (IsShallowest ns names (take i all) class)) e (h.each class) in
        (All-contains (IsTermNumber ns) all n numbers (of_first all i n best.candidate.among)).within
