-- Values of trees: the number of a class or, if no node has the signature, a head symbol with the values of its parts.
-- Joined terms have equal values.
use Rattle.std.proofs.Common.{◌≡◌, ℕ, List, [], ◌∷◌, map, Option, Some, None, Bool, true, false, refl, sym, ap, ◌∙◌}
use Rattle.std.specs.Prelude.{slice_get, ◌||◌, ◌==◌, All}
use Rattle.fol.specs.FormulaData.{TermData, VarTerm, ConstantTerm, UnaryTerm, BinaryTerm, TernaryTerm, PackTerm, FieldTerm, SetFieldTerm, IfTerm, TermsData, NoTerms, MoreTerms, TriggersData, FormulaData, FormulasData, terms_of, list_of_terms}
use Rattle.term_pool.specs.declared.node.Leaf.{Leaf}
use Rattle.term_pool.specs.declared.node.Leaf.TheVariants.{TypeParam}
use Rattle.term_pool.specs.declared.node.One.{One}
use Rattle.term_pool.specs.declared.node.One.TheVariants.{Unary, Holds, Not, Join}
use Rattle.term_pool.specs.declared.node.Two.{Two}
use Rattle.term_pool.specs.declared.node.Two.TheVariants.{Binary, Pack, Field, Compare, Is, Connect, Quantify, ConsTerm, ConsTrigger, ConsFormula}
use Rattle.term_pool.specs.declared.node.Three.{Three}
use Rattle.term_pool.specs.declared.node.Three.TheVariants.{Ternary, SetField, If}
use Rattle.term_pool.specs.declared.node.Node.{Node}
use Rattle.term_pool.specs.declared.node.Node.TheVariants.{Leaf as LeafNode, One as OneNode, Two as TwoNode, Three as ThreeNode}
use Rattle.congruence_closure.specs.Trees.{plain_type, plain_term, plain_terms, plain_triggers, plain_formula, plain_formulas, Tree, BoundTree, LeafTree, OneTree, TwoTree, ThreeTree, among, renamed}
use Rattle.congruence_closure.specs.Nodes.{denied_leaf, denied, one_tree, IsTree, OfLeaf, OfOne, OfTwo, OfThree}
use Rattle.certificates.specs.BranchesBranch.{Branch, Says}
use Rattle.certificates.specs.BranchesParts.{parts_of_term, with_parts}
use Rattle.fol.specs.FormulaData.{EqFormula}
use Rattle.substitution.specs.Free.{free_in_term}
use Rattle.congruence_closure.specs.Signatures.{signed}
use Rattle.certificates.specs.Joined.{IsFreeOf, Joined, ByEntry, ByParts, ByCondition, Turned, Chained, AreJoined, NoneJoined, MoreJoined, IsAlikeTerm, OfOneClass, OfOneHead, OfOneChoice, AreAlikeTerms, NoneAlike, MoreAlike, IsAlike, Compared, Typed, Holding, Denying, Joining, Connecting, Quantifying, AreAlike, NoFormulasAlike, MoreFormulasAlike, AreAlikeLists, NoTermsAlike, MoreTermsAlike, AreAlikeTriggers, NoTriggersAlike, MoreTriggersAlike}
use Rattle.std.proofs.lemmas.List.Elements.{All-head, All-tail}
use Rattle.congruence_closure.proofs.TreeLemmas.{free, free_term, renamed_same, clash, same_number}

pub data Value : Type 0 where
  ClassValue : ℕ → Value
  BoundValue : ℕ → Value
  LeafValue : Leaf → Value
  OneValue : One → Value → Value
  TwoValue : Two → Value → Value → Value
  ThreeValue : Three → Value → Value → Value → Value

module _ (held : Node → Option ℕ) where
  abbrev known : Option ℕ → Value → Value
  known (Some k) v = ClassValue k
  known None v = v

  abbrev leaf_value : Leaf → Value
  leaf_value h = known (held (LeafNode h)) (LeafValue h)

  abbrev one_value : One → Value → Value
  one_value h (ClassValue a) = known (held (OneNode h a)) (OneValue h (ClassValue a))
  one_value h v = OneValue h v

  abbrev two_value : Two → Value → Value → Value
  two_value h (ClassValue a) (ClassValue b) = known (held (TwoNode h a b)) (TwoValue h (ClassValue a) (ClassValue b))
  two_value h v w = TwoValue h v w

  abbrev three_value : Three → Value → Value → Value → Value
  three_value h (ClassValue a) (ClassValue b) (ClassValue c) = known (held (ThreeNode h a b c)) (ThreeValue h (ClassValue a) (ClassValue b) (ClassValue c))
  three_value h v w u = ThreeValue h v w u

  abbrev pub value : Tree → Value
  value (BoundTree n) = one_value Not (leaf_value (TypeParam n))
  value (LeafTree h) = leaf_value h
  value (OneTree h x) = one_value h (value x)
  value (TwoTree h x y) = two_value h (value x) (value y)
  value (ThreeTree h x y z) = three_value h (value x) (value y) (value z)

  -- ---- the value of a node's tree is its class

  value_denied_leaf : (h : Leaf) → value (denied_leaf h) ≡ one_value Not (leaf_value h)
  value_denied_leaf (TypeParam n) = refl
  value_denied_leaf h = refl

  value_denied : (x : Tree) → value (denied x) ≡ one_value Not (value x)
  value_denied (LeafTree h) = value_denied_leaf h
  value_denied x = refl

  value_one : (h : One) (x : Tree) → value (one_tree h x) ≡ one_value h (value x)
  value_one Not x = value_denied x
  value_one h x = refl

  module _ (ns : List Node) (c : ℕ → ℕ) (tabled : (i : ℕ) (n : Node) → slice_get ns i ≡ Some n → held (signed c n) ≡ Some (c i)) where
    pub node_value : (i : ℕ) (x : Tree) → IsTree ns i x → value x ≡ ClassValue (c i)
    node_value _ _ (OfLeaf i h e) = ap (λ o. known o (LeafValue h)) (tabled i (LeafNode h) e)
    node_value _ _ (OfOne i h a x e u) =
        value_one h x ∙ ap (one_value h) (node_value a x u) ∙ ap (λ o. known o (OneValue h (ClassValue (c a)))) (tabled i (OneNode h a) e)
    node_value _ _ (OfTwo i h a b x y e u v) =
        (λ k. two_value h (node_value a x u k) (node_value b y v k)) ∙ ap (λ o. known o (TwoValue h (ClassValue (c a)) (ClassValue (c b)))) (tabled i (TwoNode h a b) e)
    node_value _ _ (OfThree i h a b d x y z e u v w) =
        (λ k. three_value h (node_value a x u k) (node_value b y v k) (node_value d z w k)) ∙ ap (λ o. known o (ThreeValue h (ClassValue (c a)) (ClassValue (c b)) (ClassValue (c d)))) (tabled i (ThreeNode h a b d) e)

  -- ---- equality of values is a congruence

  abbrev pub term_value : List ℕ → TermData → Value
  term_value bound t = value (renamed bound (plain_term t))

  abbrev pub formula_value : List ℕ → FormulaData → Value
  formula_value bound p = value (renamed bound (plain_formula p))

  abbrev terms_value : List ℕ → TermsData → Value
  terms_value bound ts = value (renamed bound (plain_terms ts))

  abbrev triggers_value : List ℕ → TriggersData → Value
  triggers_value bound ts = value (renamed bound (plain_triggers ts))

  abbrev formulas_value : List ℕ → FormulasData → Value
  formulas_value bound ps = value (renamed bound (plain_formulas ps))

  abbrev SameValues : List ℕ → List TermData → List TermData → Type 0
  SameValues bound ts us = map (term_value bound) ts ≡ map (term_value bound) us

  listed_value : (bound : List ℕ) (ts : TermsData) (us : List TermData) → SameValues bound (list_of_terms ts) us → terms_value bound ts ≡ terms_value bound (terms_of us)
  listed_value bound NoTerms [] e = refl
  listed_value bound NoTerms (u ∷ us) e = absurd (cc)
  listed_value bound (MoreTerms t ts) [] e = absurd (cc)
  listed_value bound (MoreTerms t ts) (u ∷ us) e =
      let first : term_value bound t ≡ term_value bound u = cc in
      let rest : SameValues bound (list_of_terms ts) us = cc in
      λ i. two_value ConsTerm (first i) (listed_value bound ts us rest i)

  head_value : (bound : List ℕ) (t : TermData) (us : List TermData) → SameValues bound (parts_of_term t) us → term_value bound t ≡ term_value bound (with_parts t us)
  head_value bound (VarTerm n) us e = refl
  head_value bound (ConstantTerm c) us e = refl
  head_value bound (UnaryTerm o t) (u ∷ []) e = let first : term_value bound t ≡ term_value bound u = cc in ap (one_value (Unary o)) first
  head_value bound (UnaryTerm o t) us e = refl
  head_value bound (BinaryTerm o t u) (v ∷ w ∷ []) e =
      let first : term_value bound t ≡ term_value bound v = cc in
      let second : term_value bound u ≡ term_value bound w = cc in
      λ i. two_value (Binary o) (first i) (second i)
  head_value bound (BinaryTerm o t u) us e = refl
  head_value bound (TernaryTerm o t u v) (x ∷ y ∷ z ∷ []) e =
      let first : term_value bound t ≡ term_value bound x = cc in
      let second : term_value bound u ≡ term_value bound y = cc in
      let third : term_value bound v ≡ term_value bound z = cc in
      λ i. three_value (Ternary o) (first i) (second i) (third i)
  head_value bound (TernaryTerm o t u v) us e = refl
  head_value bound (PackTerm a ts) us e = ap (two_value Pack (value (renamed bound (plain_type a)))) (listed_value bound ts us e)
  head_value bound (FieldTerm a k t) (u ∷ []) e = let first : term_value bound t ≡ term_value bound u = cc in ap (two_value (Field k) (value (renamed bound (plain_type a)))) first
  head_value bound (FieldTerm a k t) us e = refl
  head_value bound (SetFieldTerm a k t u) (v ∷ w ∷ []) e =
      let first : term_value bound t ≡ term_value bound v = cc in
      let second : term_value bound u ≡ term_value bound w = cc in
      λ i. three_value (SetField k) (value (renamed bound (plain_type a))) (first i) (second i)
  head_value bound (SetFieldTerm a k t u) us e = refl
  head_value bound (IfTerm p t u) (v ∷ w ∷ []) e =
      let first : term_value bound t ≡ term_value bound v = cc in
      let second : term_value bound u ≡ term_value bound w = cc in
      λ i. three_value If (formula_value bound p) (first i) (second i)
  head_value bound (IfTerm p t u) us e = refl

  of_one_head : (bound : List ℕ) (t u : TermData) → with_parts t (parts_of_term u) ≡ u → SameValues bound (parts_of_term t) (parts_of_term u) → term_value bound t ≡ term_value bound u
  of_one_head bound t u e h = head_value bound t (parts_of_term u) h ∙ ap (term_value bound) e

  -- a variable that is free in a term is none of those that are not
  not_among : (t : TermData) (ks : List ℕ) → All (λ n. free_in_term n t ≡ false) ks → (n : ℕ) → free n (plain_term t) ≡ true → among n ks ≡ false
  not_among t [] h n e = refl
  not_among t (k ∷ ks) h n e = go (All-head (λ m. free_in_term m t ≡ false) k ks h) (not_among t ks (All-tail (λ m. free_in_term m t ≡ false) k ks h) n e) (n == k) refl
    where
      go : free_in_term k t ≡ false → among n ks ≡ false → (b : Bool) → (n == k) ≡ b → ((n == k) || among n ks) ≡ false
      go head rest true q = clash e (ap (λ m. free m (plain_term t)) (same_number n k q) ∙ free_term k t ∙ head)
      go head rest false q = ap (λ b. b || among n ks) q ∙ rest

  -- a term in which no bound variable is free
  free_value : (bound : List ℕ) (t : TermData) → IsFreeOf bound t → term_value bound t ≡ term_value [] t
  free_value bound t f = ap value (renamed_same bound [] (plain_term t) (record { at = agree }))
    where
      agree : (n : ℕ) → free n (plain_term t) ≡ true → among n bound ≡ among n []
      agree n e = not_among t bound f n e

  module _ (b : Branch) (entries : (i : ℕ) (t u : TermData) → Says b i (EqFormula t u) → term_value [] t ≡ term_value [] u) where
    mutual
      pub joined_value : (t u : TermData) → Joined b t u → term_value [] t ≡ term_value [] u
      joined_value _ _ (ByEntry i t u s) = entries i t u s
      joined_value _ _ (ByParts t u e hs) = of_one_head [] t u e (joined_values (parts_of_term t) (parts_of_term u) hs)
      joined_value _ _ (ByCondition p q t u h) = ap (λ v. three_value If v (term_value [] t) (term_value [] u)) (alike_formula [] p q h)
      joined_value _ _ (Turned t u h) = sym (joined_value t u h)
      joined_value _ _ (Chained t u v h k) = joined_value t u h ∙ joined_value u v k

      joined_values : (ts us : List TermData) → AreJoined b ts us → SameValues [] ts us
      joined_values _ _ NoneJoined = refl
      joined_values _ _ (MoreJoined t u ts us h hs) = λ i. joined_value t u h i ∷ joined_values ts us hs i

      alike_term : (bound : List ℕ) (t u : TermData) → IsAlikeTerm b bound t u → term_value bound t ≡ term_value bound u
      alike_term _ _ _ (OfOneClass bound t u f g j) = free_value bound t f ∙ joined_value t u j ∙ sym (free_value bound u g)
      alike_term _ _ _ (OfOneHead bound t u e hs) = of_one_head bound t u e (alike_terms bound (parts_of_term t) (parts_of_term u) hs)
      alike_term _ _ _ (OfOneChoice bound p q t u v w hp ht hu) = λ i. three_value If (alike_formula bound p q hp i) (alike_term bound t v ht i) (alike_term bound u w hu i)

      alike_terms : (bound : List ℕ) (ts us : List TermData) → AreAlikeTerms b bound ts us → SameValues bound ts us
      alike_terms _ _ _ (NoneAlike bound) = refl
      alike_terms _ _ _ (MoreAlike bound t u ts us h hs) = λ i. alike_term bound t u h i ∷ alike_terms bound ts us hs i

      pub alike_formula : (bound : List ℕ) (p q : FormulaData) → IsAlike b bound p q → formula_value bound p ≡ formula_value bound q
      alike_formula _ _ _ (Compared bound o t u v w ht hu) = λ i. two_value (Compare o) (alike_term bound t v ht i) (alike_term bound u w hu i)
      alike_formula _ _ _ (Typed bound a t u h) = ap (two_value Is (value (renamed bound (plain_type a)))) (alike_term bound t u h)
      alike_formula _ _ _ (Holding bound t u h) = ap (one_value Holds) (alike_term bound t u h)
      alike_formula _ _ _ (Denying bound p q h) = ap (one_value Not) (alike_formula bound p q h)
      alike_formula _ _ _ (Joining bound o ps qs h) = ap (one_value (Join o)) (alike_formulas bound ps qs h)
      alike_formula _ _ _ (Connecting bound o p q r s h k) = λ i. two_value (Connect o) (alike_formula bound p r h i) (alike_formula bound q s k i)
      alike_formula _ _ _ (Quantifying bound o n ts us p q hs h) = λ i. two_value (Quantify o n) (alike_triggers (n ∷ bound) ts us hs i) (alike_formula (n ∷ bound) p q h i)

      alike_formulas : (bound : List ℕ) (ps qs : FormulasData) → AreAlike b bound ps qs → formulas_value bound ps ≡ formulas_value bound qs
      alike_formulas _ _ _ (NoFormulasAlike bound) = refl
      alike_formulas _ _ _ (MoreFormulasAlike bound p q ps qs h hs) = λ i. two_value ConsFormula (alike_formula bound p q h i) (alike_formulas bound ps qs hs i)

      alike_lists : (bound : List ℕ) (ts us : TermsData) → AreAlikeLists b bound ts us → terms_value bound ts ≡ terms_value bound us
      alike_lists _ _ _ (NoTermsAlike bound) = refl
      alike_lists _ _ _ (MoreTermsAlike bound t u ts us h hs) = λ i. two_value ConsTerm (alike_term bound t u h i) (alike_lists bound ts us hs i)

      alike_triggers : (bound : List ℕ) (ts us : TriggersData) → AreAlikeTriggers b bound ts us → triggers_value bound ts ≡ triggers_value bound us
      alike_triggers _ _ _ (NoTriggersAlike bound) = refl
      alike_triggers _ _ _ (MoreTriggersAlike bound t u ts us h hs) = λ i. two_value ConsTrigger (alike_lists bound t u h i) (alike_triggers bound ts us hs i)
