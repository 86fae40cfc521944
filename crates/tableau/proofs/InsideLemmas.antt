-- A term that occurs in an item occurs in its outer parts, or is the item.
use Rattle.std.proofs.Common.{◌≡◌, ◌⊎◌, inl, inr, ℕ, zero, suc, ◌<◌, List, [], ◌∷◌, length, get_or, map, refl, sym, ap, ◌∙◌, subst, arith}
use Rattle.std.specs.Prelude.{Contains}
use Rattle.base.specs.TypeData.{TypeData}
use Rattle.fol.specs.declared.operators.Junction.{Junction}
use Rattle.fol.specs.declared.operators.Quantifier.{Quantifier}
use Rattle.fol.specs.FormulaData.{TermData, VarTerm, ConstantTerm, UnaryTerm, BinaryTerm, TernaryTerm, PackTerm, FieldTerm, SetFieldTerm, IfTerm, TermsData, NoTerms, MoreTerms, TriggersData, FormulaData, CompareFormula, IsFormula, HoldsFormula, NotFormula, JoinFormula, ConnectFormula, QuantifyFormula, FormulasData, NoFormulas, MoreFormulas, list_of_terms, list_of_formulas}
use Rattle.term_pool.specs.Items.{Item, NoItem, TermItem, TermsItem, TriggersItem, FormulaItem, FormulasItem, TypeItem, TypesItem, BytesItem, sort_of, triggers_in, formula_in, leaf_item, one_item, two_item, three_item, one_part, first_of_two, second_of_two, first_of_three, second_of_three, third_of_three}
use Rattle.term_pool.specs.Pools.{item_at, item_of, items, IsMade, HasParts}
use Rattle.term_pool.specs.declared.node.Leaf.{Leaf}
use Rattle.term_pool.specs.declared.node.Leaf.TheVariants.{Var, Constant, TypeBool, TypeInt, TypeNum, TypeAddress, TypeSigner, TypeParam, NilTerms, NilTriggers, NilFormulas, NilTypes, NilBytes}
use Rattle.term_pool.specs.declared.node.One.{One}
use Rattle.term_pool.specs.declared.node.One.TheVariants.{Unary, Holds, Not, Join, TypeVector, TypeShared, TypeMutable, TypeTuple, ConsByte}
use Rattle.term_pool.specs.declared.node.Two.{Two}
use Rattle.term_pool.specs.declared.node.Two.TheVariants.{Binary, Pack, Field, Compare, Is, Connect, Quantify, ConsTerm, ConsTrigger, ConsFormula, ConsType}
use Rattle.term_pool.specs.declared.node.Three.{Three}
use Rattle.term_pool.specs.declared.node.Three.TheVariants.{Ternary, SetField, If, TypeStruct}
use Rattle.term_pool.specs.declared.node.Node.{Node}
use Rattle.term_pool.specs.declared.node.Node.TheVariants.{Leaf as LeafNode, One as OneNode, Two as TwoNode, Three as ThreeNode}
use Rattle.certificates.specs.BranchesParts.{parts_of_term, IsIn, IsInFormula, Itself, InPart, InCondition, InLeft, InRight, InTyped, InHolds, InDenied, InJoined, InFirst, InSecond}
use Rattle.tableau.specs.Marks.{outer_parts, IsOneOf}

abbrev pub IsInTerms : TermData → TermsData → Type 0
IsInTerms t NoTerms = ⊥
IsInTerms t (MoreTerms u us) = IsIn t u ⊎ IsInTerms t us

abbrev pub IsInFormulas : TermData → FormulasData → Type 0
IsInFormulas t NoFormulas = ⊥
IsInFormulas t (MoreFormulas p ps) = IsInFormula t p ⊎ IsInFormulas t ps

-- the term occurs in the item outside quantifiers
abbrev pub IsInItem : TermData → Item → Type 0
IsInItem t (TermItem u) = IsIn t u
IsInItem t (TermsItem us) = IsInTerms t us
IsInItem t (FormulaItem p) = IsInFormula t p
IsInItem t (FormulasItem ps) = IsInFormulas t ps
IsInItem t _ = ⊥

abbrev IsInAny : TermData → List Item → Type 0
IsInAny t [] = ⊥
IsInAny t (x ∷ xs) = IsInItem t x ⊎ IsInAny t xs

-- the item is the term, or the term occurs in one of these
abbrev IsOrIn : TermData → Item → List Item → Type 0
IsOrIn t x xs = (x ≡ TermItem t) ⊎ IsInAny t xs

-- ---- lists

module _ {X : Type 0} where
  pub contains_first : (x : X) (xs : List X) → Contains (x ∷ xs) x
  contains_first x xs = (0, omega arith, refl)

  pub contains_later : (x y : X) (xs : List X) → Contains xs y → Contains (x ∷ xs) y
  contains_later x y xs h = (let w = h.1 in (suc h.0, omega (arith, w), h.2))

  pub contains_cases : (x y : X) (xs : List X) → Contains (x ∷ xs) y → (x ≡ y) ⊎ Contains xs y
  contains_cases x y xs (zero, w, e) = inl e
  contains_cases x y xs (suc k, w, e) = inr (k, omega (arith, w), e)

  pub contains_none : (y : X) → Contains [] y → ⊥
  contains_none y h = (let w = h.1 in omega (arith, w))

in_terms : (t : TermData) (us : TermsData) (u : TermData) → Contains (list_of_terms us) u → IsIn t u → IsInTerms t us
in_terms t NoTerms u c h = absurd (contains_none u c)
in_terms t (MoreTerms v vs) u c h = go (λ d. in_terms t vs u d h) (contains_cases v u (list_of_terms vs) c)
  where
    go : (Contains (list_of_terms vs) u → IsInTerms t vs) → (v ≡ u) ⊎ Contains (list_of_terms vs) u → IsInTerms t (MoreTerms v vs)
    go later (inl e) = inl (subst (IsIn t) (sym e) h)
    go later (inr d) = inr (later d)

record IsInOne (t : TermData) (us : List TermData) : Type 0 where
  term : TermData
  among : Contains us term
  inside : IsIn t term

some_term : (t : TermData) (us : TermsData) → IsInTerms t us → IsInOne t (list_of_terms us)
some_term t (MoreTerms v vs) (inl h) = record { term = v; among = contains_first v (list_of_terms vs); inside = h }
some_term t (MoreTerms v vs) (inr h) = (let s = some_term t vs h in record { term = s.term; among = contains_later v s.term (list_of_terms vs) s.among; inside = s.inside })
some_term t NoTerms h = absurd h

in_formulas : (t : TermData) (ps : FormulasData) (p : FormulaData) → Contains (list_of_formulas ps) p → IsInFormula t p → IsInFormulas t ps
in_formulas t NoFormulas p c h = absurd (contains_none p c)
in_formulas t (MoreFormulas q qs) p c h = go (λ d. in_formulas t qs p d h) (contains_cases q p (list_of_formulas qs) c)
  where
    go : (Contains (list_of_formulas qs) p → IsInFormulas t qs) → (q ≡ p) ⊎ Contains (list_of_formulas qs) p → IsInFormulas t (MoreFormulas q qs)
    go later (inl e) = inl (subst (IsInFormula t) (sym e) h)
    go later (inr d) = inr (later d)

joined : (t : TermData) (o : Junction) (all ps : FormulasData) → ((p : FormulaData) → Contains (list_of_formulas ps) p → Contains (list_of_formulas all) p) → IsInFormulas t ps → IsInFormula t (JoinFormula o all)
joined t o all (MoreFormulas q qs) sub (inl h) = InJoined o all q (sub q (contains_first q (list_of_formulas qs))) h
joined t o all (MoreFormulas q qs) sub (inr h) = joined t o all qs (λ p c. sub p (contains_later q p (list_of_formulas qs) c)) h
joined t o all NoFormulas sub h = absurd h

-- ---- a term that occurs in a term is that term, or occurs in a part or a condition

in_one : (t u : TermData) (v : TermData) → Contains (u ∷ []) v → IsIn t v → IsIn t u
in_one t u v c h = go (contains_cases u v [] c)
  where
    go : (u ≡ v) ⊎ Contains [] v → IsIn t u
    go (inl e) = subst (IsIn t) (sym e) h
    go (inr d) = absurd (contains_none v d)

in_two : (t u w : TermData) (v : TermData) → Contains (u ∷ w ∷ []) v → IsIn t v → IsIn t u ⊎ IsIn t w
in_two t u w v c h = go (contains_cases u v (w ∷ []) c)
  where
    go : (u ≡ v) ⊎ Contains (w ∷ []) v → IsIn t u ⊎ IsIn t w
    go (inl e) = inl (subst (IsIn t) (sym e) h)
    go (inr d) = inr (in_one t w v d h)

in_three : (t u w x : TermData) (v : TermData) → Contains (u ∷ w ∷ x ∷ []) v → IsIn t v → IsIn t u ⊎ (IsIn t w ⊎ IsIn t x)
in_three t u w x v c h = go (contains_cases u v (w ∷ x ∷ []) c)
  where
    go : (u ≡ v) ⊎ Contains (w ∷ x ∷ []) v → IsIn t u ⊎ (IsIn t w ⊎ IsIn t x)
    go (inl e) = inl (subst (IsIn t) (sym e) h)
    go (inr d) = inr (in_two t w x v d h)

-- ---- by the head symbol of a node

in_leaf : (h : Leaf) (t : TermData) → IsInItem t (leaf_item h) → leaf_item h ≡ TermItem t
in_leaf (Var n) _ Itself = refl
in_leaf (Var n) t (InPart _ v c r) = absurd (contains_none v c)
in_leaf (Constant k) _ Itself = refl
in_leaf (Constant k) t (InPart _ v c r) = absurd (contains_none v c)
in_leaf TypeBool t h = absurd h
in_leaf (TypeInt w) t h = absurd h
in_leaf TypeNum t h = absurd h
in_leaf TypeAddress t h = absurd h
in_leaf TypeSigner t h = absurd h
in_leaf (TypeParam n) t h = absurd h
in_leaf NilTerms t h = absurd h
in_leaf NilTriggers t h = absurd h
in_leaf NilFormulas t h = absurd h
in_leaf NilTypes t h = absurd h
in_leaf NilBytes t h = absurd h

in_one_part : (h : One) (x : Item) → sort_of x ≡ one_part h → (t : TermData) → IsInItem t (one_item h x) → IsOrIn t (one_item h x) (x ∷ [])
in_one_part (Unary o) (TermItem u) s _ Itself = inl refl
in_one_part (Unary o) (TermItem u) s t (InPart _ v c r) = inr (inl (in_one t u v c r))
in_one_part (Unary o) _ s t h = absurd (cc)
in_one_part Holds (TermItem u) s t (InHolds _ r) = inr (inl r)
in_one_part Holds _ s t h = absurd (cc)
in_one_part Not (FormulaItem p) s t (InDenied _ r) = inr (inl r)
in_one_part Not _ s t h = absurd (cc)
in_one_part (Join o) (FormulasItem ps) s t (InJoined _ _ p c r) = inr (inl (in_formulas t ps p c r))
in_one_part (Join o) _ s t h = absurd (cc)
in_one_part TypeVector x s t h = absurd h
in_one_part TypeShared x s t h = absurd h
in_one_part TypeMutable x s t h = absurd h
in_one_part TypeTuple x s t h = absurd h
in_one_part (ConsByte b) x s t h = absurd h

over_one_part : (h : One) (x : Item) → sort_of x ≡ one_part h → (t : TermData) → IsInAny t (x ∷ []) → IsInItem t (one_item h x)
over_one_part (Unary o) (TermItem u) s t (inl r) = InPart (UnaryTerm o u) u (contains_first u []) r
over_one_part (Unary o) (TermItem u) s t (inr z) = absurd z
over_one_part (Unary o) _ s t r = absurd (cc)
over_one_part Holds (TermItem u) s t (inl r) = InHolds u r
over_one_part Holds (TermItem u) s t (inr z) = absurd z
over_one_part Holds _ s t r = absurd (cc)
over_one_part Not (FormulaItem p) s t (inl r) = InDenied p r
over_one_part Not (FormulaItem p) s t (inr z) = absurd z
over_one_part Not _ s t r = absurd (cc)
over_one_part (Join o) (FormulasItem ps) s t (inl r) = joined t o ps ps (λ p c. c) r
over_one_part (Join o) (FormulasItem ps) s t (inr z) = absurd z
over_one_part (Join o) _ s t r = absurd (cc)
over_one_part TypeVector (TypeItem a) s t (inl r) = r
over_one_part TypeVector (TypeItem a) s t (inr z) = absurd z
over_one_part TypeVector _ s t r = absurd (cc)
over_one_part TypeShared (TypeItem a) s t (inl r) = r
over_one_part TypeShared (TypeItem a) s t (inr z) = absurd z
over_one_part TypeShared _ s t r = absurd (cc)
over_one_part TypeMutable (TypeItem a) s t (inl r) = r
over_one_part TypeMutable (TypeItem a) s t (inr z) = absurd z
over_one_part TypeMutable _ s t r = absurd (cc)
over_one_part TypeTuple (TypesItem ts) s t (inl r) = r
over_one_part TypeTuple (TypesItem ts) s t (inr z) = absurd z
over_one_part TypeTuple _ s t r = absurd (cc)
over_one_part (ConsByte b) (BytesItem bs) s t (inl r) = r
over_one_part (ConsByte b) (BytesItem bs) s t (inr z) = absurd z
over_one_part (ConsByte b) _ s t r = absurd (cc)

either : {P Q : Type 0} → P ⊎ Q → P ⊎ (Q ⊎ ⊥)
either (inl p) = inl p
either (inr q) = inr (inl q)

one_of_three : {P Q R : Type 0} → P ⊎ (Q ⊎ R) → P ⊎ (Q ⊎ (R ⊎ ⊥))
one_of_three (inl p) = inl p
one_of_three (inr (inl q)) = inr (inl q)
one_of_three (inr (inr r)) = inr (inr (inl r))

not_in_quantified : (t : TermData) (o : Quantifier) (n : ℕ) (ts : TriggersData) (p : FormulaData) → IsInFormula t (QuantifyFormula o n ts p) → ⊥
not_in_quantified t o n ts p h = elim h [ ]

module _ (f : ℕ → Item) (a b : ℕ) where
  in_two_parts : (h : Two) (x y : Item) → f a ≡ x → f b ≡ y → sort_of x ≡ first_of_two h → sort_of y ≡ second_of_two h → (t : TermData) → IsInItem t (two_item h x y) → (two_item h x y ≡ TermItem t) ⊎ IsInAny t (map f (outer_parts (TwoNode h a b)))
  in_two_parts (Binary o) (TermItem u) (TermItem w) d e p q _ Itself = inl refl
  in_two_parts (Binary o) (TermItem u) (TermItem w) d e p q t (InPart _ v c r) = inr (rw (d, e) (either (in_two t u w v c r)))
  in_two_parts (Binary o) _ _ d e p q t h = absurd (cc)
  in_two_parts Pack (TypeItem s) (TermsItem us) d e p q _ Itself = inl refl
  in_two_parts Pack (TypeItem s) (TermsItem us) d e p q t (InPart _ v c r) = inr (rw e (inl (in_terms t us v c r)))
  in_two_parts Pack _ _ d e p q t h = absurd (cc)
  in_two_parts (Field k) (TypeItem s) (TermItem w) d e p q _ Itself = inl refl
  in_two_parts (Field k) (TypeItem s) (TermItem w) d e p q t (InPart _ v c r) = inr (rw e (inl (in_one t w v c r)))
  in_two_parts (Field k) _ _ d e p q t h = absurd (cc)
  in_two_parts (Compare o) (TermItem u) (TermItem w) d e p q t (InLeft _ _ _ r) = inr (rw (d, e) (inl r))
  in_two_parts (Compare o) (TermItem u) (TermItem w) d e p q t (InRight _ _ _ r) = inr (rw (d, e) (inr (inl r)))
  in_two_parts (Compare o) _ _ d e p q t h = absurd (cc)
  in_two_parts Is (TypeItem s) (TermItem w) d e p q t (InTyped _ _ r) = inr (rw e (inl r))
  in_two_parts Is _ _ d e p q t h = absurd (cc)
  in_two_parts (Connect o) (FormulaItem u) (FormulaItem w) d e p q t (InFirst _ _ _ r) = inr (rw (d, e) (inl r))
  in_two_parts (Connect o) (FormulaItem u) (FormulaItem w) d e p q t (InSecond _ _ _ r) = inr (rw (d, e) (inr (inl r)))
  in_two_parts (Connect o) _ _ d e p q t h = absurd (cc)
  in_two_parts (Quantify o n) x y d e p q t h = absurd (not_in_quantified t o n (triggers_in x) (formula_in y) h)
  in_two_parts ConsTerm (TermItem u) (TermsItem us) d e p q t h = inr (rw (d, e) (either h))
  in_two_parts ConsTerm _ _ d e p q t h = absurd (cc)
  in_two_parts ConsFormula (FormulaItem u) (FormulasItem us) d e p q t h = inr (rw (d, e) (either h))
  in_two_parts ConsFormula _ _ d e p q t h = absurd (cc)
  in_two_parts ConsTrigger x y d e p q t h = absurd h
  in_two_parts ConsType x y d e p q t h = absurd h

  over_two_parts : (h : Two) (x y : Item) → f a ≡ x → f b ≡ y → sort_of x ≡ first_of_two h → sort_of y ≡ second_of_two h → (t : TermData) → IsInAny t (map f (outer_parts (TwoNode h a b))) → IsInItem t (two_item h x y)
  over_two_parts (Binary o) (TermItem u) (TermItem w) d e p q t (inl r) = InPart (BinaryTerm o u w) u (contains_first u (w ∷ [])) (subst (IsInItem t) d r)
  over_two_parts (Binary o) (TermItem u) (TermItem w) d e p q t (inr (inl r)) = InPart (BinaryTerm o u w) w (contains_later u w (w ∷ []) (contains_first w [])) (subst (IsInItem t) e r)
  over_two_parts (Binary o) (TermItem u) (TermItem w) d e p q t (inr (inr z)) = absurd z
  over_two_parts (Binary o) _ _ d e p q t r = absurd (cc)
  over_two_parts Pack (TypeItem s) (TermsItem us) d e p q t (inl r) = (let one = some_term t us (subst (IsInItem t) e r) in InPart (PackTerm s us) one.term one.among one.inside)
  over_two_parts Pack (TypeItem s) (TermsItem us) d e p q t (inr z) = absurd z
  over_two_parts Pack _ _ d e p q t r = absurd (cc)
  over_two_parts (Field k) (TypeItem s) (TermItem w) d e p q t (inl r) = InPart (FieldTerm s k w) w (contains_first w []) (subst (IsInItem t) e r)
  over_two_parts (Field k) (TypeItem s) (TermItem w) d e p q t (inr z) = absurd z
  over_two_parts (Field k) _ _ d e p q t r = absurd (cc)
  over_two_parts (Compare o) (TermItem u) (TermItem w) d e p q t (inl r) = InLeft o u w (subst (IsInItem t) d r)
  over_two_parts (Compare o) (TermItem u) (TermItem w) d e p q t (inr (inl r)) = InRight o u w (subst (IsInItem t) e r)
  over_two_parts (Compare o) (TermItem u) (TermItem w) d e p q t (inr (inr z)) = absurd z
  over_two_parts (Compare o) _ _ d e p q t r = absurd (cc)
  over_two_parts Is (TypeItem s) (TermItem w) d e p q t (inl r) = InTyped s w (subst (IsInItem t) e r)
  over_two_parts Is (TypeItem s) (TermItem w) d e p q t (inr z) = absurd z
  over_two_parts Is _ _ d e p q t r = absurd (cc)
  over_two_parts (Connect o) (FormulaItem u) (FormulaItem w) d e p q t (inl r) = InFirst o u w (subst (IsInItem t) d r)
  over_two_parts (Connect o) (FormulaItem u) (FormulaItem w) d e p q t (inr (inl r)) = InSecond o u w (subst (IsInItem t) e r)
  over_two_parts (Connect o) (FormulaItem u) (FormulaItem w) d e p q t (inr (inr z)) = absurd z
  over_two_parts (Connect o) _ _ d e p q t r = absurd (cc)
  over_two_parts (Quantify o n) x y d e p q t r = absurd r
  over_two_parts ConsTerm (TermItem u) (TermsItem us) d e p q t (inl r) = inl (subst (IsInItem t) d r)
  over_two_parts ConsTerm (TermItem u) (TermsItem us) d e p q t (inr (inl r)) = inr (subst (IsInItem t) e r)
  over_two_parts ConsTerm (TermItem u) (TermsItem us) d e p q t (inr (inr z)) = absurd z
  over_two_parts ConsTerm _ _ d e p q t r = absurd (cc)
  over_two_parts ConsTrigger x y d e p q t r = absurd r
  over_two_parts ConsFormula (FormulaItem u) (FormulasItem us) d e p q t (inl r) = inl (subst (IsInItem t) d r)
  over_two_parts ConsFormula (FormulaItem u) (FormulasItem us) d e p q t (inr (inl r)) = inr (subst (IsInItem t) e r)
  over_two_parts ConsFormula (FormulaItem u) (FormulasItem us) d e p q t (inr (inr z)) = absurd z
  over_two_parts ConsFormula _ _ d e p q t r = absurd (cc)
  over_two_parts ConsType (TypeItem u) (TypesItem us) d e p q t (inl r) = subst (IsInItem t) d r
  over_two_parts ConsType (TypeItem u) (TypesItem us) d e p q t (inr (inl r)) = subst (IsInItem t) e r
  over_two_parts ConsType (TypeItem u) (TypesItem us) d e p q t (inr (inr z)) = absurd z
  over_two_parts ConsType _ _ d e p q t r = absurd (cc)

  module _ (c : ℕ) where
    in_three_parts : (h : Three) (x y z : Item) → f a ≡ x → f b ≡ y → f c ≡ z → sort_of x ≡ first_of_three h → sort_of y ≡ second_of_three h → sort_of z ≡ third_of_three h → (t : TermData) → IsInItem t (three_item h x y z) → (three_item h x y z ≡ TermItem t) ⊎ IsInAny t (map f (outer_parts (ThreeNode h a b c)))
    in_three_parts (Ternary o) (TermItem u) (TermItem v) (TermItem w) d e g p q r _ Itself = inl refl
    in_three_parts (Ternary o) (TermItem u) (TermItem v) (TermItem w) d e g p q r t (InPart _ s k i) = inr (rw (d, e, g) (one_of_three (in_three t u v w s k i)))
    in_three_parts (Ternary o) _ _ _ d e g p q r t h = absurd (cc)
    in_three_parts (SetField k) (TypeItem u) (TermItem v) (TermItem w) d e g p q r _ Itself = inl refl
    in_three_parts (SetField k) (TypeItem u) (TermItem v) (TermItem w) d e g p q r t (InPart _ s j i) = inr (rw (e, g) (either (in_two t v w s j i)))
    in_three_parts (SetField k) _ _ _ d e g p q r t h = absurd (cc)
    in_three_parts If (FormulaItem u) (TermItem v) (TermItem w) d e g p q r _ Itself = inl refl
    in_three_parts If (FormulaItem u) (TermItem v) (TermItem w) d e g p q r t (InPart _ s j i) = inr (rw (d, e, g) (inr (either (in_two t v w s j i))))
    in_three_parts If (FormulaItem u) (TermItem v) (TermItem w) d e g p q r t (InCondition _ _ _ i) = inr (rw (d, e, g) (inl i))
    in_three_parts If _ _ _ d e g p q r t h = absurd (cc)
    in_three_parts (TypeStruct s) x y z d e g p q r t h = absurd h

    over_three_parts : (h : Three) (x y z : Item) → f a ≡ x → f b ≡ y → f c ≡ z → sort_of x ≡ first_of_three h → sort_of y ≡ second_of_three h → sort_of z ≡ third_of_three h → (t : TermData) → IsInAny t (map f (outer_parts (ThreeNode h a b c))) → IsInItem t (three_item h x y z)
    over_three_parts (Ternary o) (TermItem u) (TermItem v) (TermItem w) d e g p q r t (inl i) = InPart (TernaryTerm o u v w) u (contains_first u (v ∷ w ∷ [])) (subst (IsInItem t) d i)
    over_three_parts (Ternary o) (TermItem u) (TermItem v) (TermItem w) d e g p q r t (inr (inl i)) = InPart (TernaryTerm o u v w) v (contains_later u v (v ∷ w ∷ []) (contains_first v (w ∷ []))) (subst (IsInItem t) e i)
    over_three_parts (Ternary o) (TermItem u) (TermItem v) (TermItem w) d e g p q r t (inr (inr (inl i))) = InPart (TernaryTerm o u v w) w (contains_later u w (v ∷ w ∷ []) (contains_later v w (w ∷ []) (contains_first w []))) (subst (IsInItem t) g i)
    over_three_parts (Ternary o) (TermItem u) (TermItem v) (TermItem w) d e g p q r t (inr (inr (inr z))) = absurd z
    over_three_parts (Ternary o) _ _ _ d e g p q r t h = absurd (cc)
    over_three_parts (SetField k) (TypeItem u) (TermItem v) (TermItem w) d e g p q r t (inl i) = InPart (SetFieldTerm u k v w) v (contains_first v (w ∷ [])) (subst (IsInItem t) e i)
    over_three_parts (SetField k) (TypeItem u) (TermItem v) (TermItem w) d e g p q r t (inr (inl i)) = InPart (SetFieldTerm u k v w) w (contains_later v w (w ∷ []) (contains_first w [])) (subst (IsInItem t) g i)
    over_three_parts (SetField k) (TypeItem u) (TermItem v) (TermItem w) d e g p q r t (inr (inr z)) = absurd z
    over_three_parts (SetField k) _ _ _ d e g p q r t h = absurd (cc)
    over_three_parts If (FormulaItem u) (TermItem v) (TermItem w) d e g p q r t (inl i) = InCondition u v w (subst (IsInItem t) d i)
    over_three_parts If (FormulaItem u) (TermItem v) (TermItem w) d e g p q r t (inr (inl i)) = InPart (IfTerm u v w) v (contains_first v (w ∷ [])) (subst (IsInItem t) e i)
    over_three_parts If (FormulaItem u) (TermItem v) (TermItem w) d e g p q r t (inr (inr (inl i))) = InPart (IfTerm u v w) w (contains_later v w (w ∷ []) (contains_first w [])) (subst (IsInItem t) g i)
    over_three_parts If (FormulaItem u) (TermItem v) (TermItem w) d e g p q r t (inr (inr (inr z))) = absurd z
    over_three_parts If _ _ _ d e g p q r t h = absurd (cc)
    over_three_parts (TypeStruct s) (BytesItem u) (BytesItem v) (TypesItem w) d e g p q r t (inl i) = subst (IsInItem t) d i
    over_three_parts (TypeStruct s) (BytesItem u) (BytesItem v) (TypesItem w) d e g p q r t (inr (inl i)) = subst (IsInItem t) e i
    over_three_parts (TypeStruct s) (BytesItem u) (BytesItem v) (TypesItem w) d e g p q r t (inr (inr (inl i))) = subst (IsInItem t) g i
    over_three_parts (TypeStruct s) (BytesItem u) (BytesItem v) (TypesItem w) d e g p q r t (inr (inr (inr z))) = absurd z
    over_three_parts (TypeStruct s) _ _ _ d e g p q r t h = absurd (cc)

-- ---- by number

pub record IsInPart (ns : List Node) (t : TermData) (node : Node) : Type 0 where
  pub part : ℕ
  pub one : IsOneOf part (outer_parts node)
  pub inside : IsInItem t (item_at ns part)

record AnyOne (t : TermData) (f : ℕ → Item) (ps : List ℕ) : Type 0 where
  part : ℕ
  one : IsOneOf part ps
  inside : IsInItem t (f part)

any_one : (t : TermData) (f : ℕ → Item) (ps : List ℕ) → IsInAny t (map f ps) → AnyOne t f ps
any_one t f [] h = absurd h
any_one t f (p ∷ ps) (inl h) = record { part = p; one = inl refl; inside = h }
any_one t f (p ∷ ps) (inr h) = (let r = any_one t f ps h in record { part = r.part; one = inr r.one; inside = r.inside })

one_any : (t : TermData) (f : ℕ → Item) (ps : List ℕ) (p : ℕ) → IsOneOf p ps → IsInItem t (f p) → IsInAny t (map f ps)
one_any t f (q ∷ ps) p (inl e) h = inl (subst (λ k. IsInItem t (f k)) e h)
one_any t f (q ∷ ps) p (inr o) h = inr (one_any t f ps p o h)
one_any t f [] p o h = absurd o

module _ (ns : List Node) (n : ℕ) (t : TermData) where
  of_node : (node : Node) → HasParts ns n node → IsInItem t (item_of (items ns) node) → (item_of (items ns) node ≡ TermItem t) ⊎ IsInAny t (map (item_at ns) (outer_parts node))
  of_node (LeafNode h) parts i = inl (in_leaf h t i)
  of_node (OneNode h a) parts i = in_one_part h (item_at ns a) parts.sort t i
  of_node (TwoNode h a b) parts i = in_two_parts (item_at ns) a b h (item_at ns a) (item_at ns b) refl refl parts.0.sort parts.1.sort t i
  of_node (ThreeNode h a b c) parts i = in_three_parts (item_at ns) a b c h (item_at ns a) (item_at ns b) (item_at ns c) refl refl refl parts.0.sort parts.1.sort parts.2.sort t i

  to_node : (node : Node) → HasParts ns n node → IsInAny t (map (item_at ns) (outer_parts node)) → IsInItem t (item_of (items ns) node)
  to_node (LeafNode h) parts i = absurd i
  to_node (OneNode h a) parts i = over_one_part h (item_at ns a) parts.sort t i
  to_node (TwoNode h a b) parts i = over_two_parts (item_at ns) a b h (item_at ns a) (item_at ns b) refl refl parts.0.sort parts.1.sort t i
  to_node (ThreeNode h a b c) parts i = over_three_parts (item_at ns) a b c h (item_at ns a) (item_at ns b) (item_at ns c) refl refl refl parts.0.sort parts.1.sort parts.2.sort t i

  pub stands_in : (node : Node) → IsMade ns n node → IsInItem t (item_at ns n) → (item_at ns n ≡ TermItem t) ⊎ IsInPart ns t node
  stands_in node made i = go (of_node node made.parts (subst (IsInItem t) made.item i))
    where
      go : (item_of (items ns) node ≡ TermItem t) ⊎ IsInAny t (map (item_at ns) (outer_parts node)) → (item_at ns n ≡ TermItem t) ⊎ IsInPart ns t node
      go (inl e) = inl (made.item ∙ e)
      go (inr h) = (let r = any_one t (item_at ns) (outer_parts node) h in inr (record { part = r.part; one = r.one; inside = r.inside }))

  pub stands_over : (node : Node) (part : ℕ) → IsMade ns n node → IsOneOf part (outer_parts node) → IsInItem t (item_at ns part) → IsInItem t (item_at ns n)
  stands_over node part made one i = subst (IsInItem t) (sym made.item) (to_node node made.parts (one_any t (item_at ns) (outer_parts node) part one i))
