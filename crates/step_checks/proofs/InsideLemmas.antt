-- What occurs in an item is the item, or occurs in a part of it.
use Rattle.std.proofs.Common.{◌≡◌, ◌⊎◌, inl, inr, ℕ, List, [], ◌∷◌, refl, sym, subst}
use Rattle.std.specs.Prelude.{Contains}
use Rattle.fol.specs.declared.operators.Junction.{Junction}
use Rattle.fol.specs.declared.operators.Quantifier.{Quantifier}
use Rattle.fol.specs.FormulaData.{TermData, UnaryTerm, BinaryTerm, TernaryTerm, PackTerm, FieldTerm, SetFieldTerm, IfTerm, TermsData, NoTerms, MoreTerms, TriggersData, NoTriggers, MoreTriggers, FormulaData, JoinFormula, QuantifyFormula, FormulasData, NoFormulas, MoreFormulas, list_of_terms, list_of_triggers, list_of_formulas}
use Rattle.term_pool.specs.Items.{Item, TermItem, TermsItem, TriggersItem, FormulaItem, FormulasItem, TypeItem, TypesItem, BytesItem, sort_of, leaf_item, one_item, two_item, three_item, one_part, first_of_two, second_of_two, first_of_three, second_of_three, third_of_three}
use Rattle.term_pool.specs.declared.node.Leaf.{Leaf}
use Rattle.term_pool.specs.declared.node.Leaf.TheVariants.{Var, Constant, TypeBool, TypeInt, TypeNum, TypeAddress, TypeSigner, TypeParam, NilTerms, NilTriggers, NilFormulas, NilTypes, NilBytes}
use Rattle.term_pool.specs.declared.node.One.{One}
use Rattle.term_pool.specs.declared.node.One.TheVariants.{Unary, Holds, Not, Join, TypeVector, TypeShared, TypeMutable, TypeTuple, ConsByte}
use Rattle.term_pool.specs.declared.node.Two.{Two}
use Rattle.term_pool.specs.declared.node.Two.TheVariants.{Binary, Pack, Field, Compare, Is, Connect, Quantify, ConsTerm, ConsTrigger, ConsFormula, ConsType}
use Rattle.term_pool.specs.declared.node.Three.{Three}
use Rattle.term_pool.specs.declared.node.Three.TheVariants.{Ternary, SetField, If, TypeStruct}
use Rattle.certificates.specs.BranchesParts.{IsIn, Itself as OuterItself, InPart as OuterPart, InCondition as OuterCondition, IsInFormula, InLeft as OuterLeft, InRight as OuterRight, InTyped as OuterTyped, InHolds as OuterHolds, InDenied as OuterDenied, InJoined as OuterJoined, InFirst as OuterFirst, InSecond as OuterSecond}
use Rattle.certificates.specs.Inside.{IsInsideTerm, Itself, InPart, InCondition, IsInside, InLeft, InRight, InTyped, InHolds, InDenied, InJoined, InFirst, InSecond, InBody, InTrigger}
use Rattle.tableau.proofs.InsideLemmas.{contains_first, contains_later, contains_cases, contains_none}
use Rattle.step_checks.specs.Inside.{IsInTerms, IsInTriggers, IsInFormulas, StandsInItem}

in_terms : (t : TermData) (us : TermsData) (u : TermData) → Contains (list_of_terms us) u → IsInsideTerm t u → IsInTerms t us
in_terms t NoTerms u c h = absurd (contains_none u c)
in_terms t (MoreTerms v vs) u c h = go (λ d. in_terms t vs u d h) (contains_cases v u (list_of_terms vs) c)
  where
    go : (Contains (list_of_terms vs) u → IsInTerms t vs) → (v ≡ u) ⊎ Contains (list_of_terms vs) u → IsInTerms t (MoreTerms v vs)
    go later (inl e) = inl (subst (IsInsideTerm t) (sym e) h)
    go later (inr d) = inr (later d)

record IsInOne (t : TermData) (us : List TermData) : Type 0 where
  term : TermData
  among : Contains us term
  inside : IsInsideTerm t term

some_term : (t : TermData) (us : TermsData) → IsInTerms t us → IsInOne t (list_of_terms us)
some_term t (MoreTerms v vs) (inl h) = record { term = v; among = contains_first v (list_of_terms vs); inside = h }
some_term t (MoreTerms v vs) (inr h) = (let s = some_term t vs h in record { term = s.term; among = contains_later v s.term (list_of_terms vs) s.among; inside = s.inside })
some_term t NoTerms h = absurd h

in_triggers : (t : TermData) (ts : TriggersData) (us : TermsData) → Contains (list_of_triggers ts) us → IsInTerms t us → IsInTriggers t ts
in_triggers t NoTriggers us c h = absurd (contains_none us c)
in_triggers t (MoreTriggers v vs) us c h = go (λ d. in_triggers t vs us d h) (contains_cases v us (list_of_triggers vs) c)
  where
    go : (Contains (list_of_triggers vs) us → IsInTriggers t vs) → (v ≡ us) ⊎ Contains (list_of_triggers vs) us → IsInTriggers t (MoreTriggers v vs)
    go later (inl e) = inl (subst (IsInTerms t) (sym e) h)
    go later (inr d) = inr (later d)

record IsInTrigger (t : TermData) (ts : List TermsData) : Type 0 where
  trigger : TermsData
  among : Contains ts trigger
  inside : IsInTerms t trigger

some_trigger : (t : TermData) (ts : TriggersData) → IsInTriggers t ts → IsInTrigger t (list_of_triggers ts)
some_trigger t (MoreTriggers v vs) (inl h) = record { trigger = v; among = contains_first v (list_of_triggers vs); inside = h }
some_trigger t (MoreTriggers v vs) (inr h) = (let s = some_trigger t vs h in record { trigger = s.trigger; among = contains_later v s.trigger (list_of_triggers vs) s.among; inside = s.inside })
some_trigger t NoTriggers h = absurd h

quantified : (t : TermData) (o : Quantifier) (n : ℕ) (ts : TriggersData) (p : FormulaData) → IsInTriggers t ts → IsInside t (QuantifyFormula o n ts p)
quantified t o n ts p h =
    let s = some_trigger t ts h in
    let u = some_term t s.trigger s.inside in
    InTrigger o n ts p s.trigger u.term s.among u.among u.inside

in_formulas : (t : TermData) (ps : FormulasData) (p : FormulaData) → Contains (list_of_formulas ps) p → IsInside t p → IsInFormulas t ps
in_formulas t NoFormulas p c h = absurd (contains_none p c)
in_formulas t (MoreFormulas q qs) p c h = go (λ d. in_formulas t qs p d h) (contains_cases q p (list_of_formulas qs) c)
  where
    go : (Contains (list_of_formulas qs) p → IsInFormulas t qs) → (q ≡ p) ⊎ Contains (list_of_formulas qs) p → IsInFormulas t (MoreFormulas q qs)
    go later (inl e) = inl (subst (IsInside t) (sym e) h)
    go later (inr d) = inr (later d)

joined : (t : TermData) (o : Junction) (all ps : FormulasData) → ((p : FormulaData) → Contains (list_of_formulas ps) p → Contains (list_of_formulas all) p) → IsInFormulas t ps → IsInside t (JoinFormula o all)
joined t o all (MoreFormulas q qs) sub (inl h) = InJoined o all q (sub q (contains_first q (list_of_formulas qs))) h
joined t o all (MoreFormulas q qs) sub (inr h) = joined t o all qs (λ p c. sub p (contains_later q p (list_of_formulas qs) c)) h
joined t o all NoFormulas sub h = absurd h

-- ---- what occurs in a term is the term, or occurs in a part or a condition

in_one : (t u : TermData) (v : TermData) → Contains (u ∷ []) v → IsInsideTerm t v → IsInsideTerm t u
in_one t u v c h = go (contains_cases u v [] c)
  where
    go : (u ≡ v) ⊎ Contains [] v → IsInsideTerm t u
    go (inl e) = subst (IsInsideTerm t) (sym e) h
    go (inr d) = absurd (contains_none v d)

in_two : (t u w : TermData) (v : TermData) → Contains (u ∷ w ∷ []) v → IsInsideTerm t v → IsInsideTerm t u ⊎ IsInsideTerm t w
in_two t u w v c h = go (contains_cases u v (w ∷ []) c)
  where
    go : (u ≡ v) ⊎ Contains (w ∷ []) v → IsInsideTerm t u ⊎ IsInsideTerm t w
    go (inl e) = inl (subst (IsInsideTerm t) (sym e) h)
    go (inr d) = inr (in_one t w v d h)

in_three : (t u w x : TermData) (v : TermData) → Contains (u ∷ w ∷ x ∷ []) v → IsInsideTerm t v → IsInsideTerm t u ⊎ (IsInsideTerm t w ⊎ IsInsideTerm t x)
in_three t u w x v c h = go (contains_cases u v (w ∷ x ∷ []) c)
  where
    go : (u ≡ v) ⊎ Contains (w ∷ x ∷ []) v → IsInsideTerm t u ⊎ (IsInsideTerm t w ⊎ IsInsideTerm t x)
    go (inl e) = inl (subst (IsInsideTerm t) (sym e) h)
    go (inr d) = inr (in_two t w x v d h)

-- ---- by the head of a node

pub in_leaf : (h : Leaf) (t : TermData) → StandsInItem t (leaf_item h) → leaf_item h ≡ TermItem t
in_leaf (Var n) _ Itself = refl
in_leaf (Var n) t (InPart _ v c r) = absurd (contains_none v c)
in_leaf (Constant k) _ Itself = refl
in_leaf (Constant k) t (InPart _ v c r) = absurd (contains_none v c)
in_leaf TypeBool t h = absurd h
in_leaf (TypeInt w) t h = absurd h
in_leaf TypeNum t h = absurd h
in_leaf TypeAddress t h = absurd h
in_leaf TypeSigner t h = absurd h
in_leaf (TypeParam n) t h = absurd h
in_leaf NilTerms t h = absurd h
in_leaf NilTriggers t h = absurd h
in_leaf NilFormulas t h = absurd h
in_leaf NilTypes t h = absurd h
in_leaf NilBytes t h = absurd h

pub in_one_part : (h : One) (x : Item) → sort_of x ≡ one_part h → (t : TermData) → StandsInItem t (one_item h x) → (one_item h x ≡ TermItem t) ⊎ StandsInItem t x
in_one_part (Unary o) (TermItem u) s _ Itself = inl refl
in_one_part (Unary o) (TermItem u) s t (InPart _ v c r) = inr (in_one t u v c r)
in_one_part (Unary o) _ s t h = absurd (cc)
in_one_part Holds (TermItem u) s t (InHolds _ r) = inr r
in_one_part Holds _ s t h = absurd (cc)
in_one_part Not (FormulaItem p) s t (InDenied _ r) = inr r
in_one_part Not _ s t h = absurd (cc)
in_one_part (Join o) (FormulasItem ps) s t (InJoined _ _ p c r) = inr (in_formulas t ps p c r)
in_one_part (Join o) _ s t h = absurd (cc)
in_one_part TypeVector x s t h = absurd h
in_one_part TypeShared x s t h = absurd h
in_one_part TypeMutable x s t h = absurd h
in_one_part TypeTuple x s t h = absurd h
in_one_part (ConsByte b) x s t h = absurd h

pub over_one_part : (h : One) (x : Item) → sort_of x ≡ one_part h → (t : TermData) → StandsInItem t x → StandsInItem t (one_item h x)
over_one_part (Unary o) (TermItem u) s t r = InPart (UnaryTerm o u) u (contains_first u []) r
over_one_part (Unary o) _ s t r = absurd (cc)
over_one_part Holds (TermItem u) s t r = InHolds u r
over_one_part Holds _ s t r = absurd (cc)
over_one_part Not (FormulaItem p) s t r = InDenied p r
over_one_part Not _ s t r = absurd (cc)
over_one_part (Join o) (FormulasItem ps) s t r = joined t o ps ps (λ p c. c) r
over_one_part (Join o) _ s t r = absurd (cc)
over_one_part TypeVector (TypeItem a) s t r = r
over_one_part TypeVector _ s t r = absurd (cc)
over_one_part TypeShared (TypeItem a) s t r = r
over_one_part TypeShared _ s t r = absurd (cc)
over_one_part TypeMutable (TypeItem a) s t r = r
over_one_part TypeMutable _ s t r = absurd (cc)
over_one_part TypeTuple (TypesItem ts) s t r = r
over_one_part TypeTuple _ s t r = absurd (cc)
over_one_part (ConsByte b) (BytesItem bs) s t r = r
over_one_part (ConsByte b) _ s t r = absurd (cc)

pub in_two_parts : (h : Two) (x y : Item) → sort_of x ≡ first_of_two h → sort_of y ≡ second_of_two h → (t : TermData) → StandsInItem t (two_item h x y) → (two_item h x y ≡ TermItem t) ⊎ (StandsInItem t x ⊎ StandsInItem t y)
in_two_parts (Binary o) (TermItem u) (TermItem w) p q _ Itself = inl refl
in_two_parts (Binary o) (TermItem u) (TermItem w) p q t (InPart _ v c r) = inr (in_two t u w v c r)
in_two_parts (Binary o) _ _ p q t h = absurd (cc)
in_two_parts Pack (TypeItem s) (TermsItem us) p q _ Itself = inl refl
in_two_parts Pack (TypeItem s) (TermsItem us) p q t (InPart _ v c r) = inr (inr (in_terms t us v c r))
in_two_parts Pack _ _ p q t h = absurd (cc)
in_two_parts (Field k) (TypeItem s) (TermItem w) p q _ Itself = inl refl
in_two_parts (Field k) (TypeItem s) (TermItem w) p q t (InPart _ v c r) = inr (inr (in_one t w v c r))
in_two_parts (Field k) _ _ p q t h = absurd (cc)
in_two_parts (Compare o) (TermItem u) (TermItem w) p q t (InLeft _ _ _ r) = inr (inl r)
in_two_parts (Compare o) (TermItem u) (TermItem w) p q t (InRight _ _ _ r) = inr (inr r)
in_two_parts (Compare o) _ _ p q t h = absurd (cc)
in_two_parts Is (TypeItem s) (TermItem w) p q t (InTyped _ _ r) = inr (inr r)
in_two_parts Is _ _ p q t h = absurd (cc)
in_two_parts (Connect o) (FormulaItem u) (FormulaItem w) p q t (InFirst _ _ _ r) = inr (inl r)
in_two_parts (Connect o) (FormulaItem u) (FormulaItem w) p q t (InSecond _ _ _ r) = inr (inr r)
in_two_parts (Connect o) _ _ p q t h = absurd (cc)
in_two_parts (Quantify o n) (TriggersItem ts) (FormulaItem w) p q t (InBody _ _ _ _ r) = inr (inr r)
in_two_parts (Quantify o n) (TriggersItem ts) (FormulaItem w) p q t (InTrigger _ _ _ _ us u c d r) = inr (inl (in_triggers t ts us c (in_terms t us u d r)))
in_two_parts (Quantify o n) _ _ p q t h = absurd (cc)
in_two_parts ConsTerm (TermItem u) (TermsItem us) p q t h = inr h
in_two_parts ConsTerm _ _ p q t h = absurd (cc)
in_two_parts ConsTrigger (TermsItem us) (TriggersItem ts) p q t h = inr h
in_two_parts ConsTrigger _ _ p q t h = absurd (cc)
in_two_parts ConsFormula (FormulaItem u) (FormulasItem us) p q t h = inr h
in_two_parts ConsFormula _ _ p q t h = absurd (cc)
in_two_parts ConsType x y p q t h = absurd h

pub over_two_parts : (h : Two) (x y : Item) → sort_of x ≡ first_of_two h → sort_of y ≡ second_of_two h → (t : TermData) → StandsInItem t x ⊎ StandsInItem t y → StandsInItem t (two_item h x y)
over_two_parts (Binary o) (TermItem u) (TermItem w) p q t (inl r) = InPart (BinaryTerm o u w) u (contains_first u (w ∷ [])) r
over_two_parts (Binary o) (TermItem u) (TermItem w) p q t (inr r) = InPart (BinaryTerm o u w) w (contains_later u w (w ∷ []) (contains_first w [])) r
over_two_parts (Binary o) _ _ p q t r = absurd (cc)
over_two_parts Pack (TypeItem s) (TermsItem us) p q t (inl z) = absurd z
over_two_parts Pack (TypeItem s) (TermsItem us) p q t (inr r) = (let one = some_term t us r in InPart (PackTerm s us) one.term one.among one.inside)
over_two_parts Pack _ _ p q t r = absurd (cc)
over_two_parts (Field k) (TypeItem s) (TermItem w) p q t (inl z) = absurd z
over_two_parts (Field k) (TypeItem s) (TermItem w) p q t (inr r) = InPart (FieldTerm s k w) w (contains_first w []) r
over_two_parts (Field k) _ _ p q t r = absurd (cc)
over_two_parts (Compare o) (TermItem u) (TermItem w) p q t (inl r) = InLeft o u w r
over_two_parts (Compare o) (TermItem u) (TermItem w) p q t (inr r) = InRight o u w r
over_two_parts (Compare o) _ _ p q t r = absurd (cc)
over_two_parts Is (TypeItem s) (TermItem w) p q t (inl z) = absurd z
over_two_parts Is (TypeItem s) (TermItem w) p q t (inr r) = InTyped s w r
over_two_parts Is _ _ p q t r = absurd (cc)
over_two_parts (Connect o) (FormulaItem u) (FormulaItem w) p q t (inl r) = InFirst o u w r
over_two_parts (Connect o) (FormulaItem u) (FormulaItem w) p q t (inr r) = InSecond o u w r
over_two_parts (Connect o) _ _ p q t r = absurd (cc)
over_two_parts (Quantify o n) (TriggersItem ts) (FormulaItem w) p q t (inl r) = quantified t o n ts w r
over_two_parts (Quantify o n) (TriggersItem ts) (FormulaItem w) p q t (inr r) = InBody o n ts w r
over_two_parts (Quantify o n) _ _ p q t r = absurd (cc)
over_two_parts ConsTerm (TermItem u) (TermsItem us) p q t r = r
over_two_parts ConsTerm _ _ p q t r = absurd (cc)
over_two_parts ConsTrigger (TermsItem us) (TriggersItem ts) p q t r = r
over_two_parts ConsTrigger _ _ p q t r = absurd (cc)
over_two_parts ConsFormula (FormulaItem u) (FormulasItem us) p q t r = r
over_two_parts ConsFormula _ _ p q t r = absurd (cc)
over_two_parts ConsType (TypeItem u) (TypesItem us) p q t (inl r) = r
over_two_parts ConsType (TypeItem u) (TypesItem us) p q t (inr r) = r
over_two_parts ConsType _ _ p q t r = absurd (cc)

pub in_three_parts : (h : Three) (x y z : Item) → sort_of x ≡ first_of_three h → sort_of y ≡ second_of_three h → sort_of z ≡ third_of_three h → (t : TermData) → StandsInItem t (three_item h x y z) → (three_item h x y z ≡ TermItem t) ⊎ (StandsInItem t x ⊎ (StandsInItem t y ⊎ StandsInItem t z))
in_three_parts (Ternary o) (TermItem u) (TermItem v) (TermItem w) p q r _ Itself = inl refl
in_three_parts (Ternary o) (TermItem u) (TermItem v) (TermItem w) p q r t (InPart _ s k i) = inr (in_three t u v w s k i)
in_three_parts (Ternary o) _ _ _ p q r t h = absurd (cc)
in_three_parts (SetField k) (TypeItem u) (TermItem v) (TermItem w) p q r _ Itself = inl refl
in_three_parts (SetField k) (TypeItem u) (TermItem v) (TermItem w) p q r t (InPart _ s j i) = inr (inr (in_two t v w s j i))
in_three_parts (SetField k) _ _ _ p q r t h = absurd (cc)
in_three_parts If (FormulaItem u) (TermItem v) (TermItem w) p q r _ Itself = inl refl
in_three_parts If (FormulaItem u) (TermItem v) (TermItem w) p q r t (InPart _ s j i) = inr (inr (in_two t v w s j i))
in_three_parts If (FormulaItem u) (TermItem v) (TermItem w) p q r t (InCondition _ _ _ i) = inr (inl i)
in_three_parts If _ _ _ p q r t h = absurd (cc)
in_three_parts (TypeStruct s) x y z p q r t h = absurd h

pub over_three_parts : (h : Three) (x y z : Item) → sort_of x ≡ first_of_three h → sort_of y ≡ second_of_three h → sort_of z ≡ third_of_three h → (t : TermData) → StandsInItem t x ⊎ (StandsInItem t y ⊎ StandsInItem t z) → StandsInItem t (three_item h x y z)
over_three_parts (Ternary o) (TermItem u) (TermItem v) (TermItem w) p q r t (inl i) = InPart (TernaryTerm o u v w) u (contains_first u (v ∷ w ∷ [])) i
over_three_parts (Ternary o) (TermItem u) (TermItem v) (TermItem w) p q r t (inr (inl i)) = InPart (TernaryTerm o u v w) v (contains_later u v (v ∷ w ∷ []) (contains_first v (w ∷ []))) i
over_three_parts (Ternary o) (TermItem u) (TermItem v) (TermItem w) p q r t (inr (inr i)) = InPart (TernaryTerm o u v w) w (contains_later u w (v ∷ w ∷ []) (contains_later v w (w ∷ []) (contains_first w []))) i
over_three_parts (Ternary o) _ _ _ p q r t h = absurd (cc)
over_three_parts (SetField k) (TypeItem u) (TermItem v) (TermItem w) p q r t (inl z) = absurd z
over_three_parts (SetField k) (TypeItem u) (TermItem v) (TermItem w) p q r t (inr (inl i)) = InPart (SetFieldTerm u k v w) v (contains_first v (w ∷ [])) i
over_three_parts (SetField k) (TypeItem u) (TermItem v) (TermItem w) p q r t (inr (inr i)) = InPart (SetFieldTerm u k v w) w (contains_later v w (w ∷ []) (contains_first w [])) i
over_three_parts (SetField k) _ _ _ p q r t h = absurd (cc)
over_three_parts If (FormulaItem u) (TermItem v) (TermItem w) p q r t (inl i) = InCondition u v w i
over_three_parts If (FormulaItem u) (TermItem v) (TermItem w) p q r t (inr (inl i)) = InPart (IfTerm u v w) v (contains_first v (w ∷ [])) i
over_three_parts If (FormulaItem u) (TermItem v) (TermItem w) p q r t (inr (inr i)) = InPart (IfTerm u v w) w (contains_later v w (w ∷ []) (contains_first w [])) i
over_three_parts If _ _ _ p q r t h = absurd (cc)
over_three_parts (TypeStruct s) (BytesItem u) (BytesItem v) (TypesItem w) p q r t (inl z) = absurd z
over_three_parts (TypeStruct s) (BytesItem u) (BytesItem v) (TypesItem w) p q r t (inr (inl z)) = absurd z
over_three_parts (TypeStruct s) (BytesItem u) (BytesItem v) (TypesItem w) p q r t (inr (inr z)) = absurd z
over_three_parts (TypeStruct s) _ _ _ p q r t h = absurd (cc)

-- ---- outside quantifiers

mutual
  in_term : (t u : TermData) → IsIn t u → IsInsideTerm t u
  in_term t _ OuterItself = Itself
  in_term t _ (OuterPart u v c h) = InPart u v c (in_term t v h)
  in_term t _ (OuterCondition p u v h) = InCondition p u v (in_formula t p h)

  pub in_formula : (t : TermData) (p : FormulaData) → IsInFormula t p → IsInside t p
  in_formula t _ (OuterLeft o u v h) = InLeft o u v (in_term t u h)
  in_formula t _ (OuterRight o u v h) = InRight o u v (in_term t v h)
  in_formula t _ (OuterTyped a u h) = InTyped a u (in_term t u h)
  in_formula t _ (OuterHolds u h) = InHolds u (in_term t u h)
  in_formula t _ (OuterDenied p h) = InDenied p (in_formula t p h)
  in_formula t _ (OuterJoined o ps p c h) = InJoined o ps p c (in_formula t p h)
  in_formula t _ (OuterFirst o p q h) = InFirst o p q (in_formula t p h)
  in_formula t _ (OuterSecond o p q h) = InSecond o p q (in_formula t q h)
