-- Terms that occur in an item: their depths, their variables, and their contexts in a formula.
use Rattle.std.proofs.Common.{◌≡◌, ◌⊎◌, inl, inr, ℕ, suc, ◌+◌, ◌≤◌, max, List, [], ◌∷◌, length, refl, sym, ap, ◌∙◌, subst, arith}
use Rattle.std.specs.Prelude.{Contains}
use Rattle.std.proofs.lemmas.Option.{slice_get_within}
use Rattle.fol.specs.declared.operators.Junction.{Junction}
use Rattle.fol.specs.FormulaData.{TermData, UnaryTerm, BinaryTerm, TernaryTerm, PackTerm, FieldTerm, SetFieldTerm, IfTerm, TermsData, NoTerms, MoreTerms, TriggersData, NoTriggers, MoreTriggers, FormulaData, CompareFormula, IsFormula, HoldsFormula, NotFormula, JoinFormula, ConnectFormula, QuantifyFormula, FormulasData, NoFormulas, MoreFormulas, list_of_terms, list_of_triggers, list_of_formulas}
use Rattle.term_pool.specs.Items.{Item, TermItem, TermsItem, TriggersItem, FormulaItem, FormulasItem, TypeItem, TypesItem, BytesItem, Sort, TermSort, sort_of, term_in, one_item, two_item, three_item, one_part, first_of_two, second_of_two, first_of_three, second_of_three, third_of_three}
use Rattle.term_pool.specs.Pools.{item_at, HasPart, IsMade}
use Rattle.term_pool.specs.Depths.{item_depth, one_steps, two_steps}
use Rattle.term_pool.specs.declared.node.One.{One}
use Rattle.term_pool.specs.declared.node.One.TheVariants.{Unary, Holds, Not, Join, TypeVector, TypeShared, TypeMutable, TypeTuple, ConsByte}
use Rattle.term_pool.specs.declared.node.Two.{Two}
use Rattle.term_pool.specs.declared.node.Two.TheVariants.{Binary, Pack, Field, Compare, Is, Connect, Quantify, ConsTerm, ConsTrigger, ConsFormula, ConsType}
use Rattle.term_pool.specs.declared.node.Three.{Three}
use Rattle.term_pool.specs.declared.node.Three.TheVariants.{Ternary, SetField, If, TypeStruct}
use Rattle.term_pool.specs.declared.node.Node.{Node}
use Rattle.term_pool.specs.declared.node.Node.TheVariants.{Leaf as LeafNode, One as OneNode, Two as TwoNode, Three as ThreeNode}
use Rattle.term_pool.proofs.ShapeLemmas.{a_term}
use Rattle.congruence_closure.specs.States.{IsPart}
use Rattle.certificates.specs.Inside.{IsInsideTerm, Itself as SameTerm, InPart as InTermPart, InCondition, IsInside, InLeft, InRight, InTyped, InHolds, InDenied, InJoined, InFirst, InSecond, InBody, InTrigger}
use Rattle.congruence_closure.specs.Numbers.{StandsIn, Itself, InPart}
use Rattle.explanations.specs.Frames.{frame_item, open_sort, HasOthers}
use Rattle.explanations.specs.declared.frame.Frame.{Frame}
use Rattle.explanations.specs.declared.frame.Frame.TheVariants.{Only, FirstOfTwo, SecondOfTwo, FirstOfThree, SecondOfThree, ThirdOfThree}
use Rattle.explanations.proofs.AboveLemmas.{above_item, above_others, frame_above}
use Rattle.explanations.proofs.DepthLemmas.{one_depth, two_depth, three_depth}

-- ---- a part by its frame

record IsFramed (pool : List Node) (whole part : ℕ) : Type 0 where
  frame : Frame
  others : HasOthers pool frame
  is : item_at pool whole ≡ frame_item pool frame (item_at pool part)
  sort : sort_of (item_at pool part) ≡ open_sort frame

module _ (pool : List Node) (whole : ℕ) where
  earlier : (n : Node) → IsMade pool whole n → (k : ℕ) (s : Sort) → HasPart pool whole k s → HasPart pool (length pool) k s
  earlier n m k s p = (let w = slice_get_within pool whole n m.found in let e = p.earlier in record { earlier = omega (arith, w, e); sort = p.sort })

  framed : (part : ℕ) (n : Node) → IsMade pool whole n → IsPart part n → IsFramed pool whole part
  framed part (LeafNode h) m o = absurd o
  framed part (OneNode h a) m o = subst (IsFramed pool whole) (sym o) (record { frame = Only h; others = tt; is = m.item; sort = m.parts.sort })
  framed part (TwoNode h a b) m (inl o) = subst (IsFramed pool whole) (sym o) (record { frame = FirstOfTwo h b; others = earlier (TwoNode h a b) m b (second_of_two h) m.parts.1; is = m.item; sort = m.parts.0.sort })
  framed part (TwoNode h a b) m (inr o) = subst (IsFramed pool whole) (sym o) (record { frame = SecondOfTwo h a; others = earlier (TwoNode h a b) m a (first_of_two h) m.parts.0; is = m.item; sort = m.parts.1.sort })
  framed part (ThreeNode h a b c) m (inl o) = subst (IsFramed pool whole) (sym o) (record { frame = FirstOfThree h b c; others = (earlier (ThreeNode h a b c) m b (second_of_three h) m.parts.1, earlier (ThreeNode h a b c) m c (third_of_three h) m.parts.2); is = m.item; sort = m.parts.0.sort })
  framed part (ThreeNode h a b c) m (inr (inl o)) = subst (IsFramed pool whole) (sym o) (record { frame = SecondOfThree h a c; others = (earlier (ThreeNode h a b c) m a (first_of_three h) m.parts.0, earlier (ThreeNode h a b c) m c (third_of_three h) m.parts.2); is = m.item; sort = m.parts.1.sort })
  framed part (ThreeNode h a b c) m (inr (inr o)) = subst (IsFramed pool whole) (sym o) (record { frame = ThirdOfThree h a b; others = (earlier (ThreeNode h a b c) m a (first_of_three h) m.parts.0, earlier (ThreeNode h a b c) m b (second_of_three h) m.parts.1); is = m.item; sort = m.parts.2.sort })

-- ---- variables

pub stands_above : (pool : List Node) (k whole : ℕ) → StandsIn pool k whole → above_item (item_at pool k) ≤ above_item (item_at pool whole)
stands_above pool k _ Itself = omega arith
stands_above pool k _ (InPart whole part n m o s) =
    let f = framed pool whole part n m o in
    let here : above_item (item_at pool whole) ≡ max (above_others pool f.frame) (above_item (item_at pool part)) = ap above_item f.is ∙ frame_above pool f.frame f.others (item_at pool part) f.sort in
    let below : above_item (item_at pool k) ≤ above_item (item_at pool part) = stands_above pool k part s in
    omega (arith, here, below)

-- ---- depths

-- a lower bound of the number of levels above a term that occurs in it
abbrev pub levels_of : FormulaData → ℕ
levels_of (NotFormula p) = 2
levels_of p = 1

abbrev pub levels : Item → ℕ
levels (FormulaItem p) = levels_of p
levels (FormulasItem ps) = 1
levels _ = 0

pub some_levels : (p : FormulaData) → 1 ≤ levels_of p
some_levels (CompareFormula o t u) = omega arith
some_levels (IsFormula a t) = omega arith
some_levels (HoldsFormula t) = omega arith
some_levels (NotFormula p) = omega arith
some_levels (JoinFormula o ps) = omega arith
some_levels (ConnectFormula o p q) = omega arith
some_levels (QuantifyFormula o n ts p) = omega arith

one_levels : (h : One) (x : Item) → sort_of x ≡ one_part h → levels (one_item h x) ≤ one_steps h + levels x
one_levels Not (FormulaItem p) e = let l = some_levels p in omega (arith, l)
one_levels Not _ e = absurd (cc)
one_levels (Unary o) x e = omega arith
one_levels Holds x e = omega arith
one_levels (Join o) x e = omega arith
one_levels TypeVector x e = omega arith
one_levels TypeShared x e = omega arith
one_levels TypeMutable x e = omega arith
one_levels TypeTuple x e = omega arith
one_levels (ConsByte b) x e = omega arith

two_levels : (h : Two) (x y : Item) → sort_of x ≡ first_of_two h → sort_of y ≡ second_of_two h → (levels (two_item h x y) ≤ two_steps h + levels x) × (levels (two_item h x y) ≤ two_steps h + levels y)
two_levels ConsFormula (FormulaItem p) (FormulasItem ps) e f = (let l = some_levels p in omega (arith, l), omega arith)
two_levels ConsFormula _ _ e f = absurd (cc)
two_levels (Binary o) x y e f = (omega arith, omega arith)
two_levels Pack x y e f = (omega arith, omega arith)
two_levels (Field k) x y e f = (omega arith, omega arith)
two_levels (Compare o) x y e f = (omega arith, omega arith)
two_levels Is x y e f = (omega arith, omega arith)
two_levels (Connect o) x y e f = (omega arith, omega arith)
two_levels (Quantify o n) x y e f = (omega arith, omega arith)
two_levels ConsTerm x y e f = (omega arith, omega arith)
two_levels ConsTrigger x y e f = (omega arith, omega arith)
two_levels ConsType x y e f = (omega arith, omega arith)

three_levels : (h : Three) (x y z : Item) → levels (three_item h x y z) ≡ 0
three_levels (Ternary o) x y z = refl
three_levels (SetField k) x y z = refl
three_levels If x y z = refl
three_levels (TypeStruct a) x y z = refl

deep_only : (d s l m n k : ℕ) → n ≡ s + k → m ≤ s + l → d + l ≤ k → d + m ≤ n
deep_only d s l m n k e g h = omega arith

deep_first : (d s l m n k j : ℕ) → n ≡ s + max k j → m ≤ s + l → d + l ≤ k → d + m ≤ n
deep_first d s l m n k j e g h = omega arith

deep_second : (d s l m n k j : ℕ) → n ≡ s + max j k → m ≤ s + l → d + l ≤ k → d + m ≤ n
deep_second d s l m n k j e g h = omega arith

deep_third : (d l m n k j i : ℕ) → n ≡ 1 + max j (max i k) → m ≡ 0 → d + l ≤ k → d + m ≤ n
deep_third d l m n k j i e g h = omega arith

deep_middle : (d l m n k j i : ℕ) → n ≡ 1 + max j (max k i) → m ≡ 0 → d + l ≤ k → d + m ≤ n
deep_middle d l m n k j i e g h = omega arith

deep_front : (d l m n k j i : ℕ) → n ≡ 1 + max k (max j i) → m ≡ 0 → d + l ≤ k → d + m ≤ n
deep_front d l m n k j i e g h = omega arith

frame_deep : (pool : List Node) (f : Frame) → HasOthers pool f → (x : Item) → sort_of x ≡ open_sort f → (d : ℕ) → d + levels x ≤ item_depth x → d + levels (frame_item pool f x) ≤ item_depth (frame_item pool f x)
frame_deep pool (Only h) o x e d l = deep_only d (one_steps h) (levels x) (levels (one_item h x)) (item_depth (one_item h x)) (item_depth x) (one_depth h x e) (one_levels h x e) l
frame_deep pool (FirstOfTwo h b) o x e d l = deep_first d (two_steps h) (levels x) _ _ (item_depth x) (item_depth (item_at pool b)) (two_depth h x (item_at pool b) e o.sort) (two_levels h x (item_at pool b) e o.sort).0 l
frame_deep pool (SecondOfTwo h a) o x e d l = deep_second d (two_steps h) (levels x) _ _ (item_depth x) (item_depth (item_at pool a)) (two_depth h (item_at pool a) x o.sort e) (two_levels h (item_at pool a) x o.sort e).1 l
frame_deep pool (FirstOfThree h b c) o x e d l = deep_front d (levels x) _ _ (item_depth x) (item_depth (item_at pool b)) (item_depth (item_at pool c)) (three_depth h x (item_at pool b) (item_at pool c) e o.0.sort o.1.sort) (three_levels h x (item_at pool b) (item_at pool c)) l
frame_deep pool (SecondOfThree h a c) o x e d l = deep_middle d (levels x) _ _ (item_depth x) (item_depth (item_at pool a)) (item_depth (item_at pool c)) (three_depth h (item_at pool a) x (item_at pool c) o.0.sort e o.1.sort) (three_levels h (item_at pool a) x (item_at pool c)) l
frame_deep pool (ThirdOfThree h a b) o x e d l = deep_third d (levels x) _ _ (item_depth x) (item_depth (item_at pool a)) (item_depth (item_at pool b)) (three_depth h (item_at pool a) (item_at pool b) x o.0.sort o.1.sort e) (three_levels h (item_at pool a) (item_at pool b) x) l

term_deep : (x : Item) → sort_of x ≡ TermSort → item_depth x + levels x ≤ item_depth x
term_deep (TermItem t) e = omega arith
term_deep _ e = absurd (cc)

pub stands_deep : (pool : List Node) (k whole : ℕ) → sort_of (item_at pool k) ≡ TermSort → StandsIn pool k whole → item_depth (item_at pool k) + levels (item_at pool whole) ≤ item_depth (item_at pool whole)
stands_deep pool k _ e Itself = term_deep (item_at pool k) e
stands_deep pool k _ e (InPart whole part n m o s) =
    let f = framed pool whole part n m o in
    subst (λ x. item_depth (item_at pool k) + levels x ≤ item_depth x) (sym f.is) (frame_deep pool f.frame f.others (item_at pool part) f.sort (item_depth (item_at pool k)) (stands_deep pool k part e s))

-- ---- the context of an occurrence

abbrev IsInTerms : TermData → TermsData → Type 0
IsInTerms t NoTerms = ⊥
IsInTerms t (MoreTerms u us) = IsInsideTerm t u ⊎ IsInTerms t us

abbrev IsInTriggers : TermData → TriggersData → Type 0
IsInTriggers t NoTriggers = ⊥
IsInTriggers t (MoreTriggers us ts) = IsInTerms t us ⊎ IsInTriggers t ts

abbrev IsInFormulas : TermData → FormulasData → Type 0
IsInFormulas t NoFormulas = ⊥
IsInFormulas t (MoreFormulas p ps) = IsInside t p ⊎ IsInFormulas t ps

abbrev pub IsInItem : TermData → Item → Type 0
IsInItem t (TermItem u) = IsInsideTerm t u
IsInItem t (TermsItem us) = IsInTerms t us
IsInItem t (TriggersItem ts) = IsInTriggers t ts
IsInItem t (FormulaItem p) = IsInside t p
IsInItem t (FormulasItem ps) = IsInFormulas t ps
IsInItem t _ = ⊥

module _ {X : Type 0} where
  first : (x : X) (xs : List X) → Contains (x ∷ xs) x
  first x xs = (0, omega arith, refl)

  later : (x y : X) (xs : List X) → Contains xs y → Contains (x ∷ xs) y
  later x y xs h = (let w = h.1 in (suc h.0, omega (arith, w), h.2))

record IsInOne (t : TermData) (us : List TermData) : Type 0 where
  term : TermData
  among : Contains us term
  inside : IsInsideTerm t term

some_term : (t : TermData) (us : TermsData) → IsInTerms t us → IsInOne t (list_of_terms us)
some_term t (MoreTerms v vs) (inl h) = record { term = v; among = first v (list_of_terms vs); inside = h }
some_term t (MoreTerms v vs) (inr h) = (let s = some_term t vs h in record { term = s.term; among = later v s.term (list_of_terms vs) s.among; inside = s.inside })
some_term t NoTerms h = absurd h

record IsInTrigger (t : TermData) (ts : List TermsData) : Type 0 where
  trigger : TermsData
  among : Contains ts trigger
  inside : IsInOne t (list_of_terms trigger)

some_trigger : (t : TermData) (ts : TriggersData) → IsInTriggers t ts → IsInTrigger t (list_of_triggers ts)
some_trigger t (MoreTriggers us ts) (inl h) = record { trigger = us; among = first us (list_of_triggers ts); inside = some_term t us h }
some_trigger t (MoreTriggers us ts) (inr h) = (let s = some_trigger t ts h in record { trigger = s.trigger; among = later us s.trigger (list_of_triggers ts) s.among; inside = s.inside })
some_trigger t NoTriggers h = absurd h

joined : (t : TermData) (o : Junction) (all ps : FormulasData) → ((p : FormulaData) → Contains (list_of_formulas ps) p → Contains (list_of_formulas all) p) → IsInFormulas t ps → IsInside t (JoinFormula o all)
joined t o all (MoreFormulas q qs) sub (inl h) = InJoined o all q (sub q (first q (list_of_formulas qs))) h
joined t o all (MoreFormulas q qs) sub (inr h) = joined t o all qs (λ p c. sub p (later q p (list_of_formulas qs) c)) h
joined t o all NoFormulas sub h = absurd h

module _ (t : TermData) where
  in_only : (h : One) (x : Item) → sort_of x ≡ one_part h → IsInItem t x → IsInItem t (one_item h x)
  in_only (Unary o) (TermItem u) e i = InTermPart (UnaryTerm o u) u (first u []) i
  in_only (Unary o) _ e i = absurd (cc)
  in_only Holds (TermItem u) e i = InHolds u i
  in_only Holds _ e i = absurd (cc)
  in_only Not (FormulaItem p) e i = InDenied p i
  in_only Not _ e i = absurd (cc)
  in_only (Join o) (FormulasItem ps) e i = joined t o ps ps (λ p c. c) i
  in_only (Join o) _ e i = absurd (cc)
  in_only TypeVector (TypeItem a) e i = absurd i
  in_only TypeVector _ e i = absurd (cc)
  in_only TypeShared (TypeItem a) e i = absurd i
  in_only TypeShared _ e i = absurd (cc)
  in_only TypeMutable (TypeItem a) e i = absurd i
  in_only TypeMutable _ e i = absurd (cc)
  in_only TypeTuple (TypesItem a) e i = absurd i
  in_only TypeTuple _ e i = absurd (cc)
  in_only (ConsByte b) (BytesItem bs) e i = absurd i
  in_only (ConsByte b) _ e i = absurd (cc)

  in_first : (h : Two) (x y : Item) → sort_of x ≡ first_of_two h → sort_of y ≡ second_of_two h → IsInItem t x → IsInItem t (two_item h x y)
  in_first (Binary o) (TermItem u) (TermItem v) e f i = InTermPart (BinaryTerm o u v) u (first u (v ∷ [])) i
  in_first (Binary o) _ _ e f i = absurd (cc)
  in_first Pack (TypeItem a) y e f i = absurd i
  in_first Pack _ _ e f i = absurd (cc)
  in_first (Field k) (TypeItem a) y e f i = absurd i
  in_first (Field k) _ _ e f i = absurd (cc)
  in_first (Compare o) (TermItem u) (TermItem v) e f i = InLeft o u v i
  in_first (Compare o) _ _ e f i = absurd (cc)
  in_first Is (TypeItem a) y e f i = absurd i
  in_first Is _ _ e f i = absurd (cc)
  in_first (Connect o) (FormulaItem p) (FormulaItem q) e f i = InFirst o p q i
  in_first (Connect o) _ _ e f i = absurd (cc)
  in_first (Quantify o n) (TriggersItem ts) (FormulaItem p) e f i = (let s = some_trigger t ts i in InTrigger o n ts p s.trigger s.inside.term s.among s.inside.among s.inside.inside)
  in_first (Quantify o n) _ _ e f i = absurd (cc)
  in_first ConsTerm (TermItem u) (TermsItem us) e f i = inl i
  in_first ConsTerm _ _ e f i = absurd (cc)
  in_first ConsTrigger (TermsItem us) (TriggersItem ts) e f i = inl i
  in_first ConsTrigger _ _ e f i = absurd (cc)
  in_first ConsFormula (FormulaItem p) (FormulasItem ps) e f i = inl i
  in_first ConsFormula _ _ e f i = absurd (cc)
  in_first ConsType (TypeItem a) y e f i = absurd i
  in_first ConsType _ _ e f i = absurd (cc)

  in_second : (h : Two) (x y : Item) → sort_of x ≡ first_of_two h → sort_of y ≡ second_of_two h → IsInItem t y → IsInItem t (two_item h x y)
  in_second (Binary o) (TermItem u) (TermItem v) e f i = InTermPart (BinaryTerm o u v) v (later u v (v ∷ []) (first v [])) i
  in_second (Binary o) _ _ e f i = absurd (cc)
  in_second Pack (TypeItem a) (TermsItem us) e f i = (let s = some_term t us i in InTermPart (PackTerm a us) s.term s.among s.inside)
  in_second Pack _ _ e f i = absurd (cc)
  in_second (Field k) (TypeItem a) (TermItem v) e f i = InTermPart (FieldTerm a k v) v (first v []) i
  in_second (Field k) _ _ e f i = absurd (cc)
  in_second (Compare o) (TermItem u) (TermItem v) e f i = InRight o u v i
  in_second (Compare o) _ _ e f i = absurd (cc)
  in_second Is (TypeItem a) (TermItem v) e f i = InTyped a v i
  in_second Is _ _ e f i = absurd (cc)
  in_second (Connect o) (FormulaItem p) (FormulaItem q) e f i = InSecond o p q i
  in_second (Connect o) _ _ e f i = absurd (cc)
  in_second (Quantify o n) (TriggersItem ts) (FormulaItem p) e f i = InBody o n ts p i
  in_second (Quantify o n) _ _ e f i = absurd (cc)
  in_second ConsTerm (TermItem u) (TermsItem us) e f i = inr i
  in_second ConsTerm _ _ e f i = absurd (cc)
  in_second ConsTrigger (TermsItem us) (TriggersItem ts) e f i = inr i
  in_second ConsTrigger _ _ e f i = absurd (cc)
  in_second ConsFormula (FormulaItem p) (FormulasItem ps) e f i = inr i
  in_second ConsFormula _ _ e f i = absurd (cc)
  in_second ConsType (TypeItem a) (TypesItem ts) e f i = absurd i
  in_second ConsType _ _ e f i = absurd (cc)

  in_front : (h : Three) (x y z : Item) → sort_of x ≡ first_of_three h → sort_of y ≡ second_of_three h → sort_of z ≡ third_of_three h → IsInItem t x → IsInItem t (three_item h x y z)
  in_front (Ternary o) (TermItem u) (TermItem v) (TermItem w) e f g i = InTermPart (TernaryTerm o u v w) u (first u (v ∷ w ∷ [])) i
  in_front (Ternary o) _ _ _ e f g i = absurd (cc)
  in_front (SetField k) (TypeItem a) v w e f g i = absurd i
  in_front (SetField k) _ _ _ e f g i = absurd (cc)
  in_front If (FormulaItem p) (TermItem v) (TermItem w) e f g i = InCondition p v w i
  in_front If _ _ _ e f g i = absurd (cc)
  in_front (TypeStruct a) (BytesItem bs) v w e f g i = absurd i
  in_front (TypeStruct a) _ _ _ e f g i = absurd (cc)

  in_middle : (h : Three) (x y z : Item) → sort_of x ≡ first_of_three h → sort_of y ≡ second_of_three h → sort_of z ≡ third_of_three h → IsInItem t y → IsInItem t (three_item h x y z)
  in_middle (Ternary o) (TermItem u) (TermItem v) (TermItem w) e f g i = InTermPart (TernaryTerm o u v w) v (later u v (v ∷ w ∷ []) (first v (w ∷ []))) i
  in_middle (Ternary o) _ _ _ e f g i = absurd (cc)
  in_middle (SetField k) (TypeItem a) (TermItem v) (TermItem w) e f g i = InTermPart (SetFieldTerm a k v w) v (first v (w ∷ [])) i
  in_middle (SetField k) _ _ _ e f g i = absurd (cc)
  in_middle If (FormulaItem p) (TermItem v) (TermItem w) e f g i = InTermPart (IfTerm p v w) v (first v (w ∷ [])) i
  in_middle If _ _ _ e f g i = absurd (cc)
  in_middle (TypeStruct a) u (BytesItem bs) w e f g i = absurd i
  in_middle (TypeStruct a) _ _ _ e f g i = absurd (cc)

  in_last : (h : Three) (x y z : Item) → sort_of x ≡ first_of_three h → sort_of y ≡ second_of_three h → sort_of z ≡ third_of_three h → IsInItem t z → IsInItem t (three_item h x y z)
  in_last (Ternary o) (TermItem u) (TermItem v) (TermItem w) e f g i = InTermPart (TernaryTerm o u v w) w (later u w (v ∷ w ∷ []) (later v w (w ∷ []) (first w []))) i
  in_last (Ternary o) _ _ _ e f g i = absurd (cc)
  in_last (SetField k) (TypeItem a) (TermItem v) (TermItem w) e f g i = InTermPart (SetFieldTerm a k v w) w (later v w (w ∷ []) (first w [])) i
  in_last (SetField k) _ _ _ e f g i = absurd (cc)
  in_last If (FormulaItem p) (TermItem v) (TermItem w) e f g i = InTermPart (IfTerm p v w) w (later v w (w ∷ []) (first w [])) i
  in_last If _ _ _ e f g i = absurd (cc)
  in_last (TypeStruct a) u v (TypesItem ts) e f g i = absurd i
  in_last (TypeStruct a) _ _ _ e f g i = absurd (cc)

  in_frame : (pool : List Node) (f : Frame) → HasOthers pool f → (x : Item) → sort_of x ≡ open_sort f → IsInItem t x → IsInItem t (frame_item pool f x)
  in_frame pool (Only h) o x e i = in_only h x e i
  in_frame pool (FirstOfTwo h b) o x e i = in_first h x (item_at pool b) e o.sort i
  in_frame pool (SecondOfTwo h a) o x e i = in_second h (item_at pool a) x o.sort e i
  in_frame pool (FirstOfThree h b c) o x e i = in_front h x (item_at pool b) (item_at pool c) e o.0.sort o.1.sort i
  in_frame pool (SecondOfThree h a c) o x e i = in_middle h (item_at pool a) x (item_at pool c) o.0.sort e o.1.sort i
  in_frame pool (ThirdOfThree h a b) o x e i = in_last h (item_at pool a) (item_at pool b) x o.0.sort o.1.sort e i

pub stands_inside : (pool : List Node) (k whole : ℕ) → sort_of (item_at pool k) ≡ TermSort → StandsIn pool k whole → IsInItem (term_in (item_at pool k)) (item_at pool whole)
stands_inside pool k _ e Itself = subst (IsInItem (term_in (item_at pool k))) (a_term (item_at pool k) e) SameTerm
stands_inside pool k _ e (InPart whole part n m o s) =
    let f = framed pool whole part n m o in
    subst (IsInItem (term_in (item_at pool k))) (sym f.is) (in_frame (term_in (item_at pool k)) pool f.frame f.others (item_at pool part) f.sort (stands_inside pool k part e s))
