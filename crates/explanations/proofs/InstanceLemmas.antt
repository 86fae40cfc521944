-- A variable above all others marks a term in a pattern: the formula with the term is an instance of that with the
-- variable.
use Rattle.std.proofs.Common.{◌≡◌, inl, ℕ, suc, ◌<◌, ◌≤◌, max, Bool, true, false, cond, eqb, List, [], ◌∷◌, refl, sym, ap, ◌∙◌, subst, arith}
use Rattle.std.proofs.lemmas.Bool.{eqb-true, eq-eqb}
use Rattle.std.proofs.lemmas.List.Elements.{All-nil, All-head, All-tail}
use Rattle.base.specs.TypeData.{VectorType, StructType, SharedType, MutableType, TupleType, MoreTypes}
use Rattle.fol.specs.FormulaData.{TermData, VarTerm, ConstantTerm, UnaryTerm, BinaryTerm, TernaryTerm, PackTerm, FieldTerm, SetFieldTerm, IfTerm, TermsData, NoTerms, MoreTerms, TriggersData, NoTriggers, MoreTriggers, FormulaData, CompareFormula, IsFormula, HoldsFormula, NotFormula, JoinFormula, ConnectFormula, QuantifyFormula, FormulasData, NoFormulas, MoreFormulas, EqFormula}
use Rattle.substitution.specs.Free.{free_in_term}
use Rattle.substitution.specs.Instances.{Either, StandsFor, IsTermInstance, AreTermInstances, AreTriggerInstances, IsInstanceUnder, AreInstances}
use Rattle.certificates.specs.Rewriting.{IsReplaced, IsRewriting}
use Rattle.certificates.specs.Joined.{IsFreeOf}
use Rattle.certificates.specs.Names.{above_term, above_terms, above_triggers, above, above_formulas}
use Rattle.term_pool.specs.Items.{Item, NoItem, TermItem, TermsItem, TriggersItem, FormulaItem, FormulasItem, TypeItem, TypesItem, BytesItem, Sort, TermSort, TermsSort, TriggersSort, FormulaSort, FormulasSort, TypeSort, TypesSort, BytesSort, sort_of, term_in, terms_in, triggers_in, formula_in, formulas_in, type_in, types_in, bytes_in, one_item, two_item, three_item, one_part, first_of_two, second_of_two, first_of_three, second_of_three, third_of_three}
use Rattle.term_pool.specs.Pools.{item_at}
use Rattle.term_pool.specs.declared.node.One.{One}
use Rattle.term_pool.specs.declared.node.One.TheVariants.{Unary, Holds, Not, Join, TypeVector, TypeShared, TypeMutable, TypeTuple, ConsByte}
use Rattle.term_pool.specs.declared.node.Two.{Two}
use Rattle.term_pool.specs.declared.node.Two.TheVariants.{Binary, Pack, Field, Compare, Is, Connect, Quantify, ConsTerm, ConsTrigger, ConsFormula, ConsType}
use Rattle.term_pool.specs.declared.node.Three.{Three}
use Rattle.term_pool.specs.declared.node.Three.TheVariants.{Ternary, SetField, If, TypeStruct}
use Rattle.term_pool.specs.declared.node.Node.{Node}
use Rattle.term_pool.proofs.ShapeLemmas.{a_formula}
use Rattle.explanations.specs.declared.frame.Frame.{Frame}
use Rattle.explanations.specs.declared.frame.Frame.TheVariants.{Only, FirstOfTwo, SecondOfTwo, FirstOfThree, SecondOfThree, ThirdOfThree}
use Rattle.explanations.specs.Frames.{frame_item, filled, open_sort, HasOthers, Leads, IsWay, bound_in, bound_below, bound_after, bound_on}
use Rattle.explanations.proofs.FrameLemmas.{filled_sorted}
use Rattle.explanations.proofs.AboveLemmas.{above_item, above_head, above_others, frame_above}

-- binders that keep their numbers
abbrev same : List ℕ → List (ℕ × ℕ)
same [] = []
same (k ∷ ks) = (k, k) ∷ same ks

abbrev AreBelow : ℕ → List ℕ → Type 0
AreBelow x [] = Unit {0}
AreBelow x (k ∷ ks) = (k < x) × AreBelow x ks

-- ---- numbers of variables

either : (b : Bool) (P Q : Type 0) → (b ≡ true → P) → (b ≡ false → Q) → Either b P Q
either true P Q p q = p refl
either false P Q p q = q refl

differ : (m n : ℕ) → eqb m n ≡ false → eqb n m ≡ false
differ m n e = go (eqb n m) refl
  where
    go : (b : Bool) → eqb n m ≡ b → eqb n m ≡ false
    go true f = let both : true ≡ false = sym (eq-eqb m n (sym (eqb-true n m f))) ∙ e in absurd (cc)
    go false f = f

less_left : (m n v : ℕ) → max m n ≤ v → m ≤ v
less_left m n v h = omega arith

less_right : (m n v : ℕ) → max m n ≤ v → n ≤ v
less_right m n v h = omega arith

-- ---- an item without the variable is unchanged

module _ (x : ℕ) (t : TermData) where
  stands_itself : (ks : List ℕ) (n : ℕ) → n < x → StandsFor (same ks) x t n (VarTerm n)
  stands_itself [] n h = go (eqb n x) refl
    where
      go : (b : Bool) → eqb n x ≡ b → VarTerm n ≡ cond b t (VarTerm n)
      go true e = let same_number : n ≡ x = eqb-true n x e in absurd (omega arith)
      go false e = refl
  stands_itself (k ∷ ks) n h =
      either (eqb n k) (VarTerm n ≡ VarTerm k) ((free_in_term k (VarTerm n) ≡ false) × StandsFor (same ks) x t n (VarTerm n)) (λ e. ap VarTerm (eqb-true n k e))
      (λ e. (differ n k e, stands_itself ks n h))

  stands_here : (ks : List ℕ) → AreBelow x ks → IsFreeOf ks t → StandsFor (same ks) x t x t
  stands_here [] h f = go (eqb x x) refl
    where
      go : (b : Bool) → eqb x x ≡ b → t ≡ cond b t (VarTerm x)
      go true e = refl
      go false e = let both : true ≡ false = sym (eq-eqb x x refl) ∙ e in absurd (cc)
  stands_here (k ∷ ks) h f =
      either (eqb x k) (t ≡ VarTerm k) ((free_in_term k t ≡ false) × StandsFor (same ks) x t x t)
      (λ e. let same_number : x ≡ k = eqb-true x k e in let less : k < x = h.0 in absurd (omega arith))
      (λ e. (All-head (λ n. free_in_term n t ≡ false) k ks f, stands_here ks h.1 (All-tail (λ n. free_in_term n t ≡ false) k ks f)))

  mutual
    term_itself : (ks : List ℕ) (a : TermData) → above_term a ≤ x → IsTermInstance (same ks) x t a a
    term_itself ks (VarTerm n) h = stands_itself ks n (omega arith)
    term_itself ks (ConstantTerm c) h = refl
    term_itself ks (UnaryTerm o a) h = (refl, term_itself ks a h)
    term_itself ks (BinaryTerm o a b) h = (refl, term_itself ks a (less_left (above_term a) (above_term b) x h), term_itself ks b (less_right (above_term a) (above_term b) x h))
    term_itself ks (TernaryTerm o a b c) h = (refl, term_itself ks a (less_left (above_term a) (max (above_term b) (above_term c)) x h), term_itself ks b (less_left (above_term b) (above_term c) x (less_right (above_term a) (max (above_term b) (above_term c)) x h)), term_itself ks c (less_right (above_term b) (above_term c) x (less_right (above_term a) (max (above_term b) (above_term c)) x h)))
    term_itself ks (PackTerm s ts) h = (refl, terms_itself ks ts h)
    term_itself ks (FieldTerm s k a) h = (refl, refl, term_itself ks a h)
    term_itself ks (SetFieldTerm s k a b) h = (refl, refl, term_itself ks a (less_left (above_term a) (above_term b) x h), term_itself ks b (less_right (above_term a) (above_term b) x h))
    term_itself ks (IfTerm p a b) h = (formula_itself ks p (less_left (above p) (max (above_term a) (above_term b)) x h), term_itself ks a (less_left (above_term a) (above_term b) x (less_right (above p) (max (above_term a) (above_term b)) x h)), term_itself ks b (less_right (above_term a) (above_term b) x (less_right (above p) (max (above_term a) (above_term b)) x h)))

    terms_itself : (ks : List ℕ) (as' : TermsData) → above_terms as' ≤ x → AreTermInstances (same ks) x t as' as'
    terms_itself ks NoTerms h = tt
    terms_itself ks (MoreTerms a as') h = (term_itself ks a (less_left (above_term a) (above_terms as') x h), terms_itself ks as' (less_right (above_term a) (above_terms as') x h))

    triggers_itself : (ks : List ℕ) (as' : TriggersData) → above_triggers as' ≤ x → AreTriggerInstances (same ks) x t as' as'
    triggers_itself ks NoTriggers h = tt
    triggers_itself ks (MoreTriggers a as') h = (terms_itself ks a (less_left (above_terms a) (above_triggers as') x h), triggers_itself ks as' (less_right (above_terms a) (above_triggers as') x h))

    formula_itself : (ks : List ℕ) (p : FormulaData) → above p ≤ x → IsInstanceUnder (same ks) x t p p
    formula_itself ks (CompareFormula o a b) h = (refl, term_itself ks a (less_left (above_term a) (above_term b) x h), term_itself ks b (less_right (above_term a) (above_term b) x h))
    formula_itself ks (IsFormula s a) h = (refl, term_itself ks a h)
    formula_itself ks (HoldsFormula a) h = term_itself ks a h
    formula_itself ks (NotFormula p) h = formula_itself ks p h
    formula_itself ks (JoinFormula o ps) h = (refl, formulas_itself ks ps h)
    formula_itself ks (ConnectFormula o p q) h = (refl, formula_itself ks p (less_left (above p) (above q) x h), formula_itself ks q (less_right (above p) (above q) x h))
    formula_itself ks (QuantifyFormula o n ts p) h = (refl, triggers_itself (n ∷ ks) ts (less_left (above_triggers ts) (above p) x (less_right (suc n) (max (above_triggers ts) (above p)) x h)), formula_itself (n ∷ ks) p (less_right (above_triggers ts) (above p) x (less_right (suc n) (max (above_triggers ts) (above p)) x h)))

    formulas_itself : (ks : List ℕ) (ps : FormulasData) → above_formulas ps ≤ x → AreInstances (same ks) x t ps ps
    formulas_itself ks NoFormulas h = tt
    formulas_itself ks (MoreFormulas p ps) h = (formula_itself ks p (less_left (above p) (above_formulas ps) x h), formulas_itself ks ps (less_right (above p) (above_formulas ps) x h))

  -- ---- items

  abbrev IsItemInstance : List (ℕ × ℕ) → Item → Item → Type 0
  IsItemInstance bs NoItem NoItem = Unit {0}
  IsItemInstance bs (TermItem a) (TermItem c) = IsTermInstance bs x t a c
  IsItemInstance bs (TermsItem as') (TermsItem cs) = AreTermInstances bs x t as' cs
  IsItemInstance bs (TriggersItem as') (TriggersItem cs) = AreTriggerInstances bs x t as' cs
  IsItemInstance bs (FormulaItem p) (FormulaItem q) = IsInstanceUnder bs x t p q
  IsItemInstance bs (FormulasItem ps) (FormulasItem qs) = AreInstances bs x t ps qs
  IsItemInstance bs (TypeItem a) (TypeItem c) = a ≡ c
  IsItemInstance bs (TypesItem as') (TypesItem cs) = as' ≡ cs
  IsItemInstance bs (BytesItem as') (BytesItem cs) = as' ≡ cs
  IsItemInstance bs _ _ = ⊥

  item_itself : (ks : List ℕ) (y : Item) → above_item y ≤ x → IsItemInstance (same ks) y y
  item_itself ks NoItem h = tt
  item_itself ks (TermItem a) h = term_itself ks a h
  item_itself ks (TermsItem as') h = terms_itself ks as' h
  item_itself ks (TriggersItem as') h = triggers_itself ks as' h
  item_itself ks (FormulaItem p) h = formula_itself ks p h
  item_itself ks (FormulasItem ps) h = formulas_itself ks ps h
  item_itself ks (TypeItem a) h = refl
  item_itself ks (TypesItem as') h = refl
  item_itself ks (BytesItem as') h = refl

  as_term : (bs : List (ℕ × ℕ)) (y z : Item) → sort_of y ≡ TermSort → IsItemInstance bs y z → IsTermInstance bs x t (term_in y) (term_in z)
  as_term bs (TermItem a) (TermItem c) e h = h
  as_term bs (TermItem a) _ e h = absurd h
  as_term bs _ z e h = absurd (cc)

  as_terms : (bs : List (ℕ × ℕ)) (y z : Item) → sort_of y ≡ TermsSort → IsItemInstance bs y z → AreTermInstances bs x t (terms_in y) (terms_in z)
  as_terms bs (TermsItem a) (TermsItem c) e h = h
  as_terms bs (TermsItem a) _ e h = absurd h
  as_terms bs _ z e h = absurd (cc)

  as_triggers : (bs : List (ℕ × ℕ)) (y z : Item) → sort_of y ≡ TriggersSort → IsItemInstance bs y z → AreTriggerInstances bs x t (triggers_in y) (triggers_in z)
  as_triggers bs (TriggersItem a) (TriggersItem c) e h = h
  as_triggers bs (TriggersItem a) _ e h = absurd h
  as_triggers bs _ z e h = absurd (cc)

  as_formula : (bs : List (ℕ × ℕ)) (y z : Item) → sort_of y ≡ FormulaSort → IsItemInstance bs y z → IsInstanceUnder bs x t (formula_in y) (formula_in z)
  as_formula bs (FormulaItem a) (FormulaItem c) e h = h
  as_formula bs (FormulaItem a) _ e h = absurd h
  as_formula bs _ z e h = absurd (cc)

  as_formulas : (bs : List (ℕ × ℕ)) (y z : Item) → sort_of y ≡ FormulasSort → IsItemInstance bs y z → AreInstances bs x t (formulas_in y) (formulas_in z)
  as_formulas bs (FormulasItem a) (FormulasItem c) e h = h
  as_formulas bs (FormulasItem a) _ e h = absurd h
  as_formulas bs _ z e h = absurd (cc)

  as_type : (bs : List (ℕ × ℕ)) (y z : Item) → sort_of y ≡ TypeSort → IsItemInstance bs y z → type_in y ≡ type_in z
  as_type bs (TypeItem a) (TypeItem c) e h = h
  as_type bs (TypeItem a) _ e h = absurd h
  as_type bs _ z e h = absurd (cc)

  as_types : (bs : List (ℕ × ℕ)) (y z : Item) → sort_of y ≡ TypesSort → IsItemInstance bs y z → types_in y ≡ types_in z
  as_types bs (TypesItem a) (TypesItem c) e h = h
  as_types bs (TypesItem a) _ e h = absurd h
  as_types bs _ z e h = absurd (cc)

  as_bytes : (bs : List (ℕ × ℕ)) (y z : Item) → sort_of y ≡ BytesSort → IsItemInstance bs y z → bytes_in y ≡ bytes_in z
  as_bytes bs (BytesItem a) (BytesItem c) e h = h
  as_bytes bs (BytesItem a) _ e h = absurd h
  as_bytes bs _ z e h = absurd (cc)

  -- ---- head symbols

  one_instance : (bs : List (ℕ × ℕ)) (h : One) (y z : Item) → sort_of y ≡ one_part h → IsItemInstance bs y z → IsItemInstance bs (one_item h y) (one_item h z)
  one_instance bs (Unary o) y z e i = (refl, as_term bs y z e i)
  one_instance bs Holds y z e i = as_term bs y z e i
  one_instance bs Not y z e i = as_formula bs y z e i
  one_instance bs (Join o) y z e i = (refl, as_formulas bs y z e i)
  one_instance bs TypeVector y z e i = ap VectorType (as_type bs y z e i)
  one_instance bs TypeShared y z e i = ap SharedType (as_type bs y z e i)
  one_instance bs TypeMutable y z e i = ap MutableType (as_type bs y z e i)
  one_instance bs TypeTuple y z e i = ap TupleType (as_types bs y z e i)
  one_instance bs (ConsByte k) y z e i = ap (λ bs. k ∷ bs) (as_bytes bs y z e i)

  two_instance : (ks : List ℕ) (h : Two) (y z v w : Item) → sort_of y ≡ first_of_two h → sort_of z ≡ second_of_two h → IsItemInstance (same (bound_in h ks)) y v → IsItemInstance (same (bound_in h ks)) z w → IsItemInstance (same ks) (two_item h y z) (two_item h v w)
  two_instance ks (Binary o) y z v w e f i j = (refl, as_term (same ks) y v e i, as_term (same ks) z w f j)
  two_instance ks Pack y z v w e f i j = (as_type (same ks) y v e i, as_terms (same ks) z w f j)
  two_instance ks (Field k) y z v w e f i j = (refl, as_type (same ks) y v e i, as_term (same ks) z w f j)
  two_instance ks (Compare o) y z v w e f i j = (refl, as_term (same ks) y v e i, as_term (same ks) z w f j)
  two_instance ks Is y z v w e f i j = (as_type (same ks) y v e i, as_term (same ks) z w f j)
  two_instance ks (Connect o) y z v w e f i j = (refl, as_formula (same ks) y v e i, as_formula (same ks) z w f j)
  two_instance ks (Quantify o n) y z v w e f i j = (refl, as_triggers (same (n ∷ ks)) y v e i, as_formula (same (n ∷ ks)) z w f j)
  two_instance ks ConsTerm y z v w e f i j = (as_term (same ks) y v e i, as_terms (same ks) z w f j)
  two_instance ks ConsTrigger y z v w e f i j = (as_terms (same ks) y v e i, as_triggers (same ks) z w f j)
  two_instance ks ConsFormula y z v w e f i j = (as_formula (same ks) y v e i, as_formulas (same ks) z w f j)
  two_instance ks ConsType y z v w e f i j = λ k. MoreTypes (as_type (same ks) y v e i k) (as_types (same ks) z w f j k)

  three_instance : (bs : List (ℕ × ℕ)) (h : Three) (y z a v w c : Item) → sort_of y ≡ first_of_three h → sort_of z ≡ second_of_three h → sort_of a ≡ third_of_three h → IsItemInstance bs y v → IsItemInstance bs z w → IsItemInstance bs a c → IsItemInstance bs (three_item h y z a) (three_item h v w c)
  three_instance bs (Ternary o) y z a v w c e f g i j k = (refl, as_term bs y v e i, as_term bs z w f j, as_term bs a c g k)
  three_instance bs (SetField n) y z a v w c e f g i j k = (refl, as_type bs y v e i, as_term bs z w f j, as_term bs a c g k)
  three_instance bs If y z a v w c e f g i j k = (as_formula bs y v e i, as_term bs z w f j, as_term bs a c g k)
  three_instance bs (TypeStruct m) y z a v w c e f g i j k =
      λ l. StructType (record { address = m; «module» = as_bytes bs y v e i l; name = as_bytes bs z w f j l }) (as_types bs a c g k l)

  -- ---- head symbols with a hole

  frame_instance : (ns : List Node) (ks : List ℕ) (f : Frame) → HasOthers ns f → above_others ns f ≤ x → (y z : Item) → sort_of y ≡ open_sort f → IsItemInstance (same (bound_below f ks)) y z → IsItemInstance (same ks) (frame_item ns f y) (frame_item ns f z)
  frame_instance ns ks (Only h) p l y z e i = one_instance (same ks) h y z e i
  frame_instance ns ks (FirstOfTwo h b) p l y z e i =
      two_instance ks h y (item_at ns b) z (item_at ns b) e p.sort i (item_itself (bound_in h ks) (item_at ns b) (less_right (above_head h) (above_item (item_at ns b)) x l))
  frame_instance ns ks (SecondOfTwo h a) p l y z e i =
      two_instance ks h (item_at ns a) y (item_at ns a) z p.sort e (item_itself (bound_in h ks) (item_at ns a) (less_right (above_head h) (above_item (item_at ns a)) x l)) i
  frame_instance ns ks (FirstOfThree h b c) p l y z e i =
      three_instance (same ks) h y (item_at ns b) (item_at ns c) z (item_at ns b) (item_at ns c) e p.0.sort p.1.sort i (item_itself ks (item_at ns b) (less_left (above_item (item_at ns b)) (above_item (item_at ns c)) x l)) (item_itself ks (item_at ns c) (less_right (above_item (item_at ns b)) (above_item (item_at ns c)) x l))
  frame_instance ns ks (SecondOfThree h a c) p l y z e i =
      three_instance (same ks) h (item_at ns a) y (item_at ns c) (item_at ns a) z (item_at ns c) p.0.sort e p.1.sort (item_itself ks (item_at ns a) (less_left (above_item (item_at ns a)) (above_item (item_at ns c)) x l)) i (item_itself ks (item_at ns c) (less_right (above_item (item_at ns a)) (above_item (item_at ns c)) x l))
  frame_instance ns ks (ThirdOfThree h a b) p l y z e i =
      three_instance (same ks) h (item_at ns a) (item_at ns b) y (item_at ns a) (item_at ns b) z p.0.sort p.1.sort e (item_itself ks (item_at ns a) (less_left (above_item (item_at ns a)) (above_item (item_at ns b)) x l)) (item_itself ks (item_at ns b) (less_right (above_item (item_at ns a)) (above_item (item_at ns b)) x l)) i

  head_below : (h : Two) (ks : List ℕ) → above_head h ≤ x → AreBelow x ks → AreBelow x (bound_in h ks)
  head_below (Quantify o n) ks l b = (omega arith, b)
  head_below h ks l b = b

  frame_below : (ns : List Node) (f : Frame) (ks : List ℕ) → above_others ns f ≤ x → AreBelow x ks → AreBelow x (bound_below f ks)
  frame_below ns (FirstOfTwo h c) ks l b = head_below h ks (less_left (above_head h) (above_item (item_at ns c)) x l) b
  frame_below ns (SecondOfTwo h a) ks l b = head_below h ks (less_left (above_head h) (above_item (item_at ns a)) x l) b
  frame_below ns f ks l b = b

  -- ---- the whole context, with the variable in its hole

  way_instance : (ns : List Node) (ks : List ℕ) (top : Sort) (fs : List Frame) → Leads ns top fs TermSort → (w : TermData) → above_item (filled ns fs (TermItem w)) ≤ x → AreBelow x ks → IsFreeOf (bound_after ks fs) t → IsItemInstance (same ks) (filled ns fs (TermItem (VarTerm x))) (filled ns fs (TermItem t))
  way_instance ns ks top [] l w a b f = stands_here ks b f
  way_instance ns ks top (g ∷ fs) l w a b f =
      let inner : Item = filled ns fs (TermItem w) in
      let here : above_item (frame_item ns g inner) ≡ max (above_others ns g) (above_item inner) = frame_above ns g l.1 inner (filled_sorted ns (open_sort g) TermSort fs l.2 (TermItem w) refl) in
      let others : above_others ns g ≤ x = less_left (above_others ns g) (above_item inner) x (subst (λ n. n ≤ x) here a) in
      let rest : above_item inner ≤ x = less_right (above_others ns g) (above_item inner) x (subst (λ n. n ≤ x) here a) in
      frame_instance ns ks g l.1 others (filled ns fs (TermItem (VarTerm x))) (filled ns fs (TermItem t)) (filled_sorted ns (open_sort g) TermSort fs l.2 (TermItem (VarTerm x)) refl)
      (way_instance ns (bound_below g ks) (open_sort g) fs l.2 w rest (frame_below ns g ks others b) f)

-- ---- the laws

pub above_formula : (y : Item) → sort_of y ≡ FormulaSort → above_item y ≡ above (formula_in y)
above_formula y e = sym (ap above_item (a_formula y e))

pub replaced : (ns : List Node) (way : List Frame) (x : ℕ) (t u : TermData) → IsWay ns way TermSort → above (formula_in (filled ns way (TermItem t))) ≤ x → IsFreeOf (bound_on way) t → IsFreeOf (bound_on way) u → IsReplaced x (formula_in (filled ns way (TermItem (VarTerm x)))) t u (formula_in (filled ns way (TermItem t))) (formula_in (filled ns way (TermItem u)))
replaced ns way x t u l a f g =
    let a_formula_sort : (v : TermData) → sort_of (filled ns way (TermItem v)) ≡ FormulaSort = λ v. filled_sorted ns FormulaSort TermSort way l.leads (TermItem v) refl in
    let below : above_item (filled ns way (TermItem t)) ≤ x = subst (λ n. n ≤ x) (sym (above_formula (filled ns way (TermItem t)) (a_formula_sort t))) a in (
      as_formula x t [] (filled ns way (TermItem (VarTerm x))) (filled ns way (TermItem t)) (a_formula_sort (VarTerm x)) (way_instance x t ns [] FormulaSort way l.leads t below tt f),
      as_formula x u [] (filled ns way (TermItem (VarTerm x))) (filled ns way (TermItem u)) (a_formula_sort (VarTerm x)) (way_instance x u ns [] FormulaSort way l.leads t below tt g),
    )

no_binders : (t : TermData) → IsFreeOf [] t
no_binders t = All-nil (λ n. free_in_term n t ≡ false)

pub chained : (x : ℕ) (t u v : TermData) → above (EqFormula t u) ≤ x → IsRewriting x (EqFormula t (VarTerm x)) (EqFormula u v) (EqFormula t u) (EqFormula t v)
chained x t u v a =
    let left : above_term t ≤ x = less_left (above_term t) (above_term u) x a in
    inl ((refl, term_itself x u [] t left, stands_here x u [] tt (no_binders u)), (refl, term_itself x v [] t left, stands_here x v [] tt (no_binders v)))

pub turned : (x : ℕ) (t u : TermData) → above (EqFormula t t) ≤ x → IsRewriting x (EqFormula (VarTerm x) t) (EqFormula t u) (EqFormula t t) (EqFormula u t)
turned x t u a =
    let right : above_term t ≤ x = less_right (above_term t) (above_term t) x a in
    inl ((refl, stands_here x t [] tt (no_binders t), term_itself x t [] t right), (refl, stands_here x u [] tt (no_binders u), term_itself x u [] t right))
