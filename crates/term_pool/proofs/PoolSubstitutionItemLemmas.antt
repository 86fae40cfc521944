-- Substitution in an item, head symbol by head symbol.
use Rattle.std.proofs.Common.{Result, Ok, Err, IfOk, ◌≡◌, inl, inr, ℕ, ◌<◌, Bool, true, false, cond, eqb, List, [], ◌∷◌, length, Option, Some, refl, sym, ap, ◌∙◌, subst, arith, length-append}
use Rattle.fol.specs.FormulaData.{TermData, TriggersData, FormulaData, QuantifyFormula}
use Rattle.fol.specs.declared.operators.Quantifier.{Quantifier}
use Rattle.term_pool.specs.Items.{Item, NoItem, TermItem, TermsItem, TriggersItem, FormulaItem, FormulasItem, TypeItem, TypesItem, BytesItem, Sort, sort_of, term_in, terms_in, triggers_in, formula_in, formulas_in, type_in, types_in, bytes_in, one_item, two_item, three_item, one_part, first_of_two, second_of_two, first_of_three, second_of_three, third_of_three}
use Rattle.term_pool.specs.Pools.{item_at, HasPart, HasParts, IsItem, IsMade, Extends}
use Rattle.term_pool.specs.declared.node.One.{One}
use Rattle.term_pool.specs.declared.node.One.TheVariants.{Unary, Holds, Not, Join, TypeVector, TypeShared, TypeMutable, TypeTuple, ConsByte}
use Rattle.term_pool.specs.declared.node.Two.{Two}
use Rattle.term_pool.specs.declared.node.Two.TheVariants.{Binary, Pack, Field, Compare, Is, Connect, Quantify, ConsTerm, ConsTrigger, ConsFormula, ConsType}
use Rattle.term_pool.specs.declared.node.Three.{Three}
use Rattle.term_pool.specs.declared.node.Three.TheVariants.{Ternary, SetField, If, TypeStruct}
use Rattle.term_pool.specs.declared.node.Node.{Node}
use Rattle.term_pool.specs.declared.node.Node.TheVariants.{One as OneNode, Two as TwoNode, Three as ThreeNode}
use Rattle.term_pool.proofs.ItemLemmas.{item_kept}
use Rattle.term_pool.proofs.GrowthLemmas.{item_stays, one_made, two_made, three_made}
use Rattle.term_pool.specs.Put.{put_in_term, put_in_terms, put_in_triggers, put_in, put_in_all, put_in_item}
use Rattle.term_pool.specs.Values.{with_put, AreValues, binds, IsOneOf, IsTurn, IsTurnAt}
use Rattle.base.specs.declared.memory.NoMemory.{NoMemory}
use Rattle.term_pool.specs.declared.pool_substitution.put.Put.{Put}
use Rattle.term_pool.specs.declared.pool_substitution.put.Turn.{Turn}
use Rattle.term_pool.specs.declared.pool_substitution.put.Turn.TheVariants.{Made, Lacks}

module _ (x : ℕ) (t : TermData) where
  -- ---- an item keeps its sort
  pub sort_put : (i : Item) → sort_of (put_in_item x t i) ≡ sort_of i
  sort_put NoItem = refl
  sort_put (TermItem a) = refl
  sort_put (TermsItem ts) = refl
  sort_put (TriggersItem ts) = refl
  sort_put (FormulaItem p) = refl
  sort_put (FormulasItem ps) = refl
  sort_put (TypeItem a) = refl
  sort_put (TypesItem ts) = refl
  sort_put (BytesItem bs) = refl

  term_of : (i : Item) → term_in (put_in_item x t i) ≡ put_in_term x t (term_in i)
  term_of NoItem = refl
  term_of (TermItem a) = refl
  term_of (TermsItem ts) = refl
  term_of (TriggersItem ts) = refl
  term_of (FormulaItem p) = refl
  term_of (FormulasItem ps) = refl
  term_of (TypeItem a) = refl
  term_of (TypesItem ts) = refl
  term_of (BytesItem bs) = refl

  terms_of : (i : Item) → terms_in (put_in_item x t i) ≡ put_in_terms x t (terms_in i)
  terms_of NoItem = refl
  terms_of (TermItem a) = refl
  terms_of (TermsItem ts) = refl
  terms_of (TriggersItem ts) = refl
  terms_of (FormulaItem p) = refl
  terms_of (FormulasItem ps) = refl
  terms_of (TypeItem a) = refl
  terms_of (TypesItem ts) = refl
  terms_of (BytesItem bs) = refl

  triggers_of : (i : Item) → triggers_in (put_in_item x t i) ≡ put_in_triggers x t (triggers_in i)
  triggers_of NoItem = refl
  triggers_of (TermItem a) = refl
  triggers_of (TermsItem ts) = refl
  triggers_of (TriggersItem ts) = refl
  triggers_of (FormulaItem p) = refl
  triggers_of (FormulasItem ps) = refl
  triggers_of (TypeItem a) = refl
  triggers_of (TypesItem ts) = refl
  triggers_of (BytesItem bs) = refl

  formula_of : (i : Item) → formula_in (put_in_item x t i) ≡ put_in x t (formula_in i)
  formula_of NoItem = refl
  formula_of (TermItem a) = refl
  formula_of (TermsItem ts) = refl
  formula_of (TriggersItem ts) = refl
  formula_of (FormulaItem p) = refl
  formula_of (FormulasItem ps) = refl
  formula_of (TypeItem a) = refl
  formula_of (TypesItem ts) = refl
  formula_of (BytesItem bs) = refl

  formulas_of : (i : Item) → formulas_in (put_in_item x t i) ≡ put_in_all x t (formulas_in i)
  formulas_of NoItem = refl
  formulas_of (TermItem a) = refl
  formulas_of (TermsItem ts) = refl
  formulas_of (TriggersItem ts) = refl
  formulas_of (FormulaItem p) = refl
  formulas_of (FormulasItem ps) = refl
  formulas_of (TypeItem a) = refl
  formulas_of (TypesItem ts) = refl
  formulas_of (BytesItem bs) = refl

  type_of : (i : Item) → type_in (put_in_item x t i) ≡ type_in i
  type_of NoItem = refl
  type_of (TermItem a) = refl
  type_of (TermsItem ts) = refl
  type_of (TriggersItem ts) = refl
  type_of (FormulaItem p) = refl
  type_of (FormulasItem ps) = refl
  type_of (TypeItem a) = refl
  type_of (TypesItem ts) = refl
  type_of (BytesItem bs) = refl

  types_of : (i : Item) → types_in (put_in_item x t i) ≡ types_in i
  types_of NoItem = refl
  types_of (TermItem a) = refl
  types_of (TermsItem ts) = refl
  types_of (TriggersItem ts) = refl
  types_of (FormulaItem p) = refl
  types_of (FormulasItem ps) = refl
  types_of (TypeItem a) = refl
  types_of (TypesItem ts) = refl
  types_of (BytesItem bs) = refl

  bytes_of : (i : Item) → bytes_in (put_in_item x t i) ≡ bytes_in i
  bytes_of NoItem = refl
  bytes_of (TermItem a) = refl
  bytes_of (TermsItem ts) = refl
  bytes_of (TriggersItem ts) = refl
  bytes_of (FormulaItem p) = refl
  bytes_of (FormulasItem ps) = refl
  bytes_of (TypeItem a) = refl
  bytes_of (TypesItem ts) = refl
  bytes_of (BytesItem bs) = refl

  -- ---- the item of a head symbol over parts with the term substituted
  pub one_put : (h : One) (i : Item) → one_item h (put_in_item x t i) ≡ put_in_item x t (one_item h i)
  one_put (Unary o) i = ap (λ a. one_item (Unary o) (TermItem a)) (term_of i)
  one_put Holds i = ap (λ a. one_item Holds (TermItem a)) (term_of i)
  one_put Not i = ap (λ a. one_item Not (FormulaItem a)) (formula_of i)
  one_put (Join o) i = ap (λ a. one_item (Join o) (FormulasItem a)) (formulas_of i)
  one_put TypeVector i = ap (λ a. one_item TypeVector (TypeItem a)) (type_of i)
  one_put TypeShared i = ap (λ a. one_item TypeShared (TypeItem a)) (type_of i)
  one_put TypeMutable i = ap (λ a. one_item TypeMutable (TypeItem a)) (type_of i)
  one_put TypeTuple i = ap (λ a. one_item TypeTuple (TypesItem a)) (types_of i)
  one_put (ConsByte b) i = ap (λ a. one_item (ConsByte b) (BytesItem a)) (bytes_of i)

  quantified : (o : Quantifier) (n : ℕ) (ts : TriggersData) (p : FormulaData) (b : Bool) → b ≡ false → FormulaItem (QuantifyFormula o n (put_in_triggers x t ts) (put_in x t p)) ≡ FormulaItem (cond b (QuantifyFormula o n ts p) (QuantifyFormula o n (put_in_triggers x t ts) (put_in x t p)))
  quantified o n ts p true e = absurd (cc)
  quantified o n ts p false e = refl

  pub two_put : (h : Two) (i j : Item) → binds h x ≡ false → two_item h (put_in_item x t i) (put_in_item x t j) ≡ put_in_item x t (two_item h i j)
  two_put (Binary o) i j e = λ k. two_item (Binary o) (TermItem (term_of i k)) (TermItem (term_of j k))
  two_put Pack i j e = λ k. two_item Pack (TypeItem (type_of i k)) (TermsItem (terms_of j k))
  two_put (Field n) i j e = λ k. two_item (Field n) (TypeItem (type_of i k)) (TermItem (term_of j k))
  two_put (Compare o) i j e = λ k. two_item (Compare o) (TermItem (term_of i k)) (TermItem (term_of j k))
  two_put Is i j e = λ k. two_item Is (TypeItem (type_of i k)) (TermItem (term_of j k))
  two_put (Connect o) i j e = λ k. two_item (Connect o) (FormulaItem (formula_of i k)) (FormulaItem (formula_of j k))
  two_put (Quantify o n) i j e =
      (λ k. two_item (Quantify o n) (TriggersItem (triggers_of i k)) (FormulaItem (formula_of j k))) ∙ quantified o n (triggers_in i) (formula_in j) (eqb n x) e
  two_put ConsTerm i j e = λ k. two_item ConsTerm (TermItem (term_of i k)) (TermsItem (terms_of j k))
  two_put ConsTrigger i j e = λ k. two_item ConsTrigger (TermsItem (terms_of i k)) (TriggersItem (triggers_of j k))
  two_put ConsFormula i j e = λ k. two_item ConsFormula (FormulaItem (formula_of i k)) (FormulasItem (formulas_of j k))
  two_put ConsType i j e = λ k. two_item ConsType (TypeItem (type_of i k)) (TypesItem (types_of j k))

  pub three_put : (h : Three) (i j k : Item) → three_item h (put_in_item x t i) (put_in_item x t j) (put_in_item x t k) ≡ put_in_item x t (three_item h i j k)
  three_put (Ternary o) i j k = λ l. three_item (Ternary o) (TermItem (term_of i l)) (TermItem (term_of j l)) (TermItem (term_of k l))
  three_put (SetField n) i j k = λ l. three_item (SetField n) (TypeItem (type_of i l)) (TermItem (term_of j l)) (TermItem (term_of k l))
  three_put If i j k = λ l. three_item If (FormulaItem (formula_of i l)) (TermItem (term_of j l)) (TermItem (term_of k l))
  three_put (TypeStruct n) i j k = λ l. three_item (TypeStruct n) (BytesItem (bytes_of i l)) (BytesItem (bytes_of j l)) (TypesItem (types_of k l))

  covered : (o : Quantifier) (n : ℕ) (ts : TriggersData) (p : FormulaData) (b : Bool) → b ≡ true → FormulaItem (QuantifyFormula o n ts p) ≡ FormulaItem (cond b (QuantifyFormula o n ts p) (QuantifyFormula o n (put_in_triggers x t ts) (put_in x t p)))
  covered o n ts p true e = refl
  covered o n ts p false e = absurd (cc)

  -- below a binder of the variable nothing changes
  pub bound_put : (h : Two) (i j : Item) → binds h x ≡ true → two_item h i j ≡ put_in_item x t (two_item h i j)
  bound_put (Quantify o n) i j e = covered o n (triggers_in i) (formula_in j) (eqb n x) e
  bound_put _ i j e = absurd (cc)

-- ---- by number

module _ (ns : List Node) (p : Put) (f : ℕ → Option ℕ) (values : AreValues ns p f) where
  value_is : (n m : ℕ) → f n ≡ Some m → item_at ns m ≡ with_put ns p (item_at ns n)
  value_is n m e = (values.each n m e).is.is

  value_part : (s : Sort) (n m : ℕ) → f n ≡ Some m → HasPart ns (length ns) n s → HasPart ns (length ns) m s
  value_part s n m e h = record {
    earlier = (values.each n m e).is.within;
    sort = ap sort_of (value_is n m e) ∙ sort_put p.variable (term_in (item_at ns p.term)) (item_at ns n) ∙ h.sort;
  }

  -- the requirements of a node whose parts have results
  pub one_value_parts : (h : One) (a m : ℕ) → f a ≡ Some m → HasParts ns (length ns) (OneNode h a) → HasParts ns (length ns) (OneNode h m)
  one_value_parts h a m e parts = value_part (one_part h) a m e parts

  pub two_value_parts : (h : Two) (a b m n : ℕ) → f a ≡ Some m → f b ≡ Some n → HasParts ns (length ns) (TwoNode h a b) → HasParts ns (length ns) (TwoNode h m n)
  two_value_parts h a b m n d e parts = (value_part (first_of_two h) a m d parts.0, value_part (second_of_two h) b n e parts.1)

  pub three_value_parts : (h : Three) (a b c m n o : ℕ) → f a ≡ Some m → f b ≡ Some n → f c ≡ Some o → HasParts ns (length ns) (ThreeNode h a b c) → HasParts ns (length ns) (ThreeNode h m n o)
  three_value_parts h a b c m n o d e g parts = (value_part (first_of_three h) a m d parts.0, value_part (second_of_three h) b n e parts.1, value_part (third_of_three h) c o g parts.2)

module _ (ns ms : List Node) (p : Put) (f : ℕ → Option ℕ) (grown : Extends ns ms) (values : AreValues ns p f) where
  put_stays : (i : Item) → with_put ms p i ≡ with_put ns p i
  put_stays i = ap (λ j. put_in_item p.variable (term_in j) i) (item_kept ns ms grown p.term values.term.earlier)

  pub values_stay : AreValues ms p f
  values_stay = record {
    term = record {
      earlier = (let l = ap length grown.is in omega (arith, l, length-append ns grown.more, values.term.earlier));
      sort = ap sort_of (item_kept ns ms grown p.term values.term.earlier) ∙ values.term.sort;
    };
    each = λ n m e. (let v = values.each n m e in record {
      within = (let l = ap length grown.is in omega (arith, l, length-append ns grown.more, v.within));
      is = (let stays = item_stays grown v.is in record { within = stays.within; is = stays.is ∙ sym (put_stays (item_at ns n)) ∙ ap (with_put ms p) (sym (item_kept ns ms grown n v.within)) });
    });
  }

  pub one_value : (h : One) (a m k : ℕ) → f a ≡ Some m → HasParts ns (length ns) (OneNode h a) → IsMade ms k (OneNode h m) → IsItem ms k (with_put ms p (one_item h (item_at ns a)))
  one_value h a m k e parts made =
      let made_item = one_made h grown (one_value_parts ns p f values h a m e parts) made in
      record { within = made_item.within; is = made_item.is ∙ ap (one_item h) (value_is ns p f values a m e) ∙ one_put p.variable (term_in (item_at ns p.term)) h (item_at ns a) ∙ sym (put_stays (one_item h (item_at ns a))) }

  pub two_value : (h : Two) (a b m n k : ℕ) → f a ≡ Some m → f b ≡ Some n → binds h p.variable ≡ false → HasParts ns (length ns) (TwoNode h a b) → IsMade ms k (TwoNode h m n) → IsItem ms k (with_put ms p (two_item h (item_at ns a) (item_at ns b)))
  two_value h a b m n k d e free parts made =
      let made_item = two_made h grown (two_value_parts ns p f values h a b m n d e parts) made in
      record { within = made_item.within; is = made_item.is ∙ (λ i. two_item h (value_is ns p f values a m d i) (value_is ns p f values b n e i)) ∙ two_put p.variable (term_in (item_at ns p.term)) h (item_at ns a) (item_at ns b) free ∙ sym (put_stays (two_item h (item_at ns a) (item_at ns b))) }

  pub three_value : (h : Three) (a b c m n o k : ℕ) → f a ≡ Some m → f b ≡ Some n → f c ≡ Some o → HasParts ns (length ns) (ThreeNode h a b c) → IsMade ms k (ThreeNode h m n o) → IsItem ms k (with_put ms p (three_item h (item_at ns a) (item_at ns b) (item_at ns c)))
  three_value h a b c m n o k d e g parts made =
      let made_item = three_made h grown (three_value_parts ns p f values h a b c m n o d e g parts) made in
      record { within = made_item.within; is = made_item.is ∙ (λ i. three_item h (value_is ns p f values a m d i) (value_is ns p f values b n e i) (value_is ns p f values c o g i)) ∙ three_put p.variable (term_in (item_at ns p.term)) h (item_at ns a) (item_at ns b) (item_at ns c) ∙ sym (put_stays (three_item h (item_at ns a) (item_at ns b) (item_at ns c))) }

-- a step for the item of a node is one for the node's number
pub turn_at : (ns ms : List Node) (p : Put) (f : ℕ → Option ℕ) → Extends ns ms → (n : ℕ) (parts : List ℕ) (x : Item) → n < length ns → item_at ns n ≡ x → ((k : ℕ) → IsOneOf k parts → k < n) → (r : Result Turn NoMemory) → IfOk r (IsTurn ms p f parts x) → IfOk r (IsTurnAt ms p f n)
turn_at ns ms p f grown n parts x w is below (Err e) h = h
turn_at ns ms p f grown n parts x w is below (Ok (Made m)) h = subst (λ j. IsItem ms m (with_put ms p j)) (sym (item_kept ns ms grown n w ∙ is)) h
turn_at ns ms p f grown n parts x w is below (Ok (Lacks k)) h = (below k h.0, h.1)

pub one_turn : (ns ms : List Node) (p : Put) (f : ℕ → Option ℕ) → Extends ns ms → (n : ℕ) (h : One) (a : ℕ) → n < length ns → IsMade ns n (OneNode h a) → (r : Result Turn NoMemory) → IfOk r (IsTurn ms p f (a ∷ []) (one_item h (item_at ns a))) → IfOk r (IsTurnAt ms p f n)
one_turn ns ms p f grown n h a w made r is =
    turn_at ns ms p f grown n (a ∷ []) (one_item h (item_at ns a)) w made.item
    (λ k o. elim o [ inl e ↦ omega (arith, e, made.parts.earlier) | inr e ↦ absurd e ]) r is

pub two_turn : (ns ms : List Node) (p : Put) (f : ℕ → Option ℕ) → Extends ns ms → (n : ℕ) (h : Two) (a b : ℕ) → n < length ns → IsMade ns n (TwoNode h a b) → (r : Result Turn NoMemory) → IfOk r (IsTurn ms p f (a ∷ b ∷ []) (two_item h (item_at ns a) (item_at ns b))) → IfOk r (IsTurnAt ms p f n)
two_turn ns ms p f grown n h a b w made r is =
    turn_at ns ms p f grown n (a ∷ b ∷ []) (two_item h (item_at ns a) (item_at ns b)) w made.item
    (λ k o. elim o [ inl e ↦ omega (arith, e, made.parts.0.earlier) | inr o ↦ elim o [ inl e ↦ omega (arith, e, made.parts.1.earlier) | inr e ↦ absurd e ] ]) r is

pub three_turn : (ns ms : List Node) (p : Put) (f : ℕ → Option ℕ) → Extends ns ms → (n : ℕ) (h : Three) (a b c : ℕ) → n < length ns → IsMade ns n (ThreeNode h a b c) → (r : Result Turn NoMemory) → IfOk r (IsTurn ms p f (a ∷ b ∷ c ∷ []) (three_item h (item_at ns a) (item_at ns b) (item_at ns c))) → IfOk r (IsTurnAt ms p f n)
three_turn ns ms p f grown n h a b c w made r is =
    turn_at ns ms p f grown n (a ∷ b ∷ c ∷ []) (three_item h (item_at ns a) (item_at ns b) (item_at ns c)) w made.item
    (λ k o. elim o [ inl e ↦ omega (arith, e, made.parts.0.earlier) | inr o ↦ elim o [ inl e ↦ omega (arith, e, made.parts.1.earlier) | inr o ↦ elim o [ inl e ↦ omega (arith, e, made.parts.2.earlier) | inr e ↦ absurd e ] ] ]) r is
