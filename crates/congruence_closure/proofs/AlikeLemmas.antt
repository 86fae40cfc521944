-- Trees that are equal up to classes of closed terms: the items that they represent are so too, and the relation is an
-- equivalence.
use Rattle.std.proofs.Common.{◌≡◌, ℕ, List, [], ◌∷◌, true, false, not, refl, sym, ap, ◌∙◌, subst}
use Rattle.std.specs.Prelude.{◌&&◌, ◌||◌, ◌==◌, All}
use Rattle.base.specs.TypeData.{VectorType, StructType, SharedType, MutableType, TupleType, MoreTypes}
use Rattle.fol.specs.FormulaData.{TermData, VarTerm, ConstantTerm, UnaryTerm, BinaryTerm, TernaryTerm, PackTerm, FieldTerm, SetFieldTerm, IfTerm, TermsData, IsFormula, list_of_terms, terms_of-list_of_terms}
use Rattle.term_pool.specs.declared.node.Leaf.{Leaf}
use Rattle.term_pool.specs.declared.node.Leaf.TheVariants.{Var, Constant, TypeBool, TypeInt, TypeNum, TypeAddress, TypeSigner, TypeParam, NilTerms, NilTriggers, NilFormulas, NilTypes, NilBytes}
use Rattle.term_pool.specs.declared.node.One.{One}
use Rattle.term_pool.specs.declared.node.One.TheVariants.{Unary, Holds, Not, Join, TypeVector, TypeShared, TypeMutable, TypeTuple, ConsByte}
use Rattle.term_pool.specs.declared.node.Two.{Two}
use Rattle.term_pool.specs.declared.node.Two.TheVariants.{Binary, Pack, Field, Compare, Is, Connect, Quantify, ConsTerm, ConsTrigger, ConsFormula, ConsType}
use Rattle.term_pool.specs.declared.node.Three.{Three}
use Rattle.term_pool.specs.declared.node.Three.TheVariants.{Ternary, SetField, If, TypeStruct}
use Rattle.term_pool.specs.Items.{Item, NoItem, TermItem, TermsItem, TriggersItem, FormulaItem, FormulasItem, TypeItem, TypesItem, BytesItem, TermSort, TermsSort, TriggersSort, FormulaSort, FormulasSort, TypeSort, TypesSort, BytesSort, sort_of, term_in, terms_in, triggers_in, formula_in, formulas_in, type_in, types_in, bytes_in, leaf_item, one_item, two_item, three_item, one_part, first_of_two, second_of_two, first_of_three, second_of_three, third_of_three}
use Rattle.congruence_closure.specs.Trees.{plain_term, Tree, BoundTree, LeafTree, OneTree, TwoTree, ThreeTree, among, under, tree_of}
use Rattle.std.proofs.lemmas.List.Elements.{All-nil, All-cons}
use Rattle.std.proofs.lemmas.Bool.{or_left, or_right}
use Rattle.substitution.specs.Free.{free_in_term}
use Rattle.certificates.specs.BranchesBranch.{Branch}
use Rattle.certificates.specs.BranchesParts.{parts_of_term}
use Rattle.certificates.specs.Joined.{IsFreeOf, Joined, ByParts, ByCondition, Turned, Chained, AreJoined, NoneJoined, MoreJoined, IsAlikeTerm, OfOneClass, OfOneHead, OfOneChoice, AreAlikeTerms, NoneAlike, MoreAlike, IsAlike, Compared, Typed, Holding, Denying, Joining, Connecting, Quantifying, AreAlike, NoFormulasAlike, MoreFormulasAlike, AreAlikeLists, NoTermsAlike, MoreTermsAlike, AreAlikeTriggers, NoTriggersAlike, MoreTriggersAlike}
use Rattle.congruence_closure.proofs.ReadLemmas.{read, IsSorted, read_term, sorted_item}
use Rattle.congruence_closure.proofs.TreeLemmas.{Fits, has_bound, bound_renamed, binds, free_term, fits_renamed, fits_less, free_of_fitting, none_among, itself, clash}
use Rattle.congruence_closure.proofs.ItemLemmas.{unrenamed}

-- ---- lists of variables

pub all_from : (P : ℕ → Type 0) (bound : List ℕ) → ((n : ℕ) → among n bound ≡ true → P n) → All P bound
all_from P [] h = All-nil P
all_from P (k ∷ bound) h = All-cons P k bound (h k (or_left (k == k) (among k bound) (itself k))) (all_from P bound (λ n e. h n (or_right (n == k) (among n bound) e)))

-- ---- terms that are alike under no quantifier

module _ (b : Branch) where
  mutual
    pub joined_alike : (t u : TermData) → IsAlikeTerm b [] t u → Joined b t u
    joined_alike _ _ (OfOneClass _ t u _ _ j) = j
    joined_alike _ _ (OfOneHead _ t u e hs) = ByParts t u e (all_joined (parts_of_term t) (parts_of_term u) hs)
    joined_alike _ _ (OfOneChoice _ p q t u v w hp ht hu) =
        Chained (IfTerm p t u) (IfTerm q t u) (IfTerm q v w) (ByCondition p q t u hp) (ByParts (IfTerm q t u) (IfTerm q v w) refl (MoreJoined t v (u ∷ []) (w ∷ []) (joined_alike t v ht) (MoreJoined u w [] [] (joined_alike u w hu) NoneJoined)))

    all_joined : (ts us : List TermData) → AreAlikeTerms b [] ts us → AreJoined b ts us
    all_joined _ _ (NoneAlike _) = NoneJoined
    all_joined _ _ (MoreAlike _ t u ts us h hs) = MoreJoined t u ts us (joined_alike t u h) (all_joined ts us hs)

  -- ---- items that are alike

  abbrev pub AreItemsAlike : List ℕ → Item → Item → Type 0
  AreItemsAlike bound NoItem NoItem = Unit {0}
  AreItemsAlike bound (TermItem t) (TermItem u) = IsAlikeTerm b bound t u
  AreItemsAlike bound (TermsItem ts) (TermsItem us) = AreAlikeLists b bound ts us
  AreItemsAlike bound (TriggersItem ts) (TriggersItem us) = AreAlikeTriggers b bound ts us
  AreItemsAlike bound (FormulaItem p) (FormulaItem q) = IsAlike b bound p q
  AreItemsAlike bound (FormulasItem ps) (FormulasItem qs) = AreAlike b bound ps qs
  AreItemsAlike bound (TypeItem a) (TypeItem c) = a ≡ c
  AreItemsAlike bound (TypesItem ts) (TypesItem us) = ts ≡ us
  AreItemsAlike bound (BytesItem bs) (BytesItem cs) = bs ≡ cs
  AreItemsAlike bound _ _ = ⊥

  as_term : (bound : List ℕ) (x y : Item) → sort_of x ≡ TermSort → AreItemsAlike bound x y → IsAlikeTerm b bound (term_in x) (term_in y)
  as_term bound (TermItem t) (TermItem u) e h = h
  as_term bound (TermItem t) _ e h = absurd h
  as_term bound _ y e h = absurd (cc)

  as_terms : (bound : List ℕ) (x y : Item) → sort_of x ≡ TermsSort → AreItemsAlike bound x y → AreAlikeLists b bound (terms_in x) (terms_in y)
  as_terms bound (TermsItem t) (TermsItem u) e h = h
  as_terms bound (TermsItem t) _ e h = absurd h
  as_terms bound _ y e h = absurd (cc)

  as_triggers : (bound : List ℕ) (x y : Item) → sort_of x ≡ TriggersSort → AreItemsAlike bound x y → AreAlikeTriggers b bound (triggers_in x) (triggers_in y)
  as_triggers bound (TriggersItem t) (TriggersItem u) e h = h
  as_triggers bound (TriggersItem t) _ e h = absurd h
  as_triggers bound _ y e h = absurd (cc)

  as_formula : (bound : List ℕ) (x y : Item) → sort_of x ≡ FormulaSort → AreItemsAlike bound x y → IsAlike b bound (formula_in x) (formula_in y)
  as_formula bound (FormulaItem t) (FormulaItem u) e h = h
  as_formula bound (FormulaItem t) _ e h = absurd h
  as_formula bound _ y e h = absurd (cc)

  as_formulas : (bound : List ℕ) (x y : Item) → sort_of x ≡ FormulasSort → AreItemsAlike bound x y → AreAlike b bound (formulas_in x) (formulas_in y)
  as_formulas bound (FormulasItem t) (FormulasItem u) e h = h
  as_formulas bound (FormulasItem t) _ e h = absurd h
  as_formulas bound _ y e h = absurd (cc)

  as_type : (bound : List ℕ) (x y : Item) → sort_of x ≡ TypeSort → AreItemsAlike bound x y → type_in x ≡ type_in y
  as_type bound (TypeItem t) (TypeItem u) e h = h
  as_type bound (TypeItem t) _ e h = absurd h
  as_type bound _ y e h = absurd (cc)

  as_types : (bound : List ℕ) (x y : Item) → sort_of x ≡ TypesSort → AreItemsAlike bound x y → types_in x ≡ types_in y
  as_types bound (TypesItem t) (TypesItem u) e h = h
  as_types bound (TypesItem t) _ e h = absurd h
  as_types bound _ y e h = absurd (cc)

  as_bytes : (bound : List ℕ) (x y : Item) → sort_of x ≡ BytesSort → AreItemsAlike bound x y → bytes_in x ≡ bytes_in y
  as_bytes bound (BytesItem t) (BytesItem u) e h = h
  as_bytes bound (BytesItem t) _ e h = absurd h
  as_bytes bound _ y e h = absurd (cc)

  leaf_alike : (bound : List ℕ) (h : Leaf) → AreItemsAlike bound (leaf_item h) (leaf_item h)
  leaf_alike bound (Var n) = OfOneHead bound (VarTerm n) (VarTerm n) refl (NoneAlike bound)
  leaf_alike bound (Constant c) = OfOneHead bound (ConstantTerm c) (ConstantTerm c) refl (NoneAlike bound)
  leaf_alike bound NilTerms = NoTermsAlike bound
  leaf_alike bound NilTriggers = NoTriggersAlike bound
  leaf_alike bound NilFormulas = NoFormulasAlike bound
  leaf_alike bound TypeBool = refl
  leaf_alike bound (TypeInt w) = refl
  leaf_alike bound TypeNum = refl
  leaf_alike bound TypeAddress = refl
  leaf_alike bound TypeSigner = refl
  leaf_alike bound (TypeParam n) = refl
  leaf_alike bound NilTypes = refl
  leaf_alike bound NilBytes = refl

  one_alike : (bound : List ℕ) (h : One) (x y : Item) → sort_of x ≡ one_part h → AreItemsAlike bound x y → AreItemsAlike bound (one_item h x) (one_item h y)
  one_alike bound (Unary o) x y e a = OfOneHead bound (UnaryTerm o (term_in x)) (UnaryTerm o (term_in y)) refl (MoreAlike bound (term_in x) (term_in y) [] [] (as_term bound x y e a) (NoneAlike bound))
  one_alike bound Holds x y e a = Holding bound (term_in x) (term_in y) (as_term bound x y e a)
  one_alike bound Not x y e a = Denying bound (formula_in x) (formula_in y) (as_formula bound x y e a)
  one_alike bound (Join o) x y e a = Joining bound o (formulas_in x) (formulas_in y) (as_formulas bound x y e a)
  one_alike bound TypeVector x y e a = ap VectorType (as_type bound x y e a)
  one_alike bound TypeShared x y e a = ap SharedType (as_type bound x y e a)
  one_alike bound TypeMutable x y e a = ap MutableType (as_type bound x y e a)
  one_alike bound TypeTuple x y e a = ap TupleType (as_types bound x y e a)
  one_alike bound (ConsByte k) x y e a = ap (λ bs. k ∷ bs) (as_bytes bound x y e a)

  listed : (bound : List ℕ) (ts us : TermsData) → AreAlikeLists b bound ts us → AreAlikeTerms b bound (list_of_terms ts) (list_of_terms us)
  listed bound _ _ (NoTermsAlike _) = NoneAlike bound
  listed bound _ _ (MoreTermsAlike _ t u ts us h hs) = MoreAlike bound t u (list_of_terms ts) (list_of_terms us) h (listed bound ts us hs)

  two_alike : (bound : List ℕ) (h : Two) (x y v w : Item) → sort_of x ≡ first_of_two h → sort_of y ≡ second_of_two h → AreItemsAlike (under h bound) x v → AreItemsAlike (under h bound) y w → AreItemsAlike bound (two_item h x y) (two_item h v w)
  two_alike bound (Binary o) x y v w e f a c =
      OfOneHead bound (BinaryTerm o (term_in x) (term_in y)) (BinaryTerm o (term_in v) (term_in w)) refl
      (MoreAlike bound (term_in x) (term_in v) (term_in y ∷ []) (term_in w ∷ []) (as_term bound x v e a) (MoreAlike bound (term_in y) (term_in w) [] [] (as_term bound y w f c) (NoneAlike bound)))
  two_alike bound Pack x y v w e f a c =
      subst (λ d. IsAlikeTerm b bound (PackTerm (type_in x) (terms_in y)) (PackTerm d (terms_in w))) (as_type bound x v e a)
      (OfOneHead bound (PackTerm (type_in x) (terms_in y)) (PackTerm (type_in x) (terms_in w)) (ap (PackTerm (type_in x)) (terms_of-list_of_terms (terms_in w))) (listed bound (terms_in y) (terms_in w) (as_terms bound y w f c)))
  two_alike bound (Field k) x y v w e f a c =
      subst (λ d. IsAlikeTerm b bound (FieldTerm (type_in x) k (term_in y)) (FieldTerm d k (term_in w))) (as_type bound x v e a)
      (OfOneHead bound (FieldTerm (type_in x) k (term_in y)) (FieldTerm (type_in x) k (term_in w)) refl (MoreAlike bound (term_in y) (term_in w) [] [] (as_term bound y w f c) (NoneAlike bound)))
  two_alike bound (Compare o) x y v w e f a c = Compared bound o (term_in x) (term_in y) (term_in v) (term_in w) (as_term bound x v e a) (as_term bound y w f c)
  two_alike bound Is x y v w e f a c =
      subst (λ d. IsAlike b bound (IsFormula (type_in x) (term_in y)) (IsFormula d (term_in w))) (as_type bound x v e a) (Typed bound (type_in x) (term_in y) (term_in w) (as_term bound y w f c))
  two_alike bound (Connect o) x y v w e f a c = Connecting bound o (formula_in x) (formula_in y) (formula_in v) (formula_in w) (as_formula bound x v e a) (as_formula bound y w f c)
  two_alike bound (Quantify o n) x y v w e f a c = Quantifying bound o n (triggers_in x) (triggers_in v) (formula_in y) (formula_in w) (as_triggers (n ∷ bound) x v e a) (as_formula (n ∷ bound) y w f c)
  two_alike bound ConsTerm x y v w e f a c = MoreTermsAlike bound (term_in x) (term_in v) (terms_in y) (terms_in w) (as_term bound x v e a) (as_terms bound y w f c)
  two_alike bound ConsTrigger x y v w e f a c = MoreTriggersAlike bound (terms_in x) (terms_in v) (triggers_in y) (triggers_in w) (as_terms bound x v e a) (as_triggers bound y w f c)
  two_alike bound ConsFormula x y v w e f a c = MoreFormulasAlike bound (formula_in x) (formula_in v) (formulas_in y) (formulas_in w) (as_formula bound x v e a) (as_formulas bound y w f c)
  two_alike bound ConsType x y v w e f a c = λ i. MoreTypes (as_type bound x v e a i) (as_types bound y w f c i)

  three_alike : (bound : List ℕ) (h : Three) (x y z u v w : Item) → sort_of x ≡ first_of_three h → sort_of y ≡ second_of_three h → sort_of z ≡ third_of_three h → AreItemsAlike bound x u → AreItemsAlike bound y v → AreItemsAlike bound z w → AreItemsAlike bound (three_item h x y z) (three_item h u v w)
  three_alike bound (Ternary o) x y z u v w e f g a c d =
      OfOneHead bound (TernaryTerm o (term_in x) (term_in y) (term_in z)) (TernaryTerm o (term_in u) (term_in v) (term_in w)) refl
      (MoreAlike bound (term_in x) (term_in u) (term_in y ∷ term_in z ∷ []) (term_in v ∷ term_in w ∷ []) (as_term bound x u e a)
      (MoreAlike bound (term_in y) (term_in v) (term_in z ∷ []) (term_in w ∷ []) (as_term bound y v f c) (MoreAlike bound (term_in z) (term_in w) [] [] (as_term bound z w g d) (NoneAlike bound))))
  three_alike bound (SetField k) x y z u v w e f g a c d =
      subst (λ m. IsAlikeTerm b bound (SetFieldTerm (type_in x) k (term_in y) (term_in z)) (SetFieldTerm m k (term_in v) (term_in w))) (as_type bound x u e a)
      (OfOneHead bound (SetFieldTerm (type_in x) k (term_in y) (term_in z)) (SetFieldTerm (type_in x) k (term_in v) (term_in w)) refl
      (MoreAlike bound (term_in y) (term_in v) (term_in z ∷ []) (term_in w ∷ []) (as_term bound y v f c) (MoreAlike bound (term_in z) (term_in w) [] [] (as_term bound z w g d) (NoneAlike bound))))
  three_alike bound If x y z u v w e f g a c d =
      OfOneChoice bound (formula_in x) (formula_in u) (term_in y) (term_in z) (term_in v) (term_in w) (as_formula bound x u e a) (as_term bound y v f c) (as_term bound z w g d)
  three_alike bound (TypeStruct k) x y z u v w e f g a c d =
      λ i. StructType (record { address = k; «module» = as_bytes bound x u e a i; name = as_bytes bound y v f c i }) (as_types bound z w g d i)

  -- ---- trees that are alike: of one class of closed terms, or with equal head symbols and parts that are alike

  pub data Alike : Tree → Tree → Type 0 where
    OneClass : (t u : TermData) (x y : Tree) → Joined b t u → x ≡ tree_of [] (TermItem t) → y ≡ tree_of [] (TermItem u) → Alike x y
    SameBound : (n : ℕ) → Alike (BoundTree n) (BoundTree n)
    SameLeaf : (h : Leaf) → Alike (LeafTree h) (LeafTree h)
    SameOne : (h : One) (x v : Tree) → Alike x v → Alike (OneTree h x) (OneTree h v)
    SameTwo : (h : Two) (x y v w : Tree) → Alike x v → Alike y w → Alike (TwoTree h x y) (TwoTree h v w)
    SameThree : (h : Three) (x y z u v w : Tree) → Alike x u → Alike y v → Alike z w → Alike (ThreeTree h x y z) (ThreeTree h u v w)

  closed_free : (bound : List ℕ) (t : TermData) (x : Tree) → x ≡ tree_of [] (TermItem t) → Fits bound x → IsFreeOf bound t
  closed_free bound t x e f = all_from (λ n. free_in_term n t ≡ false) bound (λ n a. sym (free_term n t) ∙ free_of_fitting n [] bound (plain_term t) (subst (Fits bound) e f) refl a)

  pub alike_items : (bound : List ℕ) (x y : Tree) → Alike x y → IsSorted x → Fits bound x → Fits bound y → AreItemsAlike bound (read x) (read y)
  alike_items bound _ _ (OneClass t u x y j ex ey) s f g =
      let rx : read x ≡ TermItem t = ap read ex ∙ read_term [] t in
      let ry : read y ≡ TermItem u = ap read ey ∙ read_term [] u in
      subst (λ v. AreItemsAlike bound v (read y)) (sym rx) (subst (λ v. AreItemsAlike bound (TermItem t) v) (sym ry) (OfOneClass bound t u (closed_free bound t x ex f) (closed_free bound u y ey g) j))
  alike_items bound _ _ (SameBound n) s f g = OfOneHead bound (VarTerm n) (VarTerm n) refl (NoneAlike bound)
  alike_items bound _ _ (SameLeaf h) s f g = leaf_alike bound h
  alike_items bound _ _ (SameOne h x v a) s f g = one_alike bound h (read x) (read v) s.0 (alike_items bound x v a s.1 f g)
  alike_items bound _ _ (SameTwo h x y v w a c) s f g =
      two_alike bound h (read x) (read y) (read v) (read w) s.0 s.1 (alike_items (under h bound) x v a s.2 f.0 g.0) (alike_items (under h bound) y w c s.3 f.1 g.1)
  alike_items bound _ _ (SameThree h x y z u v w a c d) s f g =
      three_alike bound h (read x) (read y) (read z) (read u) (read v) (read w) s.0 s.1 s.2 (alike_items bound x u a s.3 f.0 g.0) (alike_items bound y v c s.4 f.1 g.1) (alike_items bound z w d s.5 f.2 g.2)

  bound_alike : (n : ℕ) (x y : Tree) → Alike x y → has_bound n x ≡ has_bound n y
  bound_alike n _ _ (OneClass t u x y j ex ey) = ap (has_bound n) ex ∙ bound_renamed n [] (plain_term t) ∙ sym (ap (has_bound n) ey ∙ bound_renamed n [] (plain_term u))
  bound_alike n _ _ (SameBound k) = refl
  bound_alike n _ _ (SameLeaf h) = refl
  bound_alike n _ _ (SameOne h x v a) = bound_alike n x v a
  bound_alike n _ _ (SameTwo h x y v w a c) = λ i. not (binds n h) && (bound_alike n x v a i || bound_alike n y w c i)
  bound_alike n _ _ (SameThree h x y z u v w a c d) = λ i. bound_alike n x u a i || (bound_alike n y v c i || bound_alike n z w d i)

  -- ---- an equivalence

  pub alike_itself : (x : Tree) → Alike x x
  alike_itself (BoundTree n) = SameBound n
  alike_itself (LeafTree h) = SameLeaf h
  alike_itself (OneTree h x) = SameOne h x x (alike_itself x)
  alike_itself (TwoTree h x y) = SameTwo h x y x y (alike_itself x) (alike_itself y)
  alike_itself (ThreeTree h x y z) = SameThree h x y z x y z (alike_itself x) (alike_itself y) (alike_itself z)

  pub alike_turned : (x y : Tree) → Alike x y → Alike y x
  alike_turned _ _ (OneClass t u x y j ex ey) = OneClass u t y x (Turned t u j) ey ex
  alike_turned _ _ (SameBound n) = SameBound n
  alike_turned _ _ (SameLeaf h) = SameLeaf h
  alike_turned _ _ (SameOne h x v a) = SameOne h v x (alike_turned x v a)
  alike_turned _ _ (SameTwo h x y v w a c) = SameTwo h v w x y (alike_turned x v a) (alike_turned y w c)
  alike_turned _ _ (SameThree h x y z u v w a c d) = SameThree h u v w x y z (alike_turned x u a) (alike_turned y v c) (alike_turned z w d)

  -- the tree represents some item under some quantifiers, except for sorts that its head symbol does not determine
  pub record IsProper (x : Tree) : Type 0 where
    pub sorted : IsSorted x
    pub fits : Fits [] x

  class_then : (t u : TermData) (x y z : Tree) → Joined b t u → x ≡ tree_of [] (TermItem t) → y ≡ tree_of [] (TermItem u) → Alike y z → IsProper z → Alike x z
  class_then t u x y z j ex ey a p = go (read z) refl (subst (λ v. AreItemsAlike [] v (read z)) ry alike)
    where
      ry : read y ≡ TermItem u
      ry = ap read ey ∙ read_term [] u

      alike : AreItemsAlike [] (read y) (read z)
      alike = alike_items [] y z a (subst IsSorted (sym ey) (sorted_item [] (TermItem u))) (subst (Fits []) (sym ey) (fits_renamed [] [] (plain_term u) (none_among []))) p.fits

      unbound : (n : ℕ) → has_bound n z ≡ true → among n [] ≡ true
      unbound n e = clash e (sym (bound_alike n y z a) ∙ ap (has_bound n) ey ∙ bound_renamed n [] (plain_term u))

      go : (v : Item) → read z ≡ v → AreItemsAlike [] (TermItem u) v → Alike x z
      go (TermItem v) e h = OneClass t v x z (Chained t u v j (joined_alike u v h)) ex (sym (unrenamed [] z p.fits p.sorted (record { at = unbound })) ∙ ap (tree_of []) e)
      go _ e h = absurd h

  proper_one : (h : One) (x : Tree) → IsProper (OneTree h x) → IsProper x
  proper_one h x p = record { sorted = p.sorted.1; fits = p.fits }

  proper_first : (h : Two) (x y : Tree) → IsProper (TwoTree h x y) → IsProper x
  proper_first h x y p = record { sorted = p.sorted.2; fits = fits_less [] (under h []) x (none_among (under h [])) p.fits.0 }

  proper_second : (h : Two) (x y : Tree) → IsProper (TwoTree h x y) → IsProper y
  proper_second h x y p = record { sorted = p.sorted.3; fits = fits_less [] (under h []) y (none_among (under h [])) p.fits.1 }

  pub alike_then : (x y z : Tree) → Alike x y → Alike y z → IsProper x → IsProper z → Alike x z
  alike_then _ _ z (OneClass t u x y j ex ey) c p q = class_then t u x y z j ex ey c q
  alike_then x _ _ a (OneClass t u y z j ey ez) p q = alike_turned z x (class_then u t z y x (Turned t u j) ez ey (alike_turned x y a) p)
  alike_then _ _ _ (SameBound n) (SameBound _) p q = SameBound n
  alike_then _ _ _ (SameLeaf h) (SameLeaf _) p q = SameLeaf h
  alike_then _ _ _ (SameOne h x v a) (SameOne _ _ k c) p q = SameOne h x k (alike_then x v k a c (proper_one h x p) (proper_one h k q))
  alike_then _ _ _ (SameTwo h x y v w a c) (SameTwo _ _ _ k m d e) p q =
      SameTwo h x y k m (alike_then x v k a d (proper_first h x y p) (proper_first h k m q)) (alike_then y w m c e (proper_second h x y p) (proper_second h k m q))
  alike_then _ _ _ (SameThree h x y z u v w a c d) (SameThree _ _ _ _ k m o e f g) p q =
      SameThree h x y z k m o
      (alike_then x u k a e (record { sorted = p.sorted.3; fits = p.fits.0 }) (record { sorted = q.sorted.3; fits = q.fits.0 }))
      (alike_then y v m c f (record { sorted = p.sorted.4; fits = p.fits.1 }) (record { sorted = q.sorted.4; fits = q.fits.1 }))
      (alike_then z w o d g (record { sorted = p.sorted.5; fits = p.fits.2 }) (record { sorted = q.sorted.5; fits = q.fits.2 }))
