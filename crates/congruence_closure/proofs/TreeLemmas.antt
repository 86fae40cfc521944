-- Variables that are free in trees, and trees under other quantifiers.
use Rattle.std.proofs.Common.{◌≡◌, ◌⊎◌, inl, inr, ℕ, List, [], ◌∷◌, Bool, true, false, not, cond, refl, sym, ap, ◌∙◌, arith}
use Rattle.std.specs.Prelude.{◌&&◌, ◌||◌, ◌==◌}
use Rattle.std.proofs.lemmas.Bool.{or_from, or_left, or_right}
use Rattle.std.proofs.lemmas.Bool.Decides.{nat_tests}
use Rattle.substitution.specs.Free.{free_in_term, free_in_terms, free_in_triggers, free_in, free_in_formulas}
use Rattle.base.specs.TypeData.{TypeData, TypesData, BoolType, IntType, NumType, AddressType, SignerType, VectorType, StructType, ParamType, SharedType, MutableType, TupleType, NoTypes, MoreTypes}
use Rattle.fol.specs.FormulaData.{TermData, VarTerm, ConstantTerm, UnaryTerm, BinaryTerm, TernaryTerm, PackTerm, FieldTerm, SetFieldTerm, IfTerm, TermsData, NoTerms, MoreTerms, TriggersData, NoTriggers, MoreTriggers, FormulaData, CompareFormula, IsFormula, HoldsFormula, NotFormula, JoinFormula, ConnectFormula, QuantifyFormula, FormulasData, NoFormulas, MoreFormulas}
use Rattle.term_pool.specs.declared.node.Leaf.{Leaf}
use Rattle.term_pool.specs.declared.node.Leaf.TheVariants.{Var}
use Rattle.term_pool.specs.declared.node.Two.{Two}
use Rattle.term_pool.specs.declared.node.Two.TheVariants.{Quantify}
use Rattle.congruence_closure.specs.Trees.{Plain, PlainLeaf, PlainOne, PlainTwo, PlainThree, plain_bytes, plain_type, plain_types, plain_term, plain_terms, plain_triggers, plain_formula, plain_formulas, Tree, BoundTree, LeafTree, OneTree, TwoTree, ThreeTree, among, under, leaf_tree, renamed}

-- ---- free variables of plain trees

abbrev pub free_in_leaf : ℕ → Leaf → Bool
free_in_leaf n (Var k) = n == k
free_in_leaf n h = false

abbrev pub binds : ℕ → Two → Bool
binds n (Quantify o k) = n == k
binds n h = false

abbrev pub free : ℕ → Plain → Bool
free n (PlainLeaf h) = free_in_leaf n h
free n (PlainOne h x) = free n x
free n (PlainTwo h x y) = not (binds n h) && (free n x || free n y)
free n (PlainThree h x y z) = free n x || (free n y || free n z)

free_bytes : (n : ℕ) (bs : List ℕ) → free n (plain_bytes bs) ≡ false
free_bytes n [] = refl
free_bytes n (b ∷ bs) = free_bytes n bs

mutual
  free_type : (n : ℕ) (a : TypeData) → free n (plain_type a) ≡ false
  free_type n BoolType = refl
  free_type n (IntType w) = refl
  free_type n NumType = refl
  free_type n AddressType = refl
  free_type n SignerType = refl
  free_type n (VectorType a) = free_type n a
  free_type n (StructType s ts) = λ i. free_bytes n s.«module» i || (free_bytes n s.name i || free_types n ts i)
  free_type n (ParamType k) = refl
  free_type n (SharedType a) = free_type n a
  free_type n (MutableType a) = free_type n a
  free_type n (TupleType ts) = free_types n ts

  free_types : (n : ℕ) (ts : TypesData) → free n (plain_types ts) ≡ false
  free_types n NoTypes = refl
  free_types n (MoreTypes a ts) = λ i. free_type n a i || free_types n ts i

mutual
  pub free_term : (n : ℕ) (t : TermData) → free n (plain_term t) ≡ free_in_term n t
  free_term n (VarTerm k) = refl
  free_term n (ConstantTerm c) = refl
  free_term n (UnaryTerm o t) = free_term n t
  free_term n (BinaryTerm o t u) = λ i. free_term n t i || free_term n u i
  free_term n (TernaryTerm o t u v) = λ i. free_term n t i || (free_term n u i || free_term n v i)
  free_term n (PackTerm a ts) = λ i. free_type n a i || free_terms n ts i
  free_term n (FieldTerm a k t) = λ i. free_type n a i || free_term n t i
  free_term n (SetFieldTerm a k t u) = λ i. free_type n a i || (free_term n t i || free_term n u i)
  free_term n (IfTerm p t u) = λ i. free_formula n p i || (free_term n t i || free_term n u i)

  free_terms : (n : ℕ) (ts : TermsData) → free n (plain_terms ts) ≡ free_in_terms n ts
  free_terms n NoTerms = refl
  free_terms n (MoreTerms t ts) = λ i. free_term n t i || free_terms n ts i

  free_triggers : (n : ℕ) (ts : TriggersData) → free n (plain_triggers ts) ≡ free_in_triggers n ts
  free_triggers n NoTriggers = refl
  free_triggers n (MoreTriggers t ts) = λ i. free_terms n t i || free_triggers n ts i

  free_formula : (n : ℕ) (p : FormulaData) → free n (plain_formula p) ≡ free_in n p
  free_formula n (CompareFormula o t u) = λ i. free_term n t i || free_term n u i
  free_formula n (IsFormula a t) = λ i. free_type n a i || free_term n t i
  free_formula n (HoldsFormula t) = free_term n t
  free_formula n (NotFormula p) = free_formula n p
  free_formula n (JoinFormula o ps) = free_formulas n ps
  free_formula n (ConnectFormula o p q) = λ i. free_formula n p i || free_formula n q i
  free_formula n (QuantifyFormula o k ts p) = λ i. not (n == k) && (free_triggers n ts i || free_formula n p i)

  free_formulas : (n : ℕ) (ps : FormulasData) → free n (plain_formulas ps) ≡ free_in_formulas n ps
  free_formulas n NoFormulas = refl
  free_formulas n (MoreFormulas p ps) = λ i. free_formula n p i || free_formulas n ps i

-- ---- truth values

pub clash : {A : Type 0} {b : Bool} → b ≡ true → b ≡ false → A
clash e f = absurd (cc)

pub itself : (n : ℕ) → (n == n) ≡ true
itself n = grind (arith, nat_tests)

either : (b : Bool) → (b ≡ true) ⊎ (b ≡ false)
either true = inl refl
either false = inr refl

-- ---- bound variables of trees

abbrev pub has_bound : ℕ → Tree → Bool
has_bound n (BoundTree k) = n == k
has_bound n (LeafTree h) = false
has_bound n (OneTree h x) = has_bound n x
has_bound n (TwoTree h x y) = not (binds n h) && (has_bound n x || has_bound n y)
has_bound n (ThreeTree h x y z) = has_bound n x || (has_bound n y || has_bound n z)

two_ways : (s p q : Bool) → ((s && p) || (s && q)) ≡ (s && (p || q))
two_ways true p q = refl
two_ways false p q = refl

three_ways : (s p q r : Bool) → ((s && p) || ((s && q) || (s && r))) ≡ (s && (p || (q || r)))
three_ways true p q r = refl
three_ways false p q r = refl

below_quantifier : (e s p q : Bool) → (not e && (((e || s) && p) || ((e || s) && q))) ≡ (s && (not e && (p || q)))
below_quantifier true true p q = refl
below_quantifier true false p q = refl
below_quantifier false true p q = refl
below_quantifier false false p q = refl

pub same_number : (n k : ℕ) → (n == k) ≡ true → n ≡ k
same_number n k e = grind (arith, nat_tests)

variable_bound : (n k : ℕ) (bound : List ℕ) → has_bound n (leaf_tree bound (Var k)) ≡ (among n bound && (n == k))
variable_bound n k bound = go (among k bound) refl (n == k) refl
  where
    alone : (b : Bool) → (b && false) ≡ false
    alone true = refl
    alone false = refl

    go : (b : Bool) → among k bound ≡ b → (c : Bool) → (n == k) ≡ c → has_bound n (cond (among k bound) (BoundTree k) (LeafTree (Var k))) ≡ (among n bound && (n == k))
    go true e true f = ap (λ d. has_bound n (cond d (BoundTree k) (LeafTree (Var k)))) e ∙ sym (ap (λ d. d && (n == k)) (ap (λ m. among m bound) (same_number n k f) ∙ e))
    go true e false f = ap (λ d. has_bound n (cond d (BoundTree k) (LeafTree (Var k)))) e ∙ f ∙ sym (ap (λ d. among n bound && d) f ∙ alone (among n bound))
    go false e true f = ap (λ d. has_bound n (cond d (BoundTree k) (LeafTree (Var k)))) e ∙ sym (ap (λ d. d && (n == k)) (ap (λ m. among m bound) (same_number n k f) ∙ e))
    go false e false f = ap (λ d. has_bound n (cond d (BoundTree k) (LeafTree (Var k)))) e ∙ sym (ap (λ d. among n bound && d) f ∙ alone (among n bound))

leaf_bound : (n : ℕ) (bound : List ℕ) (h : Leaf) → has_bound n (leaf_tree bound h) ≡ (among n bound && free_in_leaf n h)
leaf_bound n bound (Var k) = variable_bound n k bound
leaf_bound n bound h = sym (alone (among n bound))
  where
    alone : (b : Bool) → (b && false) ≡ false
    alone true = refl
    alone false = refl

pub bound_renamed : (n : ℕ) (bound : List ℕ) (x : Plain) → has_bound n (renamed bound x) ≡ (among n bound && free n x)
bound_renamed n bound (PlainLeaf h) = leaf_bound n bound h
bound_renamed n bound (PlainOne h x) = bound_renamed n bound x
bound_renamed n bound (PlainTwo (Quantify o k) x y) =
    (λ i. not (n == k) && (bound_renamed n (k ∷ bound) x i || bound_renamed n (k ∷ bound) y i)) ∙ below_quantifier (n == k) (among n bound) (free n x) (free n y)
bound_renamed n bound (PlainTwo h x y) = (λ i. bound_renamed n bound x i || bound_renamed n bound y i) ∙ two_ways (among n bound) (free n x) (free n y)
bound_renamed n bound (PlainThree h x y z) = (λ i. bound_renamed n bound x i || (bound_renamed n bound y i || bound_renamed n bound z i)) ∙ three_ways (among n bound) (free n x) (free n y) (free n z)

-- ---- one tree under other quantifiers

-- the lists agree on the variables that are free
pub record Agree (bound others : List ℕ) (x : Plain) : Type 0 where
  pub at : (n : ℕ) → free n x ≡ true → among n bound ≡ among n others

under_quantifier : (k : ℕ) (bound others : List ℕ) (x : Plain) → ((n : ℕ) → (n == k) ≡ false → free n x ≡ true → among n bound ≡ among n others) → Agree (k ∷ bound) (k ∷ others) x
under_quantifier k bound others x h = record { at = λ n f. go n f (n == k) refl }
  where
    go : (n : ℕ) → free n x ≡ true → (e : Bool) → (n == k) ≡ e → ((n == k) || among n bound) ≡ ((n == k) || among n others)
    go n f true e = ap (λ d. d || among n bound) e ∙ sym (ap (λ d. d || among n others) e)
    go n f false e = ap (λ d. (n == k) || d) (h n e f)

not_same : (e : Bool) (p : Bool) → e ≡ false → p ≡ true → (not e && p) ≡ true
not_same true p e f = absurd (cc)
not_same false p e f = f

pub renamed_same : (bound others : List ℕ) (x : Plain) → Agree bound others x → renamed bound x ≡ renamed others x
renamed_same bound others (PlainLeaf (Var k)) a = ap (λ d. cond d (BoundTree k) (LeafTree (Var k))) (a.at k (itself k))
renamed_same bound others (PlainLeaf h) a = refl
renamed_same bound others (PlainOne h x) a = ap (OneTree h) (renamed_same bound others x (record { at = a.at }))
renamed_same bound others (PlainTwo (Quantify o k) x y) a =
    let first : Agree (k ∷ bound) (k ∷ others) x = under_quantifier k bound others x (λ n e f. a.at n (not_same (n == k) (free n x || free n y) e (or_left (free n x) (free n y) f))) in
    let second : Agree (k ∷ bound) (k ∷ others) y = under_quantifier k bound others y (λ n e f. a.at n (not_same (n == k) (free n x || free n y) e (or_right (free n x) (free n y) f))) in
    λ i. TwoTree (Quantify o k) (renamed_same (k ∷ bound) (k ∷ others) x first i) (renamed_same (k ∷ bound) (k ∷ others) y second i)
renamed_same bound others (PlainTwo h x y) a =
    let first : Agree bound others x = record { at = λ n f. a.at n (or_left (free n x) (free n y) f) } in
    let second : Agree bound others y = record { at = λ n f. a.at n (or_right (free n x) (free n y) f) } in
    λ i. TwoTree h (renamed_same bound others x first i) (renamed_same bound others y second i)
renamed_same bound others (PlainThree h x y z) a =
    let first : Agree bound others x = record { at = λ n f. a.at n (or_left (free n x) (free n y || free n z) f) } in
    let second : Agree bound others y = record { at = λ n f. a.at n (or_right (free n x) (free n y || free n z) (or_left (free n y) (free n z) f)) } in
    let third : Agree bound others z = record { at = λ n f. a.at n (or_right (free n x) (free n y || free n z) (or_right (free n y) (free n z) f)) } in
    λ i. ThreeTree h (renamed_same bound others x first i) (renamed_same bound others y second i) (renamed_same bound others z third i)

-- ---- trees that fit under quantifiers: none of the variables is free in them

abbrev pub FitsLeaf : List ℕ → Leaf → Type 0
FitsLeaf bound (Var k) = among k bound ≡ false
FitsLeaf bound h = Unit {0}

abbrev pub Fits : List ℕ → Tree → Type 0
Fits bound (BoundTree k) = Unit {0}
Fits bound (LeafTree h) = FitsLeaf bound h
Fits bound (OneTree h x) = Fits bound x
Fits bound (TwoTree h x y) = Fits (under h bound) x × Fits (under h bound) y
Fits bound (ThreeTree h x y z) = Fits bound x × Fits bound y × Fits bound z

-- the variables are among the others
pub record AreAmong (bound others : List ℕ) : Type 0 where
  pub at : (n : ℕ) → among n bound ≡ true → among n others ≡ true

pub none_among : (others : List ℕ) → AreAmong [] others
none_among others = record { at = λ n e. absurd (cc) }

pub all_among : (bound : List ℕ) → AreAmong bound bound
all_among bound = record { at = λ n e. e }

pub more_among : (k : ℕ) (bound others : List ℕ) → AreAmong bound others → AreAmong (k ∷ bound) (k ∷ others)
more_among k bound others a = record { at = λ n e. go n (n == k) refl e }
  where
    go : (n : ℕ) (e : Bool) → (n == k) ≡ e → ((n == k) || among n bound) ≡ true → ((n == k) || among n others) ≡ true
    go n true e f = or_left (n == k) (among n others) e
    go n false e f = or_right (n == k) (among n others) (a.at n (sym (ap (λ d. d || among n bound) e) ∙ f))

fits_variable : (k : ℕ) (bound others : List ℕ) → AreAmong bound others → (b : Bool) → among k others ≡ b → Fits bound (cond b (BoundTree k) (LeafTree (Var k)))
fits_variable k bound others a true e = tt
fits_variable k bound others a false e = go (among k bound) refl
  where
    go : (c : Bool) → among k bound ≡ c → among k bound ≡ false
    go true f = clash (a.at k f) e
    go false f = f

pub fits_renamed : (bound others : List ℕ) (x : Plain) → AreAmong bound others → Fits bound (renamed others x)
fits_renamed bound others (PlainLeaf (Var k)) a = fits_variable k bound others a (among k others) refl
fits_renamed bound others (PlainLeaf h) a = tt
fits_renamed bound others (PlainOne h x) a = fits_renamed bound others x a
fits_renamed bound others (PlainTwo (Quantify o k) x y) a = (fits_renamed (k ∷ bound) (k ∷ others) x (more_among k bound others a), fits_renamed (k ∷ bound) (k ∷ others) y (more_among k bound others a))
fits_renamed bound others (PlainTwo h x y) a = (fits_renamed bound others x a, fits_renamed bound others y a)
fits_renamed bound others (PlainThree h x y z) a = (fits_renamed bound others x a, fits_renamed bound others y a, fits_renamed bound others z a)

-- a tree fits under fewer quantifiers
fits_less_leaf : (bound others : List ℕ) (h : Leaf) → AreAmong bound others → FitsLeaf others h → FitsLeaf bound h
fits_less_leaf bound others (Var k) a f = go (among k bound) refl
  where
    go : (c : Bool) → among k bound ≡ c → among k bound ≡ false
    go true e = clash (a.at k e) f
    go false e = e
fits_less_leaf bound others h a f = tt

pub fits_less : (bound others : List ℕ) (x : Tree) → AreAmong bound others → Fits others x → Fits bound x
fits_less bound others (BoundTree k) a f = tt
fits_less bound others (LeafTree h) a f = fits_less_leaf bound others h a f
fits_less bound others (OneTree h x) a f = fits_less bound others x a f
fits_less bound others (TwoTree (Quantify o k) x y) a f = (fits_less (k ∷ bound) (k ∷ others) x (more_among k bound others a) f.0, fits_less (k ∷ bound) (k ∷ others) y (more_among k bound others a) f.1)
fits_less bound others (TwoTree h x y) a f = (fits_less bound others x a f.0, fits_less bound others y a f.1)
fits_less bound others (ThreeTree h x y z) a f = (fits_less bound others x a f.0, fits_less bound others y a f.1, fits_less bound others z a f.2)

-- a tree that fits under quantifiers has none of their variables free, except for those that are bound in it already
not_here : (n k : ℕ) (bound others : List ℕ) (b : Bool) → among k bound ≡ b → Fits others (cond b (BoundTree k) (LeafTree (Var k))) → among n bound ≡ false → among n others ≡ true → (c : Bool) → (n == k) ≡ c → (n == k) ≡ false
not_here n k bound others b e f x y false h = h
not_here n k bound others true e f x y true h = clash e (sym (ap (λ m. among m bound) (same_number n k h)) ∙ x)
not_here n k bound others false e f x y true h = clash (sym (ap (λ m. among m others) (same_number n k h)) ∙ y) f

pub free_of_fitting : (n : ℕ) (bound others : List ℕ) (x : Plain) → Fits others (renamed bound x) → among n bound ≡ false → among n others ≡ true → free n x ≡ false
free_of_fitting n bound others (PlainLeaf (Var k)) f a b = not_here n k bound others (among k bound) refl f a b (n == k) refl
free_of_fitting n bound others (PlainLeaf h) f a b = refl
free_of_fitting n bound others (PlainOne h x) f a b = free_of_fitting n bound others x f a b
free_of_fitting n bound others (PlainTwo (Quantify o k) x y) f a b =
    go (λ c d. free_of_fitting n (k ∷ bound) (k ∷ others) x f.0 c d) (λ c d. free_of_fitting n (k ∷ bound) (k ∷ others) y f.1 c d) (n == k) refl
  where
    go : (among n (k ∷ bound) ≡ false → among n (k ∷ others) ≡ true → free n x ≡ false) → (among n (k ∷ bound) ≡ false → among n (k ∷ others) ≡ true → free n y ≡ false) → (e : Bool) → (n == k) ≡ e → (not (n == k) && (free n x || free n y)) ≡ false
    go first second true e = ap (λ d. not d && (free n x || free n y)) e
    go first second false e =
        let outside : among n (k ∷ bound) ≡ false = or_from (n == k) (among n bound) e a in
        let inside : among n (k ∷ others) ≡ true = or_right (n == k) (among n others) b in
        ap (λ d. not d && (free n x || free n y)) e ∙ or_from (free n x) (free n y) (first outside inside) (second outside inside)
free_of_fitting n bound others (PlainTwo h x y) f a b = or_from (free n x) (free n y) (free_of_fitting n bound others x f.0 a b) (free_of_fitting n bound others y f.1 a b)
free_of_fitting n bound others (PlainThree h x y z) f a b =
    or_from (free n x) (free n y || free n z) (free_of_fitting n bound others x f.0 a b) (or_from (free n y) (free n z) (free_of_fitting n bound others y f.1 a b) (free_of_fitting n bound others z f.2 a b))
