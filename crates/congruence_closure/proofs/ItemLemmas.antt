-- Items by their head symbols and parts, and trees as those of the items that they represent.
use Rattle.std.proofs.Common.{◌≡◌, ℕ, List, ◌∷◌, Bool, true, false, not, cond, refl, sym, ap, ◌∙◌}
use Rattle.std.specs.Prelude.{◌&&◌, ◌||◌, ◌==◌}
use Rattle.term_pool.specs.declared.node.Leaf.{Leaf}
use Rattle.term_pool.specs.declared.node.Leaf.TheVariants.{Var, Constant, TypeBool, TypeInt, TypeNum, TypeAddress, TypeSigner, TypeParam, NilTerms, NilTriggers, NilFormulas, NilTypes, NilBytes}
use Rattle.term_pool.specs.declared.node.One.{One}
use Rattle.term_pool.specs.declared.node.One.TheVariants.{Unary, Holds, Not, Join, TypeVector, TypeShared, TypeMutable, TypeTuple, ConsByte}
use Rattle.term_pool.specs.declared.node.Two.{Two}
use Rattle.term_pool.specs.declared.node.Two.TheVariants.{Binary, Pack, Field, Compare, Is, Connect, Quantify, ConsTerm, ConsTrigger, ConsFormula, ConsType}
use Rattle.term_pool.specs.declared.node.Three.{Three}
use Rattle.term_pool.specs.declared.node.Three.TheVariants.{Ternary, SetField, If, TypeStruct}
use Rattle.term_pool.specs.Items.{Item, TermItem, TermsItem, TriggersItem, FormulaItem, FormulasItem, TypeItem, TypesItem, BytesItem, TermSort, TermsSort, TriggersSort, FormulaSort, FormulasSort, TypeSort, TypesSort, BytesSort, sort_of, term_in, terms_in, triggers_in, formula_in, formulas_in, type_in, types_in, bytes_in, leaf_item, one_item, two_item, three_item, one_part, first_of_two, second_of_two, first_of_three, second_of_three, third_of_three}
use Rattle.congruence_closure.specs.Trees.{PlainLeaf, PlainOne, PlainTwo, PlainThree, plain_item, Tree, BoundTree, LeafTree, OneTree, TwoTree, ThreeTree, among, renamed}
use Rattle.std.proofs.lemmas.Bool.{or_left, or_right}
use Rattle.congruence_closure.proofs.ReadLemmas.{read, IsSorted}
use Rattle.congruence_closure.proofs.TreeLemmas.{Fits, has_bound, itself}

is_term : (x : Item) → sort_of x ≡ TermSort → x ≡ TermItem (term_in x)
is_term (TermItem t) e = refl
is_term _ e = absurd (cc)

is_terms : (x : Item) → sort_of x ≡ TermsSort → x ≡ TermsItem (terms_in x)
is_terms (TermsItem t) e = refl
is_terms _ e = absurd (cc)

is_triggers : (x : Item) → sort_of x ≡ TriggersSort → x ≡ TriggersItem (triggers_in x)
is_triggers (TriggersItem t) e = refl
is_triggers _ e = absurd (cc)

is_formula : (x : Item) → sort_of x ≡ FormulaSort → x ≡ FormulaItem (formula_in x)
is_formula (FormulaItem t) e = refl
is_formula _ e = absurd (cc)

is_formulas : (x : Item) → sort_of x ≡ FormulasSort → x ≡ FormulasItem (formulas_in x)
is_formulas (FormulasItem t) e = refl
is_formulas _ e = absurd (cc)

is_type : (x : Item) → sort_of x ≡ TypeSort → x ≡ TypeItem (type_in x)
is_type (TypeItem t) e = refl
is_type _ e = absurd (cc)

is_types : (x : Item) → sort_of x ≡ TypesSort → x ≡ TypesItem (types_in x)
is_types (TypesItem t) e = refl
is_types _ e = absurd (cc)

is_bytes : (x : Item) → sort_of x ≡ BytesSort → x ≡ BytesItem (bytes_in x)
is_bytes (BytesItem t) e = refl
is_bytes _ e = absurd (cc)

pub plain_leaf : (h : Leaf) → plain_item (leaf_item h) ≡ PlainLeaf h
plain_leaf (Var n) = refl
plain_leaf (Constant c) = refl
plain_leaf TypeBool = refl
plain_leaf (TypeInt w) = refl
plain_leaf TypeNum = refl
plain_leaf TypeAddress = refl
plain_leaf TypeSigner = refl
plain_leaf (TypeParam n) = refl
plain_leaf NilTerms = refl
plain_leaf NilTriggers = refl
plain_leaf NilFormulas = refl
plain_leaf NilTypes = refl
plain_leaf NilBytes = refl

pub plain_one : (h : One) (x : Item) → sort_of x ≡ one_part h → plain_item (one_item h x) ≡ PlainOne h (plain_item x)
plain_one (Unary o) x e = ap (λ y. PlainOne (Unary o) (plain_item y)) (sym (is_term x e))
plain_one Holds x e = ap (λ y. PlainOne Holds (plain_item y)) (sym (is_term x e))
plain_one Not x e = ap (λ y. PlainOne Not (plain_item y)) (sym (is_formula x e))
plain_one (Join o) x e = ap (λ y. PlainOne (Join o) (plain_item y)) (sym (is_formulas x e))
plain_one TypeVector x e = ap (λ y. PlainOne TypeVector (plain_item y)) (sym (is_type x e))
plain_one TypeShared x e = ap (λ y. PlainOne TypeShared (plain_item y)) (sym (is_type x e))
plain_one TypeMutable x e = ap (λ y. PlainOne TypeMutable (plain_item y)) (sym (is_type x e))
plain_one TypeTuple x e = ap (λ y. PlainOne TypeTuple (plain_item y)) (sym (is_types x e))
plain_one (ConsByte b) x e = ap (λ y. PlainOne (ConsByte b) (plain_item y)) (sym (is_bytes x e))

pub plain_two : (h : Two) (x y : Item) → sort_of x ≡ first_of_two h → sort_of y ≡ second_of_two h → plain_item (two_item h x y) ≡ PlainTwo h (plain_item x) (plain_item y)
plain_two (Binary o) x y e f = λ i. PlainTwo (Binary o) (plain_item (sym (is_term x e) i)) (plain_item (sym (is_term y f) i))
plain_two Pack x y e f = λ i. PlainTwo Pack (plain_item (sym (is_type x e) i)) (plain_item (sym (is_terms y f) i))
plain_two (Field k) x y e f = λ i. PlainTwo (Field k) (plain_item (sym (is_type x e) i)) (plain_item (sym (is_term y f) i))
plain_two (Compare o) x y e f = λ i. PlainTwo (Compare o) (plain_item (sym (is_term x e) i)) (plain_item (sym (is_term y f) i))
plain_two Is x y e f = λ i. PlainTwo Is (plain_item (sym (is_type x e) i)) (plain_item (sym (is_term y f) i))
plain_two (Connect o) x y e f = λ i. PlainTwo (Connect o) (plain_item (sym (is_formula x e) i)) (plain_item (sym (is_formula y f) i))
plain_two (Quantify o n) x y e f = λ i. PlainTwo (Quantify o n) (plain_item (sym (is_triggers x e) i)) (plain_item (sym (is_formula y f) i))
plain_two ConsTerm x y e f = λ i. PlainTwo ConsTerm (plain_item (sym (is_term x e) i)) (plain_item (sym (is_terms y f) i))
plain_two ConsTrigger x y e f = λ i. PlainTwo ConsTrigger (plain_item (sym (is_terms x e) i)) (plain_item (sym (is_triggers y f) i))
plain_two ConsFormula x y e f = λ i. PlainTwo ConsFormula (plain_item (sym (is_formula x e) i)) (plain_item (sym (is_formulas y f) i))
plain_two ConsType x y e f = λ i. PlainTwo ConsType (plain_item (sym (is_type x e) i)) (plain_item (sym (is_types y f) i))

pub plain_three : (h : Three) (x y z : Item) → sort_of x ≡ first_of_three h → sort_of y ≡ second_of_three h → sort_of z ≡ third_of_three h → plain_item (three_item h x y z) ≡ PlainThree h (plain_item x) (plain_item y) (plain_item z)
plain_three (Ternary o) x y z e f g = λ i. PlainThree (Ternary o) (plain_item (sym (is_term x e) i)) (plain_item (sym (is_term y f) i)) (plain_item (sym (is_term z g) i))
plain_three (SetField k) x y z e f g = λ i. PlainThree (SetField k) (plain_item (sym (is_type x e) i)) (plain_item (sym (is_term y f) i)) (plain_item (sym (is_term z g) i))
plain_three If x y z e f g = λ i. PlainThree If (plain_item (sym (is_formula x e) i)) (plain_item (sym (is_term y f) i)) (plain_item (sym (is_term z g) i))
plain_three (TypeStruct a) x y z e f g = λ i. PlainThree (TypeStruct a) (plain_item (sym (is_bytes x e) i)) (plain_item (sym (is_bytes y f) i)) (plain_item (sym (is_types z g) i))

-- ---- trees in which no other variable is bound

-- each variable that is bound outside the tree is one of these
pub record AreBound (bound : List ℕ) (x : Tree) : Type 0 where
  pub at : (n : ℕ) → has_bound n x ≡ true → among n bound ≡ true

under_quantifier : (k : ℕ) (bound : List ℕ) (p : ℕ → Bool) → ((n : ℕ) → (n == k) ≡ false → p n ≡ true → among n bound ≡ true) → (n : ℕ) → p n ≡ true → among n (k ∷ bound) ≡ true
under_quantifier k bound p h n f = go (n == k) refl
  where
    go : (e : Bool) → (n == k) ≡ e → ((n == k) || among n bound) ≡ true
    go true e = or_left (n == k) (among n bound) e
    go false e = or_right (n == k) (among n bound) (h n e f)

not_same : (e : Bool) (p : Bool) → e ≡ false → p ≡ true → (not e && p) ≡ true
not_same true p e f = absurd (cc)
not_same false p e f = f

pub unrenamed : (bound : List ℕ) (x : Tree) → Fits bound x → IsSorted x → AreBound bound x → renamed bound (plain_item (read x)) ≡ x
unrenamed bound (BoundTree n) f s a = ap (λ d. cond d (BoundTree n) (LeafTree (Var n))) (a.at n (itself n))
unrenamed bound (LeafTree (Var n)) f s a = ap (λ d. cond d (BoundTree n) (LeafTree (Var n))) f
unrenamed bound (LeafTree h) f s a = ap (renamed bound) (plain_leaf h)
unrenamed bound (OneTree h x) f s a = ap (renamed bound) (plain_one h (read x) s.0) ∙ ap (OneTree h) (unrenamed bound x f s.1 (record { at = a.at }))
unrenamed bound (TwoTree (Quantify o k) x y) f s a =
    let first : AreBound (k ∷ bound) x = record { at = under_quantifier k bound (λ n. has_bound n x) (λ n e g. a.at n (not_same (n == k) (has_bound n x || has_bound n y) e (or_left (has_bound n x) (has_bound n y) g))) } in
    let second : AreBound (k ∷ bound) y = record { at = under_quantifier k bound (λ n. has_bound n y) (λ n e g. a.at n (not_same (n == k) (has_bound n x || has_bound n y) e (or_right (has_bound n x) (has_bound n y) g))) } in
    ap (renamed bound) (plain_two (Quantify o k) (read x) (read y) s.0 s.1)
    ∙ (λ i. TwoTree (Quantify o k) (unrenamed (k ∷ bound) x f.0 s.2 first i) (unrenamed (k ∷ bound) y f.1 s.3 second i))
unrenamed bound (TwoTree h x y) f s a =
    let first : AreBound bound x = record { at = λ n g. a.at n (or_left (has_bound n x) (has_bound n y) g) } in
    let second : AreBound bound y = record { at = λ n g. a.at n (or_right (has_bound n x) (has_bound n y) g) } in
    ap (renamed bound) (plain_two h (read x) (read y) s.0 s.1)
    ∙ (λ i. TwoTree h (unrenamed bound x f.0 s.2 first i) (unrenamed bound y f.1 s.3 second i))
unrenamed bound (ThreeTree h x y z) f s a =
    let first : AreBound bound x = record { at = λ n g. a.at n (or_left (has_bound n x) (has_bound n y || has_bound n z) g) } in
    let second : AreBound bound y = record { at = λ n g. a.at n (or_right (has_bound n x) (has_bound n y || has_bound n z) (or_left (has_bound n y) (has_bound n z) g)) } in
    let third : AreBound bound z = record { at = λ n g. a.at n (or_right (has_bound n x) (has_bound n y || has_bound n z) (or_right (has_bound n y) (has_bound n z) g)) } in
    ap (renamed bound) (plain_three h (read x) (read y) (read z) s.0 s.1 s.2)
    ∙ (λ i. ThreeTree h (unrenamed bound x f.0 s.3 first i) (unrenamed bound y f.1 s.4 second i) (unrenamed bound z f.2 s.5 third i))
