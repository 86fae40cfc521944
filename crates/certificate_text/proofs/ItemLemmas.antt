-- The length of an item by those of its parts.
use Rattle.std.proofs.Common.{◌≡◌, ◌⊎◌, inl, inr, ℕ, ◌+◌, ◌<◌, ◌≤◌, List, [], ◌∷◌, ◌++◌, length, get_or, refl, sym, ap, ◌∙◌, arith, length-append}
use Rattle.std.proofs.lemmas.List.{get_or_append_left, get_or_push}
use Rattle.std.proofs.lemmas.Bool.{cases_lt}
use Rattle.std.proofs.lemmas.Option.{slice_get_within}
use Rattle.fol.specs.declared.operators.Constant.{Constant}
use Rattle.fol.specs.declared.operators.Constant.TheVariants.{Num, Max, True, False, Nothing, Blank, Empty, Wide}
use Rattle.fol.specs.declared.operators.Comparison.{Comparison}
use Rattle.certificates.specs.Lengths.{capped, type_length, types_length, constant_length, term_length, terms_length, triggers_length, formula_length, formulas_length, compared_length}
use Rattle.term_pool.specs.Items.{Item, TermItem, TermsItem, TriggersItem, FormulaItem, FormulasItem, TypeItem, TypesItem, BytesItem, TermSort, TermsSort, TriggersSort, FormulaSort, FormulasSort, TypeSort, TypesSort, BytesSort, sort_of, term_in, terms_in, triggers_in, formula_in, formulas_in, type_in, types_in, bytes_in, leaf_item, one_item, two_item, three_item, one_part, first_of_two, second_of_two, first_of_three, second_of_three, third_of_three}
use Rattle.term_pool.specs.Pools.{item_at, HasPart, HasParts, IsMade}
use Rattle.term_pool.specs.declared.node.Leaf.{Leaf}
use Rattle.term_pool.specs.declared.node.Leaf.TheVariants.{Var, Constant as ConstantLeaf, TypeBool, TypeInt, TypeNum, TypeAddress, TypeSigner, TypeParam, NilTerms, NilTriggers, NilFormulas, NilTypes, NilBytes}
use Rattle.term_pool.specs.declared.node.One.{One}
use Rattle.term_pool.specs.declared.node.One.TheVariants.{Unary, Holds, Not, Join, TypeVector, TypeShared, TypeMutable, TypeTuple, ConsByte}
use Rattle.term_pool.specs.declared.node.Two.{Two}
use Rattle.term_pool.specs.declared.node.Two.TheVariants.{Binary, Pack, Field, Compare, Is, Connect, Quantify, ConsTerm, ConsTrigger, ConsFormula, ConsType}
use Rattle.term_pool.specs.declared.node.Three.{Three}
use Rattle.term_pool.specs.declared.node.Three.TheVariants.{Ternary, SetField, If, TypeStruct}
use Rattle.term_pool.specs.declared.node.Node.{Node}
use Rattle.term_pool.specs.declared.node.Node.TheVariants.{One as OneNode, Two as TwoNode, Three as ThreeNode}
use Rattle.term_pool.proofs.ItemLemmas.{item_past}
use Rattle.tableau.specs.Numbers.{formula_at}
use Rattle.search.specs.Applications.{term_at}
use Rattle.certificate_text.specs.Lengths.{item_length, length_at, AreFirstLengths, AreLengths, leaf_bytes, one_bytes, two_bytes, three_bytes}

-- ---- an item of a sort has the length of its reading as that sort

term_part : (x : Item) → sort_of x ≡ TermSort → term_length (term_in x) ≡ item_length x
term_part (TermItem t) e = refl
term_part _ e = absurd (cc)

terms_part : (x : Item) → sort_of x ≡ TermsSort → terms_length (terms_in x) ≡ item_length x
terms_part (TermsItem ts) e = refl
terms_part _ e = absurd (cc)

triggers_part : (x : Item) → sort_of x ≡ TriggersSort → triggers_length (triggers_in x) ≡ item_length x
triggers_part (TriggersItem ts) e = refl
triggers_part _ e = absurd (cc)

formula_part : (x : Item) → sort_of x ≡ FormulaSort → formula_length (formula_in x) ≡ item_length x
formula_part (FormulaItem p) e = refl
formula_part _ e = absurd (cc)

formulas_part : (x : Item) → sort_of x ≡ FormulasSort → formulas_length (formulas_in x) ≡ item_length x
formulas_part (FormulasItem ps) e = refl
formulas_part _ e = absurd (cc)

type_part : (x : Item) → sort_of x ≡ TypeSort → type_length (type_in x) ≡ item_length x
type_part (TypeItem a) e = refl
type_part _ e = absurd (cc)

types_part : (x : Item) → sort_of x ≡ TypesSort → types_length (types_in x) ≡ item_length x
types_part (TypesItem ts) e = refl
types_part _ e = absurd (cc)

bytes_part : (x : Item) → sort_of x ≡ BytesSort → length (bytes_in x) ≡ item_length x
bytes_part (BytesItem bs) e = refl
bytes_part _ e = absurd (cc)

-- ---- by head symbols

leaf_length : (h : Leaf) → item_length (leaf_item h) ≡ leaf_bytes h
leaf_length (Var n) = refl
leaf_length (ConstantLeaf c) = refl
leaf_length TypeBool = refl
leaf_length (TypeInt w) = refl
leaf_length TypeNum = refl
leaf_length TypeAddress = refl
leaf_length TypeSigner = refl
leaf_length (TypeParam n) = refl
leaf_length NilTerms = refl
leaf_length NilTriggers = refl
leaf_length NilFormulas = refl
leaf_length NilTypes = refl
leaf_length NilBytes = refl

one_length : (h : One) (x : Item) → sort_of x ≡ one_part h → item_length (one_item h x) ≡ one_bytes h + item_length x
one_length (Unary o) x e = omega (arith, term_part x e)
one_length Holds x e = omega (arith, term_part x e)
one_length Not x e = omega (arith, formula_part x e)
one_length (Join o) x e = omega (arith, formulas_part x e)
one_length TypeVector x e = omega (arith, type_part x e)
one_length TypeShared x e = omega (arith, type_part x e)
one_length TypeMutable x e = omega (arith, type_part x e)
one_length TypeTuple x e = omega (arith, types_part x e)
one_length (ConsByte b) x e = omega (arith, bytes_part x e)

two_length : (h : Two) (x y : Item) → sort_of x ≡ first_of_two h → sort_of y ≡ second_of_two h → item_length (two_item h x y) ≡ two_bytes h + (item_length x + item_length y)
two_length (Binary o) x y e f = omega (arith, term_part x e, term_part y f)
two_length Pack x y e f = omega (arith, type_part x e, terms_part y f)
two_length (Field k) x y e f = omega (arith, type_part x e, term_part y f)
two_length (Compare o) x y e f = omega (arith, term_part x e, term_part y f)
two_length Is x y e f = omega (arith, type_part x e, term_part y f)
two_length (Connect o) x y e f = omega (arith, formula_part x e, formula_part y f)
two_length (Quantify o n) x y e f = omega (arith, triggers_part x e, formula_part y f)
two_length ConsTerm x y e f = omega (arith, term_part x e, terms_part y f)
two_length ConsTrigger x y e f = omega (arith, terms_part x e, triggers_part y f)
two_length ConsFormula x y e f = omega (arith, formula_part x e, formulas_part y f)
two_length ConsType x y e f = omega (arith, type_part x e, types_part y f)

three_length : (h : Three) (x y z : Item) → sort_of x ≡ first_of_three h → sort_of y ≡ second_of_three h → sort_of z ≡ third_of_three h → item_length (three_item h x y z) ≡ three_bytes h + (item_length x + (item_length y + item_length z))
three_length (Ternary o) x y z e f g = omega (arith, term_part x e, term_part y f, term_part z g)
three_length (SetField k) x y z e f g = omega (arith, type_part x e, term_part y f, term_part z g)
three_length If x y z e f g = omega (arith, formula_part x e, term_part y f, term_part z g)
three_length (TypeStruct a) x y z e f g = omega (arith, bytes_part x e, bytes_part y f, types_part z g)

-- ---- capped lengths

constant_small : (c : Constant) → constant_length c ≤ 17
constant_small (Num i) = omega arith
constant_small Max = omega arith
constant_small True = omega arith
constant_small False = omega arith
constant_small Nothing = omega arith
constant_small Blank = omega arith
constant_small Empty = omega arith
constant_small (Wide u) = omega arith

leaf_small : (h : Leaf) → leaf_bytes h ≤ 17
leaf_small (Var n) = omega arith
leaf_small (ConstantLeaf c) = constant_small c
leaf_small TypeBool = omega arith
leaf_small (TypeInt w) = omega arith
leaf_small TypeNum = omega arith
leaf_small TypeAddress = omega arith
leaf_small TypeSigner = omega arith
leaf_small (TypeParam n) = omega arith
leaf_small NilTerms = omega arith
leaf_small NilTriggers = omega arith
leaf_small NilFormulas = omega arith
leaf_small NilTypes = omega arith
leaf_small NilBytes = omega arith

small_capped : (n : ℕ) → n ≤ 17 → n ≡ capped n
small_capped n h = omega (arith, h)

pub counted_leaf : (h : Leaf) → leaf_bytes h ≡ capped (item_length (leaf_item h))
counted_leaf h = small_capped (leaf_bytes h) (leaf_small h) ∙ ap capped (sym (leaf_length h))

pub count_one : (s d x : ℕ) → d ≡ capped x → capped (s + d) ≡ capped (s + x)
count_one s d x e = omega (arith, e)

pub count_two : (s d e x y : ℕ) → d ≡ capped x → e ≡ capped y → capped (s + capped (d + e)) ≡ capped (s + (x + y))
count_two s d e x y p q = omega (arith, p, q)

count_three : (s d e f x y z : ℕ) → d ≡ capped x → e ≡ capped y → f ≡ capped z → capped (s + capped (d + capped (e + f))) ≡ capped (s + (x + (y + z)))
count_three s d e f x y z p q r = omega (arith, p, q, r)

module _ (ns : List Node) (ls : List ℕ) (lens : AreFirstLengths ns ls) where
  pub counted_one : (h : One) (a : ℕ) → HasParts ns (length ls) (OneNode h a) → capped (one_bytes h + length_at ls a) ≡ capped (item_length (one_item h (item_at ns a)))
  counted_one h a p =
      count_one (one_bytes h) (length_at ls a) (item_length (item_at ns a)) (lens.each a p.earlier)
      ∙ ap capped (sym (one_length h (item_at ns a) p.sort))

  pub counted_two : (h : Two) (a b : ℕ) → HasParts ns (length ls) (TwoNode h a b) → capped (two_bytes h + capped (length_at ls a + length_at ls b)) ≡ capped (item_length (two_item h (item_at ns a) (item_at ns b)))
  counted_two h a b p =
      count_two (two_bytes h) (length_at ls a) (length_at ls b) (item_length (item_at ns a)) (item_length (item_at ns b)) (lens.each a p.0.earlier) (lens.each b p.1.earlier)
      ∙ ap capped (sym (two_length h (item_at ns a) (item_at ns b) p.0.sort p.1.sort))

  pub counted_three : (h : Three) (a b c : ℕ) → HasParts ns (length ls) (ThreeNode h a b c) → capped (three_bytes h + capped (length_at ls a + capped (length_at ls b + length_at ls c))) ≡ capped (item_length (three_item h (item_at ns a) (item_at ns b) (item_at ns c)))
  counted_three h a b c p =
      count_three (three_bytes h) (length_at ls a) (length_at ls b) (length_at ls c) (item_length (item_at ns a)) (item_length (item_at ns b)) (item_length (item_at ns c)) (lens.each a p.0.earlier) (lens.each b p.1.earlier) (lens.each c p.2.earlier)
      ∙ ap capped (sym (three_length h (item_at ns a) (item_at ns b) (item_at ns c) p.0.sort p.1.sort p.2.sort))

  -- one more length
  pub first_more : (len : ℕ) (ks : List ℕ) → ks ≡ ls ++ len ∷ [] → len ≡ capped (item_length (item_at ns (length ls))) → AreFirstLengths ns ks
  first_more len ks e is = record { each = λ i h. ap (λ (xs : List ℕ). length_at xs i) e ∙ each i (omega (arith, h, ap length e)) (cases_lt i (length ls)) }
    where
      each : (i : ℕ) → i < length (ls ++ len ∷ []) → (i < length ls) ⊎ (length ls ≤ i) → get_or (ls ++ len ∷ []) i 0 ≡ capped (item_length (item_at ns i))
      each i h (inl w) = get_or_append_left ls (len ∷ []) 0 i w ∙ lens.each i w
      each i h (inr w) =
          let last : i ≡ length ls = omega (arith, h, w, length-append ls (len ∷ [])) in
          ap (λ k. get_or (ls ++ len ∷ []) k 0) last ∙ get_or_push ls len 0 (length ls) refl ∙ is ∙ ap (λ k. capped (item_length (item_at ns k))) (sym last)

-- ---- terms and formulas

no_term : (x : Item) → (sort_of x ≡ TermSort → ⊥) → term_length (term_in x) ≡ 1
no_term (TermItem t) other = absurd (other refl)
no_term _ other = refl

no_formula : (x : Item) → (sort_of x ≡ FormulaSort → ⊥) → formula_length (formula_in x) ≡ 5
no_formula (FormulaItem p) other = absurd (other refl)
no_formula _ other = refl

module _ (ns : List Node) (ls : List ℕ) (lens : AreLengths ns ls) where
  within : (i : ℕ) (n : Node) → IsMade ns i n → i < length ls
  within i n m = (let w = slice_get_within ns i n m.found in omega (arith, w, lens.one_each))

  pub term_counted : (i : ℕ) → HasPart ns (length ns) i TermSort → length_at ls i ≡ capped (term_length (term_at ns i))
  term_counted i h = lens.are.each i (let w = h.earlier in omega (arith, w, lens.one_each)) ∙ ap capped (sym (term_part (item_at ns i) h.sort))

  pub term_other : (i : ℕ) → (HasPart ns (length ns) i TermSort → ⊥) → 1 ≡ capped (term_length (term_at ns i))
  term_other i other =
      elim (cases_lt i (length ns)) [
        | inl w ↦ (let one = no_term (item_at ns i) (λ e. other (record { earlier = w; sort = e })) in omega (arith, one))
        | inr w ↦ (let one = ap (λ x. term_length (term_in x)) (item_past ns i w) in omega (arith, one))
      ]

  pub formula_counted : (i : ℕ) → HasPart ns (length ns) i FormulaSort → length_at ls i ≡ capped (formula_length (formula_at ns i))
  formula_counted i h = lens.are.each i (let w = h.earlier in omega (arith, w, lens.one_each)) ∙ ap capped (sym (formula_part (item_at ns i) h.sort))

  pub formula_other : (i : ℕ) → (HasPart ns (length ns) i FormulaSort → ⊥) → 5 ≡ capped (formula_length (formula_at ns i))
  formula_other i other =
      elim (cases_lt i (length ns)) [
        | inl w ↦ (let five = no_formula (item_at ns i) (λ e. other (record { earlier = w; sort = e })) in omega (arith, five))
        | inr w ↦ (let five = ap (λ x. formula_length (formula_in x)) (item_past ns i w) in omega (arith, five))
      ]

  pub compared_counted : (i : ℕ) (o : Comparison) (a b : ℕ) → IsMade ns i (TwoNode (Compare o) a b) → length_at ls a ≡ capped (compared_length (formula_at ns i))
  compared_counted i o a b m =
      lens.are.each a (let w = within i (TwoNode (Compare o) a b) m in let earlier = m.parts.0.earlier in omega (arith, w, earlier))
      ∙ ap capped (sym (term_part (item_at ns a) m.parts.0.sort))
      ∙ ap (λ x. capped (compared_length (formula_in x))) (sym m.item)

  pub compared_past : (i : ℕ) → length ns ≤ i → 0 ≡ capped (compared_length (formula_at ns i))
  compared_past i h = (let none = ap (λ x. compared_length (formula_in x)) (item_past ns i h) in omega (arith, none))
