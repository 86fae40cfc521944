-- A variable is free in a node if it is free in an open part.
use Rattle.std.proofs.Common.{◌≡◌, inl, inr, ℕ, ◌<◌, ◌≤◌, Bool, true, false, List, [], ◌∷◌, length, refl, sym, ap, ◌∙◌, arith}
use Rattle.std.specs.Prelude.{not, ◌&&◌, ◌||◌, ◌==◌, if◌then◌else◌}
use Rattle.term_pool.specs.Items.{Item, sort_of, one_item, two_item, three_item, one_part, first_of_two, second_of_two, first_of_three, second_of_three, third_of_three}
use Rattle.term_pool.specs.Pools.{item_at, item_of, items, HasParts}
use Rattle.term_pool.specs.declared.node.Leaf.TheVariants.{Var}
use Rattle.term_pool.specs.declared.node.One.{One}
use Rattle.term_pool.specs.declared.node.One.TheVariants.{Unary, Holds, Not, Join, TypeVector, TypeShared, TypeMutable, TypeTuple, ConsByte}
use Rattle.term_pool.specs.declared.node.Two.{Two}
use Rattle.term_pool.specs.declared.node.Two.TheVariants.{Binary, Pack, Field, Compare, Is, Connect, Quantify, ConsTerm, ConsTrigger, ConsFormula, ConsType}
use Rattle.term_pool.specs.declared.node.Three.{Three}
use Rattle.term_pool.specs.declared.node.Three.TheVariants.{Ternary, SetField, If, TypeStruct}
use Rattle.term_pool.specs.declared.node.Node.{Node}
use Rattle.term_pool.specs.declared.node.Node.TheVariants.{Leaf as LeafNode, One as OneNode, Two as TwoNode, Three as ThreeNode}
use Rattle.term_pool.proofs.ShapeLemmas.{a_term, a_list_of_terms, a_list_of_triggers, a_formula, a_list_of_formulas, a_type, a_list_of_types, bytes}
use Rattle.term_pool.specs.Free.{free_in_item, is_variable, binds, open_parts, IsOneOf}

or_true : (b : Bool) → (b || true) ≡ true
or_true true = refl
or_true false = refl

module _ (v : ℕ) where
  -- ---- by head symbols

  one_free : (h : One) (x : Item) → sort_of x ≡ one_part h → free_in_item v (one_item h x) ≡ free_in_item v x
  one_free (Unary o) x e = ap (free_in_item v) (a_term x e)
  one_free Holds x e = ap (free_in_item v) (a_term x e)
  one_free Not x e = ap (free_in_item v) (a_formula x e)
  one_free (Join o) x e = ap (free_in_item v) (a_list_of_formulas x e)
  one_free TypeVector x e = ap (free_in_item v) (a_type x e)
  one_free TypeShared x e = ap (free_in_item v) (a_type x e)
  one_free TypeMutable x e = ap (free_in_item v) (a_type x e)
  one_free TypeTuple x e = ap (free_in_item v) (a_list_of_types x e)
  one_free (ConsByte b) x e = ap (free_in_item v) (bytes x e)

  two_free : (h : Two) (x y : Item) → sort_of x ≡ first_of_two h → sort_of y ≡ second_of_two h → free_in_item v (two_item h x y) ≡ (not (binds v h) && (free_in_item v x || free_in_item v y))
  two_free (Binary o) x y e f = λ i. free_in_item v (a_term x e i) || free_in_item v (a_term y f i)
  two_free Pack x y e f = λ i. free_in_item v (a_type x e i) || free_in_item v (a_list_of_terms y f i)
  two_free (Field k) x y e f = λ i. free_in_item v (a_type x e i) || free_in_item v (a_term y f i)
  two_free (Compare o) x y e f = λ i. free_in_item v (a_term x e i) || free_in_item v (a_term y f i)
  two_free Is x y e f = λ i. free_in_item v (a_type x e i) || free_in_item v (a_term y f i)
  two_free (Connect o) x y e f = λ i. free_in_item v (a_formula x e i) || free_in_item v (a_formula y f i)
  two_free (Quantify o n) x y e f = λ i. not (v == n) && (free_in_item v (a_list_of_triggers x e i) || free_in_item v (a_formula y f i))
  two_free ConsTerm x y e f = λ i. free_in_item v (a_term x e i) || free_in_item v (a_list_of_terms y f i)
  two_free ConsTrigger x y e f = λ i. free_in_item v (a_list_of_terms x e i) || free_in_item v (a_list_of_triggers y f i)
  two_free ConsFormula x y e f = λ i. free_in_item v (a_formula x e i) || free_in_item v (a_list_of_formulas y f i)
  two_free ConsType x y e f = λ i. free_in_item v (a_type x e i) || free_in_item v (a_list_of_types y f i)

  three_free : (h : Three) (x y z : Item) → sort_of x ≡ first_of_three h → sort_of y ≡ second_of_three h → sort_of z ≡ third_of_three h → free_in_item v (three_item h x y z) ≡ (free_in_item v x || (free_in_item v y || free_in_item v z))
  three_free (Ternary o) x y z e f g = λ i. free_in_item v (a_term x e i) || (free_in_item v (a_term y f i) || free_in_item v (a_term z g i))
  three_free (SetField k) x y z e f g = λ i. free_in_item v (a_type x e i) || (free_in_item v (a_term y f i) || free_in_item v (a_term z g i))
  three_free If x y z e f g = λ i. free_in_item v (a_formula x e i) || (free_in_item v (a_term y f i) || free_in_item v (a_term z g i))
  three_free (TypeStruct a) x y z e f g = λ i. free_in_item v (bytes x e i) || (free_in_item v (bytes y f i) || free_in_item v (a_list_of_types z g i))

  module _ (ns : List Node) where
    abbrev free_at : ℕ → Bool
    free_at n = free_in_item v (item_at ns n)

    -- ---- free in a part

    two_up : (b : Bool) (x y p : ℕ) → IsOneOf p (if b then [] else (x ∷ y ∷ [])) → free_at p ≡ true → (not b && (free_at x || free_at y)) ≡ true
    two_up true x y p z f = absurd z
    two_up false x y p (inl e) f = ap (λ c. c || free_at y) (ap free_at (sym e) ∙ f)
    two_up false x y p (inr (inl e)) f = ap (λ c. free_at x || c) (ap free_at (sym e) ∙ f) ∙ or_true (free_at x)
    two_up false x y p (inr (inr z)) f = absurd z

    three_up : (x y z p : ℕ) → IsOneOf p (x ∷ y ∷ z ∷ []) → free_at p ≡ true → (free_at x || (free_at y || free_at z)) ≡ true
    three_up x y z p (inl e) f = ap (λ c. c || (free_at y || free_at z)) (ap free_at (sym e) ∙ f)
    three_up x y z p (inr (inl e)) f = ap (λ c. free_at x || (c || free_at z)) (ap free_at (sym e) ∙ f) ∙ or_true (free_at x)
    three_up x y z p (inr (inr (inl e))) f =
        ap (λ c. free_at x || (free_at y || c)) (ap free_at (sym e) ∙ f) ∙ ap (λ c. free_at x || c) (or_true (free_at y)) ∙ or_true (free_at x)
    three_up x y z p (inr (inr (inr w))) f = absurd w

    pub free_up : (n : ℕ) (node : Node) → HasParts ns n node → item_at ns n ≡ item_of (items ns) node → (p : ℕ) → IsOneOf p (open_parts v node) → free_at p ≡ true → free_at n ≡ true
    free_up n (LeafNode h) parts is p one f = absurd one
    free_up n (OneNode h a) parts is p (inl e) f = ap (free_in_item v) is ∙ one_free h (item_at ns a) parts.sort ∙ ap free_at (sym e) ∙ f
    free_up n (OneNode h a) parts is p (inr z) f = absurd z
    free_up n (TwoNode h a b) parts is p one f =
        ap (free_in_item v) is ∙ two_free h (item_at ns a) (item_at ns b) parts.0.sort parts.1.sort ∙ two_up (binds v h) a b p one f
    free_up n (ThreeNode h a b c) parts is p one f =
        ap (free_in_item v) is ∙ three_free h (item_at ns a) (item_at ns b) (item_at ns c) parts.0.sort parts.1.sort parts.2.sort ∙ three_up a b c p one f

    -- ---- free in no part

    two_quiet : (b : Bool) (x y : ℕ) → ((p : ℕ) → IsOneOf p (if b then [] else (x ∷ y ∷ [])) → free_at p ≡ false) → (not b && (free_at x || free_at y)) ≡ false
    two_quiet true x y q = refl
    two_quiet false x y q = λ i. q x (inl refl) i || q y (inr (inl refl)) i

    pub quiet_here : (n : ℕ) (node : Node) → HasParts ns n node → item_at ns n ≡ item_of (items ns) node → is_variable v node ≡ false → ((p : ℕ) → IsOneOf p (open_parts v node) → free_at p ≡ false) → free_at n ≡ false
    quiet_here n (LeafNode (Var k)) parts is other q = ap (free_in_item v) is ∙ other
    quiet_here n (LeafNode _) parts is other q = ap (free_in_item v) is
    quiet_here n (OneNode h a) parts is other q = ap (free_in_item v) is ∙ one_free h (item_at ns a) parts.sort ∙ q a (inl refl)
    quiet_here n (TwoNode h a b) parts is other q =
        ap (free_in_item v) is ∙ two_free h (item_at ns a) (item_at ns b) parts.0.sort parts.1.sort ∙ two_quiet (binds v h) a b q
    quiet_here n (ThreeNode h a b c) parts is other q =
        ap (free_in_item v) is
        ∙ three_free h (item_at ns a) (item_at ns b) (item_at ns c) parts.0.sort parts.1.sort parts.2.sort
        ∙ (λ i. q a (inl refl) i || (q b (inr (inl refl)) i || q c (inr (inr (inl refl))) i))

    -- the variable itself
    pub variable_here : (n : ℕ) (node : Node) → item_at ns n ≡ item_of (items ns) node → is_variable v node ≡ true → free_at n ≡ true
    variable_here n (LeafNode (Var k)) is e = ap (free_in_item v) is ∙ e
    variable_here n _ is e = absurd (cc)

-- ---- the parts are few, and earlier

few_of_two : (b : Bool) (x y : ℕ) → length (if b then [] else (x ∷ y ∷ [])) ≤ 3
few_of_two true x y = omega arith
few_of_two false x y = omega arith

pub few_parts : (v : ℕ) (node : Node) → length (open_parts v node) ≤ 3
few_parts v (LeafNode h) = omega arith
few_parts v (OneNode h a) = omega arith
few_parts v (TwoNode h a b) = few_of_two (binds v h) a b
few_parts v (ThreeNode h a b c) = omega arith

earlier_two : (b : Bool) (x y p n : ℕ) → x < n → y < n → IsOneOf p (if b then [] else (x ∷ y ∷ [])) → p < n
earlier_two true x y p n u w z = absurd z
earlier_two false x y p n u w (inl e) = omega (arith, e, u)
earlier_two false x y p n u w (inr (inl e)) = omega (arith, e, w)
earlier_two false x y p n u w (inr (inr z)) = absurd z

pub earlier : (v : ℕ) (ns : List Node) (n : ℕ) (node : Node) (p : ℕ) → HasParts ns n node → IsOneOf p (open_parts v node) → p < n
earlier v ns n (LeafNode h) p parts one = absurd one
earlier v ns n (OneNode h a) p parts (inl e) = let w = parts.earlier in omega (arith, e, w)
earlier v ns n (OneNode h a) p parts (inr z) = absurd z
earlier v ns n (TwoNode h a b) p parts one = earlier_two (binds v h) a b p n parts.0.earlier parts.1.earlier one
earlier v ns n (ThreeNode h a b c) p parts (inl e) = let w = parts.0.earlier in omega (arith, e, w)
earlier v ns n (ThreeNode h a b c) p parts (inr (inl e)) = let w = parts.1.earlier in omega (arith, e, w)
earlier v ns n (ThreeNode h a b c) p parts (inr (inr (inl e))) = let w = parts.2.earlier in omega (arith, e, w)
earlier v ns n (ThreeNode h a b c) p parts (inr (inr (inr z))) = absurd z
