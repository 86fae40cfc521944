-- A term as a sum of unknowns with coefficients: its value by its weights when each unknown has some value.
use Rattle.std.proofs.Common.{◌≡◌, suc, ℤ, pos, negsuc, ◌+ℤ◌, ◌-ℤ◌, ◌*ℤ◌, Option, Some, None, Bool, true, false, cond, nat_lt, ◌^◌, refl, sym, ap, ◌∙◌, arith, cond}
use Rattle.std.proofs.lemmas.Int.{ints}
use lib.IntN.{zero-*ℤ}
use Rattle.fol.specs.declared.operators.Binary.TheVariants.{Add, Mul, Sub}
use Rattle.fol.specs.declared.operators.Constant.TheVariants.{Num}
use Rattle.fol.specs.FormulaData.{TermData, MulTerm, BinaryTerm, ConstantTerm}
use Rattle.fol.specs.FormulaCodes.{term_code, term_back, term_back-code}
use Rattle.fol.specs.TreeOrder.{same_tree-equal, same_tree_itself}
use Rattle.certificates.specs.Linear.{kept, kept_of, same_term, numeral_of, unknown_weight, product_weight, weight}
use Rattle.certificates.specs.Unknowns.{EachUnknown, EachOfProduct}
use Rattle.base.proofs.WholeNumbers.{mul_add, mul_assoc, add_mul, sub_mul, one_mul}

-- ---- equal terms

pub same_term-equal : (t u : TermData) → same_term t u ≡ true → t ≡ u
unfolding same_term
same_term-equal t u e =
    sym (term_back-code t) ∙ ap term_back (same_tree-equal (term_code t) (term_code u) e) ∙ term_back-code u

pub same_term_itself : (t : TermData) → same_term t t ≡ true
unfolding same_term
same_term_itself t = same_tree_itself (term_code t)

-- ---- kept arithmetic is exact

by_test : (b : Bool) (z y : ℤ) → cond b (Some z) None ≡ Some y → z ≡ y
by_test true z y e = cc
by_test false z y e = absurd (cc)

pub kept_exact : (z y : ℤ) → kept z ≡ Some y → z ≡ y
kept_exact (pos n) y e = by_test (nat_lt n (2 ^ 127)) (pos n) y e
kept_exact (negsuc n) y e = by_test (nat_lt (suc n) (2 ^ 127)) (negsuc n) y e

-- the operands of a kept operation, and its result
pub record Kept (op : ℤ → ℤ → ℤ) (x y : Option ℤ) (z : ℤ) : Type 0 where
  pub left : ℤ
  pub right : ℤ
  pub is_left : x ≡ Some left
  pub is_right : y ≡ Some right
  pub exact : op left right ≡ z

pub kept_of_exact : (op : ℤ → ℤ → ℤ) (x y : Option ℤ) (z : ℤ) → kept_of op x y ≡ Some z → Kept op x y z
kept_of_exact op None y z e = absurd (cc)
kept_of_exact op (Some a) None z e = absurd (cc)
kept_of_exact op (Some a) (Some b) z e = record { left = a; right = b; is_left = refl; is_right = refl; exact = kept_exact (op a b) z e }

-- ---- the value of a term when each unknown has some value

abbrev pub Values : Type 0
Values = TermData → ℤ

abbrev pub sum_product : Option ℤ → Option ℤ → ℤ → ℤ → ℤ → ℤ
sum_product (Some c) right left_value right_value whole_value = c *ℤ right_value
sum_product None (Some c) left_value right_value whole_value = c *ℤ left_value
sum_product None None left_value right_value whole_value = whole_value

abbrev pub sum_of : Values → TermData → ℤ
sum_of w (ConstantTerm (Num i)) = i
sum_of w (BinaryTerm Add t u) = sum_of w t +ℤ sum_of w u
sum_of w (BinaryTerm Sub t u) = sum_of w t -ℤ sum_of w u
sum_of w (BinaryTerm Mul t u) = sum_product (numeral_of t) (numeral_of u) (sum_of w t) (sum_of w u) (w (MulTerm t u))
sum_of w t = w t

-- the same values, but 0 for one unknown
abbrev pub without : TermData → Values → Values
without x w u = cond (same_term u x) (pos 0) (w u)

-- ---- a value is that without an unknown, plus the unknown's coefficient times its value

leaf_case : (x t : TermData) (w : Values) (c : ℤ) (b : Bool) → same_term t x ≡ b → cond b (Some (pos 1)) (Some (pos 0)) ≡ Some c → w t ≡ cond b (pos 0) (w t) +ℤ c *ℤ w x
leaf_case x t w c true e k =
    let is_one : pos 1 ≡ c = cc in
    let same : w t ≡ w x = ap w (same_term-equal t x e) in
    let once : c *ℤ w x ≡ w x = ap (λ z. z *ℤ w x) (sym is_one) ∙ one_mul (w x) in
    omega (arith, ints)
leaf_case x t w c false e k =
    let is_none : pos 0 ≡ c = cc in
    let none : c *ℤ w x ≡ pos 0 = ap (λ z. z *ℤ w x) (sym is_none) ∙ zero-*ℤ (w x) in
    omega (arith, ints)

-- a term that is no sum is an unknown
leaf : (x t : TermData) (w : Values) (c : ℤ) → unknown_weight (Some x) t ≡ Some c → w t ≡ without x w t +ℤ c *ℤ w x
leaf x t w c k = leaf_case x t w c (same_term t x) refl k

numeral : (x : TermData) (w : Values) (i c : ℤ) → Some (pos 0) ≡ Some c → i ≡ i +ℤ c *ℤ w x
numeral x w i c k =
    let is_none : pos 0 ≡ c = cc in
    let none : c *ℤ w x ≡ pos 0 = ap (λ z. z *ℤ w x) (sym is_none) ∙ zero-*ℤ (w x) in
    omega (arith, ints)

-- a value a is that without the unknown, a', plus the coefficient of the unknown times its value v
abbrev Splits : Option ℤ → ℤ → ℤ → ℤ → Type 0
Splits part v a a' = (c : ℤ) → part ≡ Some c → a ≡ a' +ℤ c *ℤ v

sums : (x y : Option ℤ) (v a a' b b' c : ℤ) → Splits x v a a' → Splits y v b b' → kept_of ◌+ℤ◌ x y ≡ Some c → a +ℤ b ≡ (a' +ℤ b') +ℤ c *ℤ v
sums x y v a a' b b' c left right e =
    let k = kept_of_exact ◌+ℤ◌ x y c e in
    let l : a ≡ a' +ℤ k.left *ℤ v = left k.left k.is_left in
    let r : b ≡ b' +ℤ k.right *ℤ v = right k.right k.is_right in
    let both : c *ℤ v ≡ k.left *ℤ v +ℤ k.right *ℤ v = ap (λ z. z *ℤ v) (sym k.exact) ∙ add_mul k.left k.right v in
    omega (arith, ints, l, r, both)

differences : (x y : Option ℤ) (v a a' b b' c : ℤ) → Splits x v a a' → Splits y v b b' → kept_of ◌-ℤ◌ x y ≡ Some c → a -ℤ b ≡ (a' -ℤ b') +ℤ c *ℤ v
differences x y v a a' b b' c left right e =
    let k = kept_of_exact ◌-ℤ◌ x y c e in
    let l : a ≡ a' +ℤ k.left *ℤ v = left k.left k.is_left in
    let r : b ≡ b' +ℤ k.right *ℤ v = right k.right k.is_right in
    let both : c *ℤ v ≡ k.left *ℤ v -ℤ k.right *ℤ v = ap (λ z. z *ℤ v) (sym k.exact) ∙ sub_mul k.left k.right v in
    omega (arith, ints, l, r, both)

multiples : (m : ℤ) (x : Option ℤ) (v a a' c : ℤ) → Splits x v a a' → kept_of ◌*ℤ◌ (Some m) x ≡ Some c → m *ℤ a ≡ m *ℤ a' +ℤ c *ℤ v
multiples m x v a a' c part e =
    let k = kept_of_exact ◌*ℤ◌ (Some m) x c e in
    let is_m : m ≡ k.left = cc in
    let r : a ≡ a' +ℤ k.right *ℤ v = part k.right k.is_right in
    let exact : m *ℤ k.right ≡ c = ap (λ z. z *ℤ k.right) is_m ∙ k.exact in
    ap (λ z. m *ℤ z) r ∙ mul_add m a' (k.right *ℤ v) ∙ ap (λ z. m *ℤ a' +ℤ z) (sym (mul_assoc m k.right v) ∙ ap (λ z. z *ℤ v) exact)

products : (l r x y : Option ℤ) (z : Option ℤ) (v a a' b b' d d' c : ℤ) → Splits x v a a' → Splits y v b b' → Splits z v d d' → product_weight l r x y z ≡ Some c → sum_product l r a b d ≡ sum_product l r a' b' d' +ℤ c *ℤ v
products (Some m) r x y z v a a' b b' d d' c left right whole e = multiples m y v b b' c right e
products None (Some m) x y z v a a' b b' d d' c left right whole e = multiples m x v a a' c left e
products None None x y z v a a' b b' d d' c left right whole e = whole c e

pub splits : (x : TermData) (w : Values) (t : TermData) (c : ℤ) → weight (Some x) t ≡ Some c → sum_of w t ≡ sum_of (without x w) t +ℤ c *ℤ w x
splits x w (ConstantTerm (Num i)) c e = numeral x w i c e
splits x w (BinaryTerm Add t u) c e = sums (weight (Some x) t) (weight (Some x) u) (w x) _ _ _ _ c (splits x w t) (splits x w u) e
splits x w (BinaryTerm Sub t u) c e =
    differences (weight (Some x) t) (weight (Some x) u) (w x) _ _ _ _ c (splits x w t) (splits x w u) e
splits x w (BinaryTerm Mul t u) c e =
    products (numeral_of t) (numeral_of u) (weight (Some x) t) (weight (Some x) u) (unknown_weight (Some x) (MulTerm t u)) (w x) _ _ _ _ _ _ c (splits x w t) (splits x w u) (leaf x (MulTerm t u) w) e
splits x w t c e = leaf x t w c e

-- ---- if each unknown has the value 0, a term has its constant part as its value

zero_sums : (op : ℤ → ℤ → ℤ) (x y : Option ℤ) (a b k : ℤ) → ((j : ℤ) → x ≡ Some j → a ≡ j) → ((j : ℤ) → y ≡ Some j → b ≡ j) → kept_of op x y ≡ Some k → op a b ≡ k
zero_sums op x y a b k left right e =
    let h = kept_of_exact op x y k e in
    (λ i. op (left h.left h.is_left i) (right h.right h.is_right i)) ∙ h.exact

zero_multiples : (m : ℤ) (x : Option ℤ) (a k : ℤ) → ((j : ℤ) → x ≡ Some j → a ≡ j) → kept_of ◌*ℤ◌ (Some m) x ≡ Some k → m *ℤ a ≡ k
zero_multiples m x a k part e = zero_sums ◌*ℤ◌ (Some m) x m a k (λ j f. cc) part e

zero_products : (l r x y z : Option ℤ) (P Q R : Type 0) (a b d k : ℤ) → (P → (j : ℤ) → x ≡ Some j → a ≡ j) → (Q → (j : ℤ) → y ≡ Some j → b ≡ j) → (R → (j : ℤ) → z ≡ Some j → d ≡ j) → EachOfProduct l r P Q R → product_weight l r x y z ≡ Some k → sum_product l r a b d ≡ k
zero_products (Some m) r x y z P Q R a b d k left right whole h e = zero_multiples m y b k (right h) e
zero_products None (Some m) x y z P Q R a b d k left right whole h e = zero_multiples m x a k (left h) e
zero_products None None x y z P Q R a b d k left right whole h e = whole h k e

-- a term that is no sum has the constant part 0
zero_leaf : (a j : ℤ) → a ≡ pos 0 → Some (pos 0) ≡ Some j → a ≡ j
zero_leaf a j h e = cc

pub constant : (w : Values) (t : TermData) → EachUnknown (λ u. w u ≡ pos 0) t → (k : ℤ) → weight None t ≡ Some k → sum_of w t ≡ k
constant w (ConstantTerm (Num i)) h k e = kept_exact i k e
constant w (BinaryTerm Add t u) h k e =
    zero_sums ◌+ℤ◌ (weight None t) (weight None u) _ _ k (constant w t h.0) (constant w u h.1) e
constant w (BinaryTerm Sub t u) h k e =
    zero_sums ◌-ℤ◌ (weight None t) (weight None u) _ _ k (constant w t h.0) (constant w u h.1) e
constant w (BinaryTerm Mul t u) h k e =
    zero_products (numeral_of t) (numeral_of u) (weight None t) (weight None u) (Some (pos 0)) _ _ _ _ _ _ k (constant w t) (constant w u) (λ z j f. zero_leaf _ j z f) h e
constant w t h k e = zero_leaf (w t) k h e

-- ---- all unknowns of a term set to 0

abbrev pub without_product : Option ℤ → Option ℤ → Values → Values → Values → Values
without_product (Some c) right left_gone right_gone whole_gone = right_gone
without_product None (Some c) left_gone right_gone whole_gone = left_gone
without_product None None left_gone right_gone whole_gone = whole_gone

-- the same values, but 0 for each unknown of a term
abbrev pub without_all : TermData → Values → Values
without_all (ConstantTerm (Num i)) w = w
without_all (BinaryTerm Add t u) w = without_all t (without_all u w)
without_all (BinaryTerm Sub t u) w = without_all t (without_all u w)
without_all (BinaryTerm Mul t u) w =
    without_product (numeral_of t) (numeral_of u) (without_all t w) (without_all u w) (without (MulTerm t u) w)
without_all t w = without t w

-- a property of values still holds when one more unknown is 0
abbrev pub IsKeptWithout : (Values → Type 0) → Type 0
IsKeptWithout Q = (x : TermData) (w : Values) → Q w → Q (without x w)

product_kept : (Q : Values → Type 0) (l r : Option ℤ) (f g h : Values) → Q f → Q g → Q h → Q (without_product l r f g h)
product_kept Q (Some c) r f g h p q s = q
product_kept Q None (Some c) f g h p q s = p
product_kept Q None None f g h p q s = s

pub without_all-kept : (Q : Values → Type 0) → IsKeptWithout Q → (t : TermData) (w : Values) → Q w → Q (without_all t w)
without_all-kept Q k (ConstantTerm (Num i)) w q = q
without_all-kept Q k (BinaryTerm Add t u) w q = without_all-kept Q k t (without_all u w) (without_all-kept Q k u w q)
without_all-kept Q k (BinaryTerm Sub t u) w q = without_all-kept Q k t (without_all u w) (without_all-kept Q k u w q)
without_all-kept Q k (BinaryTerm Mul t u) w q =
    product_kept Q (numeral_of t) (numeral_of u) _ _ _ (without_all-kept Q k t w q) (without_all-kept Q k u w q) (k (MulTerm t u) w q)
without_all-kept Q k t w q = k t w q

zero_cases : (b : Bool) (z : ℤ) → z ≡ pos 0 → cond b (pos 0) z ≡ pos 0
zero_cases true z e = refl
zero_cases false z e = e

-- an unknown that is 0 remains so
pub zero_kept : (u : TermData) → IsKeptWithout (λ w. w u ≡ pos 0)
zero_kept u x w e = zero_cases (same_term u x) (w u) e

-- the same for each unknown of a term
each_product : (l r : Option ℤ) (P Q R P' Q' R' : Type 0) → (P → P') → (Q → Q') → (R → R') → EachOfProduct l r P Q R → EachOfProduct l r P' Q' R'
each_product (Some c) r P Q R P' Q' R' f g h e = g e
each_product None (Some c) P Q R P' Q' R' f g h e = f e
each_product None None P Q R P' Q' R' f g h e = h e

pub EachUnknown-map : (P Q : TermData → Type 0) → ((u : TermData) → P u → Q u) → (t : TermData) → EachUnknown P t → EachUnknown Q t
EachUnknown-map P Q f (ConstantTerm (Num i)) h = tt
EachUnknown-map P Q f (BinaryTerm Add t u) h = (EachUnknown-map P Q f t h.0, EachUnknown-map P Q f u h.1)
EachUnknown-map P Q f (BinaryTerm Sub t u) h = (EachUnknown-map P Q f t h.0, EachUnknown-map P Q f u h.1)
EachUnknown-map P Q f (BinaryTerm Mul t u) h =
    each_product (numeral_of t) (numeral_of u) _ _ _ _ _ _ (EachUnknown-map P Q f t) (EachUnknown-map P Q f u) (f (MulTerm t u)) h
EachUnknown-map P Q f t h = f t h

pub zeros_kept : (t : TermData) → IsKeptWithout (λ w. EachUnknown (λ u. w u ≡ pos 0) t)
zeros_kept t x w h = EachUnknown-map (λ u. w u ≡ pos 0) (λ u. without x w u ≡ pos 0) (λ u e. zero_kept u x w e) t h

-- each unknown of the term is 0
gone_leaf : (x : TermData) (w : Values) (b : Bool) → same_term x x ≡ b → cond b (pos 0) (w x) ≡ pos 0
gone_leaf x w true e = refl
gone_leaf x w false e = let t = same_term_itself x in absurd (cc)

product_gone : (l r : Option ℤ) (P Q R : Values → Type 0) (f g h : Values) → P f → Q g → R h → EachOfProduct l r (P (without_product l r f g h)) (Q (without_product l r f g h)) (R (without_product l r f g h))
product_gone (Some c) r P Q R f g h p q s = q
product_gone None (Some c) P Q R f g h p q s = p
product_gone None None P Q R f g h p q s = s

pub without_all-gone : (t : TermData) (w : Values) → EachUnknown (λ u. without_all t w u ≡ pos 0) t
without_all-gone (ConstantTerm (Num i)) w = tt
without_all-gone (BinaryTerm Add t u) w =
    (without_all-gone t (without_all u w), without_all-kept (λ v. EachUnknown (λ x. v x ≡ pos 0) u) (zeros_kept u) t (without_all u w) (without_all-gone u w))
without_all-gone (BinaryTerm Sub t u) w =
    (without_all-gone t (without_all u w), without_all-kept (λ v. EachUnknown (λ x. v x ≡ pos 0) u) (zeros_kept u) t (without_all u w) (without_all-gone u w))
without_all-gone (BinaryTerm Mul t u) w =
    product_gone (numeral_of t) (numeral_of u) (λ v. EachUnknown (λ x. v x ≡ pos 0) t) (λ v. EachUnknown (λ x. v x ≡ pos 0) u) (λ v. v (MulTerm t u) ≡ pos 0) _ _ _ (without_all-gone t w) (without_all-gone u w) (gone_leaf (MulTerm t u) w (same_term (MulTerm t u) (MulTerm t u)) refl)
without_all-gone t w = gone_leaf t w (same_term t t) refl
