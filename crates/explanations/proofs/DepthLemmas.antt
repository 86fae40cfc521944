-- The depth of an item increases with those of its parts.
use Rattle.std.proofs.Common.{◌≡◌, ℕ, ◌+◌, ◌≤◌, max, List, [], ◌∷◌, ap, ◌∙◌, arith}
use Rattle.fol.specs.FormulaData.{VarTerm, ConstantTerm, UnaryTerm, BinaryTerm, TernaryTerm, PackTerm, FieldTerm, SetFieldTerm, IfTerm}
use Rattle.term_pool.specs.Items.{Item, TermItem, Sort, TermSort, sort_of, one_item, two_item, three_item, one_part, first_of_two, second_of_two, first_of_three, second_of_three, third_of_three}
use Rattle.term_pool.specs.Pools.{item_at}
use Rattle.term_pool.specs.Depths.{item_depth, one_steps, two_steps}
use Rattle.term_pool.specs.declared.node.One.{One}
use Rattle.term_pool.specs.declared.node.One.TheVariants.{Unary, Holds, Not, Join, TypeVector, TypeShared, TypeMutable, TypeTuple, ConsByte}
use Rattle.term_pool.specs.declared.node.Two.{Two}
use Rattle.term_pool.specs.declared.node.Two.TheVariants.{Binary, Pack, Field, Compare, Is, Connect, Quantify, ConsTerm, ConsTrigger, ConsFormula, ConsType}
use Rattle.term_pool.specs.declared.node.Three.{Three}
use Rattle.term_pool.specs.declared.node.Three.TheVariants.{Ternary, SetField, If, TypeStruct}
use Rattle.term_pool.specs.declared.node.Node.{Node}
use Rattle.term_pool.proofs.ShapeLemmas.{a_term, a_list_of_terms, a_list_of_triggers, a_formula, a_list_of_formulas, a_type, a_list_of_types, bytes}
use Rattle.explanations.specs.Frames.{frame_item, filled, open_sort, HasOthers, Leads}
use Rattle.explanations.specs.declared.frame.Frame.{Frame}
use Rattle.explanations.specs.declared.frame.Frame.TheVariants.{Only, FirstOfTwo, SecondOfTwo, FirstOfThree, SecondOfThree, ThirdOfThree}
use Rattle.explanations.proofs.FrameLemmas.{filled_sorted}

pub one_depth : (h : One) (x : Item) → sort_of x ≡ one_part h → item_depth (one_item h x) ≡ one_steps h + item_depth x
one_depth (Unary o) x e = ap (λ y. 1 + item_depth y) (a_term x e)
one_depth Holds x e = ap (λ y. 1 + item_depth y) (a_term x e)
one_depth Not x e = ap (λ y. 1 + item_depth y) (a_formula x e)
one_depth (Join o) x e = ap (λ y. 1 + item_depth y) (a_list_of_formulas x e)
one_depth TypeVector x e = ap (λ y. 1 + item_depth y) (a_type x e)
one_depth TypeShared x e = ap (λ y. 1 + item_depth y) (a_type x e)
one_depth TypeMutable x e = ap (λ y. 1 + item_depth y) (a_type x e)
one_depth TypeTuple x e = ap (λ y. 1 + item_depth y) (a_list_of_types x e)
one_depth (ConsByte b) x e = ap item_depth (bytes x e) ∙ omega arith

-- one more than the greater depth, and the greater depth
one_more : (x y u v : Item) → x ≡ u → y ≡ v → 1 + max (item_depth x) (item_depth y) ≡ 1 + max (item_depth u) (item_depth v)
one_more x y u v e f = λ i. 1 + max (item_depth (e i)) (item_depth (f i))

beside : (x y u v : Item) → x ≡ u → y ≡ v → max (item_depth x) (item_depth y) ≡ 0 + max (item_depth u) (item_depth v)
beside x y u v e f = (λ i. max (item_depth (e i)) (item_depth (f i))) ∙ omega arith

pub two_depth : (h : Two) (x y : Item) → sort_of x ≡ first_of_two h → sort_of y ≡ second_of_two h → item_depth (two_item h x y) ≡ two_steps h + max (item_depth x) (item_depth y)
two_depth (Binary o) x y e f = one_more _ _ x y (a_term x e) (a_term y f)
two_depth Pack x y e f = one_more _ _ x y (a_type x e) (a_list_of_terms y f)
two_depth (Field k) x y e f = one_more _ _ x y (a_type x e) (a_term y f)
two_depth (Compare o) x y e f = one_more _ _ x y (a_term x e) (a_term y f)
two_depth Is x y e f = one_more _ _ x y (a_type x e) (a_term y f)
two_depth (Connect o) x y e f = one_more _ _ x y (a_formula x e) (a_formula y f)
two_depth (Quantify o n) x y e f = one_more _ _ x y (a_list_of_triggers x e) (a_formula y f)
two_depth ConsTerm x y e f = beside _ _ x y (a_term x e) (a_list_of_terms y f)
two_depth ConsTrigger x y e f = beside _ _ x y (a_list_of_terms x e) (a_list_of_triggers y f)
two_depth ConsFormula x y e f = beside _ _ x y (a_formula x e) (a_list_of_formulas y f)
two_depth ConsType x y e f = beside _ _ x y (a_type x e) (a_list_of_types y f)

over : (x y z u v w : Item) → x ≡ u → y ≡ v → z ≡ w → 1 + max (item_depth x) (max (item_depth y) (item_depth z)) ≡ 1 + max (item_depth u) (max (item_depth v) (item_depth w))
over x y z u v w e f g = λ i. 1 + max (item_depth (e i)) (max (item_depth (f i)) (item_depth (g i)))

no_depth : (d : ℕ) → 1 + d ≡ 1 + max 0 (max 0 d)
no_depth d = omega arith

pub three_depth : (h : Three) (x y z : Item) → sort_of x ≡ first_of_three h → sort_of y ≡ second_of_three h → sort_of z ≡ third_of_three h → item_depth (three_item h x y z) ≡ 1 + max (item_depth x) (max (item_depth y) (item_depth z))
three_depth (Ternary o) x y z e f g = over _ _ _ x y z (a_term x e) (a_term y f) (a_term z g)
three_depth (SetField k) x y z e f g = over _ _ _ x y z (a_type x e) (a_term y f) (a_term z g)
three_depth If x y z e f g = over _ _ _ x y z (a_formula x e) (a_term y f) (a_term z g)
three_depth (TypeStruct a) x y z e f g = no_depth _ ∙ over _ _ _ x y z (bytes x e) (bytes y f) (a_list_of_types z g)

-- ---- a term is some levels deep

pub some_depth : (x : Item) → sort_of x ≡ TermSort → 1 ≤ item_depth x
some_depth (TermItem (VarTerm n)) e = omega arith
some_depth (TermItem (ConstantTerm c)) e = omega arith
some_depth (TermItem (UnaryTerm o t)) e = omega arith
some_depth (TermItem (BinaryTerm o t u)) e = omega arith
some_depth (TermItem (TernaryTerm o t u v)) e = omega arith
some_depth (TermItem (PackTerm a ts)) e = omega arith
some_depth (TermItem (FieldTerm a k t)) e = omega arith
some_depth (TermItem (SetFieldTerm a k t u)) e = omega arith
some_depth (TermItem (IfTerm p t u)) e = omega arith
some_depth _ e = absurd (cc)

-- ---- a deeper part

one_deeper : (s x y m n : ℕ) → x ≡ s + m → y ≡ s + n → m ≤ n → x ≤ y
one_deeper s x y m n e f h = omega arith

first_deeper : (s x y m n o : ℕ) → x ≡ s + max m o → y ≡ s + max n o → m ≤ n → x ≤ y
first_deeper s x y m n o e f h = omega arith

second_deeper : (s x y m n o : ℕ) → x ≡ s + max o m → y ≡ s + max o n → m ≤ n → x ≤ y
second_deeper s x y m n o e f h = omega arith

first_of_three_deeper : (x y m n o p : ℕ) → x ≡ 1 + max m (max o p) → y ≡ 1 + max n (max o p) → m ≤ n → x ≤ y
first_of_three_deeper x y m n o p e f h = omega arith

second_of_three_deeper : (x y m n o p : ℕ) → x ≡ 1 + max o (max m p) → y ≡ 1 + max o (max n p) → m ≤ n → x ≤ y
second_of_three_deeper x y m n o p e f h = omega arith

third_of_three_deeper : (x y m n o p : ℕ) → x ≡ 1 + max o (max p m) → y ≡ 1 + max o (max p n) → m ≤ n → x ≤ y
third_of_three_deeper x y m n o p e f h = omega arith

frame_deeper : (ns : List Node) (f : Frame) → HasOthers ns f → (x y : Item) → sort_of x ≡ open_sort f → sort_of y ≡ open_sort f → item_depth x ≤ item_depth y → item_depth (frame_item ns f x) ≤ item_depth (frame_item ns f y)
frame_deeper ns (Only h) o x y e f l = one_deeper (one_steps h) _ _ _ _ (one_depth h x e) (one_depth h y f) l
frame_deeper ns (FirstOfTwo h b) o x y e f l = first_deeper (two_steps h) _ _ _ _ _ (two_depth h x (item_at ns b) e o.sort) (two_depth h y (item_at ns b) f o.sort) l
frame_deeper ns (SecondOfTwo h a) o x y e f l = second_deeper (two_steps h) _ _ _ _ _ (two_depth h (item_at ns a) x o.sort e) (two_depth h (item_at ns a) y o.sort f) l
frame_deeper ns (FirstOfThree h b c) o x y e f l = first_of_three_deeper _ _ _ _ _ _ (three_depth h x (item_at ns b) (item_at ns c) e o.0.sort o.1.sort) (three_depth h y (item_at ns b) (item_at ns c) f o.0.sort o.1.sort) l
frame_deeper ns (SecondOfThree h a c) o x y e f l = second_of_three_deeper _ _ _ _ _ _ (three_depth h (item_at ns a) x (item_at ns c) o.0.sort e o.1.sort) (three_depth h (item_at ns a) y (item_at ns c) o.0.sort f o.1.sort) l
frame_deeper ns (ThirdOfThree h a b) o x y e f l = third_of_three_deeper _ _ _ _ _ _ (three_depth h (item_at ns a) (item_at ns b) x o.0.sort o.1.sort e) (three_depth h (item_at ns a) (item_at ns b) y o.0.sort o.1.sort f) l

pub filled_deeper : (ns : List Node) (top end : Sort) (way : List Frame) → Leads ns top way end → (x y : Item) → sort_of x ≡ end → sort_of y ≡ end → item_depth x ≤ item_depth y → item_depth (filled ns way x) ≤ item_depth (filled ns way y)
filled_deeper ns top end [] l x y e f h = h
filled_deeper ns top end (d ∷ ds) l x y e f h =
    frame_deeper ns d l.1 (filled ns ds x) (filled ns ds y) (filled_sorted ns (open_sort d) end ds l.2 x e) (filled_sorted ns (open_sort d) end ds l.2 y f) (filled_deeper ns (open_sort d) end ds l.2 x y e f h)
