-- Upper bounds of the variables of an item, by its head symbol and its parts.
use Rattle.std.proofs.Common.{◌≡◌, ℕ, suc, ◌≤◌, max, List, [], ◌∷◌, ap, ◌∙◌, arith}
use Rattle.certificates.specs.Names.{above_term, above_terms, above_triggers, above, above_formulas}
use Rattle.term_pool.specs.Items.{Item, NoItem, TermItem, TermsItem, TriggersItem, FormulaItem, FormulasItem, TypeItem, TypesItem, BytesItem, Sort, sort_of, one_item, two_item, three_item, one_part, first_of_two, second_of_two, first_of_three, second_of_three, third_of_three}
use Rattle.term_pool.specs.Pools.{item_at}
use Rattle.term_pool.specs.declared.node.One.{One}
use Rattle.term_pool.specs.declared.node.One.TheVariants.{Unary, Holds, Not, Join, TypeVector, TypeShared, TypeMutable, TypeTuple, ConsByte}
use Rattle.term_pool.specs.declared.node.Two.{Two}
use Rattle.term_pool.specs.declared.node.Two.TheVariants.{Binary, Pack, Field, Compare, Is, Connect, Quantify, ConsTerm, ConsTrigger, ConsFormula, ConsType}
use Rattle.term_pool.specs.declared.node.Three.{Three}
use Rattle.term_pool.specs.declared.node.Three.TheVariants.{Ternary, SetField, If, TypeStruct}
use Rattle.term_pool.specs.declared.node.Node.{Node}
use Rattle.term_pool.proofs.ShapeLemmas.{a_term, a_list_of_terms, a_list_of_triggers, a_formula, a_list_of_formulas, a_type, a_list_of_types, bytes}
use Rattle.explanations.specs.declared.frame.Frame.{Frame}
use Rattle.explanations.specs.declared.frame.Frame.TheVariants.{Only, FirstOfTwo, SecondOfTwo, FirstOfThree, SecondOfThree, ThirdOfThree}
use Rattle.explanations.specs.Frames.{frame_item, filled, open_sort, HasOthers, Leads}
use Rattle.explanations.proofs.FrameLemmas.{filled_sorted}

abbrev pub above_item : Item → ℕ
above_item NoItem = 0
above_item (TermItem t) = above_term t
above_item (TermsItem ts) = above_terms ts
above_item (TriggersItem ts) = above_triggers ts
above_item (FormulaItem p) = above p
above_item (FormulasItem ps) = above_formulas ps
above_item (TypeItem a) = 0
above_item (TypesItem ts) = 0
above_item (BytesItem bs) = 0

-- the number above the variable that the head symbol binds
abbrev pub above_head : Two → ℕ
above_head (Quantify o n) = suc n
above_head _ = 0

-- ---- by head symbols

one_above : (h : One) (x : Item) → sort_of x ≡ one_part h → above_item (one_item h x) ≡ above_item x
one_above (Unary o) x e = ap above_item (a_term x e)
one_above Holds x e = ap above_item (a_term x e)
one_above Not x e = ap above_item (a_formula x e)
one_above (Join o) x e = ap above_item (a_list_of_formulas x e)
one_above TypeVector x e = ap above_item (a_type x e)
one_above TypeShared x e = ap above_item (a_type x e)
one_above TypeMutable x e = ap above_item (a_type x e)
one_above TypeTuple x e = ap above_item (a_list_of_types x e)
one_above (ConsByte b) x e = ap above_item (bytes x e)

both : (m n a c : ℕ) → m ≡ a → n ≡ c → max m n ≡ max 0 (max a c)
both m n a c e f = omega arith

only_second : (n a c : ℕ) → 0 ≡ a → n ≡ c → n ≡ max 0 (max a c)
only_second n a c e f = omega arith

neither : (a c : ℕ) → 0 ≡ a → 0 ≡ c → 0 ≡ max 0 (max a c)
neither a c e f = omega arith

two_above : (h : Two) (x y : Item) → sort_of x ≡ first_of_two h → sort_of y ≡ second_of_two h → above_item (two_item h x y) ≡ max (above_head h) (max (above_item x) (above_item y))
two_above (Binary o) x y e f = both _ _ (above_item x) (above_item y) (ap above_item (a_term x e)) (ap above_item (a_term y f))
two_above Pack x y e f = only_second _ (above_item x) (above_item y) (ap above_item (a_type x e)) (ap above_item (a_list_of_terms y f))
two_above (Field k) x y e f = only_second _ (above_item x) (above_item y) (ap above_item (a_type x e)) (ap above_item (a_term y f))
two_above (Compare o) x y e f = both _ _ (above_item x) (above_item y) (ap above_item (a_term x e)) (ap above_item (a_term y f))
two_above Is x y e f = only_second _ (above_item x) (above_item y) (ap above_item (a_type x e)) (ap above_item (a_term y f))
two_above (Connect o) x y e f = both _ _ (above_item x) (above_item y) (ap above_item (a_formula x e)) (ap above_item (a_formula y f))
two_above (Quantify o n) x y e f = λ i. max (suc n) (max (above_item (a_list_of_triggers x e i)) (above_item (a_formula y f i)))
two_above ConsTerm x y e f = both _ _ (above_item x) (above_item y) (ap above_item (a_term x e)) (ap above_item (a_list_of_terms y f))
two_above ConsTrigger x y e f = both _ _ (above_item x) (above_item y) (ap above_item (a_list_of_terms x e)) (ap above_item (a_list_of_triggers y f))
two_above ConsFormula x y e f = both _ _ (above_item x) (above_item y) (ap above_item (a_formula x e)) (ap above_item (a_list_of_formulas y f))
two_above ConsType x y e f = neither (above_item x) (above_item y) (ap above_item (a_type x e)) (ap above_item (a_list_of_types y f))

last_two : (m n a c d : ℕ) → 0 ≡ a → m ≡ c → n ≡ d → max m n ≡ max a (max c d)
last_two m n a c d e f g = omega arith

three_above : (h : Three) (x y z : Item) → sort_of x ≡ first_of_three h → sort_of y ≡ second_of_three h → sort_of z ≡ third_of_three h → above_item (three_item h x y z) ≡ max (above_item x) (max (above_item y) (above_item z))
three_above (Ternary o) x y z e f g = λ i. max (above_item (a_term x e i)) (max (above_item (a_term y f i)) (above_item (a_term z g i)))
three_above (SetField k) x y z e f g = last_two _ _ (above_item x) (above_item y) (above_item z) (ap above_item (a_type x e)) (ap above_item (a_term y f)) (ap above_item (a_term z g))
three_above If x y z e f g = λ i. max (above_item (a_formula x e i)) (max (above_item (a_term y f i)) (above_item (a_term z g i)))
three_above (TypeStruct a) x y z e f g = λ i. max (above_item (bytes x e i)) (max (above_item (bytes y f i)) (above_item (a_list_of_types z g i)))

-- ---- head symbols with a hole

-- above the variables of all parts but the hole
abbrev pub above_others : List Node → Frame → ℕ
above_others ns (Only h) = 0
above_others ns (FirstOfTwo h b) = max (above_head h) (above_item (item_at ns b))
above_others ns (SecondOfTwo h a) = max (above_head h) (above_item (item_at ns a))
above_others ns (FirstOfThree h b c) = max (above_item (item_at ns b)) (above_item (item_at ns c))
above_others ns (SecondOfThree h a c) = max (above_item (item_at ns a)) (above_item (item_at ns c))
above_others ns (ThirdOfThree h a b) = max (above_item (item_at ns a)) (above_item (item_at ns b))

pub frame_above : (ns : List Node) (f : Frame) → HasOthers ns f → (x : Item) → sort_of x ≡ open_sort f → above_item (frame_item ns f x) ≡ max (above_others ns f) (above_item x)
frame_above ns (Only h) p x e = one_above h x e ∙ omega arith
frame_above ns (FirstOfTwo h b) p x e = two_above h x (item_at ns b) e p.sort ∙ omega arith
frame_above ns (SecondOfTwo h a) p x e = two_above h (item_at ns a) x p.sort e ∙ omega arith
frame_above ns (FirstOfThree h b c) p x e = three_above h x (item_at ns b) (item_at ns c) e p.0.sort p.1.sort ∙ omega arith
frame_above ns (SecondOfThree h a c) p x e = three_above h (item_at ns a) x (item_at ns c) p.0.sort e p.1.sort ∙ omega arith
frame_above ns (ThirdOfThree h a b) p x e = three_above h (item_at ns a) (item_at ns b) x p.0.sort p.1.sort e ∙ omega arith

-- a bound of the variables of a context with one part and of another part bounds those of the context with the other
-- part
pub above_filled : (ns : List Node) (v : ℕ) (top end : Sort) (fs : List Frame) → Leads ns top fs end → (x y : Item) → sort_of x ≡ end → sort_of y ≡ end → above_item (filled ns fs x) ≤ v → above_item y ≤ v → above_item (filled ns fs y) ≤ v
above_filled ns v top end [] l x y e f g h = h
above_filled ns v top end (k ∷ fs) l x y e f g h =
    let inner : Item = filled ns fs x in
    let other : Item = filled ns fs y in
    let was : above_item (frame_item ns k inner) ≤ v = g in
    let here : above_item (frame_item ns k inner) ≡ max (above_others ns k) (above_item inner) = frame_above ns k l.1 inner (filled_sorted ns (open_sort k) end fs l.2 x e) in
    let there : above_item (frame_item ns k other) ≡ max (above_others ns k) (above_item other) = frame_above ns k l.1 other (filled_sorted ns (open_sort k) end fs l.2 y f) in
    let rest : above_item other ≤ v = above_filled ns v (open_sort k) end fs l.2 x y e f (omega arith) h in
    omega arith
