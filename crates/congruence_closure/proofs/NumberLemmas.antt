-- The numbers for which nodes are made, as nodes are added.
use Rattle.std.proofs.Common.{◌≡◌, ◌⊎◌, inl, inr, ℕ, zero, suc, ◌+◌, ◌<◌, ◌≤◌, Bool, true, false, cond, nat_eq, List, [], ◌∷◌, ◌++◌, length, append_assoc, append-nil, Option, Some, None, Result, Ok, Err, IfOk, refl, sym, ap, ◌∙◌, subst, arith}
use Rattle.std.specs.Prelude.{slice_get, OnOk, IfSome}
use Rattle.std.specs.Map.{lookup}
use Rattle.std.proofs.lemmas.Bool.{cases_eq}
use Rattle.std.proofs.lemmas.Bool.Decides.{nat_tests}
use Rattle.std.proofs.lemmas.List.{get_or_append_left, get_or_push, length_push}
use Rattle.std.proofs.lemmas.Option.{slice_get_within}
use Rattle.term_pool.specs.Pools.{HasParts, IsMade, Extends}
use Rattle.term_pool.specs.declared.node.Leaf.{Leaf}
use Rattle.term_pool.specs.declared.node.Leaf.TheVariants.{Var, TypeParam}
use Rattle.term_pool.specs.declared.node.One.{One}
use Rattle.term_pool.specs.declared.node.One.TheVariants.{Not}
use Rattle.term_pool.specs.declared.node.Two.{Two}
use Rattle.term_pool.specs.declared.node.Three.{Three}
use Rattle.term_pool.specs.declared.node.Node.{Node}
use Rattle.term_pool.specs.declared.node.Node.TheVariants.{Leaf as LeafNode, One as OneNode, Two as TwoNode, Three as ThreeNode}
use Rattle.term_pool.proofs.GrowthLemmas.{extends_itself, extends_then}
use Rattle.congruence_closure.specs.Congruence.{IsWithin}
use Rattle.congruence_closure.specs.States.{IsPart}
use Rattle.congruence_closure.proofs.ListLemmas.{push_new, push_cases}
use Rattle.congruence_closure.specs.Trees.{BoundTree, LeafTree, among, leaf_tree}
use Rattle.congruence_closure.specs.Numbers.{number_at, renumbered, IsReal, IsNumbered, ByParts, Bound, Parameter, AreNumbered, IsMadeFor, AreMadeFor, StandsIn, Itself, InPart, AreMoreIn, IsNewFor, AreKnownFor, IsKnownFor}
use Rattle.congruence_closure.proofs.WalkLemmas.{kept, pushed, extends_more, some_same, none_some}

pub less_or : (m n : ℕ) → (m < n) ⊎ (n ≤ m)
less_or m zero = inr (omega arith)
less_or zero (suc n) = inl (omega arith)
less_or (suc m) (suc n) = elim (less_or m n) [ inl h ↦ inl (omega arith) | inr h ↦ inr (omega arith) ]

-- ---- what occurs in what

pub stands_then : {pool : List Node} {a b : ℕ} → StandsIn pool a b → {c : ℕ} → StandsIn pool b c → StandsIn pool a c
stands_then s Itself = s
stands_then s (InPart whole part n made o t) = InPart whole part n made o (stands_then s t)

pub stands_below : {pool : List Node} {whole part : ℕ} (n : Node) → IsMade pool whole n → IsPart part n → StandsIn pool part whole
stands_below {pool} {whole} {part} n made o = InPart whole part n made o Itself

part_earlier : (pool : List Node) (i : ℕ) (n : Node) (p : ℕ) → HasParts pool i n → IsPart p n → p < i
part_earlier pool i (LeafNode h) p m o = absurd o
part_earlier pool i (OneNode h a) p m o = subst (λ k. k < i) (sym o) m.earlier
part_earlier pool i (TwoNode h a b) p m (inl o) = subst (λ k. k < i) (sym o) m.0.earlier
part_earlier pool i (TwoNode h a b) p m (inr o) = subst (λ k. k < i) (sym o) m.1.earlier
part_earlier pool i (ThreeNode h a b c) p m (inl o) = subst (λ k. k < i) (sym o) m.0.earlier
part_earlier pool i (ThreeNode h a b c) p m (inr (inl o)) = subst (λ k. k < i) (sym o) m.1.earlier
part_earlier pool i (ThreeNode h a b c) p m (inr (inr o)) = subst (λ k. k < i) (sym o) m.2.earlier

if_some : {P Q : ℕ → Type 0} (r : Option ℕ) → ((k : ℕ) → P k → Q k) → IfSome r P → IfSome r Q
if_some (Some k) f h = f k h
if_some None f h = h

pub rest_less : (pool : List Node) (list : ℕ) (n : Node) (r : Option ℕ) → IsMade pool list n → IfSome r (λ rest. IsPart rest n) → IfSome r (λ rest. rest < list)
rest_less pool list n r m h = if_some r (λ k o. part_earlier pool list n k m.parts o) h

pub rest_inside : (pool : List Node) (list : ℕ) (n : Node) (r : Option ℕ) → IsMade pool list n → IfSome r (λ rest. IsPart rest n) → IfSome r (λ rest. StandsIn pool rest list)
rest_inside pool list n r m h = if_some r (λ k o. stands_below n m o) h

-- ---- nodes and numbers that remain

pub before_append : {X : Type 0} (xs ys : List X) (k : ℕ) (x : X) → k < length xs → slice_get (xs ++ ys) k ≡ Some x → slice_get xs k ≡ Some x
before_append [] ys k x w e = absurd (omega (arith, w))
before_append (y ∷ xs) ys zero x w e = e
before_append (y ∷ xs) ys (suc k) x w e = before_append xs ys k x (omega (arith, w)) e

was : (ns ms : List Node) → Extends ns ms → (i : ℕ) (n : Node) → i < length ns → slice_get ms i ≡ Some n → slice_get ns i ≡ Some n
was ns ms g i n w e = before_append ns g.more i n w (subst (λ ks. slice_get ks i ≡ Some n) g.is e)

module _ (numbers numbers2 more : List ℕ) (is : numbers2 ≡ numbers ++ more) where
  number_stays : (i : ℕ) → i < length numbers → number_at numbers2 i ≡ number_at numbers i
  number_stays i w = ap (λ ks. number_at ks i) is ∙ get_or_append_left numbers more 0 i w

  renumbered_stays : (n : Node) → IsWithin (length numbers) n → renumbered numbers2 n ≡ renumbered numbers n
  renumbered_stays (LeafNode h) w = refl
  renumbered_stays (OneNode h a) w = ap (OneNode h) (number_stays a w)
  renumbered_stays (TwoNode h a b) w = λ i. TwoNode h (number_stays a w.0 i) (number_stays b w.1 i)
  renumbered_stays (ThreeNode h a b c) w = λ i. ThreeNode h (number_stays a w.0 i) (number_stays b w.1 i) (number_stays c w.2 i)

pub part_within : (count : ℕ) (n : Node) (p : ℕ) → IsWithin count n → IsPart p n → p < count
part_within count (LeafNode h) p w i = absurd i
part_within count (OneNode h a) p w i = subst (λ k. k < count) (sym i) w
part_within count (TwoNode h a b) p w (inl i) = subst (λ k. k < count) (sym i) w.0
part_within count (TwoNode h a b) p w (inr i) = subst (λ k. k < count) (sym i) w.1
part_within count (ThreeNode h a b c) p w (inl i) = subst (λ k. k < count) (sym i) w.0
part_within count (ThreeNode h a b c) p w (inr (inl i)) = subst (λ k. k < count) (sym i) w.1
part_within count (ThreeNode h a b c) p w (inr (inr i)) = subst (λ k. k < count) (sym i) w.2

within_more : (m n : ℕ) (x : Node) → m ≤ n → IsWithin m x → IsWithin n x
within_more m n (LeafNode h) l w = tt
within_more m n (OneNode h a) l w = omega (arith, l, w)
within_more m n (TwoNode h a b) l w = (let v = w.0 in omega (arith, l, v), let u = w.1 in omega (arith, l, u))
within_more m n (ThreeNode h a b c) l w = (let v = w.0 in omega (arith, l, v), let u = w.1 in omega (arith, l, u), let t = w.2 in omega (arith, l, t))

module _ (pool ns ns2 : List Node) (numbers numbers2 more : List ℕ) (g : Extends ns ns2) (is : numbers2 ≡ numbers ++ more) (a : AreNumbered pool ns numbers) where
  pub stays : (i : ℕ) → i < length ns → number_at numbers2 i ≡ number_at numbers i
  stays i w = number_stays numbers numbers2 more is i (subst (λ k. i < k) (sym a.long) w)

  real_stays : (i : ℕ) → i < length ns → IsReal pool ns numbers i → IsReal pool ns2 numbers2 i
  real_stays i w r = record { made = λ n e. subst (λ k. IsMade pool k (LeafNode (TypeParam n))) (sym (stays i w)) (r.made n (was ns ns2 g i (LeafNode (TypeParam n)) w e)) }

  pub numbered_stays : (i : ℕ) → i < length ns → IsNumbered pool ns numbers i → IsNumbered pool ns2 numbers2 i
  numbered_stays i w (ByParts n f m r) =
      let within : IsWithin (length ns) n = a.parts i n f in
      let same : renumbered numbers2 n ≡ renumbered numbers n = renumbered_stays numbers numbers2 more is n (subst (λ k. IsWithin k n) (sym a.long) within) in
      ByParts n (kept ns ns2 g i n f) (subst (λ k. IsMade pool k (renumbered numbers2 n)) (sym (stays i w)) (subst (IsMade pool (number_at numbers i)) (sym same) m)) (λ p o. real_stays p (part_within (length ns) n p within o) (r p o))
  numbered_stays i w (Bound p n f h m) = Bound p n (kept ns ns2 g i (OneNode Not p) f) (kept ns ns2 g p (LeafNode (TypeParam n)) h) (subst (λ k. IsMade pool k (LeafNode (Var n))) (sym (stays i w)) m)
  numbered_stays i w (Parameter n f) = Parameter n (kept ns ns2 g i (LeafNode (TypeParam n)) f)

  pub made_stays : (number node : ℕ) → IsMadeFor pool ns numbers number node → IsMadeFor pool ns2 numbers2 number node
  made_stays number node m = record { within = extends_more ns ns2 g node m.within; is = stays node m.within ∙ m.is; real = real_stays node m.within m.real }

  pub all_stay : (known : ℕ → Option ℕ) → AreMadeFor pool ns numbers known → AreMadeFor pool ns2 numbers2 known
  all_stay known m = record { each = λ number node e. made_stays number node (m.each number node e) }

-- ---- one more node

last_or : (ns : List Node) (n : Node) (i : ℕ) → i < length (ns ++ n ∷ []) → (i < length ns) ⊎ (i ≡ length ns)
last_or ns n i w = elim (cases_eq i (length ns)) [ inl e ↦ inr e | inr d ↦ inl (let l = length_push ns n in omega (arith, w, l, d)) ]

module _ (pool ns : List Node) (numbers : List ℕ) (a : AreNumbered pool ns numbers) (n : Node) (number : ℕ) (w : IsWithin (length ns) n) (inside : number < length pool) where
  pub new_number : number_at (numbers ++ number ∷ []) (length ns) ≡ number
  new_number = get_or_push numbers number 0 (length ns) a.long

  more_in : IsNumbered pool (ns ++ n ∷ []) (numbers ++ number ∷ []) (length ns) → AreMoreIn pool number ns (ns ++ n ∷ []) numbers (numbers ++ number ∷ [])
  more_in new = record {
    numbered = record {
      long = length_push numbers number ∙ ap (λ k. k + 1) a.long ∙ sym (length_push ns n);
      parts = λ i m e. parts i m (push_cases ns n i m e);
      inside = λ i v. insides i (last_or ns n i v);
      numbered = λ i v. numbered i (last_or ns n i v);
    };
    nodes = pushed ns n;
    more = number ∷ [];
    is = refl;
    each = λ i low high. stand i low (last_or ns n i high);
  }
    where
      longer : length ns ≤ length (ns ++ n ∷ [])
      longer = let l = length_push ns n in omega (arith, l)

      parts : (i : ℕ) (m : Node) → (slice_get ns i ≡ Some m) ⊎ ((i ≡ length ns) × (m ≡ n)) → IsWithin (length (ns ++ n ∷ [])) m
      parts i m (inl e) = within_more (length ns) (length (ns ++ n ∷ [])) m longer (a.parts i m e)
      parts i m (inr e) = within_more (length ns) (length (ns ++ n ∷ [])) m longer (subst (IsWithin (length ns)) (sym e.1) w)

      old : (i : ℕ) → i < length ns → number_at (numbers ++ number ∷ []) i ≡ number_at numbers i
      old i v = stays pool ns (ns ++ n ∷ []) numbers (numbers ++ number ∷ []) (number ∷ []) (pushed ns n) refl a i v

      insides : (i : ℕ) → (i < length ns) ⊎ (i ≡ length ns) → number_at (numbers ++ number ∷ []) i < length pool
      insides i (inl v) = subst (λ k. k < length pool) (sym (old i v)) (a.inside i v)
      insides i (inr e) = subst (λ j. number_at (numbers ++ number ∷ []) j < length pool) (sym e) (subst (λ k. k < length pool) (sym new_number) inside)

      numbered : (i : ℕ) → (i < length ns) ⊎ (i ≡ length ns) → IsNumbered pool (ns ++ n ∷ []) (numbers ++ number ∷ []) i
      numbered i (inl v) = numbered_stays pool ns (ns ++ n ∷ []) numbers (numbers ++ number ∷ []) (number ∷ []) (pushed ns n) refl a i v (a.numbered i v)
      numbered i (inr e) = subst (IsNumbered pool (ns ++ n ∷ []) (numbers ++ number ∷ [])) (sym e) new

      stand : (i : ℕ) → length ns ≤ i → (i < length ns) ⊎ (i ≡ length ns) → StandsIn pool (number_at (numbers ++ number ∷ []) i) number
      stand i low (inl v) = absurd (omega (arith, low, v))
      stand i low (inr e) = subst (λ j. StandsIn pool (number_at (numbers ++ number ∷ []) j) number) (sym e) (subst (λ k. StandsIn pool k number) (sym new_number) Itself)

  new_for : IsNumbered pool (ns ++ n ∷ []) (numbers ++ number ∷ []) (length ns) → IsReal pool (ns ++ n ∷ []) (numbers ++ number ∷ []) (length ns) → IsNewFor pool number ns (ns ++ n ∷ []) numbers (numbers ++ number ∷ []) (length ns)
  new_for new real = record {
    more = more_in new;
    made = record { within = (let l = length_push ns n in omega (arith, l)); is = new_number; real = real };
  }

  -- a node whose parts have their numbers
  new_by : (p : Node) → IsMade pool number p → renumbered numbers n ≡ p → ((q : ℕ) → IsPart q n → IsReal pool ns numbers q) → IsNewFor pool number ns (ns ++ n ∷ []) numbers (numbers ++ number ∷ []) (length ns)
  new_by p m same real = new_for
      (ByParts n (push_new ns n) (subst (λ k. IsMade pool k (renumbered (numbers ++ number ∷ []) n)) (sym new_number) (subst (IsMade pool number) (sym renamed) m)) (λ q o. real_stays pool ns (ns ++ n ∷ []) numbers (numbers ++ number ∷ []) (number ∷ []) (pushed ns n) refl a q (part_within (length ns) n q w o) (real q o)))
      (record { made = λ k e. parameter k (some_same (sym (push_new ns n) ∙ e)) })
    where
      renamed : renumbered (numbers ++ number ∷ []) n ≡ p
      renamed = renumbered_stays numbers (numbers ++ number ∷ []) (number ∷ []) refl n (subst (λ k. IsWithin k n) (sym a.long) w) ∙ same

      parameter : (k : ℕ) → n ≡ LeafNode (TypeParam k) → IsMade pool (number_at (numbers ++ number ∷ []) (length ns)) (LeafNode (TypeParam k))
      parameter k e = subst (λ j. IsMade pool j (LeafNode (TypeParam k))) (sym new_number) (subst (IsMade pool number) (sym same ∙ ap (renumbered numbers) e) m)

made_inside : (pool : List Node) (number : ℕ) (n : Node) → IsMade pool number n → number < length pool
made_inside pool number n m = slice_get_within pool number n m.found

leaf_for : (pool ns : List Node) (numbers : List ℕ) (number : ℕ) (h : Leaf) → AreNumbered pool ns numbers → IsMade pool number (LeafNode h) → IsNewFor pool number ns (ns ++ LeafNode h ∷ []) numbers (numbers ++ number ∷ []) (length ns)
leaf_for pool ns numbers number h a m = new_by pool ns numbers a (LeafNode h) number tt (made_inside pool number (LeafNode h) m) (LeafNode h) m refl (λ q o. absurd o)

one_for : (pool ns : List Node) (numbers : List ℕ) (number : ℕ) (h : One) (x i : ℕ) → AreNumbered pool ns numbers → IsMade pool number (OneNode h x) → IsMadeFor pool ns numbers x i → IsNewFor pool number ns (ns ++ OneNode h i ∷ []) numbers (numbers ++ number ∷ []) (length ns)
one_for pool ns numbers number h x i a m p = new_by pool ns numbers a (OneNode h i) number p.within (made_inside pool number (OneNode h x) m) (OneNode h x) m (ap (OneNode h) p.is) (λ q o. subst (IsReal pool ns numbers) (sym o) p.real)

two_for : (pool ns : List Node) (numbers : List ℕ) (number : ℕ) (h : Two) (x y i j : ℕ) → AreNumbered pool ns numbers → IsMade pool number (TwoNode h x y) → IsMadeFor pool ns numbers x i → IsMadeFor pool ns numbers y j → IsNewFor pool number ns (ns ++ TwoNode h i j ∷ []) numbers (numbers ++ number ∷ []) (length ns)
two_for pool ns numbers number h x y i j a m p q = new_by pool ns numbers a (TwoNode h i j) number (p.within, q.within) (made_inside pool number (TwoNode h x y) m) (TwoNode h x y) m (λ k. TwoNode h (p.is k) (q.is k)) real
  where
    real : (part : ℕ) → IsPart part (TwoNode h i j) → IsReal pool ns numbers part
    real part (inl o) = subst (IsReal pool ns numbers) (sym o) p.real
    real part (inr o) = subst (IsReal pool ns numbers) (sym o) q.real

three_for : (pool ns : List Node) (numbers : List ℕ) (number : ℕ) (h : Three) (x y z i j l : ℕ) → AreNumbered pool ns numbers → IsMade pool number (ThreeNode h x y z) → IsMadeFor pool ns numbers x i → IsMadeFor pool ns numbers y j → IsMadeFor pool ns numbers z l → IsNewFor pool number ns (ns ++ ThreeNode h i j l ∷ []) numbers (numbers ++ number ∷ []) (length ns)
three_for pool ns numbers number h x y z i j l a m p q r = new_by pool ns numbers a (ThreeNode h i j l) number (p.within, q.within, r.within) (made_inside pool number (ThreeNode h x y z) m) (ThreeNode h x y z) m (λ k. ThreeNode h (p.is k) (q.is k) (r.is k)) real
  where
    real : (part : ℕ) → IsPart part (ThreeNode h i j l) → IsReal pool ns numbers part
    real part (inl o) = subst (IsReal pool ns numbers) (sym o) p.real
    real part (inr (inl o)) = subst (IsReal pool ns numbers) (sym o) q.real
    real part (inr (inr o)) = subst (IsReal pool ns numbers) (sym o) r.real

-- ---- consecutive walks

pub more_itself : (pool : List Node) (whole : ℕ) (ns : List Node) (numbers : List ℕ) → AreNumbered pool ns numbers → AreMoreIn pool whole ns ns numbers numbers
more_itself pool whole ns numbers a = record {
  numbered = a;
  nodes = extends_itself ns;
  more = [];
  is = sym (append-nil numbers);
  each = λ i low high. absurd (omega (arith, low, high));
}

pub more_then : {pool : List Node} {whole : ℕ} {ns ms ks : List Node} {numbers between after : List ℕ} → AreMoreIn pool whole ns ms numbers between → AreMoreIn pool whole ms ks between after → AreMoreIn pool whole ns ks numbers after
more_then {pool} {whole} {ns} {ms} {ks} {numbers} {between} {after} g h = record {
  numbered = h.numbered;
  nodes = extends_then g.nodes h.nodes;
  more = g.more ++ h.more;
  is = h.is ∙ ap (λ xs. xs ++ h.more) g.is ∙ append_assoc numbers g.more h.more;
  each = λ i low high. go i low high (less_or i (length ms));
}
  where
    go : (i : ℕ) → length ns ≤ i → i < length ks → (i < length ms) ⊎ (length ms ≤ i) → StandsIn pool (number_at after i) whole
    go i low high (inl w) = subst (λ k. StandsIn pool k whole) (sym (stays pool ms ks between after h.more h.nodes h.is g.numbered i w)) (g.each i low w)
    go i low high (inr w) = h.each i w high

pub more_under : {pool : List Node} {part whole : ℕ} {ns ms : List Node} {numbers between : List ℕ} → StandsIn pool part whole → AreMoreIn pool part ns ms numbers between → AreMoreIn pool whole ns ms numbers between
more_under s g = record { numbered = g.numbered; nodes = g.nodes; more = g.more; is = g.is; each = λ i low high. stands_then (g.each i low high) s }

pub known_itself : (pool : List Node) (whole : ℕ) (ns : List Node) (numbers : List ℕ) (known : ℕ → Option ℕ) → AreNumbered pool ns numbers → AreMadeFor pool ns numbers known → AreKnownFor pool whole ns ns numbers numbers known
known_itself pool whole ns numbers known a m = record { more = more_itself pool whole ns numbers a; all_made = m }

pub known_then : {pool : List Node} {part whole : ℕ} {ns ms ks : List Node} {numbers between after : List ℕ} {known known2 : ℕ → Option ℕ} → AreKnownFor pool whole ns ms numbers between known → StandsIn pool part whole → AreKnownFor pool part ms ks between after known2 → AreKnownFor pool whole ns ks numbers after known2
known_then g s h = record { more = more_then g.more (more_under s h.more); all_made = h.all_made }

pub known_under : {pool : List Node} {part whole : ℕ} {ns ms : List Node} {numbers between : List ℕ} {known : ℕ → Option ℕ} → StandsIn pool part whole → AreKnownFor pool part ns ms numbers between known → AreKnownFor pool whole ns ms numbers between known
known_under s g = record { more = more_under s g.more; all_made = g.all_made }

-- a node that was made for a number before
pub made_then : {pool : List Node} {whole number node : ℕ} {ns ms : List Node} {numbers between : List ℕ} → AreNumbered pool ns numbers → AreMoreIn pool whole ns ms numbers between → IsMadeFor pool ns numbers number node → IsMadeFor pool ms between number node
made_then {pool} {whole} {number} {node} {ns} {ms} {numbers} {between} a g m = made_stays pool ns ms numbers between g.more g.nodes g.is a number node m

known_new : {pool : List Node} {whole node : ℕ} {ns ms ks : List Node} {numbers between after : List ℕ} {known : ℕ → Option ℕ} → AreKnownFor pool whole ns ms numbers between known → IsNewFor pool whole ms ks between after node → IsKnownFor pool whole ns ks numbers after known node
known_new {pool} {whole} {node} {ns} {ms} {ks} {numbers} {between} {after} {known} g a = record {
  grown = record { more = more_then g.more a.more; all_made = all_stay pool ms ks between after a.more.more a.more.nodes a.more.is g.more.numbered known g.all_made };
  made = a.made;
}

-- the result of a call: the number of a node that was added at the end
new_result : {E : Type 0} (P : List Node → List ℕ → ℕ → Type 0) (ns ks : List Node) (numbers after : List ℕ) (node : Node) (number : ℕ) (r : Result ℕ E) → P (ns ++ node ∷ []) (numbers ++ number ∷ []) (length ns) → IfOk r (λ k. k ≡ length ns) → OnOk r (ks ≡ ns ++ node ∷ []) → OnOk r (after ≡ numbers ++ number ∷ []) → IfOk r (λ k. P ks after k)
new_result P ns ks numbers after node number (Ok k) p e f g = subst (λ x. P x after k) (sym f) (subst (λ y. P (ns ++ node ∷ []) y k) (sym g) (subst (P (ns ++ node ∷ []) (numbers ++ number ∷ [])) (sym e) p))
new_result P ns ks numbers after node number (Err x) p e f g = e

pub one_numbered : {E : Type 0} (pool : List Node) (number : ℕ) (n0 n1 n2 ks : List Node) (m0 m1 m2 js : List ℕ) (h : One) (x i : ℕ) (known known2 : ℕ → Option ℕ) (r : Result ℕ E) → IsMade pool number (OneNode h x) → AreKnownFor pool x n0 n1 m0 m1 known → IsKnownFor pool x n1 n2 m1 m2 known2 i → IfOk r (λ j. j ≡ length n2) → OnOk r (ks ≡ n2 ++ OneNode h i ∷ []) → OnOk r (js ≡ m2 ++ number ∷ []) → IfOk r (λ j. IsKnownFor pool number n0 ks m0 js known2 j)
one_numbered pool number n0 n1 n2 ks m0 m1 m2 js h x i known known2 r m g v last nodes numbers =
    let s : StandsIn pool x number = stands_below (OneNode h x) m refl in
    new_result (λ xs ys k. IsKnownFor pool number n0 xs m0 ys known2 k) n2 ks m2 js (OneNode h i) number r
    (known_new (known_then (known_under s g) s v.grown) (one_for pool n2 m2 number h x i v.grown.more.numbered m v.made)) last nodes numbers

pub two_numbered : {E : Type 0} (pool : List Node) (number : ℕ) (n0 n1 n2 n3 ks : List Node) (m0 m1 m2 m3 js : List ℕ) (h : Two) (x y i j : ℕ) (f1 f2 f3 : ℕ → Option ℕ) (r : Result ℕ E) → IsMade pool number (TwoNode h x y) → AreKnownFor pool y n0 n1 m0 m1 f1 → IsKnownFor pool x n1 n2 m1 m2 f2 i → IsKnownFor pool y n2 n3 m2 m3 f3 j → IfOk r (λ k. k ≡ length n3) → OnOk r (ks ≡ n3 ++ TwoNode h i j ∷ []) → OnOk r (js ≡ m3 ++ number ∷ []) → IfOk r (λ k. IsKnownFor pool number n0 ks m0 js f3 k)
two_numbered pool number n0 n1 n2 n3 ks m0 m1 m2 m3 js h x y i j f1 f2 f3 r m g v w last nodes numbers =
    let s : StandsIn pool x number = stands_below (TwoNode h x y) m (inl refl) in
    let t : StandsIn pool y number = stands_below (TwoNode h x y) m (inr refl) in
    new_result (λ xs ys k. IsKnownFor pool number n0 xs m0 ys f3 k) n3 ks m3 js (TwoNode h i j) number r
    (known_new (known_then (known_then (known_under t g) s v.grown) t w.grown)
    (two_for pool n3 m3 number h x y i j w.grown.more.numbered m (made_then v.grown.more.numbered w.grown.more v.made) w.made)) last nodes numbers

pub three_numbered : {E : Type 0} (pool : List Node) (number : ℕ) (n0 n1 n2 n3 ks : List Node) (m0 m1 m2 m3 js : List ℕ) (h : Three) (x y z i j l : ℕ) (f1 f2 f3 : ℕ → Option ℕ) (r : Result ℕ E) → IsMade pool number (ThreeNode h x y z) → IsKnownFor pool x n0 n1 m0 m1 f1 i → IsKnownFor pool y n1 n2 m1 m2 f2 j → IsKnownFor pool z n2 n3 m2 m3 f3 l → IfOk r (λ k. k ≡ length n3) → OnOk r (ks ≡ n3 ++ ThreeNode h i j l ∷ []) → OnOk r (js ≡ m3 ++ number ∷ []) → IfOk r (λ k. IsKnownFor pool number n0 ks m0 js f3 k)
three_numbered pool number n0 n1 n2 n3 ks m0 m1 m2 m3 js h x y z i j l f1 f2 f3 r m u v w last nodes numbers =
    let s : StandsIn pool x number = stands_below (ThreeNode h x y z) m (inl refl) in
    let t : StandsIn pool y number = stands_below (ThreeNode h x y z) m (inr (inl refl)) in
    let o : StandsIn pool z number = stands_below (ThreeNode h x y z) m (inr (inr refl)) in
    new_result (λ xs ys k. IsKnownFor pool number n0 xs m0 ys f3 k) n3 ks m3 js (ThreeNode h i j l) number r
    (known_new (known_then (known_then (known_under s u.grown) t v.grown) o w.grown)
    (three_for pool n3 m3 number h x y z i j l w.grown.more.numbered m
    (made_then v.grown.more.numbered w.grown.more (made_then u.grown.more.numbered v.grown.more u.made))
    (made_then v.grown.more.numbered w.grown.more v.made) w.made)) last nodes numbers

pub quantified_numbered : {E : Type 0} (pool : List Node) (number : ℕ) (n0 n1 n2 ks : List Node) (m0 m1 m2 js : List ℕ) (h : Two) (x y i j : ℕ) (f1 f2 : ℕ → Option ℕ) (r : Result ℕ E) → IsMade pool number (TwoNode h x y) → IsKnownFor pool x n0 n1 m0 m1 f1 i → IsKnownFor pool y n1 n2 m1 m2 f2 j → IfOk r (λ k. k ≡ length n2) → OnOk r (ks ≡ n2 ++ TwoNode h i j ∷ []) → OnOk r (js ≡ m2 ++ number ∷ []) → IfOk r (λ k. IsNewFor pool number n0 ks m0 js k)
quantified_numbered pool number n0 n1 n2 ks m0 m1 m2 js h x y i j f1 f2 r m v w last nodes numbers =
    let s : StandsIn pool x number = stands_below (TwoNode h x y) m (inl refl) in
    let t : StandsIn pool y number = stands_below (TwoNode h x y) m (inr refl) in
    let a = two_for pool n2 m2 number h x y i j w.grown.more.numbered m (made_then v.grown.more.numbered w.grown.more v.made) w.made in
    new_result (λ xs ys k. IsNewFor pool number n0 xs m0 ys k) n2 ks m2 js (TwoNode h i j) number r
    (record { more = more_then (more_then (more_under s v.grown.more) (more_under t w.grown.more)) a.more; made = a.made }) last nodes numbers

-- a new node, when no further number became known
pub known_of_new : {E : Type 0} (pool : List Node) (number : ℕ) (ns ks : List Node) (numbers after : List ℕ) (known : ℕ → Option ℕ) (r : Result ℕ E) → AreNumbered pool ns numbers → AreMadeFor pool ns numbers known → IfOk r (λ k. IsNewFor pool number ns ks numbers after k) → IfOk r (λ k. IsKnownFor pool number ns ks numbers after known k)
known_of_new pool number ns ks numbers after known (Ok k) a m h = known_new (known_itself pool number ns numbers known a m) h
known_of_new pool number ns ks numbers after known (Err x) a m h = h

pub leaf_known : {E : Type 0} (pool : List Node) (number : ℕ) (ns ks : List Node) (numbers after : List ℕ) (h : Leaf) (n : Node) (known : ℕ → Option ℕ) (r : Result ℕ E) → AreNumbered pool ns numbers → AreMadeFor pool ns numbers known → n ≡ LeafNode h → IsMade pool number n → IfOk r (λ node. (from : List Node) → IsMade from number (LeafNode h) → AreNumbered from ns numbers → IsNewFor from number ns ks numbers after node) → IfOk r (λ k. IsKnownFor pool number ns ks numbers after known k)
leaf_known pool number ns ks numbers after h n known (Ok k) a m e made f = known_new (known_itself pool number ns numbers known a m) (f pool (subst (IsMade pool number) e made) a)
leaf_known pool number ns ks numbers after h n known (Err x) a m e made f = f

-- ---- leaves

pub leaf_numbered : {E : Type 0} (ns ks : List Node) (numbers after : List ℕ) (number : ℕ) (h : Leaf) (r : Result ℕ E) → IfOk r (λ k. k ≡ length ns) → OnOk r (ks ≡ ns ++ LeafNode h ∷ []) → OnOk r (after ≡ numbers ++ number ∷ []) → IfOk r (λ node. (pool : List Node) → IsMade pool number (LeafNode h) → AreNumbered pool ns numbers → IsNewFor pool number ns ks numbers after node)
leaf_numbered ns ks numbers after number h r last nodes more =
    new_result (λ xs ys k. (pool : List Node) → IsMade pool number (LeafNode h) → AreNumbered pool ns numbers → IsNewFor pool number ns xs numbers ys k) ns ks numbers after (LeafNode h) number r (λ pool m a. leaf_for pool ns numbers number h a m) last nodes more

bound_is : (bound : List ℕ) (h : Leaf) (n : ℕ) → leaf_tree bound h ≡ BoundTree n → h ≡ Var n
bound_is bound (Var m) n e = go (among m bound) e
  where
    go : (b : Bool) → cond b (BoundTree m) (LeafTree (Var m)) ≡ BoundTree n → Var m ≡ Var n
    go true f = let same : m ≡ n = cc in ap Var same
    go false f = absurd (cc)
bound_is bound h n e = absurd (cc)

-- a bound variable is the negation of a type parameter
bound_for : (pool ns : List Node) (numbers : List ℕ) (number n i : ℕ) → AreNumbered pool ns numbers → IsMade pool number (LeafNode (Var n)) → i ≡ length ns → IsNewFor pool number ns ((ns ++ LeafNode (TypeParam n) ∷ []) ++ OneNode Not i ∷ []) numbers ((numbers ++ number ∷ []) ++ number ∷ []) (length (ns ++ LeafNode (TypeParam n) ∷ []))
bound_for pool ns numbers number n i a m e = record { more = more_then before last.more; made = last.made }
  where
    inside : number < length pool
    inside = made_inside pool number (LeafNode (Var n)) m

    before : AreMoreIn pool number ns (ns ++ LeafNode (TypeParam n) ∷ []) numbers (numbers ++ number ∷ [])
    before = more_in pool ns numbers a (LeafNode (TypeParam n)) number tt inside (Parameter n (push_new ns (LeafNode (TypeParam n))))

    parameter : slice_get (ns ++ LeafNode (TypeParam n) ∷ []) i ≡ Some (LeafNode (TypeParam n))
    parameter = ap (slice_get (ns ++ LeafNode (TypeParam n) ∷ [])) e ∙ push_new ns (LeafNode (TypeParam n))

    within : i < length (ns ++ LeafNode (TypeParam n) ∷ [])
    within = slice_get_within (ns ++ LeafNode (TypeParam n) ∷ []) i (LeafNode (TypeParam n)) parameter

    is : number_at ((numbers ++ number ∷ []) ++ number ∷ []) (length (ns ++ LeafNode (TypeParam n) ∷ [])) ≡ number
    is = new_number pool (ns ++ LeafNode (TypeParam n) ∷ []) (numbers ++ number ∷ []) before.numbered (OneNode Not i) number within inside

    no_parameter : (k : ℕ) → OneNode Not i ≡ LeafNode (TypeParam k) → ⊥
    no_parameter k q = absurd (cc)

    last : IsNewFor pool number (ns ++ LeafNode (TypeParam n) ∷ []) ((ns ++ LeafNode (TypeParam n) ∷ []) ++ OneNode Not i ∷ []) (numbers ++ number ∷ []) ((numbers ++ number ∷ []) ++ number ∷ []) (length (ns ++ LeafNode (TypeParam n) ∷ []))
    last = new_for pool (ns ++ LeafNode (TypeParam n) ∷ []) (numbers ++ number ∷ []) before.numbered (OneNode Not i) number within inside
        (Bound i n (push_new (ns ++ LeafNode (TypeParam n) ∷ []) (OneNode Not i))
        (kept (ns ++ LeafNode (TypeParam n) ∷ []) ((ns ++ LeafNode (TypeParam n) ∷ []) ++ OneNode Not i ∷ []) (pushed (ns ++ LeafNode (TypeParam n) ∷ []) (OneNode Not i)) i (LeafNode (TypeParam n)) parameter)
        (subst (λ k. IsMade pool k (LeafNode (Var n))) (sym is) m))
        (record { made = λ k q. absurd (no_parameter k (some_same (sym (push_new (ns ++ LeafNode (TypeParam n) ∷ []) (OneNode Not i)) ∙ q))) })

pub bound_numbered : {E : Type 0} (ns ms ks : List Node) (numbers between after : List ℕ) (bound : List ℕ) (number n i : ℕ) (h : Leaf) (r : Result ℕ E) → leaf_tree bound h ≡ BoundTree n → i ≡ length ns → ms ≡ ns ++ LeafNode (TypeParam n) ∷ [] → between ≡ numbers ++ number ∷ [] → IfOk r (λ k. k ≡ length ms) → OnOk r (ks ≡ ms ++ OneNode Not i ∷ []) → OnOk r (after ≡ between ++ number ∷ []) → IfOk r (λ node. (pool : List Node) → IsMade pool number (LeafNode h) → AreNumbered pool ns numbers → IsNewFor pool number ns ks numbers after node)
bound_numbered ns ms ks numbers between after bound number n i h (Ok k) t e em eb last nodes more = λ pool m a.
    (let all : ks ≡ (ns ++ LeafNode (TypeParam n) ∷ []) ++ OneNode Not i ∷ [] = nodes ∙ ap (λ xs. xs ++ OneNode Not i ∷ []) em in
    let both : after ≡ (numbers ++ number ∷ []) ++ number ∷ [] = more ∙ ap (λ xs. xs ++ number ∷ []) eb in
    let at : k ≡ length (ns ++ LeafNode (TypeParam n) ∷ []) = last ∙ ap length em in
    subst (λ x. IsNewFor pool number ns x numbers after k) (sym all)
    (subst (λ y. IsNewFor pool number ns ((ns ++ LeafNode (TypeParam n) ∷ []) ++ OneNode Not i ∷ []) numbers y k) (sym both)
    (subst (IsNewFor pool number ns ((ns ++ LeafNode (TypeParam n) ∷ []) ++ OneNode Not i ∷ []) numbers ((numbers ++ number ∷ []) ++ number ∷ [])) (sym at)
    (bound_for pool ns numbers number n i a (subst (λ x. IsMade pool number (LeafNode x)) (bound_is bound h n t) m) e))))
bound_numbered ns ms ks numbers between after bound number n i h (Err x) t e em eb last nodes more = last

-- ---- known numbers

pub nothing_made : (pool ns : List Node) (numbers : List ℕ) (es : List (ℕ × ℕ)) → es ≡ [] → AreMadeFor pool ns numbers (λ i. lookup (nat_eq i) es)
nothing_made pool ns numbers es none = record { each = λ number node e. absurd (none_some (sym (ap (lookup (nat_eq number)) none) ∙ e)) }

pub found_made : (pool : List Node) (number node : ℕ) (ns : List Node) (numbers : List ℕ) (known : ℕ → Option ℕ) → AreNumbered pool ns numbers → AreMadeFor pool ns numbers known → known number ≡ Some node → IsKnownFor pool number ns ns numbers numbers known node
found_made pool number node ns numbers known a m e = record { grown = known_itself pool number ns numbers known a m; made = m.each number node e }

pub noted_made : (pool : List Node) (number node : ℕ) (ns ms : List Node) (numbers between : List ℕ) (known after : ℕ → Option ℕ) → IsKnownFor pool number ns ms numbers between known node → ((i : ℕ) → after i ≡ cond (nat_eq number i) (Some node) (known i)) → IsKnownFor pool number ns ms numbers between after node
noted_made pool number node ns ms numbers between known after h put = record {
  grown = record { more = h.grown.more; all_made = record { each = λ i k e. go i k (sym (put i) ∙ e) (nat_eq number i) refl } };
  made = h.made;
}
  where
    same : (i : ℕ) → nat_eq number i ≡ true → number ≡ i
    same i e = grind (arith, nat_tests)

    go : (i k : ℕ) → cond (nat_eq number i) (Some node) (known i) ≡ Some k → (t : Bool) → nat_eq number i ≡ t → IsMadeFor pool ms between i k
    go i k e true q =
        let is : node ≡ k = some_same (sym (ap (λ d. cond d (Some node) (known i)) q) ∙ e) in
        subst (λ m. IsMadeFor pool ms between m k) (same i q) (subst (IsMadeFor pool ms between number) is h.made)
    go i k e false q = h.grown.all_made.each i k (sym (ap (λ d. cond d (Some node) (known i)) q) ∙ e)
