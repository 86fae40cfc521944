-- A node that edges connect with a term is a term, and connected nodes that are no terms have equal head symbols and
-- connected parts.
use Rattle.std.proofs.Common.{◌≡◌, ◌⊎◌, inl, inr, ℕ, zero, suc, ◌<◌, ◌≤◌, Bool, true, false, List, [], ◌∷◌, length, take, Option, Some, None, refl, sym, ap, ◌∙◌, subst, arith}
use Rattle.std.specs.Prelude.{slice_get}
use Rattle.std.proofs.lemmas.Option.{slice_get_within}
use Rattle.term_pool.specs.Items.{FormulaSort, TypeSort, sort_of}
use Rattle.term_pool.specs.Pools.{item_at, IsMade}
use Rattle.term_pool.specs.declared.node.Leaf.{Leaf}
use Rattle.term_pool.specs.declared.node.Leaf.TheVariants.{Var, TypeParam}
use Rattle.term_pool.specs.declared.node.One.{One}
use Rattle.term_pool.specs.declared.node.One.TheVariants.{Unary, Not}
use Rattle.term_pool.specs.declared.node.Two.{Two}
use Rattle.term_pool.specs.declared.node.Two.TheVariants.{Binary, Pack, Field}
use Rattle.term_pool.specs.declared.node.Three.{Three}
use Rattle.term_pool.specs.declared.node.Three.TheVariants.{Ternary, SetField, If}
use Rattle.term_pool.specs.declared.node.Node.{Node}
use Rattle.term_pool.specs.declared.node.Node.TheVariants.{Leaf as LeafNode, One as OneNode, Two as TwoNode, Three as ThreeNode}
use Rattle.term_pool.specs.Forms.{is_term_node}
use Rattle.term_pool.proofs.FormLemmas.{made_term, term_made}
use Rattle.congruence_closure.specs.Links.{Linked, ByLink, Itself, Turned, Chained, AreAlike, AreAlikeAt, IsReason}
use Rattle.congruence_closure.specs.States.{IsPart}
use Rattle.congruence_closure.specs.declared.classes.link.Link.{Link}
use Rattle.congruence_closure.specs.declared.classes.link.Why.{Why}
use Rattle.congruence_closure.specs.declared.classes.link.Why.TheVariants.{Given, Alike}
use Rattle.congruence_closure.specs.Numbers.{number_at, renumbered, IsReal, IsNumbered, ByParts, Bound, Parameter}
use Rattle.explanations.specs.Graphs.{IsTermNode, IsGraph}

-- ---- edges of a longer list

pub from_taken : {X : Type 0} (xs : List X) (k i : ℕ) (x : X) → slice_get (take k xs) i ≡ Some x → slice_get xs i ≡ Some x
from_taken [] zero i x e = e
from_taken [] (suc k) i x e = e
from_taken (y ∷ xs) zero i x e = absurd (let both : None ≡ Some x = e in (cc))
from_taken (y ∷ xs) (suc k) zero x e = e
from_taken (y ∷ xs) (suc k) (suc i) x e = from_taken xs k i x e

nothing_taken : {X : Type 0} (xs : List X) (i : ℕ) → slice_get (take zero xs) i ≡ None
nothing_taken [] i = refl
nothing_taken (y ∷ ys) i = refl

pub taken_below : {X : Type 0} (xs : List X) (k i : ℕ) (x : X) → slice_get (take k xs) i ≡ Some x → i < k
taken_below xs zero i x e = absurd (let both : None ≡ Some x = sym (nothing_taken xs i) ∙ e in (cc))
taken_below [] (suc k) i x e = absurd (cc)
taken_below (y ∷ xs) (suc k) zero x e = omega arith
taken_below (y ∷ xs) (suc k) (suc i) x e = let h : i < k = taken_below xs k i x e in omega arith

take_kept : {X : Type 0} (xs : List X) (k n i : ℕ) (x : X) → k ≤ n → slice_get (take k xs) i ≡ Some x → slice_get (take n xs) i ≡ Some x
take_kept xs zero n i x h e = absurd (let both : None ≡ Some x = sym (nothing_taken xs i) ∙ e in (cc))
take_kept xs (suc k) zero i x h e = absurd (omega arith)
take_kept [] (suc k) (suc n) i x h e = e
take_kept (y ∷ xs) (suc k) (suc n) zero x h e = e
take_kept (y ∷ xs) (suc k) (suc n) (suc i) x h e = take_kept xs k n i x (omega arith) e

pub linked_later : (ls : List Link) (k n i j : ℕ) → k ≤ n → Linked (take k ls) i j → Linked (take n ls) i j
linked_later ls k n _ _ h (ByLink m l e) = ByLink m l (take_kept ls k n m l h e)
linked_later ls k n _ _ h (Itself i) = Itself i
linked_later ls k n _ _ h (Turned i j l) = Turned i j (linked_later ls k n i j h l)
linked_later ls k n _ _ h (Chained i j m l r) = Chained i j m (linked_later ls k n i j h l) (linked_later ls k n j m h r)

pub linked_in_all : (ls : List Link) (k i j : ℕ) → Linked (take k ls) i j → Linked ls i j
linked_in_all ls k _ _ (ByLink m l e) = ByLink m l (from_taken ls k m l e)
linked_in_all ls k _ _ (Itself i) = Itself i
linked_in_all ls k _ _ (Turned i j l) = Turned i j (linked_in_all ls k i j l)
linked_in_all ls k _ _ (Chained i j m l r) = Chained i j m (linked_in_all ls k i j l) (linked_in_all ls k j m r)

-- ---- congruent nodes

leaf_other : (R : ℕ → ℕ → Type 0) (h : Leaf) (one other : Node) → AreAlike R one other → one ≡ LeafNode h → other ≡ LeafNode h
leaf_other R h (LeafNode k) (LeafNode m) a e = let same : k ≡ h = cc in ap LeafNode (sym a ∙ same)
leaf_other R h (OneNode o x) other a e = absurd (cc)
leaf_other R h (TwoNode o x y) other a e = absurd (cc)
leaf_other R h (ThreeNode o x y z) other a e = absurd (cc)
leaf_other R h (LeafNode k) (OneNode o x) a e = absurd a
leaf_other R h (LeafNode k) (TwoNode o x y) a e = absurd a
leaf_other R h (LeafNode k) (ThreeNode o x y z) a e = absurd a

leaf_one : (R : ℕ → ℕ → Type 0) (h : Leaf) (one other : Node) → AreAlike R one other → other ≡ LeafNode h → one ≡ LeafNode h
leaf_one R h (LeafNode k) (LeafNode m) a e = let same : m ≡ h = cc in ap LeafNode (a ∙ same)
leaf_one R h one (OneNode o x) a e = absurd (cc)
leaf_one R h one (TwoNode o x y) a e = absurd (cc)
leaf_one R h one (ThreeNode o x y z) a e = absurd (cc)
leaf_one R h (OneNode o x) (LeafNode k) a e = absurd a
leaf_one R h (TwoNode o x y) (LeafNode k) a e = absurd a
leaf_one R h (ThreeNode o x y z) (LeafNode k) a e = absurd a

pub alike_turned : (R : ℕ → ℕ → Type 0) → ((i j : ℕ) → R i j → R j i) → (one other : Node) → AreAlike R one other → AreAlike R other one
alike_turned R t (LeafNode h) (LeafNode k) a = sym a
alike_turned R t (OneNode h x) (OneNode k y) a = (sym a.0, t x y a.1)
alike_turned R t (TwoNode h x y) (TwoNode k u v) a = (sym a.0, t x u a.1, t y v a.2)
alike_turned R t (ThreeNode h x y z) (ThreeNode k u v w) a = (sym a.0, t x u a.1, t y v a.2, t z w a.3)
alike_turned R t _ _ a = absurd a

alike_then : (R : ℕ → ℕ → Type 0) → ((i j k : ℕ) → R i j → R j k → R i k) → (one other third : Node) → AreAlike R one other → AreAlike R other third → AreAlike R one third
alike_then R t (LeafNode h) (LeafNode k) (LeafNode m) a b = a ∙ b
alike_then R t (OneNode h x) (OneNode k y) (OneNode m z) a b = (a.0 ∙ b.0, t x y z a.1 b.1)
alike_then R t (TwoNode h x x2) (TwoNode k y y2) (TwoNode m z z2) a b = (a.0 ∙ b.0, t x y z a.1 b.1, t x2 y2 z2 a.2 b.2)
alike_then R t (ThreeNode h x x2 x3) (ThreeNode k y y2 y3) (ThreeNode m z z2 z3) a b = (a.0 ∙ b.0, t x y z a.1 b.1, t x2 y2 z2 a.2 b.2, t x3 y3 z3 a.3 b.3)
alike_then R t (LeafNode h) (LeafNode k) (OneNode m m1) a b = absurd b
alike_then R t (LeafNode h) (LeafNode k) (TwoNode m m1 m2) a b = absurd b
alike_then R t (LeafNode h) (LeafNode k) (ThreeNode m m1 m2 m3) a b = absurd b
alike_then R t (OneNode h h1) (OneNode k k1) (LeafNode m) a b = absurd b
alike_then R t (OneNode h h1) (OneNode k k1) (TwoNode m m1 m2) a b = absurd b
alike_then R t (OneNode h h1) (OneNode k k1) (ThreeNode m m1 m2 m3) a b = absurd b
alike_then R t (TwoNode h h1 h2) (TwoNode k k1 k2) (LeafNode m) a b = absurd b
alike_then R t (TwoNode h h1 h2) (TwoNode k k1 k2) (OneNode m m1) a b = absurd b
alike_then R t (TwoNode h h1 h2) (TwoNode k k1 k2) (ThreeNode m m1 m2 m3) a b = absurd b
alike_then R t (ThreeNode h h1 h2 h3) (ThreeNode k k1 k2 k3) (LeafNode m) a b = absurd b
alike_then R t (ThreeNode h h1 h2 h3) (ThreeNode k k1 k2 k3) (OneNode m m1) a b = absurd b
alike_then R t (ThreeNode h h1 h2 h3) (ThreeNode k k1 k2 k3) (TwoNode m m1 m2) a b = absurd b
alike_then R t _ _ _ a b = absurd a

pub alike_more : (R S : ℕ → ℕ → Type 0) → ((i j : ℕ) → R i j → S i j) → (one other : Node) → AreAlike R one other → AreAlike S one other
alike_more R S t (LeafNode h) (LeafNode k) a = a
alike_more R S t (OneNode h x) (OneNode k y) a = (a.0, t x y a.1)
alike_more R S t (TwoNode h x y) (TwoNode k u v) a = (a.0, t x u a.1, t y v a.2)
alike_more R S t (ThreeNode h x y z) (ThreeNode k u v w) a = (a.0, t x u a.1, t y v a.2, t z w a.3)
alike_more R S t _ _ a = absurd a

any_one : (h : One) (x y : ℕ) → is_term_node (OneNode h x) ≡ is_term_node (OneNode h y)
any_one (Unary o) x y = refl
any_one h x y = refl

any_two : (h : Two) (x y u v : ℕ) → is_term_node (TwoNode h x y) ≡ is_term_node (TwoNode h u v)
any_two Pack x y u v = refl
any_two (Binary o) x y u v = refl
any_two (Field k) x y u v = refl
any_two h x y u v = refl

any_three : (h : Three) (x y z u v w : ℕ) → is_term_node (ThreeNode h x y z) ≡ is_term_node (ThreeNode h u v w)
any_three If x y z u v w = refl
any_three (Ternary o) x y z u v w = refl
any_three (SetField k) x y z u v w = refl
any_three h x y z u v w = refl

same_kind : (R : ℕ → ℕ → Type 0) → (one other : Node) → AreAlike R one other → is_term_node other ≡ is_term_node one
same_kind R (LeafNode h) (LeafNode k) a = ap (λ o. is_term_node (LeafNode o)) (sym a)
same_kind R (OneNode h x) (OneNode k y) a = ap (λ o. is_term_node (OneNode o y)) (sym a.0) ∙ any_one h y x
same_kind R (TwoNode h x y) (TwoNode k u v) a = ap (λ o. is_term_node (TwoNode o u v)) (sym a.0) ∙ any_two h u v x y
same_kind R (ThreeNode h x y z) (ThreeNode k u v w) a = ap (λ o. is_term_node (ThreeNode o u v w)) (sym a.0) ∙ any_three h u v w x y z
same_kind R _ _ a = absurd a

pub kind_renumbered : (numbers : List ℕ) (n : Node) → is_term_node (renumbered numbers n) ≡ is_term_node n
kind_renumbered numbers (LeafNode h) = refl
kind_renumbered numbers (OneNode h a) = any_one h (number_at numbers a) a
kind_renumbered numbers (TwoNode h a b) = any_two h (number_at numbers a) (number_at numbers b) a b
kind_renumbered numbers (ThreeNode h a b c) = any_three h (number_at numbers a) (number_at numbers b) (number_at numbers c) a b c

-- ---- connected nodes

-- a node that is no term, by its head symbol and as no bound variable
pub record IsPlain (ns : List Node) (i : ℕ) : Type 0 where
  pub node : Node
  pub found : slice_get ns i ≡ Some node
  pub kind : is_term_node node ≡ false
  pub unbound : (a n : ℕ) → node ≡ OneNode Not a → slice_get ns a ≡ Some (LeafNode (TypeParam n)) → ⊥

-- the nodes are equal, or congruent by the first edges
abbrev pub IsOneOrAlike : List Node → List Link → ℕ → ℕ → ℕ → Type 0
IsOneOrAlike ns ls k i j = (i ≡ j) ⊎ AreAlikeAt ns (Linked (take k ls)) i j

pub same_node : (x y : Option Node) (n m : Node) → x ≡ y → x ≡ Some n → y ≡ Some m → n ≡ m
same_node x y n m e f g = let both : Some n ≡ Some m = sym f ∙ e ∙ g in (cc)

pub true_false : (b : Bool) → b ≡ true → b ≡ false → ⊥
true_false b e f = let both : true ≡ false = sym e ∙ f in absurd (cc)

one_part_of : (h k : One) (a x : ℕ) → OneNode h a ≡ OneNode k x → (h ≡ k) × (a ≡ x)
one_part_of h k a x e = ((cc), (cc))

module _ (pool ns : List Node) (ls : List Link) (numbers : List ℕ) (g : IsGraph pool ns ls numbers) where
  -- a parameter is connected with the same parameter alone
  parameter_step : (R : ℕ → ℕ → Type 0) (n i j : ℕ) (why : Why) → IsReason ns g.equations R i j why → (slice_get ns i ≡ Some (LeafNode (TypeParam n)) → slice_get ns j ≡ Some (LeafNode (TypeParam n))) × (slice_get ns j ≡ Some (LeafNode (TypeParam n)) → slice_get ns i ≡ Some (LeafNode (TypeParam n)))
  parameter_step R n i j (Given q) r = (
    λ p. absurd ((g.left q r.equation r.found).no_parameter n (subst (λ m. slice_get ns m ≡ Some (LeafNode (TypeParam n))) (sym r.left) p)),
    λ p. absurd ((g.right q r.equation r.found).no_parameter n (subst (λ m. slice_get ns m ≡ Some (LeafNode (TypeParam n))) (sym r.right) p)),
  )
  parameter_step R n i j Alike r = (
    λ p. r.is_other ∙ ap Some (leaf_other R (TypeParam n) r.one r.other r.alike (same_node (slice_get ns i) (slice_get ns i) r.one (LeafNode (TypeParam n)) refl r.is_one p)),
    λ p. r.is_one ∙ ap Some (leaf_one R (TypeParam n) r.one r.other r.alike (same_node (slice_get ns j) (slice_get ns j) r.other (LeafNode (TypeParam n)) refl r.is_other p)),
  )

  pub parameter_linked : (k n i j : ℕ) → Linked (take k ls) i j → (slice_get ns i ≡ Some (LeafNode (TypeParam n)) → slice_get ns j ≡ Some (LeafNode (TypeParam n))) × (slice_get ns j ≡ Some (LeafNode (TypeParam n)) → slice_get ns i ≡ Some (LeafNode (TypeParam n)))
  parameter_linked k n _ _ (ByLink m l e) = parameter_step (Linked (take m ls)) n l.left l.right l.why (g.shown.each m l (from_taken ls k m l e))
  parameter_linked k n _ _ (Itself i) = (λ p. p, λ p. p)
  parameter_linked k n _ _ (Turned i j l) = let h = parameter_linked k n i j l in (h.1, h.0)
  parameter_linked k n _ _ (Chained i j m l r) = let h = parameter_linked k n i j l in let f = parameter_linked k n j m r in (λ p. f.0 (h.0 p), λ p. h.1 (f.1 p))

  -- a term is not plain
  pub term_not_plain : (i : ℕ) → IsTermNode pool ns numbers i → IsPlain ns i → ⊥
  term_not_plain i t p = go (g.numbered i (slice_get_within ns i p.node p.found))
    where
      go : IsNumbered pool ns numbers i → ⊥
      go (ByParts n f made real) =
          let same : n ≡ p.node = same_node (slice_get ns i) (slice_get ns i) n p.node refl f p.found in
          true_false (is_term_node n) (sym (kind_renumbered numbers n) ∙ made_term pool (number_at numbers i) (renumbered numbers n) made t.term.sort) (ap is_term_node same ∙ p.kind)
      go (Bound a n f param made) = p.unbound a n (same_node (slice_get ns i) (slice_get ns i) p.node (OneNode Not a) refl p.found f) param
      go (Parameter n f) = t.no_parameter n f

  -- a node whose number is not that of a term is plain
  real_sort : (a n : ℕ) → IsReal pool ns numbers a → slice_get ns a ≡ Some (LeafNode (TypeParam n)) → sort_of (item_at pool (number_at numbers a)) ≡ TypeSort
  real_sort a n r f = ap sort_of (r.made n f).item

  pub no_denied_parameter : (k : ℕ) (node : Node) → IsMade pool k (renumbered numbers node) → ((p : ℕ) → IsPart p node → IsReal pool ns numbers p) → (a n : ℕ) → node ≡ OneNode Not a → slice_get ns a ≡ Some (LeafNode (TypeParam n)) → ⊥
  no_denied_parameter k node made real a n e f =
      let here : IsMade pool k (OneNode Not (number_at numbers a)) = subst (λ m. IsMade pool k (renumbered numbers m)) e made in
      let is_real : IsReal pool ns numbers a = subst (λ m. (p : ℕ) → IsPart p m → IsReal pool ns numbers p) e real a refl in
      let both : TypeSort ≡ FormulaSort = sym (real_sort a n is_real f) ∙ here.parts.sort in
      absurd (cc)

  -- each node is a term or plain
  pub term_or_plain : (i : ℕ) → i < length ns → IsTermNode pool ns numbers i ⊎ IsPlain ns i
  term_or_plain i w = go (g.numbered i w)
    where
      kind : (n : Node) → slice_get ns i ≡ Some n → IsMade pool (number_at numbers i) (renumbered numbers n) → ((p : ℕ) → IsPart p n → IsReal pool ns numbers p) → (b : Bool) → is_term_node n ≡ b → IsTermNode pool ns numbers i ⊎ IsPlain ns i
      kind n f made real true e = inl (record {
        term = term_made pool (number_at numbers i) (renumbered numbers n) made (kind_renumbered numbers n ∙ e);
        no_parameter = λ q h. true_false (is_term_node n) e (ap is_term_node (same_node (slice_get ns i) (slice_get ns i) n (LeafNode (TypeParam q)) refl f h));
      })
      kind n f made real false e = inr (record { node = n; found = f; kind = e; unbound = no_denied_parameter (number_at numbers i) n made real })

      go : IsNumbered pool ns numbers i → IsTermNode pool ns numbers i ⊎ IsPlain ns i
      go (ByParts n f made real) = kind n f made real (is_term_node n) refl
      go (Bound a n f param made) = inl (record {
        term = term_made pool (number_at numbers i) (LeafNode (Var n)) made refl;
        no_parameter = λ q h. absurd (let both : OneNode Not a ≡ LeafNode (TypeParam q) = same_node (slice_get ns i) (slice_get ns i) (OneNode Not a) (LeafNode (TypeParam q)) refl f h in (cc));
      })
      go (Parameter n f) = inr (record { node = LeafNode (TypeParam n); found = f; kind = refl; unbound = λ a q e h. absurd (cc) })

  plain_alike : (k m i j : ℕ) → m ≤ k → AreAlikeAt ns (Linked (take m ls)) i j → IsPlain ns i → IsPlain ns j
  plain_alike k m i j low r p =
      let same : p.node ≡ r.one = same_node (slice_get ns i) (slice_get ns i) p.node r.one refl p.found r.is_one in
      record {
        node = r.other;
        found = r.is_other;
        kind = same_kind (Linked (take m ls)) r.one r.other r.alike ∙ ap is_term_node (sym same) ∙ p.kind;
        unbound = λ a n e f. unbound a n r.one r.other r.alike same e f;
      }
    where
      unbound : (a n : ℕ) → (one other : Node) → AreAlike (Linked (take m ls)) one other → p.node ≡ one → other ≡ OneNode Not a → slice_get ns a ≡ Some (LeafNode (TypeParam n)) → ⊥
      unbound a n (OneNode h x) (OneNode o y) alike same e f =
          let parts : (o ≡ Not) × (y ≡ a) = one_part_of o Not y a e in
          let param : slice_get ns x ≡ Some (LeafNode (TypeParam n)) = (parameter_linked m n x y alike.1).1 (subst (λ z. slice_get ns z ≡ Some (LeafNode (TypeParam n))) (sym parts.1) f) in
          p.unbound x n (same ∙ ap (λ o. OneNode o x) (alike.0 ∙ parts.0)) param
      unbound a n (LeafNode h) other alike same e f = absurd (subst (AreAlike (Linked (take m ls)) (LeafNode h)) e alike)
      unbound a n (TwoNode h x y) other alike same e f = absurd (subst (AreAlike (Linked (take m ls)) (TwoNode h x y)) e alike)
      unbound a n (ThreeNode h x y z) other alike same e f = absurd (subst (AreAlike (Linked (take m ls)) (ThreeNode h x y z)) e alike)
      unbound a n (OneNode h x) (LeafNode o) alike same e f = absurd alike
      unbound a n (OneNode h x) (TwoNode o y z) alike same e f = absurd alike
      unbound a n (OneNode h x) (ThreeNode o y z w) alike same e f = absurd alike

  -- a node connected with a plain one is plain, and is equal or congruent to it
  pub linked_turned : (k i j : ℕ) → IsOneOrAlike ns ls k i j → IsOneOrAlike ns ls k j i
  linked_turned k i j (inl e) = inl (sym e)
  linked_turned k i j (inr r) = inr (record { one = r.other; other = r.one; is_one = r.is_other; is_other = r.is_one; alike = alike_turned (Linked (take k ls)) (λ a b l. Turned a b l) r.one r.other r.alike })

  pub linked_then : (k i j m : ℕ) → IsOneOrAlike ns ls k i j → IsOneOrAlike ns ls k j m → IsOneOrAlike ns ls k i m
  linked_then k i j m (inl e) h = subst (λ x. IsOneOrAlike ns ls k x m) (sym e) h
  linked_then k i j m (inr r) (inl e) = subst (λ x. IsOneOrAlike ns ls k i x) e (inr r)
  linked_then k i j m (inr r) (inr q) =
      let same : q.one ≡ r.other = same_node (slice_get ns j) (slice_get ns j) q.one r.other refl q.is_one r.is_other in
      inr (record {
        one = r.one;
        other = q.other;
        is_one = r.is_one;
        is_other = q.is_other;
        alike = alike_then (Linked (take k ls)) (λ a b c l n. Chained a b c l n) r.one r.other q.other r.alike (subst (λ x. AreAlike (Linked (take k ls)) x q.other) same q.alike);
      })

  plain_step : (k m i j : ℕ) → m ≤ k → (why : Why) → IsReason ns g.equations (Linked (take m ls)) i j why → (IsPlain ns i → IsPlain ns j × IsOneOrAlike ns ls k i j) × (IsPlain ns j → IsPlain ns i × IsOneOrAlike ns ls k i j)
  plain_step k m i j low (Given q) r = (
    λ p. absurd (term_not_plain r.equation.left (g.left q r.equation r.found) (subst (IsPlain ns) (sym r.left) p)),
    λ p. absurd (term_not_plain r.equation.right (g.right q r.equation r.found) (subst (IsPlain ns) (sym r.right) p)),
  )
  plain_step k m i j low Alike r =
      let more : AreAlikeAt ns (Linked (take k ls)) i j = record { one = r.one; other = r.other; is_one = r.is_one; is_other = r.is_other; alike = alike_more (Linked (take m ls)) (Linked (take k ls)) (λ a b l. linked_later ls m k a b low l) r.one r.other r.alike } in
      let back : AreAlikeAt ns (Linked (take m ls)) j i = record { one = r.other; other = r.one; is_one = r.is_other; is_other = r.is_one; alike = alike_turned (Linked (take m ls)) (λ a b l. Turned a b l) r.one r.other r.alike } in
      (λ p. (plain_alike k m i j low r p, inr more), λ p. (plain_alike k m j i low back p, inr more))

  pub plain_linked : (k i j : ℕ) → Linked (take k ls) i j → (IsPlain ns i → IsPlain ns j × IsOneOrAlike ns ls k i j) × (IsPlain ns j → IsPlain ns i × IsOneOrAlike ns ls k i j)
  plain_linked k _ _ (ByLink m l e) = plain_step k m l.left l.right (let h : m < k = taken_below ls k m l e in omega arith) l.why (g.shown.each m l (from_taken ls k m l e))
  plain_linked k _ _ (Itself i) = (λ p. (p, inl refl), λ p. (p, inl refl))
  plain_linked k _ _ (Turned i j l) =
      let h = plain_linked k i j l in
      (λ p. let r = h.1 p in (r.0, linked_turned k i j r.1), λ p. let r = h.0 p in (r.0, linked_turned k i j r.1))
  plain_linked k _ _ (Chained i j m l r) =
      let h = plain_linked k i j l in
      let f = plain_linked k j m r in (
        λ p. let a = h.0 p in let b = f.0 a.0 in (b.0, linked_then k i j m a.1 b.1),
        λ p. let b = f.1 p in let a = h.1 b.0 in (a.0, linked_then k i j m a.1 b.1),
      )

  -- a node connected with a term is a term
  pub term_linked : (k i j : ℕ) → j < length ns → Linked (take k ls) i j → IsTermNode pool ns numbers i → IsTermNode pool ns numbers j
  term_linked k i j w l t = elim (term_or_plain j w) [ inl h ↦ h | inr p ↦ absurd (term_not_plain i t ((plain_linked k i j l).1 p).0) ]
