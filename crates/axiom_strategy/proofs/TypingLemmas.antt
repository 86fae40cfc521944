-- Types that entries give to terms or deny them.
use Rattle.std.proofs.Common.{◌≡◌, ◌⊎◌, inl, inr, ℕ, zero, suc, ◌+◌, ◌<◌, ◌≤◌, List, [], ◌∷◌, ◌++◌, length, Option, Some, None, refl, sym, ap, ◌∙◌, subst, arith}
use Rattle.std.specs.Prelude.{slice_get, MatchOption}
use Rattle.std.proofs.lemmas.Bool.{cases_lt}
use Rattle.std.proofs.lemmas.Option.{slice_get_within}
use Rattle.base.specs.TypeData.{TypeData}
use Rattle.fol.specs.FormulaData.{TermData, FormulaData, IsFormula, NotFormula, AnyOfFormula, NoFormulas}
use Rattle.term_pool.specs.Items.{Item, formula_in, leaf_item, one_item, two_item, three_item}
use Rattle.term_pool.specs.Pools.{item_at, items, nth, item_of, IsMade}
use Rattle.term_pool.specs.declared.node.Leaf.{Leaf}
use Rattle.term_pool.specs.declared.node.Leaf.TheVariants.{Var, Constant}
use Rattle.term_pool.specs.declared.node.One.{One}
use Rattle.term_pool.specs.declared.node.One.TheVariants.{Unary, Holds, Not, Join, TypeVector, TypeShared, TypeMutable, TypeTuple, ConsByte}
use Rattle.term_pool.specs.declared.node.Two.{Two}
use Rattle.term_pool.specs.declared.node.Two.TheVariants.{Binary, Pack, Field, Compare, Is, Connect, Quantify, ConsTerm, ConsTrigger, ConsFormula, ConsType}
use Rattle.term_pool.specs.declared.node.Three.{Three}
use Rattle.term_pool.specs.declared.node.Three.TheVariants.{Ternary, SetField, If, TypeStruct}
use Rattle.term_pool.specs.declared.node.Node.{Node}
use Rattle.term_pool.specs.declared.node.Node.TheVariants.{Leaf as LeafNode, One as OneNode, Two as TwoNode, Three as ThreeNode}
use Rattle.term_pool.proofs.ItemLemmas.{item_past}
use Rattle.term_pool.proofs.ShapeLemmas.{a_term, a_type}
use Rattle.certificates.specs.BranchesBranch.{Branch, Entry, Says}
use Rattle.tableau.specs.PoolBranches.{BranchData, branch_in}
use Rattle.tableau.specs.declared.entry.PoolEntry.{PoolEntry}
use Rattle.tableau.proofs.AnswerLemmas.{stored}
use Rattle.tableau.proofs.EntryLemmas.{entry_says, said_is}
use Rattle.axiom_instances.specs.Numbers.{term_at, type_at, formula_at}
use Rattle.axiom_strategy.specs.declared.typings.Typing.{Typing}
use Rattle.term_pool.specs.Forms.{IsNoDenial}
use Rattle.axiom_strategy.specs.Typings.{IsTyping, Gives, Denies, given_of, IsNoGiving, IsGivingOf, IsUntyped, IsTypingOf, IsUntypedEntry, IsTypingEntry, IsGivenOrDenied, IsListedTyping, AreTypings}

typing_is : {x y : Typing} → Some x ≡ Some y → x ≡ y
typing_is e = cc

-- ---- formulas by their nodes

giving_leaf : (h : Leaf) → IsNoGiving (formula_in (leaf_item h))
giving_leaf (Var n) = record { none = λ a t e. absurd (cc) }
giving_leaf (Constant c) = record { none = λ a t e. absurd (cc) }
giving_leaf _ = record { none = λ a t e. absurd (cc) }

giving_one : (h : One) (x : Item) → IsNoGiving (formula_in (one_item h x))
giving_one (Unary o) x = record { none = λ a t e. absurd (cc) }
giving_one Holds x = record { none = λ a t e. absurd (cc) }
giving_one Not x = record { none = λ a t e. absurd (cc) }
giving_one (Join o) x = record { none = λ a t e. absurd (cc) }
giving_one TypeVector x = record { none = λ a t e. absurd (cc) }
giving_one TypeShared x = record { none = λ a t e. absurd (cc) }
giving_one TypeMutable x = record { none = λ a t e. absurd (cc) }
giving_one TypeTuple x = record { none = λ a t e. absurd (cc) }
giving_one (ConsByte k) x = record { none = λ a t e. absurd (cc) }

giving_two : (h : Two) (k l : ℕ) (x y : Item) → given_of (TwoNode h k l) ≡ None → IsNoGiving (formula_in (two_item h x y))
giving_two (Binary o) k l x y d = record { none = λ a t e. absurd (cc) }
giving_two Pack k l x y d = record { none = λ a t e. absurd (cc) }
giving_two (Field j) k l x y d = record { none = λ a t e. absurd (cc) }
giving_two (Compare o) k l x y d = record { none = λ a t e. absurd (cc) }
giving_two Is k l x y d = absurd (cc)
giving_two (Connect o) k l x y d = record { none = λ a t e. absurd (cc) }
giving_two (Quantify o n) k l x y d = record { none = λ a t e. absurd (cc) }
giving_two ConsTerm k l x y d = record { none = λ a t e. absurd (cc) }
giving_two ConsTrigger k l x y d = record { none = λ a t e. absurd (cc) }
giving_two ConsFormula k l x y d = record { none = λ a t e. absurd (cc) }
giving_two ConsType k l x y d = record { none = λ a t e. absurd (cc) }

giving_three : (h : Three) (x y z : Item) → IsNoGiving (formula_in (three_item h x y z))
giving_three (Ternary o) x y z = record { none = λ a t e. absurd (cc) }
giving_three (SetField k) x y z = record { none = λ a t e. absurd (cc) }
giving_three If x y z = record { none = λ a t e. absurd (cc) }
giving_three (TypeStruct s) x y z = record { none = λ a t e. absurd (cc) }

no_giving_item : (xs : List Item) (n : Node) → given_of n ≡ None → IsNoGiving (formula_in (item_of xs n))
no_giving_item xs (LeafNode h) d = giving_leaf h
no_giving_item xs (OneNode h a) d = giving_one h (nth xs a)
no_giving_item xs (TwoNode h a b) d = giving_two h a b (nth xs a) (nth xs b) d
no_giving_item xs (ThreeNode h a b c) d = giving_three h (nth xs a) (nth xs b) (nth xs c)

module _ (ns : List Node) (n : ℕ) where
  pub no_giving : (node : Node) → IsMade ns n node → given_of node ≡ None → IsNoGiving (formula_at ns n)
  no_giving node m d = subst IsNoGiving (sym (ap formula_in m.item)) (no_giving_item (items ns) node d)

  pub past_giving : length ns ≤ n → IsNoGiving (formula_at ns n)
  past_giving w = record { none = λ a t e. (let past : AnyOfFormula NoFormulas ≡ IsFormula a t = sym (ap formula_in (item_past ns n w)) ∙ e in absurd (cc)) }

  within_made : {node : Node} → IsMade ns n node → n < length ns
  within_made {node} m = slice_get_within ns n node m.found

  giving_made : (a b : ℕ) → IsMade ns n (TwoNode Is a b) → IsGivingOf ns (formula_at ns n) (record { of = a; term = b })
  giving_made a b m =
      let w = within_made m in
      let e1 = m.parts.0.earlier in
      let e2 = m.parts.1.earlier in
      record {
        of = record { within = omega (arith, w, e1); is = sym (a_type (item_at ns a) m.parts.0.sort) };
        term = record { within = omega (arith, w, e2); is = sym (a_term (item_at ns b) m.parts.1.sort) };
        is = ap formula_in m.item;
      }

  gives_node : (node : Node) (typing : Typing) → given_of node ≡ Some typing → IsMade ns n node → IsGivingOf ns (formula_at ns n) typing
  gives_node (LeafNode h) typing e m = absurd (cc)
  gives_node (OneNode h a) typing e m = absurd (cc)
  gives_node (ThreeNode h a b c) typing e m = absurd (cc)
  gives_node (TwoNode Is a b) typing e m = subst (IsGivingOf ns (formula_at ns n)) (typing_is e) (giving_made a b m)
  gives_node (TwoNode (Binary o) a b) typing e m = absurd (cc)
  gives_node (TwoNode Pack a b) typing e m = absurd (cc)
  gives_node (TwoNode (Field k) a b) typing e m = absurd (cc)
  gives_node (TwoNode (Compare o) a b) typing e m = absurd (cc)
  gives_node (TwoNode (Connect o) a b) typing e m = absurd (cc)
  gives_node (TwoNode (Quantify o k) a b) typing e m = absurd (cc)
  gives_node (TwoNode ConsTerm a b) typing e m = absurd (cc)
  gives_node (TwoNode ConsTrigger a b) typing e m = absurd (cc)
  gives_node (TwoNode ConsFormula a b) typing e m = absurd (cc)
  gives_node (TwoNode ConsType a b) typing e m = absurd (cc)

  pub giving_answer : (node : Node) (o : Option Typing) → IsMade ns n node → o ≡ given_of node → MatchOption o (IsNoGiving (formula_at ns n)) (IsGivingOf ns (formula_at ns n))
  giving_answer node None m e = no_giving node m (sym e)
  giving_answer node (Some typing) m e = gives_node node typing (sym e) m

-- ---- formulas that give a type or deny it

pub given : {ns : List Node} {p : FormulaData} {typing : Typing} → IsGivingOf ns p typing → IsTypingOf ns p typing
given {ns} {p} {typing} h = record {
  of = h.of;
  term = h.term;
  is = subst (λ q. IsTyping q (type_at ns typing.of) (term_at ns typing.term)) (sym h.is) (Gives (type_at ns typing.of) (term_at ns typing.term));
}

no_typing : {p : FormulaData} {a : TypeData} {t : TermData} → IsTyping p a t → IsNoGiving p → IsNoDenial p → ⊥
no_typing (Gives a t) g d = g.none a t refl
no_typing (Denies a t) g d = d.none (IsFormula a t) refl

pub untyped : {p : FormulaData} → IsNoGiving p → IsNoDenial p → IsUntyped p
untyped g d = record { none = λ a t h. no_typing h g d }

no_denied_typing : {p q : FormulaData} {a : TypeData} {t : TermData} → IsTyping p a t → p ≡ NotFormula q → IsNoGiving p → IsNoGiving q → ⊥
no_denied_typing (Gives a t) e g d = g.none a t refl
no_denied_typing {q = q} (Denies a t) e g d = d.none a t (let same : q ≡ IsFormula a t = cc in same)

pub denied_answer : (ns : List Node) (p q : FormulaData) (o : Option Typing) → p ≡ NotFormula q → IsNoGiving p → MatchOption o (IsNoGiving q) (IsGivingOf ns q) → MatchOption o (IsUntyped p) (IsTypingOf ns p)
denied_answer ns p q None e g h = record { none = λ a t typing. no_denied_typing typing e g h }
denied_answer ns p q (Some typing) e g h = record {
  of = h.of;
  term = h.term;
  is = subst (λ r. IsTyping r (type_at ns typing.of) (term_at ns typing.term)) (ap NotFormula (sym h.is) ∙ sym e) (Denies (type_at ns typing.of) (term_at ns typing.term));
}

-- ---- lists

slice_get-append_left : (xs ys : List Typing) (k : ℕ) (x : Typing) → slice_get xs k ≡ Some x → slice_get (xs ++ ys) k ≡ Some x
slice_get-append_left [] ys k x e = absurd (cc)
slice_get-append_left (y ∷ xs) ys zero x e = e
slice_get-append_left (y ∷ xs) ys (suc k) x e = slice_get-append_left xs ys k x e

slice_get-last : (xs : List Typing) (x : Typing) → slice_get (xs ++ x ∷ []) (length xs) ≡ Some x
slice_get-last [] x = refl
slice_get-last (y ∷ xs) x = slice_get-last xs x

pushed_cases : (xs : List Typing) (x : Typing) (k : ℕ) (y : Typing) → slice_get (xs ++ x ∷ []) k ≡ Some y → (slice_get xs k ≡ Some y) ⊎ (x ≡ y)
pushed_cases [] x zero y e = inr (typing_is e)
pushed_cases [] x (suc k) y e = absurd (cc)
pushed_cases (z ∷ xs) x zero y e = inl e
pushed_cases (z ∷ xs) x (suc k) y e = pushed_cases xs x k y e

-- ---- entries

either : {p : FormulaData} {a : TypeData} {t : TermData} → IsTyping p a t → (p ≡ IsFormula a t) ⊎ (p ≡ NotFormula (IsFormula a t))
either (Gives a t) = inl refl
either (Denies a t) = inr refl

same_of : (p : FormulaData) (a b : TypeData) (t u : TermData) → (p ≡ IsFormula a t) ⊎ (p ≡ NotFormula (IsFormula a t)) → (p ≡ IsFormula b u) ⊎ (p ≡ NotFormula (IsFormula b u)) → (a ≡ b) × (t ≡ u)
same_of p a b t u (inl e) (inl f) = let both : IsFormula a t ≡ IsFormula b u = sym e ∙ f in (cc, cc)
same_of p a b t u (inl e) (inr f) = let both : IsFormula a t ≡ NotFormula (IsFormula b u) = sym e ∙ f in absurd (cc)
same_of p a b t u (inr e) (inl f) = let both : NotFormula (IsFormula a t) ≡ IsFormula b u = sym e ∙ f in absurd (cc)
same_of p a b t u (inr e) (inr f) = let both : NotFormula (IsFormula a t) ≡ NotFormula (IsFormula b u) = sym e ∙ f in (cc, cc)

same_typing : {p : FormulaData} {a b : TypeData} {t u : TermData} → IsTyping p a t → IsTyping p b u → (a ≡ b) × (t ≡ u)
same_typing {p} {a} {b} {t} {u} h k = same_of p a b t u (either h) (either k)

module _ (ns : List Node) (d : BranchData) (i : ℕ) where
  pub no_entry : slice_get d.entries i ≡ None → IsUntypedEntry (branch_in ns d) i
  no_entry e = record {
    none = λ p says. (let it = stored ns d.entries i says.entry says.found in let both : Some it.entry ≡ None = sym it.found ∙ e in absurd (cc));
  }

  pub entry_typing : (e : PoolEntry) → slice_get d.entries i ≡ Some e → (o : Option Typing) → MatchOption o (IsUntyped (formula_at ns e.formula)) (IsTypingOf ns (formula_at ns e.formula)) → MatchOption o (IsUntypedEntry (branch_in ns d) i) (IsTypingEntry ns (branch_in ns d) i)
  entry_typing e found None h = record { none = λ p says. subst IsUntyped (sym (said_is ns d i e p found says)) h }
  entry_typing e found (Some typing) h = record { formula = formula_at ns e.formula; says = entry_says ns d i e found; is = h }

-- ---- entry after entry

one_says : (b : Branch) (i : ℕ) (p q : FormulaData) → Says b i p → Says b i q → p ≡ q
one_says b i p q h k =
    let both : Some h.entry ≡ Some k.entry = sym h.found ∙ k.found in
    let same : h.entry ≡ k.entry = cc in
    sym h.is ∙ ap (λ (e : Entry). e.formula) same ∙ k.is

module _ (ns : List Node) (b : Branch) where
  pub typings_none : AreTypings ns b 0 []
  typings_none = record { each = λ k typing e. absurd (cc); all = λ i p a t w says typed. absurd (omega (arith, w)) }

  pub typings_skip : (i : ℕ) (xs : List Typing) → AreTypings ns b i xs → IsUntypedEntry b i → AreTypings ns b (i + 1) xs
  typings_skip i xs h none = record { each = h.each; all = all }
    where
      all : (j : ℕ) (p : FormulaData) (a : TypeData) (t : TermData) → j < i + 1 → Says b j p → IsTyping p a t → IsListedTyping ns xs a t
      all j p a t w says typed = elim (cases_lt j i) [ inl l ↦ h.all j p a t l says typed | inr l ↦ (let same : j ≡ i = omega (arith, w, l) in absurd ((none.none p (subst (λ k. Says b k p) same says)).none a t typed)) ]

  listed_more : (xs : List Typing) (x : Typing) (a : TypeData) (t : TermData) → IsListedTyping ns xs a t → IsListedTyping ns (xs ++ x ∷ []) a t
  listed_more xs x a t h = record {
    position = h.position;
    typing = h.typing;
    found = slice_get-append_left xs (x ∷ []) h.position h.typing h.found;
    type_is = h.type_is;
    term_is = h.term_is;
  }

  pub typings_push : (i : ℕ) (xs ys : List Typing) (x : Typing) → ys ≡ xs ++ x ∷ [] → AreTypings ns b i xs → IsTypingEntry ns b i x → AreTypings ns b (i + 1) ys
  typings_push i xs ys x e h entry = subst (AreTypings ns b (i + 1)) (sym e) (record { each = each; all = all })
    where
      last : slice_get (xs ++ x ∷ []) (length xs) ≡ Some x
      last = slice_get-last xs x

      each : (k : ℕ) (typing : Typing) → slice_get (xs ++ x ∷ []) k ≡ Some typing → IsGivenOrDenied ns b typing
      each k typing f = elim (pushed_cases xs x k typing f) [ inl old ↦ h.each k typing old | inr new ↦ subst (IsGivenOrDenied ns b) new (record { position = i; entry = entry }) ]

      all : (j : ℕ) (p : FormulaData) (a : TypeData) (t : TermData) → j < i + 1 → Says b j p → IsTyping p a t → IsListedTyping ns (xs ++ x ∷ []) a t
      all j p a t w says typed = elim (cases_lt j i) [ inl l ↦ listed_more xs x a t (h.all j p a t l says typed) | inr l ↦ (let same : j ≡ i = omega (arith, w, l) in let own = one_says b i entry.formula p entry.says (subst (λ k. Says b k p) same says) in let both = same_typing (subst (λ q. IsTyping q (type_at ns x.of) (term_at ns x.term)) own entry.is.is) typed in record { position = length xs; typing = x; found = last; type_is = both.0; term_is = both.1 }) ]
