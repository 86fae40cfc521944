-- Terms that entries state to differ, with types that both have.
use Rattle.std.proofs.Common.{◌≡◌, ◌⊎◌, inl, inr, ℕ, ◌+◌, ◌<◌, List, [], ◌∷◌, ◌++◌, length, take, get_or, refl, sym, ap, ◌∙◌, subst, arith}
use Rattle.std.specs.Prelude.{slice_index_or, Contains}
use Rattle.std.proofs.lemmas.Bool.{cases_lt}
use Rattle.std.proofs.lemmas.List.Elements.{Contains-get_or, Contains-append_left, Contains-push, Contains-push_cases}
use Rattle.base.specs.TypeData.{TypeData}
use Rattle.fol.specs.declared.shapes.Shape.{Shape}
use Rattle.fol.specs.FormulaData.{TermData, FormulaData, EqFormula, NotFormula}
use Rattle.axioms.specs.declared.axiom.Axiom.{Axiom}
use Rattle.axioms.specs.Forms.{DifferFormula}
use Rattle.term_pool.specs.Pools.{IsOneNumber}
use Rattle.term_pool.specs.declared.node.Node.{Node}
use Rattle.certificates.specs.BranchesBranch.{Branch, Says, Stands}
use Rattle.tableau.specs.PoolBranches.{BranchData, branch_in}
use Rattle.base.specs.Lists.{list_in}
use Rattle.tableau.proofs.EntryLemmas.{says_within}
use Rattle.axiom_instances.specs.Numbers.{term_at}
use Rattle.axiom_instances.specs.VectorRows.{AsksOfPair}
use Rattle.axiom_strategy.specs.Denials.{DeniesSides, DeniesNone}
use Rattle.axiom_strategy.proofs.DenialLemmas.{left_stands, right_stands, same_sides}
use Rattle.axiom_strategy.specs.declared.askers.Asker.{Asker}
use Rattle.axiom_strategy.specs.declared.askers.Asker.TheVariants.{Vectors}
use Rattle.axiom_strategy.specs.declared.typings.Typing.{Typing}
use Rattle.axiom_strategy.specs.Due.{AsksOfSome}
use Rattle.axiom_strategy.specs.Askers.{asks_at}
use Rattle.axiom_strategy.specs.Typings.{IsListedTyping, AreTypings}
use Rattle.axiom_strategy.specs.Families.{IsAskerOn, AskAll, AsksOfPairs, ByPair}
use Rattle.axiom_strategy.specs.Keyed.{AreListed, ArePairsOf, HasOneMore}
use Rattle.axiom_strategy.specs.Vectors.{IsTypeFor, AreMoreAskers, IsPairOf, IsDeniedPair, AreDeniedPairs}
use Rattle.axiom_strategy.proofs.DueLemmas.{term_number}
use Rattle.axiom_strategy.proofs.AskerLemmas.{one_asks}
use Rattle.axiom_strategy.proofs.KeyedLemmas.{none_listed, one_listed}
use Rattle.axiom_strategy.proofs.TakenLemmas.{none_taken, taken_kept, taken_last, taken_cases}
use Rattle.axiom_strategy.proofs.TypedLemmas.{same_type, IsTypedNumber, listed_typing, among, typed_number}

-- ---- types by term

pub no_types_for : AreListed (IsTypeFor []) []
no_types_for = none_listed (IsTypeFor []) (λ k x t. none_taken t.typing t.among)

module _ (xs : List Typing) (i : ℕ) (d : Typing) (w : i < length xs) where
  pub type_taken : {lists more : List (ℕ × List ℕ)} → AreListed (IsTypeFor (take i xs)) lists → HasOneMore lists more (get_or xs i d).term (get_or xs i d).of → AreListed (IsTypeFor (take (i + 1) xs)) more
  type_taken h more = one_listed (IsTypeFor (take i xs)) (IsTypeFor (take (i + 1) xs)) h more (λ k x. (there k x, back k x))
    where
      there : (k x : ℕ) → IsTypeFor (take (i + 1) xs) k x → IsTypeFor (take i xs) k x ⊎ ((k ≡ (get_or xs i d).term) × (x ≡ (get_or xs i d).of))
      there k x t = elim (taken_cases xs i d w t.typing t.among) [
        | inl o ↦ inl (record { typing = t.typing; among = o; is_term = t.is_term; is_of = t.is_of })
        | inr e ↦ inr (sym t.is_term ∙ ap (λ (y : Typing). y.term) (sym e), sym t.is_of ∙ ap (λ (y : Typing). y.of) (sym e))
      ]

      back : (k x : ℕ) → IsTypeFor (take i xs) k x ⊎ ((k ≡ (get_or xs i d).term) × (x ≡ (get_or xs i d).of)) → IsTypeFor (take (i + 1) xs) k x
      back k x (inl t) = record { typing = t.typing; among = taken_kept xs i d w t.typing t.among; is_term = t.is_term; is_of = t.is_of }
      back k x (inr e) = record { typing = get_or xs i d; among = taken_last xs i d w; is_term = sym e.0; is_of = sym e.1 }

-- ---- one pair of terms

pub no_pair_yet : (pairs : List (ℕ × ℕ)) (left right : ℕ) (start : List Asker) → AreMoreAskers start start (IsPairOf [] pairs left right)
no_pair_yet pairs left right start = record { each = λ x. (λ m. inl m, λ s. elim s [ inl o ↦ o | inr p ↦ absurd (none_taken p.of p.first) ]) }

module _ (pairs : List (ℕ × ℕ)) (left right : ℕ) (start : List Asker) (xs : List ℕ) (i : ℕ) (w : i < length xs) where
  pair_kept : (x : Asker) → IsPairOf (take i xs) pairs left right x → IsPairOf (take (i + 1) xs) pairs left right x
  pair_kept x p = record { of = p.of; first = taken_kept xs i 0 w p.of p.first; second = p.second; is = p.is }

  pub pair_passed : {cur : List Asker} → AreMoreAskers start cur (IsPairOf (take i xs) pairs left right) → (Contains pairs (right, get_or xs i 0) → ⊥) → AreMoreAskers start cur (IsPairOf (take (i + 1) xs) pairs left right)
  pair_passed {cur} h none = record { each = λ x. (there x, back x) }
    where
      there : (x : Asker) → Contains cur x → Contains start x ⊎ IsPairOf (take (i + 1) xs) pairs left right x
      there x m = elim ((h.each x).0 m) [ inl o ↦ inl o | inr p ↦ inr (pair_kept x p) ]

      back : (x : Asker) → Contains start x ⊎ IsPairOf (take (i + 1) xs) pairs left right x → Contains cur x
      back x (inl o) = (h.each x).1 (inl o)
      back x (inr p) = elim (taken_cases xs i 0 w p.of p.first) [
        | inl f ↦ (h.each x).1 (inr (record { of = p.of; first = f; second = p.second; is = p.is }))
        | inr e ↦ absurd (none (subst (λ k. Contains pairs (right, k)) (sym e) p.second))
      ]

  pub pair_put : {cur next : List Asker} → next ≡ cur ++ Vectors (get_or xs i 0) left right ∷ [] → AreMoreAskers start cur (IsPairOf (take i xs) pairs left right) → Contains pairs (right, get_or xs i 0) → AreMoreAskers start next (IsPairOf (take (i + 1) xs) pairs left right)
  pair_put {cur} {next} e h m = subst (λ ys. AreMoreAskers start ys (IsPairOf (take (i + 1) xs) pairs left right)) (sym e) (record { each = λ x. (there x, back x) })
    where
      there : (x : Asker) → Contains (cur ++ Vectors (get_or xs i 0) left right ∷ []) x → Contains start x ⊎ IsPairOf (take (i + 1) xs) pairs left right x
      there x c = elim (Contains-push_cases cur (Vectors (get_or xs i 0) left right) x c) [
        | inl old ↦ (elim ((h.each x).0 old) [ inl o ↦ inl o | inr p ↦ inr (pair_kept x p) ])
        | inr same ↦ inr (record { of = get_or xs i 0; first = taken_last xs i 0 w; second = m; is = sym same })
      ]

      back : (x : Asker) → Contains start x ⊎ IsPairOf (take (i + 1) xs) pairs left right x → Contains (cur ++ Vectors (get_or xs i 0) left right ∷ []) x
      back x (inl o) = Contains-append_left cur (Vectors (get_or xs i 0) left right ∷ []) x ((h.each x).1 (inl o))
      back x (inr p) = elim (taken_cases xs i 0 w p.of p.first) [
        | inl f ↦ Contains-append_left cur (Vectors (get_or xs i 0) left right ∷ []) x ((h.each x).1 (inr (record { of = p.of; first = f; second = p.second; is = p.is })))
        | inr s ↦ subst (Contains (cur ++ Vectors (get_or xs i 0) left right ∷ [])) (ap (λ k. Vectors k left right) s ∙ sym p.is) (Contains-push cur (Vectors (get_or xs i 0) left right))
      ]

-- ---- entry after entry

module _ (ns : List Node) (b : Branch) (lists : List (ℕ × List ℕ)) (pairs : List (ℕ × ℕ)) where
  denied_kept : (count : ℕ) (x : Asker) → IsDeniedPair ns b lists pairs count x → IsDeniedPair ns b lists pairs (count + 1) x
  denied_kept count x s = record { position = s.position; before = (let w = s.before in omega (arith, w)); sides = s.sides; denies = s.denies; pair = s.pair }

  pub denied_begun : AreDeniedPairs ns b lists pairs 0 []
  denied_begun = record { each = λ x. (λ m. absurd (none_taken x m), λ s. absurd (let w = s.before in omega (arith, w))) }

  pub denied_passed : {count : ℕ} {askers : List Asker} → AreDeniedPairs ns b lists pairs count askers → DeniesNone b count → AreDeniedPairs ns b lists pairs (count + 1) askers
  denied_passed {count} {askers} h none = record { each = λ x. (λ m. denied_kept count x ((h.each x).0 m), back x) }
    where
      back : (x : Asker) → IsDeniedPair ns b lists pairs (count + 1) x → Contains askers x
      back x s = elim (cases_lt s.position count) [
        | inl l ↦ (h.each x).1 (record { position = s.position; before = l; sides = s.sides; denies = s.denies; pair = s.pair })
        | inr l ↦ absurd (
            let w = s.before in
            let same : s.position ≡ count = omega (arith, l, w) in
            none.none (term_at ns s.sides.0) (term_at ns s.sides.1) (subst (λ k. Says b k (NotFormula (EqFormula (term_at ns s.sides.0) (term_at ns s.sides.1)))) same s.denies.says))
      ]

  pub denied_put : IsOneNumber ns → {count : ℕ} {askers more : List Asker} (sides : ℕ × ℕ) → AreDeniedPairs ns b lists pairs count askers → DeniesSides ns b count sides → AreMoreAskers askers more (IsPairOf (list_in lists sides.0) pairs sides.0 sides.1) → AreDeniedPairs ns b lists pairs (count + 1) more
  denied_put one {count} {askers} {more} sides h denies put = record { each = λ x. (there x, back x) }
    where
      there : (x : Asker) → Contains more x → IsDeniedPair ns b lists pairs (count + 1) x
      there x m = elim ((put.each x).0 m) [
        | inl o ↦ denied_kept count x ((h.each x).0 o)
        | inr p ↦ record { position = count; before = omega arith; sides = sides; denies = denies; pair = p }
      ]

      back : (x : Asker) → IsDeniedPair ns b lists pairs (count + 1) x → Contains more x
      back x s = elim (cases_lt s.position count) [
        | inl l ↦ (put.each x).1 (inl ((h.each x).1 (record { position = s.position; before = l; sides = s.sides; denies = s.denies; pair = s.pair })))
        | inr l ↦ (
            let w = s.before in
            let last : s.position ≡ count = omega (arith, l, w) in
            let same : s.sides ≡ sides = same_sides ns one b count s.sides sides (subst (λ k. DeniesSides ns b k s.sides) last s.denies) denies in
            (put.each x).1 (inr (subst (λ (q : ℕ × ℕ). IsPairOf (list_in lists q.0) pairs q.0 q.1 x) same s.pair)))
      ]

-- ---- all triggered instances

module _ (ns : List Node) (one : IsOneNumber ns) (d : BranchData) (typings : List Typing) (typed : AreTypings ns (branch_in ns d) (length d.entries) typings) (lists : List (ℕ × List ℕ)) (pairs : List (ℕ × ℕ)) (paired : ArePairsOf lists pairs) (types : AreListed (IsTypeFor typings) lists) (askers : List Asker) (h : AreDeniedPairs ns (branch_in ns d) lists pairs (length d.entries) askers) where
  abbrev b : Branch
  b = branch_in ns d

  of_type : (t a : ℕ) → Contains (list_in lists t) a → IsTypedNumber ns b a t
  of_type t a m =
      let y = (types.each t a).0 m in
      subst (λ k. IsTypedNumber ns b k t) y.is_of (subst (IsTypedNumber ns b y.typing.of) y.is_term (typed_number ns d typings typed y.typing y.among))

  pair_on : (x : Asker) → Contains askers x → IsAskerOn ns b x
  pair_on x m =
      let s = (h.each x).0 m in
      let left = of_type s.sides.0 s.pair.of s.pair.first in
      let right = of_type s.sides.1 s.pair.of ((paired.each s.sides.1 s.pair.of).0 s.pair.second) in
      subst (IsAskerOn ns b) (sym s.pair.is) (record {
        numbers = record { of = left.of; first = left.term; second = right.term };
        stands = (record { position = s.position; says = s.denies.says }, left.typed, right.typed);
      })

  -- an entry states that the terms with these numbers differ
  says_there : {a c : TypeData} {v u : TermData} (s : Stands b (DifferFormula v u)) (l : IsListedTyping ns typings a v) (r : IsListedTyping ns typings c u) → Says b s.position (NotFormula (EqFormula (term_at ns l.typing.term) (term_at ns r.typing.term)))
  says_there {v = v} s l r =
      subst (λ (t : TermData). Says b s.position (NotFormula (EqFormula t (term_at ns r.typing.term)))) (sym l.term_is) (subst (λ (t : TermData). Says b s.position (NotFormula (EqFormula v t))) (sym r.term_is) s.says)

  listed_pair : {a : TypeData} {v u : TermData} → Stands b (DifferFormula v u) → (l : IsListedTyping ns typings a v) (r : IsListedTyping ns typings a u) → Contains askers (Vectors l.typing.of l.typing.term r.typing.term)
  listed_pair s l r =
      let left = among ns d typings typed l in
      let right = among ns d typings typed r in
      let x = typed_number ns d typings typed l.typing left in
      let y = typed_number ns d typings typed r.typing right in
      let t = term_at ns l.typing.term in
      let u = term_at ns r.typing.term in
      let same : r.typing.of ≡ l.typing.of = same_type ns one r.typing.of l.typing.of y.of x.of (r.type_is ∙ sym l.type_is) in
      let says : Says b s.position (NotFormula (EqFormula t u)) = says_there s l r in
      let stands : Stands b (NotFormula (EqFormula t u)) = record { position = s.position; says = says } in
      (h.each (Vectors l.typing.of l.typing.term r.typing.term)).1 (record {
        position = s.position;
        before = says_within ns d s.position (NotFormula (EqFormula t u)) says;
        sides = (l.typing.term, r.typing.term);
        denies = record {
          left = record { number = term_number x.term; stands = left_stands b t u stands };
          right = record { number = term_number y.term; stands = right_stands b t u stands };
          says = says;
        };
        pair = record {
          of = l.typing.of;
          first = (types.each l.typing.term l.typing.of).1 (record { typing = l.typing; among = left; is_term = refl; is_of = refl });
          second = (paired.each r.typing.term l.typing.of).1 ((types.each r.typing.term l.typing.of).1 (record { typing = r.typing; among = right; is_term = refl; is_of = same }));
          is = refl;
        };
      })

  pair_asks : (shapes : List Shape) {a : TypeData} {v u : TermData} {name : Axiom} {ts : List TermData} {p : FormulaData} → Stands b (DifferFormula v u) → IsListedTyping ns typings a v → IsListedTyping ns typings a u → AsksOfPair a v u name ts p → AsksOfSome (length askers) (asks_at shapes ns askers) name ts p
  pair_asks shapes {a} {v} {u} {name} {ts} {p} s l r k =
      one_asks shapes ns askers (Vectors l.typing.of l.typing.term r.typing.term) (listed_pair s l r)
      (subst (λ (c : TypeData). AsksOfPair c (term_at ns l.typing.term) (term_at ns r.typing.term) name ts p) (sym l.type_is)
      (subst (λ (t : TermData). AsksOfPair a t (term_at ns r.typing.term) name ts p) (sym l.term_is)
      (subst (λ (t : TermData). AsksOfPair a v t name ts p) (sym r.term_is) k)))

  all_triggered : (shapes : List Shape) (name : Axiom) (ts : List TermData) (p : FormulaData) → AsksOfPairs b name ts p → AsksOfSome (length askers) (asks_at shapes ns askers) name ts p
  all_triggered shapes name ts p (ByPair a v u s t r k) = pair_asks shapes s (listed_typing ns d typings typed t) (listed_typing ns d typings typed r) k

  pub vectors_ask : AskAll ns b askers (AsksOfPairs b)
  vectors_ask = record { on = λ k x w. pair_on (slice_index_or askers k x) (Contains-get_or askers k x w); all = all_triggered }
