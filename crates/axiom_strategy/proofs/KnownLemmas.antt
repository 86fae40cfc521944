-- Cached instances of triggers, at look-ups and while the pool is extended.
use Rattle.std.proofs.Common.{◌≡◌, ℕ, true, false, List, [], ◌∷◌, ◌++◌, length, Option, Some, None, refl, sym, ap, ◌∙◌, subst, true≢false, is_some, rules}
use Rattle.std.specs.Prelude.{slice_get, unwrap_or}
use Rattle.std.specs.Map.{values_of, lookup}
use Rattle.std.specs.Option.{option_map}
use Rattle.std.proofs.lemmas.List.Elements.{All-append, All-cons, All-nil}
use Rattle.std.proofs.lemmas.Map.Entries.{place_from_lookup}
use Rattle.std.proofs.lemmas.Option.{slice_get-map, slice_get_within, get_or_from_slice_get}
use Rattle.fol.specs.declared.shapes.Shape.{Shape}
use Rattle.term_pool.specs.Pools.{Extends}
use Rattle.term_pool.specs.declared.node.Node.{Node}
use Rattle.axiom_instances.specs.declared.triggered.TriggeredAxiom.{TriggeredAxiom}
use Rattle.axiom_instances.specs.Lists.{ListsAll}
use Rattle.axiom_instances.proofs.ListLemmas.{all_stay}
use Rattle.axiom_strategy.specs.contracts.askers.AskerPartialEq.TheImpl.{eq-value}
use Rattle.axiom_strategy.specs.declared.askers.Asker.{Asker}
use Rattle.axiom_strategy.specs.Due.{Asking}
use Rattle.axiom_strategy.specs.Askers.{IsAsker, asks_of}
use Rattle.axiom_strategy.specs.Known.{IsKept, AreKnownInstances, list_at}
use Rattle.axiom_strategy.proofs.AskerLemmas.{asker_stays, asks_kept}

abbrev Kept : Type 0
Kept = Asker × List TriggeredAxiom

same_asker : (x y : Asker) → eq-value.it x y ≡ true → x ≡ y
same_asker x y e = search rules

-- ---- a pool that is extended

lists_stay : {ns ms : List Node} {xs : List TriggeredAxiom} {asks : Asking} → Extends ns ms → ListsAll ns xs asks → ListsAll ms xs asks
lists_stay grown h = record { instances = h.instances; are = all_stay grown h.are; exactly = h.exactly }

-- instances computed while the pool was extended
kept_of : (shapes : List Shape) {ns ms : List Node} → Extends ns ms → (x : Asker) (xs : List TriggeredAxiom) → IsAsker ns x → ListsAll ms xs (asks_of shapes ns x) → IsKept shapes ms (x, xs)
kept_of shapes {ns} {ms} grown x xs number all = record {
  asker = asker_stays grown x number;
  lists = subst (λ (asks : Asking). ListsAll ms xs asks) (sym (asks_kept grown shapes x number)) all;
}

pub known_stay : (shapes : List Shape) (ns ms : List Node) (kept : List Kept) → Extends ns ms → AreKnownInstances shapes ns kept → AreKnownInstances shapes ms kept
known_stay shapes ns ms kept grown h = record {
  each = λ k d w. (let here = h.each k d w in kept_of shapes grown _ _ here.asker (lists_stay grown here.lists));
}

-- ---- look-ups

pub no_list : {A : Type 0} (o : Option A) → false ≡ is_some o → o ≡ None
no_list None e = refl
no_list (Some x) e = absurd (true≢false (sym e))

last_there : {A : Type 0} (xs : List A) (x : A) → slice_get (xs ++ x ∷ []) (length xs) ≡ Some x
last_there [] x = refl
last_there (y ∷ xs) x = last_there xs x

module _ (shapes : List Shape) (ns : List Node) (kept : List Kept) (h : AreKnownInstances shapes ns kept) (x : Asker) where
  looked_up : (xs : List TriggeredAxiom) → lookup (eq-value.it x) kept ≡ Some xs → ListsAll ns xs (asks_of shapes ns x)
  looked_up xs e =
      let found = place_from_lookup (eq-value.it x) kept xs e in
      let there : Kept = (found.1, xs) in
      let is : IsKept shapes ns there = subst (IsKept shapes ns) (get_or_from_slice_get kept found.0 there there found.2) (h.each found.0 there (slice_get_within kept found.0 there found.2)) in
      subst (λ (y : Asker). ListsAll ns xs (asks_of shapes ns y)) (sym (same_asker x found.1 found.3)) is.lists

  pub found_list : (position : ℕ) → slice_get (values_of kept) position ≡ lookup (eq-value.it x) kept → true ≡ is_some (lookup (eq-value.it x) kept) → ListsAll ns (list_at kept position) (asks_of shapes ns x)
  found_list position e some = go (lookup (eq-value.it x) kept) refl
    where
      go : (o : Option (List TriggeredAxiom)) → lookup (eq-value.it x) kept ≡ o → ListsAll ns (list_at kept position) (asks_of shapes ns x)
      go None f = absurd (true≢false (some ∙ ap is_some f))
      go (Some xs) f =
          let is : list_at kept position ≡ xs = ap (λ (o : Option (List TriggeredAxiom)). unwrap_or o []) (sym (slice_get-map (λ (k : Kept). k.1) kept position) ∙ e ∙ f) in
          subst (λ (ys : List TriggeredAxiom). ListsAll ns ys (asks_of shapes ns x)) (sym is) (looked_up xs f)

  -- one more list, the last
  module _ (ms : List Node) (grown : Extends ns ms) (number : IsAsker ns x) (xs : List TriggeredAxiom) (all : ListsAll ms xs (asks_of shapes ns x)) (new : List Kept) (e : new ≡ kept ++ (x, xs) ∷ []) where
    pub more_known : AreKnownInstances shapes ms new
    more_known =
        let one : Kept = (x, xs) in
        subst (AreKnownInstances shapes ms) (sym e) (record {
          each = All-append (IsKept shapes ms) kept (one ∷ []) (known_stay shapes ns ms kept grown h).each (All-cons (IsKept shapes ms) one [] (kept_of shapes grown x xs number all) (All-nil (IsKept shapes ms)));
        })

    pub last_list : (position : ℕ) → position ≡ length kept → ListsAll ms (list_at new position) (asks_of shapes ns x)
    last_list position p =
        let there : slice_get new position ≡ Some (x, xs) = ap (λ (es : List Kept). slice_get es position) e ∙ ap (slice_get (kept ++ (x, xs) ∷ [])) p ∙ last_there kept (x, xs) in
        let is : list_at new position ≡ xs = ap (λ (o : Option Kept). unwrap_or (option_map (λ (k : Kept). k.1) o) []) there in
        subst (λ (ys : List TriggeredAxiom). ListsAll ms ys (asks_of shapes ns x)) (sym is) all
