-- Items that follow one another are read exactly.
use Rattle.std.proofs.Common.{◌≡◌, ℕ, zero, suc, ◌<◌, ◌≤◌, List, [], ◌∷◌, ◌++◌, Option, Some, None, length, refl, sym, ap, subst, ◌∙◌, inl, inr, arith, append_assoc, append-nil}
use Rattle.std.specs.Prelude.{option_and_then}
use Rattle.std.specs.Option.{option_map_or}
use Rattle.std.specs.List.{AllByRecursion, flat_map}
use Rattle.tokens.specs.declared.token.Token.{Token}
use Rattle.syntax_tree.specs.declared.lexeme.Lexeme.{Lexeme}
use Rattle.parser_base.specs.Beginnings.{Begins}
use Rattle.parser_base.specs.TokenReading.{Read}
use Rattle.parser_base.proofs.Steps.{step, last, some_one, either, bind_some, map_or_none, map_or_some}
use Rattle.parser_base.proofs.BeginLemmas.{Begins-append, Begins-split, length-Begins}
use Rattle.parser_base.specs.RepeatReading.{put_all, repeat_at}

pub put_all-nil : {X : Type 0} (read : Read (List X)) → put_all [] read ≡ read
put_all-nil None = refl
put_all-nil (Some r) = refl

pub put_all-twice : {X : Type 0} (xs ys : List X) (read : Read (List X)) → put_all xs (put_all ys read) ≡ put_all (xs ++ ys) read
put_all-twice xs ys None = refl
put_all-twice xs ys (Some r) = ap (λ zs. Some (zs, r.1)) (sym (append_assoc xs ys r.0))

-- ---- the tokens spell what is read

module _ {A X : Type 0} (opens : List Token → Option A) (item : A → Read X) (spelling : X → List Lexeme) (proper : X → Type 0)
    (item_sound : (ts : List Token) (a : A) (r : X × List Token) → opens ts ≡ Some a → item a ≡ Some r → Begins (spelling r.0) ts r.1 × proper r.0) where
  pub repeat_at-sound : (n : ℕ) (ts : List Token) (r : List X × List Token) → repeat_at opens item n ts ≡ Some r → Begins (flat_map spelling r.0) ts r.1 × AllByRecursion proper r.0
  unfolding repeat_at
  repeat_at-sound zero ts r e = subst (λ q. Begins (flat_map spelling q.0) ts q.1 × AllByRecursion proper q.0) (some_one ([], ts) r e) (refl, tt)
  repeat_at-sound (suc n) ts r e =
      elim (either (opens ts) (λ a. option_and_then (λ x. put_all (x.0 ∷ []) (repeat_at opens item n x.1)) (item a)) _ r e) [
        | inl s ↦
            let x = step (item s.value) _ r s.then in
            let l = last (repeat_at opens item n x.value.1) _ r x.then in
            let first = item_sound ts s.value x.value s.first x.first in
            let others = repeat_at-sound n x.value.1 l.value l.first in
            subst (λ q. Begins (flat_map spelling q.0) ts q.1 × AllByRecursion proper q.0) l.then
            (Begins-append (spelling x.value.0) (flat_map spelling l.value.0) ts x.value.1 l.value.1 first.0 others.0, (first.1, others.1))
        | inr m ↦ subst (λ q. Begins (flat_map spelling q.0) ts q.1 × AllByRecursion proper q.0) (some_one ([], ts) r m.1) (refl, tt)
      ]

-- ---- what the tokens spell is read

-- an item is opened, and then the rest of it is read
pub record Opening {A X : Type 0} (opens : List Token → Option A) (item : A → Read X) (x : X) (ts rest : List Token) : Type 0 where
  pub value : A
  pub first : opens ts ≡ Some value
  pub then : item value ≡ Some (x, rest)

module _ {A X : Type 0} (opens : List Token → Option A) (item : A → Read X) (spelling : X → List Lexeme) (proper : X → Type 0) (bound : ℕ)
    (item_complete : (x : X) (ts rest : List Token) → length ts ≤ bound → Begins (spelling x) ts rest → proper x → Opening opens item x ts rest)
    (item_some : (x : X) → proper x → 0 < length (spelling x)) where
  pub repeat_at-complete : (n : ℕ) (xs : List X) (ts rest : List Token) → length ts ≤ n → length ts ≤ bound → Begins (flat_map spelling xs) ts rest → AllByRecursion proper xs → opens rest ≡ None → repeat_at opens item n ts ≡ Some (xs, rest)
  unfolding repeat_at
  repeat_at-complete zero [] ts rest h k b p e = ap (λ us. Some ([], us)) b
  repeat_at-complete zero (x ∷ xs) ts rest h k b p e =
      let s = Begins-split (spelling x) (flat_map spelling xs) ts rest b in
      absurd (omega (arith, h, item_some x p.0, length-Begins (spelling x) ts s.mid s.front))
  repeat_at-complete (suc n) [] ts rest h k b p e = map_or_none (opens ts) (λ a. option_and_then (λ x. put_all (x.0 ∷ []) (repeat_at opens item n x.1)) (item a)) _ (ap opens b ∙ e) ∙ ap (λ us. Some ([], us)) b
  repeat_at-complete (suc n) (x ∷ xs) ts rest h k b p e =
      let s = Begins-split (spelling x) (flat_map spelling xs) ts rest b in
      let o = item_complete x ts s.mid k s.front p.0 in
      map_or_some (opens ts) (λ a. option_and_then (λ x. put_all (x.0 ∷ []) (repeat_at opens item n x.1)) (item a)) _ o.value o.first
      ∙ bind_some (item o.value) (λ x. put_all (x.0 ∷ []) (repeat_at opens item n x.1)) (x, s.mid) o.then
      ∙ ap (put_all (x ∷ [])) (repeat_at-complete n xs s.mid rest (omega (arith, h, item_some x p.0, length-Begins (spelling x) ts s.mid s.front)) (omega (arith, k, length-Begins (spelling x) ts s.mid s.front)) s.back p.1 e)

-- ---- one step of a loop that has read `items` before

module _ {A X : Type 0} (opens : List Token → Option A) (item : A → Read X) where
  turn : ℕ → List Token → Option A → Read (List X)
  turn n ts found = option_map_or (λ a. option_and_then (λ x. put_all (x.0 ∷ []) (repeat_at opens item n x.1)) (item a)) found (Some ([], ts))

  repeat_at-turn : (k n : ℕ) (ts : List Token) (found : Option A) → k ≡ suc n → opens ts ≡ found → repeat_at opens item k ts ≡ turn n ts found
  unfolding repeat_at turn
  repeat_at-turn k n ts found e o = ap (λ j. repeat_at opens item j ts) e ∙ ap (turn n ts) o

  pub repeating_stops : (all : Read (List X)) (items : List X) (k n : ℕ) (ts : List Token) → all ≡ put_all items (repeat_at opens item k ts) → k ≡ suc n → opens ts ≡ None → all ≡ Some (items, ts)
  unfolding turn
  repeating_stops all items k n ts before e o = before ∙ ap (put_all items) (repeat_at-turn k n ts None e o) ∙ ap (λ xs. Some (xs, ts)) (append-nil items)

  pub repeating_is_over : (all : Read (List X)) (items : List X) (k : ℕ) (ts : List Token) → all ≡ put_all items (repeat_at opens item k ts) → k ≡ 0 → all ≡ Some (items, ts)
  unfolding repeat_at
  repeating_is_over all items k ts before e = before ∙ ap (λ j. put_all items (repeat_at opens item j ts)) e ∙ ap (λ xs. Some (xs, ts)) (append-nil items)

  pub repeating_fails : (all : Read (List X)) (items : List X) (k n : ℕ) (ts : List Token) (a : A) → all ≡ put_all items (repeat_at opens item k ts) → k ≡ suc n → opens ts ≡ Some a → item a ≡ None → all ≡ None
  unfolding turn
  repeating_fails all items k n ts a before e o i =
      before ∙ ap (put_all items) (repeat_at-turn k n ts (Some a) e o) ∙ ap (λ r. put_all items (option_and_then (λ x. put_all (x.0 ∷ []) (repeat_at opens item n x.1)) r)) i

  pub repeating_goes_on : (all : Read (List X)) (items more : List X) (k n : ℕ) (ts : List Token) (a : A) (x : X) (rest : List Token) → all ≡ put_all items (repeat_at opens item k ts) → k ≡ suc n → opens ts ≡ Some a
      → item a ≡ Some (x, rest) → more ≡ items ++ x ∷ [] → all ≡ put_all more (repeat_at opens item n rest)
  unfolding turn
  repeating_goes_on all items more k n ts a x rest before e o i m =
      before ∙ ap (put_all items) (repeat_at-turn k n ts (Some a) e o) ∙ ap (λ r. put_all items (option_and_then (λ x. put_all (x.0 ∷ []) (repeat_at opens item n x.1)) r)) i
      ∙ put_all-twice items (x ∷ []) (repeat_at opens item n rest) ∙ ap (λ xs. put_all xs (repeat_at opens item n rest)) (sym m)
