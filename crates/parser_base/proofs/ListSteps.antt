-- One step of a loop that reads a comma list.
use Rattle.std.proofs.Common.{◌≡◌, ℕ, zero, suc, true, false, List, [], ◌∷◌, ◌++◌, Option, Some, None, Result, Ok, Err, MatchResult, IsErrAnd, subst, refl, sym, ap, ◌∙◌, append_assoc}
use Rattle.std.specs.Prelude.{option_and_then}
use Rattle.tokens.specs.declared.token.Token.{Token}
use Rattle.parser_base.specs.ReadFault.{IfNoTree}
use Rattle.parser_base.specs.declared.fault.ReadFault.{ReadFault}
use Rattle.parser_base.specs.declared.fault.ReadFault.TheVariants.{NoTree, NoMemory}
use Rattle.parser_base.specs.declared.lists.Separator.{Separator}
use Rattle.parser_base.specs.declared.lists.Separator.TheVariants.{Next, End, EndBehindComma}
use Rattle.parser_base.specs.TokenReading.{Read}
use Rattle.parser_base.specs.ListReading.{Items, put_before, separator_at, items_behind, items_at}

pub put_before-nil : {X : Type 0} (read : Read (Items X)) → put_before [] read ≡ read
put_before-nil None = refl
put_before-nil (Some r) = refl

pub put_before-twice : {X : Type 0} (xs ys : List X) (read : Read (Items X)) → put_before xs (put_before ys read) ≡ put_before (xs ++ ys) read
put_before-twice xs ys None = refl
put_before-twice xs ys (Some r) = ap (λ zs. Some ((zs, r.0.1), r.1)) (sym (append_assoc xs ys r.0.0))

module _ {X : Type 0} (ends : List Token → Option (List Token)) (item : List Token → Read X) where
  items_at-zero : (ts : List Token) → items_at ends item zero ts ≡ None
  unfolding items_at
  items_at-zero ts = refl

  turn : ℕ → Read X → Read (Items X)
  turn n first = option_and_then (λ x. option_and_then (λ s. items_behind x.0 s.0 s.1 (items_at ends item n s.1)) (separator_at ends x.1)) first

  items_at-none : (k n : ℕ) (ts : List Token) → k ≡ suc n → item ts ≡ None → items_at ends item k ts ≡ None
  unfolding items_at turn
  items_at-none k n ts e i = ap (λ j. items_at ends item j ts) e ∙ ap (turn n) i

  items_at-stuck : (k n : ℕ) (ts mid : List Token) (x : X) → k ≡ suc n → item ts ≡ Some (x, mid) → separator_at ends mid ≡ None → items_at ends item k ts ≡ None
  unfolding items_at turn
  items_at-stuck k n ts mid x e i s = ap (λ j. items_at ends item j ts) e ∙ ap (turn n) i ∙ ap (option_and_then (λ s. items_behind x s.0 s.1 (items_at ends item n s.1))) s

  items_at-turn : (k n : ℕ) (ts mid : List Token) (x : X) (s : Separator) (rest : List Token) → k ≡ suc n → item ts ≡ Some (x, mid) → separator_at ends mid ≡ Some (s, rest)
      → items_at ends item k ts ≡ items_behind x s rest (items_at ends item n rest)
  unfolding items_at turn
  items_at-turn k n ts mid x s rest e i h = ap (λ j. items_at ends item j ts) e ∙ ap (turn n) i ∙ ap (option_and_then (λ s. items_behind x s.0 s.1 (items_at ends item n s.1))) h

  -- ---- the same for a loop that has read `items` before

  pub loop_is_over : (all : Read (Items X)) (items : List X) (k : ℕ) (ts : List Token) → all ≡ put_before items (items_at ends item k ts) → k ≡ 0 → all ≡ None
  loop_is_over all items k ts before e = before ∙ ap (λ j. put_before items (items_at ends item j ts)) e ∙ ap (put_before items) (items_at-zero ts)

  pub loop_lacks_item : (all : Read (Items X)) (items : List X) (k n : ℕ) (ts : List Token) → all ≡ put_before items (items_at ends item k ts) → k ≡ suc n → item ts ≡ None → all ≡ None
  loop_lacks_item all items k n ts before e i = before ∙ ap (put_before items) (items_at-none k n ts e i)

  pub loop_is_stuck : (all : Read (Items X)) (items : List X) (k n : ℕ) (ts mid : List Token) (x : X) → all ≡ put_before items (items_at ends item k ts) → k ≡ suc n → item ts ≡ Some (x, mid) → separator_at ends mid ≡ None → all ≡ None
  loop_is_stuck all items k n ts mid x before e i s = before ∙ ap (put_before items) (items_at-stuck k n ts mid x e i s)

  pub loop_ends : (all : Read (Items X)) (items more : List X) (k n : ℕ) (ts mid : List Token) (x : X) (s : Separator) (rest : List Token) → all ≡ put_before items (items_at ends item k ts) → k ≡ suc n → item ts ≡ Some (x, mid)
      → separator_at ends mid ≡ Some (s, rest) → s ≡ End → more ≡ items ++ x ∷ [] → all ≡ Some ((more, false), rest)
  loop_ends all items more k n ts mid x s rest before e i h is m = before ∙ ap (put_before items) (items_at-turn k n ts mid x End rest e i (h ∙ ap (λ t. Some (t, rest)) is)) ∙ ap (λ xs. Some ((xs, false), rest)) (sym m)

  pub loop_ends_behind_comma : (all : Read (Items X)) (items more : List X) (k n : ℕ) (ts mid : List Token) (x : X) (s : Separator) (rest : List Token) → all ≡ put_before items (items_at ends item k ts) → k ≡ suc n → item ts ≡ Some (x, mid)
      → separator_at ends mid ≡ Some (s, rest) → s ≡ EndBehindComma → more ≡ items ++ x ∷ [] → all ≡ Some ((more, true), rest)
  loop_ends_behind_comma all items more k n ts mid x s rest before e i h is m = before ∙ ap (put_before items) (items_at-turn k n ts mid x EndBehindComma rest e i (h ∙ ap (λ t. Some (t, rest)) is)) ∙ ap (λ xs. Some ((xs, true), rest)) (sym m)

  pub loop_goes_on : (all : Read (Items X)) (items more : List X) (k n : ℕ) (ts mid : List Token) (x : X) (s : Separator) (rest : List Token) → all ≡ put_before items (items_at ends item k ts) → k ≡ suc n → item ts ≡ Some (x, mid)
      → separator_at ends mid ≡ Some (s, rest) → s ≡ Next → more ≡ items ++ x ∷ [] → all ≡ put_before more (items_at ends item n rest)
  loop_goes_on all items more k n ts mid x s rest before e i h is m =
      before ∙ ap (put_before items) (items_at-turn k n ts mid x Next rest e i (h ∙ ap (λ t. Some (t, rest)) is)) ∙ put_before-twice items (x ∷ []) (items_at ends item n rest) ∙ ap (λ xs. put_before xs (items_at ends item n rest)) (sym m)

-- ---- how `?` propagates a fault

pub IfNoTree-weaker : {P Q : Type 0} (fault : ReadFault) → (P → Q) → IfNoTree fault P → IfNoTree fault Q
IfNoTree-weaker (NoTree left) f p = f p
IfNoTree-weaker NoMemory f p = tt

pub IfNoTree-always : {Q : Type 0} (fault : ReadFault) → Q → IfNoTree fault Q
IfNoTree-always (NoTree left) q = q
IfNoTree-always NoMemory q = tt

pub fault_hands_on : {X : Type 0} (r : Result X ReadFault) (fault : ReadFault) (P : X → Type 0) (Q : Type 0) → IsErrAnd r (λ f. f ≡ fault) → IfNoTree fault Q → MatchResult r P (λ f. IfNoTree f Q)
fault_hands_on (Ok x) fault P Q e h = absurd e
fault_hands_on (Err f) fault P Q e h = subst (λ g. IfNoTree g Q) (sym e) h

-- equal tokens give equal results
pub same_read : {A X : Type 0} (r : Result A ReadFault) (f : A → X × List Token) (one other : Read X) → other ≡ one → MatchResult r (λ read. one ≡ Some (f read)) (λ fault. IfNoTree fault (one ≡ None))
    → MatchResult r (λ read. other ≡ Some (f read)) (λ fault. IfNoTree fault (other ≡ None))
same_read (Ok x) f one other e h = e ∙ h
same_read (Err fault) f one other e h = IfNoTree-weaker fault (λ n. e ∙ n) h
