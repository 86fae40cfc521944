-- Comma lists are read exactly.
use Rattle.std.proofs.Common.{◌≡◌, ℕ, zero, suc, ◌<◌, ◌≤◌, Bool, true, false, List, [], ◌∷◌, ◌++◌, Option, Some, None, length, refl, sym, ap, subst, ◌∙◌, inl, inr, arith, append_assoc, append-nil}
use Rattle.std.specs.Prelude.{option_and_then, map}
use Rattle.std.specs.Option.{option_map_or}
use Rattle.std.specs.List.{AllByRecursion}
use Rattle.tokens.specs.declared.token.Token.{Token}
use Rattle.tokens.specs.declared.token.TokenKind.TheVariants.{Punctuation}
use Rattle.tokens.specs.declared.token.Punctuation.{Punctuation as Sign}
use Rattle.tokens.specs.declared.token.Punctuation.TheVariants.{Comma}
use Rattle.syntax_tree.specs.declared.lexeme.Lexeme.{Lexeme}
use Rattle.syntax_tree.specs.Lexemes.{sign, comma_list, after_commas, last_comma}
use Rattle.parser_base.specs.declared.lists.Separator.{Separator}
use Rattle.parser_base.specs.declared.lists.Separator.TheVariants.{Next, End, EndBehindComma}
use Rattle.parser_base.specs.Beginnings.{Begins}
use Rattle.parser_base.specs.TokenReading.{Read, is_sign, after_sign}
use Rattle.parser_base.specs.ListReading.{Items, put_before, separator_at, items_behind, items_at, some_items_at, comma_list_at}
use Rattle.parser_base.proofs.Steps.{step, last, some_one, either, bind_some, map_some, map_or_none, map_or_some}
use Rattle.parser_base.proofs.BeginLemmas.{Begins-append, Begins-split, Begins-first, Begins-same, length-Begins}
use Rattle.parser_base.proofs.TokenLemmas.{after_sign-sound, after_sign-complete, after_sign-other}

-- a list with at least one item
abbrev pub Filled : {X : Type 0} → List X → Type 0
Filled [] = ⊥
Filled (x ∷ xs) = Unit {0}

comma_list-more : (x y : List Lexeme) (ys : List (List Lexeme)) (last : Bool) → comma_list (x ∷ y ∷ ys) last ≡ x ++ sign Comma ∷ comma_list (y ∷ ys) last
comma_list-more x y ys last = append_assoc x (after_commas (y ∷ ys)) (last_comma last)

comma_list-one : (x : List Lexeme) (last : Bool) → comma_list (x ∷ []) last ≡ x ++ last_comma last
comma_list-one x last = ap (λ l. l ++ last_comma last) (append-nil x)

-- what follows an item, by how it was read
record BehindComma (Ended : List Token → List Token → Type 0) (ts rest : List Token) : Type 0 where
  pub mid : List Token
  pub comma : Begins (sign Comma ∷ []) ts mid
  pub end : Ended mid rest

Separated : (List Token → List Token → Type 0) → Separator → List Token → List Token → Type 0
Separated Ended End ts rest = Ended ts rest
Separated Ended EndBehindComma ts rest = BehindComma Ended ts rest
Separated Ended Next ts rest = Begins (sign Comma ∷ []) ts rest

-- ---- a list, up to its end: `Ended` states what the end of the list is

pub record Listed {X : Type 0} (spelling : X → List Lexeme) (proper : X → Type 0) (Ended : List Token → List Token → Type 0) (items : Items X) (ts rest : List Token) : Type 0 where
  pub mid : List Token
  pub front : Begins (comma_list (map spelling items.0) items.1) ts mid
  pub back : Ended mid rest
  pub all_proper : AllByRecursion proper items.0
  pub filled : Filled items.0

module _ {X : Type 0} (ends : List Token → Option (List Token)) (item : List Token → Read X) (spelling : X → List Lexeme) (proper : X → Type 0)
    (Ended : List Token → List Token → Type 0)
    (item_sound : (ts : List Token) (r : X × List Token) → item ts ≡ Some r → Begins (spelling r.0) ts r.1 × proper r.0)
    (ends_sound : (ts rest : List Token) → ends ts ≡ Some rest → Ended ts rest) where
  separator-sound : (ts : List Token) (q : Separator × List Token) → separator_at ends ts ≡ Some q → Separated Ended q.0 ts q.1
  unfolding separator_at Separated
  separator-sound ts q e =
      elim (either (ends ts) (λ rest. Some (End, rest)) _ q e) [
        | inl s ↦ subst (λ p. Separated Ended p.0 ts p.1) (some_one (End, s.value) q s.then) (ends_sound ts s.value s.first)
        | inr n ↦
            let c = last (after_sign Comma ts) _ q n.1 in
            behind c.value (after_sign-sound Comma ts c.value c.first) (ends c.value) refl c.then
      ]
    where
      behind : (us : List Token) → Begins (sign Comma ∷ []) ts us → (end : Option (List Token)) → ends us ≡ end → option_map_or (λ rest. (EndBehindComma, rest)) end (Next, us) ≡ q → Separated Ended q.0 ts q.1
      behind us comma (Some rest) is e = subst (λ p. Separated Ended p.0 ts p.1) e (record { mid = us; comma = comma; end = ends_sound us rest is })
      behind us comma None is e = subst (λ p. Separated Ended p.0 ts p.1) e comma

  -- an item, and what was read after it
  listed : (x : X) (sep : Separator) (ts mid rest : List Token) (more : Read (Items X)) (r : Items X × List Token) → Begins (spelling x) ts mid → proper x → Separated Ended sep mid rest
      → ((q : Items X × List Token) → more ≡ Some q → Listed spelling proper Ended q.0 rest q.1) → items_behind x sep rest more ≡ Some r → Listed spelling proper Ended r.0 ts r.1
  unfolding Separated
  listed x End ts mid rest more r front p s before e =
      subst (λ q. Listed spelling proper Ended q.0 ts q.1) (some_one ((x ∷ [], false), rest) r e)
      (record { mid = mid; front = Begins-same (spelling x) _ ts mid (sym (comma_list-one (spelling x) false ∙ append-nil (spelling x))) front; back = s; all_proper = (p, tt); filled = tt })
  listed x EndBehindComma ts mid rest more r front p s before e =
      subst (λ q. Listed spelling proper Ended q.0 ts q.1) (some_one ((x ∷ [], true), rest) r e)
      (record {
        mid = s.mid;
        front = Begins-same (spelling x ++ sign Comma ∷ []) _ ts s.mid (sym (comma_list-one (spelling x) true)) (Begins-append (spelling x) (sign Comma ∷ []) ts mid s.mid front s.comma);
        back = s.end;
        all_proper = (p, tt);
        filled = tt;
      })
  listed x Next ts mid rest more r front p s before e =
      let l = last more _ r e in
      let others = before l.value l.first in
      subst (λ q. Listed spelling proper Ended q.0 ts q.1) l.then
      (record {
        mid = others.mid;
        front = joined l.value.0.0 l.value.0.1 others.mid others.filled others.front;
        back = others.back;
        all_proper = (p, others.all_proper);
        filled = tt;
      })
    where
      joined : (ys : List X) (last : Bool) (us : List Token) → Filled ys → Begins (comma_list (map spelling ys) last) rest us → Begins (comma_list (map spelling (x ∷ ys)) last) ts us
      joined [] last us f b = absurd f
      joined (y ∷ ys) last us f b =
          Begins-same _ _ ts us (sym (comma_list-more (spelling x) (spelling y) (map spelling ys) last))
          (Begins-append (spelling x) (sign Comma ∷ comma_list (map spelling (y ∷ ys)) last) ts mid us front
          (Begins-append (sign Comma ∷ []) (comma_list (map spelling (y ∷ ys)) last) mid rest us s b))

  pub items_at-sound : (n : ℕ) (ts : List Token) (r : Items X × List Token) → items_at ends item n ts ≡ Some r → Listed spelling proper Ended r.0 ts r.1
  unfolding items_at
  items_at-sound zero ts r e = absurd (cc)
  items_at-sound (suc n) ts r e =
      let x = step (item ts) _ r e in
      let s = step (separator_at ends x.value.1) _ r x.then in
      let first = item_sound ts x.value x.first in
      listed x.value.0 s.value.0 ts x.value.1 s.value.1 (items_at ends item n s.value.1) r first.0 first.1 (separator-sound x.value.1 s.value s.first) (items_at-sound n s.value.1) s.then

module _ {X : Type 0} (ends : List Token → Option (List Token)) (item : List Token → Read X) (spelling : X → List Lexeme) (proper : X → Type 0)
    (Ended : List Token → List Token → Type 0) (ItemEnds : List Token → Type 0) (bound : ℕ)
    (item_complete : (x : X) (ts rest : List Token) → length ts ≤ bound → Begins (spelling x) ts rest → proper x → ItemEnds rest → item ts ≡ Some (x, rest))
    (item_no_end : (x : X) (ts rest : List Token) → Begins (spelling x) ts rest → proper x → ends ts ≡ None)
    (ends_complete : (ts rest : List Token) → Ended ts rest → ends ts ≡ Some rest)
    (ended_some : (ts rest : List Token) → Ended ts rest → 0 < length ts)
    (ended_item : (ts rest : List Token) → Ended ts rest → ItemEnds ts)
    (comma_item : (ts rest : List Token) → Begins (sign Comma ∷ []) ts rest → ItemEnds ts)
    (comma_no_end : (ts rest : List Token) → Begins (sign Comma ∷ []) ts rest → ends ts ≡ None) where
  separator-end : (ts rest : List Token) → Ended ts rest → separator_at ends ts ≡ Some (End, rest)
  unfolding separator_at
  separator-end ts rest h = map_or_some (ends ts) (λ rest. Some (End, rest)) _ rest (ends_complete ts rest h)

  separator-comma : (ts us : List Token) → Begins (sign Comma ∷ []) ts us → separator_at ends ts ≡ Some (option_map_or (λ rest. (EndBehindComma, rest)) (ends us) (Next, us))
  unfolding separator_at
  separator-comma ts us c =
      map_or_none (ends ts) (λ rest. Some (End, rest)) _ (comma_no_end ts us c)
      ∙ map_some (after_sign Comma ts) (λ us. option_map_or (λ rest. (EndBehindComma, rest)) (ends us) (Next, us)) us (after_sign-complete Comma ts us c)

  first_item : (x : X) (xs : List X) (last : Bool) → (ts mid : List Token) → Begins (comma_list (map spelling (x ∷ xs)) last) ts mid → proper x → ends ts ≡ None
  first_item x xs last ts mid b p =
      let s = Begins-split (spelling x) (after_commas (map spelling xs) ++ last_comma last) ts mid (Begins-same _ _ ts mid (append_assoc (spelling x) (after_commas (map spelling xs)) (last_comma last)) b) in
      item_no_end x ts s.mid s.front p

  -- one step, if what follows the item is known
  turn : (n : ℕ) (x : X) (ts mid : List Token) (s : Separator × List Token) → length ts ≤ bound → Begins (spelling x) ts mid → proper x → ItemEnds mid → separator_at ends mid ≡ Some s
      → items_at ends item (suc n) ts ≡ items_behind x s.0 s.1 (items_at ends item n s.1)
  unfolding items_at
  turn n x ts mid s h b p i e =
      bind_some (item ts) (λ x. option_and_then (λ s. items_behind x.0 s.0 s.1 (items_at ends item n s.1)) (separator_at ends x.1)) (x, mid) (item_complete x ts mid h b p i)
      ∙ bind_some (separator_at ends mid) (λ s. items_behind x s.0 s.1 (items_at ends item n s.1)) s e

  pub items_at-complete : (n : ℕ) (x : X) (xs : List X) (last : Bool) (ts mid rest : List Token) → length ts ≤ n → length ts ≤ bound
      → Begins (comma_list (map spelling (x ∷ xs)) last) ts mid → Ended mid rest → AllByRecursion proper (x ∷ xs) → items_at ends item n ts ≡ Some ((x ∷ xs, last), rest)
  items_at-complete zero x xs last ts mid rest h k b d p = absurd (omega (arith, length-Begins (comma_list (map spelling (x ∷ xs)) last) ts mid b, ended_some mid rest d, h))
  items_at-complete (suc n) x [] false ts mid rest h k b d p =
      let front : Begins (spelling x) ts mid = Begins-same _ _ ts mid (comma_list-one (spelling x) false ∙ append-nil (spelling x)) b in
      turn n x ts mid (End, rest) k front p.0 (ended_item mid rest d) (separator-end mid rest d)
  items_at-complete (suc n) x [] true ts mid rest h k b d p =
      let s = Begins-split (spelling x) (sign Comma ∷ []) ts mid (Begins-same _ _ ts mid (comma_list-one (spelling x) true) b) in
      turn n x ts s.mid (EndBehindComma, rest) k s.front p.0 (comma_item s.mid mid s.back)
      (separator-comma s.mid mid s.back ∙ ap Some (map_or_some (ends mid) (λ rest. (EndBehindComma, rest)) (Next, mid) rest (ends_complete mid rest d)))
  items_at-complete (suc n) x (y ∷ ys) last ts mid rest h k b d p =
      let s = Begins-split (spelling x) (sign Comma ∷ comma_list (map spelling (y ∷ ys)) last) ts mid (Begins-same _ _ ts mid (comma_list-more (spelling x) (spelling y) (map spelling ys) last) b) in
      let c = Begins-first (sign Comma) (comma_list (map spelling (y ∷ ys)) last) s.mid mid s.back in
      let shorter : length c.mid < length ts = omega (arith, length-Begins (spelling x) ts s.mid s.front, length-Begins (sign Comma ∷ []) s.mid c.mid c.front) in
      turn n x ts s.mid (Next, c.mid) k s.front p.0 (comma_item s.mid c.mid c.front)
      (separator-comma s.mid c.mid c.front ∙ ap Some (map_or_none (ends c.mid) (λ rest. (EndBehindComma, rest)) (Next, c.mid) (first_item y ys last c.mid mid c.back p.1.0)))
      ∙ ap (put_before (x ∷ [])) (items_at-complete n y ys last c.mid mid rest (omega (arith, shorter, h)) (omega (arith, shorter, k)) c.back d p.1)

-- ---- lists closed by a sign

pub record Closed {X : Type 0} (spelling : X → List Lexeme) (proper : X → Type 0) (close : Sign) (items : Items X) (ts rest : List Token) : Type 0 where
  pub spelled : Begins (comma_list (map spelling items.0) items.1 ++ sign close ∷ []) ts rest
  pub all_proper : AllByRecursion proper items.0

module _ {X : Type 0} (close : Sign) (item : List Token → Read X) (spelling : X → List Lexeme) (proper : X → Type 0)
    (item_sound : (ts : List Token) (r : X × List Token) → item ts ≡ Some r → Begins (spelling r.0) ts r.1 × proper r.0) where
  pub some_items_at-sound : (ts : List Token) (r : Items X × List Token) → some_items_at (after_sign close) item ts ≡ Some r → Closed spelling proper close r.0 ts r.1 × Filled r.0.0
  some_items_at-sound ts r e =
      let l = items_at-sound (after_sign close) item spelling proper (λ ts rest. Begins (sign close ∷ []) ts rest) item_sound (after_sign-sound close) (length ts) ts r e in
      (record { spelled = Begins-append (comma_list (map spelling r.0.0) r.0.1) (sign close ∷ []) ts l.mid r.1 l.front l.back; all_proper = l.all_proper }, l.filled)

  pub comma_list_at-sound : (ts : List Token) (r : Items X × List Token) → comma_list_at (after_sign close) item ts ≡ Some r → Closed spelling proper close r.0 ts r.1 × (r.0.1 ≡ true → Filled r.0.0)
  unfolding comma_list_at
  comma_list_at-sound ts r e =
      elim (either (after_sign close ts) (λ rest. Some (([], false), rest)) _ r e) [
        | inl s ↦
            subst (λ q. Closed spelling proper close q.0 ts q.1 × (q.0.1 ≡ true → Filled q.0.0)) (some_one (([], false), s.value) r s.then)
            (record { spelled = after_sign-sound close ts s.value s.first; all_proper = tt }, λ h. absurd (cc))
        | inr n ↦ let l = some_items_at-sound ts r n.1 in (l.0, λ h. l.1)
      ]

module _ {X : Type 0} (close : Sign) (item : List Token → Read X) (spelling : X → List Lexeme) (proper : X → Type 0)
    (ItemEnds : List Token → Type 0) (bound : ℕ)
    (item_complete : (x : X) (ts rest : List Token) → length ts ≤ bound → Begins (spelling x) ts rest → proper x → ItemEnds rest → item ts ≡ Some (x, rest))
    (item_no_end : (x : X) (ts rest : List Token) → Begins (spelling x) ts rest → proper x → after_sign close ts ≡ None)
    (close_item : (ts rest : List Token) → Begins (sign close ∷ []) ts rest → ItemEnds ts)
    (comma_item : (ts rest : List Token) → Begins (sign Comma ∷ []) ts rest → ItemEnds ts)
    (no_comma : is_sign close (Punctuation Comma) ≡ false) where
  pub some_items_at-complete : (x : X) (xs : List X) (last : Bool) (ts rest : List Token) → length ts ≤ bound → Begins (comma_list (map spelling (x ∷ xs)) last ++ sign close ∷ []) ts rest
      → AllByRecursion proper (x ∷ xs) → some_items_at (after_sign close) item ts ≡ Some ((x ∷ xs, last), rest)
  some_items_at-complete x xs last ts rest k b p =
      let s = Begins-split (comma_list (map spelling (x ∷ xs)) last) (sign close ∷ []) ts rest b in
      items_at-complete (after_sign close) item spelling proper (λ ts rest. Begins (sign close ∷ []) ts rest) ItemEnds bound item_complete item_no_end (after_sign-complete close)
      (λ ts rest d. omega (arith, length-Begins (sign close ∷ []) ts rest d)) close_item comma_item (λ ts rest c. after_sign-other close (sign Comma) [] ts rest no_comma c)
      (length ts) x xs last ts s.mid rest (omega arith) k s.front s.back p

  pub comma_list_at-complete : (xs : List X) (last : Bool) (ts rest : List Token) → length ts ≤ bound → Begins (comma_list (map spelling xs) last ++ sign close ∷ []) ts rest
      → AllByRecursion proper xs → (last ≡ true → Filled xs) → comma_list_at (after_sign close) item ts ≡ Some ((xs, last), rest)
  unfolding comma_list_at
  comma_list_at-complete [] true ts rest k b p f = absurd (f refl)
  comma_list_at-complete [] false ts rest k b p f = map_or_some (after_sign close ts) (λ rest. Some (([], false), rest)) _ rest (after_sign-complete close ts rest b)
  comma_list_at-complete (x ∷ xs) last ts rest k b p f =
      let s = Begins-split (comma_list (map spelling (x ∷ xs)) last) (sign close ∷ []) ts rest b in
      map_or_none (after_sign close ts) (λ rest. Some (([], false), rest)) _ (nothing x xs last ts s.mid s.front p.0) ∙ some_items_at-complete x xs last ts rest k b p
    where
      nothing : (x : X) (xs : List X) (last : Bool) → (ts mid : List Token) → Begins (comma_list (map spelling (x ∷ xs)) last) ts mid → proper x → after_sign close ts ≡ None
      nothing x xs last ts mid b p =
          let s = Begins-split (spelling x) (after_commas (map spelling xs) ++ last_comma last) ts mid (Begins-same _ _ ts mid (append_assoc (spelling x) (after_commas (map spelling xs)) (last_comma last)) b) in
          item_no_end x ts s.mid s.front p
