-- Tokens with balanced brackets are read exactly.
use Rattle.std.proofs.Common.{◌≡◌, ◌≤◌, ◌+◌, ◌-◌, Bool, true, false, cond, ◌&&◌, ◌==◌, length, reverse, take, arith, List, [], ◌∷◌, ◌++◌, Option, Some, None, refl, sym, ap, subst, ◌∙◌, inl, inr}
use Rattle.std.specs.Prelude.{option_and_then, map}
use Rattle.std.proofs.lemmas.List.{reverse-append}
use Rattle.std.proofs.Math.Dec.{eqb-suc-zero}
use Rattle.tokens.specs.declared.token.Token.{Token}
use Rattle.tokens.specs.declared.token.TokenKind.{TokenKind}
use Rattle.tokens.specs.declared.token.TokenKind.TheVariants.{Punctuation}
use Rattle.tokens.specs.declared.token.Punctuation.{Punctuation as Sign}
use Rattle.syntax_tree.specs.declared.lexeme.Lexeme.{Lexeme}
use Rattle.syntax_tree.specs.Lexemes.{sign, IsToken}
use Rattle.syntax_tree.specs.SpecTokenSpelling.{kept}
use Rattle.syntax_tree.specs.Balance.{expected_after, wanted_after}
use Rattle.parser_base.specs.Beginnings.{Begins}
use Rattle.parser_base.specs.TokenReading.{is_sign}
use Rattle.parser_base.specs.BalanceReading.{ends_here, balanced_end, balanced_at}
use Rattle.parser_base.proofs.Steps.{step, last, some_one, either_read, bind_some, map_some, cond_true, cond_false}
use Rattle.parser_base.proofs.BeginLemmas.{length-Begins}
use Rattle.parser_base.proofs.TokenLemmas.{is_sign-sound, is_sign-same}

-- ---- tokens that are kept unchanged

pub same_token : (t k : Token) → IsToken t (kept k) → t ≡ k
same_token t k i = ap (λ kind. record { kind = kind; span = t.span; glued = t.glued }) i.kind ∙ ap (λ span. record { kind = k.kind; span = span; glued = t.glued }) i.placed ∙ ap (λ glued. record { kind = k.kind; span = k.span; glued = glued }) i.glued

pub kept_taken : (ks : List Token) (ls : List Lexeme) (ts rest : List Token) → Begins (map kept ks ++ ls) ts rest → take (length ks) ts ≡ ks
kept_taken [] ls [] rest b = refl
kept_taken [] ls (t ∷ ts) rest b = refl
kept_taken (k ∷ ks) ls [] rest b = absurd b
kept_taken (k ∷ ks) ls (t ∷ ts) rest b = ap (λ u. u ∷ take (length ks) ts) (same_token t k b.0) ∙ ap (λ us. k ∷ us) (kept_taken ks ls ts rest b.1)

pub kept_length : (ks : List Token) (ls : List Lexeme) (ts rest : List Token) → Begins (map kept ks ++ ls) ts rest → length ts ≡ length ks + length ls + length rest
kept_length [] ls ts rest b = omega (arith, length-Begins ls ts rest b)
kept_length (k ∷ ks) ls [] rest b = absurd b
kept_length (k ∷ ks) ls (t ∷ ts) rest b = omega (arith, kept_length ks ls ts rest b.1)

-- ---- what is read is balanced

ends_here-sound : (close : Sign) (wanted : List Sign) (kind : TokenKind) → ends_here close wanted kind ≡ true → (wanted ≡ []) × (kind ≡ Punctuation close)
ends_here-sound close [] kind e = (refl, is_sign-sound close kind e)
ends_here-sound close (w ∷ ws) kind e = absurd (cc)

pub record Balanced (close : Sign) (wanted : List Sign) (ts rest : List Token) : Type 0 where
  pub inside : List Token
  pub spelled : Begins (map kept inside ++ sign close ∷ []) ts rest
  pub balanced : wanted_after (Some wanted) inside ≡ Some []

pub balanced_end-sound : (close : Sign) (wanted : List Sign) (ts rest : List Token) → balanced_end close wanted ts ≡ Some rest → Balanced close wanted ts rest
unfolding balanced_end
balanced_end-sound close wanted [] rest e = absurd (cc)
balanced_end-sound close wanted (t ∷ ts) rest e =
    elim (either_read (ends_here close wanted t.kind) _ _ rest e) [
      | inl h ↦
          let c = ends_here-sound close wanted t.kind h.0 in
          record { inside = []; spelled = (record { kind = c.1; placed = tt; glued = tt }, some_one ts rest h.1); balanced = ap Some c.0 }
      | inr h ↦
          let w = step (expected_after (Some wanted) t.kind) _ rest h.1 in
          let more = balanced_end-sound close w.value ts rest w.then in
          record {
            inside = t ∷ more.inside;
            spelled = (record { kind = refl; placed = refl; glued = refl }, more.spelled);
            balanced = ap (λ o. wanted_after o more.inside) w.first ∙ more.balanced;
          }
    ]

-- the tokens before the sign
pub inside_taken : (close : Sign) (ks ts rest : List Token) → Begins (map kept ks ++ sign close ∷ []) ts rest → take (length ts - length rest - 1) ts ≡ ks
inside_taken close ks ts rest b = ap (λ n. take n ts) (omega (arith, kept_length ks (sign close ∷ []) ts rest b)) ∙ kept_taken ks (sign close ∷ []) ts rest b

pub end_inside : (close : Sign) (ts rest : List Token) → balanced_end close [] ts ≡ Some rest → length rest + 1 ≤ length ts
end_inside close ts rest e =
    let b = balanced_end-sound close [] ts rest e in
    omega (arith, kept_length b.inside (sign close ∷ []) ts rest b.spelled)

pub record BalancedInside (close : Sign) (inside ts rest : List Token) : Type 0 where
  pub spelled : Begins (map kept inside ++ sign close ∷ []) ts rest
  pub balanced : wanted_after (Some []) inside ≡ Some []

pub balanced_at-sound : (close : Sign) (ts : List Token) (r : List Token × List Token) → balanced_at close ts ≡ Some r → BalancedInside close r.0 ts r.1
unfolding balanced_at
balanced_at-sound close ts r e =
    let l = last (balanced_end close [] ts) (λ rest. (take (length ts - length rest - 1) ts, rest)) r e in
    let b = balanced_end-sound close [] ts l.value l.first in
    subst (λ q. BalancedInside close q.0 ts q.1) (ap (λ inside. (inside, l.value)) (sym (inside_taken close b.inside ts l.value b.spelled)) ∙ l.then) (record { spelled = b.spelled; balanced = b.balanced })

-- ---- what is balanced is read

pub nothing_after : (ks : List Token) → wanted_after None ks ≡ None
nothing_after [] = refl
nothing_after (k ∷ ks) = nothing_after ks

no_end : (close : Sign) (wanted : List Sign) (kind : TokenKind) (ks : List Token) → expected_after (Some []) (Punctuation close) ≡ None → wanted_after (expected_after (Some wanted) kind) ks ≡ Some [] → ends_here close wanted kind ≡ false
no_end close wanted kind ks c e = go (ends_here close wanted kind) refl
  where
    differs : {A : Type 0} (x : A) → ◌≡◌ {A = Option A} None (Some x) → ⊥
    differs x h = cc

    go : (b : Bool) → ends_here close wanted kind ≡ b → ends_here close wanted kind ≡ false
    go true is =
        let h = ends_here-sound close wanted kind is in
        absurd (differs [] (sym (ap (λ w. wanted_after (expected_after (Some w) kind) ks) h.0 ∙ ap (λ k. wanted_after (expected_after (Some []) k) ks) h.1 ∙ ap (λ o. wanted_after o ks) c ∙ nothing_after ks) ∙ e))
    go false is = is

pub some_wanted : (wanted : List Sign) (kind : TokenKind) (ks : List Token) → wanted_after (expected_after (Some wanted) kind) ks ≡ Some [] → (more : Option (List Sign)) → expected_after (Some wanted) kind ≡ more → (P : Type 0) → ((w : List Sign) → expected_after (Some wanted) kind ≡ Some w → P) → P
some_wanted wanted kind ks e None is P f = absurd (differs [] (sym (ap (λ o. wanted_after o ks) is ∙ nothing_after ks) ∙ e))
  where
    differs : {A : Type 0} (x : A) → ◌≡◌ {A = Option A} None (Some x) → ⊥
    differs x h = cc
some_wanted wanted kind ks e (Some w) is P f = f w is

pub balanced_end-complete : (close : Sign) (wanted : List Sign) (inside ts rest : List Token) → expected_after (Some []) (Punctuation close) ≡ None → Begins (map kept inside ++ sign close ∷ []) ts rest → wanted_after (Some wanted) inside ≡ Some [] → balanced_end close wanted ts ≡ Some rest
unfolding balanced_end
balanced_end-complete close wanted [] [] rest c b e = absurd b
balanced_end-complete close wanted [] (t ∷ ts) rest c b e =
    ap (λ w. cond (ends_here close w t.kind) (Some ts) (option_and_then (λ more. balanced_end close more ts) (expected_after (Some wanted) t.kind))) (some_one wanted [] e)
    ∙ cond_true (is_sign close t.kind) _ _ (ap (is_sign close) b.0.kind ∙ is_sign-same close) ∙ ap Some b.1
balanced_end-complete close wanted (k ∷ ks) [] rest c b e = absurd b
balanced_end-complete close wanted (k ∷ ks) (t ∷ ts) rest c b e =
    let e2 = ap (λ kind. wanted_after (expected_after (Some wanted) kind) ks) b.0.kind ∙ e in
    cond_false (ends_here close wanted t.kind) _ _ (no_end close wanted t.kind ks c e2)
    ∙ some_wanted wanted t.kind ks e2 (expected_after (Some wanted) t.kind) refl _ (λ w is.
    bind_some (expected_after (Some wanted) t.kind) _ w is
    ∙ balanced_end-complete close w ks ts rest c b.1 (sym (ap (λ o. wanted_after o ks) is) ∙ e2))

pub balanced_at-complete : (close : Sign) (inside ts rest : List Token) → expected_after (Some []) (Punctuation close) ≡ None → Begins (map kept inside ++ sign close ∷ []) ts rest → wanted_after (Some []) inside ≡ Some [] → balanced_at close ts ≡ Some (inside, rest)
unfolding balanced_at
balanced_at-complete close inside ts rest c b e =
    map_some (balanced_end close [] ts) (λ rest. (take (length ts - length rest - 1) ts, rest)) rest (balanced_end-complete close [] inside ts rest c b e)
    ∙ ap (λ xs. Some (xs, rest)) (inside_taken close inside ts rest b)

-- ---- one step of the loop

-- the expected brackets are listed with the next one last
pub end_by_length : (close : Sign) (items : List Sign) (kind : TokenKind) → ends_here close (reverse items) kind ≡ ((length items == 0) && is_sign close kind)
end_by_length close [] kind = refl
end_by_length close (x ∷ xs) kind = ap (λ ys. ends_here close ys kind) (reverse-append (x ∷ []) xs) ∙ go (reverse xs) ∙ ap (λ b. b && is_sign close kind) (sym (eqb-suc-zero (length xs)))
  where
    go : (ys : List Sign) → ends_here close (ys ++ x ∷ []) kind ≡ false
    go [] = refl
    go (y ∷ ys) = refl

turn : Sign → List Token → Bool → Option (List Sign) → Option (List Token)
turn close rest ends more = cond ends (Some rest) (option_and_then (λ w. balanced_end close w rest) more)

balanced_end-turn : (close : Sign) (wanted : List Sign) (ts : List Token) (t : Token) (rest : List Token) (ends : Bool) (more : Option (List Sign)) → ts ≡ t ∷ rest → ends_here close wanted t.kind ≡ ends → expected_after (Some wanted) t.kind ≡ more → balanced_end close wanted ts ≡ turn close rest ends more
unfolding balanced_end turn
balanced_end-turn close wanted ts t rest ends more e h m = ap (balanced_end close wanted) e ∙ ap (λ b. cond b (Some rest) (option_and_then (λ w. balanced_end close w rest) (expected_after (Some wanted) t.kind))) h
    ∙ ap (λ o. cond ends (Some rest) (option_and_then (λ w. balanced_end close w rest) o)) m

pub skipping_ends : (all : Option (List Token)) (close : Sign) (wanted : List Sign) (ts : List Token) (t : Token) (rest : List Token) → all ≡ balanced_end close wanted ts → ts ≡ t ∷ rest → ends_here close wanted t.kind ≡ true → all ≡ Some rest
unfolding turn
skipping_ends all close wanted ts t rest before e h = before ∙ balanced_end-turn close wanted ts t rest true (expected_after (Some wanted) t.kind) e h refl

pub skipping_fails : (all : Option (List Token)) (close : Sign) (wanted : List Sign) (ts : List Token) (t : Token) (rest : List Token) → all ≡ balanced_end close wanted ts → ts ≡ t ∷ rest → ends_here close wanted t.kind ≡ false → expected_after (Some wanted) t.kind ≡ None → all ≡ None
unfolding turn
skipping_fails all close wanted ts t rest before e h m = before ∙ balanced_end-turn close wanted ts t rest false None e h m

pub skipping_goes_on : (all : Option (List Token)) (close : Sign) (wanted next : List Sign) (ts : List Token) (t : Token) (rest : List Token) → all ≡ balanced_end close wanted ts → ts ≡ t ∷ rest → ends_here close wanted t.kind ≡ false
    → expected_after (Some wanted) t.kind ≡ Some next → all ≡ balanced_end close next rest
unfolding turn
skipping_goes_on all close wanted next ts t rest before e h m = before ∙ balanced_end-turn close wanted ts t rest false (Some next) e h m

pub skipping_is_over : (all : Option (List Token)) (close : Sign) (wanted : List Sign) (ts : List Token) → all ≡ balanced_end close wanted ts → length ts ≡ 0 → all ≡ None
unfolding balanced_end
skipping_is_over all close wanted [] before e = before
skipping_is_over all close wanted (t ∷ ts) before e = absurd (omega (arith, e))
