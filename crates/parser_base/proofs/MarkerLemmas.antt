-- The first marker is found exactly.
use Rattle.std.proofs.Common.{◌≡◌, ◌≢◌, ℕ, suc, ◌+◌, Bool, true, false, not, cond, ◌&&◌, ◌||◌, List, [], ◌∷◌, Option, Some, None, length, refl, sym, ap, subst, ◌∙◌, inl, inr, arith}
use Rattle.std.specs.Prelude.{codes, is_some}
use Rattle.std.specs.Cmp.Lexicographic.{same_text}
use Rattle.tokens.specs.declared.token.Token.{Token}
use Rattle.tokens.specs.declared.token.TokenKind.{TokenKind}
use Rattle.tokens.specs.declared.token.TokenKind.TheVariants.{Word, Number, ByteString, Punctuation}
use Rattle.tokens.specs.declared.token.NumberSuffix.{NumberSuffix}
use Rattle.tokens.specs.declared.token.NumberSuffix.TheVariants.{Absent, U8, U16, U32, U64, U128, U256}
use Rattle.tokens.specs.declared.token.Punctuation.TheVariants.{Exclaim}
use Rattle.base.proofs.TruthValues.{apart, both_true, either_true, true_both, true_either}
use Rattle.base.specs.Names.{is_one_of, same_name}
use Rattle.parser_base.specs.TokenReading.{after_sign, is_sign}
use Rattle.parser_base.proofs.Steps.{some_one}
use Rattle.parser_base.proofs.TokenLemmas.{is_sign-sound}
use Rattle.parser_base.specs.Markers.{marker_words, next_kind, IsMarker, Finds}
use Rattle.parser_base.specs.MarkerReading.{is_wide, is_marker, further, one_further, first_of}

-- ---- a token is classified as a marker exactly if it is one

no_exclaim : (ts : List Token) → not (is_some (after_sign Exclaim ts)) ≡ true → next_kind ts ≢ Some (Punctuation Exclaim)
unfolding after_sign
no_exclaim [] e h = absurd (cc)
no_exclaim (t ∷ ts) e h = absurd (differs (ap (λ k. not (is_some (cond (is_sign Exclaim k) (Some ts) None))) (some_one t.kind (Punctuation Exclaim) h)) e)
  where
    differs : {b : Bool} → b ≡ false → b ≡ true → ⊥
    differs {b = b} f t = apart b t f

no_sign_behind : (ts : List Token) → next_kind ts ≢ Some (Punctuation Exclaim) → not (is_some (after_sign Exclaim ts)) ≡ true
unfolding after_sign
no_sign_behind [] h = refl
no_sign_behind (t ∷ ts) h = go (is_sign Exclaim t.kind) refl
  where
    go : (b : Bool) → is_sign Exclaim t.kind ≡ b → not (is_some (cond b (Some ts) None)) ≡ true
    go true is = absurd (h (ap Some (is_sign-sound Exclaim t.kind is)))
    go false is = refl

wide : (suffix : NumberSuffix) → is_wide suffix ≡ true → suffix ≡ U256
wide Absent e = absurd (cc)
wide U8 e = absurd (cc)
wide U16 e = absurd (cc)
wide U32 e = absurd (cc)
wide U64 e = absurd (cc)
wide U128 e = absurd (cc)
wide U256 e = refl

is_marker-sound : (kind : TokenKind) (ts : List Token) → is_marker kind ts ≡ true → IsMarker kind (next_kind ts)
unfolding is_marker
is_marker-sound (Word word) ts e =
    elim (either_true (is_one_of marker_words word) (same_name word (codes "assert") && not (is_some (after_sign Exclaim ts))) e) [
      | inl h ↦ inl h
      | inr h ↦ let b = both_true (same_name word (codes "assert")) (not (is_some (after_sign Exclaim ts))) h in inr (same_text word (codes "assert") (sym b.0), no_exclaim ts b.1)
    ]
is_marker-sound (Number literal) ts e = wide literal.suffix e
is_marker-sound (ByteString text) ts e = tt
is_marker-sound (Punctuation s) ts e = absurd (cc)

is_marker-complete : (kind : TokenKind) (ts : List Token) → IsMarker kind (next_kind ts) → is_marker kind ts ≡ true
unfolding is_marker
is_marker-complete (Word word) ts (inl h) = true_either (is_one_of marker_words word) (same_name word (codes "assert") && not (is_some (after_sign Exclaim ts))) (inl h)
is_marker-complete (Word word) ts (inr h) =
    true_either (is_one_of marker_words word) (same_name word (codes "assert") && not (is_some (after_sign Exclaim ts)))
    (inr (true_both (same_name word (codes "assert")) (not (is_some (after_sign Exclaim ts))) (ap (λ w. same_name w (codes "assert")) h.0) (no_sign_behind ts h.1)))
is_marker-complete (Number literal) ts h = ap is_wide h
is_marker-complete (ByteString text) ts h = refl
is_marker-complete (Punctuation s) ts h = absurd h

-- ---- the first marker

pub finds : (ts : List Token) → Finds ts (first_of ts)
unfolding first_of
finds [] = tt
finds (t ∷ ts) = go (is_marker t.kind ts) refl (first_of ts) (finds ts)
  where
    none : is_marker t.kind ts ≡ false → IsMarker t.kind (next_kind ts) → ⊥
    none e m = apart (is_marker t.kind ts) (is_marker-complete t.kind ts m) e

    go : (b : Bool) → is_marker t.kind ts ≡ b → (found : Option ℕ) → Finds ts found → Finds (t ∷ ts) (cond b (Some 0) (one_further found))
    go true e found f = is_marker-sound t.kind ts e
    go false e None f = (none e, f)
    go false e (Some index) f = (none e, f)

-- ---- one step of the loop

further-twice : (n : ℕ) (found : Option ℕ) → further n (one_further found) ≡ further (n + 1) found
further-twice n None = refl
further-twice n (Some index) = let e : n + suc index ≡ n + 1 + index = omega arith in ap Some e

further-none : (found : Option ℕ) → further 0 found ≡ found
further-none None = refl
further-none (Some index) = let e : 0 + index ≡ index = omega arith in ap Some e

pub finding_ends : (all : Option ℕ) (n : ℕ) (ts rest : List Token) (t : Token) → all ≡ further n (first_of ts) → ts ≡ t ∷ rest → is_marker t.kind rest ≡ true → all ≡ Some n
unfolding first_of
finding_ends all n ts rest t before e m =
    before ∙ ap (λ us. further n (first_of us)) e ∙ ap (λ b. further n (cond b (Some 0) (one_further (first_of rest)))) m ∙ (let e : n + 0 ≡ n = omega arith in ap Some e)

pub finding_goes_on : (all : Option ℕ) (n : ℕ) (ts rest : List Token) (t : Token) → all ≡ further n (first_of ts) → ts ≡ t ∷ rest → is_marker t.kind rest ≡ false → all ≡ further (n + 1) (first_of rest)
unfolding first_of
finding_goes_on all n ts rest t before e m =
    before ∙ ap (λ us. further n (first_of us)) e ∙ ap (λ b. further n (cond b (Some 0) (one_further (first_of rest)))) m ∙ further-twice n (first_of rest)

pub finding_is_over : (all : Option ℕ) (n : ℕ) (ts : List Token) → all ≡ further n (first_of ts) → length ts ≡ 0 → all ≡ None
unfolding first_of
finding_is_over all n [] before e = before
finding_is_over all n (t ∷ ts) before e = absurd (omega (arith, e))

pub finding_begins : (ts : List Token) → first_of ts ≡ further 0 (first_of ts)
finding_begins ts = sym (further-none (first_of ts))

pub finds_answer : (ts : List Token) (found : Option ℕ) → first_of ts ≡ found → Finds ts found
finds_answer ts found e = subst (Finds ts) e (finds ts)
