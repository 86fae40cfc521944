-- Comma lists that end before a sign are read exactly.
use Rattle.std.proofs.Common.{◌≡◌, Bool, true, false, List, [], ◌∷◌, Option, Some, None, length, refl, ap, subst, ◌∙◌, arith}
use Rattle.std.specs.Prelude.{map, is_some}
use Rattle.std.specs.List.{AllByRecursion}
use Rattle.tokens.specs.declared.token.Token.{Token}
use Rattle.tokens.specs.declared.token.TokenKind.TheVariants.{Punctuation}
use Rattle.tokens.specs.declared.token.Punctuation.{Punctuation as Sign}
use Rattle.tokens.specs.declared.token.Punctuation.TheVariants.{Comma}
use Rattle.syntax_tree.specs.declared.lexeme.Lexeme.{Lexeme}
use Rattle.syntax_tree.specs.Lexemes.{sign, comma_list}
use Rattle.syntax_tree.specs.ProperMembers.{AreAny}
use Rattle.parser_base.specs.Beginnings.{Begins}
use Rattle.parser_base.specs.TokenReading.{Read, is_sign, after_sign, before_sign}
use Rattle.parser_base.specs.ListReading.{Items, some_items_at}
use Rattle.parser_base.proofs.BeginLemmas.{length-Begins}
use Rattle.parser_base.proofs.TokenLemmas.{after_sign-sound, after_sign-other, before_sign-sound, before_sign-complete, before_sign-none}
use Rattle.parser_base.proofs.ListLemmas.{Filled, items_at-sound, items_at-complete}

pub filled_is_any : {X : Type 0} (xs : List X) → Filled xs → AreAny xs
filled_is_any [] f = absurd f
filled_is_any (x ∷ xs) f = tt

pub any_is_filled : {X : Type 0} (xs : List X) → AreAny xs → Filled xs
any_is_filled [] f = absurd f
any_is_filled (x ∷ xs) f = tt

-- the sign is here, and remains
pub record EndsBefore (s : Sign) (ts rest : List Token) : Type 0 where
  pub same : ts ≡ rest
  pub inside : List Token
  pub found : after_sign s ts ≡ Some inside

ends_before : (s : Sign) (ts rest : List Token) → before_sign s ts ≡ Some rest → EndsBefore s ts rest
ends_before s ts rest e = let b = before_sign-sound s ts rest e in go (after_sign s ts) refl b.0 b.1
  where
    go : (o : Option (List Token)) → after_sign s ts ≡ o → ts ≡ rest → is_some o ≡ true → EndsBefore s ts rest
    go None is same h = absurd (cc)
    go (Some inside) is same h = record { same = same; inside = inside; found = is }

module _ {X : Type 0} (s : Sign) (item : List Token → Read X) (spelling : X → List Lexeme) (proper : X → Type 0)
    (item_sound : (ts : List Token) (r : X × List Token) → item ts ≡ Some r → Begins (spelling r.0) ts r.1 × proper r.0) where
  pub items_before-sound : (ts : List Token) (r : Items X × List Token) → some_items_at (before_sign s) item ts ≡ Some r → Begins (comma_list (map spelling r.0.0) r.0.1) ts r.1 × AllByRecursion proper r.0.0 × AreAny r.0.0
  items_before-sound ts r e =
      let l = items_at-sound (before_sign s) item spelling proper (EndsBefore s) item_sound (ends_before s) (length ts) ts r e in
      (subst (λ us. Begins (comma_list (map spelling r.0.0) r.0.1) ts us) l.back.same l.front, l.all_proper, filled_is_any r.0.0 l.filled)

module _ {X : Type 0} (s : Sign) (item : List Token → Read X) (spelling : X → List Lexeme) (proper : X → Type 0) (ItemEnds : List Token → Type 0)
    (item_complete : (x : X) (ts rest : List Token) → Begins (spelling x) ts rest → proper x → ItemEnds rest → item ts ≡ Some (x, rest))
    (item_no_end : (x : X) (ts rest : List Token) → Begins (spelling x) ts rest → proper x → after_sign s ts ≡ None)
    (end_item : (ts rest : List Token) → Begins (sign s ∷ []) ts rest → ItemEnds ts)
    (comma_item : (ts rest : List Token) → Begins (sign Comma ∷ []) ts rest → ItemEnds ts)
    (no_comma : is_sign s (Punctuation Comma) ≡ false) where
  pub items_before-complete : (x : X) (xs : List X) (last : Bool) (ts rest inside : List Token) → Begins (comma_list (map spelling (x ∷ xs)) last) ts rest → after_sign s rest ≡ Some inside
      → AllByRecursion proper (x ∷ xs) → some_items_at (before_sign s) item ts ≡ Some ((x ∷ xs, last), rest)
  items_before-complete x xs last ts rest inside b e p =
      items_at-complete (before_sign s) item spelling proper (EndsBefore s) ItemEnds (length ts)
      (λ x ts rest h b p i. item_complete x ts rest b p i)
      (λ x ts rest b p. before_sign-none s ts (item_no_end x ts rest b p))
      (λ ts rest d. before_sign-complete s ts d.inside d.found ∙ ap Some d.same)
      (λ ts rest d. omega (arith, length-Begins (sign s ∷ []) ts d.inside (after_sign-sound s ts d.inside d.found)))
      (λ ts rest d. end_item ts d.inside (after_sign-sound s ts d.inside d.found)) comma_item
      (λ ts rest c. before_sign-none s ts (after_sign-other s (sign Comma) [] ts rest no_comma c))
      (length ts) x xs last ts rest rest (omega arith) (omega arith) b (record { same = refl; inside = inside; found = e }) p
