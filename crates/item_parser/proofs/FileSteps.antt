-- The ends of the loops over members and modules.
use Rattle.std.proofs.Common.{◌≡◌, ℕ, ◌==◌, Bool, true, false, cond, List, [], ◌∷◌, Some, None, length, refl, sym, ap, ◌∙◌}
use Rattle.std.proofs.Math.Dec.{eqb-suc-zero}
use Rattle.std.specs.Prelude.{is_some, option_and_then}
use Rattle.tokens.specs.declared.token.Token.{Token}
use Rattle.tokens.specs.declared.token.Punctuation.TheVariants.{RightBrace}
use Rattle.syntax_tree.specs.FileData.{ModuleData}
use Rattle.parser_base.specs.TokenReading.{after_sign}
use Rattle.parser_base.specs.RepeatReading.{repeat_at}
use Rattle.item_parser.specs.FileReading.{before_member, module_behind, before_module, at_end, file_at}

pub no_member : (ts : List Token) → is_some (after_sign RightBrace ts) ≡ true → before_member ts ≡ None
unfolding before_member
no_member ts e = ap (λ b. cond b None (Some ts)) e

pub one_member : (ts : List Token) → is_some (after_sign RightBrace ts) ≡ false → before_member ts ≡ Some ts
unfolding before_member
one_member ts e = ap (λ b. cond b None (Some ts)) e

true_is_not_false : ◌≡◌ {A = Bool} true false → ⊥
true_is_not_false e = cc

some_are_left : (t : Token) (ts : List Token) → (length (t ∷ ts) == 0) ≡ true → ⊥
some_are_left t ts e = true_is_not_false (sym e ∙ eqb-suc-zero (length ts))

none_is_left : (length {A = Token} [] == 0) ≡ false → ⊥
none_is_left e = true_is_not_false e

pub no_module : (ts : List Token) → (length ts == 0) ≡ true → before_module ts ≡ None
no_module [] e = refl
no_module (t ∷ ts) e = absurd (some_are_left t ts e)

pub one_module : (ts : List Token) → (length ts == 0) ≡ false → before_module ts ≡ Some ts
one_module [] e = absurd (none_is_left e)
one_module (t ∷ ts) e = refl

pub file_ends : (n : ℕ) (ts rest : List Token) (xs : List ModuleData) → repeat_at before_module (module_behind n) (length ts) ts ≡ Some (xs, rest) → (length rest == 0) ≡ true → file_at n ts ≡ Some xs
unfolding file_at
file_ends n ts [] xs e h = ap (option_and_then (λ modules. at_end modules.0 modules.1)) e
file_ends n ts (r ∷ rest) xs e h = absurd (some_are_left r rest h)

pub file_goes_on : (n : ℕ) (ts rest : List Token) (xs : List ModuleData) → repeat_at before_module (module_behind n) (length ts) ts ≡ Some (xs, rest) → (length rest == 0) ≡ false → file_at n ts ≡ None
unfolding file_at
file_goes_on n ts [] xs e h = absurd (none_is_left h)
file_goes_on n ts (r ∷ rest) xs e h = ap (option_and_then (λ modules. at_end modules.0 modules.1)) e

pub file_fails : (n : ℕ) (ts : List Token) → repeat_at before_module (module_behind n) (length ts) ts ≡ None → file_at n ts ≡ None
unfolding file_at
file_fails n ts e = ap (option_and_then (λ modules. at_end modules.0 modules.1)) e
