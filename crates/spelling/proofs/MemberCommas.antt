-- Comma lists, as a loop from the first item to the last spells them.
use Rattle.tokens.specs.declared.token.Punctuation.TheVariants.{Comma}
use Rattle.syntax_tree.specs.declared.lexeme.Lexeme.{Lexeme}
use Rattle.std.proofs.Common.{map, ◌≡◌, List, [], ◌∷◌, ◌++◌, refl, ap, sym, Bool, ◌∙◌, append_assoc}
use Rattle.std.specs.List.{flat_map}
use Rattle.syntax_tree.specs.Lexemes.{sign, after_commas, comma_list, last_comma}

mapped_after_commas : {A : Type 0} (f : A → List Lexeme) (xs : List A) → after_commas (map f xs) ≡ flat_map (λ x. sign Comma ∷ f x) xs
mapped_after_commas f [] = refl
mapped_after_commas f (x ∷ xs) = ap (λ more. sign Comma ∷ f x ++ more) (mapped_after_commas f xs)

pub mapped_comma_list : {A : Type 0} (f : A → List Lexeme) (all : List A) (x : A) (xs : List A) (last : Bool) → all ≡ x ∷ xs → comma_list (map f all) last ≡ f x ++ flat_map (λ y. sign Comma ∷ f y) xs ++ last_comma last
mapped_comma_list f all x xs last e = ap (λ ys. comma_list (map f ys) last) e ∙ ap (λ more. f x ++ more ++ last_comma last) (mapped_after_commas f xs)
