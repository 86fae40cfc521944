-- Comma lists, as a loop from the first item to the last spells them.
use Rattle.std.proofs.Common.{◌≡◌, ℕ, zero, suc, ◌≤◌, List, [], ◌∷◌, ◌++◌, refl, ap, sym, Bool, ◌∙◌, append_assoc, length, take, arith}
use Rattle.std.specs.List.{flat_map}
use Rattle.syntax_tree.specs.Lexemes.{after_commas, comma_list, last_comma}
use Rattle.syntax_tree.specs.SpecExpressionData.{SpecExpressionData, spec_expressions_of, BindData, binds_of, TriggerData, triggers_of, SpecFieldData, spec_fields_of}
use Rattle.syntax_tree.specs.SpecExpressionSpelling.{spec_spelling, spec_spellings, spec_after_comma, bind_spelling, bind_spellings, bind_after_comma, trigger_spelling, triggers_spelling, spec_field_spelling, spec_field_spellings, spec_field_after_comma}

-- the triggers are spelled one after another
pub triggers_taken : (xs : List TriggerData) (i : ℕ) → length xs ≤ i → flat_map trigger_spelling (take i xs) ≡ triggers_spelling (triggers_of xs)
triggers_taken [] zero h = refl
triggers_taken [] (suc i) h = refl
triggers_taken (x ∷ xs) zero h = absurd (omega (arith, h))
triggers_taken (x ∷ xs) (suc i) h = ap (λ more. trigger_spelling x ++ more) (triggers_taken xs i (omega (arith, h)))

spec_expressions_after_commas : (xs : List SpecExpressionData) → after_commas (spec_spellings (spec_expressions_of xs)) ≡ flat_map spec_after_comma xs
spec_expressions_after_commas [] = refl
spec_expressions_after_commas (x ∷ xs) = ap (λ more. spec_after_comma x ++ more) (spec_expressions_after_commas xs)

pub spec_expressions_comma_list : (all : List SpecExpressionData) (x : SpecExpressionData) (xs : List SpecExpressionData) (last : Bool) → all ≡ x ∷ xs → comma_list (spec_spellings (spec_expressions_of all)) last ≡ spec_spelling x ++ flat_map spec_after_comma xs ++ last_comma last
spec_expressions_comma_list all x xs last e = ap (λ ys. comma_list (spec_spellings (spec_expressions_of ys)) last) e ∙ ap (λ more. spec_spelling x ++ more ++ last_comma last) (spec_expressions_after_commas xs)

binds_after_commas : (xs : List BindData) → after_commas (bind_spellings (binds_of xs)) ≡ flat_map bind_after_comma xs
binds_after_commas [] = refl
binds_after_commas (x ∷ xs) = ap (λ more. bind_after_comma x ++ more) (binds_after_commas xs)

pub binds_comma_list : (all : List BindData) (x : BindData) (xs : List BindData) (last : Bool) → all ≡ x ∷ xs → comma_list (bind_spellings (binds_of all)) last ≡ bind_spelling x ++ flat_map bind_after_comma xs ++ last_comma last
binds_comma_list all x xs last e = ap (λ ys. comma_list (bind_spellings (binds_of ys)) last) e ∙ ap (λ more. bind_spelling x ++ more ++ last_comma last) (binds_after_commas xs)

spec_fields_after_commas : (xs : List SpecFieldData) → after_commas (spec_field_spellings (spec_fields_of xs)) ≡ flat_map spec_field_after_comma xs
spec_fields_after_commas [] = refl
spec_fields_after_commas (x ∷ xs) = ap (λ more. spec_field_after_comma x ++ more) (spec_fields_after_commas xs)

pub spec_fields_comma_list : (all : List SpecFieldData) (x : SpecFieldData) (xs : List SpecFieldData) (last : Bool) → all ≡ x ∷ xs → comma_list (spec_field_spellings (spec_fields_of all)) last ≡ spec_field_spelling x ++ flat_map spec_field_after_comma xs ++ last_comma last
spec_fields_comma_list all x xs last e = ap (λ ys. comma_list (spec_field_spellings (spec_fields_of ys)) last) e ∙ ap (λ more. spec_field_spelling x ++ more ++ last_comma last) (spec_fields_after_commas xs)
