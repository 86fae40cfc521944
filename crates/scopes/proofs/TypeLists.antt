-- The meaning of lists of types.
use Rattle.std.proofs.Common.{◌≡◌, ℕ, suc, zero, List, [], ◌∷◌, Some, None, Option, refl, ap, ◌∙◌, ◌≤◌, ◌<◌, length, take, get_or, arith, sym}
use Rattle.scopes.proofs.EachLaws.{each_none}
use Rattle.std.specs.Prelude.{option_and_then}
use Rattle.std.specs.Option.{option_map}
use Rattle.base.specs.TypeData.{TypeData, MoreTypes, types_of}
use Rattle.syntax_tree.specs.TypeTreeData.{SourceTypeData, source_types_of}
use Rattle.scopes.specs.Meanings.{each}
use Rattle.scopes.specs.TypeMeanings.{TypeScope, type_meaning, types_meaning, only, plain, misapplied}

pub types_each : (scope : TypeScope) (ts : List SourceTypeData) → types_meaning scope (source_types_of ts) ≡ option_map types_of (each (type_meaning scope) ts)
types_each scope [] = refl
types_each scope (t ∷ ts) = ap (λ o. option_and_then (λ one. option_map (MoreTypes one) o) (type_meaning scope t)) (types_each scope ts) ∙ go (type_meaning scope t) (each (type_meaning scope) ts)
  where
    go : (one : Option TypeData) (more : Option (List TypeData)) → option_and_then (λ x. option_map (MoreTypes x) (option_map types_of more)) one ≡ option_map types_of (option_and_then (λ x. option_map (λ xs. x ∷ xs) more) one)
    go None more = refl
    go (Some x) None = refl
    go (Some x) (Some xs) = refl

pub all_taken : {A : Type 0} (xs : List A) (i : ℕ) → length xs ≤ i → take i xs ≡ xs
all_taken [] zero h = refl
all_taken [] (suc i) h = refl
all_taken (x ∷ xs) zero h = absurd (omega (arith, h))
all_taken (x ∷ xs) (suc i) h = ap (λ more. x ∷ more) (all_taken xs i (omega (arith, h)))

pub not_one : (ts : List TypeData) → (length ts ≡ 1 → ⊥) → only (types_of ts) ≡ None
not_one [] h = refl
not_one (t ∷ []) h = absurd (h refl)
not_one (t ∷ u ∷ us) h = refl

pub plain_more : (t : TypeData) (ts : List TypeData) → (length ts ≡ 0 → ⊥) → plain t (types_of ts) ≡ misapplied (types_of ts)
plain_more t [] h = absurd (h refl)
plain_more t (u ∷ us) h = refl

-- all of them have a meaning
pub types_all : (scope : TypeScope) (ts : List SourceTypeData) (i : ℕ) (done : List TypeData) → length ts ≤ i → each (type_meaning scope) (take i ts) ≡ Some done → types_meaning scope (source_types_of ts) ≡ Some (types_of done)
types_all scope ts i done h e = types_each scope ts ∙ ap (λ us. option_map types_of (each (type_meaning scope) us)) (sym (all_taken ts i h)) ∙ ap (λ o. option_map types_of o) e

-- one has no meaning
pub types_none : (scope : TypeScope) (ts : List SourceTypeData) (i : ℕ) (d : SourceTypeData) → i < length ts → type_meaning scope (get_or ts i d) ≡ None → types_meaning scope (source_types_of ts) ≡ None
types_none scope ts i d h e = types_each scope ts ∙ ap (λ o. option_map types_of o) (each_none (type_meaning scope) ts i d h e)
