-- The type of a type variable, by its number.
use Rattle.std.proofs.Common.{◌≡◌, ℕ, suc, ◌+◌, ◌-◌, ◌<◌, inl, inr, List, [], ◌∷◌, ◌++◌, length, Option, Some, None, Result, Ok, Err, refl, sym, ◌∙◌, ap, subst, arith}
use Rattle.std.specs.Prelude.{IfOk, slice_get}
use Rattle.std.proofs.lemmas.Option.{slice_get_within}
use Rattle.base.specs.TypeData.{TypeData}
use Rattle.typing_rules.specs.Pools.{type_at, types}
use Rattle.typing_rules.specs.declared.type_pool.PoolType.{PoolType}
use Rattle.typing_rules.specs.Answers.{System, HasType, IsUntypable}
use Rattle.unification.specs.Choices.{VariableSays}
use Rattle.type_check.specs.Lets.{ArgumentsSay, HasNoType}
use Rattle.type_check.proofs.Owning.{get_last, get_pushed, last_is, length_pushed, some_inside}

pub if_ok_map : {A E : Type 0} (r : Result A E) {P Q : A → Type 0} → ((a : A) → P a → Q a) → IfOk r P → IfOk r Q
if_ok_map (Ok a) f h = f a h
if_ok_map (Err e) f h = tt

pub variable_of : (s : System) (pool : List PoolType) (p : ℕ) (found : Option ℕ) (n : ℕ) → found ≡ Some n → VariableSays s pool p found → (n < length pool) × HasType s p (type_at (types pool) n)
variable_of s pool p found n e says = subst (λ (o : Option ℕ). VariableSays s pool p o) e says

pub no_variable : (s : System) (pool : List PoolType) (p : ℕ) (found : Option ℕ) → found ≡ None → VariableSays s pool p found → HasNoType s p
no_variable s pool p found e says = subst (λ (o : Option ℕ). VariableSays s pool p o) e says

-- the types of the type variables from the first on, up to this one
pub record TypesTo (s : System) (first variable : ℕ) (terms : List TypeData) : Type 0 where
  pub size : first + length terms ≡ variable
  pub each : (k : ℕ) (of : TypeData) → slice_get terms k ≡ Some of → HasType s (first + k) of

pub no_types : (s : System) (first : ℕ) (terms : List TypeData) → terms ≡ [] → TypesTo s first first terms
no_types s first terms e = record {
  size = (let size = ap (λ (xs : List TypeData). length xs) e in omega (arith, size));
  each = λ k of at. absurd (let within = slice_get_within terms k of at in let size = ap (λ (xs : List TypeData). length xs) e in omega (arith, within, size));
}

pub more_types : (s : System) (first variable : ℕ) (terms new : List TypeData) (of : TypeData) → new ≡ terms ++ of ∷ [] → HasType s variable of → TypesTo s first variable terms → TypesTo s first (variable + 1) new
more_types s first variable terms new of e has to =
    let size = to.size in
    let longer : length new ≡ suc (length terms) = ap (λ (xs : List TypeData). length xs) e ∙ length_pushed terms of (length terms) refl in
    record {
      size = omega (arith, size, longer);
      each = λ k other at.
          let stands : slice_get (terms ++ of ∷ []) k ≡ Some other = ap (λ (xs : List TypeData). slice_get xs k) (sym e) ∙ at in
          let within : k < length new = slice_get_within new k other at in
          elim (last_is k (length terms) (subst (λ (n : ℕ). k < n) longer within)) [
            | inl below ↦ to.each k other (sym (get_pushed terms of k below) ∙ stands)
            | inr here ↦
                let same : of ≡ other = some_inside of other (sym (get_last terms of) ∙ ap (λ (m : ℕ). slice_get (terms ++ of ∷ []) m) (sym here) ∙ stands) in
                let there : variable ≡ first + k = omega (arith, size, here) in
                subst (λ (t : TypeData). HasType s (first + k) t) same (subst (λ (p : ℕ). HasType s p of) there has)
          ];
    }

-- without typings no type variable has a type
pub untypable_variables : (s : System) (first count : ℕ) (found : Option (List TypeData)) → IsUntypable s → ArgumentsSay s 0 count found → ArgumentsSay s first (first + count) found
untypable_variables s first count None none says = (let w = says.1.1 in (first + says.0, (omega arith, omega (arith, w), λ of h. none h.typing h.settled.defaulted.typing)))
untypable_variables s first count (Some types) none says = (
  (let size = says.0 in omega (arith, size)),
  (λ k of e. absurd (let h = says.1 k of e in none h.typing h.settled.defaulted.typing)),
)

pub last_variables : (s : System) (first count end : ℕ) (found : Option (List TypeData)) → first + count ≡ end → ArgumentsSay s (end - count) end found → ArgumentsSay s first (first + count) found
last_variables s first count end found size says =
    let begins : end - count ≡ first = omega (arith, size) in
    subst (λ (e : ℕ). ArgumentsSay s first e found) (sym size) (subst (λ (b : ℕ). ArgumentsSay s b end found) begins says)
