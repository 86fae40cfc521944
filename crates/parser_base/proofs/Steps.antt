-- Readers that succeed, step by step.
use Rattle.std.proofs.Common.{◌≡◌, Bool, true, false, cond, Option, Some, None, refl, ap, inl, inr, ◌⊎◌}
use Rattle.std.specs.Prelude.{option_and_then}
use Rattle.std.specs.Option.{option_map, option_map_or}

-- ---- what follows from a success

pub record Step {A B : Type 0} (o : Option A) (f : A → Option B) (y : B) : Type 0 where
  pub value : A
  pub first : o ≡ Some value
  pub then : f value ≡ Some y

pub step : {A B : Type 0} (o : Option A) (f : A → Option B) (y : B) → option_and_then f o ≡ Some y → Step o f y
step None f y e = absurd (cc)
step (Some x) f y e = record { value = x; first = refl; then = e }

pub record Last {A B : Type 0} (o : Option A) (f : A → B) (y : B) : Type 0 where
  pub value : A
  pub first : o ≡ Some value
  pub then : f value ≡ y

pub some_one : {A : Type 0} (x y : A) → ◌≡◌ {A = Option A} (Some x) (Some y) → x ≡ y
some_one x y e = cc

pub last : {A B : Type 0} (o : Option A) (f : A → B) (y : B) → option_map f o ≡ Some y → Last o f y
last None f y e = absurd (cc)
last (Some x) f y e = record { value = x; first = refl; then = some_one _ _ e }

pub if_some : {A : Type 0} (b : Bool) (x y : A) → cond b (Some x) None ≡ Some y → (b ≡ true) × (x ≡ y)
if_some true x y e = (refl, some_one x y e)
if_some false x y e = absurd (cc)

pub if_not : {A : Type 0} (b : Bool) (x y : A) → cond b None (Some x) ≡ Some y → (b ≡ false) × (x ≡ y)
if_not true x y e = absurd (cc)
if_not false x y e = (refl, some_one x y e)

-- the first of two alternatives, or the second
pub either : {A B : Type 0} (o : Option A) (f : A → Option B) (other : Option B) (y : B) → option_map_or f o other ≡ Some y → Step o f y ⊎ ((o ≡ None) × (other ≡ Some y))
either None f other y e = inr (refl, e)
either (Some x) f other y e = inl (record { value = x; first = refl; then = e })

pub either_read : {B : Type 0} (b : Bool) (one other : Option B) (y : B) → cond b one other ≡ Some y → ((b ≡ true) × (one ≡ Some y)) ⊎ ((b ≡ false) × (other ≡ Some y))
either_read true one other y e = inl (refl, e)
either_read false one other y e = inr (refl, e)

pub if_read : {B : Type 0} (b : Bool) (one : Option B) (y : B) → cond b one None ≡ Some y → (b ≡ true) × (one ≡ Some y)
if_read true one y e = (refl, e)
if_read false one y e = absurd (cc)

pub not_read : {B : Type 0} (b : Bool) (one : Option B) (y : B) → cond b None one ≡ Some y → (b ≡ false) × (one ≡ Some y)
not_read true one y e = absurd (cc)
not_read false one y e = (refl, e)

-- ---- the result of a reader whose first step is known

pub bind_some : {A B : Type 0} (o : Option A) (f : A → Option B) (x : A) → o ≡ Some x → option_and_then f o ≡ f x
bind_some o f x e = ap (option_and_then f) e

pub map_some : {A B : Type 0} (o : Option A) (f : A → B) (x : A) → o ≡ Some x → option_map f o ≡ Some (f x)
map_some o f x e = ap (option_map f) e

pub map_or_none : {A B : Type 0} (o : Option A) (f : A → B) (other : B) → o ≡ None → option_map_or f o other ≡ other
map_or_none o f other e = ap (λ p. option_map_or f p other) e

pub map_or_some : {A B : Type 0} (o : Option A) (f : A → B) (other : B) (x : A) → o ≡ Some x → option_map_or f o other ≡ f x
map_or_some o f other x e = ap (λ p. option_map_or f p other) e

pub cond_true : {A : Type 0} (b : Bool) (x y : A) → b ≡ true → cond b x y ≡ x
cond_true b x y e = ap (λ c. cond c x y) e

pub cond_false : {A : Type 0} (b : Bool) (x y : A) → b ≡ false → cond b x y ≡ y
cond_false b x y e = ap (λ c. cond c x y) e

pub true_or_false : {A : Type 0} (b : Bool) → b ≡ true → b ≡ false → A
true_or_false true e h = absurd (cc)
true_or_false false e h = absurd (cc)
