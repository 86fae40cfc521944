-- Lists whose items have numbers.
use Rattle.std.specs.Prelude.{◌≡◌, ℕ, ◌+◌, List, [], ◌∷◌, ◌++◌, length}
use Rattle.base.specs.Pairs.{Paired}

-- a property of each item and its number, counted from this number
abbrev pub Each : {A : Type 0} → (ℕ → A → Type 0) → ℕ → List A → Type 0
Each P n [] = Unit {0}
Each P n (x ∷ xs) = P n x × Each P (1 + n) xs

-- each item with its number, counted from this number
abbrev pub with_numbers : {A : Type 0} → ℕ → List A → List (ℕ × A)
with_numbers n [] = []
with_numbers n (x ∷ xs) = (n, x) ∷ with_numbers (1 + n) xs

-- a property of each pair of items of two lists, with its number
abbrev pub EachPair : {A B : Type 0} → (ℕ → A → B → Type 0) → ℕ → List A → List B → Type 0
EachPair P n xs ys = Paired (λ k y. P k.0 k.1 y) (with_numbers n xs) ys

-- the item with this number is found, and each before it is right
pub record IsFirst {A : Type 0} (Right Found : ℕ → A → Type 0) (items : List A) (number : ℕ) : Type 0 where
  pub before : List A
  pub item : A
  pub behind : List A
  pub parts : items ≡ before ++ item ∷ behind
  pub number_is : number ≡ length before
  pub right : Each Right 0 before
  pub found : Found number item
