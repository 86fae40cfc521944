-- Codes of pure data as trees of numbers, and back.
use base.Stored.{Gv, gnil, gnum, gcons, num}
use Rattle.std.specs.Prelude.{◌≡◌, ℕ, zero, suc, List, [], ◌∷◌, refl}
use Rattle.std.proofs.Common.{ap}

-- the case with this number, or the default where there is none
abbrev pub pick : {A : Type 0} → ℕ → A → List A → A
pick n default [] = default
pick zero default (x ∷ xs) = x
pick (suc n) default (x ∷ xs) = pick n default xs

-- numbers as a tree
abbrev pub numbers_code : List ℕ → Gv
numbers_code [] = gnil
numbers_code (x ∷ xs) = gcons (gnum x) (numbers_code xs)

abbrev pub numbers_back : Gv → List ℕ
numbers_back gnil = []
numbers_back (gnum n) = []
numbers_back (gcons a b) = num a ∷ numbers_back b

pub numbers_back-code : (xs : List ℕ) → numbers_back (numbers_code xs) ≡ xs
numbers_back-code [] = refl
numbers_back-code (x ∷ xs) = ap (λ ys. x ∷ ys) (numbers_back-code xs)
