-- The index of a word among names.
use Rattle.std.proofs.Common.{◌≡◌, ℕ, ◌+◌, List, [], ◌∷◌, get_or, Some, None, Bool, true, false, cond, ◌||◌, ◌==◌, refl, sym, ap, ◌∙◌}
use Rattle.std.specs.List.{list_any, position, position_from}
use Rattle.std.proofs.lemmas.Bool.{eqb-true}
use Rattle.std.proofs.lemmas.Iterator.Adapters.{position_from-zero}
use Rattle.std.proofs.lemmas.List.Quantifiers.{position-Some}
use Rattle.base.proofs.TruthValues.{both_true}
use Rattle.base.specs.Names.{same_name}

-- equal names are identical
pub same_name-equal : (v w : List ℕ) → same_name v w ≡ true → v ≡ w
same_name-equal [] [] e = refl
same_name-equal [] (y ∷ ys) e = absurd (cc)
same_name-equal (x ∷ xs) [] e = absurd (cc)
same_name-equal (x ∷ xs) (y ∷ ys) e =
    let both = both_true (x == y) (same_name xs ys) e in
    λ i. eqb-true x y both.0 i ∷ same_name-equal xs ys both.1 i

none_step : {X : Type 0} (p : X → Bool) (i : ℕ) (x : X) (xs : List X) (b : Bool) → p x ≡ b → p x || list_any p xs ≡ false → (list_any p xs ≡ false → position_from p (i + 1) xs ≡ None) → position_from p i (x ∷ xs) ≡ None
none_step p i x xs true h e rest = let clash : true ≡ false = (λ j. sym h j || list_any p xs) ∙ e in absurd (cc)
none_step p i x xs false h e rest = ap (λ c. cond c (Some i) (position_from p (i + 1) xs)) h ∙ rest ((λ j. sym h j || list_any p xs) ∙ e)

from_none : {X : Type 0} (p : X → Bool) (i : ℕ) (xs : List X) → list_any p xs ≡ false → position_from p i xs ≡ None
from_none p i [] e = refl
from_none p i (x ∷ xs) e = none_step p i x xs (p x) refl e (from_none p (i + 1) xs)

pub position_none : {X : Type 0} (p : X → Bool) (xs : List X) → list_any p xs ≡ false → position p xs ≡ None
position_none p xs e = position_from-zero p xs ∙ from_none p 0 xs e

some_step : {X : Type 0} (p : X → Bool) (i : ℕ) (x : X) (xs : List X) (b : Bool) → p x ≡ b → p x || list_any p xs ≡ true → (list_any p xs ≡ true → (k : ℕ) × (position_from p (i + 1) xs ≡ Some k)) → (k : ℕ) × (position_from p i (x ∷ xs) ≡ Some k)
some_step p i x xs true h e rest = (i, ap (λ c. cond c (Some i) (position_from p (i + 1) xs)) h)
some_step p i x xs false h e rest =
    let found = rest ((λ j. sym h j || list_any p xs) ∙ e) in
    (found.0, ap (λ c. cond c (Some i) (position_from p (i + 1) xs)) h ∙ found.1)

from_some : {X : Type 0} (p : X → Bool) (i : ℕ) (xs : List X) → list_any p xs ≡ true → (k : ℕ) × (position_from p i xs ≡ Some k)
from_some p i [] e = absurd (cc)
from_some p i (x ∷ xs) e = some_step p i x xs (p x) refl e (from_some p (i + 1) xs)

pub position_some : {X : Type 0} (p : X → Bool) (xs : List X) → list_any p xs ≡ true → (k : ℕ) × (position p xs ≡ Some k)
position_some p xs e = let found = from_some p 0 xs e in (found.0, position_from-zero p xs ∙ found.1)

-- the name at the index of a word is the word
pub name_at_position : (names : List (List ℕ)) (word : List ℕ) (k : ℕ) → position (same_name word) names ≡ Some k → word ≡ get_or names k []
name_at_position names word k e = same_name-equal word (get_or names k []) (position-Some (same_name word) names k [] e).1
