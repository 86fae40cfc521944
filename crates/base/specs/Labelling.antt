-- The labels of numbers: the last index of the order at which a number reaches them along the reversed edges.
use Rattle.std.specs.Prelude.{◌≡◌, ℕ, ◌<◌, ◌≤◌, ◌+◌, ◌*◌, ◌⊎◌, List, [], ◌∷◌, length, slice_index, slice_index_or, Option, Some, None}
use Rattle.base.specs.GraphReachability.{Reaches}

-- the label of a number, if it has one
abbrev pub label : List (Option ℕ) → ℕ → Option ℕ
label labels i = slice_index_or labels i None

abbrev pub IsAtLeast : ℕ → Option ℕ → Type 0
IsAtLeast least found = (m : ℕ) × (found ≡ Some m) × (least ≤ m)

abbrev pub IsIn : ℕ → List ℕ → Type 0
IsIn i [] = ⊥
IsIn i (j ∷ work) = (i ≡ j) ⊎ IsIn i work

-- no edge is still to be followed
abbrev pub NoneIsOpen : ℕ → ℕ → Type 0
NoneIsOpen y k = ⊥

abbrev pub IsFrom : ℕ → ℕ → ℕ → ℕ → Type 0
IsFrom node next y k = (y ≡ node) × (next ≤ k)

abbrev pub AreNumbers : List (List ℕ) → List ℕ → Type 0
AreNumbers sources order = (k : ℕ) → k < length order → slice_index order k < length sources

-- the numbers that are reached from those at or after the index `position` have labels, the greatest possible ones, except
-- for the pending part: the numbers in `work`, whose edges are not followed yet, and the open edges
pub record IsLabelling (sources : List (List ℕ)) (order : List ℕ) (position : ℕ) (labels : List (Option ℕ)) (work : List ℕ) (IsOpen : ℕ → ℕ → Type 0) : Type 0 where
  pub long : length labels ≡ length sources
  pub led : (x l : ℕ) → label labels x ≡ Some l → (position ≤ l) × (l < length order) × Reaches sources (slice_index order l) x
  pub pending : (y : ℕ) → IsIn y work → label labels y ≡ Some position
  pub closed : (y k l : ℕ) → label labels y ≡ Some l → k < length (slice_index_or sources y []) → IsAtLeast l (label labels (slice_index (slice_index_or sources y []) k)) ⊎ (IsIn y work ⊎ IsOpen y k)
  pub above : (k : ℕ) → position ≤ k → k < length order → IsAtLeast k (label labels (slice_index order k))

-- the number at the index that is the label
abbrev pub root_of : List ℕ → Option ℕ → ℕ
root_of order None = 0
root_of order (Some position) = slice_index order position

-- the number of numbers without a label
abbrev pub unlabelled : List (Option ℕ) → ℕ
unlabelled [] = 0
unlabelled (None ∷ labels) = unlabelled labels + 1
unlabelled (Some position ∷ labels) = unlabelled labels

-- a measure of the remaining steps: each number without a label is labelled once and taken from the work once
abbrev pub waiting : List (Option ℕ) → List ℕ → ℕ
waiting labels work = 2 * unlabelled labels + length work
