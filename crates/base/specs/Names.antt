-- The equality of names, and sets of names.
use Rattle.std.specs.Prelude.{◌≡◌, ℕ, Bool, List, nat_eq}
use Rattle.std.specs.List.{list_any}
use Rattle.std.specs.BTreeSet.{BTreeSet}
use Rattle.std.specs.BTreeSet as set
use Rattle.std.specs.Ordering.{nat_cmp}
use Rattle.std.specs.Cmp.Lexicographic.{pointwise, slice_cmp}

-- two names are equal where they have the same bytes
abbrev pub same_name : List ℕ → List ℕ → Bool
same_name = pointwise nat_eq

abbrev pub is_one_of : List (List ℕ) → List ℕ → Bool
is_one_of names word = list_any (same_name word) names

-- the name is in the set
abbrev pub has : BTreeSet (List ℕ) → List ℕ → Bool
has s name = set.contains (slice_cmp nat_cmp) s name

-- the set of these names
abbrev pub IsSetOf : BTreeSet (List ℕ) → List (List ℕ) → Type 0
IsSetOf s names = (name : List ℕ) → has s name ≡ is_one_of names name
