-- Lists of numbers by key.
use Rattle.std.specs.Prelude.{ℕ, List, [], nat_eq, unwrap_or}
use Rattle.std.specs.Map.{lookup}

abbrev pub list_in : List (ℕ × List ℕ) → ℕ → List ℕ
list_in entries key = unwrap_or (lookup (nat_eq key) entries) []
