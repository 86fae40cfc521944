-- The values of named addresses. Source: The Move Book, "Address", on named addresses.
use Rattle.std.specs.Prelude.{ℕ, [], ◌∷◌}
use Rattle.std.specs.Ordering.{nat_cmp}
use Rattle.std.specs.Cmp.Lexicographic.{slice_cmp}
use Rattle.std.specs.FinMap as map
use Rattle.std.specs.Coded.{Coded, coded_ℕ, coded_list}

abbrev pub Numbers : Type 0
Numbers = map.FinMap (slice_cmp nat_cmp) ℕ

-- the code of the map
pub coded_numbers : Coded Numbers
coded_numbers = map.code (coded_list coded_ℕ) coded_ℕ

-- only `std`, which is 1
abbrev pub standard : Numbers
standard = map.insert map.empty (115 ∷ 116 ∷ 100 ∷ []) 1
