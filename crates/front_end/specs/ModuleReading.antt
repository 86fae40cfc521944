-- Modules that are read in order.
use Rattle.std.specs.Prelude.{◌≡◌, ℕ, Bool, List, []}
use Rattle.std.specs.BTreeSet.{BTreeSet}
use Rattle.std.specs.BTreeSet as set
use Rattle.std.specs.declared.cmp.Ordering.{Ordering}
use Rattle.std.specs.Ordering.{nat_cmp, ordering_then}
use Rattle.std.specs.Cmp.Lexicographic.{slice_cmp}
use Rattle.syntax_tree.specs.SourceModuleData.{SourceModuleData}
use Rattle.sum_tree.specs.SumModuleData.{SumModuleData}
use Rattle.front_end.specs.Modules.{AreModules, is_taken}

-- the order of addresses with names, by the address first
abbrev pub key_cmp : ℕ × List ℕ → ℕ × List ℕ → Ordering
key_cmp x y = ordering_then (nat_cmp x.0 y.0) (slice_cmp nat_cmp x.1 y.1)

abbrev pub is_in : BTreeSet (ℕ × List ℕ) → ℕ → List ℕ → Bool
is_in taken address name = set.contains key_cmp taken (address, name)

-- the set consists of the addresses and names of these modules
abbrev pub IsSetOf : BTreeSet (ℕ × List ℕ) → List SumModuleData → Type 0
IsSetOf taken found = (address : ℕ) (name : List ℕ) → is_in taken address name ≡ is_taken found address name

-- the modules are those of sums that were read, and the set consists of their addresses and names
abbrev pub AreRead : List (ℕ × SourceModuleData) → List SumModuleData → BTreeSet (ℕ × List ℕ) → Type 0
AreRead modules found taken = AreModules [] modules found × IsSetOf taken found
