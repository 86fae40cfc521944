-- Well-formed bodies of u64 values. Source: The Move Book, "Integers".
use Rattle.std.specs.Prelude.{◌≡◌, ℕ, ◌^◌, ◌<◌, true, List}
use Rattle.std.specs.List.{list_any}
use Rattle.base.specs.Names.{same_name}
use Rattle.sum_tree.specs.SumData.{SumData, NumberSum, WordSum, JoinedSum}
use Rattle.sum_tree.specs.SumFunctionData.{SumFunctionData}

-- each number of the sum is a u64, and each name is that of a parameter
abbrev pub IsU64Sum : List (List ℕ) → SumData → Type 0
IsU64Sum parameters (NumberSum n) = n < 2 ^ 64
IsU64Sum parameters (WordSum word) = list_any (same_name word) parameters ≡ true
IsU64Sum parameters (JoinedSum left operator right) = IsU64Sum parameters left × IsU64Sum parameters right

abbrev pub HasU64Body : SumFunctionData → Type 0
HasU64Body f = IsU64Sum f.parameters f.body
