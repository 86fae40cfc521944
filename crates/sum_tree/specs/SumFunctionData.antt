-- Functions whose bodies are sums, as contracts see them.
use Rattle.std.specs.Prelude.{ℕ, List}
use Rattle.sum_tree.specs.SumData.{SumData}

-- a function of u64 parameters whose body is a sum; `start` is the index of its first byte
pub record SumFunctionData : Type 0 where
  pub name : List ℕ
  pub parameters : List (List ℕ)
  pub body : SumData
  pub start : ℕ
