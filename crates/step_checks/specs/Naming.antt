-- Given representatives of the classes of a branch.
use Rattle.std.specs.Prelude.{◌≡◌, ◌≢◌, ℕ, Bool, true, false, List, slice_index, Option, Some, None, cond, nat_eq, Contains}
use Rattle.fol.specs.FormulaData.{TermData}
use Rattle.term_pool.specs.declared.node.Node.{Node}
use Rattle.certificates.specs.BranchesBranch.{Branch}
use Rattle.certificates.specs.Rows.{IsClassing}
use Rattle.row_reasoning.specs.Rows.{AreNames}

-- each number of a term of the branch has the representative of its class, and different classes have different ones
pub record AreClassNames (ns : List Node) (b : Branch) (names : List ℕ) : Type 0 where
  pub class : TermData → ℕ
  pub classing : IsClassing b class
  pub named : AreNames ns b class names

-- among these numbers, equal first representatives imply equal second ones
pub record Follows (numbers first second : List ℕ) : Type 0 where
  pub same : (m n : ℕ) → Contains numbers m → Contains numbers n → slice_index first m ≡ slice_index first n → slice_index second m ≡ slice_index second n

-- ---- the value of a key

-- the key had the value, or had none and got it
pub data IsNoted (key value : ℕ) (before after : ℕ → Option ℕ) : Type 0 where
  Had : before key ≡ Some value → after ≡ before → IsNoted key value before after
  Got : before key ≡ None → ((k : ℕ) → after k ≡ cond (nat_eq key k) (Some value) (before k)) → IsNoted key value before after

-- the key had another value
pub record HasOther (key value : ℕ) (before : ℕ → Option ℕ) : Type 0 where
  pub other : ℕ
  pub found : before key ≡ Some other
  pub differs : other ≢ value

abbrev pub Agrees : ℕ → ℕ → (ℕ → Option ℕ) → (ℕ → Option ℕ) → Bool → Type 0
Agrees key value before after true = IsNoted key value before after
Agrees key value before after false = HasOther key value before
