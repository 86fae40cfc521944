-- Sums as pure data that contracts see, and their code. Source: The Move Book, "Integers".
use base.Stored.{Gv, gnil, gnum, gcons, num}
use Rattle.std.specs.Prelude.{◌≡◌, ℕ, ◌+◌, List, [], ◌∷◌, refl}
use Rattle.std.specs.Coded.{Coded, code_by}
use denote.Struct.Codes.{itself}
use Rattle.std.proofs.Common.{ap}
use Rattle.base.specs.Codes.{pick, numbers_code, numbers_back, numbers_back-code}
use Rattle.sum_tree.specs.declared.sum.Operator.{Operator}
use Rattle.sum_tree.specs.declared.sum.Operator.TheVariants.{Plus, Minus}

pub data SumData : Type 0 where
  -- a u64, a name, or an operator with two sums
  NumberSum : ℕ → SumData
  WordSum : List ℕ → SumData
  JoinedSum : SumData → Operator → SumData → SumData

-- the number of nodes
abbrev pub sum_size : SumData → ℕ
sum_size (NumberSum n) = 1
sum_size (WordSum w) = 1
sum_size (JoinedSum left operator right) = 1 + (sum_size left + sum_size right)

abbrev pub operator_code : Operator → Gv
operator_code Plus = gnum 0
operator_code Minus = gnum 1

abbrev pub operator_back : Gv → Operator
operator_back g = pick (num g) Plus (Plus ∷ Minus ∷ [])

pub operator_back-code : (o : Operator) → operator_back (operator_code o) ≡ o
operator_back-code Plus = refl
operator_back-code Minus = refl

-- a numbered tree with three subtrees
abbrev pub tree : ℕ → Gv → Gv → Gv → Gv
tree n a b c = gcons (gnum n) (gcons a (gcons b c))

abbrev pub sum_code : SumData → Gv
sum_code (NumberSum n) = tree 0 (gnum n) gnil gnil
sum_code (WordSum w) = tree 1 (numbers_code w) gnil gnil
sum_code (JoinedSum left operator right) = tree 2 (sum_code left) (operator_code operator) (sum_code right)

abbrev pub sum_back : Gv → SumData
sum_back (gcons (gnum n) (gcons a (gcons b c))) =
    pick n (NumberSum 0) (NumberSum (num a) ∷ WordSum (numbers_back a) ∷ JoinedSum (sum_back a) (operator_back b) (sum_back c) ∷ [])
sum_back _ = NumberSum 0

pub sum_back-code : (s : SumData) → sum_back (sum_code s) ≡ s
sum_back-code (NumberSum n) = refl
sum_back-code (WordSum w) = ap WordSum (numbers_back-code w)
sum_back-code (JoinedSum left operator right) = λ i. JoinedSum (sum_back-code left i) (operator_back-code operator i) (sum_back-code right i)

abbrev pub coded_sum : Coded SumData
coded_sum = code_by Gv itself sum_code sum_back sum_back-code
