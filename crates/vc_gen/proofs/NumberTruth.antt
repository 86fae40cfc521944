-- The terms of words and sums have the values of the numbers they stand for.
use Rattle.std.proofs.Common.{◌≡◌, ℕ, ◌-◌, ◌^◌, ℤ, pos, ◌+ℤ◌, ◌-ℤ◌, List, Bool, true, false, codes, refl, sym, ap, ◌∙◌, if◌then◌else◌}
use Rattle.std.specs.List.{list_any}
use Rattle.fol.specs.FormulaData.{TermData}
use Rattle.fol.specs.Val.{NumberValue}
use Rattle.fol.specs.Operators.{number_of}
use Rattle.fol.specs.Truth.{Interpretation, Assignment, value_of}
use Rattle.sum_tree.specs.declared.sum.Operator.{Operator}
use Rattle.sum_tree.specs.declared.sum.Operator.TheVariants.{Plus, Minus}
use Rattle.sum_tree.specs.SumData.{SumData, NumberSum, WordSum, JoinedSum}
use Rattle.sum_tree.specs.SumFunctionData.{SumFunctionData}
use Rattle.base.specs.Names.{same_name}
use Rattle.ref_sem.specs.Semantics.{Arguments, Names, names_of, operator_number, sum_number}
use Rattle.sum_formula.specs.Translation.{zero_term, greatest_term, term_at, word_term, operator_term, sum_term}
use Rattle.vc_gen.proofs.Words.{position_none}

-- The assignment gives each parameter the value of the argument.
pub record Agrees (m : Interpretation) (s : Assignment) (parameters : List (List ℕ)) (arguments : Arguments) : Type 0 where
  pub values : (word : List ℕ) → list_any (same_name word) parameters ≡ true → (returned : TermData) → value_of m (word_term parameters returned word) s ≡ NumberValue (pos (arguments word))

-- a choice between three terms has the value of the choice between their numbers
chosen : (m : Interpretation) (s : Assignment) (a b : Bool) (t u v : TermData) (x y z : ℤ) → value_of m t s ≡ NumberValue x → value_of m u s ≡ NumberValue y → value_of m v s ≡ NumberValue z → value_of m (if a then t else (if b then u else v)) s ≡ NumberValue (if a then x else (if b then y else z))
chosen m s true b t u v x y z e g h = e
chosen m s false true t u v x y z e g h = g
chosen m s false false t u v x y z e g h = h

module _ (m : Interpretation) (s : Assignment) (f : SumFunctionData) (arguments : Arguments) (agrees : Agrees m s f.parameters arguments) where
  -- the term of the result has this value
  module _ (returned : TermData) (r : ℕ) (returns : value_of m returned s ≡ NumberValue (pos r)) where
    abbrev names : Names
    names = names_of f arguments r

    -- the number of a word that is no parameter
    abbrev free_number : List ℕ → ℤ
    free_number word = if same_name word (codes "MAX_U64") then pos (2 ^ 64 - 1) else (if same_name word (codes "result") then pos r else pos 0)

    word_number : (word : List ℕ) → value_of m (word_term f.parameters returned word) s ≡ NumberValue (names word)
    word_number word = go (list_any (same_name word) f.parameters) refl
      where
        go : (b : Bool) → list_any (same_name word) f.parameters ≡ b → value_of m (word_term f.parameters returned word) s ≡ NumberValue (names word)
        go true e = agrees.values word e returned ∙ sym (ap (λ b. NumberValue (if b then pos (arguments word) else free_number word)) e)
        go false e =
            ap (λ o. value_of m (term_at o returned word) s) (position_none (same_name word) f.parameters e)
            ∙ chosen m s (same_name word (codes "MAX_U64")) (same_name word (codes "result")) greatest_term returned zero_term (pos (2 ^ 64 - 1)) (pos r) (pos 0) refl returns refl
            ∙ sym (ap (λ b. NumberValue (if b then pos (arguments word) else free_number word)) e)

    operator_is : (op : Operator) (t u : TermData) (a b : ℤ) → value_of m t s ≡ NumberValue a → value_of m u s ≡ NumberValue b → value_of m (operator_term op t u) s ≡ NumberValue (operator_number op a b)
    operator_is Plus t u a b e g = λ i. NumberValue (number_of (e i) +ℤ number_of (g i))
    operator_is Minus t u a b e g = λ i. NumberValue (number_of (e i) -ℤ number_of (g i))

    pub sum_is : (sum : SumData) → value_of m (sum_term f.parameters returned sum) s ≡ NumberValue (sum_number names sum)
    sum_is (NumberSum n) = refl
    sum_is (WordSum word) = word_number word
    sum_is (JoinedSum left operator right) =
        operator_is operator (sum_term f.parameters returned left) (sum_term f.parameters returned right) (sum_number names left) (sum_number names right) (sum_is left) (sum_is right)
