-- Code: the operations of a language and a few forms round them, and its runs. Nothing here depends on the language.
-- Source: The Move Book, "Expressions and Scope", "Conditionals and Loops", "Functions".
use Rattle.std.specs.Prelude.{ℕ, zero, suc, Bool, List, [], ◌++◌, Option}
use Rattle.program.specs.Trees.{Tree, LeafTree, UnaryTree, BinaryTree, IfTree, ManyTree, BadTree, Trees, NoTrees, MoreTrees}
use Rattle.code_tree.specs.declared.code.At.{At}
use Rattle.code_tree.specs.declared.code.CodeUnary.{CodeUnary}
use Rattle.code_tree.specs.declared.code.CodeUnary.TheVariants.{Passes, Leaves, Catches}
use Rattle.code_tree.specs.declared.code.CodeMany.{CodeMany}
use Rattle.code_tree.specs.declared.code.CodeMany.TheVariants.{Joins, Does}
use Rattle.code_tree.specs.Outcomes.{Outcome, RunOf, gives, leaves, unfinished, stuck, then_run, chosen, loops, caught}

-- code with operations O and loop heads H
abbrev pub Code : Type 0 → Type 0 → Type 0
Code O H = Tree (At O) CodeUnary H (CodeMany O)

abbrev pub Codes : Type 0 → Type 0 → Type 0
Codes O H = Trees (At O) CodeUnary H (CodeMany O)

-- What operations do with the items that they are given, where `calls` says how the code of each function runs: a call makes the state
-- in which the function begins, runs its code, and goes on from what comes of it. N names functions. And which items are true or false.
pub record Meaning (N O I S : Type 0) : Type 0 where
  pub operate : (calls : N → RunOf I S) → O → List I → RunOf I S
  pub truth : I → Option Bool

-- how all code runs in the turns that are left
abbrev pub CodeRuns : Type 0 → Type 0 → Type 0 → Type 0 → Type 0
CodeRuns O H I S = Code O H → RunOf I S

module _ {N O H I S : Type 0} (M : Meaning N O I S) (bodies : N → Code O H) where
  -- an operation, whose calls take a turn
  abbrev pub operation_run : CodeRuns O H I S → At O → List I → RunOf I S
  operation_run fewer at = M.operate (λ f. fewer (bodies f)) at.op

  abbrev pub unary_run : CodeUnary → RunOf I S → RunOf I S
  unary_run (Passes n way) part = part
  unary_run (Leaves j) part = then_run part (leaves j)
  unary_run (Catches j) part = λ s. caught j (part s)

  abbrev pub many_run : CodeRuns O H I S → CodeMany O → List I → RunOf I S
  many_run fewer Joins = gives
  many_run fewer (Does at) = operation_run fewer at

  -- while the condition gives true, the body is run; `break` and `continue` in it are those of this loop
  abbrev pub loop_run : CodeRuns O H I S → H → Code O H → Code O H → RunOf I S
  loop_run fewer h condition body =
      then_run (fewer condition) (chosen M.truth (loops (fewer body) (fewer (BinaryTree h condition body))) (gives []))

  abbrev mutual
    -- with one turn more
    pub level : CodeRuns O H I S → Tree (At O) CodeUnary H (CodeMany O) → RunOf I S
    level fewer (LeafTree at) = operation_run fewer at []
    level fewer (UnaryTree u a) = unary_run u (level fewer a)
    level fewer (BinaryTree h c a) = loop_run fewer h c a
    level fewer (IfTree c a b) = then_run (level fewer c) (chosen M.truth (level fewer a) (level fewer b))
    level fewer (ManyTree m ts) = then_run (levels fewer ts) (many_run fewer m)
    level fewer BadTree = stuck

    -- the items of all parts, from left to right
    pub levels : CodeRuns O H I S → Trees (At O) CodeUnary H (CodeMany O) → RunOf I S
    levels fewer NoTrees = gives []
    levels fewer (MoreTrees t ts) = then_run (level fewer t) (λ vs. then_run (levels fewer ts) (λ ws. gives (vs ++ ws)))

  -- with n turns
  abbrev pub runs : ℕ → CodeRuns O H I S
  runs zero = level (λ c. unfinished)
  runs (suc n) = level (runs n)
