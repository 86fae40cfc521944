-- What is known of the nodes of code that has typings.
use Rattle.std.specs.Prelude.{ℕ, ◌<◌, ◌≤◌, List, length}
use Rattle.std.specs.Bool.{Decides}
use Rattle.program.specs.CodeNodes.{CodeNode}
use Rattle.typing_rules.specs.Rules.{IsRead}
use Rattle.typing_rules.specs.Answers.{System, NodeIsRead}
use Rattle.typing_rules.specs.Fitting.{Misfits}
use Rattle.body_types.specs.declared.code.fitting.Judged.{Judged}

-- exactly the first so many steps are read
pub record ReadsSteps (s : System) (count : ℕ) : Type 0 where
  pub done : (m : ℕ) → m < count → IsRead s.reading s.steps m
  pub left : (m : ℕ) → count ≤ m → IsRead s.reading s.steps m → ⊥

-- exactly the first so many of these nodes are read
pub record ReadsNodes (s : System) (nodes : List CodeNode) (read : ℕ) : Type 0 where
  pub within : read ≤ length nodes
  pub done : (n : ℕ) → n < read → NodeIsRead s n
  pub left : (n : ℕ) → read ≤ n → n < length nodes → NodeIsRead s n → ⊥

pub record JudgedOf (s : System) (nodes : List CodeNode) (judged : Judged) : Type 0 where
  pub reads : ReadsNodes s nodes judged.read
  pub misfits : Decides judged.misfits (Misfits s nodes)
