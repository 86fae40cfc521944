-- Settings in the program as settings of the typing rules.
use Rattle.std.specs.Prelude.{◌≡◌, ℕ, Bool, false}
use Rattle.std.specs.Option.{option_copied}
use Rattle.program.specs.Trees.{at, trees}
use Rattle.program.specs.declared.arena.Node.TheVariants.{Unary}
use Rattle.program.specs.declared.code.CodeUnary.TheVariants.{Loop}
use Rattle.program.specs.CodeNodes.{CodeNode}
use Rattle.typing_rules.specs.Settings as S
use Rattle.typing_rules.specs.Jumps.{has_break, is_in_loop}
use Rattle.type_constraints.specs.declared.code.setting.CodeSetting.{CodeSetting}
use Rattle.type_constraints.specs.declared.code.setting.Jumps.{Jumps}

abbrev pub setting_of : CodeSetting → S.CodeSetting
setting_of s = record { program = s.program.now; nodes = s.body.now.nodes; locals = s.locals; result = option_copied s.result }

-- a `break` belongs to the node, if it is a loop
abbrev pub is_broken : S.CodeSetting → CodeNode → Bool
is_broken s (Unary Loop body) = has_break (at (trees s.nodes) body)
is_broken s _ = false

-- the loops around the node with this number
pub record AreJumpsOf (s : S.CodeSetting) (n : ℕ) (node : CodeNode) (jumps : Jumps) : Type 0 where
  pub in_loop : jumps.in_loop ≡ is_in_loop s.nodes n
  pub breaks : jumps.breaks ≡ is_broken s node
