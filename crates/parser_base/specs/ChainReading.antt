-- The reader of operands joined by operators, from the loosest level allowed here to the tightest.
use Rattle.std.specs.Prelude.{ℕ, zero, suc, nat_le, if◌then◌else◌, List, Some, None, option_and_then, length}
use Rattle.std.specs.Option.{option_map_or}
use Rattle.tokens.specs.declared.token.Token.{Token}
use Rattle.parser_base.specs.TokenReading.{Read}

-- How operators join trees: the operator after a tree, its level, the loosest level on its right, and the joined tree.
pub record Joints (X O : Type 0) : Type 0 where
  pub operator_at : X → List Token → Read O
  pub level : O → ℕ
  pub right : O → ℕ
  pub join : X → O → X → X

-- the operator after a tree, if its level is at least this one
unfoldable pub next_operator : {X O : Type 0} → Joints X O → ℕ → X → List Token → Read O
next_operator joints minimum left ts =
    option_and_then (λ o. if nat_le minimum (joints.level o.0) then Some (o.0, o.1) else None) (joints.operator_at left ts)

-- The tree joined by operators of at least this level, in at most this many steps. `inner` reads the right operand.
unfoldable pub chain_at : {X O : Type 0} → Joints X O → (ℕ → List Token → Read X) → ℕ → ℕ → X → List Token → Read X
chain_at joints inner minimum zero left ts = None
chain_at joints inner minimum (suc n) left ts =
    option_map_or (λ o. option_and_then (λ r. chain_at joints inner minimum n (joints.join left o.0 r.0) r.1) (inner (joints.right o.0) o.1))
    (next_operator joints minimum left ts) (Some (left, ts))

-- the same with a step for each token, and one for the end
abbrev pub whole_chain_at : {X O : Type 0} → Joints X O → (ℕ → List Token → Read X) → ℕ → X → List Token → Read X
whole_chain_at joints inner minimum left ts = chain_at joints inner minimum (suc (length ts)) left ts
