-- One step of a loop that reads operators and their operands.
use Rattle.std.proofs.Common.{◌≡◌, ℕ, suc, List, Some, None, ap, sym, ◌∙◌}
use Rattle.std.specs.Prelude.{option_and_then}
use Rattle.std.specs.Option.{option_map_or}
use Rattle.tokens.specs.declared.token.Token.{Token}
use Rattle.parser_base.specs.TokenReading.{Read}
use Rattle.parser_base.specs.ChainReading.{Joints, next_operator, chain_at}

module _ {X O : Type 0} (joints : Joints X O) (inner : ℕ → List Token → Read X) (minimum : ℕ) where
  turn : ℕ → X → List Token → Read O → Read X
  turn n left ts next = option_map_or (λ o. option_and_then (λ r. chain_at joints inner minimum n (joints.join left o.0 r.0) r.1) (inner (joints.right o.0) o.1)) next (Some (left, ts))

  -- no step is left
  pub chain_is_over : (all : Read X) (k : ℕ) (left : X) (ts : List Token) → all ≡ chain_at joints inner minimum k left ts → k ≡ 0 → all ≡ None
  unfolding chain_at
  chain_is_over all k left ts before e = before ∙ ap (λ j. chain_at joints inner minimum j left ts) e

  -- no operator is here
  pub chain_ends : (all : Read X) (k n : ℕ) (left : X) (ts : List Token) → all ≡ chain_at joints inner minimum k left ts → k ≡ suc n → next_operator joints minimum left ts ≡ None → all ≡ Some (left, ts)
  unfolding chain_at turn
  chain_ends all k n left ts before e h = before ∙ ap (λ j. chain_at joints inner minimum j left ts) e ∙ ap (turn n left ts) h

  -- no right operand is read
  pub chain_is_stuck : (all : Read X) (k n m : ℕ) (left : X) (ts us : List Token) (o : O) → all ≡ chain_at joints inner minimum k left ts → k ≡ suc n → next_operator joints minimum left ts ≡ Some (o, us) → m ≡ joints.right o → inner m us ≡ None → all ≡ None
  unfolding chain_at turn
  chain_is_stuck all k n m left ts us o before e h r i =
      before ∙ ap (λ j. chain_at joints inner minimum j left ts) e ∙ ap (turn n left ts) h ∙ ap (option_and_then (λ r. chain_at joints inner minimum n (joints.join left o r.0) r.1)) (ap (λ j. inner j us) (sym r) ∙ i)

  pub chain_goes_on : (all : Read X) (k n m : ℕ) (left : X) (ts us rest : List Token) (o : O) (right whole : X) → all ≡ chain_at joints inner minimum k left ts → k ≡ suc n → next_operator joints minimum left ts ≡ Some (o, us) → m ≡ joints.right o → inner m us ≡ Some (right, rest)
      → whole ≡ joints.join left o right → all ≡ chain_at joints inner minimum n whole rest
  unfolding chain_at turn
  chain_goes_on all k n m left ts us rest o right whole before e h r i w =
      before ∙ ap (λ j. chain_at joints inner minimum j left ts) e ∙ ap (turn n left ts) h ∙ ap (option_and_then (λ r. chain_at joints inner minimum n (joints.join left o r.0) r.1)) (ap (λ j. inner j us) (sym r) ∙ i) ∙ ap (λ x. chain_at joints inner minimum n x rest) (sym w)
