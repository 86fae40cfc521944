-- The reader of a spec block that takes all tokens. The number bounds the nesting of types and expressions.
use Rattle.std.specs.Prelude.{ℕ, List, [], ◌∷◌, Option, Some, None, option_and_then}
use Rattle.tokens.specs.declared.token.Token.{Token}
use Rattle.syntax_tree.specs.declared.slot.Slot.{Slot}
use Rattle.syntax_tree.specs.declared.clause.Spec.{Spec}
use Rattle.item_parser.specs.SpecBlockReading.{spec_block_at}

abbrev pub at_end : Spec → List Token → Option Spec
at_end x [] = Some x
at_end x (t ∷ ts) = None

unfoldable pub whole_at : Slot → ℕ → List Token → Option Spec
whole_at slot n ts = option_and_then (λ x. at_end x.0 x.1) (spec_block_at slot n ts)
