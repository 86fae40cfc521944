use Rattle.std.proofs.Common.{take}
use Rattle.std.specs.Prelude.{All}
use Rattle.program.specs.StorageTypes.{TypeIsVisible}
use Rattle.scopes.proofs.visible.node.are_types_visible.Given as goal

abbrev pub invariant-loop-term : goal.invariant-loop-term
invariant-loop-term l = All (TypeIsVisible l.own l.types) (take l.term-index l.terms)
