use Rattle.std.proofs.Common.{take}
use Rattle.std.specs.Prelude.{All}
use Rattle.scopes.specs.Visible.{NodeIsVisible}
use Rattle.scopes.proofs.visible.first.is_body_visible.Given as goal

abbrev pub invariant-loop-index : goal.invariant-loop-index
invariant-loop-index l = All (NodeIsVisible l.program l.own l.types) (take l.index l.body.nodes)
