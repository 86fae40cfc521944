use Rattle.std.proofs.Common.{take}
use Rattle.axiom_strategy.specs.Positions.{AreSpread}
use Rattle.axiom_strategy.proofs.PositionLemmas.{AreSeen}
use Rattle.axiom_strategy.proofs.decisions.positions.find_positions.Given as goal

abbrev pub invariant-loop-number : goal.invariant-loop-number
invariant-loop-number l = record {
  seen : AreSeen l.pool l.classes l.groups (take l.number-index l.terms) l.seen;
  spread : AreSpread l.classes l.candidates l.seen l.positions.all.items l.positions.by_group;
}
