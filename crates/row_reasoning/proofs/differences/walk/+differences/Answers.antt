use Rattle.std.proofs.Common.{nat_eq, arith}
use Rattle.indexmap.specs.IndexMap.{get}
use Rattle.row_reasoning.proofs.PositionLemmas.{first_position, second_position, both_found}
use Rattle.row_reasoning.proofs.differences.walk.+differences.Goals as goal

pub parts-differences-requires : goal.parts-differences-requires
parts-differences-requires t c = (
  omega (arith, c.decreases),
  (
    c.requires.over,
    (
      c.requires.history,
      first_position c.args.pool.now c.args.choice.classes.now c.args.choice.names.now (get nat_eq c.args.choice.chosen.now) c.args.way.now c.args.one c.args.other c.requires.sides c.in_ok-first.first.items c.in_ok-first.ensures,
    ),
  ),
)

pub parts-differences-requires-2 : goal.parts-differences-requires-2
parts-differences-requires-2 t c = (
  omega (arith, c.decreases),
  (
    c.requires.over,
    (
      c.requires.history,
      second_position c.args.pool.now c.args.choice.classes.now c.args.choice.names.now (get nat_eq c.args.choice.chosen.now) c.args.way.now c.args.one c.args.other c.requires.sides c.in_ok-second.second.items c.in_ok-second.ensures,
    ),
  ),
)

pub parts-returns : goal.parts-returns
parts-returns t c = both_found c.args.pool.now c.args.choice.classes.now c.args.choice.names.now (get nat_eq c.args.choice.chosen.now) c.args.way.now c.args.one c.args.other c.requires.sides c.in_ok-first.first.items c.in_ok-second.second.items c.args.found.now.items c.differences.new.found.items c.differences-2.new.found.items c.in_ok-first.ensures c.in_ok-second.ensures c.in_ok-differences.ensures c.in_ok-differences-2.ensures
