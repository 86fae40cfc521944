use Rattle.std.proofs.Common.{nat_eq}
use Rattle.indexmap.specs.IndexMap.{get}
use Rattle.row_reasoning.proofs.PositionLemmas.{is_unknown, numeral_same, parts_of, no_parts}
use Rattle.row_reasoning.proofs.differences.walk.turn_at.Goals as goal

pub returns-in-Unknown : goal.returns-in-Unknown
returns-in-Unknown c = is_unknown c.args.pool.now c.args.choice.classes.now c.args.choice.names.now (get nat_eq c.args.choice.chosen.now) c.args.one c.args.other c.requires c.in-Unknown.ensures c.if-one-other.false

pub returns-in-Numeral : goal.returns-in-Numeral
returns-in-Numeral c = numeral_same c.args.pool.now c.args.choice.classes.now c.args.choice.names.now (get nat_eq c.args.choice.chosen.now) c.args.one c.args.other c.requires c.in-Numeral.ensures

pub returns-in-Some : goal.returns-in-Some
returns-in-Some c = parts_of c.args.pool.now c.args.choice.classes.now c.args.choice.names.now (get nat_eq c.args.choice.chosen.now) c.args.one c.args.other c.in-Sum.pair c.in-Some.others c.requires c.in-Sum.ensures c.in-Some.ensures c.if-one-other.false

pub returns-in-None : goal.returns-in-None
returns-in-None c = absurd (no_parts c.args.pool.now c.args.choice.classes.now c.args.choice.names.now (get nat_eq c.args.choice.chosen.now) c.args.one c.args.other c.in-Sum.pair c.requires c.in-Sum.ensures c.in-None.ensures c.if-one-other.false)
