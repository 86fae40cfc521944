use Rattle.std.proofs.Common.{◌∙◌, nat_eq}
use Rattle.indexmap.specs.IndexMap.{get}
use Rattle.row_reasoning.proofs.DifferencesEntryLemmas.{made_of_sides, made_of_same}
use Rattle.row_reasoning.proofs.differences.entry.side_differences.Goals as goal

pub returns-then-one-other-2 : goal.returns-then-one-other-2
returns-then-one-other-2 c = made_of_same c.args.pool.now c.args.formula c.requires.sides.formula c.args.one c.requires.sides.comparison c.args.choice.classes.now c.args.choice.names.now (get nat_eq c.args.choice.chosen.now) c.args.other c.requires.sides.first c.requires.sides.second c.new-found.result.items c.new-found.ensures.items c.if-one-other.true c.if-one-other-2.true

pub returns : goal.returns
returns c = made_of_sides c.args.pool.now c.args.formula c.requires.sides.formula c.args.one c.requires.sides.comparison c.args.choice.classes.now c.args.choice.names.now (get nat_eq c.args.choice.chosen.now) c.args.other c.requires.sides.first c.requires.sides.second c.as_slice.result.now c.new-found.result.items c.parts.new.found.items (c.as_slice.ensures.value ∙ c.in_ok-way.ensures) c.new-found.ensures.items c.in_ok-parts.ensures
