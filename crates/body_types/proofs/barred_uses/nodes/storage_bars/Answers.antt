use Rattle.std.proofs.Common.{sym, ◌∙◌, arith}
use Rattle.typing_rules.specs.Pools.{types}
use Rattle.body_types.proofs.Deciding.{a_number, no_number, number_says}
use Rattle.body_types.proofs.barred_uses.nodes.storage_bars.Goals as goal

pub number_of-requires : goal.number_of-requires
number_of-requires c = omega (arith, c.requires.known.table.same_length, c.requires.within)

pub entry-requires : goal.entry-requires
entry-requires c = (number_says c.args.facts.slots.now c.args.facts.roots.now c.args.facts.pool.now c.args.facts.numbers.now c.args.first _ c.requires.known c.requires.within (sym c.number_of.ensures ∙ c.in-Some.is)).within

pub returns-in-Some : goal.returns-in-Some
returns-in-Some c = a_number c.args.facts.slots.now c.args.facts.pool.now c.args.facts.own.now c.args.facts.types.now c.args.first c.in-Some.number c.entry.result.now c.is_visible.result c.requires.known.ranked
    (number_says c.args.facts.slots.now c.args.facts.roots.now c.args.facts.pool.now c.args.facts.numbers.now c.args.first _ c.requires.known c.requires.within (sym c.number_of.ensures ∙ c.in-Some.is))
    c.entry.ensures.one (c.is_visible.ensures (types c.args.facts.pool.now))

pub returns-in-None : goal.returns-in-None
returns-in-None c = no_number c.args.facts.slots.now c.args.facts.pool.now c.args.facts.own.now c.args.facts.types.now c.args.first c.requires.known.ranked
    (number_says c.args.facts.slots.now c.args.facts.roots.now c.args.facts.pool.now c.args.facts.numbers.now c.args.first _ c.requires.known c.requires.within (sym c.number_of.ensures ∙ c.in-None.is))
