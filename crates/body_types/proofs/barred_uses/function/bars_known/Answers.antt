use Rattle.std.proofs.Common.{List, sym, subst}
use Rattle.unification.specs.Slots.{Fits}
use Rattle.unification.specs.declared.type_variables.slots.Slot.{Slot}
use Rattle.unification.specs.Ranked.{IsRanking}
use Rattle.body_types.proofs.Deciding.{decided, variables_longer, given}
use Rattle.body_types.proofs.barred_uses.function.bars_known.Goals as goal

pub forced_types-requires-clause-fits : goal.forced_types-requires-clause-fits
forced_types-requires-clause-fits c = subst (λ (ss : List Slot). Fits ss) (sym c.as_slice-slots.ensures.value) c.requires.1.knows.fits

pub forced_types-requires-clause-ranking : goal.forced_types-requires-clause-ranking
forced_types-requires-clause-ranking c =
    subst (λ (ss : List Slot). IsRanking ss c.args.known.now.ranking.ranks.items c.args.known.now.ranking.order.items) (sym c.as_slice-slots.ensures.value) c.requires.1.ranking

pub some_bars-requires-clause-known : goal.some_bars-requires-clause-known
some_bars-requires-clause-known c = given c.args.known.now _ c.as_slice-slots.result.now c.forced_types.new.pool c.in_ok-forced.forced c.as_slice-2.result.now c.as_slice-3.result.now
    c.requires.1 c.as_slice-slots.ensures.value c.as_slice-2.ensures.value c.as_slice-3.ensures.value c.in_ok-forced.ensures.says

pub some_bars-requires-clause-variables : goal.some_bars-requires-clause-variables
some_bars-requires-clause-variables c = c.requires.1.count

pub some_bars-requires-clause-longer : goal.some_bars-requires-clause-longer
some_bars-requires-clause-longer c = variables_longer c.args.known.now _ c.as_slice-slots.result.now c.requires.1 c.as_slice-slots.ensures.value

pub returns : goal.returns
returns c count k last = decided c.args.program.now c.args.function.now c.args.own.now count c.args.known.now c.nodes_read-read.result c.as_slice-slots.result.now c.as_slice.result.now c.some_bars.result
    c.as_slice-slots.ensures.value c.as_slice.ensures k last c.nodes_read-read.ensures c.some_bars.ensures.some c.some_bars.ensures.no
