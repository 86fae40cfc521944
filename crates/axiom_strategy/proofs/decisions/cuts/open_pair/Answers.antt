use Rattle.std.proofs.Common.{List, get_or, take, sym, subst}
use Rattle.std.proofs.lemmas.List.{take_more, take_all}
use Rattle.axiom_strategy.specs.declared.decisions.positions.Position.{Position}
use Rattle.axiom_strategy.proofs.OpenLemmas.{NoneOpenAt, positions_begun, positions_more, positions_done, position_opens, position_known, others_known}
use Rattle.axiom_strategy.proofs.decisions.cuts.open_pair.Goals as goal

abbrev no_position : Position
no_position = record { group = 0; term = 0 }

pub loop-position-init : goal.loop-position-init
loop-position-init c = positions_begun c.args.classes.now c.args.numbers.now c.args.denied.now c.args.by_group.now

pub open_with-requires-clause-left : goal.open_with-requires-clause-left
open_with-requires-clause-left c = position_known _ _ _ _ c.requires c.loop-position.position-index no_position c.loop-position-test.true

pub open_with-requires-clause-others : goal.open_with-requires-clause-others
open_with-requires-clause-others c = rw c.at-others.ensures (others_known _ _ _ _ c.requires (get_or c.args.all.now c.loop-position.position-index no_position).group)

pub returns-in-Some : goal.returns-in-Some
returns-in-Some c = position_opens c.args.classes.now c.args.numbers.now c.args.denied.now c.args.by_group.now c.args.all.now c.loop-position.position-index no_position c.in-Some.right c.loop-position-test.true (rw c.at-others.ensures at c.in-Some.ensures)

pub loop-position-preserved : goal.loop-position-preserved
loop-position-preserved c =
    let all = c.args.all.now in
    let p = get_or all c.loop-position.position-index no_position in
    subst (λ (xs : List Position). NoneOpenAt c.args.classes.now c.args.numbers.now c.args.denied.now c.args.by_group.now xs) (sym (take_more all c.loop-position.position-index no_position c.loop-position-test.true))
    (positions_more c.args.classes.now c.args.numbers.now c.args.denied.now c.args.by_group.now (take c.loop-position.position-index all) p c.loop-position.invariant (rw c.at-others.ensures at c.in_default.ensures))

pub returns : goal.returns
returns c =
    positions_done c.args.classes.now c.args.numbers.now c.args.denied.now c.args.by_group.now c.args.all.now
    (subst (λ (xs : List Position). NoneOpenAt c.args.classes.now c.args.numbers.now c.args.denied.now c.args.by_group.now xs) (take_all c.loop-position.position-index c.args.all.now c.loop-position-test.false) c.loop-position.invariant)
