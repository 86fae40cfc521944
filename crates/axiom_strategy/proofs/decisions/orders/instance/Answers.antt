use Rattle.std.proofs.Common.{arith}
use Rattle.tableau.specs.Terms.{term_at}
use Rattle.axiom_strategy.specs.Orders.{order_row}
use Rattle.axiom_strategy.proofs.OrderLemmas.{triggered_item, one_added, one_long, instance_number}
use Rattle.axiom_strategy.proofs.decisions.orders.instance.Goals as goal

pub ask_order-requires-clause-left : goal.ask_order-requires-clause-left
ask_order-requires-clause-left c = triggered_item c.args.pool.now c.args.left c.requires.left

pub ask_order-requires-clause-right : goal.ask_order-requires-clause-right
ask_order-requires-clause-right c = triggered_item c.args.pool.now c.args.right c.requires.right

pub index-requires : goal.index-requires
index-requires c =
    let row = order_row (term_at c.args.pool.now c.args.left) (term_at c.args.pool.now c.args.right) in
    let long = one_long c.ask_order.new.pool c.ask_order.new.list.items.items row (one_added c.args.pool.now c.ask_order.new.pool _ c.ask_order.new.list.items.items row c.new.ensures.items c.in_ok-ask_order.ensures.adds) in
    let is = c.ask_order.new.list.items.ok.0 in
    omega (arith, long, is)

pub returns-clause-is : goal.returns-clause-is
returns-clause-is c =
    let t = term_at c.args.pool.now c.args.left in
    let u = term_at c.args.pool.now c.args.right in
    instance_number c.ask_order.new.pool c.ask_order.new.list.items.items t u c.index.result.now (one_added c.args.pool.now c.ask_order.new.pool _ c.ask_order.new.list.items.items (order_row t u) c.new.ensures.items c.in_ok-ask_order.ensures.adds) c.index.ensures
