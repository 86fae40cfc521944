use Rattle.term_pool.proofs.GrowthLemmas.{if_ok}
use Rattle.tableau.proofs.BothLemmas.{second_parts, list_parts, join_parts, both_number}
use Rattle.tableau.proofs.rules.formulas.both.Goals as goal

pub insert-requires-2 : goal.insert-requires-2
insert-requires-2 c =
    second_parts c.args.pool.now c.insert.new.self c.insert.ensures.extends c.args.left c.args.right c.in_ok-none.none c.requires.left c.requires.right c.in_ok-none.ensures.is

pub insert-requires-3 : goal.insert-requires-3
insert-requires-3 c =
    list_parts c.args.pool.now c.insert.new.self c.insert.ensures.extends c.args.left c.args.right c.in_ok-none.none c.requires.left c.requires.right c.in_ok-none.ensures.is c.insert-2.new.self c.insert-2.ensures.extends c.in_ok-second.second c.in_ok-second.ensures.is

pub insert-requires-4 : goal.insert-requires-4
insert-requires-4 c =
    join_parts c.args.pool.now c.insert.new.self c.insert.ensures.extends c.args.left c.args.right c.in_ok-none.none c.requires.left c.requires.right c.in_ok-none.ensures.is c.insert-2.new.self c.insert-2.ensures.extends c.in_ok-second.second c.in_ok-second.ensures.is c.insert-3.new.self c.insert-3.ensures.extends c.in_ok-list.list c.in_ok-list.ensures.is

pub returns-clause-is : goal.returns-clause-is
returns-clause-is c =
    if_ok c.insert-4.result (λ k made. both_number c.args.pool.now c.insert.new.self c.insert.ensures.extends c.args.left c.args.right c.in_ok-none.none c.requires.left c.requires.right c.in_ok-none.ensures.is c.insert-2.new.self c.insert-2.ensures.extends c.in_ok-second.second c.in_ok-second.ensures.is c.insert-3.new.self c.insert-3.ensures.extends c.in_ok-list.list c.in_ok-list.ensures.is c.insert-4.new.self c.insert-4.ensures.extends k made) c.insert-4.ensures.is
