use Rattle.std.proofs.Common.{sym, ◌∙◌, arith}
use Rattle.type_check.proofs.Placing.{if_ok_map, last_variables, untypable_variables}
use Rattle.type_check.proofs.clauses.arguments.last_types.Goals as goal

pub returns-in-None : goal.returns-in-None
returns-in-None c =
    if_ok_map c.types_between.result (λ found says s first typed size. untypable_variables s first c.args.count _ (c.in-None.ensures s c.args.pool.now typed) (says s typed)) c.types_between.ensures

pub returns-then-end-count : goal.returns-then-end-count
returns-then-end-count c s first typed size =
    absurd (let short = c.if-end-count.true in let same = c.in-Some.ensures s c.args.pool.now typed in omega (arith, short, same, size))

pub returns-else-end-count : goal.returns-else-end-count
returns-else-end-count c =
    if_ok_map c.types_between-else-end-count.result
    (λ found says s first typed size. last_variables s first c.args.count c.in-Some.end _ (sym (c.in-Some.ensures s c.args.pool.now typed ∙ size)) (says s typed))
    c.types_between-else-end-count.ensures
