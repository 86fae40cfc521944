use Rattle.std.proofs.Common.{cond, None, ap, ◌∙◌}
use Rattle.std.specs.Vec.Iter.{into_iter_items}
use Rattle.base.specs.Names.{same_name}
use Rattle.sum_tree.specs.SumFunctionData.{SumFunctionData}
use Rattle.sum_module.specs.ClauseTable.{clauses_at, entry_at}
use Rattle.sum_module.proofs.ClauseTableLemmas.{serves_more}
use Rattle.sum_module.proofs.join.specify_each.Goals as goal

pub loop-function-preserved : goal.loop-function-preserved
loop-function-preserved c =
    let name = ap (λ (f : SumFunctionData). f.name) c.function.view_is in
    serves_more c.in-Some.function (into_iter_items c.next.new.self) (record { function = c.in-Some.function; clauses = c.into_vec-clauses.result.items }) c.requires c.loop-function.invariant c.in-Some.ensures.steps.0
    (ap (λ cs. record { function = c.in-Some.function; clauses = cs }) (c.into_vec-clauses.ensures ∙ c.take_clauses.ensures.taken ∙ ap (clauses_at c.loop-function.left) name))
    (λ q. c.take_clauses.ensures.left q ∙ ap (λ n. cond (same_name n q) None (entry_at c.loop-function.left q)) name) c.in_ok-push.ensures.items
