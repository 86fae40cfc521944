use Rattle.std.proofs.Common.{◌≡◌, ◌++◌, ap, subst, ◌∙◌}
use Rattle.sum_module.specs.SumSpecData.{SumSpecData}
use Rattle.sum_module.specs.Joined.{clauses_of_spec}
use Rattle.sum_module.specs.ClauseTable.{clauses_at, entry_at}
use Rattle.sum_module.proofs.ClauseTableLemmas.{spec_writes}
use Rattle.sum_module.proofs.join.add_spec.Goals as goal

pub returns : goal.returns
returns c = λ name.
    let s : SumSpecData = record { target = c.spec.inside.target; clauses = c.spec.inside.clauses.items } in
    subst (λ (x : SumSpecData). clauses_at c.insert.new.self name ≡ clauses_at c.args.table.now name ++ clauses_of_spec name x) c.spec.view_is
    (spec_writes s name c.add.new.self (entry_at c.args.table.now) (entry_at c.take_clauses-clauses.new.table) (entry_at c.insert.new.self) (c.take_clauses-clauses.ensures.left name) (c.in_ok-insert.ensures.updates.0 name)
    (c.in_ok-add.ensures ∙ ap (λ cs. cs ++ s.clauses) c.take_clauses-clauses.ensures.taken))
