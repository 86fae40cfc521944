use Rattle.std.proofs.Common.{◌≡◌, ◌++◌, take}
use Rattle.axiom_instances.proofs.ListLemmas.{triggered_rows}
use Rattle.axiom_instances.proofs.triggered.ask.Given as goal

abbrev pub invariant-loop-row : goal.invariant-loop-row
invariant-loop-row l =
    l.list.items.items ≡ l.initial.list.items.items ++ triggered_rows l.terms l.numbers.items (take l.row-index l.rows)
