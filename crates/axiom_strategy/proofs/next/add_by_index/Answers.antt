use Rattle.axiom_strategy.proofs.next.add_by_index.Goals as goal

pub returns : goal.returns
returns c = record { between = c.add_by_reads.new.askers.items; first = c.in_ok-add_by_reads.ensures; second = c.in_ok-add_by_items.ensures }
