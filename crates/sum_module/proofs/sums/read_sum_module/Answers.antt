use Rattle.sum_module.proofs.BuiltLemmas.{names_differ}
use Rattle.sum_module.proofs.sums.read_sum_module.Goals as goal

pub join-requires : goal.join-requires
join-requires c = names_differ c.args.source_module.now c.in_ok-built.built c.in_ok-built.ensures
