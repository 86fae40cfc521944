use Rattle.tree_checks.proofs.partial.timely.is_cut_timely.Goals as goal

pub returns-in-Late-clause-exact : goal.returns-in-Late-clause-exact
returns-in-Late-clause-exact c = rw c.in-Late.is c.is_late.ensures.exact
