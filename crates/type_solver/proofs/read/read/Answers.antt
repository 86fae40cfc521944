use Rattle.type_solver.proofs.read.read.Goals as goal

pub returns-clause-said : goal.returns-clause-said
returns-clause-said c = record {
  grows = c.in_ok-read_term.ensures.grows;
  within = c.in_ok-read_term.ensures.within;
  is = c.in_ok-read_term.ensures.is;
}
