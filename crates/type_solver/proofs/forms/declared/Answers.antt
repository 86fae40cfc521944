use Rattle.type_solver.proofs.forms.declared.Goals as goal

pub returns-clause-said : goal.returns-clause-said
returns-clause-said c = record {
  grows = c.in_ok-instance.ensures.grows;
  within = c.in_ok-instance.ensures.within;
  is = c.in_ok-instance.ensures.is;
}
