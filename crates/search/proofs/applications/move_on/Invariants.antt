use Rattle.search.proofs.applications.move_on.Given as goal

abbrev pub ghost-take : goal.ghost-take
ghost-take g a = g.sought

abbrev pub ghost-close_branch : goal.ghost-close_branch
ghost-close_branch g a = g.sought
