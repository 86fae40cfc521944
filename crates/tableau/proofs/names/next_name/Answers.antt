use Rattle.std.proofs.Common.{◌<◌, ◌^◌, sym, ◌∙◌, subst}
use Rattle.tableau.proofs.VariablesLemmas.{above_grown}
use Rattle.tableau.proofs.UnnamedLemmas.{name_step}
use Rattle.tableau.proofs.names.next_name.Goals as goal

pub returns-clause-above : goal.returns-clause-above
returns-clause-above c = above_grown c.args.pool.now c.named.new.pool c.named.ensures.extends c.args.branch.now c.requires.over c.above_all.new.self c.in_ok-above.ensures.above

pub returns-clause-due : goal.returns-clause-due
returns-clause-due c =
    name_step c.args.pool.now c.named.new.pool c.named.ensures.extends c.args.branch.now c.requires.over c.in-Ok.variable (c.in-Ok.ensures.1 ∙ c.in_ok-above.ensures.is) (subst (λ n. n < 2 ^ 32) (sym c.in-Ok.ensures.1) c.in-Ok.ensures.0) c.in-Some.found c.in-Some.ensures c.in_ok-formula.formula c.in_ok-formula.ensures.is
