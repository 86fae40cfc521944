use Rattle.std.proofs.Common.{◌∙◌, sym, subst, MatchOption}
use Rattle.tableau.specs.PoolBranches.{branch_in}
use Rattle.row_reasoning.specs.Rows.{AreDifferent, IsSetOf}
use Rattle.row_reasoning.proofs.GivenLemmas.{made_over, none_over}
use Rattle.row_reasoning.proofs.given.rows_over.Goals as goal

pub returns-then-len-given : goal.returns-then-len-given
returns-then-len-given c = λ class classing names. (
    let given = c.args.given.now in
    let set : IsSetOf given c.in-Some.classes.keys = subst (λ m. MatchOption m (AreDifferent given → ⊥) (λ s. IsSetOf given s.keys)) c.in-Some.is c.in_ok-classes.ensures in
    made_over (branch_in c.args.pool.now c.args.branch.now) class given c.in-Some.classes.keys c.in_ok-made.made set (c.in_ok-made.ensures.rows class classing names) (c.in_ok-made.ensures.spoken class classing names)
    (c.in_ok-made.ensures.origins class classing names) (sym c.len.ensures.len ∙ c.if-len-given.true))

pub returns-else-len-given : goal.returns-else-len-given
returns-else-len-given c = λ class classing names. (
    let given = c.args.given.now in
    let set : IsSetOf given c.in-Some.classes.keys = subst (λ m. MatchOption m (AreDifferent given → ⊥) (λ s. IsSetOf given s.keys)) c.in-Some.is c.in_ok-classes.ensures in
    none_over (branch_in c.args.pool.now c.args.branch.now) class given c.in-Some.classes.keys c.in_ok-made.made set (c.in_ok-made.ensures.rows class classing names) (c.in_ok-made.ensures.spoken class classing names)
    (λ long. c.if-len-given.false (c.len.ensures.len ∙ long)))
