use Rattle.std.proofs.Common.{◌↔◌, IsTrue, refl, sym, subst}
use Rattle.certificates.specs.Inside.{StandsInside}
use Rattle.tableau.specs.PoolBranches.{branch_in}
use Rattle.explanations.specs.Chains.{term_at}
use Rattle.step_checks.proofs.MarkLemmas.{known_inside, marks_tell, read_mark}
use Rattle.step_checks.proofs.closings.inside.InsideMarks.stands.Goals as goal

pub returns-in-Some-clause-exact : goal.returns-in-Some-clause-exact
returns-in-Some-clause-exact c = (
  λ t. known_inside (branch_in c.args.pool.now c.args.branch.now) (term_at c.args.pool.now c.args.term) c.in-Some.field-0 c.in-Some.ensures,
  λ s. refl,
)

pub returns-clause-exact : goal.returns-clause-exact
returns-clause-exact c =
    let ns = c.args.pool.now in
    let known = marks_tell ns c.args.branch.now c.requires.over c.one_number.ensures c.args.term c.requires.term c.make.new.marks.items c.in_ok-make.ensures.swept in
    subst (λ v. IsTrue v ↔ StandsInside (branch_in ns c.args.branch.now) (term_at ns c.args.term)) (sym (read_mark ns c.args.branch.now c.make.new.marks.items c.in_ok-make.ensures.swept c.args.term c.index.result.now c.requires.term.within c.index.ensures)) known
