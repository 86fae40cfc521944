use Rattle.std.proofs.Common.{sym, ap, ◌∙◌, subst}
use Rattle.tableau.specs.PoolBranches.{branch_in}
use Rattle.tableau.specs.States.{AreMarks, last_of}
use Rattle.tableau.proofs.StateLemmas.{marks_followed}
use Rattle.tableau.proofs.state.BranchState.marks.Goals as goal

pub returns : goal.returns
returns c = λ ns d h follows. subst (AreMarks (branch_in ns d)) (sym (c.last_marks.ensures ∙ ap last_of c.as_slice.ensures.value)) (marks_followed ns d c.args.self.now h follows)
