use Rattle.std.proofs.Common.{sym}
use Rattle.tableau.proofs.NumberLemmas.{vec_ok}
use Rattle.ematching.proofs.SaidLemmas.{no_entry}
use Rattle.step_checks.proofs.SaidLemmas.{said_given}
use Rattle.step_checks.proofs.applications.said.is_said_at.Goals as goal

pub returns-in_default : goal.returns-in_default
returns-in_default c = no_entry c.args.pool.now c.args.branch.now c.requires c.args.i c.args.of.now c.args.term.now (sym c.in_default.ensures)

pub returns : goal.returns
returns c =
    vec_ok c.is_said_of.result (λ known h. said_given c.args.pool.now c.args.branch.now c.args.i c.in-Some.entry (sym c.in-Some.ensures) c.args.of.now c.args.term.now known h) c.is_said_of.ensures
