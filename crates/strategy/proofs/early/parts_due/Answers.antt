use Rattle.std.proofs.Common.{subst}
use Rattle.std.specs.Prelude.{MatchOption}
use Rattle.tableau.specs.PoolBranches.{branch_in}
use Rattle.tableau.specs.Steps.{NoParts, IsPartsStep}
use Rattle.tableau.proofs.StateLemmas.{state_stays}
use Rattle.strategy.proofs.MarkLemmas.{parts_past, parts_first}
use Rattle.strategy.proofs.early.parts_due.Goals as goal

pub returns-in_default-clause-state : goal.returns-in_default-clause-state
returns-in_default-clause-state c =
    let ns = c.args.pool.now in
    let ms = c.next_parts.new.pool in
    let d = c.args.branch.now in
    let b = branch_in ms d in
    let grown = c.next_parts.ensures.extends in
    let none = subst (λ o. MatchOption o (NoParts b) (IsPartsStep ms b)) c.in_default.is c.in_ok-step.ensures.due in
    c.set_marks.ensures.state ms d (state_stays ns ms grown c.args.state.now c.requires.state) c.requires.follows (parts_past ns ms grown d c.requires.over c.marks-marks.result (c.marks-marks.ensures ns d c.requires.state c.requires.follows) c.len.result c.len.ensures none)

pub returns-in_default-clause-follows : goal.returns-in_default-clause-follows
returns-in_default-clause-follows c = c.set_marks.ensures.follows c.args.branch.now c.requires.follows

pub returns-clause-state : goal.returns-clause-state
returns-clause-state c =
    let ns = c.args.pool.now in
    let ms = c.next_parts.new.pool in
    let d = c.args.branch.now in
    let b = branch_in ms d in
    let grown = c.next_parts.ensures.extends in
    let first = subst (λ o. MatchOption o (NoParts b) (IsPartsStep ms b)) c.in-Some.is c.in_ok-step.ensures.due in
    c.set_marks-2.ensures.state ms d (state_stays ns ms grown c.args.state.now c.requires.state) c.requires.follows (parts_first ns ms grown d c.requires.over c.marks-marks.result (c.marks-marks.ensures ns d c.requires.state c.requires.follows) c.in-Some.step first)

pub returns-clause-follows : goal.returns-clause-follows
returns-clause-follows c = c.set_marks-2.ensures.follows c.args.branch.now c.requires.follows
