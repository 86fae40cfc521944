use Rattle.std.proofs.Common.{refl, subst}
use Rattle.std.specs.Prelude.{MatchOption}
use Rattle.tableau.specs.PoolBranches.{branch_in}
use Rattle.tableau.specs.Names.{NoName, IsNameStep}
use Rattle.strategy.proofs.MarkLemmas.{names_past, names_first, named_early, still_follows, state_varied}
use Rattle.strategy.proofs.early.name_due.Goals as goal

pub returns-in_default-clause-state : goal.returns-in_default-clause-state
returns-in_default-clause-state c =
    let ns = c.args.pool.now in
    let ms = c.next_name.new.pool in
    let d = c.args.branch.now in
    let b = branch_in ms d in
    let grown = c.next_name.ensures.extends in
    let none = subst (λ o. MatchOption o (NoName b) (IsNameStep ms b)) c.in_default.is c.in_ok-step.ensures.due in
    c.set_marks.ensures.state ms d (state_varied d c.args.state.now _ refl ns ms grown refl refl refl c.requires.state c.requires.follows c.in_ok-step.ensures.above) (still_follows d c.args.state.now _ refl c.requires.follows) (names_past ns ms grown d c.requires.over c.marks-marks.result (c.marks-marks.ensures ns d c.requires.state c.requires.follows) c.len.result c.len.ensures none)

pub returns-in_default-clause-follows : goal.returns-in_default-clause-follows
returns-in_default-clause-follows c = c.set_marks.ensures.follows c.args.branch.now (still_follows c.args.branch.now c.args.state.now _ refl c.requires.follows)

pub name_application-requires : goal.name_application-requires
name_application-requires c =
    let ms = c.next_name.new.pool in
    let b = branch_in ms c.args.branch.now in
    named_early c.args.pool.now ms c.next_name.ensures.extends c.args.branch.now c.requires.over c.requires.room c.in-Some.step (subst (λ o. MatchOption o (NoName b) (IsNameStep ms b)) c.in-Some.is c.in_ok-step.ensures.due)

pub returns-clause-state : goal.returns-clause-state
returns-clause-state c =
    let ns = c.args.pool.now in
    let ms = c.next_name.new.pool in
    let d = c.args.branch.now in
    let b = branch_in ms d in
    let grown = c.next_name.ensures.extends in
    let first = subst (λ o. MatchOption o (NoName b) (IsNameStep ms b)) c.in-Some.is c.in_ok-step.ensures.due in
    c.set_marks-2.ensures.state ms d (state_varied d c.args.state.now _ refl ns ms grown refl refl refl c.requires.state c.requires.follows c.in_ok-step.ensures.above) (still_follows d c.args.state.now _ refl c.requires.follows) (names_first ns ms grown d c.requires.over c.marks-marks.result (c.marks-marks.ensures ns d c.requires.state c.requires.follows) c.in-Some.step first)

pub returns-clause-follows : goal.returns-clause-follows
returns-clause-follows c = c.set_marks-2.ensures.follows c.args.branch.now (still_follows c.args.branch.now c.args.state.now _ refl c.requires.follows)
