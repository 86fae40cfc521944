use Rattle.std.proofs.Common.{sym, subst}
use Rattle.tableau.specs.PoolBranches.{branch_in}
use Rattle.search.specs.Decisions.{IsExtensionDue, IsClosingDue, ShowsStop, IsDecided}
use Rattle.search.specs.Ends.{IsGoing}
use Rattle.search.proofs.ApplicationLemmas.{fact_stays, shaped_fact_stays, going_stays, level_of, short_of}
use Rattle.search.proofs.applications.move_on.Goals as goal

pub decide-requires-clause-level : goal.decide-requires-clause-level
decide-requires-clause-level g c = level_of (g.D.Deciders.shapes c.args.deciders.now) g.sought c.args.pool.now c.args.tree.now c.args.left.now c.requires.1.1.1

pub decide-requires-clause-short : goal.decide-requires-clause-short
decide-requires-clause-short g c = short_of (g.D.Deciders.shapes c.args.deciders.now) g.sought c.args.pool.now c.args.tree.now c.args.left.now c.requires.1.1.1

pub take-requires : goal.take-requires
take-requires g c = λ κs lives. (
    let ns = c.args.pool.now in
    let ms = c.decide.new.pool in
    let t = c.args.tree.now in
    let before = g.D.Deciders.shapes c.args.deciders.now in
    let after = g.D.Deciders.shapes c.decide.new.deciders in
    let same = c.in_ok-extension.ensures.shapes in
    let going = c.requires.1.1.1 in
    let due = subst (IsDecided before ms (branch_in ns t.branch)) c.in-Grows.is c.in_ok-extension.ensures.decided in (
      lives.0,
      (
        lives.1,
        (
          subst (λ shapes. IsGoing shapes g.sought c.args.left.now ms t) (sym same) (going_stays ns ms c.decide.ensures.extends before g.sought c.args.left.now t going),
          shaped_fact_stays ns ms c.decide.ensures.extends t.branch going.tree.over before after same (λ shapes b. IsExtensionDue shapes ms b c.in-Grows.extension) due,
        ),
      ),
    ))

pub close_branch-requires : goal.close_branch-requires
close_branch-requires g c = λ κs lives. (
    let ns = c.args.pool.now in
    let ms = c.decide.new.pool in
    let t = c.args.tree.now in
    let before = g.D.Deciders.shapes c.args.deciders.now in
    let after = g.D.Deciders.shapes c.decide.new.deciders in
    let same = c.in_ok-extension.ensures.shapes in
    let going = c.requires.1.1.1 in
    let due = subst (IsDecided before ms (branch_in ns t.branch)) c.in-Closes.is c.in_ok-extension.ensures.decided in (
      lives.0,
      (
        lives.1,
        (
          subst (λ shapes. IsGoing shapes g.sought c.args.left.now ms t) (sym same) (going_stays ns ms c.decide.ensures.extends before g.sought c.args.left.now t going),
          shaped_fact_stays ns ms c.decide.ensures.extends t.branch going.tree.over before after same (λ shapes b. IsClosingDue shapes ms b c.in-Closes.closing) due,
        ),
      ),
    ))

pub returns-in-Stops-clause-shown : goal.returns-in-Stops-clause-shown
returns-in-Stops-clause-shown g c = (
    let ns = c.args.pool.now in
    let ms = c.decide.new.pool in
    let t = c.args.tree.now in
    let before = g.D.Deciders.shapes c.args.deciders.now in
    let going = c.requires.1.1.1 in
    let shown = subst (IsDecided before ms (branch_in ns t.branch)) c.in-Stops.is c.in_ok-extension.ensures.decided in
    c.end_at.ensures before g.sought c.args.left.now ms t (going_stays ns ms c.decide.ensures.extends before g.sought c.args.left.now t going) (fact_stays ns ms c.decide.ensures.extends (λ b. ShowsStop before ms b c.in-Stops.stop) t.branch going.tree.over shown))
