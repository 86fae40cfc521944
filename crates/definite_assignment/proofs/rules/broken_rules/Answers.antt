use Rattle.typing_rules.specs.Events.{Unassigned, Undropped}
use Rattle.typing_rules.specs.LocalRules.{BodyFacts}
use Rattle.definite_assignment.specs.Verdicts.{IsWrong}
use Rattle.definite_assignment.proofs.VerdictLaws.{groups_more}
use Rattle.definite_assignment.proofs.rules.broken_rules.Goals as goal

pub loop-group-preserved : goal.loop-group-preserved
loop-group-preserved c =
    let body : BodyFacts = record { types = c.args.types.now; parameters = c.args.parameters; nodes = c.args.body.now.nodes } in
    let before = c.loop-group.broken in
    let own = c.in_ok-own.own in
    record {
      unassigned = groups_more (IsWrong Unassigned body) before.unassigned own.unassigned _ c.loop-group.group c.or-broken.ensures.unassigned c.loop-group.invariant.unassigned c.in_ok-own.ensures.unassigned;
      undropped = groups_more (IsWrong Undropped body) before.undropped own.undropped _ c.loop-group.group c.or-broken.ensures.undropped c.loop-group.invariant.undropped c.in_ok-own.ensures.undropped;
    }
