use Rattle.std.proofs.Common.{Option, Some, subst}
use Rattle.typing_rules.specs.Events.{Unassigned, Undropped}
use Rattle.definite_assignment.specs.Flow.{FlowSays}
use Rattle.definite_assignment.specs.declared.whole_program.flow.FlowFault.{FlowFault}
use Rattle.type_check.proofs.typing.check_locals.Goals as goal

pub returns-in-None : goal.returns-in-None
returns-in-None c =
    let says = subst (λ (o : Option FlowFault). FlowSays c.args.program.now o) c.in-None.is c.in_ok-flow_fault.ensures in
    record {
      typed = c.requires.typed;
      assigned = says Unassigned;
      dropped = says Undropped;
    }

pub returns-in-Some-Undropped : goal.returns-in-Some-Undropped
returns-in-Some-Undropped c =
    let some = subst (λ (o : Option FlowFault). FlowSays c.args.program.now o) c.in-Some-Undropped.is c.in_ok-flow_fault.ensures in
    let says = subst (λ (fault : FlowFault). FlowSays c.args.program.now (Some fault)) c.in-Some-Undropped.field-0-is some in
    (c.requires.typed, says.0, says.1)
