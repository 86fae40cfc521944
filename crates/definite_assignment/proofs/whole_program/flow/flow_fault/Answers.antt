use Rattle.std.proofs.Common.{◌+◌, Option, length, take, refl, sym, ◌∙◌, ap, subst, arith}
use Rattle.std.specs.Option.{option_map}
use Rattle.std.specs.Map.Iter.{deref_pair}
use Rattle.std.proofs.lemmas.Option.{slice_get_read}
use Rattle.base.specs.declared.span.Span.{Span}
use Rattle.typing_rules.specs.Events.{Unassigned, Undropped}
use Rattle.program.specs.Order.{IsFirstOrNone}
use Rattle.definite_assignment.specs.declared.whole_program.flow.FlowFault.{FlowFault}
use Rattle.definite_assignment.specs.Flow.{BreaksAmong, FlowSays}
use Rattle.definite_assignment.proofs.Firsts.{nothing_there}
use Rattle.definite_assignment.proofs.Steps.{all_functions, next_function, no_function, says}
use Rattle.definite_assignment.proofs.whole_program.flow.flow_fault.Goals as goal
use Rattle.definite_assignment.proofs.whole_program.flow.flow_fault.Goals.{in-Some+in_ok-broken, in_default}

pub function_rules-requires : goal.function_rules-requires
function_rules-requires c =
    let n = c.loop-number.number in
    let known = c.args.known.now in
    let at = slice_get_read known (length known) n c.index-known-number.result refl c.loop-number-test.true c.index-known-number.is in
    c.requires.each n _ at _ c.in-Some.function.now (sym c.in-Some.ensures)

pub loop-number-init : goal.loop-number-init
loop-number-init c = record {
  unassigned = no_function c.args.program.now Unassigned;
  undropped = no_function c.args.program.now Undropped;
}

pub loop-number-preserved : goal.loop-number-preserved
loop-number-preserved c =
    let program = c.args.program.now in
    let n = c.loop-number.number in
    let below = c.loop-number-test.true in
    let same = c.requires.same_length in
    elim c.match-entry.branch [
      | in-Some+in_ok-broken w ↦ record {
        unassigned = subst (λ (o : Option Span). IsFirstOrNone (BreaksAmong program Unassigned (take (n + 1) program.functions)) o) (sym w.unassigned-is)
            (next_function program Unassigned n _ w.in-Some.function.now w.in_ok-broken.broken.unassigned c.loop-number.unassigned w.span_if-used.result w.earlier-unassigned.result
            (sym w.in-Some.ensures) w.in_ok-broken.ensures.unassigned w.span_if-used.ensures c.loop-number.invariant.unassigned w.earlier-unassigned.ensures);
        undropped = subst (λ (o : Option Span). IsFirstOrNone (BreaksAmong program Undropped (take (n + 1) program.functions)) o) (sym w.undropped-is)
            (next_function program Undropped n _ w.in-Some.function.now w.in_ok-broken.broken.undropped c.loop-number.undropped w.span_if-left.result w.earlier-undropped.result
            (sym w.in-Some.ensures) w.in_ok-broken.ensures.undropped w.span_if-left.ensures c.loop-number.invariant.undropped w.earlier-undropped.ensures);
      }
      | in_default w ↦ absurd (nothing_there program.functions n (omega (arith, below, same)) (sym (ap (option_map deref_pair) w.in_default.is) ∙ c.entry.ensures))
    ]

pub returns : goal.returns
returns c =
    let program = c.args.program.now in
    let end = c.loop-number-test.false in
    let same = c.requires.same_length in
    subst (λ (o : Option FlowFault). FlowSays program o) (sym c.first_fault.ensures)
    (says program c.loop-number.unassigned c.loop-number.undropped
    (all_functions program Unassigned c.loop-number.number c.loop-number.unassigned (omega (arith, end, same)) c.loop-number.invariant.unassigned)
    (all_functions program Undropped c.loop-number.number c.loop-number.undropped (omega (arith, end, same)) c.loop-number.invariant.undropped))
