use Rattle.std.proofs.Common.{◌+◌, ◌<◌, ◌≤◌, Option, length, take, sym, ◌∙◌, ap, subst, arith}
use Rattle.std.specs.Option.{option_map}
use Rattle.std.specs.Map.Iter.{deref_pair}
use Rattle.base.specs.declared.span.Span.{Span}
use Rattle.base.specs.declared.types.FunctionId.{FunctionId}
use Rattle.program.specs.declared.declaration.SpecFunction.{SpecFunction}
use Rattle.program.specs.Order.{IsFirstOrNone}
use Rattle.type_check.specs.declared.clauses.judged.ClauseRule.TheVariants.{Typing, Settling}
use Rattle.type_check.specs.SpecFaults.{SpecFunctionBreaks}
use Rattle.type_check.proofs.SpecFirsts.{Among, next, none_yet, nothing_there, of_all}
use Rattle.type_check.proofs.RootLaws.{functions_break}
use Rattle.type_check.proofs.spec.functions.first_functions.Goals as goal
use Rattle.type_check.proofs.spec.functions.first_functions.Goals.{in-Some+in_ok-judged, in_default}

pub loop-number-init : goal.loop-number-init
loop-number-init c = record {
  untyped = none_yet (λ (d : FunctionId × SpecFunction). d.1.span) (λ d. SpecFunctionBreaks c.args.program.now Typing d.1);
  unsettled = none_yet (λ (d : FunctionId × SpecFunction). d.1.span) (λ d. SpecFunctionBreaks c.args.program.now Settling d.1);
}

pub loop-number-preserved : goal.loop-number-preserved
loop-number-preserved c =
    let program = c.args.program.now in
    let functions = program.spec_functions in
    let n = c.loop-number.number in
    let below : n < length functions = (let t = c.loop-number-test.true in let is = c.len-number-end.ensures in omega (arith, t, is)) in
    elim c.match-entry.branch [
      | in-Some+in_ok-judged w ↦ record {
        untyped = subst (λ (o : Option Span). IsFirstOrNone (Among (λ (d : FunctionId × SpecFunction). d.1.span) (λ d. SpecFunctionBreaks program Typing d.1) (take (n + 1) functions)) o) (sym w.untyped-is)
            (next (λ (d : FunctionId × SpecFunction). d.1.span) (λ d. SpecFunctionBreaks program Typing d.1) functions n _ w.in_ok-judged.judged.is_untyped c.loop-number.untyped w.span_if-without.result
            w.earlier-untyped.result (sym w.in-Some.ensures) w.in_ok-judged.ensures.untyped w.span_if-without.ensures c.loop-number.invariant.untyped w.earlier-untyped.ensures);
        unsettled = subst (λ (o : Option Span). IsFirstOrNone (Among (λ (d : FunctionId × SpecFunction). d.1.span) (λ d. SpecFunctionBreaks program Settling d.1) (take (n + 1) functions)) o) (sym w.unsettled-is)
            (next (λ (d : FunctionId × SpecFunction). d.1.span) (λ d. SpecFunctionBreaks program Settling d.1) functions n _ w.in_ok-judged.judged.is_unsettled c.loop-number.unsettled w.span_if-open.result
            w.earlier-unsettled.result (sym w.in-Some.ensures) w.in_ok-judged.ensures.unsettled w.span_if-open.ensures c.loop-number.invariant.unsettled w.earlier-unsettled.ensures);
      }
      | in_default w ↦ absurd (nothing_there functions n below (sym (ap (option_map deref_pair) w.in_default.is) ∙ c.entry.ensures))
    ]

pub returns-clause-untyped : goal.returns-clause-untyped
returns-clause-untyped c =
    let past : length c.args.program.now.spec_functions ≤ c.loop-number.number = (let t = c.loop-number-test.false in let is = c.len-number-end.ensures in omega (arith, t, is)) in
    functions_break c.args.program.now Typing c.loop-number.untyped
    (of_all (λ (d : FunctionId × SpecFunction). d.1.span) (λ d. SpecFunctionBreaks c.args.program.now Typing d.1) c.args.program.now.spec_functions c.loop-number.number c.loop-number.untyped past c.loop-number.invariant.untyped)

pub returns-clause-unsettled : goal.returns-clause-unsettled
returns-clause-unsettled c =
    let past : length c.args.program.now.spec_functions ≤ c.loop-number.number = (let t = c.loop-number-test.false in let is = c.len-number-end.ensures in omega (arith, t, is)) in
    functions_break c.args.program.now Settling c.loop-number.unsettled
    (of_all (λ (d : FunctionId × SpecFunction). d.1.span) (λ d. SpecFunctionBreaks c.args.program.now Settling d.1) c.args.program.now.spec_functions c.loop-number.number c.loop-number.unsettled past c.loop-number.invariant.unsettled)
