use Rattle.std.proofs.Common.{take}
use Rattle.base.specs.declared.types.FunctionId.{FunctionId}
use Rattle.program.specs.declared.declaration.SpecFunction.{SpecFunction}
use Rattle.program.specs.Order.{IsFirstOrNone}
use Rattle.type_check.specs.declared.clauses.judged.ClauseRule.TheVariants.{Typing, Settling}
use Rattle.type_check.specs.SpecFaults.{SpecFunctionBreaks}
use Rattle.type_check.proofs.SpecFirsts.{Among}
use Rattle.type_check.proofs.spec.functions.first_functions.Given as goal

abbrev pub invariant-loop-number : goal.invariant-loop-number
invariant-loop-number l = record {
  untyped : IsFirstOrNone (Among (λ (d : FunctionId × SpecFunction). d.1.span) (λ d. SpecFunctionBreaks l.program Typing d.1) (take l.number l.program.spec_functions)) l.untyped;
  unsettled : IsFirstOrNone (Among (λ (d : FunctionId × SpecFunction). d.1.span) (λ d. SpecFunctionBreaks l.program Settling d.1) (take l.number l.program.spec_functions)) l.unsettled;
}
