use Rattle.std.proofs.Common.{◌+◌, Option, take, sym, ◌∙◌, ap, subst, arith}
use Rattle.std.specs.Option.{option_map}
use Rattle.std.specs.Map.Iter.{deref_pair}
use Rattle.base.specs.declared.span.Span.{Span}
use Rattle.base.specs.declared.types.StructId.{StructId}
use Rattle.program.specs.declared.declaration.Struct.{Struct}
use Rattle.program.specs.Order.{IsFirstOrNone}
use Rattle.type_check.specs.Split.{OneAt, StructBreaks}
use Rattle.type_check.proofs.CodeFirsts.{next, none_yet, nothing_there, of_all}
use Rattle.type_check.proofs.Typings.{not_so}
use Rattle.type_check.proofs.code.faults.struct_fault.Goals as goal
use Rattle.type_check.proofs.code.faults.struct_fault.Goals.{in-Some, in_default}

pub loop-number-init : goal.loop-number-init
loop-number-init c = none_yet (λ (d : StructId × Struct). d.1.span) (λ d. StructBreaks c.args.program.now d.1)

pub loop-number-preserved : goal.loop-number-preserved
loop-number-preserved c =
    let program = c.args.program.now in
    let n = c.loop-number.number in
    elim c.match-entry.branch [
      | in-Some w ↦
          subst (λ (o : Option Span). IsFirstOrNone (OneAt (λ (d : StructId × Struct). d.1.span) (λ d. StructBreaks program d.1) (take (n + 1) program.structs)) o) (sym w.found-is)
          (next (λ (d : StructId × Struct). d.1.span) (λ d. StructBreaks program d.1) program.structs n (_, w.in-Some.declaration.now) _ c.loop-number.found w.span_if-next.result w.earlier-found.result
          (sym w.in-Some.ensures) (not_so w.are_fields_proper-are.result _ w.are_fields_proper-are.ensures) w.span_if-next.ensures c.loop-number.invariant w.earlier-found.ensures)
      | in_default w ↦ absurd (nothing_there program.structs n (omega arith) (sym (ap (option_map deref_pair) w.in_default.is) ∙ c.entry.ensures))
    ]

pub returns : goal.returns
returns c = of_all (λ (d : StructId × Struct). d.1.span) (λ d. StructBreaks c.args.program.now d.1) c.args.program.now.structs c.loop-number.number c.loop-number.found (omega arith) c.loop-number.invariant
