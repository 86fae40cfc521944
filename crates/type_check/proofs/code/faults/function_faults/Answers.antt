use Rattle.std.proofs.Common.{◌+◌, length, take, refl, sym, ◌∙◌, ap, subst, arith}
use Rattle.std.specs.Option.{option_map}
use Rattle.std.specs.Map.Iter.{deref_pair}
use Rattle.std.proofs.lemmas.Option.{slice_get_read}
use Rattle.base.specs.declared.types.FunctionId.{FunctionId}
use Rattle.program.specs.declared.declaration.Function.{Function}
use Rattle.type_check.specs.Split.{FunctionBreaks, FunctionIsOpen}
use Rattle.type_check.specs.declared.code.faults.CodeFaults.{CodeFaults}
use Rattle.type_check.proofs.CodeFirsts.{nothing_there}
use Rattle.type_check.proofs.Groups.{AreFaultsOf, all_in, next_in, none_in}
use Rattle.type_check.proofs.code.faults.function_faults.Goals as goal
use Rattle.type_check.proofs.code.faults.function_faults.Goals.{in-Some, in_default}

pub loop-number-init : goal.loop-number-init
loop-number-init c =
    let program = c.args.program.now in
    none_in (λ (d : FunctionId × Function). d.1.span) (λ d. FunctionBreaks program d.0 d.1) (λ d. FunctionIsOpen program d.0 d.1) c.no_faults-faults.result c.no_faults-faults.ensures.untyped c.no_faults-faults.ensures.unsettled

pub loop-number-preserved : goal.loop-number-preserved
loop-number-preserved c =
    let program = c.args.program.now in
    let typings = c.args.typings.now in
    let n = c.loop-number.number in
    let below = c.loop-number-test.true in
    let same = c.requires.typings.same_length in
    elim c.match-entry.branch [
      | in-Some w ↦
          let read = slice_get_read typings (length typings) n w.index-typings-number.result refl below w.index-typings-number.is in
          let is = c.requires.typings.each n _ read _ w.in-Some.function.now (sym w.in-Some.ensures) in
          subst (λ (o : CodeFaults). AreFaultsOf (λ (d : FunctionId × Function). d.1.span) (λ d. FunctionBreaks program d.0 d.1) (λ d. FunctionIsOpen program d.0 d.1) (take (n + 1) program.functions) o) (sym w.faults-is)
          (next_in (λ (d : FunctionId × Function). d.1.span) (λ d. FunctionBreaks program d.0 d.1) (λ d. FunctionIsOpen program d.0 d.1) program.functions n (_, w.in-Some.function.now)
          w.function_rules-broken.result c.loop-number.faults w.faults_at-found.result w.both-faults.result (sym w.in-Some.ensures)
          (w.function_rules-broken.ensures.untyped program _ w.in-Some.function.now is (c.requires.wrapping n _ w.in-Some.function.now (sym w.in-Some.ensures)))
          (w.function_rules-broken.ensures.unsettled program w.in-Some.function.now is)
          w.faults_at-found.ensures.untyped w.faults_at-found.ensures.unsettled c.loop-number.invariant w.both-faults.ensures)
      | in_default w ↦ absurd (nothing_there program.functions n (omega (arith, below, same)) (sym (ap (option_map deref_pair) w.in_default.is) ∙ c.entry.ensures))
    ]

pub returns : goal.returns
returns c =
    let program = c.args.program.now in
    let end = c.loop-number-test.false in
    let same = c.requires.typings.same_length in
    all_in (λ (d : FunctionId × Function). d.1.span) (λ d. FunctionBreaks program d.0 d.1) (λ d. FunctionIsOpen program d.0 d.1) program.functions c.loop-number.number c.loop-number.faults
    (omega (arith, end, same)) c.loop-number.invariant
