use Rattle.std.proofs.Common.{◌+◌, Option, length, take, refl, sym, ◌∙◌, ap, subst, arith}
use Rattle.std.specs.Option.{option_map}
use Rattle.std.specs.Map.Iter.{deref_pair}
use Rattle.std.proofs.lemmas.Option.{slice_get_read}
use Rattle.base.specs.declared.span.Span.{Span}
use Rattle.base.specs.declared.types.FunctionId.{FunctionId}
use Rattle.program.specs.declared.declaration.Function.{Function}
use Rattle.program.specs.Order.{IsFirstOrNone}
use Rattle.typing_rules.specs.Required.{FunctionLacksAbility}
use Rattle.type_check.specs.Split.{OneAt}
use Rattle.type_check.proofs.CodeFirsts.{next, none_yet, nothing_there, of_all}
use Rattle.type_check.proofs.code.typed.function_fault.Goals as goal
use Rattle.type_check.proofs.code.typed.function_fault.Goals.{in-Some+in_ok-lacks, in_default}

pub lacks_ability-requires : goal.lacks_ability-requires
lacks_ability-requires c =
    let n = c.loop-number.number in
    let known = c.args.known.now in
    let at = slice_get_read known (length known) n c.index-known-number.result refl c.loop-number-test.true c.index-known-number.is in
    c.requires.each n _ at _ c.in-Some.function.now (sym c.in-Some.ensures)

pub loop-number-init : goal.loop-number-init
loop-number-init c = none_yet (λ (d : FunctionId × Function). d.1.span) (λ d. FunctionLacksAbility c.args.program.now d.1)

pub loop-number-preserved : goal.loop-number-preserved
loop-number-preserved c =
    let program = c.args.program.now in
    let n = c.loop-number.number in
    let below = c.loop-number-test.true in
    let same = c.requires.same_length in
    elim c.match-entry.branch [
      | in-Some+in_ok-lacks w ↦
          subst (λ (o : Option Span). IsFirstOrNone (OneAt (λ (d : FunctionId × Function). d.1.span) (λ d. FunctionLacksAbility program d.1) (take (n + 1) program.functions)) o) (sym w.found-is)
          (next (λ (d : FunctionId × Function). d.1.span) (λ d. FunctionLacksAbility program d.1) program.functions n (_, w.in-Some.function.now) w.in_ok-lacks.lacks c.loop-number.found w.span_if-next.result w.earlier-found.result
          (sym w.in-Some.ensures) w.in_ok-lacks.ensures w.span_if-next.ensures c.loop-number.invariant w.earlier-found.ensures)
      | in_default w ↦ absurd (nothing_there program.functions n (omega (arith, below, same)) (sym (ap (option_map deref_pair) w.in_default.is) ∙ c.entry.ensures))
    ]

pub returns : goal.returns
returns c =
    let end = c.loop-number-test.false in
    let same = c.requires.same_length in
    of_all (λ (d : FunctionId × Function). d.1.span) (λ d. FunctionLacksAbility c.args.program.now d.1) c.args.program.now.functions c.loop-number.number c.loop-number.found
    (omega (arith, end, same)) c.loop-number.invariant
