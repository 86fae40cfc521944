use Rattle.std.proofs.Common.{◌≡◌, Some, length, sym, ◌∙◌, ap, arith}
use Rattle.std.specs.Global.{Vec}
use Rattle.std.specs.Prelude.{slice_get}
use Rattle.std.specs.Option.{option_map}
use Rattle.std.specs.Map.Iter.{deref_pair}
use Rattle.base.specs.declared.types.FunctionId.{FunctionId}
use Rattle.program.specs.declared.declaration.Function.{Function}
use Rattle.type_check.specs.Functions.{IsTypingOf}
use Rattle.type_check.specs.declared.code.functions.FunctionTyping.{FunctionTyping}
use Rattle.type_check.proofs.CodeFirsts.{nothing_there}
use Rattle.type_check.proofs.Pushed.{longer, pushed}
use Rattle.type_check.proofs.Steps.{same_function}
use Rattle.type_check.proofs.code.functions.type_functions.Goals as goal
use Rattle.type_check.proofs.code.functions.type_functions.Goals.{in-Some+in_ok-typing+in_ok-push, in_default}

pub loop-number-preserved : goal.loop-number-preserved
loop-number-preserved c =
    let program = c.args.program.now in
    let n = c.loop-number.number in
    elim c.match-entry.branch [
      | in-Some+in_ok-typing+in_ok-push w ↦ record {
        count = longer c.loop-number.typings.items c.match-entry.typings.items w.in_ok-typing.typing n c.loop-number.invariant.count (ap (λ (ts : Vec FunctionTyping). ts.items) w.typings-is ∙ w.in_ok-push.ensures.items);
        each = pushed (λ k t. (id : FunctionId) (f : Function) → slice_get program.functions k ≡ Some (id, f) → IsTypingOf program f t)
            c.loop-number.typings.items c.match-entry.typings.items w.in_ok-typing.typing n c.loop-number.invariant.count (ap (λ (ts : Vec FunctionTyping). ts.items) w.typings-is ∙ w.in_ok-push.ensures.items) c.loop-number.invariant.each
            (λ id f at. same_function program n _ w.in-Some.function.now id f (sym w.in-Some.ensures) at (λ (g : Function). IsTypingOf program g w.in_ok-typing.typing) w.in_ok-typing.ensures);
      }
      | in_default w ↦ absurd (nothing_there program.functions n (omega arith) (sym (ap (option_map deref_pair) w.in_default.is) ∙ c.entry.ensures))
    ]

pub returns : goal.returns
returns c =
    let long : length c.loop-number.typings.items ≡ length c.args.program.now.functions = omega arith in
    record { same_length = long; each = c.loop-number.invariant.each }
