use Rattle.std.proofs.Common.{◌≡◌, Some, length, arith}
use Rattle.std.specs.Prelude.{slice_get}
use Rattle.std.proofs.lemmas.Option.{MatchOption-at_none}
use Rattle.program.specs.declared.declaration.Function.{Function}
use Rattle.program.specs.declared.program.Program.{Program}
use Rattle.definite_assignment.specs.KnownState.{IsTypedBy}
use Rattle.type_check.specs.Functions.{IsTypingOf}
use Rattle.type_check.specs.Typed.{IsUntyped}
use Rattle.type_check.specs.declared.code.functions.FunctionTyping.{FunctionTyping}
use Rattle.type_check.proofs.Pushed.{longer, pushed}
use Rattle.type_check.proofs.Steps.{all_typed, one_known, untyped_at}
use Rattle.type_check.proofs.code.typed.function_types.Goals as goal

pub loop-number-preserved : goal.loop-number-preserved
loop-number-preserved c =
    let typings = c.args.typings.now in
    let n = c.loop-number.number in
    record {
      count = longer c.loop-number.known.items c.push.new.self.items c.in-Some.types n c.loop-number.invariant.count c.in_ok-push.ensures.items;
      each = pushed (λ k p. (t : FunctionTyping) → slice_get typings k ≡ Some t → (program : Program) (f : Function) → IsTypingOf program f t → IsTypedBy program f p)
          c.loop-number.known.items c.push.new.self.items c.in-Some.types n c.loop-number.invariant.count c.in_ok-push.ensures.items c.loop-number.invariant.each
          (λ t at. one_known typings n c.index-typings-number.result t c.loop-number-test.true c.index-typings-number.is at
          (λ (x : FunctionTyping). (program : Program) (f : Function) → IsTypingOf program f x → IsTypedBy program f c.in-Some.types) c.in-Some.ensures);
    }

pub returns-in_default : goal.returns-in_default
returns-in_default c = λ program are.
    untyped_at program c.args.typings.now c.loop-number.number c.index-typings-number.result are c.loop-number-test.true c.index-typings-number.is
    (λ of f is. MatchOption-at_none (IsUntyped of f) (IsTypedBy of f) c.in_default.is (c.types_of.ensures of f is))

pub returns : goal.returns
returns c =
    let long : length c.loop-number.known.items ≡ length c.args.typings.now = omega arith in
    λ program are. all_typed program c.args.typings.now c.loop-number.known.items are long c.loop-number.invariant.each
