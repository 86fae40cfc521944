use Rattle.std.proofs.Common.{◌≡◌, Some, length, arith}
use Rattle.std.specs.Prelude.{slice_get}
use Rattle.program.specs.declared.declaration.Function.{Function}
use Rattle.program.specs.declared.program.Program.{Program}
use Rattle.ability_rules.specs.KnownTypes.{IsListed}
use Rattle.type_check.specs.Functions.{IsTypingOf}
use Rattle.type_check.specs.declared.code.functions.FunctionTyping.{FunctionTyping}
use Rattle.type_check.proofs.Pushed.{longer, pushed}
use Rattle.type_check.proofs.Steps.{all_known, one_known}
use Rattle.type_check.proofs.code.variables.variable_types.Goals as goal

pub loop-number-preserved : goal.loop-number-preserved
loop-number-preserved c =
    let typings = c.args.typings.now in
    let n = c.loop-number.number in
    record {
      count = longer c.loop-number.known.items c.push.new.self.items c.types_of-types.result n c.loop-number.invariant.count c.in_ok-push.ensures.items;
      each = pushed (λ k p. (t : FunctionTyping) → slice_get typings k ≡ Some t → (program : Program) (f : Function) → IsTypingOf program f t → IsListed program f p)
          c.loop-number.known.items c.push.new.self.items c.types_of-types.result n c.loop-number.invariant.count c.in_ok-push.ensures.items c.loop-number.invariant.each
          (λ t at. one_known typings n c.index-typings-number.result t c.loop-number-test.true c.index-typings-number.is at
          (λ (x : FunctionTyping). (program : Program) (f : Function) → IsTypingOf program f x → IsListed program f c.types_of-types.result) c.types_of-types.ensures);
    }

pub returns : goal.returns
returns c =
    let long : length c.loop-number.known.items ≡ length c.args.typings.now = omega arith in
    λ program are. all_known program c.args.typings.now c.loop-number.known.items are long c.loop-number.invariant.each
