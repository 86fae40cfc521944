use Rattle.std.proofs.Common.{arith}
use Rattle.typing_rules.specs.CodeSystems.{function_system}
use Rattle.body_types.proofs.Steps.{first_below, last_of}
use Rattle.body_types.proofs.barred_uses.known.last_below.Goals as goal

pub loop-high-init : goal.loop-high-init
loop-high-init c = record {
  between = first_below (function_system c.args.program.now c.args.function.now) c.args.all c.requires.some c.requires.none;
  some = c.requires.some;
  none = c.requires.none;
}

pub returns : goal.returns
returns c = last_of (function_system c.args.program.now c.args.function.now) c.loop-high.low c.loop-high.high
    (omega (arith, c.loop-high.invariant.between, c.loop-high-test.false)) c.loop-high.invariant.some c.loop-high.invariant.none
