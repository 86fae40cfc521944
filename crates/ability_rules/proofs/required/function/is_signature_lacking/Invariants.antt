use Rattle.std.proofs.Common.{take}
use Rattle.ability_rules.proofs.Signatures.{AreMet}
use Rattle.ability_rules.proofs.required.function.is_signature_lacking.Given as goal

abbrev pub invariant-loop-parameter : goal.invariant-loop-parameter
invariant-loop-parameter l = AreMet l.program l.function (take l.parameter-index l.function.parameters)
