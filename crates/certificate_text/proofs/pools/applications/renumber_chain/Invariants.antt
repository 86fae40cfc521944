use Rattle.std.proofs.Common.{◌≡◌, ◌++◌, map, take, drop}
use Rattle.certificate_text.specs.Applications.{step_anew}
use Rattle.certificate_text.proofs.pools.applications.renumber_chain.Given as goal

abbrev pub invariant-loop-step : goal.invariant-loop-step
invariant-loop-step l = l.chain ≡ map (step_anew l.numbers) (take l.step-index l.fn.chain) ++ drop l.step-index l.fn.chain
