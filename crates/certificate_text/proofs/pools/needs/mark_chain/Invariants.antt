use Rattle.std.proofs.Common.{take}
use Rattle.std.specs.List.{flat_map}
use Rattle.certificate_text.specs.Marks.{MarksAlso}
use Rattle.certificate_text.specs.Names.{named_by_step}
use Rattle.certificate_text.proofs.pools.needs.mark_chain.Given as goal

abbrev pub invariant-loop-step : goal.invariant-loop-step
invariant-loop-step l = MarksAlso l.fn.marks l.marks (flat_map named_by_step (take l.step-index l.chain))
