use Rattle.std.proofs.Common.{take}
use Rattle.std.specs.List.{flat_map}
use Rattle.certificate_text.specs.Marks.{MarksAlso}
use Rattle.certificate_text.specs.Names.{named_by}
use Rattle.certificate_text.proofs.pools.needs.mark_text.Given as goal

abbrev pub invariant-loop-application : goal.invariant-loop-application
invariant-loop-application l = MarksAlso l.fn.marks l.marks (flat_map named_by (take l.application-index l.text))
