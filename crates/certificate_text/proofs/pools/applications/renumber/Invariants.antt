use Rattle.certificate_text.specs.Applications.{IsApplicationAnew}
use Rattle.certificate_text.proofs.ListLemmas.{AreSoFar}
use Rattle.certificate_text.proofs.pools.applications.renumber.Given as goal

abbrev pub invariant-loop-application : goal.invariant-loop-application
invariant-loop-application l = AreSoFar (IsApplicationAnew l.numbers) l.application-index l.fn.text l.text
