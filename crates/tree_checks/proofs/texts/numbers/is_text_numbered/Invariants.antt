use Rattle.std.proofs.Common.{take}
use Rattle.std.specs.Prelude.{All}
use Rattle.tree_checks.specs.Numbers.{IsApplicationNumbered}
use Rattle.tree_checks.proofs.texts.numbers.is_text_numbered.Given as goal

abbrev pub invariant-loop-application : goal.invariant-loop-application
invariant-loop-application l = All (IsApplicationNumbered l.pool) (take l.application-index l.text)
