use Rattle.std.proofs.Common.{◌≡◌, ℕ, List, take}
use Rattle.report.specs.Lines.{line_feeds}
use Rattle.base.specs.Pairs.{Paired}
use Rattle.driver.specs.Verified.{IsConditionRecord}
use Rattle.driver.proofs.verify.verify_conditions.Given as goal

abbrev pub invariant-loop-condition : goal.invariant-loop-condition
invariant-loop-condition g l = (bytes : List ℕ) → l.feeds ≡ line_feeds bytes → Paired (IsConditionRecord bytes l.file l.parameters) (take l.condition-index l.conditions) l.found.items
