use Rattle.std.proofs.Common.{◌≡◌, ℕ, List, take}
use Rattle.report.specs.Lines.{line_feeds}
use Rattle.driver.specs.Pairs.{ArePutBehind}
use Rattle.driver.specs.Verified.{IsFunctionRecord}
use Rattle.driver.proofs.verify.verify_module.Given as goal

abbrev pub invariant-loop-specified : goal.invariant-loop-specified
invariant-loop-specified g l = (bytes : List ℕ) → l.feeds ≡ line_feeds bytes → ArePutBehind (IsFunctionRecord bytes l.sum_module) (take l.specified-index l.sum_module.functions) l.initial.records.items l.records.items
