use Rattle.std.proofs.Common.{◌≡◌, map, take}
use Rattle.report.specs.Lines.{line_feeds}
use Rattle.driver.proofs.verify.feeds_of.Given as goal

abbrev pub invariant-loop-bytes : goal.invariant-loop-bytes
invariant-loop-bytes l = l.feeds.items ≡ map line_feeds (take l.bytes-index l.files)
