use Rattle.std.proofs.Common.{◌≡◌, take}
use Rattle.report.specs.Lines.{line_feeds}
use Rattle.report.proofs.lines.LineFeeds.new.Given as goal

abbrev pub invariant-loop-position : goal.invariant-loop-position
invariant-loop-position l = l.positions.items ≡ line_feeds (take l.position l.bytes)
