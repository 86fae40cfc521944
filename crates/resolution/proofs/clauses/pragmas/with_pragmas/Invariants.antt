use Rattle.std.proofs.Common.{◌≡◌, take}
use Rattle.resolution.specs.Pragmas.{before_others, settings_of}
use Rattle.resolution.proofs.clauses.pragmas.with_pragmas.Given as goal

abbrev pub invariant-loop-pragma : goal.invariant-loop-pragma
invariant-loop-pragma l = l.settings ≡ before_others (settings_of (take l.pragma-index l.pragmas)) l.fn.before
