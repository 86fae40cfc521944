use Rattle.std.proofs.Common.{◌≡◌, take}
use Rattle.resolution.specs.Pragmas.{before_others, pragmas_in, settings_of}
use Rattle.resolution.proofs.clauses.pragmas.with_block.Given as goal

abbrev pub invariant-loop-clause : goal.invariant-loop-clause
invariant-loop-clause l = l.settings ≡ before_others (settings_of (pragmas_in (take l.clause-index l.clauses))) l.fn.before
