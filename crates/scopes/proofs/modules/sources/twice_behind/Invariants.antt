use Rattle.std.proofs.Common.{◌≡◌, drop}
use Rattle.scopes.specs.Program.{twice_in_sources}
use Rattle.scopes.proofs.modules.sources.twice_behind.Given as goal

abbrev pub invariant-loop-number : goal.invariant-loop-number
invariant-loop-number l = twice_in_sources l.environment l.initial.seen.keys 0 l.sources ≡ twice_in_sources l.environment l.seen.keys l.number (drop l.number l.sources)
