use Rattle.std.proofs.Common.{◌≡◌, ◌++◌, drop}
use Rattle.scopes.specs.Program.{modules_of, twice_in_source}
use Rattle.scopes.proofs.modules.sources.twice_in_source.Given as goal

abbrev pub invariant-loop-module_tree : goal.invariant-loop-module_tree
invariant-loop-module_tree l =
    (twice_in_source l.environment l.initial.seen.keys l.modules ≡ twice_in_source l.environment l.seen.keys (drop l.module_tree-index l.modules))
    × (l.initial.seen.keys ++ modules_of l.environment l.modules ≡ l.seen.keys ++ modules_of l.environment (drop l.module_tree-index l.modules))
