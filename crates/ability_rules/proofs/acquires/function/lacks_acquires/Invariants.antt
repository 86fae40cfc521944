use Rattle.std.proofs.Common.{◌≡◌}
use Rattle.program.specs.Homes.{function_home}
use Rattle.typing_rules.specs.CodeSystems.{function_setting}
use Rattle.typing_rules.specs.Settings.{first_argument}
use Rattle.ability_rules.specs.Missing.{AreLooked}
use Rattle.ability_rules.proofs.AcquiresFunctions.{AreClear}
use Rattle.ability_rules.proofs.acquires.function.lacks_acquires.Given as goal

abbrev pub invariant-loop-index : goal.invariant-loop-index
invariant-loop-index l = record {
  first : l.first ≡ first_argument (function_setting l.program l.function) l.index;
  clear : AreClear l.program l.id l.function l.pool l.variables l.index;
  looked : AreLooked l.program (function_home l.id) l.function.acquires l.seen;
}
