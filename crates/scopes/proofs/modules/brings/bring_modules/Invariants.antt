use Rattle.std.proofs.Common.{◌≡◌}
use Rattle.std.specs.Vec.Iter.{into_iter_items}
use Rattle.base.specs.Names.{same_name}
use Rattle.scopes.specs.EnvironmentData.{with_modules}
use Rattle.scopes.specs.Brings.{firsts}
use Rattle.scopes.proofs.modules.brings.bring_modules.Given as goal

abbrev pub invariant-loop-name : goal.invariant-loop-name
invariant-loop-name l = with_modules l.initial.environment (firsts same_name l.initial.environment.modules l.fn.names.entries.items) ≡ with_modules l.environment (firsts same_name l.environment.modules (into_iter_items l.name-iterator))
