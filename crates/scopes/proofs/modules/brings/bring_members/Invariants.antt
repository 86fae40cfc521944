use Rattle.std.proofs.Common.{◌≡◌}
use Rattle.std.specs.Vec.Iter.{into_iter_items}
use Rattle.scopes.specs.MemberNames.{same_name_of_kind}
use Rattle.scopes.specs.EnvironmentData.{with_names}
use Rattle.scopes.specs.Brings.{firsts}
use Rattle.scopes.proofs.modules.brings.bring_members.Given as goal

abbrev pub invariant-loop-name : goal.invariant-loop-name
invariant-loop-name l = with_names l.initial.environment (firsts same_name_of_kind l.initial.environment.names l.fn.names.entries.items) ≡ with_names l.environment (firsts same_name_of_kind l.environment.names (into_iter_items l.name-iterator))
