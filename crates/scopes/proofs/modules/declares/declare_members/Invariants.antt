use Rattle.std.proofs.Common.{◌≡◌, take}
use Rattle.std.specs.List.{flat_map}
use Rattle.indexmap.specs.IndexSet.{insert_all}
use Rattle.scopes.specs.EnvironmentData.{with_declared}
use Rattle.scopes.specs.MemberNames.{same_declaration}
use Rattle.scopes.specs.Declares.{member_declares}
use Rattle.scopes.proofs.modules.declares.declare_members.Given as goal

abbrev pub invariant-loop-member : goal.invariant-loop-member
invariant-loop-member l = l.environment ≡ with_declared l.initial.environment (insert_all same_declaration l.initial.environment.declared (flat_map (member_declares l.owner) (take l.member-index l.members)))
