use Rattle.std.proofs.Common.{◌≡◌, take}
use Rattle.std.specs.List.{flat_map}
use Rattle.indexmap.specs.IndexSet.{insert_all}
use Rattle.scopes.specs.EnvironmentData.{with_declared}
use Rattle.scopes.specs.MemberNames.{same_declaration}
use Rattle.scopes.specs.Declares.{module_declares}
use Rattle.scopes.proofs.modules.sources.declare_sources.Given as goal

abbrev pub invariant-loop-source : goal.invariant-loop-source
invariant-loop-source l = l.environment ≡ with_declared l.initial.environment (insert_all same_declaration l.initial.environment.declared (flat_map (flat_map (module_declares l.initial.environment)) (take l.source-index l.sources)))
