use Rattle.std.proofs.Common.{◌≡◌, take}
use Rattle.std.specs.List.{flat_map}
use Rattle.indexmap.specs.IndexSet.{insert_all}
use Rattle.scopes.specs.EnvironmentData.{with_declared}
use Rattle.scopes.specs.MemberNames.{same_declaration}
use Rattle.scopes.specs.Declares.{module_declares}
use Rattle.scopes.proofs.modules.sources.declare_modules.Given as goal

abbrev pub invariant-loop-module_tree : goal.invariant-loop-module_tree
invariant-loop-module_tree l = l.environment ≡ with_declared l.initial.environment (insert_all same_declaration l.initial.environment.declared (flat_map (module_declares l.initial.environment) (take l.module_tree-index l.modules)))
