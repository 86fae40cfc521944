use Rattle.std.proofs.Common.{◌≡◌, ◌++◌, drop}
use Rattle.typing_rules.specs.CodeConstraints.{has_arguments}
use Rattle.type_constraints.specs.Seen.{seen_all}
use Rattle.type_constraints.proofs.code.arguments.add_all_written.Given as goal

abbrev pub invariant-loop-of : goal.invariant-loop-of
invariant-loop-of l =
    seen_all l.constraints.items ++ has_arguments l.structs l.at (drop l.of-index l.types) ≡ seen_all l.fn.constraints.items ++ has_arguments l.structs l.first l.types
