use Rattle.std.proofs.Common.{◌≡◌, ◌++◌, drop, map}
use Rattle.typing_rules.specs.SpecConstraints.{spec_given_constraints}
use Rattle.type_constraints.specs.Seen.{builtin_type, seen_all}
use Rattle.type_constraints.proofs.spec.call.add_given_builtin.Given as goal

abbrev pub invariant-loop-part : goal.invariant-loop-part
invariant-loop-part l =
    seen_all l.constraints.items ++ spec_given_constraints l.first l.count (drop l.part-index l.parts) (map builtin_type l.left) ≡ seen_all l.fn.constraints.items ++ spec_given_constraints l.first l.count l.parts (map builtin_type l.parameters)
