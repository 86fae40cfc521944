use Rattle.std.proofs.Common.{◌≡◌, ◌++◌, drop}
use Rattle.typing_rules.specs.CodeConstraints.{field_constraints}
use Rattle.type_constraints.specs.Seen.{seen_all}
use Rattle.type_constraints.proofs.code.structs.add_fields.Given as goal

abbrev pub invariant-loop-name : goal.invariant-loop-name
invariant-loop-name l =
    seen_all l.constraints.items ++ field_constraints l.first l.owner (drop l.name-index l.names) l.left ≡ seen_all l.fn.constraints.items ++ field_constraints l.first l.owner l.names l.parts
