use Rattle.std.proofs.Common.{◌≡◌, ◌++◌, take}
use Rattle.std.specs.List.{flat_map}
use Rattle.typing_rules.specs.Clauses.{modified}
use Rattle.type_constraints.specs.Seen.{seen_all}
use Rattle.type_constraints.proofs.clauses.clause.add_all_modified.Given as goal

abbrev pub invariant-loop-root : goal.invariant-loop-root
invariant-loop-root l = seen_all l.constraints.items ≡ seen_all l.fn.constraints.items ++ flat_map (modified l.body.nodes) (take l.root-index l.roots)
