use Rattle.std.proofs.Common.{◌≡◌, ◌++◌, take, map}
use Rattle.std.specs.List.{flat_map}
use Rattle.program.specs.Same.{same_struct}
use Rattle.declaration_cycles.specs.Edges.{edge, number}
use Rattle.declaration_cycles.proofs.kinds.push_structs_led_to.Given as goal

abbrev pub invariant-loop-id : goal.invariant-loop-id
invariant-loop-id l =
    l.into.items ≡ l.initial.into.items ++ flat_map (λ id. edge l.from (number same_struct l.program.structs id)) (map (λ id. id.now) (take l.id-index l.structs))
