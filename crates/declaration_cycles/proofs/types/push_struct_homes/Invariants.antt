use Rattle.std.proofs.Common.{◌≡◌, ◌++◌, take, map}
use Rattle.program.specs.Homes.{struct_home}
use Rattle.declaration_cycles.proofs.types.push_struct_homes.Given as goal

abbrev pub invariant-loop-id : goal.invariant-loop-id
invariant-loop-id l =
    l.into.items ≡ l.initial.into.items ++ map struct_home (map (λ id. id.now) (take l.id-index l.structs))
