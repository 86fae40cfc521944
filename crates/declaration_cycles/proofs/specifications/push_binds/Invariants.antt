use Rattle.std.proofs.Common.{◌≡◌, ◌++◌, take}
use Rattle.std.specs.List.{flat_map}
use Rattle.declaration_cycles.specs.Naming.{homes_in_domain}
use Rattle.declaration_cycles.proofs.specifications.push_binds.Given as goal

abbrev pub invariant-loop-bind : goal.invariant-loop-bind
invariant-loop-bind l =
    l.into.items ≡ l.initial.into.items ++ flat_map (λ b. homes_in_domain b.domain) (take l.bind-index l.binds)
