use Rattle.std.proofs.Common.{◌≡◌, ◌++◌, ◌∷◌, drop}
use Rattle.typing_rules.specs.SpecConstraints.{quantified_parts}
use Rattle.type_constraints.specs.Seen.{seen_all}
use Rattle.type_constraints.proofs.spec.quantified.add_parts.Given as goal

abbrev pub invariant-loop-next : goal.invariant-loop-next
invariant-loop-next l =
    seen_all l.constraints.items ++ quantified_parts l.left (l.part ∷ drop l.next-index l.rest) ≡ seen_all l.fn.constraints.items ++ quantified_parts l.ranges l.parts
