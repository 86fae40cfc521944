use Rattle.std.proofs.Common.{◌≡◌, ◌++◌, take, map}
use Rattle.typing_rules.specs.Constraint as D
use Rattle.type_constraints.specs.Seen.{seen_all}
use Rattle.type_constraints.proofs.code.many.add_items.Given as goal

abbrev pub invariant-loop-part : goal.invariant-loop-part
invariant-loop-part l = seen_all l.constraints.items ≡ seen_all l.fn.constraints.items ++ map (λ p. D.Same p l.first) (take l.part-index l.parts)
