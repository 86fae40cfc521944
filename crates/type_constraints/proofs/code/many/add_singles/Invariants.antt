use Rattle.std.proofs.Common.{◌≡◌, ◌++◌, take}
use Rattle.typing_rules.specs.CodeConstraints.{each_of}
use Rattle.typing_rules.specs.declared.sort.Sort.TheVariants.{Single}
use Rattle.type_constraints.specs.Seen.{seen_all}
use Rattle.type_constraints.proofs.code.many.add_singles.Given as goal

abbrev pub invariant-loop-part : goal.invariant-loop-part
invariant-loop-part l = seen_all l.constraints.items ≡ seen_all l.fn.constraints.items ++ each_of Single (take l.part-index l.parts)
