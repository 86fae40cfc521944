use Rattle.std.proofs.Common.{◌≡◌, map, take, slice_index_or}
use Rattle.code_tree.proofs.pass.apply.parts_in.Given as goal

abbrev pub invariant-loop-part : goal.invariant-loop-part
invariant-loop-part l = l.found ≡ map (λ part. slice_index_or l.places part 0) (take l.part-index l.parts)
