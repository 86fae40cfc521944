use Rattle.std.proofs.Common.{◌≡◌, map, take}
use Rattle.std.specs.List.{flat_map}
use Rattle.syntax_tree.specs.Loops.{spec_of_block}
use Rattle.syntax_tree.proofs.source.loops.loop_specs.Given as goal

abbrev pub invariant-loop-block : goal.invariant-loop-block
invariant-loop-block l = l.found ≡ flat_map spec_of_block (map (λ b. b.now) (take l.block-index l.block-items))
