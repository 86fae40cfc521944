use Rattle.std.proofs.Common.{◌≡◌, map, take}
use Rattle.std.specs.List.{flat_map}
use Rattle.syntax_tree.specs.Locals.{names_of_block}
use Rattle.syntax_tree.proofs.source.locals.locals_of.Given as goal

abbrev pub invariant-loop-block : goal.invariant-loop-block
invariant-loop-block l = l.names ≡ flat_map names_of_block (map (λ b. b.now) (take l.block-index l.block-items))
