use Rattle.std.proofs.Common.{◌≡◌, ◌++◌, map, take}
use Rattle.certificate_text.specs.Moves.{link_move}
use Rattle.certificate_text.proofs.trees.moves.add_closing.Given as goal

abbrev pub invariant-loop-link : goal.invariant-loop-link
invariant-loop-link l = l.moves.items ≡ l.fn.moves.items ++ map (link_move l.pool) (take l.link-index l.closing.chain.items)
