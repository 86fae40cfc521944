use Rattle.std.specs.Vec.Iter.{into_iter_items}
use Rattle.syntax_tree.specs.Members.{IsSourceModule}
use Rattle.base.proofs.PairLaws.{Reading}
use Rattle.item_parser.proofs.source.module.read_modules.Given as goal

abbrev pub invariant-loop-module : goal.invariant-loop-module
invariant-loop-module l = Reading IsSourceModule l.fn.modules.items (into_iter_items l.module-iterator) l.found.items
