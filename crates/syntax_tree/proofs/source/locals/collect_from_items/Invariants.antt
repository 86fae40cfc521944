use Rattle.std.proofs.Common.{◌≡◌, ◌++◌, take}
use Rattle.std.specs.List.{flat_map}
use Rattle.syntax_tree.specs.Locals.{names_of_item}
use Rattle.syntax_tree.proofs.source.locals.collect_from_items.Given as goal

abbrev pub invariant-loop-one : goal.invariant-loop-one
invariant-loop-one l = l.into ≡ l.initial.into ++ flat_map names_of_item (take l.one-index l.items)
