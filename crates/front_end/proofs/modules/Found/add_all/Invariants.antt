use Rattle.std.proofs.Common.{ℕ, List, ◌++◌, map, take}
use Rattle.syntax_tree.specs.SourceModuleData.{SourceModuleData}
use Rattle.front_end.specs.ModuleReading.{AreRead}
use Rattle.front_end.proofs.modules.Found.add_all.Given as goal

abbrev pub invariant-loop-module : goal.invariant-loop-module
invariant-loop-module l =
    (before : List (ℕ × SourceModuleData)) → AreRead before l.fn.self.modules.items l.fn.self.taken → AreRead (before ++ map (λ m. (l.file, m)) (take l.module-index l.modules)) l.self.modules.items l.self.taken
