use Rattle.std.proofs.Common.{take}
use Rattle.resolution.specs.Items.{AreKnown, source_items}
use Rattle.resolution.specs.Known.{KnownData}
use Rattle.resolution.specs.Modules.{IsKnown, IsWithin}
use Rattle.resolution.specs.Parts.{EnteredOf}
use Rattle.resolution.specs.Programs.{source_declarations}
use Rattle.resolution.proofs.modules.enter_source.Given as goal

abbrev pub invariant-loop-tree : goal.invariant-loop-tree
invariant-loop-tree l = record {
  within : (k : KnownData) → IsWithin k l.initial.environment → IsWithin k l.environment;
  entered : (k : KnownData) → IsWithin k l.initial.environment → IsKnown k l.known → EnteredOf (source_declarations k (take l.tree-index l.trees)) l.initial.program l.program;
  known : (k : KnownData) → IsWithin k l.initial.environment → IsKnown k l.known → AreKnown (source_items k (take l.tree-index l.trees));
}
