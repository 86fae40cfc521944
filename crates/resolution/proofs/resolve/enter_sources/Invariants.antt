use Rattle.std.proofs.Common.{take}
use Rattle.resolution.specs.Items.{AreKnownIn}
use Rattle.resolution.specs.Known.{KnownData}
use Rattle.resolution.specs.Modules.{IsKnown, IsWithin}
use Rattle.resolution.specs.Parts.{EnteredOf}
use Rattle.resolution.specs.Programs.{declarations_of}
use Rattle.resolution.proofs.resolve.enter_sources.Given as goal

abbrev pub invariant-loop-file : goal.invariant-loop-file
invariant-loop-file l = record {
  within : (k : KnownData) → IsWithin k l.initial.environment → IsWithin k l.environment;
  entered : (k : KnownData) → IsWithin k l.initial.environment → IsKnown k l.known → EnteredOf (declarations_of k (take l.file l.sources)) l.initial.program l.program;
  known : (k : KnownData) → IsWithin k l.initial.environment → IsKnown k l.known → AreKnownIn k (take l.file l.sources);
}
