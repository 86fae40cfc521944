use Rattle.std.proofs.Common.{◌≡◌, map, take}
use Rattle.body_names.specs.SpecTrees.{terms_of}
use Rattle.body_names.proofs.spec.triggers.counts_of.Given as goal

abbrev pub invariant-loop-one : goal.invariant-loop-one
invariant-loop-one l = l.counts ≡ map terms_of (take l.one-index l.triggers)
