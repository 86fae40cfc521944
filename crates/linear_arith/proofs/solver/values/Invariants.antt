use Rattle.std.proofs.Common.{take}
use Rattle.linear_arith.specs.Stages.{HasAllStages, unknowns_of}
use Rattle.linear_arith.specs.Values.{AreValues}
use Rattle.linear_arith.proofs.ChoiceLemmas.{AreChosen}
use Rattle.linear_arith.proofs.ValueLemmas.{AreBegun}
use Rattle.linear_arith.proofs.solver.values.Given as goal

abbrev pub invariant-loop-unknown : goal.invariant-loop-unknown
invariant-loop-unknown l = AreBegun l.stages l.unknown l.values.items

abbrev pub invariant-loop-i : goal.invariant-loop-i
invariant-loop-i l = (all : HasAllStages l.system.width l.system.rows.now l.stages) → AreChosen l.system.width all.found (unknowns_of (take l.i l.stages)) l.values.items × AreValues all.found (unknowns_of l.stages) (unknowns_of (take l.i l.stages)) l.values.items
