use Rattle.std.proofs.Common.{◌≡◌, drop}
use Rattle.axioms.specs.Fields.{shape_of}
use Rattle.axioms.proofs.fields.shape_named.Given as goal

-- no earlier shape has the name
abbrev pub invariant-loop-shape : goal.invariant-loop-shape
invariant-loop-shape l = shape_of l.shapes l.name ≡ shape_of (drop l.shape-index l.shapes) l.name
