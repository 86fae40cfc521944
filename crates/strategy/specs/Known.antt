-- What the deciders of a formula's search know.
use Rattle.std.specs.Prelude.{List}
use Rattle.fol.specs.declared.shapes.Shape.{Shape}
use Rattle.term_pool.specs.declared.node.Node.{Node}
use Rattle.axiom_instances.specs.StructRows.{HasFewFields}
use Rattle.ematching.specs.Heads.{IsIndex}
use Rattle.axiom_strategy.specs.Known.{AreKnownInstances}
use Rattle.ematching.specs.QuantifierFree.{AreFree}
use Rattle.tableau.specs.States.{IsState}
use Rattle.strategy.specs.declared.deciders.FormulaDeciders.{FormulaDeciders}

-- the shapes of structs
abbrev pub shapes_of : FormulaDeciders → List Shape
shapes_of d = d.shapes.now

-- the shapes have few fields, and what is kept is right for the pool and for the branch followed last
pub record Knows (d : FormulaDeciders) (ns : List Node) : Type 0 where
  pub few : HasFewFields (shapes_of d)
  pub state : IsState ns d.state
  pub heads : IsIndex ns d.heads
  pub quantifiers : AreFree ns d.quantifiers
  pub known : AreKnownInstances (shapes_of d) ns d.known
