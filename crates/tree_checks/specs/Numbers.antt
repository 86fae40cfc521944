-- The numbers in the applications of a trace.
use Rattle.std.specs.Prelude.{List}
use Rattle.term_pool.specs.declared.node.Node.{Node}
use Rattle.search.specs.declared.trees.application.PoolApplication.{PoolApplication}
use Rattle.search.specs.declared.trees.application.PoolApplication.TheVariants.{Grown, Closed}
use Rattle.step_checks.specs.Links.{AreNamed}
use Rattle.tree_checks.specs.Steps.{HasNumbers}

-- the numbers in the application are those of formulas and of terms
abbrev pub IsApplicationNumbered : List Node → PoolApplication → Type 0
IsApplicationNumbered ns (Grown g) = HasNumbers ns g
IsApplicationNumbered ns (Closed c) = AreNamed ns c.chain.items
