-- The numbers of a pool that rule applications name.
use Rattle.std.specs.Prelude.{ℕ, List, [], ◌∷◌, ◌++◌}
use Rattle.std.specs.List.{flat_map}
use Rattle.explanations.specs.declared.chain.ChainStep.{ChainStep}
use Rattle.explanations.specs.declared.chain.ChainStep.TheVariants.{Itself, Rewritten}
use Rattle.search.specs.Applications.{terms_of}
use Rattle.search.specs.declared.trees.application.PoolApplication.{PoolApplication}
use Rattle.search.specs.declared.trees.application.PoolApplication.TheVariants.{Grown, Closed}

abbrev pub named_by_step : ChainStep → List ℕ
named_by_step (Itself k) = k ∷ []
named_by_step (Rewritten r) = r.pattern ∷ r.formula ∷ []

abbrev pub named_by : PoolApplication → List ℕ
named_by (Grown g) = terms_of g.reason ++ g.formulas.items
named_by (Closed c) = flat_map named_by_step c.chain.items
