-- The formula at an index of an explanation before any rewriting.
use Rattle.std.proofs.Common.{ℕ, ◌<◌, List, length, refl}
use Rattle.std.proofs.lemmas.Option.{slice_get-get_or}
use Rattle.term_pool.specs.Items.{formula_in}
use Rattle.term_pool.specs.declared.node.Node.{Node}
use Rattle.explanations.specs.Chains.{ChainData, IsAt}
use Rattle.closing_rules.specs.Rewriting.{source_item}

pub source_at : (ns : List Node) (d : ChainData) (position : ℕ) → position < length d.formulas → IsAt ns d position (formula_in (source_item ns d position))
source_at ns d position w = record { number = _; found = slice_get-get_or d.formulas position 0 w; is = refl }
