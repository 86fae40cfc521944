use Rattle.std.proofs.Common.{length, refl}
use Rattle.explanations.proofs.DeriveLemmas.{whole_linked}
use Rattle.explanations.proofs.FormulaLemmas.{formula_position, found_in_source, found_end}
use Rattle.explanations.proofs.derived.alike.derive_alike.Goals as goal

pub differences-requires-clause-position : goal.differences-requires-clause-position
differences-requires-clause-position c = formula_position c.args.pool.now c.args.graph.nodes.now c.args.graph.numbers.now c.args.graph.links.now c.requires.graph c.args.one c.args.other c.requires.one c.requires.other c.new-way.result.items c.new-way.ensures.items

pub differences-requires-clause-linked : goal.differences-requires-clause-linked
differences-requires-clause-linked c = whole_linked c.args.graph.links.now (length c.args.graph.links.now) c.args.one c.args.other refl c.requires.linked

pub replaced-requires-clause-found : goal.replaced-requires-clause-found
replaced-requires-clause-found c = found_in_source c.args.pool.now c.args.graph.nodes.now c.args.graph.numbers.now c.args.graph.links.now c.args.chain.now c.args.one c.args.other c.args.source (length c.args.graph.links.now) c.new-way.result.items c.new-found.result.items c.differences.new.found.items c.as_slice-all.result.now c.requires.one c.requires.source c.new-way.ensures.items c.new-found.ensures.items c.as_slice-all.ensures.value refl c.in_ok-differences.ensures

pub returns-clause-at : goal.returns-clause-at
returns-clause-at c = found_end c.args.pool.now c.args.graph.nodes.now c.args.graph.numbers.now c.args.graph.links.now c.args.chain.now c.args.one c.args.other c.args.source (length c.args.graph.links.now) c.new-way.result.items c.new-found.result.items c.differences.new.found.items c.as_slice-all.result.now c.replaced.new.pool c.replaced.new.chain c.in_ok-end.end c.requires.source c.new-way.ensures.items c.new-found.ensures.items c.as_slice-all.ensures.value c.in_ok-differences.ensures c.in_ok-end.ensures.at
