use Rattle.std.proofs.Common.{length, refl}
use Rattle.explanations.proofs.DeriveLemmas.{positions_read}
use Rattle.explanations.proofs.FormulaLemmas.{taken_marks, taken_needed, replaced_at_source, replaced_there, begun_here}
use Rattle.explanations.proofs.derived.alike.replaced.Goals as goal

pub mark_all-requires : goal.mark_all-requires
mark_all-requires c = taken_marks c.args.pool.now c.args.graph.nodes.now c.args.graph.links.now c.args.graph.numbers.now c.requires.graph c.args.chain.now c.args.source c.args.found.now c.requires.found (length c.args.graph.links.now) c.in_ok-needed.needed.items refl c.in_ok-needed.ensures

pub plans-requires-clause-needed : goal.plans-requires-clause-needed
plans-requires-clause-needed c = taken_needed c.args.pool.now c.args.graph.nodes.now c.args.graph.links.now c.args.graph.numbers.now c.requires.graph c.args.chain.now c.args.source c.args.found.now c.requires.found (length c.args.graph.links.now) c.in_ok-needed.needed.items c.mark_all.new.needed.items refl c.in_ok-needed.ensures c.mark_all.ensures

pub replace_each-requires-clause-replaced : goal.replace_each-requires-clause-replaced
replace_each-requires-clause-replaced c = replaced_at_source c.args.pool.now c.args.graph.nodes.now c.args.graph.links.now c.args.graph.numbers.now c.requires.graph c.args.chain.now c.args.source c.args.found.now c.requires.found c.equations.new.pool c.equations.ensures.extends c.equations.new.chain c.in_ok-table.ensures.keeps c.as_slice-positions.result.now c.in_ok-needed.needed.items c.mark_all.new.needed.items c.plans.new.needed.items c.as_slice-marks.result.now c.mark_all.ensures c.in_ok-taken.ensures.stays c.as_slice-marks.ensures.value (positions_read c.equations.new.pool c.equations.new.chain c.args.graph.links.now c.args.graph.numbers.now c.as_slice-marks.result.now c.in_ok-table.table.items c.as_slice-positions.result.now (length c.args.graph.links.now) c.as_slice-positions.ensures.value c.in_ok-table.ensures.placed)

pub returns-clause-at : goal.returns-clause-at
returns-clause-at c = replaced_there c.args.pool.now c.args.graph.nodes.now c.args.graph.links.now c.args.graph.numbers.now c.requires.graph c.args.chain.now c.args.source c.args.found.now c.requires.found c.equations.new.pool c.equations.ensures.extends c.equations.new.chain c.in_ok-table.ensures.keeps c.replace_each.new.pool c.replace_each.new.chain c.in_ok-position.position c.in_ok-position.ensures.at

pub returns-clause-chain : goal.returns-clause-chain
returns-clause-chain c = λ b h can. c.in_ok-position.ensures.chain b (c.in_ok-table.ensures.chain b h can) (begun_here c.args.pool.now c.args.graph.nodes.now c.args.graph.links.now c.args.graph.numbers.now c.requires.graph c.args.chain.now c.args.source c.args.found.now c.requires.found c.equations.new.pool c.equations.ensures.extends c.equations.new.chain b c.in_ok-table.ensures.keeps can)
