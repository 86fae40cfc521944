use Rattle.std.proofs.Common.{length, refl, subst}
use Rattle.term_pool.specs.Items.{TermSort}
use Rattle.congruence_closure.specs.Numbers.{number_at}
use Rattle.explanations.specs.Routes.{IsEquation}
use Rattle.explanations.proofs.GrowthLemmas.{begin_grown}
use Rattle.explanations.proofs.DeriveLemmas.{whole_linked, first_marks, first_needed, positions_read, way_goes, way_ends}
use Rattle.explanations.proofs.derived.derive.derive.Goals as goal

pub path-requires-clause-linked : goal.path-requires-clause-linked
path-requires-clause-linked c = whole_linked c.args.graph.links.now (length c.args.graph.links.now) c.args.one c.args.other refl c.requires.linked

pub mark-requires : goal.mark-requires
mark-requires c = first_marks c.args.pool.now c.args.graph.nodes.now c.args.graph.links.now c.args.graph.numbers.now c.requires.graph (length c.args.graph.links.now) c.args.one c.args.other (length c.args.graph.links.now) c.in_ok-route.route.items c.in_ok-needed.needed.items c.as_slice-way.result.now c.as_slice-way.ensures.value c.requires.one c.in_ok-route.ensures refl c.in_ok-needed.ensures

pub plans-requires-clause-needed : goal.plans-requires-clause-needed
plans-requires-clause-needed c = first_needed c.args.pool.now c.args.graph.nodes.now c.args.graph.links.now c.args.graph.numbers.now c.requires.graph (length c.args.graph.links.now) c.args.one c.args.other (length c.args.graph.links.now) c.in_ok-route.route.items c.in_ok-needed.needed.items c.mark.new.needed.items c.as_slice-way.result.now c.as_slice-way.ensures.value c.requires.one c.in_ok-route.ensures refl c.in_ok-needed.ensures c.mark.ensures

pub along-requires-clause-route : goal.along-requires-clause-route
along-requires-clause-route c = way_goes c.args.pool.now c.equations.new.pool c.args.graph.nodes.now c.args.graph.links.now c.args.graph.numbers.now c.requires.graph c.equations.ensures.extends c.equations.new.chain c.as_slice-positions.result.now (length c.args.graph.links.now) c.args.one c.args.other c.in_ok-route.route.items c.as_slice-way.result.now c.in_ok-needed.needed.items c.mark.new.needed.items c.plans.new.needed.items c.as_slice-marks.result.now c.as_slice-way.ensures.value c.requires.one c.requires.within c.in_ok-route.ensures c.mark.ensures c.in_ok-found.ensures.stays c.as_slice-marks.ensures.value (positions_read c.equations.new.pool c.equations.new.chain c.args.graph.links.now c.args.graph.numbers.now c.as_slice-marks.result.now c.in_ok-table.table.items c.as_slice-positions.result.now (length c.args.graph.links.now) c.as_slice-positions.ensures.value c.in_ok-table.ensures.placed)

pub returns-clause-at : goal.returns-clause-at
returns-clause-at c = subst (λ i. IsEquation c.along.new.pool c.along.new.chain c.in_ok-position.position (number_at c.args.graph.numbers.now c.args.one) (number_at c.args.graph.numbers.now i)) (way_ends c.args.graph.links.now (length c.args.graph.links.now) c.args.one c.args.other c.in_ok-route.route.items c.as_slice-way.result.now c.as_slice-way.ensures.value c.in_ok-route.ensures) c.in_ok-position.ensures.at

pub returns-clause-chain : goal.returns-clause-chain
returns-clause-chain c = λ b h can. c.in_ok-position.ensures.chain b (c.in_ok-table.ensures.chain b h can) (begin_grown c.args.pool.now c.equations.new.pool c.equations.ensures.extends b c.args.chain.now c.equations.new.chain c.in_ok-table.ensures.keeps (number_at c.args.graph.numbers.now c.args.one) TermSort c.requires.one.term (can.each c.args.one c.requires.within c.requires.one))
