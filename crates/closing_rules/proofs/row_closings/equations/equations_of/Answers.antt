use Rattle.std.proofs.Common.{length, refl}
use Rattle.tableau.specs.PoolBranches.{branch_in}
use Rattle.closing_rules.proofs.EquationLemmas.{each_marks, each_needed, all_ready}
use Rattle.closing_rules.proofs.row_closings.equations.equations_of.Goals as goal

pub mark_each-requires : goal.mark_each-requires
mark_each-requires c = each_marks c.args.pool.now c.args.graph.nodes.now c.args.graph.links.now c.args.graph.numbers.now c.requires.graph c.args.chain.now c.args.rewritings.now c.requires.sources (length c.args.graph.links.now) c.in_ok-needed.needed.items refl c.in_ok-needed.ensures

pub plans-requires-clause-needed : goal.plans-requires-clause-needed
plans-requires-clause-needed c = each_needed c.args.pool.now c.args.graph.nodes.now c.args.graph.links.now c.args.graph.numbers.now c.requires.graph c.args.chain.now c.args.rewritings.now c.requires.sources (length c.args.graph.links.now) c.in_ok-needed.needed.items c.mark_each.new.needed.items refl c.in_ok-needed.ensures c.mark_each.ensures

pub returns-clause-chain : goal.returns-clause-chain
returns-clause-chain c = c.in_ok-table.ensures.chain (branch_in c.args.pool.now c.args.branch.now) c.requires.chain c.requires.begin

pub returns-clause-ready : goal.returns-clause-ready
returns-clause-ready c = all_ready c.args.pool.now c.args.graph.nodes.now c.args.graph.links.now c.args.graph.numbers.now c.requires.graph c.args.chain.now c.args.rewritings.now c.requires.sources c.equations.new.pool c.equations.ensures.extends c.equations.new.chain c.in_ok-table.ensures.keeps (branch_in c.args.pool.now c.args.branch.now) c.requires.begin c.in_ok-table.table.items c.in_ok-needed.needed.items c.mark_each.new.needed.items c.plans.new.needed.items c.as_slice-marks.result.now c.mark_each.ensures c.in_ok-taken.ensures.stays c.as_slice-marks.ensures.value c.in_ok-table.ensures.placed
