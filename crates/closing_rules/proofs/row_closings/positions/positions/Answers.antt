use Rattle.std.proofs.Common.{nat_eq, sym, subst}
use Rattle.indexmap.specs.IndexMap.{get}
use Rattle.tableau.specs.PoolBranches.{branch_in}
use Rattle.explanations.specs.Chains.{IsChain}
use Rattle.explanations.specs.Graphs.{IsGraph}
use Rattle.explanations.specs.Derivations.{AreSaid, CanBeginAny}
use Rattle.closing_rules.specs.Rewritings.{AreSources, AreReady}
use Rattle.closing_rules.proofs.PlacedLemmas.{placed_back}
use Rattle.closing_rules.proofs.SettingLemmas.{same_branch}
use Rattle.closing_rules.proofs.EndLemmas.{graph, all_said, all_begin, all_sources, as_read}
use Rattle.closing_rules.proofs.row_closings.positions.positions.Goals as goal

pub equations_of-requires-clause-graph : goal.equations_of-requires-clause-graph
equations_of-requires-clause-graph c = as_read (IsGraph c.args.pool.now) c.args.choice.classes.now.classes.nodes c.nodes.result.now c.args.choice.classes.now.classes.links c.links.result.now c.args.choice.classes.now.numbers c.numbers.result.now c.nodes.ensures c.links.ensures c.numbers.ensures
    (graph c.args.pool.now c.args.branch.now c.args.choice.classes.now c.requires.base)

pub equations_of-requires-clause-said : goal.equations_of-requires-clause-said
equations_of-requires-clause-said c = as_read (λ nodes. AreSaid c.args.pool.now c.args.chain.now) c.args.choice.classes.now.classes.nodes c.nodes.result.now c.args.choice.classes.now.classes.links c.links.result.now c.args.choice.classes.now.numbers c.numbers.result.now c.nodes.ensures c.links.ensures c.numbers.ensures
    (all_said c.args.pool.now c.args.branch.now c.args.choice.classes.now c.requires.base c.args.chain.now c.requires.entries)

pub equations_of-requires-clause-sources : goal.equations_of-requires-clause-sources
equations_of-requires-clause-sources c = as_read (λ nodes links numbers. AreSources c.args.pool.now nodes links numbers c.args.chain.now c.args.rewritings.now) c.args.choice.classes.now.classes.nodes c.nodes.result.now c.args.choice.classes.now.classes.links c.links.result.now c.args.choice.classes.now.numbers c.numbers.result.now c.nodes.ensures c.links.ensures c.numbers.ensures
    (all_sources c.args.pool.now c.args.branch.now c.args.choice.classes.now c.requires.base c.args.choice.names.now (get nat_eq c.args.choice.chosen.now) c.args.chain.now c.args.rewritings.now c.requires.entries c.requires.rewritings)

pub equations_of-requires-clause-begin : goal.equations_of-requires-clause-begin
equations_of-requires-clause-begin c = as_read (λ nodes links numbers. CanBeginAny c.args.pool.now nodes (branch_in c.args.pool.now c.args.branch.now) c.args.chain.now numbers) c.args.choice.classes.now.classes.nodes c.nodes.result.now c.args.choice.classes.now.classes.links c.links.result.now c.args.choice.classes.now.numbers c.numbers.result.now c.nodes.ensures c.links.ensures c.numbers.ensures
    (all_begin c.args.pool.now c.args.branch.now c.args.choice.classes.now c.requires.base c.args.chain.now c.requires.entries c.requires.chain)

pub position_each-requires-clause-ready : goal.position_each-requires-clause-ready
position_each-requires-clause-ready c =
    subst (λ x. AreReady c.equations_of.new.pool x c.equations_of.new.chain c.numbers.result.now c.as_slice-equations.result.now c.args.rewritings.now) (sym (same_branch c.args.pool.now c.equations_of.new.pool c.equations_of.ensures.extends c.args.branch.now c.args.choice.classes.now c.requires.base.over))
    (subst (λ table. AreReady c.equations_of.new.pool (branch_in c.args.pool.now c.args.branch.now) c.equations_of.new.chain c.numbers.result.now table c.args.rewritings.now) (sym c.as_slice-equations.ensures.value) c.in_ok-table.ensures.ready)

pub position_each-requires-clause-chain : goal.position_each-requires-clause-chain
position_each-requires-clause-chain c = subst (λ b. IsChain c.equations_of.new.pool b c.equations_of.new.chain) (sym (same_branch c.args.pool.now c.equations_of.new.pool c.equations_of.ensures.extends c.args.branch.now c.args.choice.classes.now c.requires.base.over)) c.in_ok-table.ensures.chain

pub returns-clause-chain : goal.returns-clause-chain
returns-clause-chain c = subst (λ b. IsChain c.position_each.new.pool b c.position_each.new.chain) (same_branch c.args.pool.now c.equations_of.new.pool c.equations_of.ensures.extends c.args.branch.now c.args.choice.classes.now c.requires.base.over) c.in_ok-positions.ensures.chain

pub returns-clause-placed : goal.returns-clause-placed
returns-clause-placed c = placed_back c.args.pool.now c.equations_of.new.pool c.equations_of.ensures.extends (branch_in c.args.pool.now c.args.branch.now) c.args.chain.now c.equations_of.new.chain c.in_ok-table.ensures.keeps c.requires.chain c.args.choice.classes.now.numbers c.numbers.result.now c.numbers.ensures c.args.rewritings.now
    (λ k r f n d g. ((c.requires.rewritings.each k r f).makes.each n d g).is) c.position_each.new.pool c.position_each.new.chain c.in_ok-positions.positions.items c.in_ok-positions.ensures.placed
