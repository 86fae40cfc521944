use Rattle.std.proofs.Common.{◌<◌, length}
use Rattle.fol.specs.FormulaData.{EqFormula, NotFormula}
use Rattle.congruence_closure.specs.Histories.{IsHistory}
use Rattle.congruence_closure.specs.Links.{Linked}
use Rattle.tableau.specs.PoolBranches.{branch_in}
use Rattle.congruence_closure.specs.Numbers.{number_at}
use Rattle.tableau.proofs.EntryLemmas.{says_within}
use Rattle.closing_rules.proofs.FormLemmas.{denial_number, left_number}
use Rattle.explanations.specs.Chains.{term_at, IsAt}
use Rattle.explanations.specs.Graphs.{IsTermNode, IsGraph}
use Rattle.explanations.specs.Derivations.{AreSaid, CanBeginAny}
use Rattle.search.proofs.ApplicationLemmas.{at_true, at_false, ok_map}
use Rattle.closing_rules.proofs.GraphLemmas.{AreLent, lent_fact, term_node, are_linked, graph, begins_any, links_said, equates, first_known, second_known, same_sides}
use Rattle.closing_rules.proofs.AnswerLemmas.{too_deep, chain_within, differing_at}
use Rattle.closing_rules.proofs.class_closings.closing.differing.Goals as goal

pub returns-then-not-are_low-clause-shown : goal.returns-then-not-are_low-clause-shown
returns-then-not-are_low-clause-shown c = λ shapes. too_deep shapes (branch_in c.args.pool.now c.args.branch.now) (at_false c.are_low.result _ _ c.if-not-are_low.true c.are_low.ensures)

pub denied_by-equation-requires-clause-denies : goal.denied_by-equation-requires-clause-denies
denied_by-equation-requires-clause-denies c = record { formula = c.requires.differs.formula; denies = c.requires.differs.denies }

pub sides_of-sides-requires-clause-formula : goal.sides_of-sides-requires-clause-formula
sides_of-sides-requires-clause-formula c =
    let it = c.denied_by-equation.ensures in
    denial_number c.args.pool.now it.entry.formula c.denied_by-equation.result it.denial

pub sides_of-sides-requires-clause-equates : goal.sides_of-sides-requires-clause-equates
sides_of-sides-requires-clause-equates c =
    let it = c.denied_by-equation.ensures in
    let h = equates c.args.pool.now c.one_number.ensures c.args.branch.now c.requires.over c.args.classes.now c.requires.classes c.exact.ensures c.args.entry c.denied_by-equation.result it.entry it.found it.denial c.requires.differs in
    record { left = h.left; right = h.right; is = h.is }

pub node-one-requires : goal.node-one-requires
node-one-requires c =
    let it = c.denied_by-equation.ensures in
    first_known c.args.pool.now c.one_number.ensures c.args.branch.now c.requires.over c.args.classes.now c.requires.classes c.exact.ensures c.args.entry c.denied_by-equation.result it.entry it.found it.denial c.sides_of-sides.result c.sides_of-sides.ensures

pub node-other-requires : goal.node-other-requires
node-other-requires c =
    let it = c.denied_by-equation.ensures in
    second_known c.args.pool.now c.one_number.ensures c.args.branch.now c.requires.over c.args.classes.now c.requires.classes c.exact.ensures c.args.entry c.denied_by-equation.result it.entry it.found it.denial c.sides_of-sides.result c.sides_of-sides.ensures

pub equation_answer-requires-clause-history : goal.equation_answer-requires-clause-history
equation_answer-requires-clause-history c =
    lent_fact c.args.classes.now c.nodes-nodes.result.now c.links-links.result.now c.numbers-numbers.result.now (record { nodes_are = c.nodes-nodes.ensures; links_are = c.links-links.ensures; numbers_are = c.numbers-numbers.ensures }) (λ nodes links numbers. IsHistory links (length links) c.in_ok-history.history) c.in_ok-history.ensures

pub equation_answer-requires-clause-graph : goal.equation_answer-requires-clause-graph
equation_answer-requires-clause-graph c =
    lent_fact c.args.classes.now c.nodes-nodes.result.now c.links-links.result.now c.numbers-numbers.result.now (record { nodes_are = c.nodes-nodes.ensures; links_are = c.links-links.ensures; numbers_are = c.numbers-numbers.ensures }) (IsGraph c.args.pool.now)
    (graph c.args.pool.now c.one_number.ensures c.args.branch.now c.requires.over c.args.classes.now c.requires.classes c.shown.ensures c.requires.inside (at_true c.are_low.result _ _ c.if-not-are_low.false c.are_low.ensures))

pub equation_answer-requires-clause-said : goal.equation_answer-requires-clause-said
equation_answer-requires-clause-said c =
    lent_fact c.args.classes.now c.nodes-nodes.result.now c.links-links.result.now c.numbers-numbers.result.now (record { nodes_are = c.nodes-nodes.ensures; links_are = c.links-links.ensures; numbers_are = c.numbers-numbers.ensures }) (λ nodes links numbers. AreSaid c.args.pool.now c.in_ok-chain.chain links numbers)
    (links_said c.args.pool.now c.one_number.ensures c.args.branch.now c.requires.over c.args.classes.now c.requires.classes c.shown.ensures c.in_ok-chain.chain c.in_ok-chain.ensures.formulas)

pub equation_answer-requires-clause-one : goal.equation_answer-requires-clause-one
equation_answer-requires-clause-one c =
    let it = c.denied_by-equation.ensures in
    lent_fact c.args.classes.now c.nodes-nodes.result.now c.links-links.result.now c.numbers-numbers.result.now (record { nodes_are = c.nodes-nodes.ensures; links_are = c.links-links.ensures; numbers_are = c.numbers-numbers.ensures }) (λ nodes links numbers. IsTermNode c.args.pool.now nodes numbers c.node-one.result)
    (term_node c.args.pool.now c.one_number.ensures c.args.branch.now c.requires.over c.args.classes.now c.requires.classes c.sides_of-sides.result.0 c.node-one.result c.node-one.ensures.found (left_number c.args.pool.now c.denied_by-equation.result c.sides_of-sides.result c.sides_of-sides.ensures))

pub equation_answer-requires-clause-within : goal.equation_answer-requires-clause-within
equation_answer-requires-clause-within c =
    lent_fact c.args.classes.now c.nodes-nodes.result.now c.links-links.result.now c.numbers-numbers.result.now (record { nodes_are = c.nodes-nodes.ensures; links_are = c.links-links.ensures; numbers_are = c.numbers-numbers.ensures }) (λ nodes links numbers. c.node-one.result < length nodes) c.node-one.ensures.within

pub equation_answer-requires-clause-other_within : goal.equation_answer-requires-clause-other_within
equation_answer-requires-clause-other_within c =
    lent_fact c.args.classes.now c.nodes-nodes.result.now c.links-links.result.now c.numbers-numbers.result.now (record { nodes_are = c.nodes-nodes.ensures; links_are = c.links-links.ensures; numbers_are = c.numbers-numbers.ensures }) (λ nodes links numbers. c.node-other.result < length nodes) c.node-other.ensures.within

pub equation_answer-requires-clause-linked : goal.equation_answer-requires-clause-linked
equation_answer-requires-clause-linked c =
    let it = c.denied_by-equation.ensures in
    lent_fact c.args.classes.now c.nodes-nodes.result.now c.links-links.result.now c.numbers-numbers.result.now (record { nodes_are = c.nodes-nodes.ensures; links_are = c.links-links.ensures; numbers_are = c.numbers-numbers.ensures }) (λ nodes links numbers. Linked links c.node-one.result c.node-other.result)
    (are_linked c.args.pool.now c.one_number.ensures c.args.branch.now c.requires.over c.args.classes.now c.requires.classes c.shown.ensures c.sides_of-sides.result.0 c.sides_of-sides.result.1 c.node-one.result c.node-other.result c.node-one.ensures.found c.node-other.ensures.found c.node-one.ensures.within c.node-other.ensures.within
    (same_sides c.args.pool.now c.one_number.ensures c.args.branch.now c.requires.over c.args.classes.now c.requires.classes c.exact.ensures c.args.entry c.denied_by-equation.result it.entry it.found it.denial c.sides_of-sides.result c.sides_of-sides.ensures c.requires.differs))

pub equation_answer-requires-clause-denied : goal.equation_answer-requires-clause-denied
equation_answer-requires-clause-denied c =
    chain_within c.args.branch.now c.in_ok-chain.chain.formulas c.in_ok-chain.ensures.formulas c.args.entry (says_within c.args.pool.now c.args.branch.now c.args.entry (NotFormula c.requires.differs.formula) c.requires.differs.denies)

pub returns-clause-shown : goal.returns-clause-shown
returns-clause-shown c =
    let ns = c.args.pool.now in
    let ms = c.equation_answer.new.pool in
    let d = c.args.branch.now in
    let b = branch_in ns d in
    let classes = c.args.classes.now in
    let nodes = c.nodes-nodes.result.now in
    let links = c.links-links.result.now in
    let numbers = c.numbers-numbers.result.now in
    let chain = c.in_ok-chain.chain in
    let it = c.denied_by-equation.ensures in
    let sides = c.sides_of-sides.result in
    let lent : AreLent classes nodes links numbers = record { nodes_are = c.nodes-nodes.ensures; links_are = c.links-links.ensures; numbers_are = c.numbers-numbers.ensures } in
    let low = at_true c.are_low.result _ _ c.if-not-are_low.false c.are_low.ensures in
    let is = c.in_ok-chain.ensures.chain ns c.requires.over c.requires.variable in
    let can = lent_fact classes nodes links numbers lent (λ xs ls ks. CanBeginAny ns xs b chain ks) (begins_any ns c.one_number.ensures d c.requires.over classes c.requires.classes c.shown.ensures c.requires.inside low chain c.in_ok-chain.ensures.formulas is) in
    let at = lent_fact classes nodes links numbers lent (λ xs ls ks. IsAt ns chain c.args.entry (NotFormula (EqFormula (term_at ns (number_at ks c.node-one.result)) (term_at ns (number_at ks c.node-other.result))))) (differing_at ns c.one_number.ensures d c.requires.over classes c.requires.classes c.exact.ensures c.args.entry c.denied_by-equation.result it.entry it.found it.denial sides c.sides_of-sides.ensures c.node-one.result c.node-other.result c.node-one.ensures.found c.node-other.ensures.found chain c.in_ok-chain.ensures.formulas) in
    ok_map c.equation_answer.result _ _ (λ answer h shapes. h shapes b is can at) c.equation_answer.ensures.shown
