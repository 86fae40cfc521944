use Rattle.std.proofs.Common.{◌≡◌, length, Some, subst}
use Rattle.std.specs.Prelude.{slice_get}
use Rattle.fol.specs.FormulaData.{NotFormula}
use Rattle.congruence_closure.specs.Histories.{IsHistory}
use Rattle.congruence_closure.specs.Links.{Linked}
use Rattle.tableau.specs.PoolBranches.{branch_in, IsFormulaNumber}
use Rattle.congruence_closure.specs.Numbers.{number_at}
use Rattle.tableau.specs.Numbers.{formula_at}
use Rattle.tableau.proofs.EntryLemmas.{says_within}
use Rattle.closing_rules.proofs.FormLemmas.{denial_number}
use Rattle.explanations.specs.Chains.{IsAt}
use Rattle.explanations.specs.Graphs.{IsGraph}
use Rattle.explanations.specs.Derivations.{AreSaid, CanBeginAny}
use Rattle.explanations.specs.Formulas.{IsFormulaNode}
use Rattle.search.proofs.ApplicationLemmas.{at_true, at_false, ok_map}
use Rattle.closing_rules.proofs.GraphLemmas.{AreLent, lent_fact, formula_node, are_linked, graph, begins_any, links_said, inner_known}
use Rattle.closing_rules.proofs.AnswerLemmas.{too_deep, deep_at, denied_shallow, chain_within, opposed_at, said_known, same_class, said_at}
use Rattle.closing_rules.proofs.class_closings.closing.opposed.Goals as goal

pub returns-then-not-are_low-clause-shown : goal.returns-then-not-are_low-clause-shown
returns-then-not-are_low-clause-shown c = λ shapes. too_deep shapes (branch_in c.args.pool.now c.args.branch.now) (at_false c.are_low.result _ _ c.if-not-are_low.true c.are_low.ensures)

pub formula_of-formula-requires : goal.formula_of-formula-requires
formula_of-formula-requires c = says_within c.args.pool.now c.args.branch.now c.args.said c.requires.opposed.formula c.requires.opposed.says

pub is_shallow-requires : goal.is_shallow-requires
is_shallow-requires c = let it = c.formula_of-formula.ensures in subst (IsFormulaNumber c.args.pool.now) it.is (c.requires.over.formulas c.args.said it.entry it.found)

pub returns-then-not-is_shallow-clause-shown : goal.returns-then-not-is_shallow-clause-shown
returns-then-not-is_shallow-clause-shown c = λ shapes. (
    let it = c.formula_of-formula.ensures in
    deep_at shapes c.args.pool.now c.args.branch.now c.args.said c.formula_of-formula.result it.entry it.found it.is (at_false c.is_shallow.result _ _ c.if-not-is_shallow.true c.is_shallow.ensures))

pub denied_by-inner-requires-clause-denies : goal.denied_by-inner-requires-clause-denies
denied_by-inner-requires-clause-denies c = record { formula = c.requires.opposed.other; denies = c.requires.opposed.denies }

pub node-one-requires : goal.node-one-requires
node-one-requires c =
    let it = c.denied_by-inner.ensures in
    let of = c.formula_of-formula.ensures in
    said_known c.args.pool.now c.one_number.ensures c.args.branch.now c.requires.over c.args.classes.now c.requires.classes c.exact.ensures c.args.denied c.denied_by-inner.result it.entry it.found it.denial c.args.said c.formula_of-formula.result of.entry of.found of.is

pub node-other-requires : goal.node-other-requires
node-other-requires c =
    let it = c.denied_by-inner.ensures in
    inner_known c.args.pool.now c.one_number.ensures c.args.branch.now c.requires.over c.args.classes.now c.requires.classes c.exact.ensures c.args.denied c.denied_by-inner.result it.entry it.found it.denial

pub alike_answer-requires-clause-history : goal.alike_answer-requires-clause-history
alike_answer-requires-clause-history c =
    lent_fact c.args.classes.now c.nodes-nodes.result.now c.links-links.result.now c.numbers-numbers.result.now (record { nodes_are = c.nodes-nodes.ensures; links_are = c.links-links.ensures; numbers_are = c.numbers-numbers.ensures }) (λ nodes links numbers. IsHistory links (length links) c.in_ok-history.history) c.in_ok-history.ensures

pub alike_answer-requires-clause-graph : goal.alike_answer-requires-clause-graph
alike_answer-requires-clause-graph c =
    lent_fact c.args.classes.now c.nodes-nodes.result.now c.links-links.result.now c.numbers-numbers.result.now (record { nodes_are = c.nodes-nodes.ensures; links_are = c.links-links.ensures; numbers_are = c.numbers-numbers.ensures }) (IsGraph c.args.pool.now)
    (graph c.args.pool.now c.one_number.ensures c.args.branch.now c.requires.over c.args.classes.now c.requires.classes c.shown.ensures c.requires.inside (at_true c.are_low.result _ _ c.if-not-are_low.false c.are_low.ensures))

pub alike_answer-requires-clause-equations : goal.alike_answer-requires-clause-equations
alike_answer-requires-clause-equations c =
    lent_fact c.args.classes.now c.nodes-nodes.result.now c.links-links.result.now c.numbers-numbers.result.now (record { nodes_are = c.nodes-nodes.ensures; links_are = c.links-links.ensures; numbers_are = c.numbers-numbers.ensures }) (λ nodes links numbers. AreSaid c.args.pool.now c.in_ok-chain.chain links numbers)
    (links_said c.args.pool.now c.one_number.ensures c.args.branch.now c.requires.over c.args.classes.now c.requires.classes c.shown.ensures c.in_ok-chain.chain c.in_ok-chain.ensures.formulas)

pub alike_answer-requires-clause-one : goal.alike_answer-requires-clause-one
alike_answer-requires-clause-one c =
    let of = c.formula_of-formula.ensures in
    lent_fact c.args.classes.now c.nodes-nodes.result.now c.links-links.result.now c.numbers-numbers.result.now (record { nodes_are = c.nodes-nodes.ensures; links_are = c.links-links.ensures; numbers_are = c.numbers-numbers.ensures }) (λ nodes links numbers. IsFormulaNode c.args.pool.now nodes numbers c.node-one.result)
    (formula_node c.args.pool.now c.one_number.ensures c.args.branch.now c.requires.over c.args.classes.now c.requires.classes c.formula_of-formula.result c.node-one.result c.node-one.ensures.found c.node-one.ensures.within (subst (IsFormulaNumber c.args.pool.now) of.is (c.requires.over.formulas c.args.said of.entry of.found)) (at_true c.is_shallow.result _ _ c.if-not-is_shallow.false c.is_shallow.ensures))

pub alike_answer-requires-clause-other : goal.alike_answer-requires-clause-other
alike_answer-requires-clause-other c =
    let it = c.denied_by-inner.ensures in
    lent_fact c.args.classes.now c.nodes-nodes.result.now c.links-links.result.now c.numbers-numbers.result.now (record { nodes_are = c.nodes-nodes.ensures; links_are = c.links-links.ensures; numbers_are = c.numbers-numbers.ensures }) (λ nodes links numbers. IsFormulaNode c.args.pool.now nodes numbers c.node-other.result)
    (formula_node c.args.pool.now c.one_number.ensures c.args.branch.now c.requires.over c.args.classes.now c.requires.classes c.denied_by-inner.result c.node-other.result c.node-other.ensures.found c.node-other.ensures.within (denial_number c.args.pool.now it.entry.formula c.denied_by-inner.result it.denial) (denied_shallow c.args.pool.now c.args.branch.now (at_true c.are_low.result _ _ c.if-not-are_low.false c.are_low.ensures) c.args.denied c.denied_by-inner.result it.entry it.found it.denial))

pub alike_answer-requires-clause-linked : goal.alike_answer-requires-clause-linked
alike_answer-requires-clause-linked c =
    let it = c.denied_by-inner.ensures in
    let of = c.formula_of-formula.ensures in
    lent_fact c.args.classes.now c.nodes-nodes.result.now c.links-links.result.now c.numbers-numbers.result.now (record { nodes_are = c.nodes-nodes.ensures; links_are = c.links-links.ensures; numbers_are = c.numbers-numbers.ensures }) (λ nodes links numbers. Linked links c.node-one.result c.node-other.result)
    (are_linked c.args.pool.now c.one_number.ensures c.args.branch.now c.requires.over c.args.classes.now c.requires.classes c.shown.ensures c.formula_of-formula.result c.denied_by-inner.result c.node-one.result c.node-other.result c.node-one.ensures.found c.node-other.ensures.found c.node-one.ensures.within c.node-other.ensures.within
    (same_class c.args.pool.now c.one_number.ensures c.args.branch.now c.requires.over c.args.classes.now c.requires.classes c.exact.ensures c.args.denied c.denied_by-inner.result it.entry it.found it.denial c.args.said c.formula_of-formula.result of.entry of.found of.is c.requires.opposed))

pub alike_answer-requires-clause-said : goal.alike_answer-requires-clause-said
alike_answer-requires-clause-said c =
    let it = c.denied_by-inner.ensures in
    let of = c.formula_of-formula.ensures in
    lent_fact c.args.classes.now c.nodes-nodes.result.now c.links-links.result.now c.numbers-numbers.result.now (record { nodes_are = c.nodes-nodes.ensures; links_are = c.links-links.ensures; numbers_are = c.numbers-numbers.ensures }) (λ nodes links numbers. slice_get c.in_ok-chain.chain.formulas c.args.said ≡ Some (number_at numbers c.node-one.result))
    (said_at c.args.pool.now c.one_number.ensures c.args.branch.now c.requires.over c.args.classes.now c.requires.classes c.exact.ensures c.args.denied c.denied_by-inner.result it.entry it.found it.denial c.args.said c.formula_of-formula.result of.entry of.found of.is c.node-one.result c.node-one.ensures.found c.in_ok-chain.chain.formulas c.in_ok-chain.ensures.formulas)

pub alike_answer-requires-clause-denied : goal.alike_answer-requires-clause-denied
alike_answer-requires-clause-denied c =
    chain_within c.args.branch.now c.in_ok-chain.chain.formulas c.in_ok-chain.ensures.formulas c.args.denied (says_within c.args.pool.now c.args.branch.now c.args.denied (NotFormula c.requires.opposed.other) c.requires.opposed.denies)

pub returns-clause-shown : goal.returns-clause-shown
returns-clause-shown c =
    let ns = c.args.pool.now in
    let ms = c.alike_answer.new.pool in
    let d = c.args.branch.now in
    let b = branch_in ns d in
    let classes = c.args.classes.now in
    let nodes = c.nodes-nodes.result.now in
    let links = c.links-links.result.now in
    let numbers = c.numbers-numbers.result.now in
    let chain = c.in_ok-chain.chain in
    let it = c.denied_by-inner.ensures in
    let lent : AreLent classes nodes links numbers = record { nodes_are = c.nodes-nodes.ensures; links_are = c.links-links.ensures; numbers_are = c.numbers-numbers.ensures } in
    let low = at_true c.are_low.result _ _ c.if-not-are_low.false c.are_low.ensures in
    let is = c.in_ok-chain.ensures.chain ns c.requires.over c.requires.variable in
    let can = lent_fact classes nodes links numbers lent (λ xs ls ks. CanBeginAny ns xs b chain ks) (begins_any ns c.one_number.ensures d c.requires.over classes c.requires.classes c.shown.ensures c.requires.inside low chain c.in_ok-chain.ensures.formulas is) in
    let at = lent_fact classes nodes links numbers lent (λ xs ls ks. IsAt ns chain c.args.denied (NotFormula (formula_at ns (number_at ks c.node-other.result)))) (opposed_at ns c.one_number.ensures d c.requires.over classes c.requires.classes c.exact.ensures c.args.denied c.denied_by-inner.result it.entry it.found it.denial c.node-other.result c.node-other.ensures.found chain c.in_ok-chain.ensures.formulas) in
    ok_map c.alike_answer.result _ _ (λ answer h shapes. h shapes b is can at) c.alike_answer.ensures.shown
