use Rattle.fol.specs.FormulaData.{VarTerm}
use Rattle.term_pool.specs.declared.node.Leaf.TheVariants.{Var}
use Rattle.term_pool.proofs.GrowthLemmas.{if_ok, leaf_made}
use Rattle.term_pool.specs.Put.{put_in}
use Rattle.tableau.specs.Numbers.{formula_at}
use Rattle.tableau.proofs.UnnamedLemmas.{named_body, negation_part, negation_item, body_number, negation_number}
use Rattle.tableau.proofs.names.existentials.named.Goals as goal

pub insert-requires-then-existential : goal.insert-requires-then-existential
insert-requires-then-existential c =
    let said = put_in c.args.existential.variable (VarTerm c.args.name) (formula_at c.args.pool.now c.args.existential.body) in
    negation_part c.put_in.new.pool said c.in_ok-body.body (named_body c.args.pool.now c.insert.new.self c.put_in.new.pool c.insert.ensures.extends (record { variable = c.args.existential.variable; term = c.in_ok-term.term }) c.args.name c.args.existential.body c.in_ok-body.body c.requires (leaf_made (Var c.args.name) c.in_ok-term.ensures.is) c.in_ok-body.ensures.is)

pub returns-then-existential-clause-is : goal.returns-then-existential-clause-is
returns-then-existential-clause-is c =
    let said = put_in c.args.existential.variable (VarTerm c.args.name) (formula_at c.args.pool.now c.args.existential.body) in
    let item = named_body c.args.pool.now c.insert.new.self c.put_in.new.pool c.insert.ensures.extends (record { variable = c.args.existential.variable; term = c.in_ok-term.term }) c.args.name c.args.existential.body c.in_ok-body.body c.requires (leaf_made (Var c.args.name) c.in_ok-term.ensures.is) c.in_ok-body.ensures.is in
    if_ok c.insert-then-existential.result (λ k made. negation_number c.insert-then-existential.new.self c.args.existential.is_negated said k c.if-existential.true (negation_item c.put_in.new.pool c.insert-then-existential.new.self c.insert-then-existential.ensures.extends said c.in_ok-body.body k item made)) c.insert-then-existential.ensures.is

pub returns-clause-is : goal.returns-clause-is
returns-clause-is c =
    let said = put_in c.args.existential.variable (VarTerm c.args.name) (formula_at c.args.pool.now c.args.existential.body) in
    body_number c.put_in.new.pool c.args.existential.is_negated said c.in_ok-body.body c.if-existential.false (named_body c.args.pool.now c.insert.new.self c.put_in.new.pool c.insert.ensures.extends (record { variable = c.args.existential.variable; term = c.in_ok-term.term }) c.args.name c.args.existential.body c.in_ok-body.body c.requires (leaf_made (Var c.args.name) c.in_ok-term.ensures.is) c.in_ok-body.ensures.is)
