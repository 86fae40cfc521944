use Rattle.std.proofs.Common.{◌≡◌, ◌++◌, ◌∙◌, sym, ap, subst, OnOk}
use Rattle.syntax_tree.specs.ExpressionData.{ExpressionData}
use Rattle.syntax_tree.specs.ExpressionView.{expression_of_node}
use Rattle.syntax_tree.specs.ExpressionSpelling.{expression_spelling}
use Rattle.spelling.proofs.Steps.{three_parts}
use Rattle.spelling.proofs.ExpressionCommas.{items_taken, expressions_comma_list, field_values_comma_list}
use Rattle.spelling.proofs.spell_expression.+spell_expression.Goals as goal

pub spell_expressions-returns : goal.spell_expressions-returns
spell_expressions-returns t c =
    three_parts _ _ _ _ c.in_ok-spell_expression.ensures c.in_ok-spell_more_expressions.ensures c.in_ok-push_last_comma.ensures (expressions_comma_list c.args.expressions.now c.in-Some.first.now c.in-Some.rest.now c.args.last_comma c.in-Some.ensures.cases.0)

pub spell_field_values-returns : goal.spell_field_values-returns
spell_field_values-returns t c =
    three_parts _ _ _ _ c.in_ok-spell_field_value.ensures c.in_ok-spell_more_field_values.ensures c.in_ok-push_last_comma.ensures (field_values_comma_list c.args.fields.now c.in-Some.first.now c.in-Some.rest.now c.args.last_comma c.in-Some.ensures.cases.0)

pub spell_expression-returns-in-Continue : goal.spell_expression-returns-in-Continue
spell_expression-returns-in-Continue t c =
    let e = sym c.expression.view_is ∙ ap expression_of_node c.in-Continue.is in
    let P : ExpressionData → Type 0 = λ x. OnOk c.push_word-in-Continue.result (c.push_word-in-Continue.new.self ≡ c.args.into.now ++ expression_spelling x) in
    subst P (sym e) c.push_word-in-Continue.ensures

pub spell_items-returns : goal.spell_items-returns
spell_items-returns t c = c.loop-one.invariant ∙ ap (λ more. c.args.into.now ++ more) (items_taken c.args.items.now c.loop-one.one-index c.loop-one-test.false)
