use Rattle.std.proofs.Common.{◌++◌, map, ap, ◌∙◌}
use Rattle.axiom_strategy.specs.Askers.{term_asker, typing_asker}
use Rattle.axiom_strategy.proofs.ranges.range_askers.Goals as goal

pub returns : goal.returns
returns c =
    let terms = c.in_ok-add_terms.ensures ∙ ap (λ xs. xs ++ map term_asker c.args.terms.now) c.new-askers.ensures.items in
    c.in_ok-add_typings.ensures ∙ ap (λ xs. xs ++ map typing_asker c.args.typings.now) terms
