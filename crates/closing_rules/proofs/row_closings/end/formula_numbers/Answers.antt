use Rattle.std.proofs.Common.{[], ◌∷◌, ◌++◌, map, take, sym, ap, ◌∙◌}
use Rattle.tableau.specs.Terms.{formula_number}
use Rattle.row_reasoning.proofs.CoefficientLemmas.{take_found}
use Rattle.closing_rules.proofs.EndLemmas.{map_push}
use Rattle.closing_rules.proofs.row_closings.end.formula_numbers.Goals as goal

pub loop-number-preserved : goal.loop-number-preserved
loop-number-preserved c =
    c.in_ok-push.ensures.items
    ∙ ap (λ ks. ks ++ c.in-Some.entry.formula ∷ []) c.loop-number.invariant
    ∙ sym (map_push formula_number (take c.loop-number.number c.args.branch.now.entries) c.in-Some.entry)
    ∙ ap (map formula_number) (sym (take_found c.args.branch.now.entries c.loop-number.number c.in-Some.entry (sym c.in-Some.ensures)))
