use Rattle.std.proofs.Common.{◌∷◌, [], List, ℕ, length, sym, subst, ap, ◌∙◌, arith}
use Rattle.std.proofs.lemmas.List.{length-append}
use Rattle.typing_rules.specs.SpecConstraints.{spec_first_argument}
use Rattle.type_constraints.specs.SpecSettings.{setting_of}
use Rattle.type_constraints.specs.SpecKnown.{AreVariables}
use Rattle.type_constraints.proofs.Sums.{first_step, type_variables_more}
use Rattle.type_constraints.proofs.spec.variables.argument_variables.Goals as goal

pub loop-index-preserved : goal.loop-index-preserved
loop-index-preserved c =
    let s = setting_of c.args.setting in
    let variables = c.loop-index.variables.items in
    let next = c.loop-index.next in
    let items = c.in_ok-push.ensures.items in
    record {
      len = ap length items ∙ omega (arith, length-append variables (next ∷ []), c.loop-index.invariant.len);
      next = first_step s c.loop-index.index c.node.result.now next c.node_arity.result c.in_ok-next-2.next c.node.ensures.node c.loop-index.invariant.next c.node_arity.ensures c.in_ok-next-2.ensures;
      first = subst (λ (xs : List ℕ). AreVariables s xs) (sym items)
          (type_variables_more s variables next (c.loop-index.invariant.next ∙ ap (spec_first_argument s) (sym c.loop-index.invariant.len)) c.loop-index.invariant.first);
    }
