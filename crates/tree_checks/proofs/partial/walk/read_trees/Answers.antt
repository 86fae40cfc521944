use Rattle.std.proofs.Common.{◌≡◌, ◌∙◌, ◌++◌, ◌∷◌, [], Some, List, length, ap, sym}
use Rattle.std.specs.Prelude.{slice_get}
use Rattle.fol.specs.FormulaData.{FormulaData}
use Rattle.tableau.specs.Numbers.{formula_at}
use Rattle.tree_checks.proofs.TreeLemmas.{trees_more, trees_all}
use Rattle.tree_checks.proofs.partial.walk.read_trees.Goals as goal

pub loop-entry-preserved : goal.loop-entry-preserved
loop-entry-preserved c =
    let next : slice_get c.args.branch.now.entries (length c.loop-entry.trees.items) ≡ Some c.in-Some.entry = ap (slice_get c.args.branch.now.entries) (sym (c.len.ensures ∙ c.loop-entry.trees.ok.0)) ∙ sym c.in-Some.ensures in
    let pushed : c.push.new.self.items ≡ c.loop-entry.trees.items ++ formula_at c.args.pool.now c.in-Some.entry.formula ∷ [] = ◌∙◌ {A = List FormulaData} c.in_ok-push.ensures.items (ap (λ f. c.loop-entry.trees.items ++ f ∷ []) c.in_ok-read_formula.ensures) in
    trees_more c.args.pool.now c.args.branch.now.entries c.loop-entry.trees.items c.push.new.self.items c.in-Some.entry next pushed c.loop-entry.invariant

pub returns : goal.returns
returns c =
    trees_all c.args.pool.now c.args.branch.now.entries c.loop-entry.trees.items (sym c.in_default.is ∙ c.entry.ensures ∙ ap (slice_get c.args.branch.now.entries) (c.len.ensures ∙ c.loop-entry.trees.ok.0)) c.loop-entry.invariant
