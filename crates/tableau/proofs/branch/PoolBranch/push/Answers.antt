use Rattle.std.proofs.Common.{◌++◌, ◌∷◌, [], refl, sym, ap, ◌∙◌, subst}
use Rattle.std.specs.Prelude.{unwrap_or}
use Rattle.tableau.specs.Marks.{IsClosed}
use Rattle.tableau.specs.PoolBranches.{BranchData, IsOver}
use Rattle.tableau.proofs.AnswerLemmas.{all_least}
use Rattle.tableau.proofs.PushLemmas.{over_pushed}
use Rattle.tableau.proofs.branch.PoolBranch.push.Goals as goal

pub mark-requires-clause-closed : goal.mark-requires-clause-closed
mark-requires-clause-closed c =
    subst (λ (d : BranchData). IsClosed c.args.pool.now d.generations) (sym c.self.view_is) (all_least c.args.pool.now c.args.self.now c.requires.over).closed

pub returns-clause-over : goal.returns-clause-over
returns-clause-over c =
    let d : BranchData = record { entries = c.self.inside.entries.items; firsts = c.self.inside.firsts; marks = c.self.inside.marks.items; generations = c.self.inside.generations } in
    over_pushed c.args.pool.now d _ (subst (IsOver c.args.pool.now) (sym c.self.view_is) c.requires.over) c.args.entry c.requires.formula c.unwrap_or-first.result (c.unwrap_or-first.ensures ∙ (λ i. unwrap_or (c.value.ensures i) ((c.len-number.ensures ∙ c.self.inside.entries.ok.0) i))) c.mark.new.log c.in_ok-mark.ensures c.in_ok-push-2.ensures.items c.in_ok-write.ensures (c.in_ok-push.ensures.items ∙ ap (λ k. c.self.inside.marks.items ++ k ∷ []) c.len-2.ensures) refl
