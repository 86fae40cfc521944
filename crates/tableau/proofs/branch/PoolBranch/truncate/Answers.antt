use Rattle.std.proofs.Common.{◌≡◌, take, sym, ap, ◌∙◌, subst}
use Rattle.tableau.specs.PoolBranches.{BranchData, mark_at, IsOver}
use Rattle.tableau.proofs.PushLemmas.{over_truncated}
use Rattle.tableau.proofs.branch.PoolBranch.truncate.Goals as goal

pub returns-clause-over : goal.returns-clause-over
returns-clause-over c ns over =
    let d : BranchData = record { entries = c.self.inside.entries.items; firsts = c.self.inside.firsts; marks = c.self.inside.marks.items; generations = c.self.inside.generations } in
    let mark : c.mark_at-mark.result ≡ mark_at c.args.self.now c.args.count = cc in
    over_truncated ns d _ c.args.count c.truncate-4.ensures.items c.truncate-3.ensures c.truncate-2.ensures.items (c.truncate.ensures ∙ ap (λ k. take k c.self.inside.generations) (mark ∙ ap (λ (b : BranchData). mark_at b c.args.count) (sym c.self.view_is))) (subst (IsOver ns) (sym c.self.view_is) over)
