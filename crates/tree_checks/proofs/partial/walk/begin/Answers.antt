use Rattle.std.proofs.Common.{◌∙◌, ◌∷◌, [], true, ap, refl}
use Rattle.certificates.specs.BranchesBranch.{Branch}
use Rattle.tree_checks.specs.declared.partial.walk.Walk.{Walk}
use Rattle.tree_checks.proofs.WalkLemmas.{walk_begun, open_begun}
use Rattle.tree_checks.proofs.partial.walk.begin.Goals as goal

pub returns-clause-walk : goal.returns-clause-walk
returns-clause-walk c =
    let w : Walk = record { is_open = true; branch = c.in_ok-branch.branch; waiting = c.new.result; kept = c.nothing_kept.result; trees = c.new-2.result } in
    walk_begun c.args.pool.now w c.new.ensures.items c.in_ok-branch.ensures.over (c.nothing_kept.ensures c.args.pool.now c.in_ok-branch.branch.entries) c.new-2.ensures.items

pub returns-clause-now_open : goal.returns-clause-now_open
returns-clause-now_open c =
    let w : Walk = record { is_open = true; branch = c.in_ok-branch.branch; waiting = c.new.result; kept = c.nothing_kept.result; trees = c.new-2.result } in
    open_begun c.args.pool.now w c.new.ensures.items refl ∙ ap (λ (b : Branch). b ∷ []) c.in_ok-branch.ensures.is
