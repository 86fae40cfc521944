use Rattle.std.proofs.Common.{true, [], ◌∷◌, ◌++◌, ◌∙◌, ap, refl}
use Rattle.tree_checks.specs.declared.grown.keeping.Kept.{Kept}
use Rattle.tree_checks.specs.declared.partial.walk.Walk.{Walk}
use Rattle.tree_checks.proofs.WalkLemmas.{next_stands, walk_resumed, open_resumed}
use Rattle.tree_checks.proofs.partial.walk.resume.Goals as goal

pub push-requires-clause-over : goal.push-requires-clause-over
push-requires-clause-over c = c.truncate.ensures.over c.args.pool.now c.requires.walk.over

pub push-requires-clause-formula : goal.push-requires-clause-formula
push-requires-clause-formula c =
    let w = c.args.walk.now in
    let v : Walk = record w { waiting = c.pop.new.self } in
    next_stands c.args.pool.now w v c.requires.walk c.in-Some.next c.in-Some.ensures.items

pub returns-clause-walk : goal.returns-clause-walk
returns-clause-walk c =
    let w = c.args.walk.now in
    let ns = c.args.pool.now in
    let next = c.in-Some.next in
    walk_resumed ns w _ c.requires.walk next c.in-Some.ensures.items (c.in_ok-push.ensures.entries ∙ ap (λ es. es ++ next.entry ∷ []) c.truncate.ensures.entries) c.in_ok-push.ensures.over (c.truncate-2.ensures ns w.branch.entries c.requires.walk.kept.above) refl refl refl c.truncate-3.ensures.items

pub returns-clause-now_open : goal.returns-clause-now_open
returns-clause-now_open c =
    let w = c.args.walk.now in
    let ns = c.args.pool.now in
    let next = c.in-Some.next in
    let kept : Kept = record { variables = c.truncate-2.new.self; state = w.kept.state; heads = w.kept.heads; quantifiers = w.kept.quantifiers } in
    let v : Walk = record { is_open = true; branch = c.push.new.self; waiting = c.pop.new.self; kept = kept; trees = c.truncate-3.new.self } in
    open_resumed ns w v c.requires.walk next c.in-Some.ensures.items (c.in_ok-push.ensures.entries ∙ ap (λ es. es ++ next.entry ∷ []) c.truncate.ensures.entries) refl
