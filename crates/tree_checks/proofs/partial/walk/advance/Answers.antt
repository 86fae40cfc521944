use Rattle.std.proofs.Common.{◌∙◌, ◌++◌, sym, ap, refl, subst, drop, reverse}
use Rattle.search.specs.Trees.{frames, entries_of}
use Rattle.tree_checks.specs.Entries.{cases_by, IsGoneOn}
use Rattle.tree_checks.proofs.WalkLemmas.{walk_straight, walk_fork, goes_straight, goes_aside, goes_nowhere, some_forked}
use Rattle.tree_checks.proofs.partial.walk.advance.Goals as goal

pub returns-then-not-known-clause-walk : goal.returns-then-not-known-clause-walk
returns-then-not-known-clause-walk c = walk_straight c.args.pool.now c.args.walk.now _ c.requires.walk c.in_ok-known.ensures.over c.in_ok-known.ensures.longer refl refl refl

pub returns-then-not-known-clause-exact : goal.returns-then-not-known-clause-exact
returns-then-not-known-clause-exact c = goes_nowhere c.args.pool.now c.args.walk.now c.args.extension.now (rw c.if-not-known.true at c.in_ok-known.ensures.exact)

pub returns-then-not-is_fork-clause-walk : goal.returns-then-not-is_fork-clause-walk
returns-then-not-is_fork-clause-walk c = walk_straight c.args.pool.now c.args.walk.now _ c.requires.walk c.in_ok-known.ensures.over c.in_ok-known.ensures.longer refl refl refl

pub returns-then-not-is_fork-clause-exact : goal.returns-then-not-is_fork-clause-exact
returns-then-not-is_fork-clause-exact c = goes_straight c.args.pool.now c.args.walk.now _ c.requires.walk c.args.extension.now c.requires.is_open c.requires.is_open (sym c.is_fork.ensures ∙ c.if-not-is_fork.true) (rw c.if-not-known.false at c.in_ok-known.ensures.exact) refl

pub push_waiting-requires : goal.push_waiting-requires
push_waiting-requires c =
    let g = c.args.extension.now in
    let gone = rw c.if-not-known.false at c.in_ok-known.ensures.exact in
    record { some = some_forked g c.args.walk.now.branch.entries c.go_on.new.branch.entries (subst (λ f. IsGoneOn (cases_by f (entries_of g)) 0 c.args.walk.now.branch.entries c.go_on.new.branch.entries) (sym c.is_fork.ensures ∙ c.if-not-is_fork.false) gone) }

pub returns-clause-walk : goal.returns-clause-walk
returns-clause-walk c =
    let g = c.args.extension.now in
    walk_fork c.args.pool.now c.args.walk.now _ c.requires.walk c.in_ok-known.ensures.over c.in_ok-known.ensures.longer refl refl g c.requires.formulas (c.in_ok-push_waiting.ensures ∙ ap (λ k. frames k (drop 1 (entries_of g)) ++ reverse c.args.walk.now.waiting.items) c.len-mark.ensures)

pub returns-clause-exact : goal.returns-clause-exact
returns-clause-exact c =
    let g = c.args.extension.now in
    goes_aside c.args.pool.now c.args.walk.now _ c.requires.walk g c.requires.is_open c.requires.is_open (sym c.is_fork.ensures ∙ c.if-not-is_fork.false) (rw c.if-not-known.false at c.in_ok-known.ensures.exact) (c.in_ok-push_waiting.ensures ∙ ap (λ k. frames k (drop 1 (entries_of g)) ++ reverse c.args.walk.now.waiting.items) c.len-mark.ensures)
