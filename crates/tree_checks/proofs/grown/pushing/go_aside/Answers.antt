use Rattle.std.proofs.Common.{◌≤◌, ◌<◌, length, get_or, ap, ◌∙◌, arith, [], ◌∷◌, ◌++◌}
use Rattle.std.proofs.lemmas.List.{get_or_default}
use Rattle.certificates.specs.declared.branches.origin.Origin.{Origin}
use Rattle.search.proofs.PushLemmas.{entry_with}
use Rattle.tree_checks.proofs.CaseLemmas.{no_room, gone_aside}
use Rattle.tree_checks.proofs.grown.pushing.go_aside.Goals as goal

pub returns-then-len-ge-MOST_ENTRIES-clause-exact : goal.returns-then-len-ge-MOST_ENTRIES-clause-exact
returns-then-len-ge-MOST_ENTRIES-clause-exact c =
    let full : 4000 ≤ length c.args.branch.now.entries = omega arith in
    no_room c.args.extension.now c.args.case c.args.branch.now.entries full

pub returns-clause-exact : goal.returns-clause-exact
returns-clause-exact c =
    let g = c.args.extension.now in
    let within : c.args.case < length g.formulas.items = omega arith in
    let room : length c.args.branch.now.entries < 4000 = omega arith in
    let one = c.entry_with-entry.ensures ∙ ap (λ n. entry_with n g.generation c.origin_of.result) (c.index-formula.ensures ∙ get_or_default g.formulas.items c.args.case c.index-formula.result.now 0 within) ∙ ap (λ (o : Origin). entry_with (get_or g.formulas.items c.args.case 0) g.generation o) c.origin_of.ensures in
    gone_aside g c.args.case c.args.branch.now.entries 0 within room c.push.new.self.entries (c.in_ok-push.ensures.entries ∙ ap (λ e. c.args.branch.now.entries ++ e ∷ []) one)
