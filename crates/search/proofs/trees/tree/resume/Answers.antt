use Rattle.std.proofs.Common.{◌≡◌, List, [], ◌∷◌, reverse, ap, ◌∙◌, subst}
use Rattle.std.specs.Prelude.{All}
use Rattle.std.proofs.lemmas.List.{reverse-append}
use Rattle.std.proofs.lemmas.List.Elements.{All-head}
use Rattle.search.specs.declared.trees.tree.Waiting.{Waiting}
use Rattle.search.proofs.TreeLemmas.{Stands}
use Rattle.search.proofs.trees.tree.resume.Goals as goal

pub push-requires-clause-over : goal.push-requires-clause-over
push-requires-clause-over c = c.truncate.ensures.over c.args.pool.now c.requires.over

pub push-requires-clause-formula : goal.push-requires-clause-formula
push-requires-clause-formula c =
    let turned : reverse c.args.tree.now.waiting.items ≡ c.in-Some.next ∷ reverse c.pop.new.self.items = ap reverse c.in-Some.ensures.items ∙ reverse-append c.pop.new.self.items (c.in-Some.next ∷ []) in
    All-head (Stands c.args.pool.now) c.in-Some.next (reverse c.pop.new.self.items) (subst (λ (ws : List Waiting). All (Stands c.args.pool.now) ws) turned c.requires.waiting)
