use Rattle.std.proofs.Common.{◌++◌, ◌∷◌, [], sym, ap, ◌∙◌, subst}
use Rattle.std.proofs.lemmas.List.{nil_from_length}
use Rattle.congruence_closure.specs.declared.forest_paths.Task.TheVariants.{Cross}
use Rattle.congruence_closure.proofs.PathLemmas.{IsWalked, walk_begun, walk_taken, walk_next, walk_done, walk_falls}
use Rattle.congruence_closure.proofs.forest_paths.path.Goals as goal

pub loop-task-init : goal.loop-task-init
loop-task-init c =
    subst (λ p. IsWalked c.args.links.now c.args.span.before c.args.span.from c.args.span.to p c.push.new.self.items) (sym c.new-path.ensures.items)
    (walk_begun c.args.links.now c.args.span.before c.args.span.from c.args.span.to c.push.new.self.items c.requires.linked (c.in_ok-push.ensures.items ∙ ap (λ xs. xs ++ Cross c.args.span ∷ []) c.new-tasks.ensures.items))

pub take_turn-requires-clause-linked : goal.take_turn-requires-clause-linked
take_turn-requires-clause-linked c =
    walk_taken c.args.links.now c.args.span.before c.args.span.from c.args.span.to c.loop-task.path.items c.loop-task.tasks.items c.pop.new.self.items c.in-Some.task c.loop-task.invariant c.in-Some.ensures.items

pub loop-task-smaller : goal.loop-task-smaller
loop-task-smaller c =
    walk_falls c.args.links.now c.loop-task.path.items c.take_turn.new.path.items c.loop-task.tasks.items c.pop.new.self.items c.take_turn.new.tasks.items c.in-Some.task c.in-Some.ensures.items c.in_ok-take_turn.ensures

pub loop-task-preserved : goal.loop-task-preserved
loop-task-preserved c =
    walk_next c.args.links.now c.args.span.before c.args.span.from c.args.span.to c.loop-task.path.items c.take_turn.new.path.items c.loop-task.tasks.items c.pop.new.self.items c.take_turn.new.tasks.items c.in-Some.task c.loop-task.invariant c.in-Some.ensures.items c.in_ok-take_turn.ensures

pub returns : goal.returns
returns c =
    walk_done c.args.links.now c.args.span.before c.args.span.from c.args.span.to c.loop-task.path.items c.loop-task.tasks.items c.loop-task.invariant (nil_from_length c.loop-task.tasks.items (sym c.loop-task.tasks.ok.0 ∙ c.in_default.ensures.cases.0))
