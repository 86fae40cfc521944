use Rattle.unification.proofs.Growing.{grown}
use Rattle.type_solver.proofs.Emitting.{said_later, said_before}
use Rattle.type_solver.proofs.constraints.alike.Goals as goal

pub returns-clause-emits : goal.returns-clause-emits
returns-clause-emits c w = c.alike_by.ensures w c.args.slots.now.items c.kind_at-second.new.slots.items
    (said_later c.args.slots.now.items c.kind_at-first.new.slots.items c.kind_at-second.new.slots.items c.args.left c.kind_at-first.result c.kind_at-first.ensures.said c.kind_at-second.ensures.keeps c.requires.left)
    (said_before c.args.slots.now.items c.kind_at-first.new.slots.items c.kind_at-second.new.slots.items c.args.right c.kind_at-second.result c.kind_at-first.ensures.keeps c.kind_at-second.ensures.said)
    c.requires.left c.requires.right

pub returns-clause-keeps : goal.returns-clause-keeps
returns-clause-keeps c = grown c.kind_at-first.ensures.keeps c.kind_at-second.ensures.keeps
