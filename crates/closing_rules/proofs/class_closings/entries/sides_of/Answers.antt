use Rattle.closing_rules.proofs.class_closings.entries.sides_of.Goals as goal

pub returns-in-None : goal.returns-in-None
returns-in-None c = absurd (c.in-None.ensures.none c.requires.equates.left c.requires.equates.right c.requires.equates.is)
