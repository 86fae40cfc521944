use Rattle.strategy.proofs.deciders.FormulaDeciders.new.Goals as goal

pub returns-clause-knows : goal.returns-clause-knows
returns-clause-knows c = λ ns. record { few = c.requires; state = c.new.ensures ns; heads = c.new-2.ensures ns; quantifiers = c.new-3.ensures ns; known = c.new-4.ensures c.args.shapes.now ns }
