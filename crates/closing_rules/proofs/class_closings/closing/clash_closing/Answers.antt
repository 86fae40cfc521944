use Rattle.closing_rules.proofs.class_closings.closing.clash_closing.Goals as goal

pub returns-in-False-clause-shown : goal.returns-in-False-clause-shown
returns-in-False-clause-shown c = λ shapes. c.literal_closing-closing.ensures shapes
