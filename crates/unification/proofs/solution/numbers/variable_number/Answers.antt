use Rattle.std.proofs.Common.{ℕ, Option, ◌∙◌}
use Rattle.std.proofs.lemmas.Result.{IfOk-weaker}
use Rattle.unification.proofs.Becoming.{slot_read}
use Rattle.unification.proofs.Numbering.{term_within, parts_in_pool, variable_says, open_says_none}
use Rattle.unification.proofs.solution.numbers.variable_number.Goals as goal

pub term_number-requires-clause-within : goal.term_number-requires-clause-within
term_number-requires-clause-within c = term_within c.args.slots.now c.args.variable c.in-Bound.term _ c.requires.fits c.requires.within c.requires.numbers
    (slot_read c.args.slots.now c.args.variable c.index-slots-variable.result c.requires.within c.index-slots-variable.is ∙ c.in-Bound.is)

pub term_number-requires-clause-parts : goal.term_number-requires-clause-parts
term_number-requires-clause-parts c = parts_in_pool c.args.slots.now c.args.pool.now c.args.numbers.now c.args.variable c.in-Bound.term
    (slot_read c.args.slots.now c.args.variable c.index-slots-variable.result c.requires.within c.index-slots-variable.is ∙ c.in-Bound.is) c.requires.parts

pub returns-in-Open-clause-says : goal.returns-in-Open-clause-says
returns-in-Open-clause-says c = open_says_none c.args.slots.now c.args.pool.now c.args.variable _ c.requires.fits
    (slot_read c.args.slots.now c.args.variable c.index-slots-variable.result c.requires.within c.index-slots-variable.is ∙ c.in-Open.is)

pub returns-in-Bound-clause-says : goal.returns-in-Bound-clause-says
returns-in-Bound-clause-says c =
    let e = slot_read c.args.slots.now c.args.variable c.index-slots-variable.result c.requires.within c.index-slots-variable.is ∙ c.in-Bound.is in
    IfOk-weaker c.term_number.result _ _
    (λ (found : Option ℕ) h. variable_says c.args.slots.now c.args.pool.now c.term_number.new.pool c.args.numbers.now c.args.variable c.in-Bound.term found c.requires.within e c.requires.parts h)
    c.term_number.ensures.says
