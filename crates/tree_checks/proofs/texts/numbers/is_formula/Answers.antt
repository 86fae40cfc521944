use Rattle.tree_checks.proofs.texts.numbers.is_formula.Goals as goal

pub returns : goal.returns
returns c = λ t. (let part = c.is_formula.ensures.0 t in record { within = part.earlier; sort = part.sort })
