use Rattle.tree_checks.proofs.texts.numbers.is_term.Goals as goal

pub returns : goal.returns
returns c = λ t. (let part = c.is_term.ensures.0 t in record { within = part.earlier; sort = part.sort })
