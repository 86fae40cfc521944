use Rattle.std.proofs.Common.{sym, ◌∙◌, subst}
use Rattle.std.proofs.lemmas.List.{take_all}
use Rattle.ematching.specs.Numbers.{IsOnce}
use Rattle.ematching.proofs.FoundLemmas.{once_from_distinct}
use Rattle.ematching.proofs.found.Found.listed.Goals as goal

pub returns-clause-once : goal.returns-clause-once
returns-clause-once c =
    subst IsOnce (sym (c.loop-number.invariant ∙ take_all c.loop-number.number-index c.as_slice-number-items.result.now c.loop-number-test.false ∙ c.as_slice-number-items.ensures.keys)) (once_from_distinct c.self.inside.numbers.keys c.as_slice-number-items.ensures.unique)
