use Rattle.std.proofs.Common.{ℕ, List, Option}
use Rattle.std.proofs.lemmas.Result.{IfOk-weaker}
use Rattle.unification.proofs.Deciding.{choice_says}
use Rattle.unification.proofs.solution.choice.choose.Goals as goal

pub returns : goal.returns
returns c = IfOk-weaker c.part_numbers.result _ _ (λ (found : Option (List ℕ)) h. choice_says c.args.numbers.now found h) c.part_numbers.ensures
