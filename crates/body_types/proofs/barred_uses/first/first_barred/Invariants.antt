use Rattle.program.specs.Order.{IsFirstOrNone}
use Rattle.body_types.specs.Firsts.{FirstsBreak}
use Rattle.body_types.proofs.barred_uses.first.first_barred.Given as goal

abbrev pub invariant-loop-number : goal.invariant-loop-number
invariant-loop-number l = IsFirstOrNone (FirstsBreak l.program l.number) l.found
