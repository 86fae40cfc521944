use Rattle.step_checks.proofs.DigitLemmas.{number_of_two}
use Rattle.step_checks.proofs.naturals.natural.BigNatural.new.Goals as goal

pub returns : goal.returns
returns c = number_of_two c.args.number c.push-2.new.self.items (rw (c.in_ok-push-2.ensures.items, c.in_ok-push.ensures.items, c.in_ok-parts.ensures.items))
