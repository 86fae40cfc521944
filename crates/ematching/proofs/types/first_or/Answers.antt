use Rattle.std.proofs.Common.{inl, inr, refl}
use Rattle.ematching.proofs.types.first_or.Goals as goal

pub returns-in-Some : goal.returns-in-Some
returns-in-Some c = inl (record { rest = _; is = c.in-Some.ensures })

pub returns-in-None : goal.returns-in-None
returns-in-None c = inr (c.in-None.ensures, refl)
