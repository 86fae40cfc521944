use Rattle.std.proofs.Common.{Option, subst}
use Rattle.base.specs.declared.types.Width.{Width}
use Rattle.unification.specs.Choices.{WidthSays}
use Rattle.body_types.proofs.Misfitting.{fits_none, fits_width}
use Rattle.body_types.proofs.code.fitting.number_misfits.Goals as goal

pub returns-in-Some : goal.returns-in-Some
returns-in-Some c s has lt = fits_width s c.args.defaulted.now c.args.variable c.args.value c.in-Some.width c.fits.result c.requires.sound
    (subst (λ (w : Option Width). WidthSays c.args.defaulted.now c.args.variable w) c.in-Some.is c.integer_width.ensures) c.fits.ensures has lt

pub returns-in-None : goal.returns-in-None
returns-in-None c s has lt = fits_none s c.args.defaulted.now c.args.variable c.args.value
    (subst (λ (w : Option Width). WidthSays c.args.defaulted.now c.args.variable w) c.in-None.is c.integer_width.ensures) has lt
