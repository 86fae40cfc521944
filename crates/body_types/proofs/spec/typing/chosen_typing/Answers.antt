use Rattle.body_types.proofs.Telling.{no_choice, choice}
use Rattle.body_types.proofs.spec.typing.chosen_typing.Goals as goal

pub returns-in-None : goal.returns-in-None
returns-in-None c s pool are whole = (no_choice s pool c.args.numbers.items c.deref.result.now _ c.deref.ensures.value c.in-None.is c.in_ok-choose.ensures are, are)

pub returns-in-Some : goal.returns-in-Some
returns-in-Some c s pool are whole = choice s pool c.args.numbers.items c.deref.result.now c.in-Some.chosen _ c.deref.ensures.value c.in-Some.is c.in_ok-choose.ensures are whole
