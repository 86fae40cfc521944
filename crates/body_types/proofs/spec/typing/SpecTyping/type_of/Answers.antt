use Rattle.std.proofs.Common.{subst}
use Rattle.body_types.specs.SpecTyped.{SpecTypingSays}
use Rattle.body_types.specs.declared.spec.typing.SpecTyping.{SpecTyping}
use Rattle.body_types.proofs.Telling.{none_of_untypable, variable_of_types, variable_of_numbers}
use Rattle.body_types.proofs.spec.typing.SpecTyping.type_of.Goals as goal

pub returns-in-Untypable : goal.returns-in-Untypable
returns-in-Untypable c s pool h lt = none_of_untypable s pool c.args.self.now c.args.variable c.in-Untypable.is h

pub returns-in-Ambiguous : goal.returns-in-Ambiguous
returns-in-Ambiguous c s pool h lt =
    let says = subst (λ (x : SpecTyping). SpecTypingSays s pool x) c.in-Ambiguous.is h in
    variable_of_types s pool c.in-Ambiguous.numbers.items c.as_slice.result.now c.args.variable c.number_at.result c.as_slice.ensures.value c.number_at.ensures says.1 lt

pub returns-in-Typed : goal.returns-in-Typed
returns-in-Typed c s pool h lt = variable_of_numbers s pool c.in-Typed.numbers c.as_slice-in-Typed.result.now c.args.self.now c.args.variable c.number_in.result c.in-Typed.is c.as_slice-in-Typed.ensures c.number_in.ensures h lt
