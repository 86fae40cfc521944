use Rattle.std.proofs.lemmas.Option.{MatchOption-at_none, MatchOption-at_some}
use Rattle.unification.specs.Choices.{LeavesNoTyping, TypesAsKnown}
use Rattle.body_types.proofs.Telling.{none_untypable, types_known, stopped_ambiguous}
use Rattle.body_types.proofs.spec.typing.stopped_typing.Goals as goal

pub returns-in-None-clause-says : goal.returns-in-None-clause-says
returns-in-None-clause-says c s k stops = none_untypable s c.args.slots.now c.args.variables
    (MatchOption-at_none (LeavesNoTyping c.args.slots.now) (λ numbers. TypesAsKnown c.args.slots.now c.args.variables c.types_without_defaults.new.pool numbers.items) c.in-None.is c.in_ok-types_without_defaults.ensures.says) k

pub returns-in-Some-clause-says : goal.returns-in-Some-clause-says
returns-in-Some-clause-says c s k stops =
    let are = types_known s c.args.slots.now c.args.variables c.types_without_defaults.new.pool c.in-Some.numbers.items
    (MatchOption-at_some (LeavesNoTyping c.args.slots.now) (λ numbers. TypesAsKnown c.args.slots.now c.args.variables c.types_without_defaults.new.pool numbers.items) c.in-Some.numbers c.in-Some.is c.in_ok-types_without_defaults.ensures.says) k in
    (stopped_ambiguous s c.types_without_defaults.new.pool c.in-Some.numbers.items are stops, are)
