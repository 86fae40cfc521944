use Rattle.std.proofs.Common.{◌<◌, ◌≤◌, ℕ, List, length, sym, subst, ◌∙◌, arith}
use Rattle.std.specs.Prelude.{slice_index}
use Rattle.body_types.proofs.Choosing.{nodes_inside, variables_inside, nodes_among, ambiguous_by_head, ambiguous_by_variable, typed_by, types_known}
use Rattle.body_types.proofs.code.typing.typing_of.Goals as goal

pub judge-judged-requires-clause-sound : goal.judge-judged-requires-clause-sound
judge-judged-requires-clause-sound c = c.requires.known.1.0.sound

pub judge-judged-requires-clause-within : goal.judge-judged-requires-clause-within
judge-judged-requires-clause-within c = nodes_inside c.requires.known.0 c.args.body.now.nodes c.args.known c.requires.known.1.0 c.requires.known.1.1

pub types_of_variables-requires-clause-sound : goal.types_of_variables-requires-clause-sound
types_of_variables-requires-clause-sound c = c.requires.known.1.0.sound

pub types_of_variables-requires-clause-variables : goal.types_of_variables-requires-clause-variables
types_of_variables-requires-clause-variables c = variables_inside c.requires.known.0 c.args.known c.requires.known.1.0

pub types_of_variables-requires-clause-dropped : goal.types_of_variables-requires-clause-dropped
types_of_variables-requires-clause-dropped c =
    let among : length c.args.body.now.nodes ≤ c.args.known.variables = nodes_among c.requires.known.0 c.args.body.now.nodes c.args.known c.requires.known.1.0 c.requires.known.1.1 in
    subst (λ (xs : List ℕ). (k : ℕ) → k < length xs → slice_index xs k < c.args.known.variables) (sym c.deref.ensures.value)
    (λ k lt. let h = c.in_ok-dropped.ensures.within k 0 lt in omega (arith, h, among))

pub returns-then-not-is_whole-clause-says : goal.returns-then-not-is_whole-clause-says
returns-then-not-is_whole-clause-says c s is code = (
  ambiguous_by_head s c.args.known (sym c.is_whole.ensures ∙ c.if-not-is_whole.true) is,
  types_known s c.args.body.now.nodes c.args.known c.deref.result.now c.types_of_variables.new.pool c.in_ok-numbers.numbers.items (c.deref.ensures.value ∙ c.in_ok-dropped.ensures.are) c.in_ok-numbers.ensures.says is code,
  c.judge-judged.ensures s is.has code.inside is.reads,
)

pub returns-in-None-clause-says : goal.returns-in-None-clause-says
returns-in-None-clause-says c s is code =
    let given = types_known s c.args.body.now.nodes c.args.known c.deref.result.now c.types_of_variables.new.pool c.in_ok-numbers.numbers.items (c.deref.ensures.value ∙ c.in_ok-dropped.ensures.are) c.in_ok-numbers.ensures.says is code in (
      ambiguous_by_variable s c.types_of_variables.new.pool c.in_ok-numbers.numbers.items c.deref-2.result.now _ c.in-None.is c.deref-2.ensures.value c.in_ok-choose.ensures given,
      given,
      c.judge-judged.ensures s is.has code.inside is.reads,
    )

pub returns-clause-says : goal.returns-clause-says
returns-clause-says c s is code =
    let given = types_known s c.args.body.now.nodes c.args.known c.deref.result.now c.types_of_variables.new.pool c.in_ok-numbers.numbers.items (c.deref.ensures.value ∙ c.in_ok-dropped.ensures.are) c.in_ok-numbers.ensures.says is code in
    let typed = typed_by s c.args.known c.types_of_variables.new.pool c.in_ok-numbers.numbers.items c.deref-2.result.now c.in-Some.chosen _ c.in-Some.is c.deref-2.ensures.value
    (sym c.is_whole.ensures ∙ c.if-not-is_whole.false) c.in_ok-choose.ensures given is in (typed.0, typed.1, c.judge-judged.ensures s is.has code.inside is.reads)
