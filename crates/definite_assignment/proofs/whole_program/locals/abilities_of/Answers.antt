use Rattle.std.proofs.Common.{List, length, ◌∙◌, ap}
use Rattle.std.proofs.lemmas.Result.{IfOk-weaker}
use Rattle.program.specs.declared.declaration.TypeParameter.{TypeParameter}
use Rattle.typing_rules.specs.Required.{given_abilities}
use Rattle.type_constraints.proofs.Variables.{nodes_within}
use Rattle.typing_rules.specs.Pools.{types}
use Rattle.definite_assignment.proofs.Bodies.{all_known, from_first, judged_body}
use Rattle.definite_assignment.proofs.whole_program.locals.abilities_of.Goals as goal

pub judge_types-requires-clause-parts : goal.judge_types-requires-clause-parts
judge_types-requires-clause-parts c = from_first c.args.known.pool.now

pub local_abilities-requires-clause-within : goal.local_abilities-requires-clause-within
local_abilities-requires-clause-within c =
    nodes_within c.args.program.now c.args.function.now (types c.args.known.pool.now) c.args.known.types.now c.requires.typed

pub local_abilities-requires-clause-known : goal.local_abilities-requires-clause-known
local_abilities-requires-clause-known c =
    all_known c.in_ok-table.table (length c.args.known.pool.now) c.args.known.types.now c.in_ok-table.ensures.start c.in_ok-table.ensures.len c.requires.within

pub returns : goal.returns
returns c =
    let known = all_known c.in_ok-table.table (length c.args.known.pool.now) c.args.known.types.now c.in_ok-table.ensures.start c.in_ok-table.ensures.len c.requires.within in
    let given = c.as_slice-constraints.ensures.value ∙ c.in_ok-given.ensures ∙ ap (λ (ps : List TypeParameter). given_abilities ps) c.as_slice-parameters.ensures in
    IfOk-weaker c.local_abilities.result _ _
    (λ sets h. h c.args.program.now
    (judged_body c.args.program.now c.args.function.now c.args.known.pool.now c.args.known.types.now c.as_slice-constraints.result.now c.in_ok-table.table given c.requires.typed c.in_ok-table.ensures.known known))
    c.local_abilities.ensures
