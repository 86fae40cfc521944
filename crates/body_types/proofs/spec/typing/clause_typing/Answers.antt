use Rattle.std.proofs.lemmas.Result.{IfOk-weaker}
use Rattle.typing_rules.specs.Clauses.{clause_system}
use Rattle.type_constraints.specs.Blocks.{block_of}
use Rattle.type_constraints.specs.SpecSettings.{names_of, owner_types}
use Rattle.body_types.proofs.Telling.{clause_walk}
use Rattle.body_types.proofs.spec.typing.clause_typing.Goals as goal

pub typing_of-requires : goal.typing_of-requires
typing_of-requires c = (
  clause_system c.args.program.now (names_of c.args.names) (block_of c.args.block) (owner_types c.args.names.owner) c.args.clause.now,
  clause_walk c.args.program.now (names_of c.args.names) (block_of c.args.block) (owner_types c.args.names.owner) c.args.clause.now c.in_ok-walk.walk c.in_ok-walk.ensures.walked c.in_ok-walk.ensures.variables,
)

pub returns-clause-says : goal.returns-clause-says
returns-clause-says c =
    let walk = clause_walk c.args.program.now (names_of c.args.names) (block_of c.args.block) (owner_types c.args.names.owner) c.args.clause.now c.in_ok-walk.walk c.in_ok-walk.ensures.walked c.in_ok-walk.ensures.variables in
    IfOk-weaker c.typing_of.result _ _
    (λ typing h. h (clause_system c.args.program.now (names_of c.args.names) (block_of c.args.block) (owner_types c.args.names.owner) c.args.clause.now) walk)
    c.typing_of.ensures.says
