use Rattle.type_constraints.specs.SpecSettings.{owner_names, owner_types}
use Rattle.type_constraints.specs.Blocks.{block_of}
use Rattle.type_check.proofs.Placing.{if_ok_map}
use Rattle.type_check.proofs.Owners.{owner_settled, owner_tabled}
use Rattle.type_check.proofs.typed_program.clauses.owner_tables.Goals as goal

pub judged_tables-requires : goal.judged_tables-requires
judged_tables-requires c =
    owner_settled c.args.program.now (owner_names c.args.owner) (block_of c.args.block) (owner_types c.args.owner) c.args.clauses.now c.in_ok-judged.judged.items c.in_ok-judged.ensures c.requires.settled

pub returns : goal.returns
returns c =
    if_ok_map c.judged_tables.result (λ tables p.
    owner_tabled c.args.program.now (owner_names c.args.owner) (block_of c.args.block) (owner_types c.args.owner) c.args.clauses.now c.in_ok-judged.judged.items c.in_ok-judged.ensures tables p)
    c.judged_tables.ensures
