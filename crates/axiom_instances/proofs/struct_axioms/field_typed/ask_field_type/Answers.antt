use Rattle.std.proofs.Common.{refl}
use Rattle.axiom_instances.specs.Numbers.{term_at, type_at}
use Rattle.axiom_instances.proofs.ListLemmas.{ready, adds_nothing, ok_made, ok_as}
use Rattle.axiom_instances.proofs.NumberLemmas.{given_3, one_term}
use Rattle.axiom_instances.proofs.FieldRowLemmas.{no_row, one_row, is_found}
use Rattle.axiom_instances.proofs.struct_axioms.field_typed.ask_field_type.Goals as goal

pub ask-requires : goal.ask-requires
ask-requires c = ready (given_3 c.requires.term c.requires.of (is_found c.in-Some.is c.requires.found)) refl refl

pub returns-in-Some-clause-adds : goal.returns-in-Some-clause-adds
returns-in-Some-clause-adds c =
    ok_as _ _ _ _ c.ask.result (one_row c.args.pool.now (type_at c.args.pool.now c.args.of) (term_at c.args.pool.now c.args.term) c.args.field c.in-Some.is) (ok_made _ _ _ _ _ c.ask.result c.ask.ensures.adds (given_3 c.requires.term c.requires.of (is_found c.in-Some.is c.requires.found)) (one_term c.requires.term))

pub returns-in-None-clause-adds : goal.returns-in-None-clause-adds
returns-in-None-clause-adds c =
    adds_nothing _ _ (no_row c.args.pool.now (type_at c.args.pool.now c.args.of) (term_at c.args.pool.now c.args.term) c.args.field c.in-None.is)
