use Rattle.std.proofs.Common.{refl}
use Rattle.axiom_instances.specs.Numbers.{term_at, type_at}
use Rattle.axiom_instances.proofs.ListLemmas.{ready, ok_made, ok_as, adds_nothing}
use Rattle.axiom_instances.proofs.NumberLemmas.{given_3, one_term}
use Rattle.axiom_instances.proofs.SetFieldLemmas.{no_other, an_other}
use Rattle.axiom_instances.proofs.struct_axioms.set_fields.ask_other_field.Goals as goal

pub returns-then-other-set-clause-adds : goal.returns-then-other-set-clause-adds
returns-then-other-set-clause-adds c =
    let ns = c.args.pool.now in
    adds_nothing _ _ (no_other (type_at ns c.args.set.of) c.args.other c.args.set.field (term_at ns c.args.set.before) (term_at ns c.args.set.value) c.if-other-set.true)

pub ask-requires : goal.ask-requires
ask-requires c = ready (given_3 c.requires.whole c.requires.of c.requires.first) refl refl

pub returns-clause-adds : goal.returns-clause-adds
returns-clause-adds c =
    let ns = c.args.pool.now in
    ok_as _ _ _ _ c.ask.result (an_other (type_at ns c.args.set.of) c.args.other c.args.set.field (term_at ns c.args.set.before) (term_at ns c.args.set.value) c.if-other-set.false) (ok_made _ _ _ _ _ c.ask.result c.ask.ensures.adds (given_3 c.requires.whole c.requires.of c.requires.first) (one_term c.requires.whole))
