use Rattle.std.proofs.Common.{[], subst}
use Rattle.std.specs.Prelude.{MatchOption}
use Rattle.axioms.specs.Fields.{HasFields}
use Rattle.axiom_instances.specs.Numbers.{term_at, type_at}
use Rattle.axiom_instances.specs.StructRows.{HasNoFields}
use Rattle.axiom_instances.proofs.ListLemmas.{adds_none}
use Rattle.axiom_instances.proofs.PackedLemmas.{packed_all, no_packed}
use Rattle.axiom_instances.proofs.struct_axioms.packed.ask_packed.Goals as goal

pub returns-in_ok-ask_fields-in-Some-clause-adds : goal.returns-in_ok-ask_fields-in-Some-clause-adds
returns-in_ok-ask_fields-in-Some-clause-adds c =
    let a = type_at c.args.pool.now c.args.of in
    let fields : HasFields c.args.shapes.now a c.in-Some.count = subst (λ o. MatchOption o (HasNoFields c.args.shapes.now a) (HasFields c.args.shapes.now a)) c.in-Some.is c.in_ok-count.ensures in
    record { instances = _; adds = c.in_ok-ask_fields-in-Some.ensures.adds; exactly = packed_all c.args.shapes.now a (term_at c.args.pool.now c.args.term) c.in-Some.count fields }

pub returns-in-None-clause-adds : goal.returns-in-None-clause-adds
returns-in-None-clause-adds c =
    let a = type_at c.args.pool.now c.args.of in
    let none : HasNoFields c.args.shapes.now a = subst (λ o. MatchOption o (HasNoFields c.args.shapes.now a) (HasFields c.args.shapes.now a)) c.in-None.is c.in_ok-count.ensures in
    record { instances = []; adds = adds_none _ _; exactly = no_packed c.args.shapes.now a (term_at c.args.pool.now c.args.term) none }
