use Rattle.std.proofs.Common.{[], subst, arith}
use Rattle.std.specs.Prelude.{MatchOption}
use Rattle.axioms.specs.Fields.{HasFields}
use Rattle.axiom_instances.specs.Numbers.{type_at}
use Rattle.axiom_instances.specs.StructRows.{HasNoFields}
use Rattle.axiom_instances.proofs.ListLemmas.{adds_none}
use Rattle.axiom_instances.proofs.SetFieldLemmas.{field_within, set_here, no_set, no_field}
use Rattle.axiom_instances.proofs.struct_axioms.set_fields.ask_set_field.Goals as goal

pub returns-in_ok-ask_set_fields-in-Some-clause-adds : goal.returns-in_ok-ask_set_fields-in-Some-clause-adds
returns-in_ok-ask_set_fields-in-Some-clause-adds c =
    let a = type_at c.args.pool.now c.args.set.of in
    let fields : HasFields c.args.shapes.now a c.in-Some.count = subst (λ o. MatchOption o (HasNoFields c.args.shapes.now a) (HasFields c.args.shapes.now a)) c.in-Some.is c.in_ok-count.ensures in
    record { instances = _; adds = c.in_ok-ask_set_fields-in-Some.ensures.adds; exactly = set_here c.args.shapes.now c.requires.term c.in-Some.count fields c.if-set-count.true }

pub returns-else-set-count-clause-adds : goal.returns-else-set-count-clause-adds
returns-else-set-count-clause-adds c =
    let a = type_at c.args.pool.now c.args.set.of in
    let fields : HasFields c.args.shapes.now a c.in-Some.count = subst (λ o. MatchOption o (HasNoFields c.args.shapes.now a) (HasFields c.args.shapes.now a)) c.in-Some.is c.in_ok-count.ensures in
    record {
      instances = [];
      adds = adds_none _ _;
      exactly = no_set c.args.shapes.now c.requires.term (λ h. let w = field_within c.args.shapes.now a c.in-Some.count c.args.set.field fields h in absurd (omega (arith, w, c.if-set-count.false)));
    }

pub returns-in-None-clause-adds : goal.returns-in-None-clause-adds
returns-in-None-clause-adds c =
    let a = type_at c.args.pool.now c.args.set.of in
    let none : HasNoFields c.args.shapes.now a = subst (λ o. MatchOption o (HasNoFields c.args.shapes.now a) (HasFields c.args.shapes.now a)) c.in-None.is c.in_ok-count.ensures in
    record { instances = []; adds = adds_none _ _; exactly = no_set c.args.shapes.now c.requires.term (no_field c.args.shapes.now a c.args.set.field none) }
