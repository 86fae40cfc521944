use Rattle.std.proofs.Common.{◌≡◌, [], length, subst, arith}
use Rattle.std.specs.Prelude.{MatchOption}
use Rattle.fol.specs.FormulaData.{list_of_terms}
use Rattle.axioms.specs.Fields.{HasFields}
use Rattle.axiom_instances.specs.Numbers.{terms_at, type_at}
use Rattle.axiom_instances.specs.StructRows.{HasNoFields}
use Rattle.axiom_instances.proofs.ListLemmas.{adds_none}
use Rattle.axiom_instances.proofs.StructLemmas.{one_count}
use Rattle.axiom_instances.proofs.FieldLemmas.{parts_length, pack_here, no_pack}
use Rattle.axiom_instances.proofs.structs.ask_pack.Goals as goal

pub returns-then-count-len-clause-adds : goal.returns-then-count-len-clause-adds
returns-then-count-len-clause-adds c =
    let a = type_at c.args.pool.now c.args.of in
    let us = list_of_terms (terms_at c.args.pool.now c.args.parts) in
    let fields : HasFields c.args.shapes.now a c.in-Some.count = subst (λ o. MatchOption o (HasNoFields c.args.shapes.now a) (HasFields c.args.shapes.now a)) c.in-Some.is c.in_ok-count.ensures in
    let parts = parts_length us c.in_ok-numbers.ensures in
    let same : c.in-Some.count ≡ length us = omega (arith, c.in_ok-numbers.numbers.ok.0) in
    record { instances = _; adds = c.in_ok-ask_fields-in-Some.ensures.adds; exactly = pack_here c.args.shapes.now c.requires.term c.in-Some.count fields same }

pub returns-in-Some-clause-adds : goal.returns-in-Some-clause-adds
returns-in-Some-clause-adds c =
    let a = type_at c.args.pool.now c.args.of in
    let us = list_of_terms (terms_at c.args.pool.now c.args.parts) in
    let fields : HasFields c.args.shapes.now a c.in-Some.count = subst (λ o. MatchOption o (HasNoFields c.args.shapes.now a) (HasFields c.args.shapes.now a)) c.in-Some.is c.in_ok-count.ensures in
    let parts = parts_length us c.in_ok-numbers.ensures in
    record {
      instances = [];
      adds = adds_none _ _;
      exactly = no_pack c.args.shapes.now c.requires.term (λ h. let same = one_count c.args.shapes.now a c.in-Some.count (length us) fields h in absurd (omega (arith, c.in_ok-numbers.numbers.ok.0)));
    }

pub returns-clause-adds : goal.returns-clause-adds
returns-clause-adds c =
    let a = type_at c.args.pool.now c.args.of in
    let us = list_of_terms (terms_at c.args.pool.now c.args.parts) in
    let none : HasNoFields c.args.shapes.now a = subst (λ o. MatchOption o (HasNoFields c.args.shapes.now a) (HasFields c.args.shapes.now a)) c.in-None.is c.in_ok-count.ensures in
    record { instances = []; adds = adds_none _ _; exactly = no_pack c.args.shapes.now c.requires.term (λ h. none.none (length us) h) }
