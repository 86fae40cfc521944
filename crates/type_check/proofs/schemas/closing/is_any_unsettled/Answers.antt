use Rattle.std.proofs.Common.{◌≡◌, false, true, length, refl, sym, ◌∙◌}
use Rattle.std.specs.Prelude.{IsTrue}
use Rattle.std.proofs.lemmas.Option.{slice_get_read}
use Rattle.type_check.specs.declared.clauses.judged.JudgedClause.{JudgedClause}
use Rattle.type_check.proofs.SchemasLists.{at_contained, none_all, none_next, none_of_none}
use Rattle.type_check.proofs.schemas.closing.is_any_unsettled.Goals as goal

pub loop-one-init : goal.loop-one-init
loop-one-init c = none_of_none (λ (x : JudgedClause). IsTrue x.is_unsettled)

pub returns-then-one : goal.returns-then-one
returns-then-one c = (
  (λ h. (
    c.one-item.result,
    at_contained c.args.judged.now c.loop-one.one-index c.one-item.result (slice_get_read c.args.judged.now (length c.args.judged.now) c.loop-one.one-index c.one-item.result refl c.loop-one-test.true c.one-item.is),
    c.if-one.true,
  )),
  (λ h. refl),
)

pub loop-one-preserved : goal.loop-one-preserved
loop-one-preserved c =
    none_next (λ (x : JudgedClause). IsTrue x.is_unsettled) c.args.judged.now c.loop-one.one-index c.one-item.result
    (slice_get_read c.args.judged.now (length c.args.judged.now) c.loop-one.one-index c.one-item.result refl c.loop-one-test.true c.one-item.is)
    (λ h. let e : false ≡ true = sym c.if-one.false ∙ h in cc) c.loop-one.invariant

pub returns : goal.returns
returns c = (
  (λ h. absurd cc),
  (λ w. absurd (none_all (λ (x : JudgedClause). IsTrue x.is_unsettled) c.args.judged.now c.loop-one.one-index c.loop-one-test.false c.loop-one.invariant w.0 w.1 w.2)),
)
