use Rattle.std.proofs.Common.{List, length, refl, sym, ◌∙◌, ap, subst}
use Rattle.std.specs.Prelude.{slice_get}
use Rattle.std.proofs.lemmas.Option.{slice_get_read}
use Rattle.base.specs.TypeData.{NoTypes}
use Rattle.base.proofs.PairLaws.{paired_next}
use Rattle.program.specs.declared.clause.LoopClause.{LoopClause}
use Rattle.typing_rules.specs.Clauses.{LoopBlock, clause_system, loop_names}
use Rattle.type_check.specs.Tables.{IsTable}
use Rattle.type_check.proofs.Owners.{loop_settled}
use Rattle.type_check.proofs.typed_program.clauses.loop_tables_with.Goals as goal

pub spec_table-requires : goal.spec_table-requires
spec_table-requires c =
    let program = c.args.program.now in
    let f = c.args.function.now in
    let locals = c.args.locals.now in
    let n = c.loop-one.one-index in
    let items = c.as_slice-one-items.result.now in
    let at = slice_get_read items (length items) n c.one-item.result refl c.loop-one-test.true c.one-item.is in
    let d = c.requires.declared in (
      clause_system program (loop_names f.result locals) LoopBlock NoTypes c.one-item.result.clause,
      loop_settled program c.requires.determined d.0 f locals n c.one-item.result d.1 c.requires.locals (ap (λ (ls : List LoopClause). slice_get ls n) (sym c.as_slice-one-items.ensures) ∙ at),
      (c.in_ok-judged.ensures.says c.one-item.result.clause.block).typing,
    )

pub loop-one-preserved : goal.loop-one-preserved
loop-one-preserved c =
    let program = c.args.program.now in
    let f = c.args.function.now in
    let locals = c.args.locals.now in
    let s = clause_system program (loop_names f.result locals) LoopBlock NoTypes in
    paired_next (λ clause t. IsTable (s clause) t) (λ (x : LoopClause). x.clause) c.as_slice-one-items.result.now c.loop-one.one-index c.one-item.result c.loop-one.tables _ c.spec_table.result
    c.loop-one-test.true c.loop-one.invariant
    (subst (λ (x : LoopClause). IsTable (s x.clause) c.spec_table.result) c.one-item.is (c.spec_table.ensures (s c.one-item.result.clause) (c.in_ok-judged.ensures.says c.one-item.result.clause.block).typing))
    c.in_ok-push.ensures.ok
