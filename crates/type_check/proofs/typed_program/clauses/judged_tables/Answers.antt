use Rattle.std.proofs.Common.{sym, ◌∙◌, ◌++◌, ap, length}
use Rattle.std.specs.Prelude.{slice_get}
use Rattle.std.specs.Vec.Iter.{into_iter_items}
use Rattle.base.proofs.PairLaws.{reading_end, reading_more}
use Rattle.type_check.proofs.SchemasLists.{at_contained}
use Rattle.type_check.proofs.TypedProgramLists.{get_front, nothing_left}
use Rattle.type_check.proofs.typed_program.clauses.judged_tables.Goals as goal

pub spec_table-requires : goal.spec_table-requires
spec_table-requires c =
    let r = c.loop-one.invariant in
    let n = length r.front in
    c.requires c.in-Some.one
    (at_contained c.args.judged.items n c.in-Some.one
    (ap (λ xs. slice_get xs n) (r.parts ∙ ap (λ rest. r.front ++ rest) c.in-Some.ensures.steps.0) ∙ get_front r.front c.in-Some.one (into_iter_items c.next.new.self)))

pub loop-one-preserved : goal.loop-one-preserved
loop-one-preserved c =
    reading_more c.in-Some.one (into_iter_items c.next.new.self) c.spec_table.result c.loop-one.invariant c.in-Some.ensures.steps.0 c.spec_table.ensures c.in_ok-push.ensures.ok

pub loop-one-preserved-in_ok-push : goal.loop-one-preserved-in_ok-push
loop-one-preserved-in_ok-push c =
    reading_more c.in-Some.one (into_iter_items c.next.new.self) c.spec_table.result c.loop-one.invariant c.in-Some.ensures.steps.0 c.spec_table.ensures c.in_ok-push.ensures.ok

pub returns : goal.returns
returns c = reading_end c.loop-one.invariant (nothing_left (into_iter_items c.loop-one.one-iterator) (sym c.loop-one.one-iterator.rest.ok.0 ∙ c.in-None.ensures.steps.0))
