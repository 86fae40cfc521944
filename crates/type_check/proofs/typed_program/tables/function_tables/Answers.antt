use Rattle.std.proofs.Common.{sym, ◌∙◌, ◌++◌, ap}
use Rattle.std.specs.Vec.Iter.{into_iter_items}
use Rattle.base.proofs.PairLaws.{reading_end, reading_more}
use Rattle.type_check.proofs.TypedProgramLists.{nothing_left}
use Rattle.type_check.proofs.Settled.{all_tables, settled_typing}
use Rattle.type_check.proofs.typed_program.tables.function_tables.Goals as goal

pub code_table-requires : goal.code_table-requires
code_table-requires c =
    let r = c.loop-one.invariant in
    settled_typing c.args.program.now c.requires.determined c.args.typings.items r.front c.in-Some.one (into_iter_items c.next.new.self) c.requires.typings
    (r.parts ∙ ap (λ rest. r.front ++ rest) c.in-Some.ensures.steps.0)

pub loop-one-preserved : goal.loop-one-preserved
loop-one-preserved c =
    reading_more c.in-Some.one (into_iter_items c.next.new.self) c.code_table.result c.loop-one.invariant c.in-Some.ensures.steps.0 c.code_table.ensures c.in_ok-push.ensures.items

pub returns : goal.returns
returns c = all_tables c.args.program.now c.args.typings.items c.loop-one.tables.items c.requires.typings (reading_end c.loop-one.invariant (nothing_left (into_iter_items c.loop-one.one-iterator) (sym c.loop-one.one-iterator.rest.ok.0 ∙ c.in-None.ensures.steps.0)))
