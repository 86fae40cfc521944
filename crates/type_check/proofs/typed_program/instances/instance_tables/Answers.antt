use Rattle.std.proofs.Common.{sym, ◌∙◌, ◌++◌, ap}
use Rattle.std.specs.Vec.Iter.{into_iter_items}
use Rattle.base.proofs.PairLaws.{reading_end, reading_more}
use Rattle.type_check.proofs.TypedProgramLists.{nothing_left}
use Rattle.type_check.proofs.Included.{instance_typed, instances_tabled}
use Rattle.type_check.proofs.typed_program.instances.instance_tables.Goals as goal

pub judged_tables-requires : goal.judged_tables-requires
judged_tables-requires c =
    let r = c.loop-one.invariant in
    instance_typed c.args.program.now c.requires.determined c.args.instances c.requires.included r.front c.in-Some.one (into_iter_items c.next.new.self)
    (r.parts ∙ ap (λ rest. r.front ++ rest) c.in-Some.ensures.steps.0)

pub loop-one-preserved : goal.loop-one-preserved
loop-one-preserved c =
    reading_more c.in-Some.one (into_iter_items c.next.new.self) c.in_ok-judged_tables.field-0 c.loop-one.invariant c.in-Some.ensures.steps.0 c.in_ok-judged_tables.ensures c.in_ok-push.ensures.items

pub returns : goal.returns
returns c = instances_tabled c.args.program.now c.args.instances c.requires.included c.loop-one.clauses (reading_end c.loop-one.invariant (nothing_left (into_iter_items c.loop-one.one-iterator) (sym c.loop-one.one-iterator.rest.ok.0 ∙ c.in-None.ensures.steps.0)))
