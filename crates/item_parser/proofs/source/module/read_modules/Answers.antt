use Rattle.std.specs.Vec.Iter.{into_iter_items}
use Rattle.item_parser.specs.Reading.{IsOfNoModule}
use Rattle.item_parser.proofs.FaultLemmas.{hands_on}
use Rattle.base.proofs.PairLaws.{reading_more, reading_stop}
use Rattle.item_parser.proofs.source.module.read_modules.Goals as goal

pub returns-in_err-read_module : goal.returns-in_err-read_module
returns-in_err-read_module c =
    hands_on c.from_residual.result _ _ (IsOfNoModule c.in-Some.module) _ c.from_residual.ensures.1
    (reading_stop c.in-Some.module (into_iter_items c.next.new.self) c.loop-module.invariant c.in-Some.ensures.steps.0) c.in_err-read_module.ensures

pub loop-module-preserved : goal.loop-module-preserved
loop-module-preserved c =
    reading_more c.in-Some.module (into_iter_items c.next.new.self) c.in_ok-read_module.field-0 c.loop-module.invariant c.in-Some.ensures.steps.0 c.in_ok-read_module.ensures c.in_ok-push.ensures.items
