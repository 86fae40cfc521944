use Rattle.std.proofs.Common.{◌<◌, length, sym, subst}
use Rattle.std.specs.List.{AllByRecursion}
use Rattle.base.proofs.PairLaws.{all_append}
use Rattle.front_end_tests.proofs.limit_tests.read.Goals as goal

pub loop-text-preserved : goal.loop-text-preserved
loop-text-preserved g c =
    subst (AllByRecursion (λ bytes. length bytes < 4294967296)) (sym c.in_ok-push.ensures.items)
    (all_append (λ bytes. length bytes < 4294967296) c.loop-text.files.items c.in_ok-bytes_of.field-0 c.loop-text.invariant c.in_ok-bytes_of.ensures)
