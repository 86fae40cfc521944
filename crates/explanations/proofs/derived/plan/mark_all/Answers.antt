use Rattle.std.proofs.Common.{subst, length}
use Rattle.std.proofs.lemmas.List.{take_all}
use Rattle.explanations.specs.Plans.{IsOnAny, AreMarked}
use Rattle.explanations.proofs.PlanLemmas.{all_begun, all_links, all_next}
use Rattle.explanations.proofs.derived.plan.mark_all.Goals as goal

pub loop-difference-init : goal.loop-difference-init
loop-difference-init c = all_begun c.args.found.now c.args.needed.now.items

pub mark-requires : goal.mark-requires
mark-requires c = all_links c.args.found.now c.loop-difference.difference-index (length c.args.needed.now.items) (length c.loop-difference.needed.items) c.difference-item.result c.difference-item.result c.as_slice.result.now c.loop-difference-test.true c.difference-item.is c.as_slice.ensures.value c.loop-difference.invariant.long c.requires

pub loop-difference-preserved : goal.loop-difference-preserved
loop-difference-preserved c = all_next c.args.found.now c.loop-difference.difference-index c.difference-item.result c.difference-item.result c.as_slice.result.now c.args.needed.now.items c.loop-difference.needed.items c.mark.new.needed.items c.loop-difference-test.true c.difference-item.is c.as_slice.ensures.value c.loop-difference.invariant c.mark.ensures

pub returns : goal.returns
returns c = subst (λ ds. AreMarked (IsOnAny ds) c.args.needed.now.items c.loop-difference.needed.items) (take_all c.loop-difference.difference-index c.args.found.now c.loop-difference-test.false) c.loop-difference.invariant
