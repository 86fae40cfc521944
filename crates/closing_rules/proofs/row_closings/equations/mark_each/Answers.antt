use Rattle.std.proofs.Common.{length, subst}
use Rattle.std.proofs.lemmas.List.{take_all}
use Rattle.explanations.specs.Plans.{AreMarked}
use Rattle.closing_rules.specs.Rewritings.{IsOnEach}
use Rattle.closing_rules.proofs.EquationLemmas.{each_begun, each_links, each_next}
use Rattle.closing_rules.proofs.row_closings.equations.mark_each.Goals as goal

pub loop-rewriting-init : goal.loop-rewriting-init
loop-rewriting-init c = each_begun c.args.rewritings.now c.args.needed.now.items

pub mark_all-requires : goal.mark_all-requires
mark_all-requires c = each_links c.args.rewritings.now c.loop-rewriting.rewriting-index (length c.args.needed.now.items) (length c.loop-rewriting.needed.items) c.rewriting-item.result c.rewriting-item.result c.as_slice.result.now c.loop-rewriting-test.true c.rewriting-item.is c.as_slice.ensures.value c.loop-rewriting.invariant.long c.requires

pub loop-rewriting-preserved : goal.loop-rewriting-preserved
loop-rewriting-preserved c = each_next c.args.rewritings.now c.loop-rewriting.rewriting-index c.rewriting-item.result c.rewriting-item.result c.as_slice.result.now c.args.needed.now.items c.loop-rewriting.needed.items c.mark_all.new.needed.items c.loop-rewriting-test.true c.rewriting-item.is c.as_slice.ensures.value c.loop-rewriting.invariant c.mark_all.ensures

pub returns : goal.returns
returns c = subst (λ rs. AreMarked (IsOnEach rs) c.args.needed.now.items c.loop-rewriting.needed.items) (take_all c.loop-rewriting.rewriting-index c.args.rewritings.now c.loop-rewriting-test.false) c.loop-rewriting.invariant
