use Rattle.std.proofs.Common.{sym, subst}
use Rattle.syntax_tree.specs.declared.spec_tokens.KeptSpec.{KeptSpec}
use Rattle.base.specs.Pairs.{Paired}
use Rattle.syntax_tree.specs.Loops.{IsLoopTree}
use Rattle.item_parser.specs.Reading.{HasNoLoopTree}
use Rattle.base.proofs.PairLaws.{no_pair_at, paired_next}
use Rattle.item_parser.proofs.FaultLemmas.{hands_on}
use Rattle.item_parser.proofs.source.module.read_each_loop.Goals as goal

pub returns-in_err-read_loop : goal.returns-in_err-read_loop
returns-in_err-read_loop c =
    hands_on c.from_residual.result _ _ (HasNoLoopTree c.spec-item.result.now) _ c.from_residual.ensures.1
    (λ none trees p. no_pair_at IsLoopTree (λ s. s.now) c.as_slice-spec-items.result.now c.loop-spec.spec-index c.spec-item.result trees c.loop-spec-test.true
    (λ y r. none y (subst (λ s. IsLoopTree s.now y) (sym c.spec-item.is) r))
    (subst (λ specs. Paired IsLoopTree specs trees) (sym c.as_slice-spec-items.ensures) p)) c.in_err-read_loop.ensures

pub loop-spec-preserved : goal.loop-spec-preserved
loop-spec-preserved c =
    paired_next IsLoopTree (λ s. s.now) c.as_slice-spec-items.result.now c.loop-spec.spec-index c.spec-item.result c.loop-spec.trees.items _ c.in_ok-read_loop.field-0 c.loop-spec-test.true c.loop-spec.invariant
    (subst (λ s. IsLoopTree s.now c.in_ok-read_loop.field-0) c.spec-item.is c.in_ok-read_loop.ensures) c.in_ok-push.ensures.items
