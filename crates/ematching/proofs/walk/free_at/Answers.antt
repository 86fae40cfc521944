use Rattle.std.proofs.Common.{◌≡◌, ◌⊎◌, inl, inr, ℕ, false, true, Some, get_or, take, refl, subst, sym}
use Rattle.std.specs.Prelude.{slice_get}
use Rattle.std.proofs.lemmas.List.{take_all}
use Rattle.term_pool.specs.declared.node.Leaf.TheVariants.{Var}
use Rattle.term_pool.specs.declared.node.Node.TheVariants.{Leaf as LeafNode}
use Rattle.ematching.specs.Numbers.{IsAmong}
use Rattle.ematching.specs.Walks.{AreReached}
use Rattle.ematching.specs.declared.walk.Way.TheVariants.{Free}
use Rattle.ematching.proofs.ListLemmas.{among_get_or, among_take_more}
use Rattle.ematching.proofs.FreeLemmas.{not_free, is_free_at}
use Rattle.ematching.proofs.walk.free_at.Goals as goal

pub loop-number-init : goal.loop-number-init
loop-number-init c = λ n h. absurd h

pub returns-then-is_variable : goal.returns-then-is_variable
returns-then-is_variable c =
    is_free_at c.args.variable c.args.pool.now c.args.top c.deref-number-items.result.now (subst (AreReached c.args.pool.now (Free c.args.variable) c.args.top) (sym c.deref-number-items.ensures.value) c.in_ok-numbers.ensures) (get_or c.deref-number-items.result.now c.loop-number.number-index 0) (among_get_or c.deref-number-items.result.now c.loop-number.number-index 0 c.loop-number-test.true) (c.if-is_variable.ensures.0 refl)

pub loop-number-preserved : goal.loop-number-preserved
loop-number-preserved c = λ n h e. go n e (among_take_more n c.deref-number-items.result.now c.loop-number.number-index 0 c.loop-number-test.true h)
  where
    go : (n : ℕ) → slice_get c.args.pool.now n ≡ Some (LeafNode (Var c.args.variable)) → IsAmong n (take c.loop-number.number-index c.deref-number-items.result.now) ⊎ (n ≡ get_or c.deref-number-items.result.now c.loop-number.number-index 0) → ⊥
    go n e (inl h) = c.loop-number.invariant n h e
    go n e (inr f) = (let both : false ≡ true = c.if-is_variable.ensures.1 (subst (λ k. slice_get c.args.pool.now k ≡ Some (LeafNode (Var c.args.variable))) f e) in absurd (cc))

pub returns : goal.returns
returns c =
    not_free c.args.variable c.args.pool.now c.args.top c.deref-number-items.result.now (subst (AreReached c.args.pool.now (Free c.args.variable) c.args.top) (sym c.deref-number-items.ensures.value) c.in_ok-numbers.ensures) (λ n h. c.loop-number.invariant n (subst (IsAmong n) (sym (take_all c.loop-number.number-index c.deref-number-items.result.now c.loop-number-test.false)) h))
