use Rattle.std.proofs.Common.{◌≡◌, ℕ, ◌+◌, get_or, refl}
use Rattle.indexmap.specs.IndexMap.{get}
use Rattle.term_pool.specs.NodeCodes.{same_node}
use Rattle.congruence_closure.specs.Signatures.{class_in}
use Rattle.congruence_closure.proofs.TableLemmas.{IsAmongFirst, entered_chained, first_cases}
use Rattle.congruence_closure.proofs.classes.table.enter_each.Goals as goal

pub loop-number-preserved : goal.loop-number-preserved
loop-number-preserved c =
    let n = c.loop-number.number-index in
    let x = get_or c.args.numbers.now n 0 in
    record {
      entered = entered_chained c.args.nodes.now (class_in c.args.classes.now) (get same_node c.args.table.now) c.args.waiting.now.items (get same_node c.loop-number.table) c.loop-number.waiting.items (get same_node c.enter.new.table) c.enter.new.waiting.items (IsAmongFirst c.args.numbers.now n) (λ (i : ℕ). i ≡ x) (IsAmongFirst c.args.numbers.now (n + 1)) c.loop-number.invariant.entered c.in_ok-enter.ensures (λ i h. first_cases c.args.numbers.now n x i c.loop-number-test.true refl h);
    }
