use Rattle.std.proofs.Common.{◌≡◌, ℕ, ◌+◌, ◌<◌, List, [], length, get_or, refl, sym, ◌∙◌, subst}
use Rattle.std.specs.Prelude.{Contains}
use Rattle.std.proofs.lemmas.List.{get_or_read}
use Rattle.indexmap.specs.IndexMap.{get}
use Rattle.term_pool.specs.NodeCodes.{same_node}
use Rattle.congruence_closure.specs.Signatures.{class_in}
use Rattle.congruence_closure.specs.States.{numbers_at}
use Rattle.congruence_closure.proofs.TableLemmas.{IsUserOfFirst, entered_chained, user_cases_at}
use Rattle.congruence_closure.proofs.classes.table.enter_users.Goals as goal

pub enter_each-requires-clause-within : goal.enter_each-requires-clause-within
enter_each-requires-clause-within c =
    let x = get_or c.args.moved.now c.loop-number.number-index 0 in
    let inside = c.requires.moved c.loop-number.number-index c.loop-number-test.true in
    let is : c.as_slice.result.now ≡ numbers_at c.args.users.now x = c.as_slice.ensures ∙ get_or_read c.args.users.now x c.index-users-number.result inside c.index-users-number.is [] in
    subst (λ (xs : List ℕ). (k : ℕ) → k < length xs → get_or xs k 0 < length c.args.nodes.now) (sym is) (c.requires.users x)

pub loop-number-preserved : goal.loop-number-preserved
loop-number-preserved c =
    let n = c.loop-number.number-index in
    let x = get_or c.args.moved.now n 0 in
    let inside = c.requires.moved n c.loop-number-test.true in
    let is : c.as_slice.result.now ≡ numbers_at c.args.users.now x = c.as_slice.ensures ∙ get_or_read c.args.users.now x c.index-users-number.result inside c.index-users-number.is [] in
    record {
      entered = entered_chained c.args.nodes.now (class_in c.args.classes.now) (get same_node c.args.table.now) c.args.waiting.now.items (get same_node c.loop-number.table) c.loop-number.waiting.items (get same_node c.enter_each.new.table) c.enter_each.new.waiting.items (IsUserOfFirst c.args.users.now c.args.moved.now n) (Contains c.as_slice.result.now) (IsUserOfFirst c.args.users.now c.args.moved.now (n + 1)) c.loop-number.invariant.entered c.in_ok-enter_each.ensures
          (λ i h. user_cases_at c.args.users.now c.args.moved.now n x i c.as_slice.result.now is c.loop-number-test.true refl h);
    }
