use Rattle.std.proofs.Common.{ℕ, List, [], get_or, take, replicate, nat_eq, Vec, sym, ap, ◌∙◌, subst, arith}
use Rattle.std.proofs.lemmas.List.{take_more, take_all}
use Rattle.std.specs.Map.{lookup}
use Rattle.indexmap.specs.IndexMap.{get}
use Rattle.base.specs.GraphReachability.{AreRoots}
use Rattle.tableau.specs.PoolBranches.{branch_in}
use Rattle.tableau.specs.Graphs.{IsClassJoined, IsLinking}
use Rattle.tableau.proofs.BranchLemmas.{known_term}
use Rattle.tableau.proofs.GraphLemmas.{ok_map, linking_begun, half_done, whole_done}
use Rattle.tableau.proofs.NearLemmas.{nth_term, change_term, are_groups}
use Rattle.tableau.proofs.aliasing.groups.groups.Goals as goal

pub loop-number-init : goal.loop-number-init
loop-number-init c =
    linking_begun c.args.pool.now (branch_in c.args.pool.now c.args.branch.now) c.args.classes.now c.in_ok-graph.graph (get nat_eq c.new-firsts.result) (c.in_ok-graph.ensures ∙ ap (λ (k : ℕ). replicate {A = List ℕ} k []) c.len.ensures) (λ k. ap (λ (es : List (ℕ × ℕ)). lookup (nat_eq k) es) c.new-firsts.ensures.empty)

pub join_changed-requires-clause-within : goal.join_changed-requires-clause-within
join_changed-requires-clause-within c =
    (nth_term c.args.pool.now (branch_in c.args.pool.now c.args.branch.now) c.args.terms.now c.requires.terms c.loop-number.number-index c.loop-number-test.true).number.within

pub class-class-requires : goal.class-class-requires
class-class-requires c =
    let n = get_or c.args.terms.now c.loop-number.number-index 0 in
    known_term c.args.pool.now c.one_number.ensures c.args.branch.now c.requires.over c.args.classes.now c.requires.classes n (nth_term c.args.pool.now (branch_in c.args.pool.now c.args.branch.now) c.args.terms.now c.requires.terms c.loop-number.number-index c.loop-number-test.true)

pub join_class-requires-clause-within : goal.join_class-requires-clause-within
join_class-requires-clause-within c =
    let ns = c.args.pool.now in
    let b = branch_in c.args.pool.now c.args.branch.now in
    let n = get_or c.args.terms.now c.loop-number.number-index 0 in
    let term = nth_term ns b c.args.terms.now c.requires.terms c.loop-number.number-index c.loop-number-test.true in
    let half = half_done ns b c.args.classes.now (take c.loop-number.number-index c.args.terms.now) c.loop-number.graph c.join_changed.new.graph (get nat_eq c.loop-number.firsts) n c.loop-number.invariant term (λ m h. change_term ns c.one_number.ensures c.args.branch.now c.requires.over c.args.classes.now c.requires.classes c.exact.ensures n m term h) c.in_ok-join_changed.ensures in
    let long = half.linking.one_each in
    let within = term.number.within in
    omega (arith, long, within)

pub join_class-requires-clause-firsts : goal.join_class-requires-clause-firsts
join_class-requires-clause-firsts c = λ k first e. (
    let ns = c.args.pool.now in
    let b = branch_in c.args.pool.now c.args.branch.now in
    let n = get_or c.args.terms.now c.loop-number.number-index 0 in
    let term = nth_term ns b c.args.terms.now c.requires.terms c.loop-number.number-index c.loop-number-test.true in
    let half = half_done ns b c.args.classes.now (take c.loop-number.number-index c.args.terms.now) c.loop-number.graph c.join_changed.new.graph (get nat_eq c.loop-number.firsts) n c.loop-number.invariant term (λ m h. change_term ns c.one_number.ensures c.args.branch.now c.requires.over c.args.classes.now c.requires.classes c.exact.ensures n m term h) c.in_ok-join_changed.ensures in
    let long = half.linking.one_each in
    let within = (half.linking.firsts_are k first e).term.number.within in
    omega (arith, long, within))

pub loop-number-preserved : goal.loop-number-preserved
loop-number-preserved c =
    let ns = c.args.pool.now in
    let b = branch_in c.args.pool.now c.args.branch.now in
    let d = c.args.classes.now in
    let n = get_or c.args.terms.now c.loop-number.number-index 0 in
    let done = take c.loop-number.number-index c.args.terms.now in
    let term = nth_term ns b c.args.terms.now c.requires.terms c.loop-number.number-index c.loop-number-test.true in
    let half = half_done ns b d done c.loop-number.graph c.join_changed.new.graph (get nat_eq c.loop-number.firsts) n c.loop-number.invariant term (λ m h. change_term ns c.one_number.ensures c.args.branch.now c.requires.over d c.requires.classes c.exact.ensures n m term h) c.in_ok-join_changed.ensures in
    let joined = subst (λ (k : ℕ). IsClassJoined k n c.join_changed.new.graph c.join_class.new.graph (get nat_eq c.loop-number.firsts) (get nat_eq c.join_class.new.firsts)) c.class-class.ensures c.in_ok-join_class.ensures in
    subst (λ (xs : List ℕ). IsLinking ns b d xs c.join_class.new.graph (get nat_eq c.join_class.new.firsts)) (sym (take_more c.args.terms.now c.loop-number.number-index 0 c.loop-number-test.true)) (whole_done ns b d done c.join_changed.new.graph c.join_class.new.graph (get nat_eq c.loop-number.firsts) (get nat_eq c.join_class.new.firsts) n half term joined)

pub returns : goal.returns
returns c =
    let ns = c.args.pool.now in
    let b = branch_in c.args.pool.now c.args.branch.now in
    let linking = subst (λ (xs : List ℕ). IsLinking ns b c.args.classes.now xs c.loop-number.graph (get nat_eq c.loop-number.firsts)) (take_all c.loop-number.number-index c.args.terms.now c.loop-number-test.false) c.loop-number.invariant in
    ok_map c.component_roots.result (λ (v : Vec ℕ _) (r : AreRoots c.loop-number.graph v.items). are_groups ns c.one_number.ensures c.args.branch.now c.requires.over c.args.classes.now c.requires.classes c.exact.ensures c.args.terms.now c.requires.terms c.loop-number.graph (get nat_eq c.loop-number.firsts) linking v.items r) c.component_roots.ensures
