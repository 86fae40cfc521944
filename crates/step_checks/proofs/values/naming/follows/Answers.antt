use Rattle.std.proofs.Common.{ℕ, List, nat_eq, get_or, refl, ap, subst}
use Rattle.std.specs.Prelude.{slice_index}
use Rattle.std.specs.Map.{lookup}
use Rattle.std.proofs.lemmas.List.Elements.{Contains-get_or}
use Rattle.indexmap.specs.IndexMap.{get}
use Rattle.step_checks.specs.Naming.{Agrees, IsNoted, HasOther}
use Rattle.step_checks.proofs.NamingLemmas.{followed_begun, followed_next, followed_done, not_followed}
use Rattle.step_checks.proofs.values.naming.follows.Goals as goal

pub loop-number-init : goal.loop-number-init
loop-number-init c = followed_begun c.args.first.now c.args.second.now (get nat_eq c.new-found.result) (λ k. ap (λ (es : List (ℕ × ℕ)). lookup (nat_eq k) es) c.new-found.ensures.empty)

pub returns-then-not-agreed : goal.returns-then-not-agreed
returns-then-not-agreed c =
    let first = c.args.first.now in
    let second = c.args.second.now in
    let n : ℕ = get_or c.args.numbers.now c.loop-number.number-index 0 in
    let before = get nat_eq c.loop-number.found in
    let after = get nat_eq c.agrees.new.found in
    let other : HasOther c.name_of-key.result c.name_of-value.result before = subst (Agrees c.name_of-key.result c.name_of-value.result before after) c.if-not-agreed.true c.in_ok-agreed.ensures in
    let named : HasOther (slice_index first n) (slice_index second n) before = subst (λ k. HasOther k (slice_index second n) before) c.name_of-key.ensures (subst (λ v. HasOther c.name_of-key.result v before) c.name_of-value.ensures other) in
    (λ t. absurd (cc), λ h. absurd (not_followed first second c.args.numbers.now c.loop-number.number-index before c.loop-number-test.true (Contains-get_or c.args.numbers.now c.loop-number.number-index 0 c.loop-number-test.true) c.loop-number.invariant named h))

pub loop-number-preserved : goal.loop-number-preserved
loop-number-preserved c =
    let first = c.args.first.now in
    let second = c.args.second.now in
    let n : ℕ = get_or c.args.numbers.now c.loop-number.number-index 0 in
    let before = get nat_eq c.loop-number.found in
    let after = get nat_eq c.agrees.new.found in
    let noted : IsNoted c.name_of-key.result c.name_of-value.result before after = subst (Agrees c.name_of-key.result c.name_of-value.result before after) c.if-not-agreed.false c.in_ok-agreed.ensures in
    let named : IsNoted (slice_index first n) (slice_index second n) before after = subst (λ k. IsNoted k (slice_index second n) before after) c.name_of-key.ensures (subst (λ v. IsNoted c.name_of-key.result v before after) c.name_of-value.ensures noted) in
    followed_next first second c.args.numbers.now c.loop-number.number-index before after c.loop-number-test.true c.loop-number.invariant named

pub returns : goal.returns
returns c = (λ t. followed_done c.args.first.now c.args.second.now c.args.numbers.now c.loop-number.number-index (get nat_eq c.loop-number.found) c.loop-number-test.false c.loop-number.invariant, λ h. refl)
