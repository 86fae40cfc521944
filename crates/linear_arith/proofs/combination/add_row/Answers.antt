use Rattle.std.proofs.Common.{rules, ◌≡◌, ◌<◌, ◌+◌, ℕ, ℤ, List, length, pos, ◌+ℤ◌, ◌*ℤ◌, set, FitsSigned, arith, subst, ap, sym, ◌∙◌, below_more}
use Rattle.std.specs.Int.{w128}
use Rattle.std.proofs.lemmas.Int.{to_z-of_z}
use Rattle.std.proofs.lemmas.List.{get_or-set_same, get_or-set_other, length-set}
use Rattle.linear_arith.specs.Inequality.{Inequality}
use Rattle.linear_arith.specs.Combination.{number, IsAdded, IsAddedTo}
use Rattle.linear_arith.proofs.ListLemmas.{get_or-any_default}
use Rattle.linear_arith.proofs.combination.add_row.Goals as goal

-- one more total
total_added : (m : ℤ) (old totals : List ℤ) (row : Inequality) (k : ℕ) (next : ℤ) → k < length totals → number k totals ≡ number k old → IsAddedTo m k row (number k totals) next → ((u : ℕ) → u < k → IsAddedTo m u row (number u old) (number u totals)) → (u : ℕ) → u < k + 1 → IsAddedTo m u row (number u old) (number u (set totals k next))
total_added m old totals row k next l same here before = below_more (λ (u : ℕ). IsAddedTo m u row (number u old) (number u (set totals k next))) k
    (λ u b. subst (λ (z : ℤ). IsAddedTo m u row (number u old) z) (sym (get_or-set_other totals k u next (pos 0) (λ e. omega (arith, e, b)))) (before u b))
    (subst (λ (z : ℤ). IsAddedTo m k row (number k old) z) (sym (get_or-set_same totals k next (pos 0) l)) (subst (λ (z : ℤ). IsAddedTo m k row z next) same here))

pub loop-unknown-preserved : goal.loop-unknown-preserved
loop-unknown-preserved c =
    let k = c.loop-unknown.unknown in
    let m = c.args.multiplier in
    let row = c.args.row.now in
    let old = c.args.totals.now.items in
    let totals = c.loop-unknown.totals.items in
    let next = c.in-Some.total in
    let inv = c.loop-unknown.invariant in
    let fm : FitsSigned w128 m = c.ranges.multiplier in
    let ft : FitsSigned w128 c.index.result.now = search rules in
    let fc : FitsSigned w128 c.coefficient.result = search rules in
    let fs : FitsSigned w128 next = search rules in
    let within : k < length totals = omega (arith, inv.len) in
    let e = simp to_z-of_z at c.in-Some.ensures in
    let at : c.index.result.now ≡ number k totals = c.index.ensures ∙ get_or-any_default totals k c.index.result.now (pos 0) within in
    let here : IsAddedTo m k row c.index.result.now next = record {
      is_added = subst (λ (z : ℤ). IsAdded c.index.result.now (m *ℤ z)) c.coefficient.ensures e.0;
      is_sum = e.1 ∙ ap (λ (z : ℤ). c.index.result.now +ℤ (m *ℤ z)) c.coefficient.ensures;
    } in
    let before = simp to_z-of_z at inv.added in
    rw (to_z-of_z w128 m fm, to_z-of_z w128 next fs) record {
      len = length-set totals k next ∙ inv.len;
      added = total_added m old totals row k next within (inv.others k (omega arith)) (subst (λ (z : ℤ). IsAddedTo m k row z next) at here) before;
      others = λ u l. get_or-set_other totals k u next (pos 0) (λ e. omega (arith, e, l)) ∙ inv.others u (omega (arith, l));
    }

pub returns-clause-added : goal.returns-clause-added
returns-clause-added c = λ _ u l.
    let m = c.args.multiplier in
    let inv = c.loop-unknown.invariant in
    let fm : FitsSigned w128 m = c.ranges.multiplier in
    let before = simp to_z-of_z at inv.added in
    before u (omega (arith, inv.len, l))

pub returns-in_default-clause-leaves : goal.returns-in_default-clause-leaves
returns-in_default-clause-leaves c = λ _.
    let k = c.loop-unknown.unknown in
    let m = c.args.multiplier in
    let row = c.args.row.now in
    let totals = c.loop-unknown.totals.items in
    let inv = c.loop-unknown.invariant in
    let fm : FitsSigned w128 m = c.ranges.multiplier in
    let ft : FitsSigned w128 c.index.result.now = search rules in
    let fc : FitsSigned w128 c.coefficient.result = search rules in
    let within : k < length totals = omega (arith, inv.len) in
    let gone : ¬ (IsAdded c.index.result.now (m *ℤ c.coefficient.result)) = simp to_z-of_z at c.in_default.ensures in
    let at : c.index.result.now ≡ number k c.args.totals.now.items = c.index.ensures ∙ get_or-any_default totals k c.index.result.now (pos 0) within ∙ inv.others k (omega arith) in
    record {
      unknown = k;
      is_within = omega (arith, within, inv.len);
      leaves = λ a. gone (subst (λ (z : ℤ). IsAdded z (m *ℤ c.coefficient.result)) (sym at) (subst (λ (z : ℤ). IsAdded (number k c.args.totals.now.items) (m *ℤ z)) (sym c.coefficient.ensures) a));
    }
