use Rattle.std.proofs.Common.{◌≡◌, ltb, true, false, length, List, ℕ, sym, subst, arith, rules, ◌∙◌, ap}
use Rattle.std.specs.List.Sorted.{IsPartitionPoint, IsNonDecreasingBy}
use Rattle.std.proofs.lemmas.List.Sorted.{IsPartitionPoint-from_clause, IsPartitionedBy-ltb}
use Rattle.report.specs.Lines.{line_feeds}
use Rattle.report.proofs.LineLemmas.{feeds_sorted, line_from_partition}
use Rattle.report.proofs.lines.LineFeeds.line.Goals as goal

pub returns : goal.returns
returns c = λ bytes e.
    let position = c.args.position in
    let same : line_feeds bytes ≡ c.deref.result.now = sym (c.deref.ensures.value ∙ c.self.view_is ∙ e) in
    let rising : IsNonDecreasingBy (λ f. f) c.deref.result.now = subst (λ (fs : List ℕ). IsNonDecreasingBy (λ f. f) fs) same (feeds_sorted bytes) in
    let found = IsPartitionPoint-from_clause (λ f. ltb f position) c.deref.result.now c.partition_point.result c.partition_point.ensures.partitioned
    (IsPartitionedBy-ltb (λ f. f) c.deref.result.now position rising) (λ a r f k. search rules) in
    line_from_partition bytes position c.partition_point.result (omega (arith, ap length same, c.partition_point.ensures.bound))
    (subst (λ (fs : List ℕ). IsPartitionPoint (λ y. ltb y position ≡ true) (λ y. ltb y position ≡ false) fs c.partition_point.result) (sym same) found)
