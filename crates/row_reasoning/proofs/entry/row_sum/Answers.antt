use Rattle.std.proofs.Common.{◌≡◌, ◌∙◌, true, rules, subst}
use Rattle.std.specs.Prelude.{MatchOption}
use mir.Val.{SFits}
use mir.Syntax.{w128}
use Rattle.std.proofs.lemmas.Int.{to_z-of_z}
use Rattle.row_reasoning.specs.Sums.{IsJoined, LeavesJoined}
use Rattle.row_reasoning.specs.Entries.{gap_of}
use Rattle.row_reasoning.proofs.ResultLemmas.{match_map}
use Rattle.row_reasoning.proofs.EntryLemmas.{gap_leaves, row_made}
use Rattle.row_reasoning.proofs.entry.row_sum.Goals as goal

pub returns-clause-is : goal.returns-clause-is
returns-clause-is c = λ t u e sum_t sum_u. (let f : SFits w128 c.gap.result = search rules in
    let g : c.constant-gap.result.constant ≡ gap_of c.args.is_strict = (simp to_z-of_z at c.constant-gap.ensures.constant) ∙ c.gap.ensures in
    let difference : IsJoined true c.args.lesser c.args.greater c.in-Some.difference = subst (λ m. MatchOption m (LeavesJoined true c.args.lesser c.args.greater) (IsJoined true c.args.lesser c.args.greater)) c.in-Some.is c.in_ok-difference.ensures.is in
    match_map _ _ _ _
    (gap_leaves c.args.is_strict c.constant-gap.result c.constant-gap.ensures.sign g c.constant-gap.ensures.coefficients t u e c.args.lesser c.args.greater sum_t sum_u c.in-Some.difference difference)
    (row_made c.args.is_strict c.constant-gap.result c.constant-gap.ensures.sign g c.constant-gap.ensures.coefficients t u e c.args.lesser c.args.greater sum_t sum_u c.in-Some.difference difference)
    c.joined-2.result c.joined-2.ensures.is)
