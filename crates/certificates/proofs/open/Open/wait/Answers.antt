use Rattle.std.proofs.Common.{◌≡◌, ◌≤◌, ◌<◌, length, map, ◌++◌, ◌∷◌, [], arith}
use Rattle.std.specs.Prelude.{All}
use Rattle.std.proofs.lemmas.Bool.Decides.{nat_tests}
use Rattle.base.proofs.TruthValues.{fails, holds}
use Rattle.certificates.specs.Closes.{IsShort}
use Rattle.certificates.specs.Waiting.{cases_in}
use Rattle.certificates.specs.Open.{worked_on}
use Rattle.certificates.proofs.OpenLemmas.{stacked_cases, branches_cases, all_short, one_long}
use Rattle.certificates.proofs.open.Open.wait.Goals as goal

pub returns-then-mark-ge-MOST_ENTRIES-clause-exact : goal.returns-then-mark-ge-MOST_ENTRIES-clause-exact
returns-then-mark-ge-MOST_ENTRIES-clause-exact c =
    let b = worked_on c.args.self.now in
    let ps = c.args.cases.now in
    let some : 0 < length ps = grind (arith, nat_tests) in
    let full : 4000 ≤ length b = omega arith in
    fails (All IsShort (map (λ p. b ++ p ∷ []) ps)) (one_long b ps some full)

pub returns-clause-exact : goal.returns-clause-exact
returns-clause-exact c =
    let b = worked_on c.args.self.now in
    let ps = c.args.cases.now in
    let short : length b < 4000 = omega arith in
    holds (All IsShort (map (λ p. b ++ p ∷ []) ps)) (all_short b ps short)

pub returns-clause-halted : goal.returns-clause-halted
returns-clause-halted c = λ e. record {
  on = c.requires.on;
  counted = c.requires.kept.counted;
  ordered = c.push.ensures.ordered;
  begun = omega (arith, c.requires.kept.later);
  stacked = stacked_cases _ _ c.args.cases.now (cases_in c.args.self.now.waiting) _ c.len-mark.ensures c.push.ensures.cases c.requires.kept.stacked;
}

pub returns-clause-branches : goal.returns-clause-branches
returns-clause-branches c = λ e. branches_cases (worked_on c.args.self.now) _ c.args.cases.now (cases_in c.args.self.now.waiting) _ c.len-mark.ensures c.push.ensures.cases
