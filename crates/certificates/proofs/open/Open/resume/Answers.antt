use Rattle.std.proofs.Common.{◌≡◌, ◌∙◌, sym, arith}
use Rattle.certificates.specs.Branch.{entries_of}
use Rattle.certificates.specs.Waiting.{cases_in, case_of}
use Rattle.certificates.specs.Open.{worked_on, branches_of}
use Rattle.certificates.proofs.OpenLemmas.{IsResumed, resumed, on_open}
use Rattle.certificates.proofs.open.Open.resume.Goals as goal

pub returns-in-Some-clause-kept : goal.returns-in-Some-clause-kept
returns-in-Some-clause-kept c =
    let next = resumed (worked_on c.args.self.now) (entries_of c.truncate.new.self) (entries_of c.push.new.self) (case_of c.in-Some.case) (cases_in c.next.new.self) (cases_in c.args.self.now.waiting) c.in-Some.ensures.cases c.truncate.ensures.entries c.push.ensures.entries c.requires.stacked in
    record {
      counted = c.push.ensures.counted;
      ordered = c.next.ensures.ordered;
      later = omega (arith, next.long, c.in-Some.ensures.count);
      stacked = next.stacked;
    }

pub returns-in-Some-clause-branches : goal.returns-in-Some-clause-branches
returns-in-Some-clause-branches c =
    let next = resumed (worked_on c.args.self.now) (entries_of c.truncate.new.self) (entries_of c.push.new.self) (case_of c.in-Some.case) (cases_in c.next.new.self) (cases_in c.args.self.now.waiting) c.in-Some.ensures.cases c.truncate.ensures.entries c.push.ensures.entries c.requires.stacked in
    on_open _ _ c.requires.on ∙ next.branches ∙ (λ i. branches_of (worked_on c.args.self.now) (sym c.in-Some.ensures.cases i))
