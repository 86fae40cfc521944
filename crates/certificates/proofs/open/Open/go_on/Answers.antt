use Rattle.std.proofs.Common.{◌≡◌, ◌+◌, ◌<◌, ◌++◌, ◌∷◌, length, ap, ◌∙◌, arith, length-append}
use Rattle.certificates.specs.Branch.{entries_of}
use Rattle.certificates.specs.Waiting.{cases_in}
use Rattle.certificates.specs.Open.{worked_on, branches_of}
use Rattle.certificates.proofs.OpenLemmas.{stacked_longer, branches_longer, on_open}
use Rattle.certificates.proofs.open.Open.go_on.Goals as goal

pub returns-clause-kept : goal.returns-clause-kept
returns-clause-kept c = λ e.
    let grown = c.extend.ensures.entries e in
    record {
      counted = c.extend.ensures.counted;
      ordered = c.requires.kept.ordered;
      later = omega (arith, c.requires.kept.later, ap length grown, length-append (worked_on c.args.self.now) c.args.formulas.now);
      stacked = stacked_longer _ _ _ _ grown c.requires.kept.stacked;
    }

pub returns-clause-branches : goal.returns-clause-branches
returns-clause-branches c = λ e.
    let grown = c.extend.ensures.entries e in
    let others = branches_longer (worked_on c.args.self.now) c.args.formulas.now (entries_of c.extend.new.branch) _ (cases_in c.args.self.now.waiting) grown (omega arith) c.requires.kept.stacked in
    on_open _ _ c.requires.on ∙ (λ i. grown i ∷ others i)
