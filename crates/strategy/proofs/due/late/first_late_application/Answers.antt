use Rattle.std.proofs.Common.{subst}
use Rattle.std.specs.Prelude.{MatchOption}
use Rattle.tableau.specs.Steps.{NoSplit, IsSplitStep}
use Rattle.term_pool.proofs.GrowthLemmas.{extends_then}
use Rattle.tableau.specs.PoolBranches.{branch_in}
use Rattle.certificates.specs.ProofTraces.{IsLate}
use Rattle.axiom_strategy.specs.Cuts.{NoCut, IsCut}
use Rattle.search.specs.Decisions.{IsExtensionDue}
use Rattle.search.proofs.ApplicationLemmas.{over_stays, fact_stays, fact_goes_back}
use Rattle.strategy.proofs.LateLemmas.{no_split_yet, classes_stay, split_back, nothing_late}
use Rattle.strategy.proofs.due.late.first_late_application.Goals as goal

pub next_split-requires-clause-before : goal.next_split-requires-clause-before
next_split-requires-clause-before c = no_split_yet (branch_in c.args.pool.now c.args.branch.now)

pub returns-in-Some-clause-due : goal.returns-in-Some-clause-due
returns-in-Some-clause-due c = λ shapes late. (
    let ms = c.next_split.new.pool in
    let b = branch_in ms c.args.branch.now in
    split_back c.args.pool.now ms c.next_split.ensures.extends c.args.branch.now c.requires.over shapes c.in-Some.split c.split_application.result (subst (λ o. MatchOption o (NoSplit b) (IsSplitStep ms b)) c.in-Some.is c.in_ok-split.ensures.due) (c.split_application.ensures shapes ms) late)

pub next_cut-requires-clause-over : goal.next_cut-requires-clause-over
next_cut-requires-clause-over c = over_stays c.args.pool.now c.next_split.new.pool c.next_split.ensures.extends c.args.branch.now c.requires.over

pub next_cut-requires-clause-classes : goal.next_cut-requires-clause-classes
next_cut-requires-clause-classes c = classes_stay c.args.pool.now c.next_split.new.pool c.next_split.ensures.extends c.args.branch.now c.requires.over c.args.classes.now c.requires.classes

pub returns-in_default-2-clause-due : goal.returns-in_default-2-clause-due
returns-in_default-2-clause-due c = λ shapes late. (
    let ms = c.next_split.new.pool in
    let os = c.next_cut.new.pool in
    let b = branch_in ms c.args.branch.now in
    let d = branch_in os c.args.branch.now in
    nothing_late c.args.pool.now ms os c.next_split.ensures.extends (extends_then c.next_split.ensures.extends c.next_cut.ensures.extends) c.args.branch.now c.requires.over (subst (λ o. MatchOption o (NoSplit b) (IsSplitStep ms b)) c.in_default.is c.in_ok-split.ensures.due) (subst (λ o. MatchOption o (NoCut d) (IsCut os d)) c.in_default-2.is c.in_ok-cut.ensures.due))

pub cut_application-requires-clause-over : goal.cut_application-requires-clause-over
cut_application-requires-clause-over c = over_stays c.args.pool.now c.next_cut.new.pool (extends_then c.next_split.ensures.extends c.next_cut.ensures.extends) c.args.branch.now c.requires.over

pub returns-clause-due : goal.returns-clause-due
returns-clause-due c = λ shapes late. (
    let both = extends_then c.next_split.ensures.extends c.next_cut.ensures.extends in
    fact_goes_back c.args.pool.now c.next_cut.new.pool both (λ b. IsExtensionDue shapes c.cut_application.new.pool b c.in_ok-cut_application.field-0) c.args.branch.now c.requires.over (c.in_ok-cut_application.ensures.due shapes (fact_stays c.args.pool.now c.next_cut.new.pool both (IsLate shapes) c.args.branch.now c.requires.over late)))
