use Rattle.std.proofs.Common.{get_or, refl, subst}
use Rattle.std.specs.Prelude.{MatchOption}
use Rattle.term_pool.proofs.GrowthLemmas.{extends_itself, extends_then}
use Rattle.tableau.specs.PoolBranches.{branch_in}
use Rattle.ematching.specs.Numbers.{term_at}
use Rattle.ematching.proofs.ListLemmas.{among_get_or}
use Rattle.ematching.specs.Instances.{NoInstanceFor, IsInstanceAt}
use Rattle.ematching.proofs.StepLemmas.{still_over, among_first, among_next, none_among, number_still, entry_still, matched_still, none_back, due_back}
use Rattle.ematching.proofs.instances.due.instance_among.Goals as goal

pub loop-term-init : goal.loop-term-init
loop-term-init c = record {
  grown = extends_itself c.args.pool.now;
  none = among_first (branch_in c.args.pool.now c.args.branch.now) c.args.quantified.entry c.args.pool.now _ refl;
}

pub instance_for-requires : goal.instance_for-requires
instance_for-requires c =
    let ns = c.args.pool.now in
    let ms = c.loop-term.pool in
    let d = c.args.branch.now in
    let grown = c.loop-term.invariant.grown in
    let v = get_or c.args.terms.now c.loop-term.term-index 0 in
    let among = among_get_or c.args.terms.now c.loop-term.term-index 0 c.loop-term-test.true in
    record {
      over = still_over ns ms grown d c.requires.over;
      quantified = entry_still ns d c.requires.over c.args.quantified c.requires.quantified c.args.terms.now c.requires.terms ms grown v among;
      term = number_still ns d c.requires.over c.args.quantified c.requires.quantified c.args.terms.now c.requires.terms ms grown v among;
      matched = matched_still ns d c.requires.over c.args.quantified c.requires.quantified c.args.terms.now c.requires.terms ms grown v among;
    }

pub returns-in_err-found-clause-extends : goal.returns-in_err-found-clause-extends
returns-in_err-found-clause-extends c = extends_then c.loop-term.invariant.grown c.instance_for.ensures.extends

pub returns-in-Some-clause-extends : goal.returns-in-Some-clause-extends
returns-in-Some-clause-extends c = extends_then c.loop-term.invariant.grown c.instance_for.ensures.extends

pub returns-in-Some-clause-due : goal.returns-in-Some-clause-due
returns-in-Some-clause-due c =
    let ns = c.args.pool.now in
    let ms = c.loop-term.pool in
    let d = c.args.branch.now in
    let v = get_or c.args.terms.now c.loop-term.term-index 0 in
    due_back ns ms c.instance_for.new.pool c.loop-term.invariant.grown d c.requires.over c.args.quantified.entry c.in-Some.step (subst (λ o. MatchOption o (NoInstanceFor (branch_in ms d) c.args.quantified.entry (term_at ms v)) (IsInstanceAt c.instance_for.new.pool (branch_in ms d) c.args.quantified.entry)) c.in-Some.is c.in_ok-found.ensures.due)

pub loop-term-preserved : goal.loop-term-preserved
loop-term-preserved c =
    let ns = c.args.pool.now in
    let ms = c.loop-term.pool in
    let d = c.args.branch.now in
    let grown = c.loop-term.invariant.grown in
    let v = get_or c.args.terms.now c.loop-term.term-index 0 in
    let among = among_get_or c.args.terms.now c.loop-term.term-index 0 c.loop-term-test.true in
    let none = subst (λ o. MatchOption o (NoInstanceFor (branch_in ms d) c.args.quantified.entry (term_at ms v)) (IsInstanceAt c.instance_for.new.pool (branch_in ms d) c.args.quantified.entry)) c.in_default.is c.in_ok-found.ensures.due in
    record {
      grown = extends_then grown c.instance_for.ensures.extends;
      none = among_next (branch_in ns d) c.args.quantified.entry ns c.args.terms.now c.loop-term.term-index c.loop-term-test.true c.loop-term.invariant.none (none_back ns d c.requires.over c.args.quantified c.requires.quantified c.args.terms.now c.requires.terms ms grown v among none);
    }

pub returns-clause-extends : goal.returns-clause-extends
returns-clause-extends c = c.loop-term.invariant.grown

pub returns-clause-due : goal.returns-clause-due
returns-clause-due c =
    none_among c.args.pool.now c.args.branch.now c.requires.over c.args.quantified c.requires.quantified c.args.terms.now c.requires.terms c.loop-term.term-index c.loop-term-test.false c.loop-term.invariant.none
