use Rattle.std.proofs.Common.{nat_eq, subst}
use Rattle.std.specs.Prelude.{MatchOption}
use Rattle.indexmap.specs.IndexMap.{get}
use Rattle.term_pool.proofs.GrowthLemmas.{extends_then}
use Rattle.tableau.specs.PoolBranches.{branch_in}
use Rattle.tableau.proofs.PushLemmas.{over_still}
use Rattle.congruence_closure.proofs.OverLemmas.{still_over}
use Rattle.closing_rules.specs.Rewritings.{IsRewritingOf}
use Rattle.closing_rules.specs.Depths.{HasDeep}
use Rattle.closing_rules.proofs.RowClosingsRewritingLemmas.{stand_ins_grown, one_more}
use Rattle.closing_rules.proofs.SettingLemmas.{same_branch}
use Rattle.closing_rules.proofs.row_closings.rewriting.rewritings.Goals as goal

pub rewriting_of-requires-clause-over : goal.rewriting_of-requires-clause-over
rewriting_of-requires-clause-over c = over_still c.args.pool.now c.loop-number.pool c.loop-number.invariant.extends c.args.branch.now c.requires.over

pub rewriting_of-requires-clause-classes : goal.rewriting_of-requires-clause-classes
rewriting_of-requires-clause-classes c = still_over c.args.pool.now c.loop-number.pool c.args.choice.classes.now c.loop-number.invariant.extends c.requires.classes

pub rewriting_of-requires-clause-chosen : goal.rewriting_of-requires-clause-chosen
rewriting_of-requires-clause-chosen c = stand_ins_grown c.args.pool.now c.loop-number.pool c.loop-number.invariant.extends c.args.branch.now c.requires.over c.args.choice.classes.now c.args.choice.names.now (get nat_eq c.args.choice.chosen.now) c.requires.chosen

pub returns-in-None-clause-found : goal.returns-in-None-clause-found
returns-in-None-clause-found c =
    let deep = subst (λ o. MatchOption o (HasDeep (branch_in c.loop-number.pool c.args.branch.now)) (IsRewritingOf c.rewriting_of.new.pool c.args.branch.now c.args.choice.classes.now c.args.choice.names.now (get nat_eq c.args.choice.chosen.now) c.loop-number.number)) c.in-None.is c.in_ok-rewriting.ensures.found in
    subst HasDeep (same_branch c.args.pool.now c.loop-number.pool c.loop-number.invariant.extends c.args.branch.now c.args.choice.classes.now c.requires.over) deep

pub loop-number-preserved : goal.loop-number-preserved
loop-number-preserved c =
    let over = over_still c.args.pool.now c.loop-number.pool c.loop-number.invariant.extends c.args.branch.now c.requires.over in
    let made = subst (λ o. MatchOption o (HasDeep (branch_in c.loop-number.pool c.args.branch.now)) (IsRewritingOf c.rewriting_of.new.pool c.args.branch.now c.args.choice.classes.now c.args.choice.names.now (get nat_eq c.args.choice.chosen.now) c.loop-number.number)) c.in-Some.is c.in_ok-rewriting.ensures.found in
    record {
      extends = extends_then c.loop-number.invariant.extends c.rewriting_of.ensures.extends;
      sums = c.in_ok-rewriting.ensures.sums;
      made = one_more c.loop-number.pool c.rewriting_of.new.pool c.rewriting_of.ensures.extends c.args.branch.now over c.args.choice.classes.now c.args.choice.names.now (get nat_eq c.args.choice.chosen.now) c.args.cited.now c.loop-number.rewritings.items c.push.new.self.items c.loop-number.number c.in-Some.rewriting c.in_ok-push-in-Some.ensures.items made c.loop-number.invariant.made;
    }
