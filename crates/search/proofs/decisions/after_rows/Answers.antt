use Rattle.tableau.specs.PoolBranches.{branch_in}
use Rattle.certificates.specs.Due.{IsSaturated}
use Rattle.search.specs.Decisions.{HasRoom, IsLevel}
use Rattle.search.proofs.ApplicationLemmas.{over_stays, fact_stays, shaped_fact_stays, decided_back, saturated_by, ok_map, at_none}
use Rattle.search.proofs.decisions.after_rows.Goals as goal

pub at_leaf-requires-clause-over : goal.at_leaf-requires-clause-over
at_leaf-requires-clause-over g c = over_stays c.args.pool.now c.late.new.pool c.late.ensures.extends c.args.branch.now c.requires.over

pub at_leaf-requires-clause-room : goal.at_leaf-requires-clause-room
at_leaf-requires-clause-room g c = fact_stays c.args.pool.now c.late.new.pool c.late.ensures.extends HasRoom c.args.branch.now c.requires.over c.requires.room

pub at_leaf-requires-clause-level : goal.at_leaf-requires-clause-level
at_leaf-requires-clause-level g c = fact_stays c.args.pool.now c.late.new.pool c.late.ensures.extends IsLevel c.args.branch.now c.requires.over c.requires.level

pub at_leaf-requires-clause-saturated : goal.at_leaf-requires-clause-saturated
at_leaf-requires-clause-saturated g c = shaped_fact_stays c.args.pool.now c.late.new.pool c.late.ensures.extends c.args.branch.now c.requires.over (g.D.Deciders.shapes c.args.deciders.now) (g.D.Deciders.shapes c.late.new.self) c.in_ok-extension.ensures.shapes IsSaturated (saturated_by (g.D.Deciders.shapes c.args.deciders.now) (branch_in c.args.pool.now c.args.branch.now) c.requires.late c.requires.plain (at_none c.in_ok-extension.field-0 _ _ c.in-None.is c.in_ok-extension.ensures.due))

pub returns-in-None-clause-decided : goal.returns-in-None-clause-decided
returns-in-None-clause-decided g c = ok_map c.at_leaf.result _ _ (decided_back c.args.pool.now c.late.new.pool c.at_leaf.new.pool c.late.ensures.extends c.args.branch.now c.requires.over (g.D.Deciders.shapes c.args.deciders.now) (g.D.Deciders.shapes c.late.new.self) c.in_ok-extension.ensures.shapes) c.at_leaf.ensures.decided
