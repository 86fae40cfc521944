use Rattle.std.proofs.Common.{subst}
use Rattle.std.specs.Prelude.{MatchOption}
use Rattle.term_pool.proofs.GrowthLemmas.{extends_then}
use Rattle.tableau.specs.PoolBranches.{branch_in}
use Rattle.tableau.specs.Steps.{NoParts}
use Rattle.tableau.specs.Names.{NoName}
use Rattle.tableau.proofs.GraphLemmas.{ok_map}
use Rattle.axiom_strategy.specs.declared.due.WantedAxioms.TheVariants.{Ranges}
use Rattle.axiom_strategy.specs.Due.{NoAxiom}
use Rattle.axiom_strategy.proofs.KnownLemmas.{known_stay}
use Rattle.tableau.proofs.StateLemmas.{state_stays}
use Rattle.search.specs.Decisions.{HasRoom, IsExtensionDue}
use Rattle.search.proofs.ApplicationLemmas.{over_stays, fact_stays}
use Rattle.strategy.proofs.EarlyLemmas.{due_back, early_answer}
use Rattle.strategy.proofs.early.early_application.Goals as goal

pub returns-in-Some-clause-known : goal.returns-in-Some-clause-known
returns-in-Some-clause-known c = known_stay c.args.shapes.now c.args.pool.now c.parts_due.new.pool c.args.known.now c.parts_due.ensures.extends c.requires.known

pub returns-in-Some-clause-due : goal.returns-in-Some-clause-due
returns-in-Some-clause-due c =
    let shapes = c.args.shapes.now in
    let ms = c.parts_due.new.pool in
    let b = branch_in ms c.args.branch.now in
    due_back c.args.pool.now c.args.branch.now c.requires.over shapes ms c.parts_due.ensures.extends c.in-Some.parts (subst (λ o. MatchOption o (NoParts b) (IsExtensionDue shapes ms b)) c.in-Some.is (c.in_ok-parts.ensures.due shapes))

pub name_due-requires-clause-over : goal.name_due-requires-clause-over
name_due-requires-clause-over c = over_stays c.args.pool.now c.parts_due.new.pool c.parts_due.ensures.extends c.args.branch.now c.requires.over

pub name_due-requires-clause-room : goal.name_due-requires-clause-room
name_due-requires-clause-room c = fact_stays c.args.pool.now c.parts_due.new.pool c.parts_due.ensures.extends HasRoom c.args.branch.now c.requires.over c.requires.room

pub returns-in-Some-2-clause-known : goal.returns-in-Some-2-clause-known
returns-in-Some-2-clause-known c = known_stay c.args.shapes.now c.args.pool.now c.name_due.new.pool c.args.known.now (extends_then c.parts_due.ensures.extends c.name_due.ensures.extends) c.requires.known

pub returns-in-Some-2-clause-due : goal.returns-in-Some-2-clause-due
returns-in-Some-2-clause-due c =
    let shapes = c.args.shapes.now in
    let ms = c.name_due.new.pool in
    let b = branch_in ms c.args.branch.now in
    due_back c.args.pool.now c.args.branch.now c.requires.over shapes ms (extends_then c.parts_due.ensures.extends c.name_due.ensures.extends) c.in-Some-2.name (subst (λ o. MatchOption o (NoName b) (IsExtensionDue shapes ms b)) c.in-Some-2.is (c.in_ok-name.ensures.due shapes))

pub range_axiom_due-requires-clause-over : goal.range_axiom_due-requires-clause-over
range_axiom_due-requires-clause-over c = over_stays c.args.pool.now c.name_due.new.pool (extends_then c.parts_due.ensures.extends c.name_due.ensures.extends) c.args.branch.now c.requires.over

pub range_axiom_due-requires-clause-known : goal.range_axiom_due-requires-clause-known
range_axiom_due-requires-clause-known c = known_stay c.args.shapes.now c.args.pool.now c.name_due.new.pool c.args.known.now (extends_then c.parts_due.ensures.extends c.name_due.ensures.extends) c.requires.known

pub returns-in-Some-3-clause-state : goal.returns-in-Some-3-clause-state
returns-in-Some-3-clause-state c = state_stays c.name_due.new.pool c.range_axiom_due.new.pool c.range_axiom_due.ensures.extends c.name_due.new.state c.in_ok-name.ensures.state

pub returns-in-Some-3-clause-due : goal.returns-in-Some-3-clause-due
returns-in-Some-3-clause-due c =
    let shapes = c.args.shapes.now in
    let ms = c.range_axiom_due.new.pool in
    let b = branch_in ms c.args.branch.now in
    due_back c.args.pool.now c.args.branch.now c.requires.over shapes ms (extends_then (extends_then c.parts_due.ensures.extends c.name_due.ensures.extends) c.range_axiom_due.ensures.extends) c.in-Some-3.axiom (subst (λ o. MatchOption o (NoAxiom shapes b Ranges) (IsExtensionDue shapes ms b)) c.in-Some-3.is c.in_ok-axiom.ensures.due)

pub range_split_due-requires-clause-over : goal.range_split_due-requires-clause-over
range_split_due-requires-clause-over c = over_stays c.args.pool.now c.range_axiom_due.new.pool (extends_then (extends_then c.parts_due.ensures.extends c.name_due.ensures.extends) c.range_axiom_due.ensures.extends) c.args.branch.now c.requires.over

pub range_split_due-requires-clause-state : goal.range_split_due-requires-clause-state
range_split_due-requires-clause-state c = state_stays c.name_due.new.pool c.range_axiom_due.new.pool c.range_axiom_due.ensures.extends c.name_due.new.state c.in_ok-name.ensures.state

pub returns-clause-due : goal.returns-clause-due
returns-clause-due c =
    let ns = c.args.pool.now in
    let d = c.args.branch.now in
    let shapes = c.args.shapes.now in
    let ms1 = c.parts_due.new.pool in
    let ms2 = c.name_due.new.pool in
    let ms3 = c.range_axiom_due.new.pool in
    let ms4 = c.range_split_due.new.pool in
    let e1 = c.parts_due.ensures.extends in
    let e2 = extends_then e1 c.name_due.ensures.extends in
    let e3 = extends_then e2 c.range_axiom_due.ensures.extends in
    let e4 = extends_then e3 c.range_split_due.ensures.extends in
    let b1 = branch_in ms1 d in
    let b2 = branch_in ms2 d in
    let b3 = branch_in ms3 d in
    let parts = subst (λ o. MatchOption o (NoParts b1) (IsExtensionDue shapes ms1 b1)) c.in_default.is (c.in_ok-parts.ensures.due shapes) in
    let names = subst (λ o. MatchOption o (NoName b2) (IsExtensionDue shapes ms2 b2)) c.in_default-2.is (c.in_ok-name.ensures.due shapes) in
    let axioms = subst (λ o. MatchOption o (NoAxiom shapes b3 Ranges) (IsExtensionDue shapes ms3 b3)) c.in_default-3.is c.in_ok-axiom.ensures.due in
    ok_map c.range_split_due.result (λ o h. early_answer ns d c.requires.over shapes ms1 ms2 ms3 ms4 e1 e2 e3 e4 parts names axioms o h) c.range_split_due.ensures.due
