use Rattle.std.proofs.Common.{nat_eq, sym, subst}
use Rattle.std.specs.Prelude.{MatchOption}
use Rattle.indexmap.specs.IndexMap.{get}
use Rattle.row_reasoning.proofs.NameLemmas.{not_past}
use Rattle.row_reasoning.specs.DifferencesEntries.{IsDeep, MakeChosen}
use Rattle.closing_rules.proofs.RowClosingsDepthLemmas.{deep_later}
use Rattle.closing_rules.proofs.row_closings.rewriting.rewriting_of.Goals as goal

pub entry_differences-requires-clause-formula : goal.entry_differences-requires-clause-formula
entry_differences-requires-clause-formula c = c.requires.over.formulas c.args.number c.in-Some.entry (sym c.in-Some.ensures)

pub returns-in-None-found-clause-found : goal.returns-in-None-found-clause-found
returns-in-None-found-clause-found c =
    let deep = subst (λ o. MatchOption o (IsDeep c.entry_differences.new.pool c.in-Some.entry.formula) (λ ds. MakeChosen c.entry_differences.new.pool c.args.choice.classes.now c.args.choice.names.now (get nat_eq c.args.choice.chosen.now) c.in-Some.entry.formula ds.items)) c.in-None-found.is c.in_ok-found-in-Some.ensures.found in
    deep_later c.args.pool.now c.args.branch.now c.requires.over c.entry_differences.new.pool c.entry_differences.ensures.extends c.args.number c.in-Some.entry (sym c.in-Some.ensures) deep

pub returns-in-None-clause-found : goal.returns-in-None-clause-found
returns-in-None-clause-found c = absurd (not_past c.args.branch.now.entries c.args.number c.requires.number c.in-None.ensures)
