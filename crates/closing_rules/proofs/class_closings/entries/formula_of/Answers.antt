use Rattle.std.proofs.Common.{refl, sym}
use Rattle.closing_rules.proofs.EntryLemmas.{no_entry}
use Rattle.closing_rules.proofs.class_closings.entries.formula_of.Goals as goal

pub returns-in-Some : goal.returns-in-Some
returns-in-Some c = record { entry = c.in-Some.found; found = sym c.in-Some.ensures; is = refl }

pub returns-in-None : goal.returns-in-None
returns-in-None c = absurd (no_entry c.args.branch.now.entries c.args.entry c.in-None.ensures c.requires)
