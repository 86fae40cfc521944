use Rattle.std.proofs.Common.{sym, subst}
use Rattle.tableau.specs.Variables.{AreAbove}
use Rattle.tableau.proofs.VariablesLemmas.{above_cut}
use Rattle.tableau.proofs.names.variables.Variables.truncate.Goals as goal

pub returns : goal.returns
returns c ns es h =
    above_cut ns es c.args.count c.self.inside.entries.items c.truncate.new.self.items c.self.inside.nodes.items c.self.inside.names c.truncate-2.new.self c.truncate.ensures.items c.truncate-2.ensures (subst (AreAbove ns es) (sym c.self.view_is) h)
