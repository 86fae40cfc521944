use Rattle.std.proofs.Common.{ap, ◌∙◌, ◌+◌}
use Rattle.tableau.specs.Logs.{value_in}
use Rattle.tableau.specs.Variables.{VariablesData}
use Rattle.tableau.proofs.VariablesLemmas.{named_iff}
use Rattle.tableau.proofs.names.variables.Variables.is_named.Goals as goal

pub returns : goal.returns
returns c ns es h all =
    named_iff ns es c.args.self.now h all c.args.entry c.value.result c.is_some.result (c.value.ensures ∙ ap (λ (v : VariablesData). value_in v.names (c.args.entry + 1)) c.self.view_is) c.is_some.ensures
