-- The setting of the body of a spec function.
use Rattle.std.specs.Prelude.{false}
use Rattle.base.specs.TypeData.{NoTypes}
use Rattle.program.specs.declared.declaration.SpecFunction.{SpecFunction}
use Rattle.program.specs.declared.program.Program.{Program}
use Rattle.typing_rules.specs.Clauses.{entry_alone, named_by}
use Rattle.typing_rules.specs.SpecConstraints.{SpecSetting}
use Rattle.type_constraints.specs.SpecSettings.{spec_function_names, variables_of}

abbrev pub spec_function_setting : Program → SpecFunction → SpecSetting
spec_function_setting program f = record {
  program = program;
  nodes = f.body.nodes;
  named = named_by (spec_function_names f) entry_alone;
  may_be_old = false;
  variables = variables_of f.body.nodes;
  types = NoTypes;
}
