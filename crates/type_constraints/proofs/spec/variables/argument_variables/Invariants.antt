use Rattle.std.proofs.Common.{◌≡◌, length}
use Rattle.typing_rules.specs.SpecConstraints.{spec_first_argument}
use Rattle.type_constraints.specs.SpecKnown.{AreVariables}
use Rattle.type_constraints.specs.SpecSettings.{setting_of}
use Rattle.type_constraints.proofs.spec.variables.argument_variables.Given as goal

abbrev pub invariant-loop-index : goal.invariant-loop-index
invariant-loop-index l = record {
  len : length l.variables.items ≡ l.index;
  next : l.next ≡ spec_first_argument (setting_of l.setting) l.index;
  first : AreVariables (setting_of l.setting) l.variables.items;
}
