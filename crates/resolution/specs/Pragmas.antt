-- The pragmas in force for a function. Source: the Move Specification Language reference, "Pragmas and Properties": a
-- pragma without a value is true, and one of the module is in force if the function does not set it.
use Rattle.std.specs.Prelude.{ℕ, Bool, true, false, List, [], ◌∷◌, codes, Option, Some, None, if◌then◌else◌}
use Rattle.std.specs.List.{flat_map}
use Rattle.std.specs.Option.{option_or, unwrap_or}
use Rattle.base.specs.Names.{same_name}
use Rattle.syntax_tree.specs.declared.clause.Pragma.{Pragma}
use Rattle.syntax_tree.specs.declared.clause.PragmaValue.{PragmaValue}
use Rattle.syntax_tree.specs.declared.clause.PragmaValue.TheVariants.{Truth, Number}
use Rattle.syntax_tree.specs.declared.clause.Clause.{Clause as ClauseTree}
use Rattle.syntax_tree.specs.declared.clause.Clause.TheVariants.{Pragma as pragma_clause, Requires as requires_clause, Ensures as ensures_clause, AbortsIf as aborts_if_clause, Modifies as modifies_clause, Invariant as invariant_clause, Let as let_clause, Include as include_clause, Variable as variable_clause}
use Rattle.program.specs.declared.declaration.Pragmas.{Pragmas}
use Rattle.resolution.specs.declared.clauses.pragmas.Settings.{Settings}

abbrev pub pragmas_of_clause : ClauseTree → List Pragma
pragmas_of_clause (pragma_clause span pragmas) = pragmas.items
pragmas_of_clause (requires_clause span e) = []
pragmas_of_clause (ensures_clause span e) = []
pragmas_of_clause (aborts_if_clause span e code) = []
pragmas_of_clause (modifies_clause span targets) = []
pragmas_of_clause (invariant_clause span is_update e) = []
pragmas_of_clause (let_clause span is_post name e) = []
pragmas_of_clause (include_clause i) = []
pragmas_of_clause (variable_clause n) = []

-- the pragmas of clauses, in order
abbrev pub pragmas_in : List ClauseTree → List Pragma
pragmas_in clauses = flat_map pragmas_of_clause clauses

-- the value that a pragma sets; a number sets no value, since no supported pragma has one
abbrev pub value_of : Option PragmaValue → Option Bool
value_of None = Some true
value_of (Some (Truth span value)) = Some value
value_of (Some (Number n)) = None

-- the value that this pragma sets, if it has this name
abbrev pub set_by : List ℕ → Pragma → Option Bool
set_by word p = if same_name p.name.text word then value_of p.value else None

-- the value that the last pragma with this name sets
abbrev pub last_set : List ℕ → List Pragma → Option Bool
last_set word [] = None
last_set word (one ∷ more) = option_or (last_set word more) (set_by word one)

-- the settings of pragmas
abbrev pub settings_of : List Pragma → Settings
settings_of pragmas = record {
  verify = last_set (codes "verify") pragmas;
  is_opaque = last_set (codes "opaque") pragmas;
  aborts_if_is_partial = last_set (codes "aborts_if_is_partial") pragmas;
  aborts_if_is_strict = last_set (codes "aborts_if_is_strict") pragmas;
}

-- the first settings, and the other ones where the first are absent
abbrev pub before_others : Settings → Settings → Settings
before_others own others = record {
  verify = option_or own.verify others.verify;
  is_opaque = option_or own.is_opaque others.is_opaque;
  aborts_if_is_partial = option_or own.aborts_if_is_partial others.aborts_if_is_partial;
  aborts_if_is_strict = option_or own.aborts_if_is_strict others.aborts_if_is_strict;
}

-- the pragmas in force for these settings: functions are verified by default, and every other pragma is false by
-- default
abbrev pub holding : Settings → Pragmas
holding s = record {
  verify = unwrap_or s.verify true;
  is_opaque = unwrap_or s.is_opaque false;
  aborts_if_is_partial = unwrap_or s.aborts_if_is_partial false;
  aborts_if_is_strict = unwrap_or s.aborts_if_is_strict false;
}

-- the pragmas of a function, from the settings of its own blocks and those of its module
abbrev pub pragmas_of : Settings → Settings → Pragmas
pragmas_of own of_module = holding (before_others own of_module)
