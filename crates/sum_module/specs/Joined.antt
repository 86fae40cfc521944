-- The functions of a module whose members are built, each with the clauses of its spec blocks in their order.
-- Source: the Move Specification Language reference, "Spec Blocks and Conditions": several blocks for one function are
-- joined.
use Rattle.std.specs.Prelude.{ℕ, if◌then◌else◌, List, [], ◌∷◌, map}
use Rattle.std.specs.List.{flat_map}
use Rattle.base.specs.Names.{same_name}
use Rattle.sum_tree.specs.declared.clause.SumClause.{SumClause}
use Rattle.sum_tree.specs.SumFunctionData.{SumFunctionData}
use Rattle.sum_tree.specs.SpecifiedData.{SpecifiedFunctionData}
use Rattle.sum_tree.specs.SumModuleData.{SumModuleData}
use Rattle.sum_module.specs.declared.member.SumMember.{SumMember}
use Rattle.sum_module.specs.declared.member.SumMember.TheVariants.{Function, Spec}
use Rattle.sum_module.specs.SumSpecData.{SumSpecData}
use Rattle.sum_module.specs.BuiltModuleData.{BuiltModuleData}

abbrev pub functions_of_member : SumMember → List SumFunctionData
functions_of_member (Function f) = f ∷ []
functions_of_member (Spec s) = []

abbrev pub specs_of_member : SumMember → List SumSpecData
specs_of_member (Function f) = []
specs_of_member (Spec s) = s ∷ []

-- the functions and the spec blocks among the members, each in their order
abbrev pub functions_in : List SumMember → List SumFunctionData
functions_in members = flat_map functions_of_member members

abbrev pub specs_in : List SumMember → List SumSpecData
specs_in members = flat_map specs_of_member members

-- the clauses of a spec block, if it is of the function of this name
abbrev pub clauses_of_spec : List ℕ → SumSpecData → List SumClause
clauses_of_spec name s = if same_name s.target name then s.clauses else []

abbrev pub clauses_among : List ℕ → List SumSpecData → List SumClause
clauses_among name specs = flat_map (clauses_of_spec name) specs

abbrev pub specified : List SumMember → SumFunctionData → SpecifiedFunctionData
specified members f = record { function = f; clauses = clauses_among f.name (specs_in members) }

-- the module of a file with this number
abbrev pub module_of : ℕ → BuiltModuleData → SumModuleData
module_of file m = record { file = file; address = m.address; name = m.name; functions = map (specified m.members) (functions_in m.members) }
