-- The number of parameters and locals of functions. Source: The Move Book, "Local Variables and Scopes"; the limit is
-- this project's.
use Rattle.std.specs.Prelude.{◌≡◌, ℕ, ◌+◌, nat_lt, if◌then◌else◌, List, [], ◌∷◌, length, Option, Some, None}
use Rattle.std.specs.Option.{option_or}
use Rattle.syntax_tree.specs.declared.member.Function.{Function as FunctionTree}
use Rattle.syntax_tree.specs.declared.source.SourceForm.{SourceForm}
use Rattle.syntax_tree.specs.declared.source.SourceForm.TheVariants.{Use, Friend, Struct, Constant, Function, Spec}
use Rattle.syntax_tree.specs.SourceData.{SourceMemberData}
use Rattle.syntax_tree.specs.SourceModuleData.{SourceModuleData}
use Rattle.syntax_tree.specs.Locals.{locals_of}
use Rattle.front_end.specs.Chain.{FileStage, checks}
use Rattle.front_end.specs.declared.fault.FileFault.{FileFault}
use Rattle.front_end.specs.declared.fault.FileFault.TheVariants.{Passes}
use Rattle.front_end.specs.declared.fault.FileLimit.TheVariants.{Locals}

-- the number of parameters of a function and of the names that its `let`s bind
abbrev pub local_count : FunctionTree → ℕ
local_count f = length f.inputs.items + length (locals_of f.body)

-- the number, if it exceeds the limit
abbrev pub over_limit : ℕ → Option ℕ
over_limit count = if nat_lt 256 count then Some count else None

abbrev pub excess_of_form : SourceForm → Option ℕ
excess_of_form (Use u) = None
excess_of_form (Friend f) = None
excess_of_form (Struct s) = None
excess_of_form (Constant c) = None
excess_of_form (Function f) = over_limit (local_count f)
excess_of_form (Spec s) = None

abbrev pub excess_of_member : SourceMemberData → Option ℕ
excess_of_member m = excess_of_form m.form

-- the first result for an item of the list
abbrev pub first_of : {A : Type 0} → (A → Option ℕ) → List A → Option ℕ
first_of f [] = None
first_of f (x ∷ xs) = option_or (f x) (first_of f xs)

-- the count of the first function that exceeds the limit
abbrev pub excess_of_module : SourceModuleData → Option ℕ
excess_of_module m = first_of excess_of_member m.members

abbrev pub excess_of : List SourceModuleData → Option ℕ
excess_of source = first_of excess_of_module source

abbrev pub HasFewLocals : ℕ → List SourceModuleData → Type 0
HasFewLocals n source = excess_of source ≡ None

-- A function has too many: the count is that of the first that exceeds the limit.
pub record HasManyLocals (n : ℕ) (source : List SourceModuleData) (fault : FileFault) : Type 0 where
  pub count : ℕ
  pub fault_is : fault ≡ Passes Locals count
  pub excess : excess_of source ≡ Some count

abbrev pub locals_stage : FileStage (List (List SourceModuleData)) (List (List SourceModuleData))
locals_stage = checks HasFewLocals HasManyLocals
