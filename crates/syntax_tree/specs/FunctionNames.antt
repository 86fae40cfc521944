-- The names of a module's functions.
use Rattle.std.specs.Prelude.{ℕ, List, [], ◌∷◌}
use Rattle.std.specs.List.{flat_map}
use Rattle.syntax_tree.specs.FileData.{MemberData}
use Rattle.syntax_tree.specs.declared.member.MemberForm.{MemberForm}
use Rattle.syntax_tree.specs.declared.member.MemberForm.TheVariants.{Use, Friend, Struct, Constant, Function, Spec}

abbrev pub function_name : MemberForm → List (List ℕ)
function_name (Use u) = []
function_name (Friend f) = []
function_name (Struct s) = []
function_name (Constant c) = []
function_name (Function f) = f.name.text ∷ []
function_name (Spec s) = []

-- the names of the functions among the members, in their order
abbrev pub function_names : List MemberData → List (List ℕ)
function_names members = flat_map (λ m. function_name m.form) members
