-- Which members of a module are built (of the supported form), and what each is: a function over sums, or clauses over
-- sums of a function of the module. Source: this project's profile.
use Rattle.std.specs.Prelude.{◌≡◌, ℕ, true, false, List, [], ◌∷◌, ◌++◌, Option, Some, None}
use Rattle.std.specs.Option.{option_map}
use Rattle.std.specs.List.{flat_map, list_all}
use Rattle.syntax_tree.specs.declared.clause.Spec.{Spec as SpecTree}
use Rattle.syntax_tree.specs.declared.clause.Spec.TheVariants.{Named}
use Rattle.syntax_tree.specs.declared.member.Function.{Function as FunctionTree}
use Rattle.syntax_tree.specs.declared.source.SourceForm.{SourceForm}
use Rattle.syntax_tree.specs.declared.source.SourceForm.TheVariants.{Use, Friend, Struct, Constant, Function, Spec}
use Rattle.syntax_tree.specs.SourceData.{SourceMemberData}
use Rattle.sum_tree.specs.SumFunctionData.{SumFunctionData}
use Rattle.sum_read.specs.Clauses.{clauses_of}
use Rattle.sum_read.specs.Functions.{function_of}
use Rattle.sum_module.specs.declared.member.SumMember.{SumMember}
use Rattle.sum_module.specs.declared.member.SumMember.TheVariants.{Function as function_member, Spec as spec_member}
use Rattle.sum_module.specs.SumSpecData.{SumSpecData}
use Rattle.sum_module.specs.Scope.{is_closed, knows_clause}
use Rattle.base.specs.Names.{is_one_of}
use Rattle.sum_module.specs.Parameters.{parameters_in}

-- ---- functions

abbrev pub name_of_form : SourceForm → List (List ℕ)
name_of_form (Use u) = []
name_of_form (Friend f) = []
name_of_form (Struct s) = []
name_of_form (Constant c) = []
name_of_form (Function f) = f.name.text ∷ []
name_of_form (Spec s) = []

abbrev pub name_of_member : SourceMemberData → List (List ℕ)
name_of_member m = name_of_form m.form

-- the names of the functions among the members
abbrev pub functions_of : List SourceMemberData → List (List ℕ)
functions_of members = flat_map name_of_member members

-- the function is this one over sums, the words in its body are its parameters, and no function before it has its name
pub record IsFunction (before : List SourceMemberData) (f : FunctionTree) (found : SumMember) : Type 0 where
  pub function : SumFunctionData
  pub found_is : found ≡ function_member function
  pub read : function_of f ≡ Some function
  pub closed : is_closed function ≡ true
  pub first : is_one_of (functions_of before) f.name.text ≡ false

-- ---- specs

abbrev pub spec_of : SpecTree → Option SumSpecData
spec_of (Named span name clauses) = option_map (λ cs. record { target = name.text; clauses = cs }) (clauses_of clauses)
spec_of _ = None

-- the block has these clauses over sums, its name is that of a function of the module, and the words of its clauses are
-- in scope with that function's parameters
pub record IsSpec (members : List SourceMemberData) (tree : SpecTree) (found : SumMember) : Type 0 where
  pub spec : SumSpecData
  pub found_is : found ≡ spec_member spec
  pub read : spec_of tree ≡ Some spec
  pub parameters : List (List ℕ)
  pub target : parameters_in members spec.target ≡ Some parameters
  pub known : list_all (knows_clause parameters) spec.clauses ≡ true

-- ---- members

-- in a module with these members, after those before it, a member of this form is this one
abbrev pub IsMember : List SourceMemberData → List SourceMemberData → SourceForm → SumMember → Type 0
IsMember members before (Use u) found = ⊥
IsMember members before (Friend f) found = ⊥
IsMember members before (Struct s) found = ⊥
IsMember members before (Constant c) found = ⊥
IsMember members before (Function f) found = IsFunction before f found
IsMember members before (Spec tree) found = IsSpec members tree found

-- the member is none of these
abbrev pub IsUnbuilt : List SourceMemberData → List SourceMemberData → SourceForm → Type 0
IsUnbuilt members before form = (found : SumMember) → IsMember members before form found → ⊥

-- members after others, and what they are
abbrev pub AreMembers : List SourceMemberData → List SourceMemberData → List SourceMemberData → List SumMember → Type 0
AreMembers members before [] [] = Unit {0}
AreMembers members before [] (x ∷ xs) = ⊥
AreMembers members before (m ∷ ms) [] = ⊥
AreMembers members before (m ∷ ms) (x ∷ xs) = IsMember members before m.form x × AreMembers members (before ++ m ∷ []) ms xs
