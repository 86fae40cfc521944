-- The parameters of a module's functions, by the names of the functions.
use Rattle.std.specs.Prelude.{◌≡◌, ℕ, if◌then◌else◌, List, [], ◌∷◌, map, Option, Some, None}
use Rattle.std.specs.Option.{option_or}
use Rattle.std.specs.BTreeMap.{BTreeMap}
use Rattle.std.specs.BTreeMap as tree
use Rattle.std.specs.Ordering.{nat_cmp}
use Rattle.std.specs.Cmp.Lexicographic.{slice_cmp}
use Rattle.syntax_tree.specs.declared.member.TypedName.{TypedName}
use Rattle.syntax_tree.specs.declared.member.Function.{Function as FunctionTree}
use Rattle.base.specs.Names.{same_name}
use Rattle.syntax_tree.specs.declared.source.SourceForm.{SourceForm}
use Rattle.syntax_tree.specs.declared.source.SourceForm.TheVariants.{Use, Friend, Struct, Constant, Function, Spec}
use Rattle.syntax_tree.specs.SourceData.{SourceMemberData}

abbrev pub names_of : List TypedName → List (List ℕ)
names_of inputs = map (λ p. p.name.text) inputs

-- the parameters of the member, if it is a function of this name
abbrev pub parameters_of : List ℕ → SourceForm → Option (List (List ℕ))
parameters_of name (Use u) = None
parameters_of name (Friend f) = None
parameters_of name (Struct s) = None
parameters_of name (Constant c) = None
parameters_of name (Function f) = if same_name name f.name.text then Some (names_of f.inputs.items) else None
parameters_of name (Spec s) = None

-- the parameters of the first function of this name
abbrev pub parameters_in : List SourceMemberData → List ℕ → Option (List (List ℕ))
parameters_in [] name = None
parameters_in (m ∷ ms) name = option_or (parameters_of name m.form) (parameters_in ms name)

abbrev pub Table : Type 0
Table = BTreeMap (List ℕ) (List (List ℕ))

abbrev pub parameters_at : Table → List ℕ → Option (List (List ℕ))
parameters_at table name = tree.get (slice_cmp nat_cmp) table name

-- the table has the parameters of the functions among these members
abbrev pub IsTableOf : Table → List SourceMemberData → Type 0
IsTableOf table members = (name : List ℕ) → parameters_at table name ≡ parameters_in members name

-- the table has those of one more function, unless it had a function of that name
abbrev pub IsAdded : FunctionTree → Table → Table → Type 0
IsAdded f old new = (name : List ℕ) → parameters_at new name ≡ option_or (parameters_at old name) (if same_name name f.name.text then Some (names_of f.inputs.items) else None)
