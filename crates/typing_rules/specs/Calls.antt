-- Calls of functions and their type arguments. Source: The Move Book, "Generics": a generic function has as many
-- instances as its callers give it types; under polymorphic recursion, where a type parameter comes back to itself
-- inside another type, there is no end of them.
use Rattle.std.specs.Prelude.{◌≡◌, ◌⊎◌, ℕ, ◌+◌, ◌<◌, Bool, true, false, ◌||◌, List, Some, slice_get}
use Rattle.std.specs.Map.{lookup}
use Rattle.base.specs.TypeData.{TypeData, TypesData, BoolType, IntType, NumType, AddressType, SignerType, VectorType, StructType, ParamType, SharedType, MutableType, TupleType, NoTypes, MoreTypes}
use Rattle.base.specs.declared.types.FunctionId.{FunctionId}
use Rattle.program.specs.declared.arena.Node.TheVariants.{Many}
use Rattle.program.specs.declared.code.CodeMany.TheVariants.{Call as call_form}
use Rattle.program.specs.declared.code.Call.{Call}
use Rattle.program.specs.declared.code.Callee.{Callee}
use Rattle.program.specs.declared.code.Callee.TheVariants.{Function as plain_function}
use Rattle.program.specs.declared.declaration.Function.{Function}
use Rattle.program.specs.declared.program.Program.{Program}
use Rattle.program.specs.Same.{same_function}
use Rattle.program.specs.CodeNodes.{CodeNode}
use Rattle.typing_rules.specs.Settings.{first_argument, node_arity}
use Rattle.typing_rules.specs.Answers.{HasType, NodeIsRead}
use Rattle.typing_rules.specs.CodeSystems.{function_setting, function_system}

-- ---- calls

-- the function has a call of this callee at the node with this number, which is read
pub record CallsAt (program : Program) (f : Function) (n : ℕ) (callee : Callee) : Type 0 where
  pub call : Call
  pub parts : List ℕ
  pub stands : slice_get f.body.nodes n ≡ Some (Many (call_form call) parts)
  pub callee_is : call.callee ≡ callee
  pub is_read : NodeIsRead (function_system program f) n

-- the node with the number n has a type argument with the number i, and this is its type, which is forced
pub record HasArgument (program : Program) (f : Function) (n i : ℕ) (of : TypeData) : Type 0 where
  pub form : CodeNode
  pub stands : slice_get f.body.nodes n ≡ Some form
  pub within : i < node_arity program form
  pub is_type : HasType (function_system program f) (first_argument (function_setting program f) n + i) of

-- ---- polymorphic recursion

-- the type parameter with this number occurs in the type
abbrev mutual
  pub Mentions : ℕ → TypeData → Type 0
  Mentions k BoolType = ⊥
  Mentions k (IntType w) = ⊥
  Mentions k NumType = ⊥
  Mentions k AddressType = ⊥
  Mentions k SignerType = ⊥
  Mentions k (VectorType t) = Mentions k t
  Mentions k (StructType s ts) = MentionedIn k ts
  Mentions k (ParamType n) = k ≡ n
  Mentions k (SharedType t) = Mentions k t
  Mentions k (MutableType t) = Mentions k t
  Mentions k (TupleType ts) = MentionedIn k ts

  pub MentionedIn : ℕ → TypesData → Type 0
  MentionedIn k NoTypes = ⊥
  MentionedIn k (MoreTypes t ts) = Mentions k t ⊎ MentionedIn k ts

-- a type parameter of a function
pub record Parameter : Type 0 where
  pub owner : FunctionId
  pub number : ℕ

-- a type argument is not just a type parameter
abbrev pub is_wrapped : TypeData → Bool
is_wrapped (ParamType n) = false
is_wrapped _ = true

-- a call in one function passes a type parameter to one of another function, in this type argument
pub record CarriesIn (program : Program) (from to : Parameter) (wraps : Bool) : Type 0 where
  pub function : Function
  pub declared : lookup (same_function from.owner) program.functions ≡ Some function
  pub node : ℕ
  pub calls : CallsAt program function node (plain_function to.owner)
  pub argument : TypeData
  pub given : HasArgument program function node to.number argument
  pub mentions : Mentions from.number argument
  pub wraps_is : wraps ≡ is_wrapped argument

-- the same over one call or more, of which at least one wraps the parameter if `wraps` is true
pub data Carries (program : Program) : Parameter → Parameter → Bool → Type 0 where
  Once : (from to : Parameter) (wraps : Bool) → CarriesIn program from to wraps → Carries program from to wraps
  Then : (from over to : Parameter) (one more : Bool) → CarriesIn program from over one → Carries program over to more → Carries program from to (one || more)

-- polymorphic recursion: a type parameter of the function comes back to itself inside another type
abbrev pub IsWrapping : Program → FunctionId → Type 0
IsWrapping program f = (k : ℕ) × Carries program (record { owner = f; number = k }) (record { owner = f; number = k }) true
