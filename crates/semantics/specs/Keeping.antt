-- When a function keeps its contract. Source: the Move Specification Language reference, "Spec Blocks and Conditions", "Modifies
-- Condition" and "Pragmas and Properties"; D. Dill et al., Fast and Reliable Formal Verification of Smart Contracts with the Move
-- Prover, TACAS 2022. Struct, global and update invariants are no part of it yet: what is said of them below has a place, marked
-- 'invariants'.
use Rattle.std.specs.Prelude.{◌≡◌, ◌⊎◌, ℕ, Bool, true, false, not, ◌&&◌, ◌||◌, List, [], ◌∷◌, length, map, Option, Some, None, IsTrue, slice_get, if◌then◌else◌}
use Rattle.std.specs.List.{list_any}
use Rattle.base.specs.TypeData.{TypeData, SharedType, MutableType, types_of}
use Rattle.base.specs.Pairs.{Paired}
use Rattle.base.specs.declared.types.FunctionId.{FunctionId}
use Rattle.base.specs.declared.types.StructId.{StructId}
use Rattle.program.specs.declared.clause.ConditionKind.TheVariants.{Requires, Ensures, AbortsIf}
use Rattle.program.specs.declared.declaration.AbilitySet.{AbilitySet}
use Rattle.program.specs.declared.declaration.Function.{Function}
use Rattle.program.specs.declared.declaration.Pragmas.{Pragmas}
use Rattle.program.specs.declared.declaration.Struct.{Struct}
use Rattle.program.specs.declared.spec.SpecName.{SpecName}
use Rattle.program.specs.declared.spec.SpecName.TheVariants.{Parameter, Result}
use Rattle.program.specs.Types.{Structs, of_type}
use Rattle.code_tree.specs.Outcomes.{Outcome, Done, Left, Aborted, Unfinished, Stuck}
use Rattle.fol.specs.Val.{Val, NothingValue, same_value}
use Rattle.fol.specs.Operators.{select_value}
use Rattle.fol.specs.TypedValue.{put_types, has_type}
use Rattle.fol.specs.Truth.{Interpretation}
use Rattle.fol.specs.Validity.{Reads}
use Rattle.fol.specs.declared.shapes.Shape.{Shape}
use Rattle.semantics.specs.States.{Cell, Stored, Step, Path, Item, Plain, Ref, State, root_value, same_type, value_at}
use Rattle.semantics.specs.TypedTrees.{TypedFunctions}
use Rattle.semantics.specs.Runs.{run}
use Rattle.semantics.specs.SpecTruth.{Moment}
use Rattle.semantics.specs.Clauses.{TypedClause, SpecDeclarations, Ends, Statement, Says, MayChange, statements, has_kind, all_hold, some_holds}

-- ---- contracts

-- What stands fixed for all functions of a program: their code, what is declared for specifications, and structs.
pub record Setting : Type 0 where
  pub functions : TypedFunctions
  pub declarations : SpecDeclarations
  pub structs : Structs

-- the shapes of structs, by which types have values
abbrev pub shape_of : StructId × Struct → Shape
shape_of d = record { name = d.0; parameters = length d.1.type_parameters; fields = types_of (map (λ f. f.annotation) d.1.fields) }

abbrev pub shapes_of : Structs → List Shape
shapes_of structs = map shape_of structs

-- a function: the abilities that its type arguments must have, the types of its parameters, its pragmas, and the clauses of its spec
pub record Contract : Type 0 where
  pub name : FunctionId
  pub type_parameters : List AbilitySet
  pub parameters : List TypeData
  pub pragmas : Pragmas
  pub clauses : List TypedClause

abbrev pub contract_of : FunctionId → Function → List TypedClause → Contract
contract_of name f clauses = record {
  name = name;
  type_parameters = map (λ p. p.abilities) f.type_parameters;
  parameters = map (λ p. p.annotation) f.parameters;
  pragmas = f.pragmas;
  clauses = clauses;
}

-- ---- the two ends of a run, as clauses see them

abbrev pub or_nothing : Option Val → Val
or_nothing None = NothingValue
or_nothing (Some v) = v

-- a reference stands for the value that it points at
abbrev pub seen_value : State → Option Item → Val
seen_value s None = NothingValue
seen_value s (Some (Plain v)) = v
seen_value s (Some (Ref p)) = or_nothing (value_at s p)

abbrev pub function_name : State → List Item → List Item → SpecName → Val
function_name s arguments results (Parameter k) = seen_value s (slice_get arguments k)
function_name s arguments results (Result k) = seen_value s (slice_get results k)
function_name s arguments results _ = NothingValue

abbrev pub moment : State → List Item → List Item → Moment
moment s arguments results = record { name = function_name s arguments results; storage = s.storage }

-- of the entry alone
abbrev pub entry_ends : State → List Item → Ends
entry_ends s arguments = record { entry = moment s arguments []; exit = moment s arguments [] }

abbrev pub ends_of : State → List Item → State → List Item → Ends
ends_of s arguments t results = record { entry = moment s arguments []; exit = moment t arguments results }

-- ---- calm starts

-- at some step the paths part, so that no part of what one leads to is part of what the other leads to
abbrev pub DoPart : List Step → List Step → Type 0
DoPart [] qs = ⊥
DoPart (p ∷ ps) [] = ⊥
DoPart (p ∷ ps) (q ∷ qs) = (p ≡ q → ⊥) ⊎ DoPart ps qs

abbrev pub AreDisjoint : Path → Path → Type 0
AreDisjoint p q = (p.root ≡ q.root → ⊥) ⊎ DoPart p.steps q.steps

-- a reference into a cell of the caller, to a value of this type
pub record PointsTo (shapes : List Shape) (s : State) (of : TypeData) (p : Path) : Type 0 where
  pub cell : ℕ
  pub in_cell : p.root ≡ Cell cell
  pub value : Val
  pub there : value_at s p ≡ Some value
  pub typed : IsTrue (has_type shapes of value)

-- an argument of a type
abbrev pub IsArgument : List Shape → State → TypeData → Item → Type 0
IsArgument shapes s (SharedType of) (Ref p) = PointsTo shapes s of p
IsArgument shapes s (MutableType of) (Ref p) = PointsTo shapes s of p
IsArgument shapes s of (Plain v) = IsTrue (has_type shapes of v)
IsArgument shapes s _ (Ref p) = ⊥

abbrev pub is_mutable : Option TypeData → Bool
is_mutable (Some (MutableType t)) = true
is_mutable _ = false

-- what a mutable argument points at is disjoint from what another argument points at
abbrev pub AreApart : List TypeData → List Item → Type 0
AreApart parameters arguments =
    (i j : ℕ) (p q : Path) → (i ≡ j → ⊥) → IsTrue (is_mutable (slice_get parameters i)) → slice_get arguments i ≡ Some (Ref p) → slice_get arguments j ≡ Some (Ref q) → AreDisjoint p q

abbrev pub has_abilities : AbilitySet → AbilitySet → Bool
has_abilities required a =
    ((not required.has_copy || a.has_copy) && (not required.has_drop || a.has_drop)) && ((not required.has_store || a.has_store) && (not required.has_key || a.has_key))

-- A start from which the contract speaks: type arguments have the required abilities; arguments and stored values have their types; mutable
-- arguments overlap nothing else; each `requires` holds. Invariants: here the values of the arguments and of the reach are sound, and
-- each relevant global invariant holds.
pub record IsCalm (g : Setting) (m : Interpretation) (c : Contract) (arguments : List Item) (s : State) : Type 0 where
  pub abilities : (n : ℕ) (required : AbilitySet) → slice_get c.type_parameters n ≡ Some required → IsTrue (has_abilities required (of_type g.structs [] (m.named n)))
  pub typed : Paired (λ t x. IsArgument m.shapes s (put_types m.named t) x) c.parameters arguments
  pub apart : AreApart c.parameters arguments
  pub stored : (t : TypeData) (a : ℕ) (v : Val) → root_value s (Stored t a) ≡ Some v → IsTrue (has_type m.shapes t v)
  pub required : IsTrue (all_hold Requires (statements g.declarations m c.clauses (entry_ends s arguments)))

-- ---- what the clauses allow

abbrev pub names_resource : TypeData → Statement → Bool
names_resource t (MayChange u a) = same_type t u
names_resource t (Says k b) = false

abbrev pub names_location : TypeData → Val → Statement → Bool
names_location t a (MayChange u b) = same_type t u && same_value a b
names_location t a (Says k b) = false

-- of a resource type that some `modifies` names, only values at addresses that are named with it change
abbrev pub ChangesOnly : List Statement → State → State → Type 0
ChangesOnly ss s t =
    (resource : TypeData) (a : Val) → IsTrue (list_any (names_resource resource) ss) → list_any (names_location resource a) ss ≡ false
    → select_value (s.storage resource) a ≡ select_value (t.storage resource) a

-- With an `aborts_if` a function aborts exactly where one of them holds, or, where they are partial, also elsewhere. Without one aborts are
-- free, unless the function is strict.
abbrev pub may_abort : Pragmas → List Statement → Bool
may_abort pragmas ss =
    if has_kind AbortsIf ss then pragmas.aborts_if_is_partial || some_holds AbortsIf ss else not pragmas.aborts_if_is_strict

abbrev pub may_return : List Statement → Bool
may_return ss = not (some_holds AbortsIf ss)

-- What a run of so many turns came to is as the contract says. Invariants: here a run that returns leaves its results, its mutable arguments
-- and the stored values of its reach sound and meets each relevant global and update invariant, and values are sound at each moment
-- at which struct invariants are checked, whether the run is over or not.
abbrev pub Meets : Setting → Interpretation → Contract → List Item → State → Outcome Item State → Type 0
Meets g m c arguments s (Done results t) =
    IsTrue (may_return (statements g.declarations m c.clauses (entry_ends s arguments)))
    × IsTrue (all_hold Ensures (statements g.declarations m c.clauses (ends_of s arguments t results)))
    × ChangesOnly (statements g.declarations m c.clauses (entry_ends s arguments)) s t
Meets g m c arguments s (Left j vs t) = ⊥
Meets g m c arguments s (Aborted code) = IsTrue (may_abort c.pragmas (statements g.declarations m c.clauses (entry_ends s arguments)))
Meets g m c arguments s Unfinished = Unit {0}
Meets g m c arguments s Stuck = ⊥

-- each run with n turns from a calm start, for each choice of the type arguments, is as the contract says
pub record KeepsContract (g : Setting) (c : Contract) (n : ℕ) : Type 0 where
  pub each_run : (m : Interpretation) → Reads (shapes_of g.structs) m → (arguments : List Item) (s : State) → IsCalm g m c arguments s
      → Meets g m c arguments s (run g.functions n c.name m.named arguments s)
