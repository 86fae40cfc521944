-- The state of a run of Move: the locals of the calls that are not over, and global storage. A reference is a path to a value.
-- Source: The Move Book, "Local Variables and Scope", "References" and "Global Storage Structure".
use Rattle.std.specs.Prelude.{ℕ, pos, Bool, List, [], ◌∷◌, ◌++◌, Option, Some, None, slice_get, slice_set, option_and_then, if◌then◌else◌}
use Rattle.std.specs.Option.{option_map}
use Rattle.base.specs.TypeData.{TypeData, StructType, NoTypes, type_code}
use Rattle.base.specs.declared.types.StructId.{StructId}
use Rattle.code_tree.specs.Outcomes.{RunOf, Done, gives, stuck, with_some}
use Rattle.fol.specs.Val.{Val, NumberValue, TruthValue, NothingValue, VectorValue, StructValue, MemoryValue, values_of, list_of_values}
use Rattle.fol.specs.Operators.{select_value, store_value, field_value}
use Rattle.fol.specs.TreeOrder.{same_tree}

-- ---- values of structs, which have the name of the struct and one value for each field

abbrev pub struct_value : StructId → List Val → Val
struct_value name fields = StructValue (StructType name NoTypes) (values_of fields)

-- the field with this number of such a struct, and `Nothing` of any other value
abbrev pub field_of_struct : StructId → ℕ → Val → Val
field_of_struct name k v = field_value (StructType name NoTypes) k v

-- ---- references

-- where a reference begins: a cell, which is a local of some call or of the caller's; or the value of a type that is stored at an
-- address
pub data Root : Type 0 where
  Cell : ℕ → Root
  Stored : TypeData → ℕ → Root

-- a field of a struct, by its number, or an element of a vector, by its index
pub data Step : Type 0 where
  Field : ℕ → Step
  Element : ℕ → Step

-- a shared and a mutable reference are the same path, so that freezing one changes nothing
pub record Path : Type 0 where
  pub root : Root
  pub steps : List Step

-- What a local holds: a value, or a reference. An expression gives a list of items: `()` gives none, a tuple several.
pub data Item : Type 0 where
  Plain : Val → Item
  Ref : Path → Item

-- ---- states

-- The cells of all calls that are not over, those of the caller first, each with what it holds; and of each type a memory, in which
-- addresses have the values of the type that are stored there.
pub record State : Type 0 where
  pub cells : List (Option Item)
  pub storage : TypeData → Val

abbrev pub Run : Type 0
Run = RunOf Item State

abbrev pub gives_value : Val → Run
gives_value v = gives (Plain v ∷ [])

-- ---- parts of values

abbrev pub part : Step → Val → Option Val
part (Field k) (StructValue name vs) = slice_get (list_of_values vs) k
part (Element i) (VectorValue vs) = slice_get (list_of_values vs) i
part _ _ = None

-- the value with another part there
abbrev pub with_part : Step → Val → Val → Val
with_part (Field k) new (StructValue name vs) = StructValue name (values_of (slice_set (list_of_values vs) k new))
with_part (Element i) new (VectorValue vs) = VectorValue (values_of (slice_set (list_of_values vs) i new))
with_part _ new v = v

-- the value that these steps lead to inside a value; none where they lead out of it
abbrev pub part_at : List Step → Val → Option Val
part_at [] v = Some v
part_at (p ∷ ps) v = option_and_then (part_at ps) (part p v)

abbrev pub with_part_at : List Step → Val → Val → Option Val
with_part_at [] new v = Some new
with_part_at (p ∷ ps) new v =
    option_and_then (λ inner. option_map (λ changed. with_part p changed v) (with_part_at ps new inner)) (part p v)

-- ---- cells and storage

abbrev pub plain : Item → Option Val
plain (Plain v) = Some v
plain (Ref p) = None

abbrev pub held : Option (Option Item) → Option Item
held None = None
held (Some x) = x

abbrev pub cell_item : State → ℕ → Option Item
cell_item s n = held (slice_get s.cells n)

abbrev pub with_cell : ℕ → Option Item → State → State
with_cell n x s = record s { cells = slice_set s.cells n x }

-- what a memory holds, `Nothing` where it holds no value
abbrev pub present : Val → Option Val
present NothingValue = None
present (NumberValue z) = Some (NumberValue z)
present (TruthValue b) = Some (TruthValue b)
present (VectorValue vs) = Some (VectorValue vs)
present (StructValue name vs) = Some (StructValue name vs)
present (MemoryValue es) = Some (MemoryValue es)

abbrev pub stored : State → TypeData → ℕ → Option Val
stored s t a = present (select_value (s.storage t) (NumberValue (pos a)))

-- decides whether two types are equal
unfoldable pub same_type : TypeData → TypeData → Bool
same_type t u = same_tree (type_code t) (type_code u)

abbrev pub with_memory : TypeData → Val → (TypeData → Val) → TypeData → Val
with_memory t memory storage u = if same_type t u then memory else storage u

abbrev pub with_stored : TypeData → ℕ → Val → State → State
with_stored t a v s = record s { storage = with_memory t (store_value (s.storage t) (NumberValue (pos a)) v) s.storage }

abbrev pub root_value : State → Root → Option Val
root_value s (Cell n) = option_and_then plain (cell_item s n)
root_value s (Stored t a) = stored s t a

abbrev pub with_root : Root → Val → State → State
with_root (Cell n) v s = with_cell n (Some (Plain v)) s
with_root (Stored t a) v s = with_stored t a v s

-- ---- reads and writes

-- the value that a reference points at
abbrev pub value_at : State → Path → Option Val
value_at s p = option_and_then (part_at p.steps) (root_value s p.root)

abbrev pub read : Path → (Val → Run) → Run
read p next s = with_some (value_at s p) next s

-- the value that a reference points at becomes this one
abbrev pub write_value : Path → Val → Run
write_value p v s =
    with_some (option_and_then (with_part_at p.steps v) (root_value s p.root)) (λ whole t. Done [] (with_root p.root whole t)) s

abbrev pub write_plain : Path → Item → Run
write_plain p (Plain v) = write_value p v
write_plain p (Ref q) = stuck

-- a cell as a whole takes any item, also where it held none
abbrev pub write_at : Root → List Step → Item → Run
write_at (Cell n) [] x = λ s. Done [] (with_cell n (Some x) s)
write_at root steps x = write_plain (record { root = root; steps = steps }) x

abbrev pub write : Path → Item → Run
write p x = write_at p.root p.steps x

-- the path of a part of what this path leads to
abbrev pub further : Step → Path → Path
further p path = record path { steps = path.steps ++ p ∷ [] }
