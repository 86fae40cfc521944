-- The values of terms: integers (also as addresses and signers), truth values, `Nothing`, vectors, structs with their
-- type, and memories. They are the values of The Move Book's types, with the unbounded numbers of the Move
-- Specification Language and, for storage, finite maps as in the theory of arrays.
use base.Stored.{Gv, gnil, gnum, gcons, num}
use denote.Struct.Codes.{itself}
use Rattle.std.specs.Prelude.{◌≡◌, ℤ, Bool, true, false, List, [], ◌∷◌, Decides, refl}
use Rattle.std.specs.declared.cmp.Ordering.{Ordering}
use Rattle.std.specs.declared.cmp.Ordering.TheVariants.{Equal}
use Rattle.std.specs.Coded.{Coded, code_by}
use Rattle.std.specs.Cmp.{IsTotalOrder, on_total}
use Rattle.std.proofs.Common.{ap, ◌∙◌, sym}
use Rattle.base.specs.Codes.{pick}
use Rattle.base.specs.TypeData.{TypeData, type_code, type_back, type_back-code}
use Rattle.fol.specs.OperatorCodes.{tree, whole_code, whole_back, whole_back-code}
use Rattle.fol.specs.TreeOrder.{compare_trees, equal_trees, same_tree, same_tree-equal, same_tree_itself, tree_total}

mutual
  pub data Val : Type 0 where
    NumberValue : ℤ → Val
    TruthValue : Bool → Val
    NothingValue : Val
    VectorValue : Vals → Val
    StructValue : TypeData → Vals → Val
    MemoryValue : Entries → Val

  pub data Vals : Type 0 where
    NoValues : Vals
    MoreValues : Val → Vals → Vals

  -- the entries of a memory: keys with their values, in the order of the keys
  pub data Entries : Type 0 where
    NoEntries : Entries
    MoreEntries : Val → Val → Entries → Entries

-- ---- lists of values, and back

abbrev pub values_of : List Val → Vals
values_of [] = NoValues
values_of (v ∷ vs) = MoreValues v (values_of vs)

abbrev pub list_of_values : Vals → List Val
list_of_values NoValues = []
list_of_values (MoreValues v vs) = v ∷ list_of_values vs

pub list_of_values-values_of : (vs : List Val) → list_of_values (values_of vs) ≡ vs
list_of_values-values_of [] = refl
list_of_values-values_of (v ∷ vs) = ap (λ ws. v ∷ ws) (list_of_values-values_of vs)

pub values_of-list_of_values : (vs : Vals) → values_of (list_of_values vs) ≡ vs
values_of-list_of_values NoValues = refl
values_of-list_of_values (MoreValues v vs) = ap (MoreValues v) (values_of-list_of_values vs)

-- ---- the code of a value, a tree of numbers

abbrev truth_code : Bool → Gv
truth_code false = gnum 0
truth_code true = gnum 1

abbrev truth_back : Gv → Bool
truth_back g = pick (num g) false (false ∷ true ∷ [])

truth_back-code : (b : Bool) → truth_back (truth_code b) ≡ b
truth_back-code false = refl
truth_back-code true = refl

abbrev mutual
  pub value_code : Val → Gv
  value_code (NumberValue z) = tree 0 (whole_code z) gnil gnil
  value_code (TruthValue b) = tree 1 (truth_code b) gnil gnil
  value_code NothingValue = tree 2 gnil gnil gnil
  value_code (VectorValue vs) = tree 3 (values_code vs) gnil gnil
  value_code (StructValue t vs) = tree 4 (type_code t) (values_code vs) gnil
  value_code (MemoryValue es) = tree 5 (entries_code es) gnil gnil

  pub values_code : Vals → Gv
  values_code NoValues = gnil
  values_code (MoreValues v vs) = gcons (value_code v) (values_code vs)

  pub entries_code : Entries → Gv
  entries_code NoEntries = gnil
  entries_code (MoreEntries k v es) = gcons (value_code k) (gcons (value_code v) (entries_code es))

abbrev mutual
  pub value_back : Gv → Val
  value_back (gcons (gnum n) (gcons a (gcons b c))) =
      pick n NothingValue (NumberValue (whole_back a) ∷ TruthValue (truth_back a) ∷ NothingValue ∷ VectorValue (values_back a) ∷ StructValue (type_back a) (values_back b) ∷ MemoryValue (entries_back a) ∷ [])
  value_back _ = NothingValue

  pub values_back : Gv → Vals
  values_back gnil = NoValues
  values_back (gnum n) = NoValues
  values_back (gcons a b) = MoreValues (value_back a) (values_back b)

  pub entries_back : Gv → Entries
  entries_back (gcons a (gcons b c)) = MoreEntries (value_back a) (value_back b) (entries_back c)
  entries_back _ = NoEntries

mutual
  pub value_back-code : (v : Val) → value_back (value_code v) ≡ v
  value_back-code (NumberValue z) = ap NumberValue (whole_back-code z)
  value_back-code (TruthValue b) = ap TruthValue (truth_back-code b)
  value_back-code NothingValue = refl
  value_back-code (VectorValue vs) = ap VectorValue (values_back-code vs)
  value_back-code (StructValue t vs) = λ i. StructValue (type_back-code t i) (values_back-code vs i)
  value_back-code (MemoryValue es) = ap MemoryValue (entries_back-code es)

  pub values_back-code : (vs : Vals) → values_back (values_code vs) ≡ vs
  values_back-code NoValues = refl
  values_back-code (MoreValues v vs) = λ i. MoreValues (value_back-code v i) (values_back-code vs i)

  pub entries_back-code : (es : Entries) → entries_back (entries_code es) ≡ es
  entries_back-code NoEntries = refl
  entries_back-code (MoreEntries k v es) = λ i. MoreEntries (value_back-code k i) (value_back-code v i) (entries_back-code es i)

abbrev pub coded_value : Coded Val
coded_value = code_by Gv itself value_code value_back value_back-code

-- ---- equality and order

-- the total order on values, in which the entries of a memory are sorted
unfoldable pub compare_values : Val → Val → Ordering
compare_values v w = compare_trees (value_code v) (value_code w)

-- decides whether two values are equal
unfoldable pub same_value : Val → Val → Bool
same_value v w = same_tree (value_code v) (value_code w)

-- decides whether two types are equal
unfoldable pub same_type : TypeData → TypeData → Bool
same_type t u = same_tree (type_code t) (type_code u)

pub compare_values_total : IsTotalOrder compare_values
unfolding compare_values
compare_values_total = on_total value_code tree_total

-- values that compare as `Equal` are equal
pub compare_values-equal : (v w : Val) → compare_values v w ≡ Equal → v ≡ w
unfolding compare_values
compare_values-equal v w e =
    sym (value_back-code v) ∙ ap value_back (equal_trees (value_code v) (value_code w) e) ∙ value_back-code w

pub same_value-equal : (v w : Val) → same_value v w ≡ true → v ≡ w
unfolding same_value
same_value-equal v w e =
    sym (value_back-code v) ∙ ap value_back (same_tree-equal (value_code v) (value_code w) e) ∙ value_back-code w

pub same_value_itself : (v : Val) → same_value v v ≡ true
unfolding same_value
same_value_itself v = same_tree_itself (value_code v)

pub same_type-equal : (t u : TypeData) → same_type t u ≡ true → t ≡ u
unfolding same_type
same_type-equal t u e =
    sym (type_back-code t) ∙ ap type_back (same_tree-equal (type_code t) (type_code u) e) ∙ type_back-code u

pub same_type_itself : (t : TypeData) → same_type t t ≡ true
unfolding same_type
same_type_itself t = same_tree_itself (type_code t)

-- the tests are exact
pub same_value_Decides : (v w : Val) → Decides (same_value v w) (v ≡ w)
same_value_Decides v w = (same_value-equal v w, λ e. ap (same_value v) (sym e) ∙ same_value_itself v)

pub same_type_Decides : (t u : TypeData) → Decides (same_type t u) (t ≡ u)
same_type_Decides t u = (same_type-equal t u, λ e. ap (same_type t) (sym e) ∙ same_type_itself t)
