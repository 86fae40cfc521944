-- The lengths of the items of a pool in bytes, by their head symbols: the bytes of a head symbol plus the lengths of
-- its parts.
use Rattle.std.specs.Prelude.{◌≡◌, ℕ, ◌<◌, List, length, slice_index_or}
use Rattle.certificates.specs.Lengths.{capped, type_length, types_length, constant_length, binary_length, term_length, terms_length, triggers_length, formula_length, formulas_length}
use Rattle.term_pool.specs.Items.{Item, NoItem, TermItem, TermsItem, TriggersItem, FormulaItem, FormulasItem, TypeItem, TypesItem, BytesItem}
use Rattle.term_pool.specs.Pools.{item_at}
use Rattle.term_pool.specs.declared.node.Leaf.{Leaf}
use Rattle.term_pool.specs.declared.node.Leaf.TheVariants.{Var, Constant, TypeParam, NilTerms, NilTriggers, NilFormulas, NilTypes, NilBytes}
use Rattle.term_pool.specs.declared.node.One.{One}
use Rattle.term_pool.specs.declared.node.One.TheVariants.{Join, TypeTuple}
use Rattle.term_pool.specs.declared.node.Two.{Two}
use Rattle.term_pool.specs.declared.node.Two.TheVariants.{Binary, Pack, Field, Quantify, ConsTerm, ConsTrigger, ConsFormula, ConsType}
use Rattle.term_pool.specs.declared.node.Three.{Three}
use Rattle.term_pool.specs.declared.node.Three.TheVariants.{SetField, TypeStruct}
use Rattle.term_pool.specs.declared.node.Node.{Node}

-- the length of a list excludes its count, which belongs to the head symbol above it
abbrev pub item_length : Item → ℕ
item_length NoItem = 0
item_length (TermItem t) = term_length t
item_length (TermsItem ts) = terms_length ts
item_length (TriggersItem ts) = triggers_length ts
item_length (FormulaItem p) = formula_length p
item_length (FormulasItem ps) = formulas_length ps
item_length (TypeItem a) = type_length a
item_length (TypesItem ts) = types_length ts
item_length (BytesItem bs) = length bs

abbrev pub length_at : List ℕ → ℕ → ℕ
length_at ls i = slice_index_or ls i 0

-- the lengths of the first items of a pool
pub record AreFirstLengths (ns : List Node) (ls : List ℕ) : Type 0 where
  pub each : (i : ℕ) → i < length ls → length_at ls i ≡ capped (item_length (item_at ns i))

-- the lengths of all items of a pool
pub record AreLengths (ns : List Node) (ls : List ℕ) : Type 0 where
  pub one_each : length ls ≡ length ns
  pub are : AreFirstLengths ns ls

-- ---- the bytes of a head symbol

abbrev pub leaf_bytes : Leaf → ℕ
leaf_bytes (Var n) = 5
leaf_bytes (Constant c) = constant_length c
leaf_bytes (TypeParam n) = 5
leaf_bytes NilTerms = 0
leaf_bytes NilTriggers = 0
leaf_bytes NilFormulas = 0
leaf_bytes NilTypes = 0
leaf_bytes NilBytes = 0
leaf_bytes _ = 1

abbrev pub one_bytes : One → ℕ
one_bytes (Join o) = 5
one_bytes TypeTuple = 5
one_bytes _ = 1

abbrev pub two_bytes : Two → ℕ
two_bytes (Binary o) = binary_length o
two_bytes Pack = 5
two_bytes (Field k) = 5
two_bytes (Quantify o n) = 9
two_bytes ConsTerm = 0
two_bytes ConsTrigger = 4
two_bytes ConsFormula = 0
two_bytes ConsType = 0
two_bytes _ = 1

abbrev pub three_bytes : Three → ℕ
three_bytes (SetField k) = 5
three_bytes (TypeStruct a) = 29
three_bytes _ = 1
