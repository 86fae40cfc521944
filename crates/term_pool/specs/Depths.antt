-- The depths of the items of a pool.
use Rattle.std.specs.Prelude.{◌≡◌, ℕ, ◌<◌, List, length, slice_index_or, min}
use Rattle.fol.specs.Depth.{type_depth, types_depth, term_depth, terms_depth, triggers_depth, formula_depth, formulas_depth}
use Rattle.term_pool.specs.Items.{Item, NoItem, TermItem, TermsItem, TriggersItem, FormulaItem, FormulasItem, TypeItem, TypesItem, BytesItem}
use Rattle.term_pool.specs.Pools.{item_at, IsPool}
use Rattle.term_pool.specs.declared.node.Leaf.{Leaf}
use Rattle.term_pool.specs.declared.node.Leaf.TheVariants.{NilTerms, NilTriggers, NilFormulas, NilTypes, NilBytes}
use Rattle.term_pool.specs.declared.node.One.{One}
use Rattle.term_pool.specs.declared.node.One.TheVariants.{ConsByte}
use Rattle.term_pool.specs.declared.node.Two.{Two}
use Rattle.term_pool.specs.declared.node.Two.TheVariants.{ConsTerm, ConsTrigger, ConsFormula, ConsType}
use Rattle.term_pool.specs.declared.node.Node.{Node}

abbrev pub item_depth : Item → ℕ
item_depth NoItem = 0
item_depth (TermItem t) = term_depth t
item_depth (TermsItem ts) = terms_depth ts
item_depth (TriggersItem ts) = triggers_depth ts
item_depth (FormulaItem p) = formula_depth p
item_depth (FormulasItem ps) = formulas_depth ps
item_depth (TypeItem a) = type_depth a
item_depth (TypesItem ts) = types_depth ts
item_depth (BytesItem bs) = 0

-- the greatest depth of a formula of a search
abbrev pub most_depth : ℕ
most_depth = 2000

-- a depth as it is counted: all depths above the greatest count as one more than the greatest
abbrev pub counted : ℕ → ℕ
counted d = min d 2001

-- the depths of the nodes
pub record AreDepths (ns : List Node) (ds : List ℕ) : Type 0 where
  pub one_each : length ds ≡ length ns
  pub each : (i : ℕ) → i < length ns → slice_index_or ds i 0 ≡ counted (item_depth (item_at ns i))

-- the invariant of each pool and its list of depths
pub record IsKept (ns : List Node) (ds : List ℕ) : Type 0 where
  pub pool : IsPool ns
  pub depths : AreDepths ns ds

-- ---- the increase of the depth by a head symbol

abbrev pub leaf_steps : Leaf → ℕ
leaf_steps NilTerms = 0
leaf_steps NilTriggers = 0
leaf_steps NilFormulas = 0
leaf_steps NilTypes = 0
leaf_steps NilBytes = 0
leaf_steps _ = 1

abbrev pub one_steps : One → ℕ
one_steps (ConsByte b) = 0
one_steps _ = 1

abbrev pub two_steps : Two → ℕ
two_steps ConsTerm = 0
two_steps ConsTrigger = 0
two_steps ConsFormula = 0
two_steps ConsType = 0
two_steps _ = 1
